-- The calls of the C interface. Kinds: how records stand in lent slices. Calls: what each call on a filter returns, and what every slice holds after it.
-- Lists: lists of calls on one filter. Reading: the call that reads a channel of the rival's blocks.
pub mod Kinds
pub mod Calls
pub mod Lists
pub mod Reading
