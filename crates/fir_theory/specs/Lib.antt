-- 01 "Tap record" and its part of "Forgetting rule", over any float format and capacity. Fir: the record, and the filter. Lent: a record whose
-- taps and samples are slices. Plain: its plain filter. Convolution and Blocks, which are no part of what is promised: sums side by side, and
-- what the parts of a long block hand to one another.
pub mod Fir
pub mod Lent
pub mod Plain
pub mod Convolution
pub mod Blocks
