-- What is claimed of designs, filters and the rival's blocks. Refused: refusals by the checks. Default: default forms beside raw ones. Fresh: what is
-- accepted is fresh. Forgetting: the forgetting rule over the definitions. Lists: the same of lists of calls. Sheet: the release sheet. Dropout: what a NaN
-- does to a pulse that a channel class filters. Recordings: reading the rival's blocks. Rounding: how far a FIR's answer is from the exact sum of products.
pub mod Refused
pub mod Default
pub mod Fresh
pub mod Forgetting
pub mod Lists
pub mod Sheet
pub mod Dropout
pub mod Recordings
pub mod Rounding
