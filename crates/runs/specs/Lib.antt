-- What a step, a block and a reset do with any record that answers samples, the same of records lent as slices, the forgetting rule, the
-- refusal numbers, default forms, and the code's answer read as these definitions have it.
pub mod Refusals
pub mod Runs
pub mod Lent
pub mod Forgetting
pub mod Default
pub mod View
