-- The proofs that belong to no one function. Laws: of a step, a reset and a block. Lent: of records lent as slices. Forgetting: the forgetting rule. Scan: of
-- numbers that are not finite. Default: of default forms.
pub mod Laws
pub mod Lent
pub mod Forgetting
pub mod Scan
pub mod Default
