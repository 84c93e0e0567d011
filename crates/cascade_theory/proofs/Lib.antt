-- Laws: the check, and what a step returns. Forgetting: the forgetting rule. Turns: a pass through the sections, as the code makes it. Coefficients:
-- whether they are finite. Skew and Skewed: a block whose sections run skewed.
pub mod Turns
pub mod Laws
pub mod Coefficients
pub mod Forgetting
pub mod Skew
pub mod Skewed
