-- `claims_numbers::arithmetic_meets_ieee_754` meets its contract.
use Rattle.ieee.proofs.Arithmetic.{add-correct, sub-correct, mul-correct, div-correct}
use Rattle.ieee.proofs.Model.{sqrt_of-correct}
use Rattle.claims_numbers.proofs.arithmetic_meets_ieee_754.Goals as goal

pub returns : goal.returns
returns c = record { sums = add-correct; differences = sub-correct; products = mul-correct; quotients = div-correct; roots = sqrt_of-correct }
