-- `claims_numbers::ieee_754_determines` meets its contract.
use Rattle.ieee.proofs.Determined.{sum-unique, difference-unique, product-unique, quotient-unique}
use Rattle.ieee.proofs.Unique.{sqrt-unique}
use Rattle.claims_numbers.proofs.ieee_754_determines.Goals as goal

pub returns : goal.returns
returns c = record { sum = sum-unique; difference = difference-unique; product = product-unique; quotient = quotient-unique; root = sqrt-unique }
