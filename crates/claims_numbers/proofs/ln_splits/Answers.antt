-- `claims_numbers::ln_splits` meets its contract.
use Rattle.logarithm.proofs.Digits.{splits}
use Rattle.claims_numbers.proofs.ln_splits.Goals as goal

pub returns : goal.returns
returns c = record { at = splits }
