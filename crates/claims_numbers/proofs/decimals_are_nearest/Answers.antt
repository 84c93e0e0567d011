-- `claims_numbers::decimals_are_nearest` meets its contract.
use Rattle.text_decimals.proofs.Decimals.{decimal-nearest}
use Rattle.claims_numbers.proofs.decimals_are_nearest.Goals as goal

pub returns : goal.returns
returns c = record { at = decimal-nearest }
