-- `claims_numbers::exact_values` meets its contract.
use mathlib.Core.Path.{refl}
use Rattle.exact.proofs.Values.{own_value, own_sign}
use Rattle.claims_numbers.proofs.exact_values.Goals as goal

pub returns : goal.returns
returns c = record { scaled_by = refl; magnitude = own_value; sign = own_sign }
