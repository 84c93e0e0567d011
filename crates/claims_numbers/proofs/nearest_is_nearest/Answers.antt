-- `claims_numbers::nearest_is_nearest` meets its contract.
use Rattle.elementary.proofs.Rest.{nearest-whole}
use Rattle.claims_numbers.proofs.nearest_is_nearest.Goals as goal

pub returns : goal.returns
returns c = record { at = nearest-whole }
