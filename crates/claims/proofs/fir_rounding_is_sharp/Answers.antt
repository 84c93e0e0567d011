-- `claims::fir_rounding_is_sharp` meets its contract.
use Rattle.fir_rounding.proofs.Sharp.{sharp-64}
use Rattle.claims.proofs.fir_rounding_is_sharp.Goals as goal

pub returns : goal.returns
returns c = sharp-64
