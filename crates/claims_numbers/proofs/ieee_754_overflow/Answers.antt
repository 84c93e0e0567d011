-- `claims_numbers::ieee_754_overflow` meets its contract.
use Rattle.ieee.proofs.Overflow.{nearest-overflows}
use Rattle.claims_numbers.proofs.ieee_754_overflow.Goals as goal

pub returns : goal.returns
returns c = record { from = λ f s a b r B n. (nearest-overflows f s a b r B n).0; only = λ f s a b r B n. (nearest-overflows f s a b r B n).1 }
