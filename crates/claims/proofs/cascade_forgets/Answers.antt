-- `claims::cascade_forgets` meets its contract.
use lib.Ieee.{binary64}
use Rattle.cascade.specs.View.{cascade_view}
use Rattle.cascade_theory.proofs.Forgetting.{forgets}
use Rattle.claims.proofs.cascade_forgets.Goals as goal

pub returns : goal.returns
returns c = record { of = forgets binary64 (cascade_view c.args.start) }
