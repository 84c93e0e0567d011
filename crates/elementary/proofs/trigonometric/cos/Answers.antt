-- `elementary::trigonometric::cos` meets its contract.
use borrow.Author.Rules.{rules}
use lib.Ieee.{of_bits}
use Rattle.elementary.specs.Trigonometric.{cos_in, cos_of}
use Rattle.elementary.proofs.Bounds.{angle-or}
use Rattle.elementary.proofs.trigonometric.cos.Goals as goal

pub returns : goal.returns
unfolding cos_of of_bits
returns c = angle-or c.args.x c.of.result c.map_or.result cos_in c.of.ensures c.map_or.ensures (λ a h. search rules)
