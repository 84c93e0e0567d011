-- `elementary::trigonometric::sin` meets its contract.
use borrow.Author.Rules.{rules}
use lib.Ieee.{of_bits}
use Rattle.elementary.specs.Trigonometric.{sin_in, sin_of}
use Rattle.elementary.proofs.Bounds.{angle-or}
use Rattle.elementary.proofs.trigonometric.sin.Goals as goal

pub returns : goal.returns
unfolding sin_of of_bits
returns c = angle-or c.args.x c.of.result c.map_or.result sin_in c.of.ensures c.map_or.ensures (λ a h. search rules)
