-- `cascade::Cascade::plain_block` meets its contract: a turn of its loop is a turn of `Running`.
use mathlib.Core.Path.{◌≡◌, refl, ap, ◌∙◌}
use mathlib.Core.Bool.{Bool, true, false}
use Prim.Native.Nat.{ℕ, ◌+◌}
use native.Mathlib.Nat.{add-zero}
use native.Mathlib.Omega.{arith}
use mir.Val.{bool_byte}
use lib.Ieee.{binary64}
use Rattle.runs.proofs.Laws.{tallied, run-turn, run-done}
use Rattle.cascade_theory.specs.Cascade.{cascade}
use Rattle.cascade_theory.proofs.Laws.{check-next, mark-next}
use Rattle.cascade.proofs.Cascade.plain_block.Goals as goal

-- a flag as a number, added to a count
more : (b : Bool) (n : ℕ) → n + bool_byte b ≡ tallied b n
more true n = refl
more false n = add-zero n

pub loop-i-preserved : goal.loop-i-preserved
loop-i-preserved c =
    let p = c.pass-p.ensures in
    run-turn (cascade binary64) (check-next binary64) _ _ _ (omega arith) p.0 (mark-next binary64 _ _ p.1) p.1
    (ap (λ k. c.loop-i.clouded + k) c.from-clouded.ensures ∙ more c.pass-p.result.next.clouded c.loop-i.clouded) c.loop-i.invariant

pub returns : goal.returns
returns c = let p = c.requires in
    run-done (cascade binary64) (check-next binary64) _ _ _ (omega arith) p.0 p.1 c.loop-i.invariant
