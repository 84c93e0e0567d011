-- `pipeline::run` meets its contract: a turn of its loop is a turn of `Behind`.
use Prim.Native.Nat.{ℕ, ◌+◌, ◌-◌, ◌<◌, ◌≤◌}
use mathlib.Core.Path.{◌≡◌}
use mathlib.Core.List.{List}
use native.Mathlib.Omega.{arith}
use lib.ListN.{length, get_or, take, drop}
use lib.Ieee.{Float, binary64, nan}
use Rattle.lists.proofs.Places.{part_length, part_at}
use Rattle.cascade_theory.proofs.Skew.{line-turn, line-done}
use Rattle.pipeline.proofs.run.Goals as goal

-- the samples behind the first three: how many there are, and each
rest_length : (xs : List Float) → 3 ≤ length xs → length (take (length xs - 3) (drop 3 xs)) ≡ length xs - 3
rest_length xs h = part_length xs 3 (length xs - 3) (omega arith)

rest_at : (xs : List Float) (i : ℕ) → i < length xs - 3 → get_or (take (length xs - 3) (drop 3 xs)) i nan ≡ get_or xs (i + 3) nan
rest_at xs i h = let e : 3 + i ≡ i + 3 = omega arith in rw e at (part_at xs 3 (length xs - 3) i nan h)

pub loop-i-preserved : goal.loop-i-preserved
loop-i-preserved c =
    let a = c.advance-a.ensures in
    let input = c.args.input.now in
    let n = rest_length input c.in-len3-up.len_at_least in
    line-turn binary64 _ _ _ (omega arith) a.0 (rw (rest_at input c.loop-i.i (omega arith)) at a.1) c.loop-i.invariant

pub returns : goal.returns
returns c =
    let n = rest_length c.args.input.now c.in-len3-up.len_at_least in
    let e : c.loop-i.i ≡ length (take (length c.args.input.now - 3) (drop 3 c.args.input.now)) = omega arith in
    line-done binary64 _ _ _ (omega arith) (omega arith) c.drain.ensures (rw e at c.loop-i.invariant)
