-- `ieee::nearest_root` meets its contract. The loop's invariant, before the digit of weight 2 ^ (place - 1): y * 2 ^ place is what is left of m * 2 ^ 52
-- with q * q taken off, and q + 2 ^ place is above the root.
use mathlib.Core.Path.{◌≡◌}
use Prim.Native.Nat.{◌-◌, ◌*◌, ◌%◌, ◌^◌}
use native.Mathlib.Omega.{arith}
use Rattle.ieee.proofs.Steps.{halved, taken, passed}
use Rattle.ieee.proofs.nearest_root.Goals as goal

pub loop-place-preserved-then-t-y : goal.loop-place-preserved-then-t-y
loop-place-preserved-then-t-y c =
    let l = c.loop-place in
    let h = halved l.place (omega arith) in
    let w : 1 * 2 ^ (l.place - 1) % 2 ^ 64 ≡ 2 ^ (l.place - 1) = omega arith in
    rw w (taken _ l.q l.y (2 ^ l.place) (2 ^ (l.place - 1)) h l.invariant.0 (omega arith), omega arith, omega arith, omega arith)

pub loop-place-preserved : goal.loop-place-preserved
loop-place-preserved c =
    let l = c.loop-place in
    let h = halved l.place (omega arith) in
    (passed _ l.q l.y (2 ^ l.place) (2 ^ (l.place - 1)) h l.invariant.0, omega arith, omega arith, omega arith)
