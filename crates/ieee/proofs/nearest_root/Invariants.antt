-- `ieee::nearest_root` meets its contract. The loop's invariant, before the digit of weight 2 ^ (place - 1): y * 2 ^ place is what is left of m * 2 ^ 52
-- with q * q taken off, and q + 2 ^ place is above the root.
use mathlib.Core.Path.{◌≡◌}
use Prim.Native.Nat.{◌+◌, ◌*◌, ◌^◌, ◌≤◌, ◌<◌}
use Rattle.ieee.proofs.nearest_root.Given as goal

abbrev pub invariant-loop-place : goal.invariant-loop-place
invariant-loop-place l =
    (l.y * 2 ^ l.place + l.q * l.q ≡ l.m * 2 ^ 52) × (l.y < l.q + l.q + 2 ^ l.place) × (l.q + 2 ^ l.place ≤ 2 ^ 53) × (2 ^ 52 ≤ l.q)
