-- `ieee::root_bits` meets its contract. The loop brings a subnormal's digits up to 53 and keeps m * 2 ^ e. The measure is e.
use mathlib.Core.Path.{◌≡◌}
use Prim.Native.Nat.{◌*◌, ◌^◌, ◌≤◌, ◌<◌}
use Rattle.ieee.proofs.root_bits.Given as goal

abbrev pub invariant-loop-m : goal.invariant-loop-m
invariant-loop-m l = (l.m * 2 ^ l.e ≡ l.b * 2 ^ 52) × (0 < l.m) × (l.m < 2 ^ 53) × (l.e ≤ 52)

abbrev pub decreases-loop-m : goal.decreases-loop-m
decreases-loop-m l = l.e
