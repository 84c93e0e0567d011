-- The machine's signed numbers at 64 bits: the magnitude of a - b, and z + 1.
use Rattle.std.proofs.Common.{ℕ, suc, ◌+◌, ◌-◌, ◌<◌, ◌≤◌, Bool, true, false, cond, leb, ℤ, pos, negsuc, ◌+ℤ◌, ◌-ℤ◌, ◌≡◌, ◌∙◌, to_z, of_z, rules}
use Rattle.std.proofs.Common.{lt_of_lt_of_le, lt_of_le_of_lt, arith, lit≤, w64, SFits}
use mathlib.Core.Path.{subst⁻¹}
use mir.ValLaws.{to_z_pos, to_z-of_z}
use lib.Ieee.{minus}
use lib.Signed.{mag}
use Rattle.scalar.proofs.Values.{sum_is}

pub mag-minus : (a b : ℕ) → mag (minus a b) ≤ a + b
mag-minus a b = go (leb b a)
  where
    go : (p : Bool) → mag (cond p (pos (a - b)) (negsuc (b - suc a))) ≤ a + b
    go true = omega arith
    go false = omega arith

pub small : (z : ℤ) → mag z < 5000 → SFits w64 z
small z h = record { sfits = lt_of_lt_of_le h (lit≤ tt) }

pub one_more : (z : ℤ) → mag z < 5000 → SFits w64 (z +ℤ pos 1)
one_more (pos n) h = record { sfits = omega arith }
one_more (negsuc n) h = subst⁻¹ (SFits w64) (sum_is 1 n) (record { sfits = lt_of_le_of_lt (mag-minus 1 (suc n)) (omega arith) })

-- e, and e + 1, as the machine works them out
pub kept-is : (z : ℤ) → mag z < 5000 → to_z w64 (of_z w64 z) ≡ z
kept-is z h = to_z-of_z w64 z (small z h)

pub raised-is : (z : ℤ) → mag z < 5000 → to_z w64 (of_z w64 (to_z w64 (of_z w64 z) +ℤ pos 1)) ≡ z +ℤ pos 1
raised-is z h = rw (kept-is z h) (to_z-of_z w64 (z +ℤ pos 1) (one_more z h))

pub ruleset raise_rules = (kept-is, raised-is)

-- ---- a - b, of small numbers, as the machine works it out
less : (a b : ℕ) → pos a -ℤ pos b ≡ minus a b
less a b = search rules

module _ (a b : ℕ) (A : a < 2500) (B : b < 2500) where
  minus-small : mag (minus a b) < 5000
  minus-small = lt_of_le_of_lt (mag-minus a b) (omega arith)

  pub less-fits : SFits w64 (to_z w64 a -ℤ pos b)
  less-fits = rw (to_z_pos w64 a (omega arith), less a b) (small (minus a b) minus-small)

  pub less-is : to_z w64 (of_z w64 (to_z w64 a -ℤ pos b)) ≡ minus a b
  less-is = to_z-of_z w64 (to_z w64 a -ℤ pos b) less-fits ∙ rw (to_z_pos w64 a (omega arith)) (less a b)

  pub less-small : mag (to_z w64 (of_z w64 (to_z w64 a -ℤ pos b))) < 5000
  less-small = rw less-is minus-small

-- the negative of a small number
pub negative-is : (n : ℕ) → n < 2500 → to_z w64 (of_z w64 (pos 0 -ℤ to_z w64 (of_z w64 (pos n)))) ≡ minus 0 n
negative-is n h =
    let f : SFits w64 (pos n) = record { sfits = omega arith } in
    rw (to_z-of_z w64 (pos n) f, less 0 n) (to_z-of_z w64 (minus 0 n) (small (minus 0 n) (minus-small 0 n (omega arith) h)))
