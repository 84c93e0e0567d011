-- What the tests of `ln` leave: a finite number above 0.
use Rattle.std.proofs.Common.{◌≡◌, zero, suc, ◌+◌, ◌*◌, Bool, true, false, not, T, sym, ◌∙◌, true≢false, le_trans, le-add_right, zero-lt-suc, mul-pos}
use Rattle.std.proofs.Common.{zero-mul, not-le_of_lt, lt→ltb, pow_pos, ltb-false}
use lib.Ieee as Ieee
use lib.Ieee.{Float, nan, inf, fin, binary64, up, down, lt, eq, of_bits}
use lib.Ieee.Fits.{up_pos}
use lib.Ieee.Positive.{positive}
use Rattle.scalar.proofs.NaN.{constants}

pub left-positive : (x : Float) → Ieee.is_nan x ≡ false → lt x (of_bits binary64 0) ≡ false → eq x (of_bits binary64 0) ≡ false
    → eq x (of_bits binary64 0x7FF0000000000000) ≡ false
    → T (positive x)
unfolding Ieee.is_nan lt eq of_bits
left-positive nan n l z i = absurd (true≢false n)
left-positive (inf true) n l z i = absurd (true≢false l)
left-positive (inf false) n l z i = absurd (true≢false i)
left-positive (fin s zero e) n l z i = absurd (true≢false (sym (level-zero s e) ∙ z))
  where
    level-zero : (s : Bool) (e : _) → eq (fin s zero e) (of_bits binary64 0) ≡ true
    level-zero true e = rw (zero-mul (up e), zero-mul (down e))
    level-zero false e = rw (zero-mul (up e), zero-mul (down e))
left-positive (fin false (suc m) e) n l z i = lt→ltb 0 (suc m) (zero-lt-suc m)
left-positive (fin true (suc m) e) n l z i = absurd (not-le_of_lt (mul-pos (mul-pos (zero-lt-suc m) (up_pos e)) (pow_pos 0))
    (le_trans (le-add_right (suc m * up e * 1) (0 * down e)) (ltb-false 0 (suc m * up e * 1 + 0 * down e) l)))

pub positive-number : (x : Float) → T (positive x) → T (not (Ieee.is_nan x))
unfolding Ieee.is_nan
positive-number nan p = absurd p
positive-number (inf s) p = tt
positive-number (fin s m e) p = tt

pub ruleset ln_rules = (constants, left-positive)
