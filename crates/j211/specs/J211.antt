-- 02's Q-1: a whole pulse filtered by a channel class of SAE J211-1, forward and then backward. The names are the standard's: a0, a1 and a2 weigh the
-- samples and b1 and b2 the earlier outputs, and all five products are added. (01's sections name them the other way round, and subtract the feedback.)
-- Each operation rounds once.
use Rattle.std.specs.Prelude.{◌≡◌, ℕ, Result, IfOk, Bool, cond, not, ◌||◌, List, [], ◌∷◌, reverse, ◌==◌, Float}
use Rattle.std.specs.Float.Ieee.{neg, le}
use Rattle.limits.specs.Zero.{plus_zero}
use Rattle.scalar.specs.Operators.{◌⊕◌, ◌⊖◌, ◌⊗◌, ◌⊘◌, bits, nat}
use Rattle.scalar.specs.Constants.{one, two, half, pi}
use Rattle.elementary.specs.Trigonometric.{tan_of}
use Rattle.runs.specs.Refusals.{no_refusal, invalid_frequency, invalid_sample_rate, invalid_class}
use Rattle.runs.specs.View.{refusal_in}
use Rattle.runs.specs.declared.refusal.Refusal.{Refusal}
use Rattle.design_checks.specs.Checks.{rate_refused}
use Rattle.j211.specs.declared.Class.{Class}
use Rattle.j211.specs.declared.Class.TheVariants.{C60, C180, C600, C1000}
use Rattle.j211.specs.declared.Coefficients.{Coefficients}
use Rattle.j211.specs.declared.History.{History}

-- ---- a class C of 60, 180, 600 or 1000
unfoldable pub is_class : ℕ → Bool
is_class c = c == 60 || (c == 180 || (c == 600 || c == 1000))

-- the number of a class of the code
abbrev pub number : Class → ℕ
number C60 = 60
number C180 = 180
number C600 = 600
number C1000 = 1000

-- what the code takes a number for: the class of that number, or 21
abbrev pub Names : ℕ → Result Class Refusal → Type 0
Names c r = (refusal_in r ≡ cond (is_class c) no_refusal invalid_class) × IfOk r (λ k. number k ≡ c)

-- C × 2.0775
unfoldable pub cutoff_of : ℕ → Float
cutoff_of c = nat c ⊗ bits 0x40009EB851EB851F

-- ---- the coefficients
-- w = tan((PI × (C × 2.0775))/rate)
unfoldable pub warped_of : ℕ → Float → Float
warped_of c rate = tan_of ((pi ⊗ cutoff_of c) ⊘ rate)

abbrev pub root2 : Float
root2 = bits 0x3FF6A09E667F3BCD

-- D = (1 + √2 × w) + w × w; a0 = w × w / D, a1 = 2 × a0, a2 = a0, b1 = −2 × (w × w − 1)/D, b2 = ((−1 + √2 × w) − w × w)/D
unfoldable pub coefficients_of : Float → Coefficients
coefficients_of w =
    let d = (one ⊕ root2 ⊗ w) ⊕ w ⊗ w in
    let a0 = (w ⊗ w) ⊘ d in
    record {
      a0 = a0;
      a1 = two ⊗ a0;
      a2 = a0;
      b1 = (neg two ⊗ (w ⊗ w ⊖ one)) ⊘ d;
      b2 = ((neg one ⊕ root2 ⊗ w) ⊖ w ⊗ w) ⊘ d;
    }

-- ---- a pass
-- The history of a pass: X1 and X2, the samples before this one, newest first, and Y1 and Y2, the outputs to them. Zero history:
abbrev pub zero_history : History
zero_history = record { x1 = plus_zero; x2 = plus_zero; y1 = plus_zero; y2 = plus_zero }

-- a0·X + a1·X1 + a2·X2 + b1·Y1 + b2·Y2, added left to right
unfoldable pub output_of : Coefficients → History → Float → Float
output_of k h x = (((k.a0 ⊗ x ⊕ k.a1 ⊗ h.x1) ⊕ k.a2 ⊗ h.x2) ⊕ k.b1 ⊗ h.y1) ⊕ k.b2 ⊗ h.y2

-- the history after the sample x and its output y
abbrev pub next_of : History → Float → Float → History
next_of h x y = record { x1 = x; x2 = h.x1; y1 = y; y2 = h.y1 }

-- the outputs to samples, one after the other
unfoldable pub pass : Coefficients → History → List Float → List Float
pass k h [] = []
pass k h (x ∷ xs) = output_of k h x ∷ pass k (next_of h x (output_of k h x)) xs

-- ---- a buffer filtered forward, then backward, each pass from zero history
abbrev pub forward : Coefficients → List Float → List Float
forward k xs = pass k zero_history xs

abbrev pub backward : Coefficients → List Float → List Float
backward k xs = reverse (pass k zero_history (reverse xs))

unfoldable pub both_ways : Coefficients → List Float → List Float
both_ways k xs = backward k (forward k xs)

-- ---- Errors: 21 for another class, tested first; then 3, and 2 when C × 2.0775 is at least rate × 0.5
unfoldable pub refusal : ℕ → Float → ℕ
refusal c rate =
    cond (not (is_class c)) invalid_class
    (cond (rate_refused rate) invalid_sample_rate
    (cond (le (rate ⊗ half) (cutoff_of c)) invalid_frequency no_refusal))

-- the buffer after a call; where it is refused, unchanged
unfoldable pub filtered : ℕ → Float → List Float → List Float
filtered c rate buffer = cond (refusal c rate == no_refusal) (both_ways (coefficients_of (warped_of c rate)) buffer) buffer
