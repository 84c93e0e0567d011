-- 01 "Calculations on the release sheet", over the definitions: one table, of each row's number, what it computes and what the sheet states. Both are lists of
-- numbers: a float by its bit pattern, a refusal by its number, 0 for none.
use Rattle.std.specs.Prelude.{◌≡◌, List, [], ◌∷◌, ◌++◌, map, ℕ, Float}
use Rattle.std.specs.Float.{nan, binary64}
use Rattle.std.specs.Float.Ieee.{neg, to_bits}
use Rattle.scalar.specs.Operators.{◌⊘◌, nat}
use Rattle.ieee.specs.Sqrt.{sqrt_of}
use Rattle.runs.specs.Runs.{Answer, clear, clouded, refused, Block, step, block}
use Rattle.cascade_theory.specs.Section.{SectionRecord, section_out, section_next}
use Rattle.cascade_theory.specs.FirstOrder.{FirstOrderRecord, first_out, first_next}
use Rattle.cascade_theory.specs.Coefficients.{coefficients_of_first, coefficients_of_section}
use Rattle.design_poles.specs.Butterworth.{lp_biquad, hp_biquad, lp_first, hp_first}
use Rattle.fir_theory.specs.Fir.{TapsRecord, FirDesignRecord, fir, from_coeffs, taps_by_default}
use Rattle.limits.specs.Limits.{max_taps}
use Rattle.design_cascade.specs.Design.{CascadeDesignRecord, cascade_by_default}
use Rattle.design_cascade.specs.LowPass.{butterworth_lp}
use Rattle.design_cascade.specs.BandPass.{butterworth_bp}
use Rattle.design_fir.specs.Fir.{fir_lp}
use Rattle.design_fir.specs.declared.WindowType.{WindowType}

abbrev pub patterns : List Float → List ℕ
patterns xs = map (to_bits binary64) xs

abbrev pub first_coefficients : FirstOrderRecord → List ℕ
first_coefficients p = patterns (coefficients_of_first p)

abbrev pub coefficients : SectionRecord → List ℕ
coefficients s = patterns (coefficients_of_section s)

-- what a part answers to samples one after the other
abbrev pub first_answers : FirstOrderRecord → List Float → List Float
first_answers p [] = []
first_answers p (x ∷ xs) = first_out binary64 p x ∷ first_answers (first_next binary64 p x) xs

abbrev pub answers : SectionRecord → List Float → List Float
answers s [] = []
answers s (x ∷ xs) = section_out binary64 s x ∷ answers (section_next binary64 s x) xs

-- an answer as two numbers: 0 Clear, 1 Clouded, each with the number's pattern, or 2 Refused with its number
abbrev pub answer_numbers : Answer → List ℕ
answer_numbers (clear y) = 0 ∷ to_bits binary64 y ∷ []
answer_numbers (clouded y) = 1 ∷ to_bits binary64 y ∷ []
answer_numbers (refused n) = 2 ∷ n ∷ []

abbrev pub tap_answers : TapsRecord → List Float → List ℕ
tap_answers r [] = []
tap_answers r (x ∷ xs) = answer_numbers (step (fir max_taps binary64) r x).answer ++ tap_answers (step (fir max_taps binary64) r x).state xs

-- the sheet's numbers by their patterns
abbrev pub half : ℕ
half = 0x3FE0000000000000

abbrev pub minus_half : ℕ
minus_half = 0xBFE0000000000000

abbrev pub quarter : ℕ
quarter = 0x3FD0000000000000

abbrev pub two : ℕ
two = 0x4000000000000000

abbrev pub five : ℕ
five = 0x4014000000000000

abbrev pub not_a_number : ℕ
not_a_number = 0x7FF8000000000000

-- a block's refusal and its output
abbrev pub block_numbers : {S : Type 0} → Block S → List ℕ
block_numbers b = b.refusal ∷ patterns b.output

-- the taps of row 7
abbrev pub two_taps : TapsRecord
two_taps = (from_coeffs max_taps ((nat 1 ⊘ nat 2) ∷ (nat 1 ⊘ nat 4) ∷ [])).filter

pub record Row : Type 0 where
  pub number : ℕ
  pub computed : List ℕ
  pub stated : List ℕ

abbrev pub row : ℕ → List ℕ → List ℕ → Row
row n c s = record { number = n; computed = c; stated = s }

-- rows 9 to 12, of designs in one of the two forms of 02's Q-3
abbrev pub refused_rows : (CascadeDesignRecord → CascadeDesignRecord) → (FirDesignRecord → FirDesignRecord) → Float → WindowType → List Row
refused_rows cascade taps cutoff window =
    -- 9. Low pass order 9, rate 0, cutoff −1: 1. 10. Low pass order 8, rate 0, any cutoff: 3. 11. Band pass order 2, 100 to 200, rate 0: 2
    row 9 ((cascade (butterworth_lp 9 (neg (nat 1)) (nat 0))).refusal ∷ []) (1 ∷ [])
    ∷ row 10 ((cascade (butterworth_lp 8 cutoff (nat 0))).refusal ∷ []) (3 ∷ [])
    ∷ row 11 ((cascade (butterworth_bp 2 (nat 100) (nat 200) (nat 0))).refusal ∷ []) (2 ∷ [])
    -- 12. FIR with 0 or 65 taps, cutoff 0.6: 1
    ∷ row 12 ((taps (fir_lp 0 (nat 3 ⊘ nat 5) window)).refusal ∷ (taps (fir_lp 65 (nat 3 ⊘ nat 5) window)).refusal ∷ []) (1 ∷ 1 ∷ [])
    ∷ []

-- row 10 speaks of any cutoff, row 12 of any window, and row 14 of an output whose two places hold anything
abbrev pub sheet : Float → WindowType → Float → Float → List Row
sheet cutoff window p q =
    -- 1. First-order low pass, k = 1: 0.5, 0.5, 0. 2. High pass: 0.5, −0.5, 0
    row 1 (first_coefficients (lp_first (nat 1))) (half ∷ half ∷ 0 ∷ [])
    ∷ row 2 (first_coefficients (hp_first (nat 1))) (half ∷ minus_half ∷ 0 ∷ [])
    -- 3. Low section, σ −1, ω 0, k 1: 0.25, 0.5, 0.25, 0, 0. 4. High: 0.25, −0.5, 0.25, 0, 0
    ∷ row 3 (coefficients (lp_biquad (neg (nat 1)) (nat 0) (nat 1))) (quarter ∷ half ∷ quarter ∷ 0 ∷ 0 ∷ [])
    ∷ row 4 (coefficients (hp_biquad (neg (nat 1)) (nat 0) (nat 1))) (quarter ∷ minus_half ∷ quarter ∷ 0 ∷ 0 ∷ [])
    -- 5. Row 1 on 1, 0, 0: 0.5, 0.5, 0. 6. Row 3 on 1, 0, 0, 0: 0.25, 0.5, 0.25, 0
    ∷ row 5 (patterns (first_answers (lp_first (nat 1)) (nat 1 ∷ nat 0 ∷ nat 0 ∷ []))) (half ∷ half ∷ 0 ∷ [])
    ∷ row 6 (patterns (answers (lp_biquad (neg (nat 1)) (nat 0) (nat 1)) (nat 1 ∷ nat 0 ∷ nat 0 ∷ nat 0 ∷ []))) (quarter ∷ half ∷ quarter ∷ 0 ∷ [])
    -- 7. Taps 0.5, 0.25 on 4, 8, NaN, 4, 8: 2, 5, then two Clouded NaN, then 5 Clear
    ∷ row 7 (tap_answers two_taps (nat 4 ∷ nat 8 ∷ nan ∷ nat 4 ∷ nat 8 ∷ []))
    (0 ∷ two ∷ 0 ∷ five ∷ 1 ∷ not_a_number ∷ 1 ∷ not_a_number ∷ 0 ∷ five ∷ [])
    -- 8. Low pass order 2, rate 1000: cutoff 500 draws 2; 499 passes the checks, and the raw form accepts it
    ∷ row 8 ((butterworth_lp 2 (nat 500) (nat 1000)).refusal ∷ (butterworth_lp 2 (nat 499) (nat 1000)).refusal ∷ []) (2 ∷ 0 ∷ [])
    -- 9 to 12, of the raw forms
    ∷ refused_rows (λ (d : CascadeDesignRecord). d) (λ (m : FirDesignRecord). m) cutoff window
    ++ (
    -- 13. sqrt(4) = 2; sqrt(2) = 3FF6A09E667F3BCD
    row 13 (patterns (sqrt_of binary64 (nat 4) ∷ sqrt_of binary64 (nat 2) ∷ [])) (two ∷ 0x3FF6A09E667F3BCD ∷ [])
    -- 14. Three samples into an output of two: 5, both places kept
    ∷ row 14 (block_numbers (block (fir max_taps binary64) two_taps (nat 4 ∷ nat 8 ∷ nat 4 ∷ []) (p ∷ q ∷ []))) (5 ∷ patterns (p ∷ q ∷ []))
    ∷ [])

-- the numbers of its rows
abbrev pub numbers : List ℕ
numbers = 1 ∷ 2 ∷ 3 ∷ 4 ∷ 5 ∷ 6 ∷ 7 ∷ 8 ∷ 9 ∷ 10 ∷ 11 ∷ 12 ∷ 13 ∷ 14 ∷ []

-- the rows are numbered from 1 to 14, and each computes what it states
pub record ReleaseSheet : Type 0 where
  pub numbered : (cutoff : Float) (window : WindowType) (p q : Float) → map (λ (r : Row). r.number) (sheet cutoff window p q) ≡ numbers
  pub holds : (cutoff : Float) (window : WindowType) (p q : Float)
      → map (λ (r : Row). r.computed) (sheet cutoff window p q) ≡ map (λ (r : Row). r.stated) (sheet cutoff window p q)
  -- rows 9 to 12 hold of the default forms too
  pub by_default : (cutoff : Float) (window : WindowType) → (let rows = refused_rows cascade_by_default (taps_by_default max_taps) cutoff window in
      map (λ (r : Row). r.computed) rows ≡ map (λ (r : Row). r.stated) rows)
