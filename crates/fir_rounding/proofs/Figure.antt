-- 02's Q-5, over the run step: the figure of at most 2 ^ m taps, and that of 64; and over samples one after the other.
use mathlib.Core.Path.{◌≡◌, refl, sym, ap, ap₂, ◌∙◌, subst}
use mathlib.Core.Bool.{true, false}
use mathlib.Core.List.{List, [], ◌∷◌}
use Prim.Native.Nat.{ℕ, suc, ◌+◌, ◌*◌, ◌^◌, ◌≤◌, ◌<◌}
use native.Mathlib.Nat.{le_trans, le_of_eq, one-mul, mul-le-mul_right}
use native.Mathlib.Omega.{arith}
use lib.Dec.{leb→le, lit<, lit≤}
use lib.IntN.{ℤ, pos, negsuc, nat_abs}
use lib.Signed.{◌≤ℤ◌}
use lib.ListN.{length, length-take}
use lib.Ieee.{Float, Format, binary64, prec, emax}
use Rattle.limits.specs.Zero.{plus_zero}
use Rattle.lists.specs.Lists.{Each}
use Rattle.runs.specs.Runs.{not_all_finite, marked, Step, step, answers}
use Rattle.runs.proofs.Laws.{step_is}
use Rattle.exact.specs.Scaled.{IsValue, scale}
use Rattle.exact.proofs.Whole.{abs-mul}
use Rattle.fir_theory.specs.Fir.{TapsRecord, taps_of, next, held_of, sum, value, mark, clouding, check_taps, fir}
use Rattle.fir_theory.proofs.Laws.{length-pushed, held_next, check-next}
use Rattle.fir_theory.proofs.Laws.{sum-taps}
use Rattle.fir_rounding.specs.Figure.{most_taps, least_count, greatest_count, figure_bits, Tap, Count, Taken, exact_sum, EachWithin, Figure}
use Rattle.fir_rounding.proofs.Sum.{AtMost, total-error, total-differs}

-- a whole number from −32768 to 32767 has a magnitude of at most 2 ^ 15
abbrev count_bits : ℕ
count_bits = 15

small : (z : ℤ) → least_count ≤ℤ z → z ≤ℤ greatest_count → nat_abs z ≤ 2 ^ count_bits
small (pos n) h g = omega (arith, leb→le n _ g.le)
small (negsuc n) h g = omega (arith, leb→le n _ h.le)

module _ (f : Format) where
  taps : (ts : List Float) → Each (IsValue f) ts → Each (Tap f) ts → Each (AtMost f (scale f)) ts
  taps [] h c = tt
  taps (t ∷ ts) h c =
      let d = c.0 in
      (record { value = record { is_value = h.0; is_finite = d.is_finite }; most = le_trans d.most (le_of_eq (one-mul (scale f))) }, taps ts h.1 c.1)

  samples : (xs : List Float) → Each (IsValue f) xs → Each (Count f) xs → Each (AtMost f (2 ^ count_bits * scale f)) xs
  samples [] h c = tt
  samples (x ∷ xs) h c =
      let d = c.0 in
      let is = ap nat_abs d.value ∙ abs-mul d.whole (pos (scale f)) in (
        record {
          value = record { is_value = h.0; is_finite = d.is_finite };
          most = le_trans (le_of_eq is) (mul-le-mul_right (scale f) (small d.whole d.least d.most));
        },
        samples xs h.1 c.1,
      )

  all-finite : (xs : List Float) → Each (Count f) xs → not_all_finite xs ≡ false
  unfolding not_all_finite
  all-finite [] h = refl
  all-finite (x ∷ xs) h = rw h.0.is_finite (all-finite xs h.1)

  -- ---- the answer to x, by its mark and its number
  module _ (r : TapsRecord) (x : Float) where
    few-held : length (held_of (next r x)) ≤ r.length
    unfolding held_of next
    few-held = simp length-take (omega arith)

    mark-is : Each (Count f) (held_of (next r x)) → mark r x ≡ false
    unfolding mark clouding
    mark-is h = all-finite (held_of (next r x)) h

    -- the sum over the record's own taps
    value-is : value f r x ≡ sum f plus_zero (taps_of r) (held_of (next r x))
    unfolding value
    value-is = sym (sum-taps f plus_zero r.length r.taps (held_of (next r x)) few-held)

  pub figure : (capacity m b : ℕ) → m < prec f → m + count_bits ≤ emax f → b + (m + m + count_bits) ≡ suc (prec f) → Figure f capacity (2 ^ m) b
  figure capacity m b M S e r x h A B c =
      let ts = taps_of r in
      let xs = held_of (next r x) in
      let y = sum f plus_zero ts xs in
      let s = total-error f m count_bits M S ts xs (le_trans (few-held r x) c.few) (taps ts A c.taps) (samples xs B c.samples) in
      record {
        number = y;
        is_clear = ap (λ (p : Step TapsRecord). p.answer) (step_is (fir capacity f) r x h) ∙ ap₂ marked (mark-is r x c.samples) (value-is r x);
        is_finite = s.is_finite;
        differs = total-differs f m count_bits M S b y (exact_sum f ts xs) e s;
      }

-- "at most 64 of them", "by at most 2 to the −27": 2 ^ 6 taps
pub figure-64 : (capacity : ℕ) → Figure binary64 capacity most_taps figure_bits
figure-64 capacity = figure binary64 capacity 6 figure_bits (lit< tt) (lit≤ tt) refl

-- ---- samples one after the other
module _ (f : Format) (capacity most : ℕ) where
  -- a record that passes its check, with such taps, and such samples held
  pub record Counting (r : TapsRecord) : Type 0 where
    pub checked : check_taps capacity r ≡ true
    pub places : r.length ≤ length r.samples
    pub tap_values : Each (IsValue f) (taps_of r)
    pub sample_values : Each (IsValue f) (held_of r)
    pub taken : Taken f most r (held_of r)

  -- it stays one
  counting-next : (r : TapsRecord) (x : Float) → IsValue f x → Count f x → Counting r → Counting (next r x)
  unfolding next
  counting-next r x v d c = record {
    checked = check-next capacity r x c.checked;
    places = le_trans c.places (le_of_eq (sym (length-pushed r.length x r.samples c.places)));
    tap_values = c.tap_values;
    sample_values = held_next (IsValue f) r x c.places c.sample_values v;
    taken = record { few = c.taken.few; taps = c.taken.taps; samples = held_next (Count f) r x c.places c.taken.samples d };
  }

  pub figures : (b : ℕ) → Figure f capacity most b → (r : TapsRecord) (xs : List Float) → Counting r → Each (IsValue f) xs → Each (Count f) xs
      → EachWithin f b r xs (answers (fir capacity f) r xs)
  unfolding answers
  figures b F r [] c v d = tt
  figures b F r (x ∷ xs) c v d =
      let n = counting-next r x v.0 d.0 c in
      let t : Taken f most r (held_of (next r x)) = record { few = c.taken.few; taps = c.taken.taps; samples = n.taken.samples } in
      let on : (step (fir capacity f) r x).state ≡ next r x = ap (λ (p : Step TapsRecord). p.state) (step_is (fir capacity f) r x c.checked) in (
        F r x c.checked c.tap_values n.sample_values t,
        subst (λ (s : TapsRecord). EachWithin f b (next r x) xs (answers (fir capacity f) s xs)) (sym on) (figures b F (next r x) xs n v.1 d.1),
      )
