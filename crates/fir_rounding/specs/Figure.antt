-- 02's Q-5, "A figure for the FIR's rounding": how far a FIR's answer can be from the exact sum of products.
use Rattle.std.specs.Prelude.{◌≡◌, true, List, [], ◌∷◌, ℕ, suc, ◌*◌, ◌^◌, ◌≤◌, ℤ, pos, neg_ℤ, nat_abs, ◌+ℤ◌, ◌*ℤ◌, ◌≤ℤ◌, length, Float}
use Rattle.std.specs.Float.{Format}
use Rattle.std.specs.Float.Ieee.Scale.{finite}
use Rattle.lists.specs.Lists.{Each}
use Rattle.exact.specs.Scaled.{scale, IsValue, scaled, distance}
use Rattle.runs.specs.Runs.{Answer, clear, step}
use Rattle.fir_theory.specs.Fir.{TapsRecord, taps_of, next, held_of, check_taps, fir}

-- ---- 02's numbers

-- taps "of magnitude at most 1"
abbrev pub largest_tap : ℕ
largest_tap = 1

-- "at most 64 of them"
abbrev pub most_taps : ℕ
most_taps = 64

-- "whole numbers from −32768 to 32767"
abbrev pub least_count : ℤ
least_count = neg_ℤ (pos 32768)

abbrev pub greatest_count : ℤ
greatest_count = pos 32767

-- "at most 2 to the −27"
abbrev pub figure_bits : ℕ
figure_bits = 27

-- ---- 02's sentences

module _ (f : Format) where
  -- "finite taps of magnitude at most 1"
  pub record Tap (t : Float) : Type 0 where
    pub is_finite : finite t ≡ true
    pub most : nat_abs (scaled f t) ≤ largest_tap * scale f

  -- samples "that are whole numbers from −32768 to 32767"
  pub record Count (x : Float) : Type 0 where
    pub is_finite : finite x ≡ true
    pub whole : ℤ
    pub value : scaled f x ≡ whole *ℤ pos (scale f)
    pub least : least_count ≤ℤ whole
    pub most : whole ≤ℤ greatest_count

  -- "Take finite taps of magnitude at most 1, at most 64 of them, and held samples that are whole numbers from −32768 to 32767."
  pub record Taken (most : ℕ) (r : TapsRecord) (held : List Float) : Type 0 where
    pub few : r.length ≤ most
    pub taps : Each Tap (taps_of r)
    pub samples : Each Count held

  -- "the exact sum of products": tap i × sample i from i = 0 until taps or samples end. Each factor is scaled, so the sum is scaled twice
  unfoldable pub exact_sum : List Float → List Float → ℤ
  exact_sum [] xs = pos 0
  exact_sum (t ∷ ts) [] = pos 0
  exact_sum (t ∷ ts) (x ∷ xs) = scaled f t *ℤ scaled f x +ℤ exact_sum ts xs

  -- "differs .. by at most 2 to the −27", here 2 to the −b: |y - E| * 2 ^ b ≤ 1, each side scaled twice
  abbrev pub DiffersAtMost : ℕ → Float → ℤ → Type 0
  DiffersAtMost b y E = distance (scaled f y *ℤ pos (scale f)) E * 2 ^ b ≤ scale f * scale f

  -- an answer of r to x: Clear, its number finite, and within 2 to the −b of the exact sum over the samples held after x, x among them
  pub record Within (b : ℕ) (r : TapsRecord) (x : Float) (answer : Answer) : Type 0 where
    pub number : Float
    pub is_clear : answer ≡ clear number
    pub is_finite : finite number ≡ true
    pub differs : DiffersAtMost b number (exact_sum (taps_of r) (held_of (next r x)))

  -- the same of answers to samples one after the other, each of its own sum
  abbrev pub EachWithin : ℕ → TapsRecord → List Float → List Answer → Type 0
  EachWithin b r [] [] = Unit
  EachWithin b r [] (a ∷ rest) = ⊥
  EachWithin b r (x ∷ xs) [] = ⊥
  EachWithin b r (x ∷ xs) (a ∷ rest) = Within b r x a × EachWithin b (next r x) xs rest

  -- THE FIGURE, for at most so many taps, of the run step: of each record that passes its check, however many samples it holds. Its numbers are values of
  -- the format, as those of a record of the code are
  abbrev pub Figure : ℕ → ℕ → ℕ → Type 0
  Figure capacity most b = (r : TapsRecord) (x : Float) → check_taps capacity r ≡ true → Each (IsValue f) (taps_of r) → Each (IsValue f) (held_of (next r x))
      → Taken most r (held_of (next r x)) → Within b r x (step (fir capacity f) r x).answer

  -- A smaller power of two does not hold: a record that passes its check, with as many places as its capacity, and a sample, whose answer is Clear and
  -- finite and differs by more than 2 to the −(b + 1)
  pub record Sharp (capacity most b : ℕ) : Type 0 where
    pub filter : TapsRecord
    pub sample : Float
    pub places : (length filter.taps ≡ capacity) × (length filter.samples ≡ capacity)
    pub checked : check_taps capacity filter ≡ true
    pub tap_values : Each (IsValue f) (taps_of filter)
    pub sample_values : Each (IsValue f) (held_of (next filter sample))
    pub taken : Taken most filter (held_of (next filter sample))
    pub number : Float
    pub is_clear : (step (fir capacity f) filter sample).answer ≡ clear number
    pub is_finite : finite number ≡ true
    pub farther : DiffersAtMost (suc b) number (exact_sum (taps_of filter) (held_of (next filter sample))) → ⊥
