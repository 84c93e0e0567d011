-- 01 "Tap record" and its part of "Run answer": the check, ready-made taps, the number answered to a sample, the mark, and the record after it, for records
-- of any capacity.
use Rattle.std.specs.Prelude.{ℕ, ◌+◌, ◌-◌, min, Bool, ◌&&◌, cond, List, [], ◌∷◌, ◌++◌, leb, length, take, drop, replicate, Float}
use Rattle.std.specs.Float.{Format}
use Rattle.std.specs.Float.Ieee.{add, mul}
use Rattle.runs.specs.Refusals.{no_refusal, invalid_order, bad_taps, order_refused}
use Rattle.limits.specs.Zero.{plus_zero}
use Rattle.runs.specs.Runs.{not_all_finite, all_finite, Filter}
use Rattle.runs.specs.Default.{by_default}

-- taps, samples, a length, a held count and a window code
pub record TapsRecord : Type 0 where
  pub taps : List Float
  pub samples : List Float
  pub length : ℕ
  pub held : ℕ
  pub window : ℕ

-- its taps: the first of their places, as many as its length
abbrev pub taps_of : TapsRecord → List Float
taps_of r = take r.length r.taps

-- 02's Q-3, ALL FINITE, of a tap record: whether its taps are. Its samples do not count
unfoldable pub finite_taps : TapsRecord → Bool
finite_taps r = all_finite (taps_of r)

-- the window codes
abbrev pub rectangular : ℕ
rectangular = 0

abbrev pub hamming : ℕ
hamming = 1

abbrev pub hanning : ℕ
hanning = 2

abbrev pub blackman : ℕ
blackman = 3

abbrev pub ready_made : ℕ
ready_made = 4

-- Newest sample at place 0. Within the first n places each sample moves up by one, what stood in the last of them falls out, and x goes to place 0; later
-- places stay.
unfoldable pub pushed : ℕ → Float → List Float → List Float
pushed n x xs = take n (x ∷ xs) ++ drop n xs

-- The count rises by one unless it is already the length.
unfoldable pub next : TapsRecord → Float → TapsRecord
next r x = record {
  taps = r.taps;
  samples = pushed r.length x r.samples;
  length = r.length;
  held = min (r.held + 1) r.length;
  window = r.window;
}

-- the held samples, newest first
unfoldable pub held_of : TapsRecord → List Float
held_of r = take r.held r.samples

-- THE MARK of an answer, from the taps and the held samples: Clouded exactly when a held one is not finite
unfoldable pub clouding : List Float → List Float → Bool
clouding ts xs = not_all_finite xs

module _ (f : Format) where
  -- y, and then tap i × sample i is added, from i = 0 until taps or samples end
  unfoldable pub sum : Float → List Float → List Float → Float
  sum y [] xs = y
  sum y (t ∷ ts) [] = y
  sum y (t ∷ ts) (x ∷ xs) = sum (add f y (mul f t x)) ts xs

  -- the answer starts from +0
  unfoldable pub value : TapsRecord → Float → Float
  value r x = sum plus_zero r.taps (held_of (next r x))

unfoldable pub mark : TapsRecord → Float → Bool
mark r x = clouding r.taps (held_of (next r x))

-- what a design or ready-made taps return
pub record FirDesignRecord : Type 0 where
  pub refusal : ℕ
  pub filter : TapsRecord

module _ (capacity : ℕ) where
  -- 12 is given where the length is 0 or above the capacity, the held count above the length, or the window code above 4
  unfoldable pub check_taps : TapsRecord → Bool
  check_taps r = (leb 1 r.length && leb r.length capacity) && (leb r.held r.length && leb r.window ready_made)

  abbrev pub zeros : List Float
  zeros = replicate capacity plus_zero

  -- counts 0, numbers +0
  abbrev pub blank_taps : TapsRecord
  blank_taps = record { taps = zeros; samples = zeros; length = 0; held = 0; window = 0 }

  -- reset makes all sample places +0 and the count 0
  unfoldable pub cleared_taps : TapsRecord → TapsRecord
  cleared_taps r = record { taps = r.taps; samples = zeros; length = r.length; held = 0; window = r.window }

  -- the tap record as a filter
  abbrev pub fir : Format → Filter
  fir f = record { State = TapsRecord; check = check_taps; refusal = bad_taps; value = value f; mark = mark; next = next; cleared = cleared_taps }

  -- these taps in front, +0 behind, no sample held
  unfoldable pub holding : List Float → ℕ → TapsRecord
  holding ts window = record { taps = ts ++ replicate (capacity - length ts) plus_zero; samples = zeros; length = length ts; held = 0; window = window }

  -- what is refused returns its number and the blank record
  abbrev pub refused_taps : ℕ → FirDesignRecord
  refused_taps n = record { refusal = n; filter = blank_taps }

  -- ready-made taps
  unfoldable pub from_coeffs : List Float → FirDesignRecord
  from_coeffs ts = cond (order_refused (length ts) capacity) (refused_taps invalid_order) (record { refusal = no_refusal; filter = holding ts ready_made })

  -- 02's Q-3: taps, designed or ready-made, by default
  abbrev pub taps_by_default : FirDesignRecord → FirDesignRecord
  taps_by_default = by_default (λ (m : FirDesignRecord). m.refusal) (λ (m : FirDesignRecord). finite_taps m.filter) refused_taps
