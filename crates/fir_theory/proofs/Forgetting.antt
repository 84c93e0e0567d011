-- The forgetting rule of a tap record, at every format and capacity: once a sample more is taken than was known to be held, or as many as there are taps, the
-- record holds just the samples that the plain filter uses.
use Prim.Native.Nat.{ℕ, zero, suc, ◌≤◌, min}
use mathlib.Core.Path.{◌≡◌, refl, ap, ap₂, sym, ◌∙◌}
use mathlib.Core.Bool.{Bool, true, false, ◌||◌, false≢true}
use mathlib.Core.List.{List, [], ◌∷◌}
use native.Mathlib.Omega.{arith}
use native.Mathlib.Numerals.{unary_clauses}
use native.Mathlib.Nat.{min-zero}
use lib.Dec.{leb}
use lib.ListN.{length, take, length-take, length-replicate}
use lib.Seq.{take-take, take-nil, length-take-le}
use lib.Ieee.{Float, Format, add, mul}
use borrow.Author.Tests.{leb-true}
use Rattle.lists.proofs.Places.{take_min}
use Rattle.limits.specs.Zero.{plus_zero}
use Rattle.runs.specs.Runs.{marked, not_all_finite}
use Rattle.runs.specs.Forgetting.{Call, run}
use Rattle.runs.proofs.Forgetting as runs
use Rattle.runs.proofs.Forgetting.{Simulates}
use Rattle.fir_theory.specs.Fir.{TapsRecord, taps_of, next, held_of, clouding, sum, value, mark, check_taps, cleared_taps, fir}
use Rattle.fir_theory.specs.Plain.{used, plain_fir, FirForgets}
use Rattle.fir_theory.proofs.Laws.{take-pushed, length-pushed, sizes, check-next, check-cleared, sum-taps}

-- ---- lists

newest-more : (n k : ℕ) (x : Float) (xs kept : List Float) → 1 ≤ n → take (min n k) xs ≡ take n kept → take (min n (suc k)) (x ∷ xs) ≡ take n (x ∷ kept)
newest-more zero k x xs kept h e = simp unary_clauses
newest-more (suc n) k x xs kept h e =
    let m : min n (min (suc n) k) ≡ min n k = omega arith in
    let a : take n (take (min (suc n) k) xs) ≡ take (min n k) xs = take_min n (min (suc n) k) xs ∙ ap (λ (j : ℕ). take j xs) m in
    simp unary_clauses (ap (λ (t : List Float). x ∷ t) (sym a ∙ ap (take n) e ∙ take-take n (suc n) kept (omega arith)))

-- ---- a sum ends where the taps end

sum-used : (f : Format) (y : Float) (ts xs : List Float) → sum f y ts (used ts xs) ≡ sum f y ts xs
unfolding sum
sum-used f y [] xs = refl
sum-used f y (t ∷ ts) [] = refl
sum-used f y (t ∷ ts) (x ∷ xs) = sum-used f (add f y (mul f t x)) ts xs

module _ (capacity : ℕ) (f : Format) (ts : List Float) where
  -- a record beside the plain filter: it has these taps, the newest kept samples stand in its first places, and it holds these or more; just these if there
  -- was a reset since
  record Beside (since : Bool) (kept : List Float) (r : TapsRecord) : Type 0 where
    pub good : check_taps capacity r ≡ true
    pub taps : taps_of r ≡ ts
    pub count : r.length ≡ length ts
    pub places : length r.samples ≡ capacity
    pub newest : take (min r.length (length kept)) r.samples ≡ take r.length kept
    pub some : min r.length (length kept) ≤ r.held
    pub exact : since ≡ true → r.held ≡ min r.length (length kept)

  turn : {since : Bool} {kept : List Float} {r : TapsRecord} (x : Float) → Beside since kept r → Beside since (x ∷ kept) (next r x)
  unfolding next
  turn {since} {kept} {r} x b =
      let z = sizes capacity r b.good in
      record {
        good = check-next capacity r x b.good;
        taps = b.taps;
        count = b.count;
        places = length-pushed r.length x r.samples (omega (arith, b.places)) ∙ b.places;
        newest =
            take-pushed (min r.length (suc (length kept))) r.length x r.samples (omega arith) (omega (arith, b.places))
            ∙ newest-more r.length (length kept) x r.samples kept z.some b.newest;
        some = omega (arith, b.some);
        exact = λ e. let h : r.held ≡ min r.length (length kept) = b.exact e in omega arith;
      }

  clear : {since : Bool} {kept : List Float} {r : TapsRecord} → Beside since kept r → Beside true [] (cleared_taps capacity r)
  unfolding cleared_taps
  clear {since} {kept} {r} b =
      record {
        good = check-cleared capacity r b.good;
        taps = b.taps;
        count = b.count;
        places = length-replicate capacity plus_zero;
        newest = rw (min-zero, take-nil r.length);
        some = omega arith;
        exact = λ e. omega arith;
      }

  -- where an answer is due the record holds just what the plain filter uses
  held-is : (since : Bool) (kept : List Float) (r : TapsRecord) → Beside since kept r → since || leb (length ts) (length kept) ≡ true → r.held
      ≡ min r.length (length kept)
  held-is true kept r b e = b.exact refl
  held-is false kept r b e =
      let z = sizes capacity r b.good in
      omega (arith, b.some, b.count, leb-true (length ts) (length kept) e)

  held-used : (since : Bool) (kept : List Float) (r : TapsRecord) → Beside since kept r → since || leb (length ts) (length kept) ≡ true → held_of r
      ≡ used ts kept
  unfolding held_of
  held-used since kept r b e = ap (λ (j : ℕ). take j r.samples) (held-is since kept r b e) ∙ b.newest ∙ ap (λ (j : ℕ). take j kept) b.count

  value_same : {since : Bool} {kept : List Float} {r : TapsRecord} (x : Float) → Beside since kept r → since || leb (length ts) (suc (length kept)) ≡ true
      → value f r x ≡ sum f plus_zero ts (x ∷ kept)
  unfolding value
  value_same {since} {kept} {r} x b e =
      let u = used ts (x ∷ kept) in
      let l : length u ≤ r.length = simp length-take (omega (arith, b.count)) in
      ap (sum f plus_zero r.taps) (held-used since (x ∷ kept) (next r x) (turn x b) e) ∙ sym (sum-taps f plus_zero r.length r.taps u l)
      ∙ ap (λ (t : List Float). sum f plus_zero t u) b.taps ∙ sum-used f plus_zero ts (x ∷ kept)

  mark-same : {since : Bool} {kept : List Float} {r : TapsRecord} (x : Float) → Beside since kept r → since || leb (length ts) (suc (length kept)) ≡ true
      → mark r x ≡ not_all_finite (used ts (x ∷ kept))
  unfolding mark clouding
  mark-same {since} {kept} {r} x b e = ap not_all_finite (held-used since (x ∷ kept) (next r x) (turn x b) e)

  simulates : Simulates (fir capacity f) (plain_fir f) ts
  simulates = record { Beside = Beside; good = λ b. b.good; turn = turn; clear = clear; same = λ x b e. ap₂ marked (mark-same x b e) (value_same x b e) }

-- of every record whose arrays have as many places as the capacity
module _ (capacity : ℕ) (f : Format) (r : TapsRecord) (lt : length r.taps ≡ capacity) (ls : length r.samples ≡ capacity) where
  start : (since : Bool) → check_taps capacity r ≡ true → (since ≡ true → r.held ≡ 0) → Beside capacity f (taps_of r) since [] r
  start since h none =
      let z = sizes capacity r h in
      record {
        good = h;
        taps = refl;
        count = sym (length-take-le r.length r.taps (omega arith));
        places = ls;
        newest = rw (min-zero, take-nil r.length);
        some = rw min-zero (omega arith);
        exact = λ e. rw min-zero (none e);
      }

  pub forgets : (calls : List Call) → FirForgets capacity f r calls (run (fir capacity f) r calls)
  unfolding simulates cleared_taps
  forgets =
      runs.forgets (fir capacity f) (plain_fir f) taps_of r (simulates capacity f (taps_of r)) (λ h. start false h (λ e. absurd (false≢true e)))
      (λ fresh. start true fresh.checked (λ e. ap (λ (k : TapsRecord). k.held) (sym fresh.cleared)))
