-- Loops that write one place of a list after the other, whatever its elements.
use mathlib.Core.Path.{◌≡◌, refl, sym, ap, ◌∙◌}
use mathlib.Core.List.{List, ◌++◌, map, append_assoc, append-nil}
use Prim.Native.Nat.{ℕ, ◌+◌, ◌<◌, ◌≤◌}
use native.Mathlib.Nat.{zero-add}
use native.Mathlib.Numerals.{add-one}
use native.Mathlib.Omega.{arith}
use lib.ListN.{length, get_or, set, take, drop, length-set, drop_of_length-le, get_or-map}
use lib.Seq.{drop-cons, get_or_at, get_or-take, take_all, sets, sets-eq, paste, paste-zero, paste-suc, length_paste_head}

-- before place at + i is written: the first i of the n elements of ys stand from place `at` on, and the other places are as in l₀
pub record Overwriting {A : Type 0} (l₀ : List A) (at : ℕ) (ys : List A) (n : ℕ) (l : List A) (i : ℕ) : Type 0 where
  pub count : length ys ≡ n
  pub within : i ≤ n
  pub room : at + n ≤ length l₀
  pub same : length l ≡ length l₀
  pub places : l ≡ paste l₀ at ys i

module _ {A : Type 0} {l₀ : List A} where
  pub overwrite-start : {ys : List A} {n : ℕ} (at : ℕ) → length ys ≡ n → at + n ≤ length l₀ → Overwriting l₀ at ys n l₀ 0
  overwrite-start {ys} at e h = record { count = e; within = omega arith; room = h; same = refl; places = paste-zero l₀ at ys }

  -- v is the next of ys, and k its place
  pub overwrite-turn : {at : ℕ} {ys l : List A} {n : ℕ} (i k : ℕ) {v : A} (d : A) → k ≡ at + i → i < n → v ≡ get_or ys i d → Overwriting l₀ at ys n l i
      → Overwriting l₀ at ys n (set l k v) (i + 1)
  overwrite-turn {at} {ys} {l} i k {v} d e h ev p = record {
    count = p.count;
    within = omega arith;
    room = p.room;
    same = length-set l k v ∙ p.same;
    places = rw (p.places, e, ev, add-one) (paste-suc l₀ at ys i d (omega (arith, p.room)) (omega (arith, p.count)));
  }

  -- a place that is not written yet
  pub overwrite-ahead : {at : ℕ} {ys l : List A} {n : ℕ} (i k : ℕ) (d : A) → k ≡ at + i → i < n → Overwriting l₀ at ys n l i → get_or l k d ≡ get_or l₀ k d
  overwrite-ahead {at} {ys} {l} i k d e h p =
      let n = length_paste_head l₀ at ys i (omega (arith, p.room)) (omega (arith, p.count, p.within)) in
      rw (p.places, e, drop-cons l₀ (at + i) d (omega (arith, p.room))) (get_or_at (take at l₀ ++ take i ys) _ _ d (at + i) n)

  -- all are written: behind the first places, in front, or everywhere
  pub overwrite-done : {at : ℕ} {ys l : List A} {n : ℕ} (i : ℕ) → n ≤ i → Overwriting l₀ at ys n l i → l ≡ take at l₀ ++ (ys ++ drop (at + length ys) l₀)
  overwrite-done {at} {ys} i h p = let e : i ≡ length ys = omega (arith, p.count, p.within) in
      p.places ∙ rw (append_assoc, take_all i ys (omega arith), e)

  pub overwrite-front : {ys l : List A} {n : ℕ} (i : ℕ) → n ≤ i → Overwriting l₀ 0 ys n l i → l ≡ ys ++ drop n l₀
  overwrite-front {ys} i h p = overwrite-done i h p ∙ rw (zero-add, p.count)

  pub overwrite-all : {ys l : List A} {n : ℕ} (i : ℕ) → n ≤ i → n ≡ length l₀ → Overwriting l₀ 0 ys n l i → l ≡ ys
  overwrite-all {ys} {l} {n} i h e p = overwrite-front i h p ∙ rw (drop_of_length-le l₀ {i = n} (omega arith)) (append-nil ys)

-- ---- a list whose first n elements are mapped in place
module _ {A : Type 0} (g : A → A) {l₀ : List A} where
  pub map-turn : {l : List A} {n : ℕ} (i : ℕ) {v : A} (d : A) → i < n → v ≡ g (get_or l i d) → Overwriting l₀ 0 (map g (take n l₀)) n l i
      → Overwriting l₀ 0 (map g (take n l₀)) n (set l i v) (i + 1)
  map-turn {l} {n} i d h e p =
      let t = overwrite-ahead i i d (omega arith) h p ∙ sym (get_or-take n l₀ i d h) in
      overwrite-turn i i (g d) (omega arith) h (e ∙ ap g t ∙ sym (get_or-map g (take n l₀) i d)) p

-- ---- as many stores as places, one after the other
pub set_all : {A : Type 0} (vs l : List A) → length l ≡ length vs → sets l 0 vs ≡ vs
set_all vs l h = sets-eq vs l 0 (omega arith) ∙ rw (zero-add, drop_of_length-le l {i = length vs} (omega arith)) (append-nil vs)
