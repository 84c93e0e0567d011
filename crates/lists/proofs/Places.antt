-- A list by its places: its length and elements; a list of equals, its rest and its reverse; a part of a list; and a list of four.
use mathlib.Core.Path.{◌≡◌, refl, ap, ◌∙◌}
use mathlib.Core.Bool.{Bool, true, false}
use mathlib.Core.List.{List, [], ◌∷◌, ◌++◌, map, reverse, reverse-cons}
use Prim.Native.Nat.{ℕ, zero, suc, ◌+◌, ◌-◌, ◌<◌, ◌≤◌, min}
use native.Mathlib.Nat.{sub-zero, zero-sub, suc-sub-suc}
use native.Mathlib.Numerals.{add-one, unary_clauses}
use native.Mathlib.Omega.{arith}
use lib.Dec.{ltb}
use lib.ListN.{length, get_or, set, take, drop, replicate, length-append, length-take, length-drop, replicate-append-replicate, get_or-append}
use lib.Seq.{get_or_at, get_or-take, get_or-drop}
use borrow.Author.Tests.{ltb-true, ltb-false}
use Rattle.lists.specs.Lists.{up_to}

pub up_to-length : {A : Type 0} (g : ℕ → A) (n : ℕ) → length (up_to g n) ≡ n
unfolding up_to
up_to-length g zero = refl
up_to-length g (suc n) = length-append (up_to g n) (g n ∷ []) ∙ ap (λ (k : ℕ). k + 1) (up_to-length g n) ∙ add-one n

pub up_to-at : {A : Type 0} (g : ℕ → A) (n i : ℕ) (d : A) → i < n → g i ≡ get_or (up_to g n) i d
unfolding up_to
up_to-at g zero i d h = absurd (omega arith)
up_to-at g (suc n) i d h = go (ltb i n) refl (up_to-at g n i d)
  where
    go : (b : Bool) → ltb i n ≡ b → (i < n → g i ≡ get_or (up_to g n) i d) → g i ≡ get_or (up_to g n ++ g n ∷ []) i d
    go true e f = let k = ltb-true i n e in
        rw (get_or-append (up_to g n) (g n ∷ []) d i (rw (up_to-length g n) k)) (f k)
    go false e f = let k : n ≡ i = omega (arith, ltb-false i n e) in
        rw (← k, get_or_at (up_to g n) (g n) [] d n (up_to-length g n))

pub drop-replicate : {A : Type 0} (n i : ℕ) (a : A) → drop i (replicate n a) ≡ replicate (n - i) a
drop-replicate n zero a = rw (sub-zero)
drop-replicate zero (suc i) a = rw (zero-sub)
drop-replicate (suc n) (suc i) a = rw (suc-sub-suc) (drop-replicate n i a)

pub reverse-replicate : {A : Type 0} (n : ℕ) (a : A) → reverse (replicate n a) ≡ replicate n a
reverse-replicate zero a = refl
reverse-replicate (suc n) a = reverse-cons a (replicate n a) ∙ ap (λ t. t ++ a ∷ []) (reverse-replicate n a) ∙ replicate-append-replicate n 1 a ∙ rw add-one

pub map-set : {A B : Type 0} (g : A → B) (l : List A) (i : ℕ) (a : A) → map g (set l i a) ≡ set (map g l) i (g a)
map-set g [] i a = refl
map-set g (x ∷ l) zero a = refl
map-set g (x ∷ l) (suc i) a = ap (λ (t : List _). g x ∷ t) (map-set g l i a)

-- ---- a part of a list
module _ {A : Type 0} (x : List A) (from m : ℕ) where
  pub part_length : from + m ≤ length x → length (take m (drop from x)) ≡ m
  part_length h = simp (length-take, length-drop) (omega arith)

  pub part_at : (j : ℕ) (d : A) → j < m → get_or (take m (drop from x)) j d ≡ get_or x (from + j) d
  part_at j d h = get_or-take m (drop from x) j d h ∙ get_or-drop from x j d

pub take_min : {A : Type 0} (m n : ℕ) (l : List A) → take m (take n l) ≡ take (min m n) l
take_min zero n l = simp unary_clauses
take_min (suc m) zero l = simp unary_clauses
take_min (suc m) (suc n) [] = simp unary_clauses
take_min (suc m) (suc n) (x ∷ l) = simp unary_clauses (ap (λ t. x ∷ t) (take_min m n l))

-- ---- a list of four
pub four-places : {A : Type 0} (l : List A) (d : A) → length l ≡ 4 → get_or l 0 d ∷ get_or l 1 d ∷ get_or l 2 d ∷ get_or l 3 d ∷ [] ≡ l
four-places [] d h = absurd (omega arith)
four-places (a ∷ []) d h = absurd (omega arith)
four-places (a ∷ b ∷ []) d h = absurd (omega arith)
four-places (a ∷ b ∷ c ∷ []) d h = absurd (omega arith)
four-places (a ∷ b ∷ c ∷ e ∷ []) d h = refl
four-places (a ∷ b ∷ c ∷ e ∷ f ∷ l) d h = absurd (omega arith)
