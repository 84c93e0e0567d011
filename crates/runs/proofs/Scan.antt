-- Numbers that are not finite: lists of finite ones, and counting those that are not. Some number is not finite exactly when the count is above 0.
use mathlib.Core.Path.{◌≡◌, refl, sym, ap, ◌∙◌}
use mathlib.Core.Bool.{Bool, true, false, not, ◌&&◌, ◌||◌, and_assoc, or-false, or-true}
use mathlib.Core.List.{List, [], ◌∷◌, ◌++◌}
use Prim.Native.Nat.{ℕ, ◌+◌, ◌<◌, ◌≤◌}
use native.Mathlib.Nat.{add-zero}
use native.Mathlib.Omega.{arith}
use lib.Dec.{ltb}
use lib.ListN.{length, get_or, drop}
use lib.Ieee.{Float, nan}
use lib.Ieee.Scale.{finite}
use Rattle.std.specs.Int.{from_bool}
use borrow.Author.Tests.{lt-ltb}
use Rattle.lists.proofs.Folding.{fold-turn, fold_done}
use Rattle.runs.specs.Runs.{not_all_finite, all_finite}

-- all are finite: of one more, and of two lists
finite-first : (b n : Bool) → not (not b || n) ≡ (b && not n)
finite-first true n = refl
finite-first false n = refl

pub all_cons : (x : Float) (xs : List Float) → all_finite (x ∷ xs) ≡ (finite x && all_finite xs)
unfolding not_all_finite
all_cons x xs = finite-first (finite x) (not_all_finite xs)

pub all_none : all_finite [] ≡ true
unfolding not_all_finite
all_none = refl

pub all_append : (xs ys : List Float) → all_finite (xs ++ ys) ≡ (all_finite xs && all_finite ys)
all_append [] ys = ap (λ (b : Bool). b && all_finite ys) (sym all_none)
all_append (x ∷ xs) ys =
    all_cons x (xs ++ ys) ∙ ap (λ (b : Bool). finite x && b) (all_append xs ys) ∙ sym (and_assoc (finite x) (all_finite xs) (all_finite ys))
    ∙ ap (λ (b : Bool). b && all_finite ys) (sym (all_cons x xs))

-- before number i: the count, and what is left to look at, tell of them all
pub record Counting (numbers : List Float) (count i : ℕ) : Type 0 where
  pub few : count ≤ i
  pub tells : (ltb 0 count || not_all_finite (drop i numbers)) ≡ not_all_finite numbers

pub at_most_one : (b : Bool) → from_bool (not b) ≤ 1
at_most_one true = omega arith
at_most_one false = omega arith

one_more : (b r : Bool) (n : ℕ) → (ltb 0 n || (not b || r)) ≡ (ltb 0 (n + from_bool (not b)) || r)
one_more true r n = rw add-zero
one_more false r n = rw (lt-ltb 0 (n + 1) (omega arith)) (or-true (ltb 0 n))

module _ (numbers : List Float) {count : ℕ} (i : ℕ) (p : Counting numbers count i) where
  pub count_turn : {m : ℕ} → i < length numbers → m ≡ from_bool (not (finite (get_or numbers i nan))) → Counting numbers (count + m) (i + 1)
  unfolding not_all_finite
  count_turn {m} h e = record {
    few = omega (arith, p.few, at_most_one (finite (get_or numbers i nan)), e);
    tells = fold-turn (λ xs. ltb 0 count || not_all_finite xs) numbers i (λ xs. ltb 0 (count + m) || not_all_finite xs) nan h
        (λ rest. rw e (one_more (finite (get_or numbers i nan)) (not_all_finite rest) count)) p.tells;
  }

  pub count-done : length numbers ≤ i → ltb 0 count ≡ not_all_finite numbers
  unfolding not_all_finite
  count-done h = sym (or-false (ltb 0 count)) ∙ fold_done (λ xs. ltb 0 count || not_all_finite xs) numbers i h p.tells
