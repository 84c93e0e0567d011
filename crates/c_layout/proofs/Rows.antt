-- A cascade's numbers in rows of a section each, and what an array's `map` gives.
use mathlib.Core.Path.{◌≡◌, refl, sym, ap, ap₂, ◌∙◌}
use mathlib.Core.List.{List, [], ◌∷◌, ◌++◌, map, map-id}
use Prim.Native.Nat.{ℕ, zero, suc, ◌+◌, ◌*◌, ◌/◌}
use native.Mathlib.Nat.{add-zero}
use native.Mathlib.Numerals.{add-one}
use native.Mathlib.Omega.{arith}
use lib.ListN.{length, take, drop, drop_of_length-le}
use lib.Seq.{drop-cons, drop-drop}
use lib.Ieee.{Float, nan}
use denote.Param.Members.{Mut, Called}
use Rattle.std.specs.Array.{IsMapOf, MapsFrom}
use Rattle.std.specs.Simd.{first_chunks}
use Rattle.lists.proofs.Places.{part_at}
use Rattle.std.specs.List.{flat_map}
use Rattle.sections.specs.View.{section_view}
use Rattle.sections.specs.declared.section.Section.{Section}
use Rattle.c_layout.specs.Layout.{section_places, cascade_length, section_at, section_numbers, sections_numbers}

-- ---- an array's `map` by a function that computes: v of what it is given is w of what it gives
module _ {F A B C : Type 0} {g : Mut F (A × Unit {0}) B} (v : A → C) (w : B → C) (calls : (p q : F) (x : A) (y : B) → Called g p (x, tt) y q → w y ≡ v x)
    (xs : List A) (ys : List B) where
  from : (n i : ℕ) (f : F) → i + n ≡ length xs → i + n ≡ length ys → MapsFrom g f xs ys i n → map w (drop i ys) ≡ map v (drop i xs)
  from zero i f h k m = simp (drop_of_length-le ys {i = i} (omega arith), drop_of_length-le xs {i = i} (omega arith))
  from (suc n) i f h k (q, x, y, ex, ey, called, rest) =
      let dx : drop i xs ≡ x ∷ drop (i + 1) xs = rw add-one (drop-cons xs i x (omega arith) ∙ ap (λ (z : A). z ∷ drop (suc i) xs) ex.0) in
      let dy : drop i ys ≡ y ∷ drop (i + 1) ys = rw add-one (drop-cons ys i y (omega arith) ∙ ap (λ (z : B). z ∷ drop (suc i) ys) ey.0) in
      rw (dx, dy) (ap₂ ◌∷◌ (calls f q x y called) (from n (i + 1) q (omega arith) (omega arith) rest))

  pub mapped : {f : F} {n : ℕ} → length xs ≡ n → IsMapOf g f xs ys n → map w ys ≡ map v xs
  mapped {f} {n} h m = from n 0 f (omega arith) (omega (arith, m.long)) m.each

-- ---- four rows of seven
row : (ns : List Float) (k : ℕ) → section_at (take section_places (drop k ns)) 0 ≡ section_at ns k
row ns k = rw (
  part_at ns k 7 0 nan (omega arith),
  part_at ns k 7 1 nan (omega arith),
  part_at ns k 7 2 nan (omega arith),
  part_at ns k 7 3 nan (omega arith),
  part_at ns k 7 4 nan (omega arith),
  part_at ns k 7 5 nan (omega arith),
  part_at ns k 7 6 nan (omega arith),
  add-zero k,
)

pub rows : (ns : List Float) → length ns ≡ cascade_length
    → map (λ r. section_at r 0) (first_chunks section_places (length ns / section_places) ns)
    ≡ section_at ns 0 ∷ section_at ns section_places ∷ section_at ns (2 * section_places) ∷ section_at ns (3 * section_places) ∷ []
rows ns h =
    let n : length ns / section_places ≡ 4 = omega arith in
    rw (n, drop-drop section_places section_places ns, drop-drop section_places (2 * section_places) ns) (rw (row ns 0, row ns 7, row ns 14, row ns 21) refl)

-- ---- and back
joined : (ss : List Section) → flat_map (λ r. r) (map (λ s. section_numbers (section_view s)) ss) ≡ sections_numbers (map section_view ss)
unfolding sections_numbers
joined [] = refl
joined (s ∷ ss) = ap (λ (z : List Float). section_numbers (section_view s) ++ z) (joined ss)

pub joined-rows : (ss : List Section) (rs : List (List Float)) → map (λ r. r) rs ≡ map (λ s. section_numbers (section_view s)) ss
    → flat_map (λ r. r) rs ≡ sections_numbers (map section_view ss)
joined-rows ss rs h = let e : rs ≡ map (λ s. section_numbers (section_view s)) ss = sym (map-id rs) ∙ h in rw e (joined ss)
