-- What slices hold, where they have a cascade's places and where they do not.
use mathlib.Core.Path.{◌≡◌, refl, ap, ◌∙◌}
use mathlib.Core.Bool.{Bool, true, false, cond}
use mathlib.Core.List.{List, map}
use native.Mathlib.Omega.{arith}
use Prim.Native.Nat.{ℕ, ◌*◌, ◌/◌}
use lib.Dec.{eqb, leb}
use lib.ListN.{length, get_or, drop}
use lib.Seq.{get_or-drop}
use lib.Ieee.{Float, nan}
use borrow.Author.Tests.{eq-eqb, eqb-true}
use Rattle.std.specs.Prelude.{Some, None}
use Rattle.std.specs.Int.{from_bool}
use Rattle.std.specs.Simd.{first_chunks}
use Rattle.cascade_theory.specs.Section.{SectionRecord}
use Rattle.cascade_theory.specs.Cascade.{CascadeRecord, blank_cascade}
use Rattle.c_layout.specs.Layout.{section_places, sections_places, cascade_length, count_places, section_at}
use Rattle.c_layout.specs.Layout.{cascade_places, cascade_fits, cascade_at, cascade_in, flag}
use Rattle.lists.proofs.Tests.{both}
use Rattle.c_layout.proofs.Rows.{rows}

pub places-lengths : (ns : List Float) (cs : List ℕ) → cascade_places ns cs ≡ true → (length ns ≡ cascade_length) × (length cs ≡ count_places)
unfolding cascade_places
places-lengths ns cs h = let p = both (eqb (length ns) cascade_length) (eqb (length cs) count_places) h in (eqb-true _ _ p.0, eqb-true _ _ p.1)

not-in : (b : Bool) → (b ≡ true → ⊥) → b ≡ false
not-in true h = absurd (h refl)
not-in false h = refl

pub misplaced : (ns : List Float) (cs : List ℕ) → (length ns ≡ cascade_length → length cs ≡ count_places → ⊥) → cascade_places ns cs ≡ false
misplaced ns cs h = not-in (cascade_places ns cs) (λ t. let l = places-lengths ns cs t in h l.0 l.1)

pub lengths-places : (ns : List Float) (cs : List ℕ) → length ns ≡ cascade_length → length cs ≡ count_places → cascade_places ns cs ≡ true
unfolding cascade_places
lengths-places ns cs h k = rw (eq-eqb (length ns) cascade_length h, eq-eqb (length cs) count_places k)

pub fits-places : (ns : List Float) (cs : List ℕ) → cascade_fits ns cs ≡ true → cascade_places ns cs ≡ true
unfolding cascade_fits
fits-places ns cs h = (both (cascade_places ns cs) _ h).0

-- what it says of slices that a cascade is read from them, or none
module _ (ns : List Float) (cs : List ℕ) where
  pub in-none : None ≡ cascade_in ns cs → cascade_fits ns cs ≡ false
  unfolding cascade_in
  in-none = go (cascade_fits ns cs)
    where
      go : (b : Bool) → None ≡ cond b (Some (cascade_at ns cs)) None → b ≡ false
      go true h = cc
      go false h = refl

  pub in-some : {c : CascadeRecord} → Some c ≡ cascade_in ns cs → (cascade_fits ns cs ≡ true) × (c ≡ cascade_at ns cs)
  unfolding cascade_in
  in-some {c} = go (cascade_fits ns cs)
    where
      go : (b : Bool) → Some c ≡ cond b (Some (cascade_at ns cs)) None → (b ≡ true) × (c ≡ cascade_at ns cs)
      go true h = (refl, cc)
      go false h = cc

-- a flag as a number
pub flag_from : (b : Bool) → from_bool b ≡ flag b
flag_from true = refl
flag_from false = refl

module _ (ns : List Float) (cs : List ℕ) where
  -- a flag that is neither 0 nor 1, and the last flag
  pub fits-flagged : cascade_places ns cs ≡ true → leb (get_or cs 1 0) 1 ≡ false → false ≡ cascade_fits ns cs
  unfolding cascade_fits
  fits-flagged h k = rw (h, k)

  pub fits_last : cascade_places ns cs ≡ true → leb (get_or cs 1 0) 1 ≡ true → leb (get_or cs 2 0) 1 ≡ cascade_fits ns cs
  unfolding cascade_fits
  fits_last h k = rw (h, k)

  -- what is read where they can be one, and where they cannot
  pub read-in : {c : CascadeRecord} → cascade_fits ns cs ≡ true → c ≡ cond (cascade_places ns cs) (cascade_at ns cs) blank_cascade → Some c ≡ cascade_in ns cs
  unfolding cascade_in
  read-in h e = rw h (ap Some (rw (fits-places ns cs h) at e))

  pub none-in : cascade_fits ns cs ≡ false → None ≡ cascade_in ns cs
  unfolding cascade_in
  none-in h = rw h refl

  -- a cascade's sections are read from rows of seven, and the first-order part from what is behind them
  pub assembled-is : {ss : List SectionRecord} {fs : List Float} → length ns ≡ cascade_length
      → ss ≡ map (λ r. section_at r 0) (first_chunks section_places (length ns / section_places) ns)
      → fs ≡ drop (length ns / section_places * section_places) ns
      → record {
        sections = ss;
        count = get_or cs 0 0;
        first = record { b0 = get_or fs 0 nan; b1 = get_or fs 1 nan; a1 = get_or fs 2 nan; w = get_or fs 3 nan };
        has_first = eqb (get_or cs 1 0) 1;
        clouded = eqb (get_or cs 2 0) 1;
      } ≡ cascade_at ns cs
  unfolding cascade_at
  assembled-is h es ef =
      let f : length ns / section_places * section_places ≡ sections_places = omega arith in
      rw (es ∙ rows ns h, ef ∙ ap (λ (i : ℕ). drop i ns) f)
      (rw (
        get_or-drop sections_places ns 0 nan,
        get_or-drop sections_places ns 1 nan,
        get_or-drop sections_places ns 2 nan,
        get_or-drop sections_places ns 3 nan,
      ) refl)
