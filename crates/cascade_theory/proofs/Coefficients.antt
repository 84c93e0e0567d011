-- Coefficients that are all finite: those of the counted sections, and those of a cascade's parts.
use mathlib.Core.Path.{◌≡◌, sym, ap, ◌∙◌}
use mathlib.Core.Bool.{Bool, true, false, not, ◌&&◌, ◌||◌, cond}
use mathlib.Core.List.{List, [], ◌∷◌, ◌++◌, map}
use Prim.Native.Nat.{ℕ, zero, suc}
use lib.ListN.{take}
use lib.Ieee.{Float}
use Rattle.std.specs.List.{list_all}
use Rattle.runs.specs.Runs.{all_finite}
use Rattle.runs.proofs.Scan.{all_none, all_append}
use Rattle.cascade_theory.specs.Section.{SectionRecord}
use Rattle.cascade_theory.specs.Cascade.{CascadeRecord}
use Rattle.cascade_theory.specs.Coefficients.{coefficients_of_first, coefficients_of_section, coefficients_of_sections, used_coefficients, finite_coefficients}

abbrev finite_sections : List SectionRecord → Bool
finite_sections ss = all_finite (coefficients_of_sections ss)

one-section : (s : SectionRecord) (ss : List SectionRecord) → finite_sections (s ∷ ss) ≡ (all_finite (coefficients_of_section s) && finite_sections ss)
unfolding coefficients_of_sections
one-section s ss = all_append (coefficients_of_section s) (coefficients_of_sections ss)

-- the counted sections one by one, whatever record the code has for one
pub counted_finite : {A : Type 0} (view : A → SectionRecord) (count : ℕ) (ss : List A)
    → list_all (λ s. all_finite (coefficients_of_section (view s))) (take count ss) ≡ finite_sections (take count (map view ss))
unfolding coefficients_of_sections
counted_finite view zero ss = sym all_none
counted_finite view (suc n) [] = sym all_none
counted_finite view (suc n) (s ∷ ss) =
    ap (λ (b : Bool). all_finite (coefficients_of_section (view s)) && b) (counted_finite view n ss)
    ∙ sym (one-section (view s) (take n (map view ss)))

-- the first-order part, where flagged, and the counted sections
pub used_finite : (c : CascadeRecord)
    → finite_coefficients c ≡ ((not c.has_first || all_finite (coefficients_of_first c.first)) && finite_sections (take c.count c.sections))
unfolding used_coefficients finite_coefficients
used_finite c = go c.has_first
  where
    first : List Float
    first = coefficients_of_first c.first

    counted : List Float
    counted = coefficients_of_sections (take c.count c.sections)

    go : (b : Bool) → all_finite (cond b first [] ++ counted) ≡ ((not b || all_finite first) && all_finite counted)
    go true = all_append first counted
    go false = all_append [] counted ∙ ap (λ (b : Bool). b && all_finite counted) all_none
