-- Both kinds of record are read back from slices as they were written into them.
use mathlib.Core.Path.{◌≡◌, refl, ap, ◌∙◌, subst}
use mathlib.Core.Bool.{Bool, true, false}
use mathlib.Core.List.{List, [], ◌∷◌}
use Prim.Native.Nat.{ℕ, zero, suc}
use native.Mathlib.Omega.{arith}
use lib.Dec.{eqb}
use lib.ListN.{length, length-map, length-replicate}
use lib.Ieee.{Float, Format, binary64}
use Rattle.limits.specs.Zero.{plus_zero}
use Rattle.cascade_theory.specs.Section.{SectionRecord, blank_section, cleared_section, section_out}
use Rattle.cascade_theory.specs.Parts.{sections_next}
use Rattle.cascade_theory.specs.Cascade.{CascadeRecord, cleared_cascade, entered, moved, next}
use Rattle.cascade_theory.proofs.Laws.{check-next}
use Rattle.fir_theory.specs.Fir as Fir
use Rattle.fir_theory.specs.Fir.{TapsRecord, cleared_taps}
use Rattle.limits.specs.Limits.{max_sections, max_taps}
use Rattle.fir_theory.specs.Lent.{fits}
use Rattle.fir_theory.proofs.Laws as Taps
use Rattle.fir_theory.proofs.Laws.{fits_next, fits-lengths, lengths-fit}
use Rattle.c_layout.specs.Layout.{count_places, cascade_at, cascade_numbers, sections_numbers, cascade_counts, cascade_places, cascade_fits}
use Rattle.lists.proofs.Places.{four-places}
use Rattle.lists.proofs.Tests.{both}
use Rattle.c_calls.specs.Kinds.{taps_at, taps_counts, taps_fit, cascade_kind, fir_kind}
use Rattle.c_calls.proofs.Lists.{ReadBack}

-- ---- a cascade: it has four sections

next-length : (f : Format) (n : ℕ) (ss : List SectionRecord) (x : Float) → length (sections_next f n ss x) ≡ length ss
next-length f zero ss x = refl
next-length f (suc n) [] x = refl
next-length f (suc n) (s ∷ ss) x = ap suc (next-length f n ss (section_out f s x))

pub cascade-back : (c : CascadeRecord) → length c.sections ≡ max_sections → (cascade_at (cascade_numbers c) (cascade_counts c) ≡ c)
    × (cascade_fits (cascade_numbers c) (cascade_counts c) ≡ true)
unfolding cascade_at cascade_numbers sections_numbers cascade_counts cascade_places cascade_fits
cascade-back c h =
    subst (λ (ss : List SectionRecord). Back ss c.has_first c.clouded) (four-places c.sections blank_section h) (go _ _ _ _ c.has_first c.clouded)
  where
    with : List SectionRecord → Bool → Bool → CascadeRecord
    with ss a b = record { sections = ss; count = c.count; first = c.first; has_first = a; clouded = b }

    Back : List SectionRecord → Bool → Bool → Type 0
    Back ss a b = (cascade_at (cascade_numbers (with ss a b)) (cascade_counts (with ss a b)) ≡ with ss a b)
        × (cascade_fits (cascade_numbers (with ss a b)) (cascade_counts (with ss a b)) ≡ true)

    go : (s₀ s₁ s₂ s₃ : SectionRecord) (a b : Bool) → Back (s₀ ∷ s₁ ∷ s₂ ∷ s₃ ∷ []) a b
    go s₀ s₁ s₂ s₃ true true = (refl, refl)
    go s₀ s₁ s₂ s₃ true false = (refl, refl)
    go s₀ s₁ s₂ s₃ false true = (refl, refl)
    go s₀ s₁ s₂ s₃ false false = (refl, refl)

pub cascade-read-back : ReadBack cascade_kind
unfolding cascade_at next moved cleared_cascade
cascade-read-back = record {
  Good = λ c. length c.sections ≡ max_sections;
  good-read = λ numbers counts fit. refl;
  good-next = λ c x h g. next-length binary64 c.count c.sections (entered binary64 c x) ∙ g;
  good-cleared = λ c g. length-map c.sections cleared_section ∙ g;
  keeps = check-next binary64;
  back = λ c g. (cascade-back c g).0;
  fit-back = λ c g. (cascade-back c g).1;
  numbered = ((λ e. omega (arith, e)), (λ e. omega (arith, e)));
}

-- ---- a tap record with these taps: its slices have as many places as the tap limit

pub taps-fit : (taps samples : List Float) (counts : List ℕ) → taps_fit taps samples counts ≡ true → fits max_taps (taps_at taps samples counts) ≡ true
unfolding taps_fit
taps-fit taps samples counts h = (both (eqb (length counts) count_places) _ h).1

pub taps-back : (taps : List Float) (r : TapsRecord) → r.taps ≡ taps → fits max_taps r ≡ true → (taps_at taps r.samples (taps_counts r) ≡ r)
    × (taps_fit taps r.samples (taps_counts r) ≡ true)
unfolding taps_at taps_counts taps_fit
taps-back taps r e h = (rw (← e), rw (← e) h)

pub fir-read-back : (taps : List Float) → ReadBack (fir_kind taps)
unfolding taps_at Fir.next cleared_taps
fir-read-back taps = record {
  Good = λ r. (r.taps ≡ taps) × (fits max_taps r ≡ true);
  good-read = λ samples counts fit. (refl, taps-fit taps samples counts fit);
  good-next = λ r x h g. (g.0, fits_next max_taps r x g.1 h);
  good-cleared = λ r g. (g.0, lengths-fit max_taps (cleared_taps max_taps r) (fits-lengths max_taps r g.1).0 (length-replicate max_taps plus_zero));
  keeps = Taps.check-next max_taps;
  back = λ r g. (taps-back taps r g.0 g.1).0;
  fit-back = λ r g. (taps-back taps r g.0 g.1).1;
  numbered = ((λ e. omega (arith, e)), (λ e. omega (arith, e)));
}
