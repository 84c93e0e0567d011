-- The forgetting rule of a cascade, at every format: values, then marks, then what a reset leaves.
use mathlib.Core.Path.{◌≡◌, refl, sym, ap, ap₂, ◌∙◌}
use mathlib.Core.Bool.{Bool, true, false, not, ◌||◌, cond, or_comm, or-false, false≢true}
use mathlib.Core.List.{List, [], ◌∷◌, ◌++◌, map, map-map, reverse, reverse-cons}
use Prim.Native.Nat.{ℕ, zero, suc}
use native.Mathlib.Omega.{arith}
use lib.Ieee.{Float, Format}
use lib.Ieee.Scale.{finite}
use Rattle.limits.specs.Zero.{plus_zero}
use Rattle.runs.specs.Runs.{marked, not_all_finite, Fresh, answer, reset}
use Rattle.runs.specs.Forgetting.{Call, run}
use Rattle.runs.proofs.Laws.{reset-fresh}
use Rattle.runs.proofs.Forgetting as runs
use Rattle.runs.proofs.Forgetting.{Simulates}
use Rattle.cascade_theory.specs.Section.{SectionRecord, cleared_section, section_out, section_next}
use Rattle.cascade_theory.specs.FirstOrder.{FirstOrderRecord, first_out, first_next}
use Rattle.cascade_theory.specs.Parts.{sections_out, sections_next}
use Rattle.cascade_theory.specs.Cascade.{CascadeRecord, check_cascade, cleared_cascade, clouding, entered, value, moved, mark, next, cascade}
use Rattle.cascade_theory.specs.Plain.{SectionCoefficients, Coefficients, section_coefficients, first_coefficients, coefficients_of, section_of, first_of}
use Rattle.cascade_theory.specs.Plain.{last, pass_first, pass_section, pass_sections, pass_all, plain_value, plain_cascade, CascadeForgets}
use Rattle.cascade_theory.proofs.Laws.{check-next}

-- the record that has these coefficients and has taken no sample
idle : Coefficients → CascadeRecord
idle g = record { sections = map section_of g.sections; count = g.count; first = first_of g.first; has_first = g.has_first; clouded = false }

-- ---- a reset leaves that record

cleared-idle : (c : CascadeRecord) → cleared_cascade c ≡ idle (coefficients_of c)
unfolding cleared_cascade idle
cleared-idle c = rw (map-map section_of section_coefficients c.sections)

fed-cleared : (c : CascadeRecord) → coefficients_of (cleared_cascade c) ≡ coefficients_of c
unfolding cleared_cascade
fed-cleared c = rw (map-map section_coefficients cleared_section c.sections)

check-cleared : (c : CascadeRecord) → check_cascade c ≡ true → check_cascade (cleared_cascade c) ≡ true
unfolding check_cascade cleared_cascade
check-cleared c h = h

module _ (f : Format) where
  -- an accepted reset returns a fresh record
  pub reset-makes-fresh : (c : CascadeRecord) → (reset (cascade f) c).refusal ≡ 0 → Fresh (cascade f) (reset (cascade f) c).state
  unfolding cleared_cascade
  reset-makes-fresh c = reset-fresh (cascade f) c (λ e. omega arith)
      (λ h. record { checked = check-cleared c h; cleared = rw (map-map cleared_section cleared_section c.sections) })

  -- ---- a sample leaves the coefficients

  sections-next : (n : ℕ) (ss : List SectionRecord) (x : Float) → map section_coefficients (sections_next f n ss x) ≡ map section_coefficients ss
  sections-next zero ss x = refl
  sections-next (suc n) [] x = refl
  sections-next (suc n) (s ∷ ss) x = ap (λ (l : List SectionCoefficients). section_coefficients s ∷ l) (sections-next n ss (section_out f s x))

  first-next-is : (b : Bool) (p : FirstOrderRecord) (x : Float) → first_coefficients (cond b (first_next f p x) p) ≡ first_coefficients p
  first-next-is true p x = refl
  first-next-is false p x = refl

  fed-next : (c : CascadeRecord) (x : Float) → coefficients_of (next f c x) ≡ coefficients_of c
  unfolding next moved
  fed-next c x = rw (sections-next c.count c.sections (entered f c x), first-next-is c.has_first c.first x)

  -- ---- values: stage by stage over a list is sample by sample over the stages

  -- whatever the stages carry
  through : ℕ → List SectionRecord → List Float → List Float
  through zero ss xs = xs
  through (suc n) [] xs = xs
  through (suc n) (s ∷ ss) xs = through n ss (pass_section f s xs)

  sections-through : (n : ℕ) (gs : List SectionCoefficients) (xs : List Float) → pass_sections f n gs xs ≡ through n (map section_of gs) xs
  unfolding pass_sections through
  sections-through zero gs xs = refl
  sections-through (suc n) [] xs = refl
  sections-through (suc n) (g ∷ gs) xs = sections-through n gs (pass_section f (section_of g) xs)

  through-cons : (n : ℕ) (ss : List SectionRecord) (x : Float) (xs : List Float) → through n ss (x ∷ xs)
      ≡ sections_out f n ss x ∷ through n (sections_next f n ss x) xs
  unfolding through pass_section
  through-cons zero ss x xs = refl
  through-cons (suc n) [] x xs = refl
  through-cons (suc n) (s ∷ ss) x xs = through-cons n ss (section_out f s x) (pass_section f (section_next f s x) xs)

  through-nil : (n : ℕ) (ss : List SectionRecord) → through n ss [] ≡ []
  unfolding through pass_section
  through-nil zero ss = refl
  through-nil (suc n) [] = refl
  through-nil (suc n) (s ∷ ss) = through-nil n ss

  first-cons : (b : Bool) (p : FirstOrderRecord) (x : Float) (xs : List Float)
      → cond b (pass_first f p (x ∷ xs)) (x ∷ xs) ≡ cond b (first_out f p x) x ∷ cond b (pass_first f (cond b (first_next f p x) p) xs) xs
  unfolding pass_first
  first-cons true p x xs = refl
  first-cons false p x xs = refl

  first-nil : (b : Bool) (p : FirstOrderRecord) → cond b (pass_first f p []) [] ≡ []
  unfolding pass_first
  first-nil true p = refl
  first-nil false p = refl

  pass : CascadeRecord → List Float → List Float
  pass c xs = through c.count c.sections (cond c.has_first (pass_first f c.first xs) xs)

  pass-cons : (c : CascadeRecord) (x : Float) (xs : List Float) → pass c (x ∷ xs) ≡ value f c x ∷ pass (next f c x) xs
  unfolding pass value next moved
  pass-cons c x xs = ap (through c.count c.sections) (first-cons c.has_first c.first x xs) ∙ through-cons c.count c.sections (entered f c x) _

  pass-nil : (c : CascadeRecord) → pass c [] ≡ []
  unfolding pass
  pass-nil c = ap (through c.count c.sections) (first-nil c.has_first c.first) ∙ through-nil c.count c.sections

  -- the record after samples, oldest first
  ahead : CascadeRecord → List Float → CascadeRecord
  ahead c [] = c
  ahead c (x ∷ xs) = ahead (next f c x) xs

  ahead-snoc : (c : CascadeRecord) (xs : List Float) (x : Float) → ahead c (xs ++ x ∷ []) ≡ next f (ahead c xs) x
  unfolding ahead
  ahead-snoc c [] x = refl
  ahead-snoc c (z ∷ xs) x = ahead-snoc (next f c z) xs x

  last-pass : (c : CascadeRecord) (xs : List Float) (x d : Float) → last d (pass c (xs ++ x ∷ [])) ≡ value f (ahead c xs) x
  unfolding ahead last
  last-pass c [] x d = rw (pass-cons c x [], pass-nil (next f c x))
  last-pass c (z ∷ xs) x d = rw (pass-cons c z (xs ++ x ∷ [])) (last-pass (next f c z) xs x (value f c z))

  -- ---- the record that the kept samples made of an idle one
  after : Coefficients → List Float → CascadeRecord
  after g [] = idle g
  after g (x ∷ kept) = next f (after g kept) x

  after-ahead : (g : Coefficients) (kept : List Float) → after g kept ≡ ahead (idle g) (reverse kept)
  unfolding after ahead
  after-ahead g [] = refl
  after-ahead g (x ∷ kept) = ap (λ (c : CascadeRecord). next f c x) (after-ahead g kept) ∙ sym (ahead-snoc (idle g) (reverse kept) x)
      ∙ ap (ahead (idle g)) (sym (reverse-cons x kept))

  value_after : (g : Coefficients) (kept : List Float) (x : Float) → value f (after g kept) x ≡ plain_value f g (x ∷ kept)
  unfolding plain_value pass_all pass idle
  value_after g kept x =
      ap (λ (c : CascadeRecord). value f c x) (after-ahead g kept) ∙ sym (last-pass (idle g) (reverse kept) x plus_zero)
      ∙ ap (λ (l : List Float). last plus_zero (pass (idle g) l)) (sym (reverse-cons x kept))
      ∙ ap (last plus_zero) (sym (sections-through g.count g.sections
      (cond g.has_first (pass_first f (first_of g.first) (reverse (x ∷ kept))) (reverse (x ∷ kept)))))

  mark-after : (g : Coefficients) (kept : List Float) (x : Float) → mark f (after g kept) x ≡ not_all_finite (x ∷ kept)
  unfolding after idle mark next clouding not_all_finite
  mark-after g [] x = sym (or-false (not (finite x)))
  mark-after g (z ∷ kept) x = ap (λ (b : Bool). b || not (finite x)) (mark-after g kept z) ∙ or_comm (not_all_finite (z ∷ kept)) (not (finite x))

  -- ---- the rule
  record Beside (g : Coefficients) (since : Bool) (kept : List Float) (c : CascadeRecord) : Type 0 where
    pub good : check_cascade c ≡ true
    pub fed : coefficients_of c ≡ g
    pub made : since ≡ true → c ≡ after g kept

  since-reset : (since : Bool) → since || false ≡ true → since ≡ true
  since-reset since e = sym (or-false since) ∙ e

  simulates : (g : Coefficients) → Simulates (cascade f) (plain_cascade f) g
  unfolding after
  simulates g = record {
    Beside = Beside g;
    good = λ b. b.good;
    turn = λ {since} {kept} {s} x b. record {
      good = check-next f s x b.good;
      fed = fed-next s x ∙ b.fed;
      made = λ e. ap (λ (c : CascadeRecord). next f c x) (b.made e);
    };
    clear = λ {since} {kept} {s} b. record { good = check-cleared s b.good; fed = fed-cleared s ∙ b.fed; made = λ e. cleared-idle s ∙ ap idle b.fed };
    same = λ {since} {kept} {s} x b e.
        ap (λ (c : CascadeRecord). answer (cascade f) c x) (b.made (since-reset since e)) ∙ ap₂ marked (mark-after g kept x) (value_after g kept x);
  }

  pub forgets : (c : CascadeRecord) (calls : List Call) → CascadeForgets f c calls (run (cascade f) c calls)
  unfolding after simulates
  forgets c =
      runs.forgets (cascade f) (plain_cascade f) coefficients_of c (simulates (coefficients_of c))
      (λ h. record { good = h; fed = refl; made = λ e. absurd (false≢true e) })
      (λ fresh. record { good = fresh.checked; fed = refl; made = λ e. sym fresh.cleared ∙ cleared-idle c })
