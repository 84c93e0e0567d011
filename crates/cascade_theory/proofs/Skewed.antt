-- A block that can run skewed is a run of its four sections: no sample clouds it, so a step does what the four sections do, and nothing else.
use mathlib.Core.Path.{◌≡◌, refl, ap, ◌∙◌}
use mathlib.Core.Bool.{Bool, true, false, not}
use mathlib.Core.List.{List, [], ◌∷◌}
use Prim.Native.Nat.{ℕ, ◌≤◌}
use native.Mathlib.Nat.{zero-add}
use lib.ListN.{length}
use lib.Ieee.{Float, Format}
use lib.Ieee.Scale.{finite}
use borrow.Author.Tests.{le-leb, le-ltb}
use Rattle.lists.proofs.Tests.{neither}
use Rattle.limits.specs.Limits.{max_sections}
use Rattle.runs.specs.Runs.{Answer, clear, clouded_in, written, not_all_finite, step, answers, after, block}
use Rattle.cascade_theory.specs.Section.{SectionRecord}
use Rattle.cascade_theory.specs.FirstOrder.{FirstOrderRecord}
use Rattle.cascade_theory.specs.Skew.{FourRecord, RanRecord, four_out, four_next, four, ran}
use Rattle.cascade_theory.specs.Cascade.{CascadeRecord, check_cascade, clouding, value, moved, mark, next, cascade}
use Rattle.cascade_theory.specs.Skewed.{listed, Skewable}
use Rattle.cascade_theory.proofs.Skew.{ran-made}

-- a cascade of these sections alone, with this unused first-order part
abbrev of_four : FirstOrderRecord → FourRecord → CascadeRecord
of_four p c = record { sections = listed c; count = max_sections; first = p; has_first = false; clouded = false }

module _ (f : Format) (p : FirstOrderRecord) where
  step-four : (c : FourRecord) (x : Float) → not (finite x) ≡ false → step (cascade f) (of_four p c) x
      ≡ record { answer = clear (four_out f c x); state = of_four p (four_next f c x) }
  unfolding step check_cascade value moved mark next clouding four_out four_next
  step-four c x h = rw h

  answers-four : (c : FourRecord) (xs : List Float) → not_all_finite xs ≡ false → answers (cascade f) (of_four p c) xs ≡ answers (four f) c xs
  unfolding answers not_all_finite step
  answers-four c [] h = refl
  answers-four c (x ∷ xs) h = let e = neither (not (finite x)) (not_all_finite xs) h in
      rw (step-four c x e.0) (ap (λ (l : List Answer). clear (four_out f c x) ∷ l) (answers-four (four_next f c x) xs e.1))

  after-four : (c : FourRecord) (xs : List Float) → not_all_finite xs ≡ false → after (cascade f) (of_four p c) xs ≡ of_four p (after (four f) c xs)
  unfolding after not_all_finite step
  after-four c [] h = refl
  after-four c (x ∷ xs) h = let e = neither (not (finite x)) (not_all_finite xs) h in rw (step-four c x e.0) (after-four (four_next f c x) xs e.1)

  none-clouded : (c : FourRecord) (xs : List Float) → clouded_in (answers (four f) c xs) ≡ 0
  unfolding answers clouded_in step
  none-clouded c [] = refl
  none-clouded c (x ∷ xs) = zero-add _ ∙ none-clouded (four_next f c x) xs

  block-four : (c : FourRecord) (input output : List Float) {r : RanRecord} → 3 ≤ length input → not_all_finite input ≡ false → length input ≤ length output → r
      ≡ ran f c input output
      → record { refusal = 0; clouded = 0; state = of_four p r.four; output = r.output } ≡ block (cascade f) (of_four p c) input output
  unfolding block ran check_cascade
  block-four c input output {r} n h k e =
      let q : r ≡ record { four = after (four f) c input; done = true; output = written (answers (four f) c input) output } = e
      ∙ rw (le-leb 3 (length input) n, le-leb (length input) (length output) k) in
      rw (
        ap (λ (t : RanRecord). t.four) q,
        ap (λ (t : RanRecord). t.output) q,
        le-ltb (length output) (length input) k,
        answers-four c input h,
        after-four c input h,
        none-clouded c input,
      )

-- whatever record has these sections: a run that was made had samples enough and places for their answers
pub block-skewed : (f : Format) (c : FourRecord) (input output : List Float) {c' : FourRecord} {ss ss' : List SectionRecord} {n : ℕ} {p : FirstOrderRecord}
    {b d : Bool} {output' : List Float} → listed c ≡ ss → listed c' ≡ ss'
    → (3 ≤ length input → Skewable (record { sections = ss; count = n; first = p; has_first = b; clouded = d }) input)
    → record { four = c'; done = true; output = output' } ≡ ran f c input output
    → record { refusal = 0; clouded = 0; state = record { sections = ss'; count = n; first = p; has_first = b; clouded = d }; output = output' }
    ≡ block (cascade f) (record { sections = ss; count = n; first = p; has_first = b; clouded = d }) input output
block-skewed f c input output {p = p} l l' skewable e =
    let h = ran-made f c input output e in
    let s = skewable h.0 in
    rw (← l, ← l', s.four, s.alone, s.clear) (block-four f p c input output s.enough s.finite h.1 e)
