-- Before every turn a line is four sections, as they are one sample after the other, that have taken three samples more, each as far as it goes:
-- so what comes out of it is what they answer.
use mathlib.Core.Path.{◌≡◌, refl, sym, ap, ◌∙◌}
use mathlib.Core.Bool.{Bool, false, true, ◌&&◌, cond}
use mathlib.Core.List.{List}
use Prim.Native.Nat.{ℕ, ◌+◌, ◌<◌, ◌≤◌}
use native.Mathlib.Omega.{arith}
use lib.ListN.{length, get_or, set}
use lib.Ieee.{Float, Format, nan}
use lib.Dec.{leb}
use borrow.Author.Tests.{le-leb, le-ltb, leb-true}
use Rattle.lists.proofs.Tests.{both}
use Rattle.runs.specs.Runs.{Block, answers, after, written, block}
use Rattle.runs.proofs.Laws.{Running, run-turn, run-done}
use Rattle.cascade_theory.specs.Skew.{FourRecord, LineRecord, DrainedRecord, RanRecord, four_out, four_next, four, filled, line_out, advanced, drained, ran}

module _ (f : Format) where
  -- ---- a line of three samples: the number that comes out of it, the line with one sample more, and the last three numbers

  out-filled : (c : FourRecord) (x0 x1 x2 : Float) → line_out f (filled f c x0 x1 x2) ≡ four_out f c x0
  unfolding line_out filled four_out
  out-filled c x0 x1 x2 = refl

  advanced-filled : (c : FourRecord) (x0 x1 x2 x3 : Float) → advanced f (filled f c x0 x1 x2) x3 ≡ filled f (four_next f c x0) x1 x2 x3
  unfolding advanced filled four_next
  advanced-filled c x0 x1 x2 x3 = refl

  drained-filled : (c : FourRecord) (x0 x1 x2 : Float)
      → drained f (filled f c x0 x1 x2)
      ≡ record {
        four = four_next f (four_next f (four_next f c x0) x1) x2;
        y0 = four_out f c x0;
        y1 = four_out f (four_next f c x0) x1;
        y2 = four_out f (four_next f (four_next f c x0) x1) x2;
      }
  unfolding drained filled four_next four_out
  drained-filled c x0 x1 x2 = refl

  -- ---- the loop of a run

  -- before sample i: the sections as they are after i samples, and a line that has taken three samples more
  pub record Behind (c₀ : FourRecord) (input output₀ : List Float) (l : LineRecord) (output : List Float) (i : ℕ) : Type 0 where
    pub sections : FourRecord
    pub run : Running (four f) c₀ input output₀ sections output 0 i
    pub held : l ≡ filled f sections (get_or input i nan) (get_or input (i + 1) nan) (get_or input (i + 2) nan)

  module _ (c₀ : FourRecord) (input output₀ : List Float) where
    -- a sample through the sections, one after the other
    turn : {c c' : FourRecord} {output : List Float} {i : ℕ} {y : Float} → i < length input → y ≡ four_out f c (get_or input i nan) → c'
        ≡ four_next f c (get_or input i nan)
        → Running (four f) c₀ input output₀ c output 0 i → Running (four f) c₀ input output₀ c' (set output i y) 0 (i + 1)
    turn h ey ec = run-turn (four f) (λ c x e. e) c₀ input output₀ {b = false} h ey refl ec refl

    pub line-turn : {l l' : LineRecord} {output : List Float} {i : ℕ} {y : Float} → i < length input → y ≡ line_out f l → l'
        ≡ advanced f l (get_or input (i + 3) nan) → Behind c₀ input output₀ l output i
        → Behind c₀ input output₀ l' (set output i y) (i + 1)
    line-turn {l} {l'} {output} {i} {y} h ey el b =
        let c = b.sections in
        let at : ℕ → Float = λ k. get_or input k nan in
        let two : i + 1 + 1 ≡ i + 2 = omega arith in
        let three : i + 1 + 2 ≡ i + 3 = omega arith in
        record {
          sections = four_next f c (at i);
          run = turn h (ey ∙ ap (line_out f) b.held ∙ out-filled c (at i) (at (i + 1)) (at (i + 2))) refl b.run;
          held = el ∙ ap (λ (m : LineRecord). advanced f m (at (i + 3))) b.held ∙ advanced-filled c (at i) (at (i + 1)) (at (i + 2)) (at (i + 3))
              ∙ rw (two, three);
        }

    -- a run whose answers have places is the block of the sections as a filter
    run_is : {c : FourRecord} {output : List Float} → 3 ≤ length input → length input ≤ length output₀
        → ◌≡◌ {A = Block FourRecord} (record { refusal = 0; clouded = 0; state = c; output = output }) (block (four f) c₀ input output₀)
        → record { four = c; done = true; output = output } ≡ ran f c₀ input output₀
    unfolding block ran
    run_is h k e = ap (λ (b : Block FourRecord). record { four = b.state; done = true; output = b.output }) e
        ∙ rw (le-ltb (length output₀) (length input) k, le-leb 3 (length input) h, le-leb (length input) (length output₀) k)

    pub line-done : {l : LineRecord} {d : DrainedRecord} {output : List Float} {i : ℕ} → length input ≤ length output₀ → i + 3 ≡ length input → d ≡ drained f l
        → Behind c₀ input output₀ l output i
        → record { four = d.four; done = true; output = set (set (set output i d.y0) (i + 1) d.y1) (i + 2) d.y2 } ≡ ran f c₀ input output₀
    line-done {l} {d} {output} {i} k e ed b =
        let c = b.sections in
        let at : ℕ → Float = λ k. get_or input k nan in
        let two : i + 1 + 1 ≡ i + 2 = omega arith in
        let z = ed ∙ ap (drained f) b.held ∙ drained-filled c (at i) (at (i + 1)) (at (i + 2)) in
        let r = turn {y = d.y0} (omega arith) (ap (λ (w : DrainedRecord). w.y0) z) refl b.run in
        let s = turn {y = d.y1} (omega arith) (ap (λ (w : DrainedRecord). w.y1) z) refl r in
        let t = turn {c' = d.four} {y = d.y2} (omega arith) (rw two (ap (λ (w : DrainedRecord). w.y2) z)) (rw two (ap (λ (w : DrainedRecord). w.four) z))
        s in
        run_is (omega arith) k (rw two at (run-done (four f) (λ c x e. e) c₀ input output₀ (omega arith) refl k t))

  -- ---- whether a run was made: of three samples or more, with places for their answers; one that was not left the output
  module _ (c : FourRecord) (input output : List Float) where
    asked : Bool
    asked = leb 3 (length input) && leb (length input) (length output)

    ran-done : (ran f c input output).done ≡ asked
    unfolding ran asked
    ran-done = go asked
      where
        go : (b : Bool)
            → (cond {A = RanRecord} b (record { four = after (four f) c input; done = true; output = written (answers (four f) c input) output })
            (record { four = c; done = false; output = output })).done
            ≡ b
        go true = refl
        go false = refl

    was-asked : {b : Bool} {c' : FourRecord} {output' : List Float} → record { four = c'; done = b; output = output' } ≡ ran f c input output → asked ≡ b
    was-asked e = sym ran-done ∙ sym (ap (λ (r : RanRecord). r.done) e)

    pub ran-made : {c' : FourRecord} {output' : List Float} → record { four = c'; done = true; output = output' } ≡ ran f c input output
        → (3 ≤ length input) × (length input ≤ length output)
    unfolding asked
    ran-made e =
        let h = both (leb 3 (length input)) (leb (length input) (length output)) (was-asked e) in
        (leb-true 3 (length input) h.0, leb-true (length input) (length output) h.1)

    pub ran-left : {c' : FourRecord} {output' : List Float} → record { four = c'; done = false; output = output' } ≡ ran f c input output → output' ≡ output
    unfolding ran asked
    ran-left e = ap (λ (r : RanRecord). r.output) e ∙ rw (was-asked e)
