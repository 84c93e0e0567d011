-- A record that is read from lent slices, run by value, and written back where it was not refused.
use mathlib.Core.Path.{◌≡◌, refl, sym, ap, ap₂, ◌∙◌}
use mathlib.Core.Bool.{Bool, true, false}
use mathlib.Core.List.{List}
use Prim.Native.Nat.{ℕ}
use native.Mathlib.Omega.{arith}
use lib.Dec.{ltb}
use lib.ListN.{length}
use lib.Ieee.{Float}
use borrow.Author.Tests.{eq-eqb, ne_eqb, ltb-true, ltb-false}
use Rattle.runs.specs.Refusals.{bad_call}
use Rattle.runs.specs.Runs.{Filter, Answer, Step, Reset, Block, refused, refusal_of, step, reset, block}
use Rattle.runs.proofs.Laws.{step_is, step-refused, reset-done, reset-refused, block-is, block-short, block_refused}
use Rattle.runs.proofs.Lent.{unfit-step, unfit-reset, unfit-block, step_keeps, reset-keeps, block-keeps}
use Rattle.c_calls.specs.Kinds.{Kind}
use Rattle.c_calls.specs.Calls.{record_of, fitting}
use Rattle.c_calls.proofs.Laws.{lend-step, lend-reset, lend-block}
use Rattle.c_calls.proofs.Lists.{ReadBack, good-after}
use Rattle.c_blocks.specs.Lent.{Leaves, StepsLent, ResetsLent, BlocksLent}

module _ (K : Kind) (ns : List Float) (cs : List ℕ) where
  abbrev F : Filter
  F = K.filter

  -- a refused call leaves the slices
  kept : {n : ℕ} → (n ≡ 0 → ⊥) → Leaves K ns cs n ns cs
  kept {n} h = record { fit = refl; numbers_are = rw (ne_eqb n 0 h) refl; counts_are = rw (ne_eqb n 0 h) refl }

  -- ---- slices that do not fit
  module _ (unfit : K.fit ns cs ≡ false) where
    pub unfit-steps : (x : Float) → StepsLent K ns cs x (refused bad_call) ns cs
    unfit-steps x = record { ran = sym (unfit-step F (fitting K ns cs) (record_of K ns cs) x unfit); leaves = kept (λ z. omega (arith, z)) }

    pub unfit-resets : ResetsLent K ns cs bad_call ns cs
    unfit-resets = record { ran = sym (unfit-reset F (fitting K ns cs) (record_of K ns cs) unfit); leaves = kept (λ z. omega (arith, z)) }

    pub unfit-blocks : (input output : List Float) → BlocksLent K ns cs input output bad_call 0 output ns cs
    unfit-blocks input output = record {
      ran = sym (unfit-block F (fitting K ns cs) (record_of K ns cs) input output unfit);
      leaves = kept (λ z. omega (arith, z));
    }

  good-of : (B : ReadBack K) {s : F.State} → K.fit ns cs ≡ true → s ≡ record_of K ns cs → B.Good s
  good-of B fit e = rw e (B.good-read ns cs fit)

  -- ---- slices that fit, from which the record s is read; t is the record after the call
  module _ (B : ReadBack K) {s : F.State} (fit : K.fit ns cs ≡ true) (e : s ≡ record_of K ns cs) {t : F.State} where
    -- t is written
    module _ {n : ℕ} (z : n ≡ 0) (good : B.Good t) {ns' : List Float} {cs' : List ℕ} (en : ns' ≡ K.numbers t) (ec : cs' ≡ K.counts t) where
      back : K.read ns' cs' ≡ t
      back = ap₂ K.read en ec ∙ B.back t good

      written : Leaves K ns cs n ns' cs'
      written = record {
        fit = ap₂ K.fit en ec ∙ B.fit-back t good ∙ sym fit;
        numbers_are = rw (eq-eqb n 0 z, back) en;
        counts_are = rw (eq-eqb n 0 z, back) ec;
      }

    -- a step
    module _ (x : Float) {a : Answer} (p : ◌≡◌ {A = Step F.State} (record { answer = a; state = t }) (step F s x)) where
      abbrev at_step : F.State → Step F.State
      at_step r = record { answer = a; state = r }

      pub steps-refused : (refusal_of a ≡ 0 → ⊥) → StepsLent K ns cs x a ns cs
      steps-refused z =
          let q = lend-step K ns cs fit e x p in
          let k = step_keeps F (fitting K ns cs) (record_of K ns cs) x q z in
          record { ran = ap at_step (sym k) ∙ q; leaves = kept z }

      step-good : refusal_of a ≡ 0 → B.Good t
      step-good z = go (F.check s) refl
        where
          go : (b : Bool) → F.check s ≡ b → B.Good t
          go true h = rw (ap (λ (r : Step F.State). r.state) (p ∙ step_is F s x h)) (B.good-next s x h (good-of B fit e))
          go false h = absurd (B.numbered.0 (sym (ap (λ (r : Step F.State). refusal_of r.answer) (p ∙ sym (step-refused F s x h))) ∙ z))

      pub steps-written : refusal_of a ≡ 0 → {ns' : List Float} {cs' : List ℕ} → ns' ≡ K.numbers t → cs' ≡ K.counts t → StepsLent K ns cs x a ns' cs'
      steps-written z en ec = let good = step-good z in
          record { ran = ap at_step (back z good en ec) ∙ lend-step K ns cs fit e x p; leaves = written z good en ec }

    -- a reset
    module _ {n : ℕ} (p : ◌≡◌ {A = Reset F.State} (record { refusal = n; state = t }) (reset F s)) where
      abbrev at_reset : F.State → Reset F.State
      at_reset r = record { refusal = n; state = r }

      pub resets-refused : (n ≡ 0 → ⊥) → ResetsLent K ns cs n ns cs
      resets-refused z =
          let q = lend-reset K ns cs fit e p in
          let k = reset-keeps F (fitting K ns cs) (record_of K ns cs) q z in
          record { ran = ap at_reset (sym k) ∙ q; leaves = kept z }

      reset-good : n ≡ 0 → B.Good t
      reset-good z = go (F.check s) refl
        where
          go : (b : Bool) → F.check s ≡ b → B.Good t
          go true h = rw (ap (λ (r : Reset F.State). r.state) (p ∙ sym (reset-done F s h refl))) (B.good-cleared s (good-of B fit e))
          go false h = absurd (B.numbered.0 (sym (ap (λ (r : Reset F.State). r.refusal) (p ∙ sym (reset-refused F s h))) ∙ z))

      pub resets-written : n ≡ 0 → {ns' : List Float} {cs' : List ℕ} → ns' ≡ K.numbers t → cs' ≡ K.counts t → ResetsLent K ns cs n ns' cs'
      resets-written z en ec = let good = reset-good z in
          record { ran = ap at_reset (back z good en ec) ∙ lend-reset K ns cs fit e p; leaves = written z good en ec }

    -- a block
    module _ (input output : List Float) {n c : ℕ} {output' : List Float}
        (p : ◌≡◌ {A = Block F.State} (record { refusal = n; clouded = c; state = t; output = output' }) (block F s input output)) where
      abbrev at_block : F.State → Block F.State
      at_block r = record { refusal = n; clouded = c; state = r; output = output' }

      pub blocks-refused : (n ≡ 0 → ⊥) → BlocksLent K ns cs input output n c output' ns cs
      blocks-refused z =
          let q = lend-block K ns cs fit e input output p in
          let k = (block-keeps F (fitting K ns cs) (record_of K ns cs) input output q z).0 in
          record { ran = ap at_block (sym k) ∙ q; leaves = kept z }

      block-good : n ≡ 0 → B.Good t
      block-good z = go (F.check s) (ltb (length output) (length input)) refl refl
        where
          go : (a b : Bool) → F.check s ≡ a → ltb (length output) (length input) ≡ b → B.Good t
          go true true h k =
              let q = p ∙ sym (block-short F s input output h (ltb-true (length output) (length input) k)) in
              absurd (omega (arith, ap (λ (r : Block F.State). r.refusal) q, z))
          go true false h k =
              let q = p ∙ block-is F s input output h (ltb-false (length output) (length input) k) in
              rw (ap (λ (r : Block F.State). r.state) q) (good-after K B s input h (good-of B fit e))
          go false b h k = absurd (B.numbered.0 (sym (ap (λ (r : Block F.State). r.refusal) (p ∙ sym (block_refused F s input output h))) ∙ z))

      pub blocks-written : n ≡ 0 → {ns' : List Float} {cs' : List ℕ} → ns' ≡ K.numbers t → cs' ≡ K.counts t
          → BlocksLent K ns cs input output n c output' ns' cs'
      blocks-written z en ec = let good = block-good z in
          record { ran = ap at_block (back z good en ec) ∙ lend-block K ns cs fit e input output p; leaves = written z good en ec }
