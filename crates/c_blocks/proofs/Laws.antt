-- What a call of a lent record shows where it returns, by what the record's method showed and left.
use mathlib.Core.Path.{◌≡◌, refl, sym, ap, ◌∙◌}
use mathlib.Core.Bool.{true, false, ◌&&◌}
use mathlib.Core.List.{List, [], ◌∷◌}
use mathlib.Core.Logic.{◌⊎◌, inl, inr}
use Prim.Native.Nat.{ℕ, zero, suc}
use native.Mathlib.Omega.{arith}
use lib.Dec.{eqb}
use lib.ListN.{length, set}
use lib.Ieee.{Float}
use borrow.Author.Tests.{eq-eqb, ne_eqb}
use Rattle.std.specs.Prelude.{Result, Ok, Err}
use Rattle.std.specs.Result.{is_ok}
use Rattle.runs.specs.Refusals.{no_refusal, bad_call}
use Rattle.runs.specs.Runs.{Answer, number_of, is_clouded, refusal_of}
use Rattle.runs.specs.View.{number, refusal_in}
use Rattle.runs.specs.declared.refusal.Refusal.{Refusal}
use Rattle.lists.proofs.Overwriting.{set_all}
use Rattle.c_layout.specs.Layout.{flag}
use Rattle.c_calls.specs.Kinds.{Kind}
use Rattle.c_calls.specs.Calls.{CallRecord, StoredRecord, unchanged, step_call, block_call, reset_call}
use Rattle.c_calls.proofs.Laws as Calls
use Rattle.c_calls.proofs.Laws.{numbered}
use Rattle.c_blocks.specs.Lent.{Leaves, StepsLent, ResetsLent, BlocksLent}

-- the one place of a list
pub set-one : {A : Type 0} (l : List A) {a b : A} → length l ≡ 1 → a ≡ b → set l 0 a ≡ b ∷ []
set-one {A} l {a} {b} h e = set_all (a ∷ []) l h ∙ ap (λ (z : A). z ∷ []) e

-- a result that is Ok, or is not
pub ok-accepted : {T : Type 0} (r : Result T Refusal) → true ≡ is_ok r → refusal_in r ≡ 0
ok-accepted (Ok x) h = refl
ok-accepted (Err r) h = cc

pub err-refused : {T : Type 0} (r : Result T Refusal) → false ≡ is_ok r → refusal_in r ≡ 0 → ⊥
err-refused (Ok x) h = cc
err-refused (Err r) h = numbered r

module _ (K : Kind) (ns : List Float) (cs : List ℕ) where
  -- what a call leaves, by whether it was refused
  module _ {n : ℕ} {ns' : List Float} {cs' : List ℕ} where
    pub left-refused : (n ≡ 0 → ⊥) → Leaves K ns cs n ns' cs' → (ns' ≡ ns) × (cs' ≡ cs)
    left-refused h l = (rw (ne_eqb n 0 h) at l.numbers_are, rw (ne_eqb n 0 h) at l.counts_are)

    pub left-accepted : n ≡ 0 → Leaves K ns cs n ns' cs' → (ns' ≡ K.numbers (K.read ns' cs')) × (cs' ≡ K.counts (K.read ns' cs'))
    left-accepted h l = (rw (eq-eqb n 0 h) at l.numbers_are, rw (eq-eqb n 0 h) at l.counts_are)

  -- ---- a step
  module _ (x : Float) (answer : List Float) (tally : List ℕ) where
    pub step-not-single : (length answer ≡ 1 → ⊥) ⊎ ((length answer ≡ 1) × (length tally ≡ 1 → ⊥))
        → unchanged K ns cs answer tally bad_call ≡ step_call K ns cs x answer tally
    step-not-single h = Calls.step-not-single K ns cs x answer tally (go h)
      where
        go : (length answer ≡ 1 → ⊥) ⊎ ((length answer ≡ 1) × (length tally ≡ 1 → ⊥)) → (eqb (length answer) 1 && eqb (length tally) 1) ≡ false
        go (inl h) = rw (ne_eqb (length answer) 1 h) refl
        go (inr p) = rw (eq-eqb (length answer) 1 p.0, ne_eqb (length tally) 1 p.1) refl

    module _ (h : length answer ≡ 1) (k : length tally ≡ 1) {a : Answer} {ns' : List Float} {cs' : List ℕ} (p : StepsLent K ns cs x a ns' cs') where
      single : (eqb (length answer) 1 && eqb (length tally) 1) ≡ true
      single = rw (eq-eqb (length answer) 1 h, eq-eqb (length tally) 1 k) refl

      pub step-refused : (r : Refusal) → number r ≡ refusal_of a
          → ◌≡◌ {A = CallRecord} (record { refusal = number r; numbers = ns'; counts = cs'; answers = answer; clouded = tally })
          (step_call K ns cs x answer tally)
      step-refused r g =
          let kept = left-refused (λ z. numbered r (g ∙ z)) p.leaves in
          rw (kept.0, kept.1) (Calls.step-refused K ns cs x answer tally single p.ran g (numbered r))

      pub step-accepted : {ys : List Float} {tally' : List ℕ} → no_refusal ≡ refusal_of a → ys ≡ number_of a ∷ [] → tally' ≡ flag (is_clouded a) ∷ []
          → ◌≡◌ {A = CallRecord} (record { refusal = no_refusal; numbers = ns'; counts = cs'; answers = ys; clouded = tally' })
          (step_call K ns cs x answer tally)
      step-accepted g ey et =
          let written = left-accepted (sym g) p.leaves in
          Calls.step-accepted K ns cs x answer tally single p.ran g refl written.0 written.1 ey et

  -- ---- a block
  module _ (input output : List Float) (tally : List ℕ) (h : length tally ≡ 1) {n c : ℕ} {ns' output' : List Float} {cs' : List ℕ}
      (p : BlocksLent K ns cs input output n c output' ns' cs') where
    pub block_refused : (n ≡ 0 → ⊥)
        → ◌≡◌ {A = CallRecord} (record { refusal = n; numbers = ns'; counts = cs'; answers = output'; clouded = tally }) (block_call K ns cs input output tally)
    block_refused z = let kept = left-refused z p.leaves in
        rw (kept.0, kept.1) (Calls.block_refused K ns cs input output tally h p.ran z)

    pub block-accepted : {tally' : List ℕ} → n ≡ 0 → tally' ≡ c ∷ []
        → ◌≡◌ {A = CallRecord} (record { refusal = no_refusal; numbers = ns'; counts = cs'; answers = output'; clouded = tally' })
        (block_call K ns cs input output tally)
    block-accepted z et = let written = left-accepted z p.leaves in
        Calls.block-accepted K ns cs input output tally h p.ran z written.0 written.1 et

  -- ---- a reset
  pub reset-called : (n : ℕ) {ns' : List Float} {cs' : List ℕ} → ResetsLent K ns cs n ns' cs'
      → ◌≡◌ {A = StoredRecord} (record { refusal = n; numbers = ns'; counts = cs' }) (reset_call K ns cs)
  reset-called zero p = let written = left-accepted refl p.leaves in
      Calls.reset-accepted K ns cs p.ran refl written.0 written.1
  reset-called (suc n) p =
      let z : suc n ≡ 0 → ⊥ = λ z. omega (arith, z) in
      let kept = left-refused z p.leaves in
      rw (kept.0, kept.1) (Calls.reset-refused K ns cs p.ran z)
