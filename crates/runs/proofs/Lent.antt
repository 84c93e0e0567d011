-- Laws of records lent as slices, for any filter.
use mathlib.Core.Path.{◌≡◌, refl, ap, ◌∙◌}
use mathlib.Core.Bool.{Bool, true, false, cond}
use mathlib.Core.List.{List}
use Prim.Native.Nat.{ℕ}
use native.Mathlib.Omega.{arith}
use lib.Dec.{ltb}
use lib.ListN.{length}
use lib.Ieee.{Float}
use Rattle.runs.specs.Refusals.{no_refusal, short_output, bad_call}
use Rattle.runs.specs.Runs.{Filter, Answer, Step, Reset, Block, refused, refusal_of, refused_block, answer, step, reset, answers, after, clouded_in}
use Rattle.runs.specs.Runs.{written, block}
use Rattle.runs.specs.Lent.{lent_refusal, lent_step, lent_reset, lent_block}
use Rattle.runs.proofs.Laws.{marked-accepted}

module _ (F : Filter) (fits : F.State → Bool) (s : F.State) where
  -- what is refused by no number fits and passes the check
  pub lent-good : (F.refusal ≡ 0 → ⊥) → lent_refusal F fits s ≡ 0 → (fits s ≡ true) × (F.check s ≡ true)
  unfolding lent_refusal
  lent-good numbered = go (fits s) (F.check s) refl refl
    where
      go : (a b : Bool) → fits s ≡ a → F.check s ≡ b → cond a (cond b 0 F.refusal) bad_call ≡ 0 → (fits s ≡ true) × (F.check s ≡ true)
      go true true p q e = (p, q)
      go true false p q e = absurd (numbered e)
      go false b p q e = absurd (no e)
        where
          no : ◌≡◌ {A = ℕ} 13 0 → ⊥
          no e = omega arith

  pub refusal-unfit : fits s ≡ false → bad_call ≡ lent_refusal F fits s
  unfolding lent_refusal
  refusal-unfit h = rw h

  pub refusal-unchecked : fits s ≡ true → F.check s ≡ false → F.refusal ≡ lent_refusal F fits s
  unfolding lent_refusal
  refusal-unchecked h k = rw (h, k)

  pub refusal-none : fits s ≡ true → F.check s ≡ true → no_refusal ≡ lent_refusal F fits s
  unfolding lent_refusal
  refusal-none h k = rw (h, k)

  pub lent-step : (x : Float) → fits s ≡ true → lent_step F fits s x ≡ step F s x
  unfolding lent_step
  lent-step x h = rw h

  pub lent-reset : fits s ≡ true → lent_reset F fits s ≡ reset F s
  unfolding lent_reset
  lent-reset h = rw h

  pub lent-block : (input output : List Float) → fits s ≡ true → lent_block F fits s input output ≡ block F s input output
  unfolding lent_block
  lent-block input output h = rw h

  -- a refusal
  pub lent-step-refused : (x : Float) {n : ℕ} → n ≡ lent_refusal F fits s → (n ≡ 0 → ⊥)
      → ◌≡◌ {A = Step F.State} (record { answer = refused n; state = s }) (lent_step F fits s x)
  unfolding lent_refusal lent_step step
  lent-step-refused x {n} e h = go (fits s) (F.check s) refl refl e
    where
      go : (a b : Bool) → fits s ≡ a → F.check s ≡ b → n ≡ cond a (cond b 0 F.refusal) bad_call
          → ◌≡◌ {A = Step F.State} (record { answer = refused n; state = s }) (lent_step F fits s x)
      go true true p q e = absurd (h e)
      go true false p q e = rw (p, q, e)
      go false b p q e = rw (p, e)

  pub lent-reset-refused : {n : ℕ} → n ≡ lent_refusal F fits s → (n ≡ 0 → ⊥)
      → ◌≡◌ {A = Reset F.State} (record { refusal = n; state = s }) (lent_reset F fits s)
  unfolding lent_refusal lent_reset reset
  lent-reset-refused {n} e h = go (fits s) (F.check s) refl refl e
    where
      go : (a b : Bool) → fits s ≡ a → F.check s ≡ b → n ≡ cond a (cond b 0 F.refusal) bad_call
          → ◌≡◌ {A = Reset F.State} (record { refusal = n; state = s }) (lent_reset F fits s)
      go true true p q e = absurd (h e)
      go true false p q e = rw (p, q, e)
      go false b p q e = rw (p, e)

  pub lent-block-refused : (input output : List Float) {n : ℕ} → n ≡ lent_refusal F fits s → (n ≡ 0 → ⊥) → refused_block n s output
      ≡ lent_block F fits s input output
  unfolding lent_refusal lent_block block
  lent-block-refused input output {n} e h = go (fits s) (F.check s) refl refl e
    where
      go : (a b : Bool) → fits s ≡ a → F.check s ≡ b → n ≡ cond a (cond b 0 F.refusal) bad_call → refused_block n s output ≡ lent_block F fits s input output
      go true true p q e = absurd (h e)
      go true false p q e = rw (p, q, e)
      go false b p q e = rw (p, e)

  -- slices that do not fit
  pub unfit-step : (x : Float) → fits s ≡ false → lent_step F fits s x ≡ record { answer = refused bad_call; state = s }
  unfolding lent_step
  unfit-step x h = rw h

  pub unfit-reset : fits s ≡ false → lent_reset F fits s ≡ record { refusal = bad_call; state = s }
  unfolding lent_reset
  unfit-reset h = rw h

  pub unfit-block : (input output : List Float) → fits s ≡ false → lent_block F fits s input output ≡ refused_block bad_call s output
  unfolding lent_block
  unfit-block input output h = rw h

  -- a refused call changes nothing
  pub step_keeps : (x : Float) {a : Answer} {t : F.State} → record { answer = a; state = t } ≡ lent_step F fits s x → (refusal_of a ≡ 0 → ⊥) → t ≡ s
  unfolding lent_step step
  step_keeps x {a} {t} e h = go (fits s) (F.check s) refl refl
    where
      go : (b d : Bool) → fits s ≡ b → F.check s ≡ d → t ≡ s
      go true true p q = let z : ◌≡◌ {A = Step F.State} (record { answer = a; state = t }) (record { answer = answer F s x; state = F.next s x }) = e
          ∙ rw (p, q) in
          absurd (h (ap (λ (w : Step F.State). refusal_of w.answer) z ∙ marked-accepted (F.mark s x) (F.value s x)))
      go true false p q = let z : ◌≡◌ {A = Step F.State} (record { answer = a; state = t }) (record { answer = refused F.refusal; state = s }) = e
          ∙ rw (p, q) in
          ap (λ (w : Step F.State). w.state) z
      go false d p q = let z : ◌≡◌ {A = Step F.State} (record { answer = a; state = t }) (record { answer = refused bad_call; state = s }) = e ∙ rw p in
          ap (λ (w : Step F.State). w.state) z

  pub reset-keeps : {n : ℕ} {t : F.State} → record { refusal = n; state = t } ≡ lent_reset F fits s → (n ≡ 0 → ⊥) → t ≡ s
  unfolding lent_reset reset
  reset-keeps {n} {t} e h = go (fits s) (F.check s) refl refl
    where
      go : (b d : Bool) → fits s ≡ b → F.check s ≡ d → t ≡ s
      go true true p q = let z : ◌≡◌ {A = Reset F.State} (record { refusal = n; state = t }) (record { refusal = 0; state = F.cleared s }) = e
          ∙ rw (p, q) in absurd (h (ap (λ (w : Reset F.State). w.refusal) z))
      go true false p q = let z : ◌≡◌ {A = Reset F.State} (record { refusal = n; state = t }) (record { refusal = F.refusal; state = s }) = e ∙ rw (p, q) in
          ap (λ (w : Reset F.State). w.state) z
      go false d p q = let z : ◌≡◌ {A = Reset F.State} (record { refusal = n; state = t }) (record { refusal = bad_call; state = s }) = e ∙ rw p in
          ap (λ (w : Reset F.State). w.state) z

  pub block-keeps : (input output : List Float) {n c : ℕ} {t : F.State} {o : List Float} → record { refusal = n; clouded = c; state = t; output = o }
      ≡ lent_block F fits s input output → (n ≡ 0 → ⊥)
      → (t ≡ s) × (o ≡ output)
  unfolding lent_block block
  block-keeps input output {n} {c} {t} {o} e h = go (fits s) (F.check s) (ltb (length output) (length input)) refl refl refl
    where
      same : {m : ℕ} → ◌≡◌ {A = Block F.State} (record { refusal = n; clouded = c; state = t; output = o }) (refused_block m s output) → (t ≡ s)
          × (o ≡ output)
      same z = (ap (λ (w : Block F.State). w.state) z, ap (λ (w : Block F.State). w.output) z)

      go : (b d l : Bool) → fits s ≡ b → F.check s ≡ d → ltb (length output) (length input) ≡ l → (t ≡ s) × (o ≡ output)
      go true true true p q r = same {m = short_output} (e ∙ rw (p, q, r))
      go true true false p q r = absurd (h (ap (λ (w : Block F.State). w.refusal) (e ∙ accepted (p, q, r))))
        where
          accepted : (fits s ≡ true) × (F.check s ≡ true) × (ltb (length output) (length input) ≡ false)
              → lent_block F fits s input output ≡ record {
                refusal = 0;
                clouded = clouded_in (answers F s input);
                state = after F s input;
                output = written (answers F s input) output;
              }
          accepted g = rw (g.0, g.1, g.2)
      go true false l p q r = same {m = F.refusal} (e ∙ rw (p, q))
      go false d l p q r = same {m = bad_call} (e ∙ rw p)
