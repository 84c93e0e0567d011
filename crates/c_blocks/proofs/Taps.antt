-- A tap record's samples are changed where they stand, and its counts written back.
use mathlib.Core.Path.{◌≡◌, refl, sym, ap, ◌∙◌}
use mathlib.Core.Bool.{Bool, true, false, cond, ◌&&◌}
use mathlib.Core.List.{List, [], ◌∷◌}
use Prim.Native.Nat.{ℕ}
use lib.Dec.{eqb}
use lib.ListN.{length, get_or}
use lib.Ieee.{Float, binary64}
use borrow.Author.Tests.{ne_eqb, eqb-false}
use Rattle.limits.specs.Limits.{max_taps}
use Rattle.runs.specs.Refusals.{no_refusal, bad_call}
use Rattle.runs.specs.Runs.{Filter, Answer, Step, Reset, Block, refused, refused_block, step, reset, block}
use Rattle.runs.specs.Lent.{lent_step, lent_reset, lent_block}
use Rattle.runs.proofs.Lent.{step_keeps, reset-keeps, block-keeps}
use Rattle.fir_theory.specs.Fir.{TapsRecord, fir}
use Rattle.fir_theory.specs.Lent.{fits}
use Rattle.fir.proofs.Kept as Kept
use Rattle.fir_step.specs.View.{lent_view}
use Rattle.fir_step.specs.declared.Counts.{Counts}
use Rattle.c_layout.specs.Layout.{count_places}
use Rattle.c_calls.specs.Kinds.{Kind, taps_at, taps_counts, taps_fit, fir_kind}
use Rattle.c_blocks.specs.Lent.{Leaves, StepsLent, ResetsLent, BlocksLent}

pub uncounted : (taps samples : List Float) (counts : List ℕ) → (length counts ≡ count_places → ⊥) → taps_fit taps samples counts ≡ false
unfolding taps_fit
uncounted taps samples counts h = rw (ne_eqb (length counts) count_places h) refl

-- three counts
abbrev listed : Counts → List ℕ
listed c = c.length ∷ c.held ∷ c.window ∷ []

module _ (taps ss : List Float) (cs : List ℕ) (c : Counts) (e : cs ≡ listed c) where
  abbrev F : Filter
  F = fir max_taps binary64

  abbrev K : Kind
  K = fir_kind taps

  abbrev before : TapsRecord
  before = lent_view taps ss c

  at-counts : (ss' : List Float) (cs' : List ℕ) (c' : Counts) → cs' ≡ listed c' → taps_at taps ss' cs' ≡ lent_view taps ss' c'
  unfolding taps_at
  at-counts ss' cs' c' e' = rw e' refl

  fit-counts : (ss' : List Float) (cs' : List ℕ) (c' : Counts) → cs' ≡ listed c' → taps_fit taps ss' cs' ≡ fits max_taps (lent_view taps ss' c')
  unfolding taps_fit
  fit-counts ss' cs' c' e' = rw (e', at-counts ss' (listed c') c' refl) refl

  -- a call leaves the length and the window code, which the counts have already
  others : {ss' : List Float} {c' : Counts} (t : TapsRecord) → lent_view taps ss' c' ≡ t → Kept.Kept before t → cs ≡ c'.length ∷ get_or cs 1 0 ∷ c'.window ∷ []
  others {ss'} {c'} t p k =
      let n : c'.length ≡ c.length = ap (λ (r : TapsRecord). r.length) p ∙ k.length in
      let w : c'.window ≡ c.window = ap (λ (r : TapsRecord). r.window) p ∙ k.window in
      rw (e, n, w) refl

  pub steps-others : (x : Float) {a : Answer} {ss' : List Float} {c' : Counts}
      → ◌≡◌ {A = Step TapsRecord} (record { answer = a; state = lent_view taps ss' c' }) (lent_step F (fits max_taps) before x)
      → cs ≡ c'.length ∷ get_or cs 1 0 ∷ c'.window ∷ []
  unfolding lent_step
  steps-others x p = others _ (ap (λ (r : Step TapsRecord). r.state) p) (go (fits max_taps before))
    where
      go : (b : Bool) → Kept.Kept before ((cond {A = Step TapsRecord} b (step F before x) (record { answer = refused bad_call; state = before })).state)
      go true = Kept.step_keeps before x
      go false = record { length = refl; window = refl }

  pub resets-others : {n : ℕ} {ss' : List Float} {c' : Counts}
      → ◌≡◌ {A = Reset TapsRecord} (record { refusal = n; state = lent_view taps ss' c' }) (lent_reset F (fits max_taps) before)
      → cs ≡ c'.length ∷ get_or cs 1 0 ∷ c'.window ∷ []
  unfolding lent_reset
  resets-others p = others _ (ap (λ (r : Reset TapsRecord). r.state) p) (go (fits max_taps before))
    where
      go : (b : Bool) → Kept.Kept before ((cond {A = Reset TapsRecord} b (reset F before) (record { refusal = bad_call; state = before })).state)
      go true = Kept.reset_keeps before
      go false = record { length = refl; window = refl }

  pub blocks-others : (input output : List Float) {n k : ℕ} {output' ss' : List Float} {c' : Counts}
      → ◌≡◌ {A = Block TapsRecord} (record { refusal = n; clouded = k; state = lent_view taps ss' c'; output = output' })
      (lent_block F (fits max_taps) before input output)
      → cs ≡ c'.length ∷ get_or cs 1 0 ∷ c'.window ∷ []
  unfolding lent_block
  blocks-others input output p = others _ (ap (λ (r : Block TapsRecord). r.state) p) (go (fits max_taps before))
    where
      go : (b : Bool) → Kept.Kept before ((cond {A = Block TapsRecord} b (block F before input output) (refused_block bad_call before output)).state)
      go true = Kept.block_keeps before input output
      go false = record { length = refl; window = refl }

  -- the samples ss' and the counts c' are what a call leaves
  module _ (ss' : List Float) (cs' : List ℕ) (c' : Counts) (e' : cs' ≡ listed c') (l : length ss' ≡ length ss) where
    abbrev left : TapsRecord
    left = lent_view taps ss' c'

    leaves : (n : ℕ) → ((n ≡ 0 → ⊥) → left ≡ before) → Leaves K ss cs n ss' cs'
    unfolding fits taps_counts
    leaves n same = go (eqb n no_refusal) refl
      where
        fit : taps_fit taps ss' cs' ≡ taps_fit taps ss cs
        fit = fit-counts ss' cs' c' e' ∙ ap (λ (k : ℕ). eqb (length taps) max_taps && eqb k max_taps) l ∙ sym (fit-counts ss cs c e)

        go : (b : Bool) → eqb n no_refusal ≡ b → Leaves K ss cs n ss' cs'
        go true h = record { fit = fit; numbers_are = rw (h, at-counts ss' cs' c' e') refl; counts_are = rw (h, at-counts ss' cs' c' e') e' }
        go false h = let k = same (eqb-false n no_refusal h) in record {
          fit = fit;
          numbers_are = rw h (ap (λ (r : TapsRecord). r.samples) k);
          counts_are = rw h (e' ∙ ap taps_counts k ∙ sym e);
        }

    pub steps-taps : (x : Float) {a : Answer} → ◌≡◌ {A = Step TapsRecord} (record { answer = a; state = left }) (lent_step F (fits max_taps) before x)
        → StepsLent K ss cs x a ss' cs'
    unfolding lent_step
    steps-taps x p = record {
      ran = rw (at-counts ss' cs' c' e', fit-counts ss cs c e, at-counts ss cs c e) p;
      leaves = leaves _ (step_keeps F (fits max_taps) before x p);
    }

    pub resets-taps : {n : ℕ} → ◌≡◌ {A = Reset TapsRecord} (record { refusal = n; state = left }) (lent_reset F (fits max_taps) before)
        → ResetsLent K ss cs n ss' cs'
    unfolding lent_reset
    resets-taps p = record {
      ran = rw (at-counts ss' cs' c' e', fit-counts ss cs c e, at-counts ss cs c e) p;
      leaves = leaves _ (reset-keeps F (fits max_taps) before p);
    }

    pub blocks-taps : (input output : List Float) {n k : ℕ} {output' : List Float}
        → ◌≡◌ {A = Block TapsRecord} (record { refusal = n; clouded = k; state = left; output = output' })
        (lent_block F (fits max_taps) before input output)
        → BlocksLent K ss cs input output n k output' ss' cs'
    unfolding lent_block
    blocks-taps input output p = record {
      ran = rw (at-counts ss' cs' c' e', fit-counts ss cs c e, at-counts ss cs c e) p;
      leaves = leaves _ (λ z. (block-keeps F (fits max_taps) before input output p z).0);
    }
