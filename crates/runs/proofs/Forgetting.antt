-- The forgetting rule, once for any filter and its plain filter, from laws of one sample and of a reset.
use mathlib.Core.Path.{◌≡◌, refl, sym, ap, ap₂, ◌∙◌}
use mathlib.Core.Bool.{Bool, true, false, ◌&&◌, ◌||◌, cond, or-false, or-true}
use mathlib.Core.List.{List, [], ◌∷◌, map, reverse_aux, reverse_aux-eq}
use mathlib.Core.Option.{Option}
use Prim.Native.Nat.{ℕ, suc}
use lib.ListN.{length}
use lib.Ieee.{Float}
use Rattle.runs.specs.Refusals.{no_refusal, short_output}
use Rattle.runs.specs.Runs as Runs
use Rattle.runs.specs.Runs.{Answer, clouded_in, placed, written, Filter, Fresh, refused_block, answer, answers, after}
use Rattle.runs.specs.Forgetting.{Call, step, block, reset, Outcome, stepped, blocked, was_reset, outcome, left, run, Plain, is_short, kept_after}
use Rattle.runs.specs.Forgetting.{plain_answer, plain_answers, plain_outcome, plain_run, answered, is_reset, dues, all, shown, places, of_step, of_block}
use Rattle.runs.specs.Forgetting.{seen_of}
use Rattle.runs.specs.Forgetting.{seen, refused_by, Forgets}
use Rattle.lists.proofs.Tests.{both}
use Rattle.runs.proofs.Laws.{marked-accepted, step_is}

-- What has to be shown of a filter F and the plain filter P that is fed `fed`. `Beside since kept s`: the record s is what the kept samples made of the
-- starting record, or of a cleared one where there was a reset since.
pub record Simulates (F : Filter) (P : Plain) (fed : P.Fed) : Type 1 where
  pub Beside : Bool → List Float → F.State → Type 0
  pub good : {since : Bool} {kept : List Float} {s : F.State} → Beside since kept s → F.check s ≡ true
  pub turn : {since : Bool} {kept : List Float} {s : F.State} (x : Float) → Beside since kept s → Beside since (x ∷ kept) (F.next s x)
  pub clear : {since : Bool} {kept : List Float} {s : F.State} → Beside since kept s → Beside true [] (F.cleared s)
  pub same : {since : Bool} {kept : List Float} {s : F.State} (x : Float) → Beside since kept s → since || P.enough fed (suc (length kept)) ≡ true
      → answer F s x ≡ plain_answer P fed (x ∷ kept)

-- what is shown is equal if what is due is
shown-same : {A : Type 0} (d : Bool) {a b : A} → (d ≡ true → a ≡ b) → shown d a ≡ shown d b
shown-same true h = ap (shown true) (h refl)
shown-same false h = refl

-- a block that is answered, or whose output is short
abbrev pub ran : Bool → List Answer → List Float → Outcome
ran short ys output = cond short (blocked short_output 0 output) (blocked no_refusal (clouded_in ys) (written ys output))

-- from a fresh record every answer is due
all-due : (P : Plain) (fed : P.Fed) (k : ℕ) (xs : List Float) → all (dues P fed true k xs) ≡ true
unfolding dues
all-due P fed k [] = refl
all-due P fed k (x ∷ xs) = all-due P fed (suc k) xs

-- ---- the outcome of a call on a record that passes its check
module _ (F : Filter) (s : F.State) (h : F.check s ≡ true) where
  pub step-outcome : (x : Float) → outcome F s (step x) ≡ stepped (answer F s x)
  unfolding outcome
  step-outcome x = rw (step_is F s x h)

  pub step_left : (x : Float) → left F s (step x) ≡ F.next s x
  unfolding left
  step_left x = rw (step_is F s x h, left)

  pub block-outcome : (input output : List Float) → outcome F s (block input output) ≡ ran (is_short input output) (answers F s input) output
  unfolding outcome Runs.block
  block-outcome input output = rw h (go (is_short input output))
    where
      go : (t : Bool) → (let b : Runs.Block F.State = cond t (refused_block short_output s output)
          (record { refusal = no_refusal; clouded = clouded_in (answers F s input); state = after F s input; output = written (answers F s input) output }) in
          blocked b.refusal b.clouded b.output) ≡ ran t (answers F s input) output
      go true = refl
      go false = refl

  pub block-left : (input output : List Float) → left F s (block input output) ≡ cond (is_short input output) s (after F s input)
  unfolding left Runs.block
  block-left input output = rw (h, left) (go (is_short input output))
    where
      go : (t : Bool) → (let b : Runs.Block F.State = cond t (refused_block short_output s output)
          (record { refusal = no_refusal; clouded = clouded_in (answers F s input); state = after F s input; output = written (answers F s input) output }) in
          b.state) ≡ cond t s (after F s input)
      go true = refl
      go false = refl

  pub reset-outcome : outcome F s reset ≡ was_reset no_refusal
  unfolding outcome Runs.reset
  reset-outcome = rw h

  pub reset-left : left F s reset ≡ F.cleared s
  unfolding left Runs.reset
  reset-left = rw (h, left)

-- ---- a filter beside its plain filter
module _ (F : Filter) (P : Plain) (fed : P.Fed) (S : Simulates F P fed) where
  besides : {since : Bool} {kept : List Float} {s : F.State} (xs : List Float) → S.Beside since kept s → S.Beside since (reverse_aux xs kept) (after F s xs)
  unfolding after
  besides [] b = b
  besides {since} {kept} {s} (x ∷ xs) b = rw (step_is F s x (S.good b)) (besides {kept = x ∷ kept} xs (S.turn x b))

  -- the output places
  places_same : {since : Bool} {kept : List Float} {s : F.State} (xs output : List Float) → S.Beside since kept s
      → places (dues P fed since (length kept) xs) (written (answers F s xs) output)
      ≡ places (dues P fed since (length kept) xs) (written (plain_answers P fed kept xs) output)
  unfolding dues places written plain_answers answers
  places_same [] output b = refl
  places_same (x ∷ xs) [] b = refl
  places_same {since} {kept} {s} (x ∷ xs) (y ∷ output) b =
      rw (step_is F s x (S.good b)) (ap₂ ◌∷◌ (shown-same (since || P.enough fed (suc (length kept))) (λ e. ap (λ (a : Answer). placed a y) (S.same x b e)))
      (places_same {kept = x ∷ kept} xs output (S.turn x b)))

  -- the answers, where all are due
  answers-same : {since : Bool} {kept : List Float} {s : F.State} (xs : List Float) → S.Beside since kept s → all (dues P fed since (length kept) xs) ≡ true
      → answers F s xs ≡ plain_answers P fed kept xs
  unfolding dues plain_answers answers
  answers-same [] b e = refl
  answers-same {since} {kept} {s} (x ∷ xs) b e =
      let d = since || P.enough fed (suc (length kept)) in
      let ds = dues P fed since (suc (length kept)) xs in
      rw (step_is F s x (S.good b)) (ap₂ ◌∷◌ (S.same x b (both d (all ds) e).0) (answers-same {kept = x ∷ kept} xs (S.turn x b) (both d (all ds) e).1))

  -- ---- one call: all of its outcome where all is due, and what is seen of it anyway

  block_same : {since : Bool} {kept : List Float} {s : F.State} (t : Bool) (input output : List Float) → S.Beside since kept s
      → all (dues P fed since (length kept) (cond t [] input)) ≡ true → ran t (answers F s input) output ≡ ran t (plain_answers P fed kept input) output
  block_same true input output b e = refl
  block_same false input output b e = ap (λ (ys : List Answer). ran false ys output) (answers-same input b e)

  call_same : {since : Bool} {kept : List Float} {s : F.State} (c : Call) → S.Beside since kept s → all (dues P fed since (length kept) (answered c)) ≡ true
      → outcome F s c ≡ plain_outcome P fed kept c
  unfolding answered dues plain_outcome
  call_same {since} {kept} {s} (step x) b e =
      step-outcome F s (S.good b) x ∙ ap stepped (S.same x b (both (since || P.enough fed (suc (length kept))) true e).0)
  call_same {since} {kept} {s} (block input output) b e = block-outcome F s (S.good b) input output ∙ block_same (is_short input output) input output b e
  call_same {since} {kept} {s} reset b e = reset-outcome F s (S.good b)

  block-seen : {since : Bool} {kept : List Float} {s : F.State} (t : Bool) (input output : List Float) → S.Beside since kept s
      → (let ds = dues P fed since (length kept) (cond t [] input) in seen_of ds (ran t (answers F s input) output)
      ≡ seen_of ds (ran t (plain_answers P fed kept input) output))
  unfolding seen_of
  block-seen true input output b = refl
  block-seen {since} {kept} {s} false input output b =
      let ds = dues P fed since (length kept) input in
      ap₂ (λ (n : Option ℕ) (l : List (Option Float)). of_block no_refusal n l) (shown-same (all ds) (λ e. ap clouded_in (answers-same input b e)))
      (places_same input output b)

  call-seen : {since : Bool} {kept : List Float} {s : F.State} (c : Call) → S.Beside since kept s
      → (let ds = dues P fed since (length kept) (answered c) in seen_of ds (outcome F s c) ≡ seen_of ds (plain_outcome P fed kept c))
  unfolding answered dues plain_outcome seen_of
  call-seen {since} {kept} {s} (step x) b =
      let d = since || P.enough fed (suc (length kept)) in
      rw (step-outcome F s (S.good b) x)
      (ap₂ of_step (marked-accepted (F.mark s x) (F.value s x) ∙ sym (marked-accepted (P.mark fed (x ∷ kept)) (P.value fed (x ∷ kept))))
      (shown-same (d && true) (λ e. S.same x b (both d true e).0)))
  call-seen {since} {kept} {s} (block input output) b = rw (block-outcome F s (S.good b) input output) (block-seen (is_short input output) input output b)
  call-seen {since} {kept} {s} reset b = rw (reset-outcome F s (S.good b))

  -- and the two stay beside each other
  block-beside : {since : Bool} {kept : List Float} {s : F.State} (t : Bool) (input : List Float) → S.Beside since kept s
      → S.Beside since (cond t kept (reverse_aux input kept)) (cond t s (after F s input))
  block-beside true input b = b
  block-beside false input b = besides input b

  call-beside : {since : Bool} {kept : List Float} {s : F.State} (c : Call) → S.Beside since kept s
      → S.Beside (since || is_reset c) (kept_after kept c) (left F s c)
  unfolding kept_after
  call-beside {since} {kept} {s} (step x) b = rw (or-false since, step_left F s (S.good b) x) (S.turn x b)
  call-beside {since} {kept} {s} (block input output) b =
      rw (or-false since, block-left F s (S.good b) input output, ← reverse_aux-eq input kept) (block-beside (is_short input output) input b)
  call-beside {since} {kept} {s} reset b = rw (or-true since, reset-left F s (S.good b)) (S.clear b)

  -- ---- a list of calls
  pub all_seen : {since : Bool} {kept : List Float} {s : F.State} (calls : List Call) → S.Beside since kept s
      → seen P fed since kept calls (run F s calls) ≡ seen P fed since kept calls (plain_run P fed kept calls)
  unfolding seen run plain_run
  all_seen [] b = refl
  all_seen {since} {kept} (c ∷ calls) b = ap₂ ◌∷◌ (call-seen c b) (all_seen {since = since || is_reset c} {kept = kept_after kept c} calls (call-beside c b))

  pub all_same : {kept : List Float} {s : F.State} (calls : List Call) → S.Beside true kept s → run F s calls ≡ plain_run P fed kept calls
  unfolding run plain_run
  all_same [] b = refl
  all_same {kept} (c ∷ calls) b =
      ap₂ ◌∷◌ (call_same c b (all-due P fed (length kept) (answered c))) (all_same {kept = kept_after kept c} calls (call-beside c b))

-- ---- a record that fails its check
module _ (F : Filter) (s : F.State) (h : F.check s ≡ false) where
  pub outcome-refused : (c : Call) → outcome F s c ≡ refused_by F.refusal c
  unfolding outcome Runs.step Runs.block Runs.reset
  outcome-refused (step x) = rw h
  outcome-refused (block input output) = rw h
  outcome-refused reset = rw h

  pub left-refused : (c : Call) → left F s c ≡ s
  unfolding left Runs.step Runs.block Runs.reset
  left-refused (step x) = rw (h, left)
  left-refused (block input output) = rw (h, left)
  left-refused reset = rw (h, left)

  all-refused : (calls : List Call) → run F s calls ≡ map (refused_by F.refusal) calls
  unfolding run
  all-refused [] = refl
  all-refused (c ∷ calls) = ap₂ ◌∷◌ (outcome-refused c) (rw (left-refused c) (all-refused calls))

-- THE CLAIM, where the record stands beside the plain filter at the start
pub forgets : (F : Filter) (P : Plain) (feed : F.State → P.Fed) (s : F.State) (S : Simulates F P (feed s)) → (F.check s ≡ true → S.Beside false [] s)
    → (Fresh F s → S.Beside true [] s) → (calls : List Call) → Forgets F P feed s calls (run F s calls)
forgets F P feed s S start fresh calls = record {
  from_fresh = λ e. all_same F P (feed s) S calls (fresh e);
  from_any = λ h. all_seen F P (feed s) S calls (start h);
  from_refused = λ h. all-refused F s h calls;
}

-- ---- a list of calls that shows what `run` says

pub forgets-shown : (F : Filter) (P : Plain) (feed : F.State → P.Fed) (s : F.State) (calls : List Call) {outcomes : List Outcome} → outcomes ≡ run F s calls
    → Forgets F P feed s calls (run F s calls) → Forgets F P feed s calls outcomes
forgets-shown F P feed s calls e p = rw e p

-- the first of some calls, by what it returned and left, and the rest from there
module _ (F : Filter) (s : F.State) {s' : F.State} (calls : List Call) {outcomes : List Outcome} where
  pub run_step : (x : Float) {a : Answer} → record { answer = a; state = s' } ≡ Runs.step F s x → outcomes ≡ run F s' calls → stepped a ∷ outcomes
      ≡ run F s (step x ∷ calls)
  unfolding run outcome left
  run_step x e rest = ap₂ ◌∷◌ (ap (λ (z : Runs.Step F.State). stepped z.answer) e) (rest ∙ ap (λ (z : Runs.Step F.State). run F z.state calls) e)

  pub run-block : (input output : List Float) {refusal clouded : ℕ} {output' : List Float}
      → record { refusal = refusal; clouded = clouded; state = s'; output = output' } ≡ Runs.block F s input output → outcomes ≡ run F s' calls
      → blocked refusal clouded output' ∷ outcomes ≡ run F s (block input output ∷ calls)
  unfolding run outcome left
  run-block input output e rest =
      ap₂ ◌∷◌ (ap (λ (z : Runs.Block F.State). blocked z.refusal z.clouded z.output) e)
      (rest ∙ ap (λ (z : Runs.Block F.State). run F z.state calls) e)

  pub run-reset : {refusal : ℕ} → record { refusal = refusal; state = s' } ≡ Runs.reset F s → outcomes ≡ run F s' calls → was_reset refusal ∷ outcomes
      ≡ run F s (reset ∷ calls)
  unfolding run outcome left
  run-reset e rest = ap₂ ◌∷◌ (ap (λ (z : Runs.Reset F.State). was_reset z.refusal) e) (rest ∙ ap (λ (z : Runs.Reset F.State). run F z.state calls) e)
