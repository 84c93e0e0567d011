-- A block in place: its parts one after the other, for any filter, and over the slices of any lent record.
use mathlib.Core.Path.{◌≡◌, refl, sym, ap, ◌∙◌, subst}
use mathlib.Core.Bool.{Bool, true, false, cond}
use mathlib.Core.List.{List, [], ◌∷◌, ◌++◌, append_assoc}
use Prim.Native.Nat.{ℕ, ◌+◌, ◌-◌, ◌≤◌}
use native.Mathlib.Omega.{arith}
use lib.Dec.{ltb}
use lib.ListN.{length, take, drop, length-append, length-take, length-drop}
use lib.Seq.{drop-drop, drop_at}
use lib.Ieee.{Float}
use Rattle.runs.specs.Refusals.{short_output, bad_call}
use Rattle.runs.specs.Runs.{Filter, Block, refused_block, clouded_in, written, answers, after, block}
use Rattle.runs.proofs.Laws.{Running, run-start, run-part, run-done, written-length, block-is, block_refused, check-after}
use Rattle.runs.proofs.Lent.{lent-block, unfit-block}
use Rattle.c_calls.specs.Kinds.{Kind}
use Rattle.c_calls.specs.Calls.{unchanged, record_of, fitting, block_call, block_in_place_call}
use Rattle.c_blocks.specs.Lent.{BlocksLent}
use Rattle.c_calls.proofs.Laws as Calls
use Rattle.c_calls.proofs.Laws.{block-not-single, block-unfit, lend-block}
use Rattle.c_blocks.proofs.Laws.{left-accepted, left-refused}

-- ---- a block over its own input, of which the places from i on hold what they held at the start
pub record InPlace (F : Filter) (s₀ : F.State) (old : List Float) (s : F.State) (samples : List Float) (clouded i : ℕ) : Type 0 where
  pub running : Running F s₀ old old s samples clouded i
  pub rest : drop i samples ≡ drop i old

-- a block leaves its output's length
block-length : (F : Filter) (s : F.State) (input output : List Float) → length (block F s input output).output ≡ length output
unfolding block
block-length F s input output = go (F.check s) (ltb (length output) (length input))
  where
    done : Block F.State
    done = record { refusal = 0; clouded = clouded_in (answers F s input); state = after F s input; output = written (answers F s input) output }

    go : (a b : Bool) → length (cond a (cond b (refused_block short_output s output) done) (refused_block F.refusal s output)).output ≡ length output
    go true true = refl
    go true false = written-length (answers F s input) output
    go false b = refl

module _ (F : Filter) (keeps : (s : F.State) (x : Float) → F.check s ≡ true → F.check (F.next s x) ≡ true) (s₀ : F.State) (old : List Float) where
  pub place-start : F.check s₀ ≡ true → InPlace F s₀ old s₀ old 0 0
  place-start h = record { running = run-start F keeps s₀ old old (omega arith) h; rest = refl }

  -- the samples from i up to `to` as a block of their own over their places, which hold ys after it
  pub place-turn : {s s' : F.State} {samples ys : List Float} {refusal clouded c i : ℕ} (to : ℕ) → i ≤ to → to ≤ length old
      → record { refusal = refusal; clouded = c; state = s'; output = ys } ≡ block F s (take (to - i) (drop i samples)) (take (to - i) (drop i samples))
      → InPlace F s₀ old s samples clouded i → InPlace F s₀ old s' (take i samples ++ (ys ++ drop (to - i) (drop i samples))) (clouded + c) to
  place-turn {s} {s'} {samples} {ys} {refusal} {clouded} {c} {i} to low high e p =
      let n = to - i in
      let part = take n (drop i samples) in
      let first = take i samples ++ ys in
      let behind = drop to samples in
      let end : i + n ≡ to = omega arith in
      let lt : length part ≡ n = simp (length-take, length-drop) (omega (arith, p.running.room)) in
      let ly : length ys ≡ n = ap (λ (b : Block F.State). length b.output) e ∙ block-length F s part part ∙ lt in
      let lf : length first ≡ to = simp (length-append, length-take) (omega (arith, ly, p.running.room)) in
      let from_old = e ∙ ap (λ (l : List Float). block F s (take n l) part) p.rest in
      let same : first ++ behind ≡ take i samples ++ (ys ++ drop n (drop i samples)) = rw (
        drop-drop n i samples,
        end,
      ) (append_assoc (take i samples) ys behind) in
      subst (λ (l : List Float). InPlace F s₀ old s' l (clouded + c) to) same
      (record {
        running = rw end at (run-part F keeps s₀ old old n (omega arith) from_old p.running);
        rest = drop_at first behind to lf ∙ ap (λ (z : ℕ). drop z samples) (sym end) ∙ sym (drop-drop n i samples) ∙ ap (drop n) p.rest ∙ drop-drop n i old
            ∙ ap (λ (z : ℕ). drop z old) end;
      })

  pub place-done : {s : F.State} {samples : List Float} {clouded i : ℕ} → length old ≤ i → F.check s₀ ≡ true → InPlace F s₀ old s samples clouded i
      → ◌≡◌ {A = Block F.State} (record { refusal = 0; clouded = clouded; state = s; output = samples }) (block F s₀ old old)
  place-done h e p = run-done F keeps s₀ old old h e (omega arith) p.running

-- ---- over slices
pub not-single : (K : Kind) (ns : List Float) (cs : List ℕ) (buffer : List Float) (tally : List ℕ) → (length tally ≡ 1 → ⊥)
    → unchanged K ns cs buffer tally bad_call ≡ block_in_place_call K ns cs buffer tally
unfolding block_in_place_call
not-single K ns cs buffer tally h = block-not-single K ns cs buffer buffer tally h

module _ (K : Kind) (keeps : (s : K.filter.State) (x : Float) → K.filter.check s ≡ true → K.filter.check (K.filter.next s x) ≡ true) where
  abbrev F : Filter
  F = K.filter

  -- slices that hold a good record, as it is written
  pub record Ready (ns : List Float) (cs : List ℕ) : Type 0 where
    pub fit : K.fit ns cs ≡ true
    pub good : F.check (K.read ns cs) ≡ true
    pub held : ns ≡ K.numbers (K.read ns cs)
    pub held_counts : cs ≡ K.counts (K.read ns cs)

  -- a block of slices that fit and hold a good record: it is a block of the record, accepted, and leaves such slices
  module _ (ns : List Float) (cs : List ℕ) (input output : List Float) (fit : K.fit ns cs ≡ true) (good : F.check (K.read ns cs) ≡ true)
      (room : length input ≤ length output) {n c : ℕ} {output' ns' : List Float} {cs' : List ℕ} (p : BlocksLent K ns cs input output n c output' ns' cs') where
    pub ran : ◌≡◌ {A = Block F.State} (record { refusal = n; clouded = c; state = K.read ns' cs'; output = output' }) (block F (K.read ns cs) input output)
    ran = p.ran ∙ lent-block F (fitting K ns cs) (record_of K ns cs) input output fit

    pub accepted : n ≡ 0
    accepted = ap (λ (b : Block F.State). b.refusal) (ran ∙ block-is F (K.read ns cs) input output good room)

    after-ran : K.read ns' cs' ≡ after F (K.read ns cs) input
    after-ran = ap (λ (b : Block F.State). b.state) (ran ∙ block-is F (K.read ns cs) input output good room)

    pub left-ready : Ready ns' cs'
    left-ready = let written = left-accepted K ns cs accepted p.leaves in record {
      fit = p.leaves.fit ∙ fit;
      good = rw after-ran (check-after F keeps (K.read ns cs) input good);
      held = written.0;
      held_counts = written.1;
    }

  -- ---- the empty block, which tests the slices and the record
  module _ (numbered : F.refusal ≡ 0 → ⊥) (ns : List Float) (cs : List ℕ) {n c : ℕ} {ns' output' : List Float} {cs' : List ℕ}
      (p : BlocksLent K ns cs [] [] n c output' ns' cs') where
    -- refused, it is refused as any block over its own input is
    pub empty-refused : (old : List Float) (tally : List ℕ) → length tally ≡ 1 → (n ≡ 0 → ⊥)
        → record { refusal = n; numbers = ns'; counts = cs'; answers = old; clouded = tally } ≡ block_in_place_call K ns cs old tally
    unfolding block_in_place_call
    empty-refused old tally h z = go (K.fit ns cs) (F.check (K.read ns cs)) refl refl
      where
        kept : (ns' ≡ ns) × (cs' ≡ cs)
        kept = left-refused K ns cs z p.leaves

        go : (a b : Bool) → K.fit ns cs ≡ a → F.check (K.read ns cs) ≡ b
            → record { refusal = n; numbers = ns'; counts = cs'; answers = old; clouded = tally } ≡ block_call K ns cs old old tally
        go false b f t =
            let e : n ≡ bad_call = ap (λ (b : Block F.State). b.refusal) (p.ran ∙ unfit-block F (fitting K ns cs) (record_of K ns cs) [] [] f) in
            rw (kept.0, kept.1, e) (block-unfit K ns cs old old tally h f)
        go true false f t =
            let q = p.ran ∙ lent-block F (fitting K ns cs) (record_of K ns cs) [] [] f ∙ sym (block_refused F (K.read ns cs) [] [] t) in
            let e : n ≡ F.refusal = ap (λ (b : Block F.State). b.refusal) q in
            rw (kept.0, kept.1, e)
            (Calls.block_refused K ns cs old old tally h (lend-block K ns cs f refl old old (block_refused F (K.read ns cs) old old t)) numbered)
        go true true f t = absurd (z (accepted ns cs [] [] f t (omega arith) p))

    pub empty-good : n ≡ 0 → (K.fit ns cs ≡ true) × (F.check (K.read ns cs) ≡ true)
    empty-good z = go (K.fit ns cs) (F.check (K.read ns cs)) refl refl
      where
        go : (a b : Bool) → K.fit ns cs ≡ a → F.check (K.read ns cs) ≡ b → (K.fit ns cs ≡ true) × (F.check (K.read ns cs) ≡ true)
        go false b f t =
            let e : n ≡ bad_call = ap (λ (b : Block F.State). b.refusal) (p.ran ∙ unfit-block F (fitting K ns cs) (record_of K ns cs) [] [] f) in
            absurd (omega (arith, e, z))
        go true false f t =
            let q = p.ran ∙ lent-block F (fitting K ns cs) (record_of K ns cs) [] [] f ∙ sym (block_refused F (K.read ns cs) [] [] t) in
            let e : n ≡ F.refusal = ap (λ (b : Block F.State). b.refusal) q in
            absurd (numbered (sym e ∙ z))
        go true true f t = (f, t)

  -- ---- the parts one after the other, over slices that the empty block left
  module _ (ns₀ : List Float) (cs₀ : List ℕ) (old : List Float) where
    abbrev s₀ : F.State
    s₀ = K.read ns₀ cs₀

    -- before sample i
    pub record Parts (ns : List Float) (cs : List ℕ) (buffer : List Float) (total i : ℕ) : Type 0 where
      pub ready : Ready ns cs
      pub place : InPlace F s₀ old (K.read ns cs) buffer total i

    -- n ≡ 0 of the empty block
    pub parts-start : {n c : ℕ} {ns output' : List Float} {cs : List ℕ} → (F.refusal ≡ 0 → ⊥) → n ≡ 0 → BlocksLent K ns₀ cs₀ [] [] n c output' ns cs
        → Parts ns cs old 0 0
    unfolding after
    parts-start numbered z p =
        let good = empty-good numbered ns₀ cs₀ p z in
        let same = after-ran ns₀ cs₀ [] [] good.0 good.1 (omega arith) p in
        record { ready = left-ready ns₀ cs₀ [] [] good.0 good.1 (omega arith) p; place = rw same (place-start F keeps s₀ old good.1) }

    -- a part up to `to`
    module _ {ns buffer : List Float} {cs : List ℕ} {total i : ℕ} (q : Parts ns cs buffer total i) (to : ℕ) (low : i ≤ to) (high : to ≤ length old)
        {n c : ℕ} {input ys ns' : List Float} {cs' : List ℕ} (copied : input ≡ take (to - i) (drop i buffer))
        (p : BlocksLent K ns cs input (take (to - i) (drop i buffer)) n c ys ns' cs') where
      room : length input ≤ length (take (to - i) (drop i buffer))
      room = omega (arith, ap length copied)

      pub part-accepted : n ≡ 0
      part-accepted = accepted ns cs input (take (to - i) (drop i buffer)) q.ready.fit q.ready.good room p

      pub parts-turn : Parts ns' cs' (take i buffer ++ (ys ++ drop (to - i) (drop i buffer))) (total + c) to
      parts-turn = record {
        ready = left-ready ns cs input (take (to - i) (drop i buffer)) q.ready.fit q.ready.good room p;
        place = place-turn F keeps s₀ old to low high (ran ns cs input (take (to - i) (drop i buffer)) q.ready.fit q.ready.good room p
            ∙ ap (λ (xs : List Float). block F (K.read ns cs) xs (take (to - i) (drop i buffer))) copied) q.place;
      }

    pub parts-done : {ns buffer : List Float} {cs : List ℕ} {total i : ℕ} (tally tally' : List ℕ) → length old ≤ i → length tally ≡ 1 → tally' ≡ total ∷ []
        → K.fit ns₀ cs₀ ≡ true → F.check s₀ ≡ true → Parts ns cs buffer total i
        → record { refusal = 0; numbers = ns; counts = cs; answers = buffer; clouded = tally' } ≡ block_in_place_call K ns₀ cs₀ old tally
    unfolding block_in_place_call
    parts-done tally tally' h single et fit good p =
        let done = place-done F keeps s₀ old h good p.place in
        Calls.block-accepted K ns₀ cs₀ old old tally single (lend-block K ns₀ cs₀ fit refl old old done) refl p.ready.held p.ready.held_counts et
