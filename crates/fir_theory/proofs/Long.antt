-- A long block from a full record: what its parts make together is what single steps make.
use mathlib.Core.Path.{◌≡◌, refl, sym, ap, ap₂, ◌∙◌}
use mathlib.Core.Bool.{Bool, true, false, cond}
use mathlib.Core.List.{List, [], ◌∷◌, ◌++◌, reverse}
use Prim.Native.Nat.{ℕ, ◌+◌, ◌-◌, ◌<◌, ◌≤◌, min}
use native.Mathlib.Omega.{arith}
use lib.Dec.{ltb}
use borrow.Rule.Slice.PartMut.{put_mid}
use lib.ListN.{length, take, drop, length-take, length-drop, length-append, drop_of_length-le}
use lib.Seq.{length-take-le, take-take}
use lib.Ieee.{Float, Format}
use borrow.Author.Tests.{ltb-true, ltb-false}
use Rattle.std.proofs.lemmas.List.{length-reverse}
use Rattle.runs.specs.Runs.{Answer, Block, clouded_in, written, answers, after, block}
use Rattle.runs.proofs.Laws.{front-is, check-after, written-length, block-parts}
use Rattle.lists.specs.Lists.{spliced}
use Rattle.fir_theory.specs.Convolution.{sums_from, convolvable, convolved}
use Rattle.fir_theory.specs.Blocks.{finite_run, clouds_from, values, ran_block}
use Rattle.fir_theory.specs.Fir.{TapsRecord, check_taps, fir}
use Rattle.fir_theory.specs.Lent.{lent_taps, fits}
use Rattle.fir_theory.proofs.Laws.{sizes, rooms, fits-lengths, lengths-fit, check-next}
use Rattle.fir_theory.proofs.Sums.{convolved-sums}
use Rattle.fir_theory.proofs.Full.{Full, answers-full, after-full, written-told, count-told, held_after}
use Rattle.fir_theory.proofs.Line.{stretch, farther, values-taps}

-- ---- the two stretches of outputs: S are the held samples, as many as the taps ts
module _ (f : Format) (ts S : List Float) (some : 1 ≤ length ts) (held : length S ≡ length ts) where
  -- those that need the held samples, over a line of these and the first samples
  pub first-stretch : (xs x output : List Float) → x ≡ reverse S ++ xs → length output ≡ length xs
      → convolved f (length ts) ts x (length ts) output 0 (length output) ≡ values f ts (length ts) S xs
  first-stretch xs x output e l =
      let lx : length x ≡ length ts + length xs = ap length e ∙ length-append (reverse S) xs ∙ ap (λ (k : ℕ). k + length xs) (length-reverse S ∙ held) in
      convolved-sums f ts x output (omega (arith, lx, l))
      ∙ ap₂ (λ (X : List Float) (m : ℕ). sums_from f ts (length ts) X (length ts) m) e l
      ∙ stretch f ts (length ts) some (omega arith) S xs held

  -- and the others, over the input alone
  pub second-stretch : (input output : List Float) (few : ℕ) → few ≡ min (length ts) (length input) → length output + few ≡ length input
      → convolved f (length ts) ts input (length ts) output 0 (length output)
      ≡ values f ts (length ts) (reverse (take few input) ++ S) (drop few input)
  unfolding values convolved spliced sums_from
  second-stretch input output few e l = go (ltb (length input) (length ts)) refl
    where
      none : (out : List Float) (b : Bool) → length out ≡ 0 → cond b (spliced out 0 (sums_from f ts (length ts) input (length ts) (length out))) out ≡ []
      none [] true h = refl
      none [] false h = refl
      none (y ∷ out) b h = absurd (omega arith)

      go : (b : Bool) → ltb (length input) (length ts) ≡ b → convolved f (length ts) ts input (length ts) output 0 (length output)
          ≡ values f ts (length ts) (reverse (take few input) ++ S) (drop few input)
      go true t =
          let h = ltb-true (length input) (length ts) t in
          let d : drop few input ≡ [] = drop_of_length-le input {i = few} (omega arith) in
          rw d (none output (convolvable (length ts) ts input (length ts) output 0 (length output)) (omega arith))
      go false t =
          let h = ltb-false (length input) (length ts) t in
          let k : length ts ≡ few = omega arith in
          let m : length output ≡ length input - length ts = omega arith in
          convolved-sums f ts input output (omega arith)
          ∙ ap (sums_from f ts (length ts) input (length ts)) m ∙ farther f ts (length ts) some (omega arith) S input h
          ∙ ap (λ (z : ℕ). values f ts (length ts) (reverse (take z input) ++ S) (drop z input)) k

-- ---- the record after the samples that it lacked is full
pub front-full : (capacity : ℕ) (f : Format) (r : TapsRecord) (input output₀ : List Float) (k : ℕ) → check_taps capacity r ≡ true → k ≤ length input
    → length input ≤ length output₀ → k ≡ r.length - r.held
    → {c : ℕ} {s : TapsRecord} {o : List Float} → record { refusal = 0; clouded = c; state = s; output = o } ≡ block (fir capacity f) r (take k input) output₀
    → (check_taps capacity s ≡ true) × (s.held ≡ s.length) × (length o ≡ length output₀) × (s.length ≡ r.length)
front-full capacity f r input output₀ k good within room ek {c} {s} {o} e =
    let q = e ∙ front-is (fir capacity f) (check-next capacity) r input output₀ k good within room in
    let t : s ≡ after (fir capacity f) r (take k input) = ap (λ (b : Block TapsRecord). b.state) q in
    let p = held_after capacity f r (take k input) good in
    let l = length-take k input in (
      ap (check_taps capacity) t ∙ check-after (fir capacity f) (check-next capacity) r (take k input) good,
      ap (λ (z : TapsRecord). z.held) t ∙ p.0 ∙ fills (sizes capacity r good).few l ∙ sym p.1 ∙ ap (λ (z : TapsRecord). z.length) (sym t),
      ap (λ (b : Block TapsRecord). length b.output) q ∙ written-length (answers (fir capacity f) r (take k input)) output₀,
      ap (λ (z : TapsRecord). z.length) t ∙ p.1,
    )
  where
    fills : r.held ≤ r.length → length (take k input) ≡ min k (length input) → min (r.held + length (take k input)) r.length ≡ r.length
    fills h l = omega (arith, h, l, ek, within)

-- ---- many samples through a full record, from its first places
module _ (capacity : ℕ) (f : Format) (r : TapsRecord) (fit : fits capacity r ≡ true) (good : check_taps capacity r ≡ true) (full : r.held ≡ r.length)
    (xs : List Float) where
  abbrev S : List Float
  S = take r.length r.samples

  held-are : length S ≡ r.length
  held-are = length-take-le r.length r.samples (rooms capacity r fit good).1

  is-full : Full capacity f r.taps r.length S r
  is-full = record {
    good = good;
    taps = refl;
    counted = refl;
    held = full;
    places = (fits-lengths capacity r fit).1;
    newest = sym (take-take r.length r.length r.samples (omega arith));
  }

  count-full : clouds_from r.length (min (finite_run S) r.length) xs ≡ clouded_in (answers (fir capacity f) r xs)
  count-full =
      sym (ap clouded_in (answers-full capacity f r.taps r.length xs is-full) ∙ count-told f r.taps r.length S xs (omega (arith, held-are)))

  output-full : (output : List Float) → length xs ≤ length output
      → values f (take r.length r.taps) r.length S xs ++ drop (length xs) output ≡ written (answers (fir capacity f) r xs) output
  output-full output h =
      ap (λ (l : List Float). l ++ drop (length xs) output) (values-taps f r.taps r.length S xs) ∙ sym (written-told f r.taps r.length S xs output h)
      ∙ ap (λ (a : List Answer). written a output) (sym (answers-full capacity f r.taps r.length xs is-full))

-- ---- the first samples, and then all the others through the full record
module _ (capacity : ℕ) (f : Format) (r : TapsRecord) (input output₀ : List Float) (k : ℕ) (good : check_taps capacity r ≡ true)
    (first : k ≡ min (length input) (r.length - r.held)) (more : k < length input) (room : length input ≤ length output₀) where
  pub parts_join : {c₁ c₂ n : ℕ} (s : TapsRecord) {o₁ o₂ S : List Float} → length s.taps ≡ capacity → length s.samples ≡ capacity → n ≡ r.length
      → ran_block c₁ s o₁ ≡ block (fir capacity f) r (take k input) output₀
      → c₂ ≡ clouds_from n (min (finite_run (take r.length s.samples)) n) (drop k input)
      → S ≡ take n (reverse (drop k input) ++ take r.length s.samples)
      → o₂ ≡ values f (take r.length s.taps) n (take r.length s.samples) (drop k input)
      → ran_block (c₁ + c₂) (lent_taps s.taps (S ++ drop r.length s.samples) s.length s.held s.window) (put_mid k (length input - k) o₁ o₂)
      ≡ block (fir capacity f) r input output₀
  parts_join {c₁} {c₂} {n} s {o₁} {o₂} {S} lt ls en e ec eS eo =
      let xs = drop k input in
      let F = fir capacity f in
      let p = front-full capacity f r input output₀ k good (omega arith) room (omega arith) e in
      let fit = lengths-fit capacity s lt ls in
      let count : c₂ ≡ clouded_in (answers F s xs) = rw (en, ← p.3) at ec ∙ count-full capacity f s fit p.0 p.1 xs in
      let state : ◌≡◌ {A = TapsRecord} (lent_taps s.taps (S ++ drop r.length s.samples) s.length s.held s.window) (after F s xs) =
      rw (eS, en, ← p.3) (sym (after-full capacity f s.taps s.length xs (is-full capacity f s fit p.0 p.1 xs))) in
      let output : put_mid k (length input - k) o₁ o₂ ≡ take k o₁ ++ written (answers F s xs) (drop k o₁) =
      ap (λ (l : List Float). take k o₁ ++ l) (ap (λ (z : ℕ). o₂ ++ drop z (drop k o₁)) (sym (length-drop k input))
      ∙ ap (λ (l : List Float). l ++ drop (length xs) (drop k o₁)) (rw (en, ← p.3) at eo)
      ∙ output-full capacity f s fit p.0 p.1 xs (drop k o₁) (omega (arith, length-drop k input, length-drop k o₁, p.2))) in
      block-parts F (check-next capacity) r input output₀ k good (omega arith) room e count state output
