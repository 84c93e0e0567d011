-- A step, a reset and a block of a tap record leave its length and its window code, so a record whose samples and held count are those after the call, and all
-- else is as it was, is the record after it.
use mathlib.Core.Path.{◌≡◌, refl, sym, ap, ap₂, ◌∙◌}
use mathlib.Core.Bool.{Bool, true, false, cond}
use mathlib.Core.List.{List, [], ◌∷◌}
use Prim.Native.Nat.{ℕ}
use lib.Ieee.{Float, binary64}
use lib.Dec.{ltb}
use lib.ListN.{length}
use Rattle.runs.specs.Refusals.{no_refusal, short_output}
use Rattle.runs.specs.Runs.{Filter, Step, Reset, Block, refused_block, refused, answer, step, reset, block, after, answers, clouded_in, written}
use Rattle.fir_theory.specs.Fir.{TapsRecord, next, cleared_taps, check_taps, fir}
use Rattle.fir_theory.specs.Lent.{lent_taps}
use Rattle.limits.specs.Limits.{max_taps}

-- what stays
pub record Kept (r s : TapsRecord) : Type 0 where
  pub length : s.length ≡ r.length
  pub window : s.window ≡ r.window

abbrev F : Filter
F = fir max_taps binary64

pub step_keeps : (r : TapsRecord) (x : Float) → Kept r (step F r x).state
unfolding step next
step_keeps r x = go (check_taps max_taps r)
  where
    go : (b : Bool) → Kept r ((cond {A = Step TapsRecord} b (record { answer = answer F r x; state = next r x })
        (record { answer = refused F.refusal; state = r })).state)
    go true = record { length = refl; window = refl }
    go false = record { length = refl; window = refl }

pub reset_keeps : (r : TapsRecord) → Kept r (reset F r).state
unfolding reset cleared_taps
reset_keeps r = go (check_taps max_taps r)
  where
    go : (b : Bool) → Kept r ((cond {A = Reset TapsRecord} b (record { refusal = no_refusal; state = F.cleared r })
        (record { refusal = F.refusal; state = r })).state)
    go true = record { length = refl; window = refl }
    go false = record { length = refl; window = refl }

after_keeps : (r : TapsRecord) (xs : List Float) → Kept r (after F r xs)
unfolding after
after_keeps r [] = record { length = refl; window = refl }
after_keeps r (x ∷ xs) = let p = step_keeps r x in let q = after_keeps (step F r x).state xs in
    record { length = q.length ∙ p.length; window = q.window ∙ p.window }

pub block_keeps : (r : TapsRecord) (input output : List Float) → Kept r (block F r input output).state
unfolding block
block_keeps r input output = go (check_taps max_taps r) (ltb (length output) (length input))
  where
    go : (a b : Bool) → Kept r ((cond {A = Block TapsRecord} a (cond b (refused_block short_output r output)
        (record { refusal = no_refusal; clouded = clouded_in (answers F r input); state = after F r input; output = written (answers F r input) output }))
        (refused_block F.refusal r output)).state)
    go true true = record { length = refl; window = refl }
    go true false = after_keeps r input
    go false b = record { length = refl; window = refl }

-- the record with the samples and the held count after a call is what the call left
pub put_back : (r s : TapsRecord) {ts us : List Float} {n h w : ℕ} → Kept r s → lent_taps ts us n h w ≡ s
    → lent_taps ts us r.length h r.window ≡ lent_taps ts us n h w
put_back r s {ts} {us} {n} {h} {w} k e =
    ap₂ (λ (a b : ℕ). lent_taps ts us a h b) (sym k.length ∙ sym (ap (λ (z : TapsRecord). z.length) e))
    (sym k.window ∙ sym (ap (λ (z : TapsRecord). z.window) e))
