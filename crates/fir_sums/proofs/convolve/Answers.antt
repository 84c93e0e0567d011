-- `fir_sums::convolve` meets its contract.
use Rattle.std.proofs.Common.{length, drop, sym, ◌∙◌, length-drop, arith}
use Rattle.std.proofs.lemmas.List.{take_rest}
use Rattle.std.specs.Float.{binary64}
use Rattle.fir_theory.proofs.Sums.{out-done, no-place, all_there}
use Rattle.fir_sums.proofs.convolve.Goals as goal

pub returns-then-not-within : goal.returns-then-not-within
returns-then-not-within c =
    let p = no-place binary64 _ _ _ (sym c.within.ensures ∙ c.if-not-within.true) in
    record { done = p.0; output = p.1 }

pub returns : goal.returns
returns c =
    let w = c.wide-done in
    let left = length-drop w.result w.new.output in
    let o = out-done binary64 _ _ _ w.result (length (drop w.result w.new.output)) _ (omega (arith, left)) (omega (arith, left))
    (simp take_rest at c.narrow.ensures) w.ensures.sums in
    let p = all_there binary64 _ _ _ (sym c.within.ensures ∙ c.if-not-within.false) o in
    record { done = p.0; output = p.1 }
