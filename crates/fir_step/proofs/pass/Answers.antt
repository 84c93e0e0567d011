-- `fir_step::pass` meets its contract.
use Rattle.std.proofs.Common.{◌≤◌, length, ap, sym, ◌∙◌, length-take, arith}
use Rattle.std.proofs.lemmas.List.{take-append-le}
use Rattle.std.specs.Float.{binary64}
use Rattle.limits.specs.Limits.{max_taps}
use Rattle.limits.specs.Zero.{plus_zero}
use Rattle.runs.specs.Runs.{marked}
use Rattle.fir_theory.specs.Fir.{sum}
use Rattle.fir_theory.proofs.Laws.{rooms, pushed_front, pass-is}
use Rattle.fir_step.proofs.pass.Goals as goal

pub returns : goal.returns
returns c =
    let r = rooms max_taps _ c.requires.fit c.requires.good in
    let t = c.take_in-y in
    let held : c.min-counts.result ≤ length t.new.samples = omega (arith, t.auto.samples, length-take c.args.counts.now.length c.args.samples.now, r.1) in
    let y = t.ensures.sum ∙ ap (sum binary64 plus_zero _) (sym (take-append-le _ _ _ held)) in
    pass-is binary64 max_taps _ _ c.requires.good (pushed_front _ _ _ r.1 t.ensures.pushed) (omega arith) (c.marked.ensures ∙ ap (marked _) y)
