-- `fir_block::pass_some` meets its contract.
use Rattle.std.proofs.Common.{◌≡◌, ℕ, ◌+◌, Bool, true, false, refl, ap, ◌∙◌, get_or, add-zero}
use Rattle.std.specs.Float.{nan, binary64}
use Rattle.std.specs.Int.{from_bool}
use Rattle.limits.specs.Limits.{max_taps}
use Rattle.runs.proofs.Laws.{tallied, run-turn, run-done, step-parts}
use Rattle.runs.proofs.Lent.{lent-step}
use Rattle.fir_theory.specs.Fir.{fir}
use Rattle.fir_theory.specs.Lent.{fits}
use Rattle.fir_theory.proofs.Laws.{check-next, fits_next}
use Rattle.fir_step.specs.View.{lent_view}
use Rattle.fir_block.proofs.pass_some.Goals as goal

tally : (b : Bool) (n : ℕ) → n + from_bool b ≡ tallied b n
tally true n = refl
tally false n = add-zero n

pub loop-i-preserved : goal.loop-i-preserved
loop-i-preserved c =
    let F = fir max_taps binary64 in
    let l = c.loop-i in
    let s = lent_view c.args.taps.now l.samples l.counts in
    let x = get_or c.args.input.now l.i nan in
    let p = step-parts F s x l.invariant.run.good (c.update-answer.ensures ∙ lent-step F (fits max_taps) s x l.invariant.fit) in
    let b = c.is_clouded.ensures ∙ p.1 in
    record {
      fit = rw p.2 (fits_next max_taps s x l.invariant.fit l.invariant.run.good);
      run = run-turn F (check-next max_taps) _ _ _ c.loop-i-test.true (c.number.ensures ∙ p.0) b p.2
          (ap (λ k. l.clouded + k) c.from-clouded.ensures ∙ tally _ _) l.invariant.run;
    }

pub returns-clause-run : goal.returns-clause-run
returns-clause-run c = run-done (fir max_taps binary64) (check-next max_taps) _ _ _ c.loop-i-test.false c.requires.good c.requires.room c.loop-i.invariant.run
