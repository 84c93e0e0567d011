-- `TapRecord`'s `block` meets its contract.
use mathlib.Core.Path.{◌≡◌, ap, ◌∙◌}
use lib.Ieee.{binary64}
use lib.ListN.{length}
use Rattle.runs.specs.Runs.{Block, block}
use Rattle.runs.specs.Lent.{lent_block}
use Rattle.runs.specs.View.{refusal_in, count_in}
use Rattle.runs.proofs.Lent.{lent-block}
use Rattle.fir_theory.specs.Fir.{TapsRecord, fir}
use Rattle.limits.specs.Limits.{max_taps}
use Rattle.fir_theory.specs.Lent.{fits}
use Rattle.fir_theory.proofs.Laws.{lengths-fit}
use Rattle.fir_step.specs.View.{lent_view}
use Rattle.fir_step.specs.declared.Counts.{Counts}
use Rattle.fir.specs.View.{taps_view}
use Rattle.fir.proofs.Kept.{block_keeps, put_back}
use borrow.Author.Rules.{rules}
use Rattle.fir.proofs.TapRecordFilterRecord.block.Goals as goal

pub returns : goal.returns
returns c =
    let a = c.args in
    let t : length c.args.self.taps ≡ max_taps = search rules in
    let h : length c.args.self.samples ≡ max_taps = search rules in
    let F = fir max_taps binary64 in
    let e : ◌≡◌ {A = Block TapsRecord} _ (block F (taps_view a.self) a.input.now a.output.now) =
    c.block-outcome.ensures
    ∙ ap (λ (k : Counts). lent_block F (fits max_taps) (lent_view a.self.taps a.self.samples k) a.input.now a.output.now) c.counts-counts.ensures
    ∙ lent-block F (fits max_taps) _ _ _ (lengths-fit max_taps _ t h) in
    ap (λ (s : TapsRecord). record {
      refusal = refusal_in c.block-outcome.result;
      clouded = count_in c.block-outcome.result;
      state = s;
      output = c.block-outcome.new.output;
    })
    (put_back _ _ (block_keeps (taps_view a.self) a.input.now a.output.now)
    (ap (λ (z : Block TapsRecord). z.state) e)) ∙ e
