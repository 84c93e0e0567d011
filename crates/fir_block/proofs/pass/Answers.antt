-- `fir_block::pass` meets its contract.
use Rattle.std.proofs.Common.{◌≡◌, length, take, ◌∙◌, arith}
use Rattle.std.proofs.lemmas.List.{take_rest, length-take-le}
use Rattle.std.specs.Float.{binary64}
use Rattle.limits.specs.Limits.{max_taps}
use Rattle.fir_theory.proofs.Laws.{fits-lengths, rooms}
use Rattle.fir_theory.proofs.Long.{parts_join}
use Rattle.fir_step.specs.View.{lent_view}
use Rattle.fir_block.proofs.pass.Goals as goal

pub returns : goal.returns
returns c =
    let r = c.requires in
    let a = c.args in
    let front = c.pass_some-front in
    let rest = simp take_rest at c.pass_all-rest.ensures in
    let s = lent_view a.taps.now front.new.samples front.new.counts in
    let l = fits-lengths max_taps _ r.fit in
    let n : length (take a.counts.now.length a.taps.now) ≡ a.counts.now.length =
    length-take-le a.counts.now.length a.taps.now (rooms max_taps _ r.fit r.good).0 in
    parts_join max_taps binary64 _ a.input.now a.output.now _ r.good (omega arith) (omega arith) r.room s l.0 (front.auto.samples ∙ l.1) n
    front.ensures.run rest.clouded rest.newest rest.sums
