-- `text_answers::print::Output::put_count` meets its contract.
use Rattle.std.proofs.Common.{rules, tests, ◌≡◌}
use Rattle.std.proofs.lemmas.Iterator.{YieldsList-from_slice}
use Rattle.std.proofs.lemmas.Iterator.Search.{position_from_yields_List}
use Rattle.std.specs.List.{position}
use Rattle.text_answers.proofs.Texts.{is_other, zeros, count_put}
use Rattle.text_answers.proofs.print.Output.put_count.Goals as goal

pub returns-clause-count : goal.returns-clause-count
unfolding zeros
returns-clause-count c =
    let text = c.digits-text.result in
    let p : c.position.result ≡ position is_other text =
    position_from_yields_List is_other _ _ _ c.position.ensures.ran (YieldsList-from_slice text cc) (λ x b q k. search (rules, tests)) in
    count_put c.ranges.n.fits c.digits-text.ensures (rw p at c.unwrap_or-zeros.ensures) c.put_bytes.ensures.bytes c.put_bytes.ensures.place
