-- `c_designs::hand_out` meets its contract.
use mathlib.Core.Path.{refl, sym, ◌∙◌}
use Rattle.std.proofs.lemmas.Result.{err_from_is_err_and}
use Rattle.c_calls.proofs.Laws.{numbered}
use Rattle.c_designs.proofs.Laws.{design-unfit, design-refused, design-accepted}
use Rattle.c_designs.proofs.hand_out.Goals as goal

pub returns-then-not-has_places : goal.returns-then-not-has_places
returns-then-not-has_places c = design-unfit _ _ _ (sym c.has_places.ensures ∙ c.if-not-has_places.true)

pub returns-in_err-design : goal.returns-in_err-design
returns-in_err-design c =
    let places = sym c.has_places.ensures ∙ c.if-not-has_places.false in
    let r = err_from_is_err_and c.from_residual.result c.from_residual.ensures.1 in
    rw (r.1, r.2, c.in_err-design.was) (design-refused _ _ _ places (numbered _))

pub returns : goal.returns
returns c =
    let places = sym c.has_places.ensures ∙ c.if-not-has_places.false in
    let written = rw places at c.write.ensures in
    rw c.in_ok-design.was (design-accepted _ _ _ places refl written.1 written.2)
