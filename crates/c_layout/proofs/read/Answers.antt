-- `c_layout::read` meets its contract.
use mathlib.Core.Path.{refl, ◌∙◌}
use Rattle.c_layout.proofs.Laws.{misplaced, lengths-places}
use Rattle.c_layout.proofs.read.Goals as goal

pub returns-in_default : goal.returns-in_default
returns-in_default c = rw (misplaced _ _ (λ h k. c.in_default.ensures.cases h)) c.blank.ensures

pub returns-in_default-as_array : goal.returns-in_default-as_array
returns-in_default-as_array c = rw (misplaced _ _ (λ h k. c.in_default-as_array.ensures.cases k)) c.blank-in_default-as_array.ensures

pub returns : goal.returns
returns c =
    let numbers = c.in-Some.ensures.cases in
    let counts = c.in-Some-as_array.ensures.cases in
    rw (lengths-places _ _ numbers.long counts.long) (c.assembled.ensures ∙ rw (numbers.same, counts.same) refl)
