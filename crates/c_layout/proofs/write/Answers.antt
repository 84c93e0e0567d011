-- `c_layout::write` meets its contract.
use mathlib.Core.Path.{refl}
use Rattle.c_layout.proofs.Laws.{misplaced, lengths-places}
use Rattle.c_layout.proofs.write.Goals as goal

pub returns-in_default : goal.returns-in_default
returns-in_default c =
    let h = misplaced c.args.numbers.now c.args.counts.now (λ h k. c.in_default.ensures.cases h) in
    rw h (refl, refl, refl)

pub returns-in_default-as_mut_array : goal.returns-in_default-as_mut_array
returns-in_default-as_mut_array c =
    let h = misplaced c.args.numbers.now c.args.counts.now (λ h k. c.in_default-as_mut_array.ensures.cases k) in
    rw (h, c.in-Some.ensures.cases.same) (refl, refl, refl)

pub returns : goal.returns
returns c = let h = lengths-places _ _ c.in-Some.ensures.cases.long c.in-Some-as_mut_array.ensures.cases.long in
    rw h (refl, c.put.ensures.numbers, c.put.ensures.counts)
