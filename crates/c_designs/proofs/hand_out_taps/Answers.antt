-- `c_designs::hand_out_taps` meets its contract.
use mathlib.Core.Path.{refl, sym, ◌∙◌}
use borrow.Author.Rules.{rules}
use Rattle.std.proofs.lemmas.Result.{err_from_is_err_and}
use Rattle.c_calls.proofs.Laws.{numbered}
use Rattle.c_calls.specs.Kinds.{taps_counts}
use Rattle.c_designs.proofs.Laws.{taps-lengths, made-unfit, made-refused, made-accepted}
use Rattle.c_designs.proofs.hand_out_taps.Goals as goal

pub returns-then-not-has_tap_places : goal.returns-then-not-has_tap_places
returns-then-not-has_tap_places c = made-unfit _ _ _ _ (sym c.has_tap_places.ensures ∙ c.if-not-has_tap_places.true)

pub returns-in_err-made : goal.returns-in_err-made
returns-in_err-made c =
    let places = sym c.has_tap_places.ensures ∙ c.if-not-has_tap_places.false in
    let r = err_from_is_err_and c.from_residual.result c.from_residual.ensures.1 in
    rw (r.1, r.2, c.in_err-made.was) (made-refused _ _ _ _ places (numbered _))

pub copy_from_slice-requires : goal.copy_from_slice-requires
copy_from_slice-requires c = let p = taps-lengths _ _ _ (sym c.has_tap_places.ensures ∙ c.if-not-has_tap_places.false) in search rules

pub copy_from_slice-requires-2 : goal.copy_from_slice-requires-2
copy_from_slice-requires-2 c = let p = taps-lengths _ _ _ (sym c.has_tap_places.ensures ∙ c.if-not-has_tap_places.false) in search rules

pub copy_from_slice-requires-3 : goal.copy_from_slice-requires-3
copy_from_slice-requires-3 c = (taps-lengths _ _ _ (sym c.has_tap_places.ensures ∙ c.if-not-has_tap_places.false)).2

pub returns : goal.returns
unfolding taps_counts
returns c =
    let places = sym c.has_tap_places.ensures ∙ c.if-not-has_tap_places.false in
    rw c.in_ok-made.was
    (made-accepted _ _ _ _ places refl c.copy_from_slice.ensures.after c.copy_from_slice-2.ensures.after
    (c.copy_from_slice-3.ensures.after ∙ rw c.from.ensures refl))
