-- `c_designs::hand_out_coeffs_raw` meets its contract.
use mathlib.Core.Path.{sym, ◌∙◌}
use Rattle.c_designs.proofs.Laws.{taps-lengths, made-unfit, coeffs-refused, coeffs-accepted}
use Rattle.c_designs.proofs.hand_out_coeffs_raw.Goals as goal

pub returns-then-not-has_tap_places : goal.returns-then-not-has_tap_places
returns-then-not-has_tap_places c = made-unfit _ _ _ _ (sym c.has_tap_places.ensures ∙ c.if-not-has_tap_places.true)

pub returns-then-coeffs_refused : goal.returns-then-coeffs_refused
returns-then-coeffs_refused c =
    coeffs-refused _ _ _ _ (sym c.has_tap_places.ensures ∙ c.if-not-has_tap_places.false) (sym c.coeffs_refused.ensures.refused ∙ c.if-coeffs_refused.true)

pub put_coeffs-requires-clause-places : goal.put_coeffs-requires-clause-places
put_coeffs-requires-clause-places c = taps-lengths _ _ _ (sym c.has_tap_places.ensures ∙ c.if-not-has_tap_places.false)

pub returns : goal.returns
returns c =
    coeffs-accepted _ _ _ _ (sym c.has_tap_places.ensures ∙ c.if-not-has_tap_places.false) (sym c.coeffs_refused.ensures.refused ∙ c.if-coeffs_refused.false)
    c.put_coeffs.ensures.taps c.put_coeffs.ensures.samples c.put_coeffs.ensures.counts
