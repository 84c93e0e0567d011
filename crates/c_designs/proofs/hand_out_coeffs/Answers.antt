-- `c_designs::hand_out_coeffs` meets its contract.
use mathlib.Core.Path.{sym, ◌∙◌}
use Rattle.c_designs.proofs.Laws.{taps-lengths, made-unfit, coeffs-refused-default, coeffs-not-finite, coeffs-default, coeffs-accepted}
use Rattle.c_designs.proofs.hand_out_coeffs.Goals as goal

pub returns-then-not-has_tap_places : goal.returns-then-not-has_tap_places
returns-then-not-has_tap_places c = made-unfit _ _ _ _ (sym c.has_tap_places.ensures ∙ c.if-not-has_tap_places.true)

pub returns-then-coeffs_refused : goal.returns-then-coeffs_refused
returns-then-coeffs_refused c =
    let places = sym c.has_tap_places.ensures ∙ c.if-not-has_tap_places.false in
    coeffs-refused-default _ _ _ _ places (sym c.coeffs_refused.ensures.refused ∙ c.if-coeffs_refused.true)

pub returns-then-not_all_finite : goal.returns-then-not_all_finite
returns-then-not_all_finite c =
    let places = sym c.has_tap_places.ensures ∙ c.if-not-has_tap_places.false in
    coeffs-not-finite _ _ _ _ places (sym c.coeffs_refused.ensures.refused ∙ c.if-coeffs_refused.false)
    (sym c.not_all_finite.ensures ∙ c.if-not_all_finite.true)

pub put_coeffs-requires-clause-places : goal.put_coeffs-requires-clause-places
put_coeffs-requires-clause-places c = taps-lengths _ _ _ (sym c.has_tap_places.ensures ∙ c.if-not-has_tap_places.false)

pub returns : goal.returns
returns c =
    let places = sym c.has_tap_places.ensures ∙ c.if-not-has_tap_places.false in
    let few = sym c.coeffs_refused.ensures.refused ∙ c.if-coeffs_refused.false in
    let raw = coeffs-default _ _ _ _ places few (sym c.not_all_finite.ensures ∙ c.if-not_all_finite.false) in
    rw raw (coeffs-accepted _ _ _ _ places few c.put_coeffs.ensures.taps c.put_coeffs.ensures.samples c.put_coeffs.ensures.counts)
