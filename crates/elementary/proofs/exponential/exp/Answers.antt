-- `elementary::exponential::exp` meets its contract.
use Rattle.std.proofs.Common.{sym, ◌∙◌, w64}
use mathlib.Core.Path.{subst⁻¹}
use borrow.Author.Rules.{sfits_of}
use mir.ValLaws.{to_z-of_z}
use Rattle.elementary.specs.Exponential.{Scale}
use Rattle.elementary.proofs.Bounds.{ranged, ranged-within}
use Rattle.elementary.proofs.exponential.exp.Goals as goal

pub nearest-requires : goal.nearest-requires
nearest-requires c = let x = c.args.x in
    ranged-within x (ranged x c.if-x.false c.if-x-2.false (sym c.is_nan.ensures.value ∙ c.if-is_nan.false))

pub exp_main-requires : goal.exp_main-requires
exp_main-requires c = let x = c.args.x in
    subst⁻¹ Scale (to_z-of_z w64 c.nearest.result (sfits_of c.nearest.type_inv) ∙ c.nearest.ensures)
    (ranged x c.if-x.false c.if-x-2.false (sym c.is_nan.ensures.value ∙ c.if-is_nan.false)).1
