-- `design_fir::sum_of` meets its contract.
use mathlib.Core.Path.{◌∙◌, sym}
use Rattle.std.proofs.Common.{rules}
use Rattle.std.proofs.lemmas.Iterator.{YieldsList-from_slice}
use Rattle.std.proofs.lemmas.Iterator.Consumers.{fold_from_yields_List}
use Rattle.scalar.specs.Operators.{◌⊕◌}
use Rattle.design_fir.proofs.Taps.{total-fold}
use Rattle.design_fir.proofs.sum_of.Goals as goal

pub returns : goal.returns
returns c =
    fold_from_yields_List _ ◌⊕◌ _ _ c.fold.ensures.ran (YieldsList-from_slice c.args.coeffs.now cc) (λ s t r f k. search rules) ∙ sym (total-fold _ _)
