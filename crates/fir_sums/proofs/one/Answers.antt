-- `fir_sums::one` meets its contract.
use Rattle.std.proofs.Common.{◌∙◌, rules}
use Rattle.std.proofs.lemmas.Iterator.{YieldsList-from_slice, YieldsList-from_zip}
use Rattle.std.proofs.lemmas.Iterator.Adapters.{YieldsList-from_rev_slice}
use Rattle.std.proofs.lemmas.Iterator.Consumers.{fold_from_yields_List}
use Rattle.std.specs.Float.{binary64}
use Rattle.fir_theory.proofs.Laws.{add_product}
use Rattle.fir_theory.proofs.Sums.{one-sum}
use Rattle.fir_sums.proofs.one.Goals as goal

pub returns : goal.returns
returns c =
    let pairs = YieldsList-from_zip (YieldsList-from_slice c.args.taps.now cc) (YieldsList-from_rev_slice c.args.x.now cc) in
    fold_from_yields_List _ (add_product binary64) _ _ c.fold.ensures.ran pairs (λ s p t f k. search rules) ∙ one-sum binary64 _ _ c.requires
