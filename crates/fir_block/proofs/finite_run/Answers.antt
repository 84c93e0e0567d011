-- `fir_block::finite_run` meets its contract.
use Rattle.std.proofs.Common.{◌∙◌, rules}
use Rattle.std.proofs.lemmas.Iterator.{YieldsList-from_slice}
use Rattle.std.proofs.lemmas.Iterator.Search.{YieldsList-from_take_while}
use Rattle.std.proofs.lemmas.Iterator.Consumers.{count_from_yields_List}
use Rattle.std.proofs.lemmas.List.Folds.{length-prefix_len}
use Rattle.std.specs.Float.Ieee.Scale.{finite}
use Rattle.fir_theory.proofs.Counts.{prefix-is}
use Rattle.fir_block.proofs.finite_run.Goals as goal

pub returns-clause-run : goal.returns-clause-run
returns-clause-run c =
    count_from_yields_List _ _ c.count.ensures.ran (YieldsList-from_take_while _ finite (YieldsList-from_slice c.args.samples.now cc)
    c.take_while.ensures.closure c.take_while.ensures.done (λ x b q k. search rules))
    ∙ length-prefix_len finite _ ∙ prefix-is _
