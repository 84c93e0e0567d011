-- `sections::parts::sections_are_finite` meets its contract.
use mathlib.Core.Path.{◌∙◌}
use borrow.Author.Tests.{tests}
use Rattle.std.proofs.Common.{rules}
use Rattle.std.proofs.lemmas.Iterator.{YieldsList-from_slice, YieldsList-from_take}
use Rattle.std.proofs.lemmas.Iterator.Search.{all_from_yields_List}
use Rattle.runs.specs.Runs.{all_finite}
use Rattle.cascade_theory.specs.Coefficients.{coefficients_of_section}
use Rattle.cascade_theory.proofs.Coefficients.{counted_finite}
use Rattle.sections.specs.View.{section_view}
use Rattle.sections.proofs.parts.sections_are_finite.Goals as goal

pub returns : goal.returns
returns c =
    all_from_yields_List (λ s. all_finite (coefficients_of_section (section_view s))) _ _ c.all.result c.all.ensures.ran
    (YieldsList-from_take _ (YieldsList-from_slice c.args.sections (search rules)) c.take.ensures.count) (λ x b q k. search (rules, tests))
    ∙ counted_finite section_view c.args.count c.args.sections
