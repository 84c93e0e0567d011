-- `sections::parts::pass_sections` meets its contract: four turns.
use mathlib.Core.Path.{◌≡◌}
use lib.ListN.{length}
use lib.Ieee.{binary64}
use Rattle.limits.specs.Limits.{max_sections}
use Rattle.sections.specs.View.{section_view}
use Rattle.cascade_theory.proofs.Turns.{turned, four-turns}
use borrow.Author.Rules.{rules}
use Rattle.sections.proofs.parts.pass_sections.Goals as goal

pub returns : goal.returns
returns c =
    let four : length c.args.sections ≡ max_sections = search rules in
    four-turns binary64 section_view c.args.sections _ c.args.count c.args.x four (turned binary64 c.process_if-p0.ensures)
    (turned binary64 c.process_if-p1.ensures) (turned binary64 c.process_if-p2.ensures)
    (turned binary64 c.process_if-p3.ensures)
