-- `cascade::Cascade::skewed_block` meets its contract: a run of the four sections.
use mathlib.Core.Path.{◌≡◌, ap}
use mathlib.Core.List.{List, map}
use lib.ListN.{length}
use lib.Ieee.{binary64}
use borrow.Author.Rules.{rules}
use Rattle.limits.specs.Limits.{max_sections}
use Rattle.lists.proofs.Places.{four-places}
use Rattle.sections.specs.declared.section.Section.{Section}
use Rattle.sections.specs.View.{section_view}
use Rattle.pipeline.specs.View.{no_section, four_view}
use Rattle.cascade_theory.specs.Skewed.{listed}
use Rattle.cascade_theory.proofs.Skew.{ran-left}
use Rattle.cascade_theory.proofs.Skewed.{block-skewed}
use Rattle.cascade.proofs.Cascade.skewed_block.Goals as goal

listed-four : (ss : List Section) → length ss ≡ max_sections → listed (four_view ss) ≡ map section_view ss
listed-four ss h = ap (map section_view) (four-places ss no_section h)

pub returns-in_err-sections : goal.returns-in_err-sections
returns-in_err-sections c = rw c.from_residual.ensures (ran-left binary64 _ _ _ c.in_err-sections.ensures)

pub returns : goal.returns
returns c =
    let old = c.args.self.sections in
    let new = c.in_ok-sections.sections in
    let before : length old ≡ max_sections = search rules in
    let after : length new ≡ max_sections = search rules in
    block-skewed binary64 _ _ _ (listed-four old before) (listed-four new after) (c.skewable.ensures c.if-not-skewable.false) c.in_ok-sections.ensures
