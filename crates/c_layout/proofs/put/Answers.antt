-- `c_layout::put` meets its contract.
use mathlib.Core.Path.{refl, ap₂, ◌∙◌}
use mathlib.Core.List.{◌++◌}
use borrow.Author.Rules.{rules}
use Rattle.sections.specs.View.{section_view}
use Rattle.c_layout.specs.Layout.{section_numbers, cascade_numbers, cascade_counts}
use Rattle.c_layout.proofs.Laws.{flag_from}
use Rattle.c_layout.proofs.Rows.{mapped, joined-rows}
use Rattle.c_layout.proofs.put.Goals as goal

pub returns-clause-numbers : goal.returns-clause-numbers
unfolding cascade_numbers
returns-clause-numbers c =
    let ss = mapped (λ s. section_numbers (section_view s)) (λ r. r) (λ p q x y k. search rules) c.args.c.sections c.map-sections.result (search rules)
    c.map-sections.ensures.items in
    ap₂ ◌++◌ (c.copy_from_slice.ensures.after ∙ c.as_flattened.ensures.value ∙ joined-rows c.args.c.sections c.map-sections.result ss)
    c.copy_from_slice-2.ensures.after

pub returns-clause-counts : goal.returns-clause-counts
unfolding cascade_counts
returns-clause-counts c = rw (c.from.ensures ∙ flag_from c.args.c.has_first, c.from-2.ensures ∙ flag_from c.args.c.clouded) refl
