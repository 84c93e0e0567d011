-- `c_layout::assembled` meets its contract.
use mathlib.Core.Path.{ap, ◌∙◌}
use mathlib.Core.List.{map}
use lib.ListN.{length}
use borrow.Author.Rules.{rules}
use Rattle.sections.specs.View.{section_view}
use Rattle.c_layout.specs.Layout.{section_at}
use Rattle.c_layout.proofs.Laws.{assembled-is}
use Rattle.c_layout.proofs.Rows.{mapped}
use Rattle.c_layout.proofs.assembled.Goals as goal

pub returns : goal.returns
returns c =
    let rows = rw c.unwrap-sections.ensures at c.as_array.ensures.cases in
    let first = rw c.unwrap.ensures at c.as_array-2.ensures.cases in
    let sections = mapped (λ r. section_at r 0) section_view (λ p q x y k. search rules) c.unwrap-sections.result.now c.map.result
    (ap length rows.same ∙ rows.long) c.map.ensures.items in
    assembled-is _ _ c.told-numbers (sections ∙ ap (map (λ r. section_at r 0)) (rows.same ∙ c.as_chunks.ensures.front)) (first.same ∙ c.as_chunks.ensures.back)
