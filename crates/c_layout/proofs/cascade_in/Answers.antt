-- `c_layout::cascade_in` meets its contract.
use mathlib.Core.Path.{sym, ◌∙◌}
use Rattle.c_layout.proofs.Laws.{read-in, none-in}
use Rattle.c_layout.proofs.cascade_in.Goals as goal

pub returns-then-fits : goal.returns-then-fits
returns-then-fits c = read-in _ _ (sym c.fits.ensures ∙ c.if-fits.true) c.read.ensures

pub returns-else-fits : goal.returns-else-fits
returns-else-fits c = none-in _ _ (sym c.fits.ensures ∙ c.if-fits.false)
