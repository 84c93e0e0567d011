-- `c_layout::fits` meets its contract.
use mathlib.Core.Path.{sym, ◌∙◌}
use native.Mathlib.Omega.{arith}
use borrow.Author.Tests.{lt-leb, le-leb}
use Rattle.c_layout.specs.Layout.{cascade_fits}
use Rattle.c_layout.proofs.Laws.{places-lengths, fits-flagged, fits_last}
use Rattle.c_layout.proofs.fits.Goals as goal

pub returns-then-not-has_places : goal.returns-then-not-has_places
unfolding cascade_fits
returns-then-not-has_places c = simp (sym c.has_places.ensures ∙ c.if-not-has_places.true)

pub bounds-counts-1 : goal.bounds-counts-1
bounds-counts-1 c = let t = sym c.has_places.ensures ∙ c.if-not-has_places.false in
    omega (arith, (places-lengths c.args.numbers.now c.args.counts.now t).1)

pub bounds-counts-2 : goal.bounds-counts-2
bounds-counts-2 c = let t = sym c.has_places.ensures ∙ c.if-not-has_places.false in
    omega (arith, (places-lengths c.args.numbers.now c.args.counts.now t).1)

pub returns-then-counts-le1 : goal.returns-then-counts-le1
returns-then-counts-le1 c = fits_last _ _ (sym c.has_places.ensures ∙ c.if-not-has_places.false) (le-leb _ _ c.if-counts-le1.true)

pub returns-else-counts-le1 : goal.returns-else-counts-le1
returns-else-counts-le1 c =
    let h = lt-leb _ _ c.if-counts-le1.false in
    h ∙ fits-flagged _ _ (sym c.has_places.ensures ∙ c.if-not-has_places.false) h
