-- `c_blocks::calls::block_in_place` meets its contract.
use mathlib.Core.Path.{◌≡◌}
use Rattle.c_blocks.proofs.InPlace.{Parts}
use Rattle.c_blocks.proofs.calls.block_in_place.Given as goal

abbrev pub invariant-loop-from : goal.invariant-loop-from
invariant-loop-from g l =
    let t = g.L.Lent.slices l.fn.lent in
    (g.L.Lent.slices l.lent ≡ t) × Parts (g.L.Lent.kind t) (g.met.L.Lent.keeps t) (g.L.Lent.numbers l.fn.lent) (g.L.Lent.counts l.fn.lent) l.fn.buffer
    (g.L.Lent.numbers l.lent) (g.L.Lent.counts l.lent) l.buffer l.total l.from
