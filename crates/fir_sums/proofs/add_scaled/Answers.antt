-- `fir_sums::add_scaled` meets its contract.
use Rattle.std.proofs.Common.{◌<◌, length, arith, zero-add}
use Rattle.std.specs.Float.{nan, binary64}
use Rattle.lists.proofs.Overwriting.{overwrite-start, overwrite-turn, overwrite-ahead}
use Rattle.fir_theory.proofs.Sums.{scaled-length, scaled_at}
use Rattle.fir_sums.proofs.add_scaled.Goals as goal

pub loop-j-init : goal.loop-j-init
loop-j-init c = overwrite-start 0 (scaled-length binary64 _ _ _ _) (omega arith)

pub loop-j-preserved : goal.loop-j-preserved
loop-j-preserved c =
    let l = c.loop-j in
    let h : l.j < length c.args.sums.now = omega arith in
    let e = rw zero-add at (scaled_at binary64 c.args.sums.now c.args.t c.args.x.now 0 l.j h) in
    overwrite-turn _ _ nan (omega arith) h (rw (overwrite-ahead l.j l.j nan (omega arith) h l.invariant) e) l.invariant
