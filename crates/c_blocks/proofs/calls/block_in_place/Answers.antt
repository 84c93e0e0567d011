-- `c_blocks::calls::block_in_place` meets its contract.
use mathlib.Core.Path.{◌≡◌, refl, ◌∙◌}
use Prim.Native.Nat.{◌+◌}
use native.Mathlib.Omega.{arith}
use Rattle.std.proofs.lemmas.Result.{err_from_is_err_and}
use Rattle.c_calls.proofs.Laws.{numbered}
use Rattle.c_blocks.proofs.Laws.{set-one}
use Rattle.c_blocks.proofs.InPlace.{not-single, empty-refused, empty-good, parts-start, part-accepted, parts-turn, parts-done}
use Rattle.c_blocks.proofs.calls.block_in_place.Goals as goal
use Rattle.c_blocks.proofs.calls.block_in_place.Goals.{else-loop-from-test, then-loop-from-test+in_ok-total+else-from-end-from-gt256}

pub returns-then-clouded-ne1-clause-call : goal.returns-then-clouded-ne1-clause-call
returns-then-clouded-ne1-clause-call g c = not-single _ _ _ _ _ c.if-clouded-ne1.true

pub returns-in_err-block-clause-call : goal.returns-in_err-block-clause-call
returns-in_err-block-clause-call g c =
    let p = err_from_is_err_and c.from_residual.result c.from_residual.ensures.1 in
    let t = g.L.Lent.slices c.args.lent.now in
    rw (p.1, p.2)
    (empty-refused _ (g.met.L.Lent.keeps t) (g.met.L.Lent.numbered t) _ _ c.in_err-block.ensures.ran _ _ c.if-clouded-ne1.false (numbered _))

pub loop-from-init : goal.loop-from-init
loop-from-init g c =
    let t = g.L.Lent.slices c.args.lent.now in
    (c.block.ensures.same, parts-start _ (g.met.L.Lent.keeps t) _ _ _ (g.met.L.Lent.numbered t) refl c.in_ok-block.ensures.ran)

pub returns-in_err-total-clause-call : goal.returns-in_err-total-clause-call
returns-in_err-total-clause-call g c =
    let ran = rw c.loop-from.invariant.0 at c.in_err-total.ensures.ran in
    absurd (numbered _ (part-accepted _ _ _ _ _ c.loop-from.invariant.1 _ (omega arith) (omega (arith, c.min.ensures)) c.copy_from_slice.ensures.after ran))

pub overflow_add-total : goal.overflow_add-total
overflow_add-total g c =
    let ran = rw c.loop-from.invariant.0 at c.in_ok-total.ensures.ran in
    let turned = parts-turn _ _ _ _ _ c.loop-from.invariant.1 _ (omega arith) (omega (arith, c.min.ensures)) c.copy_from_slice.ensures.after ran in
    omega (arith, turned.place.running.few, turned.place.running.within)

pub loop-from-preserved : goal.loop-from-preserved
loop-from-preserved g c =
    let ran = rw c.loop-from.invariant.0 at c.in_ok-total.ensures.ran in
    let turned = parts-turn _ _ _ _ _ c.loop-from.invariant.1 _ (omega arith) (omega (arith, c.min.ensures)) c.copy_from_slice.ensures.after ran in
    let e : c.loop-from.from + 256 ≡ c.loop-from.from + c.min.result = omega (arith, c.min.ensures) in
    (c.block-in-loop-from.ensures.same ∙ c.loop-from.invariant.0, rw e turned)

pub returns-clause-call : goal.returns-clause-call
returns-clause-call g c =
    let t = g.L.Lent.slices c.args.lent.now in
    let good = empty-good _ (g.met.L.Lent.keeps t) (g.met.L.Lent.numbered t) _ _ c.in_ok-block.ensures.ran refl in
    elim c.loop-from-test.branch [
      | else-loop-from-test w ↦
          rw (w.lent-is, w.buffer-is, w.total-is)
          (parts-done _ _ _ _ _ _ _ (omega (arith, w.loop-from-test.false)) c.if-clouded-ne1.false (set-one _ c.if-clouded-ne1.false refl) good.0 good.1
          c.loop-from.invariant.1)
      | then-loop-from-test+in_ok-total+else-from-end-from-gt256 w ↦
          let ran = rw c.loop-from.invariant.0 at w.in_ok-total.ensures.ran in
          let turned = parts-turn _ _ _ _ _ c.loop-from.invariant.1 _ (omega arith) (omega (arith, w.min.ensures, w.loop-from-test.true))
          w.copy_from_slice.ensures.after ran in
          rw (w.lent-is, w.buffer-is, w.total-is)
          (parts-done _ _ _ _ _ _ _ (omega (arith, w.min.ensures, w.loop-from-test.true)) c.if-clouded-ne1.false (set-one _ c.if-clouded-ne1.false refl)
          good.0 good.1 turned)
    ]
