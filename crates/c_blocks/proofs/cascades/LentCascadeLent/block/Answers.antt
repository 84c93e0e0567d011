-- `c_blocks::cascades::LentCascadeLent::block` meets its contract.
use mathlib.Core.Path.{refl}
use Rattle.std.proofs.lemmas.Result.{err_from_is_err_and}
use Rattle.c_layout.proofs.Laws.{in-none, in-some, fits-places}
use Rattle.c_calls.specs.Kinds.{cascade_kind}
use Rattle.c_calls.proofs.Back.{cascade-read-back}
use Rattle.c_calls.proofs.Laws.{numbered}
use Rattle.c_blocks.proofs.Written.{unfit-blocks, blocks-refused, blocks-written}
use Rattle.c_blocks.proofs.cascades.LentCascadeLent.block.Goals as goal

pub returns-in_default-clause-ran : goal.returns-in_default-clause-ran
returns-in_default-clause-ran c = unfit-blocks cascade_kind _ _ (in-none _ _ c.in_default.ensures) _ _

pub returns-in_err-clouded-clause-ran : goal.returns-in_err-clouded-clause-ran
returns-in_err-clouded-clause-ran c =
    let p = in-some _ _ c.in-Some.ensures in
    let r = err_from_is_err_and c.from_residual.result c.from_residual.ensures.1 in
    rw (r.1, r.2) (blocks-refused cascade_kind _ _ cascade-read-back p.0 p.1 _ _ (rw c.in_err-clouded.was at c.block-after.ensures) (numbered _))

pub write-requires : goal.write-requires
write-requires c = fits-places _ _ (in-some _ _ c.in-Some.ensures).0

pub returns-clause-ran : goal.returns-clause-ran
returns-clause-ran c =
    let p = in-some _ _ c.in-Some.ensures in
    blocks-written cascade_kind _ _ cascade-read-back p.0 p.1 _ _ (rw c.in_ok-clouded.was at c.block-after.ensures) refl c.write.ensures.numbers
    c.write.ensures.counts
