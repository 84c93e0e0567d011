-- `c_blocks::cascades::LentCascadeLent::reset` meets its contract.
use mathlib.Core.Path.{refl}
use Rattle.std.proofs.lemmas.Result.{err_from_is_err_and}
use Rattle.c_layout.proofs.Laws.{in-none, in-some, fits-places}
use Rattle.c_calls.specs.Kinds.{cascade_kind}
use Rattle.c_calls.proofs.Back.{cascade-read-back}
use Rattle.c_calls.proofs.Laws.{numbered}
use Rattle.c_blocks.proofs.Written.{unfit-resets, resets-refused, resets-written}
use Rattle.c_blocks.proofs.cascades.LentCascadeLent.reset.Goals as goal

pub returns-in_default-clause-ran : goal.returns-in_default-clause-ran
returns-in_default-clause-ran c = unfit-resets cascade_kind _ _ (in-none _ _ c.in_default.ensures)

pub returns-in_err-after-clause-ran : goal.returns-in_err-after-clause-ran
returns-in_err-after-clause-ran c =
    let p = in-some _ _ c.in-Some.ensures in
    let r = err_from_is_err_and c.from_residual.result c.from_residual.ensures.1 in
    rw (r.1, r.2) (resets-refused cascade_kind _ _ cascade-read-back p.0 p.1 (rw c.in_err-after.was at c.reset-after.ensures) (numbered _))

pub write-requires : goal.write-requires
write-requires c = fits-places _ _ (in-some _ _ c.in-Some.ensures).0

pub returns-clause-ran : goal.returns-clause-ran
returns-clause-ran c =
    let p = in-some _ _ c.in-Some.ensures in
    resets-written cascade_kind _ _ cascade-read-back p.0 p.1 (rw c.in_ok-after.was at c.reset-after.ensures) refl c.write.ensures.numbers
    c.write.ensures.counts
