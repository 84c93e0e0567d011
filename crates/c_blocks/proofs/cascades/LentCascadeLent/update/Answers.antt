-- `c_blocks::cascades::LentCascadeLent::update` meets its contract.
use mathlib.Core.Path.{sym, ◌∙◌}
use Rattle.c_layout.proofs.Laws.{in-none, in-some, fits-places}
use Rattle.c_calls.specs.Kinds.{cascade_kind}
use Rattle.c_calls.proofs.Back.{cascade-read-back}
use Rattle.c_blocks.proofs.Laws.{ok-accepted, err-refused}
use Rattle.c_blocks.proofs.Written.{unfit-steps, steps-refused, steps-written}
use Rattle.c_blocks.proofs.cascades.LentCascadeLent.update.Goals as goal

pub returns-in_default-clause-ran : goal.returns-in_default-clause-ran
returns-in_default-clause-ran c = unfit-steps cascade_kind _ _ (in-none _ _ c.in_default.ensures) _

pub write-requires : goal.write-requires
write-requires c = fits-places _ _ (in-some _ _ c.in-Some.ensures).0

pub returns-then-is_ok-clause-ran : goal.returns-then-is_ok-clause-ran
returns-then-is_ok-clause-ran c =
    let p = in-some _ _ c.in-Some.ensures in
    steps-written cascade_kind _ _ cascade-read-back p.0 p.1 _ c.update-after.ensures
    (sym c.accepted.ensures ∙ ok-accepted _ c.if-is_ok.ensures.value) c.write.ensures.numbers c.write.ensures.counts

pub returns-else-is_ok-clause-ran : goal.returns-else-is_ok-clause-ran
returns-else-is_ok-clause-ran c =
    let p = in-some _ _ c.in-Some.ensures in
    steps-refused cascade_kind _ _ cascade-read-back p.0 p.1 _ c.update-after.ensures
    (λ z. err-refused _ c.if-is_ok.ensures.value (c.accepted.ensures ∙ z))
