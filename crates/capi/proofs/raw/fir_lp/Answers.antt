-- `capi::raw::fir_lp` meets its contract.
use mathlib.Core.Path.{sym, ◌∙◌}
use Rattle.std.proofs.lemmas.Result.{err_from_is_err_and}
use Rattle.c_designs.proofs.Laws.{code-refused, code-designed}
use Rattle.capi.proofs.raw.fir_lp.Goals as goal

pub returns-in_err-window : goal.returns-in_err-window
returns-in_err-window c =
    let r = err_from_is_err_and c.from_residual.result c.from_residual.ensures.1 in
    rw (r.1, r.2) (code-refused _ _ _ _ c.args.window _ (sym c.try_from.ensures ∙ c.in_err-window.was))

pub returns : goal.returns
returns c =
    let designed = code-designed _ _ _ _ c.args.window c.in_ok-window.window (sym c.try_from.ensures ∙ c.in_ok-window.was) in
    c.hand_out_taps.ensures ∙ rw c.design_fir_lp_raw.ensures designed
