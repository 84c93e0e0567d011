-- `TapRecord`'s `coefficients_are_finite` meets its contract.
use mathlib.Core.Path.{◌≡◌, sym, ap, ◌∙◌}
use mathlib.Core.Bool.{not}
use Prim.Native.Nat.{min}
use lib.ListN.{length, take}
use Rattle.runs.specs.Runs.{not_all_finite}
use borrow.Author.Rules.{rules}
use Rattle.std.proofs.lemmas.List.{take_min}
use Rattle.limits.specs.Limits.{max_taps}
use Rattle.fir_theory.specs.Fir.{finite_taps}
use Rattle.fir.proofs.TapRecordCoefficients.coefficients_are_finite.Goals as goal

pub returns : goal.returns
unfolding finite_taps
returns c =
    let ts = c.args.self.taps in
    let h : length c.args.self.taps ≡ max_taps = search rules in
    let e : take c.min.result ts ≡ take c.args.self.length ts =
    ap (λ k. take k ts) c.min.ensures ∙ ap (λ k. take (min c.args.self.length k) ts) (sym h) ∙ take_min c.args.self.length ts in
    ap not (c.not_all_finite.ensures ∙ ap not_all_finite e)
