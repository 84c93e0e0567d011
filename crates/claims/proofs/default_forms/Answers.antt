-- `claims::default_forms` meets its contract.
use mathlib.Core.Path.{◌≡◌, refl}
use mathlib.Core.Bool.{Bool}
use Prim.Native.Nat.{ℕ}
use Rattle.runs.specs.Default.{by_default}
use Rattle.runs.proofs.Default.{refused-stays, finite-stays, not_finite, accepted-raw}
use Rattle.design_fir.proofs.OneTap.{one-tap-refused}
use Rattle.design_request.proofs.Laws.{cascade-by-default, taps-by-default}
use Rattle.claims.specs.Default.{Defaults}
use Rattle.claims.proofs.default_forms.Goals as goal

-- of any kind of result whose refusal tells its number
defaults : {R : Type 0} (refusal : R → ℕ) (finite_in : R → Bool) (refused_by : ℕ → R) → ((n : ℕ) → refusal (refused_by n) ≡ n) → (r : R)
    → Defaults refusal finite_in refused_by (by_default refusal finite_in refused_by) r
defaults refusal finite_in refused_by told r = record {
  refused = refused-stays refusal finite_in refused_by r;
  not_finite = not_finite refusal finite_in refused_by r;
  finite = λ e. finite-stays refusal finite_in refused_by r;
  accepted = accepted-raw refusal finite_in refused_by r told;
}

pub returns : goal.returns
returns c = record {
  cascades = defaults _ _ _ (λ n. refl);
  taps = defaults _ _ _ (λ n. refl);
  cascade_requests = cascade-by-default;
  tap_requests = taps-by-default;
  one_tap = one-tap-refused;
}
