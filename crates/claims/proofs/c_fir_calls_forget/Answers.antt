-- `claims::c_fir_calls_forget` meets its contract: slices that fit have 64 places, and on others there is no call of the filter.
use mathlib.Core.Path.{◌≡◌, refl}
use mathlib.Core.Bool.{Bool, true, false}
use mathlib.Core.List.{List, []}
use Prim.Native.Nat.{ℕ}
use lib.Ieee.{Float, binary64}
use Rattle.runs.specs.Forgetting.{Call, Outcome, plain_run, seen}
use Rattle.runs.proofs.Forgetting.{forgets-shown}
use Rattle.fir_theory.specs.Fir.{TapsRecord, taps_of, fir}
use Rattle.limits.specs.Limits.{max_taps}
use Rattle.fir_theory.proofs.Laws.{fits-lengths}
use Rattle.fir_theory.specs.Plain.{plain_fir, FirForgets}
use Rattle.fir_theory.proofs.Forgetting.{forgets}
use Rattle.c_calls.specs.Kinds.{taps_at, taps_fit, fir_kind}
use Rattle.c_calls.specs.Lists.{CCalls}
use Rattle.c_calls.proofs.Lists.{c-calls-run, c-calls-none}
use Rattle.c_calls.proofs.Back.{fir-read-back, taps-fit}
use Rattle.claims.proofs.c_fir_calls_forget.Goals as goal

-- of no call
none : (r : TapsRecord) → FirForgets max_taps binary64 r [] []
unfolding plain_run seen
none r = record { from_fresh = λ e. refl; from_any = λ h. refl; from_refused = λ h. refl }

forgotten : (taps samples : List Float) (counts : List ℕ) (calls : List Call) (outcomes : List Outcome) → CCalls (fir_kind taps) samples counts calls outcomes
    → FirForgets max_taps binary64 (taps_at taps samples counts) calls outcomes
forgotten taps samples counts calls outcomes l = go (taps_fit taps samples counts) refl
  where
    go : (b : Bool) → taps_fit taps samples counts ≡ b → FirForgets max_taps binary64 (taps_at taps samples counts) calls outcomes
    go true h =
        let r = taps_at taps samples counts in
        let lengths = fits-lengths max_taps r (taps-fit taps samples counts h) in
        forgets-shown (fir max_taps binary64) (plain_fir binary64) taps_of r calls (c-calls-run (fir_kind taps) (fir-read-back taps) l)
        (forgets max_taps binary64 r lengths.0 lengths.1 calls)
    go false h = let p = c-calls-none (fir_kind taps) (fir-read-back taps) h l in rw (p.0, p.1) (none (taps_at taps samples counts))

pub returns : goal.returns
returns c = record { shows = λ taps samples counts calls outcomes l. c-calls-run (fir_kind taps) (fir-read-back taps) l; forgets = forgotten }
