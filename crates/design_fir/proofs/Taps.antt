-- The taps of a design, and what it returns.
use mathlib.Core.Path.{◌≡◌, refl, ◌∙◌}
use mathlib.Core.Bool.{Bool, true, false, cond}
use mathlib.Core.List.{List, [], ◌∷◌, map}
use Rattle.std.specs.Prelude.{fold, Result}
use Rattle.runs.specs.View.{default_of}
use Rattle.runs.specs.declared.refusal.Refusal.{Refusal}
use Rattle.runs.proofs.Default.{default-viewed}
use Rattle.fir_theory.specs.Fir.{FirDesignRecord, finite_taps, refused_taps, taps_by_default}
use Rattle.fir.specs.View.{taps_view, made_view}
use Rattle.fir.specs.declared.TapRecord.{TapRecord}
use Prim.Native.Nat.{ℕ}
use lib.ListN.{length, length-map}
use lib.Ieee.{Float, lt}
use Rattle.scalar.specs.Operators.{◌⊕◌, ◌⊘◌}
use Rattle.scalar.specs.Constants.{epsilon}
use Rattle.scalar.specs.Sign.{abs_of}
use Rattle.lists.specs.Lists.{up_to}
use Rattle.lists.proofs.Places.{up_to-length}
use Rattle.design_fir.specs.Fir.{tap_of, total_from, normalised_by, fir_taps}
use Rattle.design_fir.specs.declared.WindowType.{WindowType}
use Rattle.fir_theory.specs.Fir.{FirDesignRecord}
use Rattle.limits.specs.Limits.{max_taps}

-- ---- the taps of a design
pub normalised-length : (s : Float) (ts : List Float) → length (normalised_by s ts) ≡ length ts
unfolding normalised_by
normalised-length s ts = go (lt epsilon (abs_of s))
  where
    go : (b : Bool) → length (cond b (map (λ t. t ⊘ s) ts) ts) ≡ length ts
    go true = length-map ts (λ t. t ⊘ s)
    go false = refl

pub taps-length : (w : WindowType) (n : ℕ) (cutoff : Float) → length (fir_taps w n cutoff) ≡ n
unfolding fir_taps
taps-length w n cutoff = normalised-length _ (up_to (tap_of w n cutoff) n) ∙ up_to-length (tap_of w n cutoff) n

-- the sum, as a fold
pub total-fold : (y : Float) (ts : List Float) → total_from y ts ≡ fold ◌⊕◌ y ts
unfolding total_from
total-fold y [] = refl
total-fold y (t ∷ ts) = total-fold (y ⊕ t) ts

-- what the code makes of a design by default is what its definition makes of it
pub default_viewed : (r : Result TapRecord Refusal) → made_view (default_of (λ r. finite_taps (taps_view r)) r) ≡ taps_by_default max_taps (made_view r)
default_viewed =
    default-viewed made_view (λ r. finite_taps (taps_view r)) (λ (m : FirDesignRecord). m.refusal) (λ (m : FirDesignRecord). finite_taps m.filter)
    (refused_taps max_taps) (λ r. refl) (λ r. refl) (λ n. refl) (λ n. refl)
