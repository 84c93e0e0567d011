-- What a default form shows where it returns.
use mathlib.Core.Path.{◌≡◌, refl}
use Rattle.std.specs.Prelude.{Result}
use Rattle.runs.specs.View.{default_of}
use Rattle.runs.specs.declared.refusal.Refusal.{Refusal}
use Rattle.runs.proofs.Default.{default-viewed}
use Rattle.cascade_theory.specs.Coefficients.{finite_coefficients}
use Rattle.cascade.specs.View.{cascade_view}
use Rattle.cascade.specs.declared.Cascade.{Cascade}
use Rattle.design_cascade.specs.Design.{CascadeDesignRecord, refused_design, cascade_by_default}
use Rattle.design_cascade.specs.View.{design_view}

-- what the code makes of a design by default is what its definition makes of it
pub default_viewed : (r : Result Cascade Refusal) → design_view (default_of (λ c. finite_coefficients (cascade_view c)) r) ≡ cascade_by_default (design_view r)
default_viewed =
    default-viewed design_view (λ c. finite_coefficients (cascade_view c)) (λ (d : CascadeDesignRecord). d.refusal)
    (λ (d : CascadeDesignRecord). finite_coefficients d.cascade) refused_design (λ c. refl) (λ c. refl) (λ n. refl) (λ n. refl)
