-- Of a request of every kind: its raw design's refusal is the number that its check gives, so it is 0 exactly where the check gives 0. By default
-- (02's Q-3) a number that the check gives comes before 25, and where the check gives 0 there is no number but 25.
use Rattle.std.specs.Prelude.{◌≡◌, ◌⊎◌}
use Rattle.runs.specs.Refusals.{no_refusal, non_finite_coefficient}
use Rattle.design_request.specs.Request.{check_request, design_of, design_by_default}
use Rattle.design_request.specs.declared.DesignRequest.{DesignRequest}

pub record RefusedByCheck : Type 0 where
  pub raw : (request : DesignRequest) → (design_of request).refusal ≡ check_request request
  pub by_default : (request : DesignRequest) → (check_request request ≡ no_refusal → ⊥) →
      (design_by_default (design_of request)).refusal ≡ check_request request
  pub or_else : (request : DesignRequest) → check_request request ≡ no_refusal → ((design_by_default (design_of request)).refusal ≡ no_refusal)
      ⊎ ((design_by_default (design_of request)).refusal ≡ non_finite_coefficient)
