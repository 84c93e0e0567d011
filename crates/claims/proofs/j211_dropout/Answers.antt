-- `claims::j211_dropout` meets its contract.
use mathlib.Core.Path.{◌≡◌, ap, ◌∙◌}
use mathlib.Core.List.{List, ◌∷◌, ◌++◌}
use Prim.Native.Nat.{ℕ, suc, ◌+◌}
use lib.ListN.{length, replicate, length-append}
use lib.Ieee.{Float, nan}
use Rattle.runs.specs.Refusals.{no_refusal}
use Rattle.j211.specs.J211.{warped_of, coefficients_of, forward, backward, both_ways, refusal, filtered}
use Rattle.j211.proofs.Dropout.{forward-dropout, forward-length, backward-dropout}
use Rattle.claims.proofs.j211_dropout.Goals as goal

both-passes : (class : ℕ) (rate : Float) (xs ys : List Float) → refusal class rate ≡ no_refusal
    → filtered class rate (xs ++ nan ∷ ys) ≡ replicate (length (xs ++ nan ∷ ys)) nan
unfolding filtered both_ways
both-passes class rate xs ys e =
    let k = coefficients_of (warped_of class rate) in
    let long : length (forward k xs) + suc (length ys) ≡ length (xs ++ nan ∷ ys) = rw (length-append, forward-length) in
    rw e (ap (backward k) (forward-dropout k xs ys) ∙ backward-dropout k (forward k xs) (length ys) ∙ ap (λ (m : ℕ). replicate m nan) long)

pub returns : goal.returns
returns c = record { first_pass = λ class rate. forward-dropout (coefficients_of (warped_of class rate)); both_passes = both-passes }
