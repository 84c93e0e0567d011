-- `series::inverse_factorial` meets its contract: the table's rule, that each entry is k! and an f64 holds it, is one test over the whole table.
use Prim.Native.Nat.{ℕ, ◌^◌, ◌<◌}
use mathlib.Core.Bool.{Bool, ◌&&◌}
use mathlib.Core.List.{List, [], ◌∷◌}
use mathlib.Core.Path.{ap}
use lib.Dec.{T, eqb, leb, eqb→eq}
use lib.ListN.{get_or}
use lib.Ieee.Fits.{and_l}
use Rattle.scalar.specs.Operators.{◌⊘◌, nat}
use Rattle.scalar.specs.Constants.{one}
use Rattle.series.specs.Series.{fact, inv_fact}
use Rattle.lists.proofs.Table.{at}
use borrow.Author.Rules.{rules}
use Rattle.series.proofs.inverse_factorial.Goals as goal

-- the code's table
table : List ℕ
table = 1 ∷ 1 ∷ 2 ∷ 6 ∷ 24 ∷ 120 ∷ 720 ∷ 5040 ∷ 40320 ∷ 362880 ∷ 3628800 ∷ 39916800 ∷ 479001600 ∷ 6227020800 ∷ 87178291200 ∷ 1307674368000 ∷ 20922789888000 ∷
    355687428096000 ∷ []

-- the rule: an entry is its place's factorial, and an f64 holds it
right : ℕ → ℕ → Bool
right k x = eqb x (fact k) && leb x (2 ^ 53)

rule : (k : ℕ) → k < 18 → T (eqb (get_or table k 0) (fact k) && leb (get_or table k 0) (2 ^ 53))
unfolding table right fact
rule k h = at right table tt k h

pub returns : goal.returns
unfolding inv_fact table
returns c =
    let k = c.args.k in
    ap (λ (n : ℕ). one ⊘ nat n) (eqb→eq (get_or table k 0) (fact k)
    (and_l (eqb (get_or table k 0) (fact k)) (leb (get_or table k 0) (2 ^ 53)) (rule k (search rules))))
