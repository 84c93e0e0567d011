-- `claims::cascade_calls_forget` meets its contract.
use lib.Ieee.{binary64}
use Rattle.runs.proofs.Forgetting.{forgets-shown}
use Rattle.cascade_theory.specs.Cascade.{cascade}
use Rattle.cascade.specs.View.{cascade_view}
use Rattle.cascade_theory.specs.Plain.{plain_cascade, coefficients_of}
use Rattle.cascade_theory.proofs.Forgetting.{forgets}
use Rattle.claims.proofs.Calls.{shown}
use Rattle.claims.proofs.cascade_calls_forget.Goals as goal

pub returns : goal.returns
returns c =
    let s = cascade_view c.args.start in
    record {
      shows = λ calls outcomes l. shown (cascade binary64) cascade_view l;
      forgets = λ calls outcomes l. forgets-shown (cascade binary64) (plain_cascade binary64) coefficients_of s calls
          (shown (cascade binary64) cascade_view l) (forgets binary64 s calls);
    }
