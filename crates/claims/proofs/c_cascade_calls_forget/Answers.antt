-- `claims::c_cascade_calls_forget` meets its contract.
use lib.Ieee.{binary64}
use Rattle.runs.proofs.Forgetting.{forgets-shown}
use Rattle.cascade_theory.specs.Cascade.{cascade}
use Rattle.cascade_theory.specs.Plain.{plain_cascade, coefficients_of}
use Rattle.cascade_theory.proofs.Forgetting.{forgets}
use Rattle.c_layout.specs.Layout.{cascade_at}
use Rattle.c_calls.specs.Kinds.{cascade_kind}
use Rattle.c_calls.proofs.Lists.{c-calls-run}
use Rattle.c_calls.proofs.Back.{cascade-read-back}
use Rattle.claims.proofs.c_cascade_calls_forget.Goals as goal

pub returns : goal.returns
returns c = record {
  shows = λ numbers counts calls outcomes l. c-calls-run cascade_kind cascade-read-back l;
  forgets = λ numbers counts calls outcomes l.
      let s = cascade_at numbers counts in
      forgets-shown (cascade binary64) (plain_cascade binary64) coefficients_of s calls (c-calls-run cascade_kind cascade-read-back l)
      (forgets binary64 s calls);
}
