-- 02's Q-2: what the call that reads a channel of the rival's blocks returns, and what every slice holds after it. A refused call leaves every slice.
use Rattle.std.specs.Prelude.{ℕ, cond, List, [], ◌∷◌, eqb, length, Float}
use Rattle.runs.specs.Refusals.{no_refusal, bad_call}
use Rattle.recordings.specs.Reading.{ReadRecord, read_channel}

-- the output, and the place for how many samples were written to it
pub record ReadCallRecord : Type 0 where
  pub refusal : ℕ
  pub output : List Float
  pub count : List ℕ

-- what `read_channel` returns, and its count in the place for it where nothing is refused
abbrev pub counted : ReadRecord → List ℕ → ReadCallRecord
counted r count = record { refusal = r.refusal; output = r.output; count = cond (eqb r.refusal no_refusal) (r.count ∷ []) count }

unfoldable pub read_call : List ℕ → ℕ → List Float → List ℕ → ReadCallRecord
read_call block channel output count =
    cond (eqb (length count) 1) (counted (read_channel block channel output) count) (record { refusal = bad_call; output = output; count = count })
