-- `claims::rival_blocks` meets its contract.
use mathlib.Core.Path.{◌≡◌}
use mathlib.Core.List.{List}
use Prim.Native.Nat.{ℕ}
use native.Mathlib.Omega.{arith}
use lib.ListN.{drop}
use Rattle.runs.specs.Refusals.{no_refusal}
use Rattle.endian.specs.Endian.{Bytes}
use Rattle.recordings.specs.Reading.{samples_end, refusal}
use Rattle.claims.specs.Recordings.{Written}
use Rattle.recordings.proofs.Codes.{dropout-is-nan, exact}
use Rattle.recordings.proofs.Reading.{readable, header}
use Rattle.recordings.proofs.Format.{read_back, refused-back, decoded, storable, counted, encoded-back}
use Rattle.claims.proofs.rival_blocks.Goals as goal

only-written : (block : List ℕ) → Bytes block → (channel places : ℕ) → refusal block channel places ≡ no_refusal → Written block channel places
only-written block bytes channel places e =
    let p = readable block channel places e in
    let h = header block p.header in
    record {
      recording = decoded block bytes h p.whole;
      behind = drop (samples_end block) block;
      storable = storable block bytes h p.whole;
      bytes = encoded-back block bytes h p.whole;
      present = omega (arith, counted block bytes h p.whole, p.present);
      room = p.room;
    }

pub returns : goal.returns
returns c = record { read_back = read_back; refused = refused-back; only_written = only-written; dropouts = dropout-is-nan; exact = exact }
