-- 02's Q-2: what is claimed of reading the rival's blocks.
use Rattle.std.specs.Prelude.{◌≡◌, cond, List, [], ◌++◌, map, ℕ, ◌<◌, ◌≤◌, leb, ltb, ℤ, length, get_or, drop, Float}
use Rattle.std.specs.Float.{nan}
use Rattle.runs.specs.Refusals.{no_refusal, short_output, channel_not_present}
use Rattle.endian.specs.Endian.{Bytes}
use Rattle.recordings.specs.Codes.{IsCode, dropout, sample_of, Exactly}
use Rattle.recordings.specs.Format.{Recording, encoded, Storable}
use Rattle.recordings.specs.Reading.{refusal, read_channel}

-- the block is a recording as the rival writes it, and any bytes behind it; it has the channel, and the places are enough
pub record Written (block : List ℕ) (channel places : ℕ) : Type 0 where
  pub recording : Recording
  pub behind : List ℕ
  pub storable : Storable recording
  pub bytes : block ≡ encoded recording ++ behind
  pub present : channel < length recording.channels
  pub room : recording.samples ≤ places

pub record RivalBlocks : Type 0 where
  -- reading a channel of a recording gives its samples back, whatever stands in the skipped header bytes and behind the samples
  pub read_back : (r : Recording) (behind : List ℕ) → Storable r → (c : ℕ) (output : List Float) → c < length r.channels → r.samples ≤ length output
      → read_channel (encoded r ++ behind) c output
      ≡ record { refusal = no_refusal; count = r.samples; output = map sample_of (get_or r.channels c []) ++ drop r.samples output }
  -- a recording is refused for a channel that it does not have and for a short output, and for nothing else
  pub refused : (r : Recording) (behind : List ℕ) → Storable r → (channel places : ℕ)
      → refusal (encoded r ++ behind) channel places
      ≡ cond (leb (length r.channels) channel) channel_not_present (cond (ltb places r.samples) short_output no_refusal)
  -- nothing but recordings is accepted
  pub only_written : (block : List ℕ) → Bytes block → (channel places : ℕ) → refusal block channel places ≡ no_refusal → Written block channel places
  -- "The code −32768 marks a dropout and becomes NaN; every other code becomes exactly its number."
  pub dropouts : sample_of dropout ≡ nan
  pub exact : (z : ℤ) → IsCode z → (z ≡ dropout → ⊥) → Exactly (sample_of z) z
