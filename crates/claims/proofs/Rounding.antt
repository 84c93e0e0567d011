-- 02's Q-5 of a record whose numbers are values of f64, and whose samples have as many places as the code's.
use mathlib.Core.Path.{◌≡◌}
use mathlib.Core.Bool.{true}
use mathlib.Core.List.{List}
use Prim.Native.Nat.{◌≤◌}
use native.Mathlib.Omega.{arith}
use lib.ListN.{length}
use lib.Ieee.{Float, binary64}
use Rattle.limits.specs.Limits.{max_taps}
use Rattle.lists.specs.Lists.{Each}
use Rattle.lists.proofs.Each.{each_take}
use Rattle.exact.specs.Scaled.{IsValue}
use Rattle.runs.specs.Runs.{step, answers}
use Rattle.fir_theory.specs.Fir.{TapsRecord, taps_of, next, held_of, check_taps, fir}
use Rattle.fir_theory.proofs.Laws.{sizes, held_next}
use Rattle.fir_rounding.specs.Figure.{most_taps, figure_bits, Count, Taken, Within, EachWithin}
use Rattle.fir_rounding.proofs.Figure.{figure-64, figures}

pub record Owned (r : TapsRecord) : Type 0 where
  pub places : length r.samples ≡ max_taps
  pub taps : Each (IsValue binary64) r.taps
  pub samples : Each (IsValue binary64) r.samples

module _ (r : TapsRecord) (o : Owned r) (h : check_taps max_taps r ≡ true) where
  enough : r.length ≤ length r.samples
  enough = let z = sizes max_taps r h in
      omega (arith, z.within, o.places)

  own-taps : Each (IsValue binary64) (taps_of r)
  own-taps = each_take (IsValue binary64) r.length r.taps o.taps

  own_held : Each (IsValue binary64) (held_of r)
  unfolding held_of
  own_held = each_take (IsValue binary64) r.held r.samples o.samples

  pub step-within : (x : Float) → IsValue binary64 x → Taken binary64 most_taps r (held_of (next r x))
      → Within binary64 figure_bits r x (step (fir max_taps binary64) r x).answer
  step-within x v t = figure-64 max_taps r x h own-taps (held_next (IsValue binary64) r x enough own_held v) t

  pub block_within : (input : List Float) → Taken binary64 most_taps r (held_of r) → Each (IsValue binary64) input → Each (Count binary64) input
      → EachWithin binary64 figure_bits r input (answers (fir max_taps binary64) r input)
  block_within input t v d =
      figures binary64 max_taps most_taps figure_bits (figure-64 max_taps) r input
      (record { checked = h; places = enough; tap_values = own-taps; sample_values = own_held; taken = t }) v d
