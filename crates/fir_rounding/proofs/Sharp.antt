-- A record of 64 taps whose answer is off by 5/8 of 2 to the −27, by computing it. All samples are −32768, so each product is exact. The first 32 taps make
-- the sums from 2 ^ 19 to 2 ^ 20, and the other 32 those from 2 ^ 20 to 2 ^ 21, lie halfway between two doubles, and each is rounded to the same side.
use mathlib.Core.Path.{◌≡◌, refl, sym, subst}
use mathlib.Core.Bool.{false}
use mathlib.Core.List.{List, ◌++◌}
use Prim.Native.Nat.{suc, ◌*◌, ◌^◌}
use native.Mathlib.Nat.{not-le_of_lt}
use lib.Dec.{leb, lit≤}
use lib.IntN.{pos, neg_ℤ, ◌*ℤ◌}
use lib.ListN.{replicate}
use lib.Ieee.{Float, binary64, of_bits, fits, add, mul}
use borrow.Author.Tests.{leb-false}
use Rattle.limits.specs.Limits.{max_taps}
use Rattle.lists.specs.Lists.{Each}
use Rattle.lists.proofs.Each.{each_append, each-replicate}
use Rattle.runs.specs.Runs.{clear, not_all_finite, step}
use Rattle.exact.specs.Scaled.{IsValue, scale, scaled, distance}
use Rattle.fir_theory.specs.Fir.{TapsRecord, ready_made, taps_of, pushed, next, held_of, clouding, sum, value, mark, check_taps, fir}
use Rattle.fir_rounding.specs.Figure.{most_taps, figure_bits, Tap, Count, exact_sum, DiffersAtMost, Sharp}

-- 1 - 48 * 2 ^ -53 and 1 - 96 * 2 ^ -53
abbrev tap_a : Float
tap_a = of_bits binary64 0x3FEFFFFFFFFFFFD0

abbrev tap_b : Float
tap_b = of_bits binary64 0x3FEFFFFFFFFFFFA0

-- −32768
abbrev sample : Float
sample = of_bits binary64 0xC0E0000000000000

abbrev answer : Float
answer = of_bits binary64 0xC13FFFFFFFFFFFA4

abbrev taps : List Float
taps = replicate 32 tap_a ++ replicate 32 tap_b

abbrev samples : List Float
samples = replicate 64 sample

abbrev far_off : TapsRecord
far_off = record { taps = taps; samples = samples; length = 64; held = 64; window = ready_made }

answered : (step (fir max_taps binary64) far_off sample).answer ≡ clear answer
unfolding step pushed next held_of not_all_finite clouding sum value mark check_taps add mul of_bits
answered = refl

far : leb (distance (scaled binary64 answer *ℤ pos (scale binary64)) (exact_sum binary64 taps samples) * 2 ^ suc figure_bits) (scale binary64 * scale binary64)
    ≡ false
unfolding exact_sum scaled of_bits
far = refl

own-taps : taps_of far_off ≡ taps
own-taps = refl

held-samples : held_of (next far_off sample) ≡ samples
unfolding held_of next pushed
held-samples = refl

-- ---- what is said of each tap and of each sample
module _ (P : Float → Type 0) where
  each-tap : P tap_a → P tap_b → Each P (taps_of far_off)
  each-tap a b = subst (Each P) (sym own-taps) (each_append P (replicate 32 tap_a) (replicate 32 tap_b) (each-replicate P 32 tap_a a)
      (each-replicate P 32 tap_b b))

  each-sample : P sample → Each P (held_of (next far_off sample))
  each-sample a = subst (Each P) (sym held-samples) (each-replicate P 64 sample a)

tap-a : Tap binary64 tap_a
unfolding scaled of_bits
tap-a = record { is_finite = refl; most = lit≤ tt }

tap-b : Tap binary64 tap_b
unfolding scaled of_bits
tap-b = record { is_finite = refl; most = lit≤ tt }

count : Count binary64 sample
unfolding scaled of_bits
count = record { is_finite = refl; whole = neg_ℤ (pos 32768); value = refl; least = search; most = search }

pub sharp-64 : Sharp binary64 max_taps most_taps figure_bits
unfolding check_taps fits of_bits
sharp-64 = record {
  filter = far_off;
  sample = sample;
  places = (refl, refl);
  checked = refl;
  tap_values = each-tap (IsValue binary64) tt tt;
  sample_values = each-sample (IsValue binary64) tt;
  taken = record { few = lit≤ tt; taps = each-tap (Tap binary64) tap-a tap-b; samples = each-sample (Count binary64) count };
  number = answer;
  is_clear = answered;
  is_finite = refl;
  farther = λ d.
      not-le_of_lt (leb-false _ _ far)
      (subst (λ (xs : List Float). DiffersAtMost binary64 (suc figure_bits) answer (exact_sum binary64 taps xs)) held-samples d);
}
