-- Every accepted cascade design is fresh.
use mathlib.Core.Path.{◌≡◌, refl, sym, ap₂}
use mathlib.Core.Bool.{Bool, true, false, cond, ◌||◌}
use mathlib.Core.List.{List, [], ◌∷◌, ◌++◌, map}
use Prim.Native.Nat.{ℕ, zero, suc, ◌/◌, ◌%◌, ◌<◌, ◌≤◌}
use native.Mathlib.Omega.{arith}
use lib.Dec.{ltb, eqb}
use lib.Ieee.{Float, le}
use borrow.Author.Tests.{le-leb, lt-ltb, ltb-false, eq-eqb, eqb-true, eqb-false}
use Rattle.limits.specs.Limits.{max_sections, max_order, max_band_order}
use Rattle.cascade_theory.specs.Section.{SectionRecord, cleared_section}
use Rattle.cascade_theory.specs.FirstOrder.{blank_first, cleared_first}
use Rattle.cascade_theory.specs.Cascade.{CascadeRecord, check_cascade, cleared_cascade}
use Rattle.cascade.specs.View.{FreshCascade}
use Rattle.scalar.specs.Operators.{◌⊖◌, ◌⊗◌}
use Rattle.limits.specs.Zero.{plus_zero}
use Rattle.scalar.specs.Constants.{half}
use Rattle.design_checks.specs.Checks.{validate_params, validate_chebyshev, validate_band}
use Rattle.lists.specs.Lists.{up_to}
use Rattle.design_checks.proofs.Laws.{good-params, good-chebyshev, good-band}
use Rattle.design_cascade.specs.Design.{refused_design, accepted, unless_refused, padded}
use Rattle.design_poles.specs.Butterworth.{lp_biquad, hp_biquad, lp_first, hp_first}
use Rattle.design_bandpass.specs.BandPass.{band_biquad, bp_biquad, bp_pair, bp_real}
use Rattle.design_poles.specs.Chebyshev.{cheb1_biquad, cheb2_biquad, cheb_first}
use Rattle.design_cascade.specs.Butterworth.{lp_pair, hp_pair}
use Rattle.design_cascade.specs.Chebyshev.{cheb1_pair, cheb2_pair}
use Rattle.design_cascade.specs.Prototype.{pair_of, real_part, first_of, prototype_cascade}
use Rattle.design_cascade.specs.LowPass.{butterworth_lp, butterworth_hp, chebyshev1_lp, chebyshev2_lp}
use Rattle.design_cascade.specs.BandPass.{bp_pair_of, bp_up_to, bp_sections, bp_cascade, butterworth_bp}
use Rattle.design_cascade.specs.declared.prototype.Prototype.{Prototype}
use Rattle.design_cascade.specs.declared.prototype.Prototype.TheVariants.{ButterworthLow, ButterworthHigh, ChebyshevI, ChebyshevII}

-- a section that carries +0, and a list of such
abbrev Clear : SectionRecord → Type 0
Clear s = cleared_section s ≡ s

abbrev AllClear : List SectionRecord → Type 0
AllClear [] = Unit {0}
AllClear (s ∷ ss) = Clear s × AllClear ss

all-clear : (ss : List SectionRecord) → AllClear ss → map cleared_section ss ≡ ss
all-clear [] a = refl
all-clear (s ∷ ss) a = ap₂ (λ (x : SectionRecord) (xs : List SectionRecord). x ∷ xs) a.0 (all-clear ss a.1)

append-clear : (xs ys : List SectionRecord) → AllClear xs → AllClear ys → AllClear (xs ++ ys)
append-clear [] ys a b = b
append-clear (x ∷ xs) ys a b = (a.0, append-clear xs ys a.1 b)

padded-clear : (p : ℕ) (ss : List SectionRecord) → AllClear ss → AllClear (padded p ss)
unfolding padded
padded-clear zero ss a = tt
padded-clear (suc p) [] a = (refl, padded-clear p [] tt)
padded-clear (suc p) (s ∷ ss) a = (a.0, padded-clear p ss a.1)

up_to-clear : (g : ℕ → SectionRecord) → ((m : ℕ) → Clear (g m)) → (n : ℕ) → AllClear (up_to g n)
unfolding up_to
up_to-clear g h zero = tt
up_to-clear g h (suc n) = append-clear (up_to g n) (g n ∷ []) (up_to-clear g h n) (h n, tt)

-- the cascade of a design: its check, by its counts, and its carried values
fresh : (c : CascadeRecord) → c.count ≤ max_sections → (ltb 0 c.count || c.has_first) ≡ true → AllClear c.sections
    → cleared_first c.first ≡ c.first → c.clouded ≡ false → FreshCascade c
unfolding check_cascade cleared_cascade
fresh c n u a p o =
    let s = all-clear c.sections a in
    record {
      checked = rw (le-leb c.count max_sections n) u;
      cleared = λ i. record { sections = s i; count = c.count; first = p i; has_first = c.has_first; clouded = sym o i };
    }

-- a design that is not refused
pub accepted-fresh : (v : ℕ) (c : CascadeRecord) → (v ≡ 0 → FreshCascade c) → (unless_refused v c).refusal ≡ 0 → FreshCascade (unless_refused v c).cascade
accepted-fresh v c f h = go (eqb v 0) refl h
  where
    go : (b : Bool) → eqb v 0 ≡ b → (cond b (accepted c) (refused_design v)).refusal ≡ 0 → FreshCascade (cond b (accepted c) (refused_design v)).cascade
    go true t h = f (eqb-true v 0 t)
    go false t h = absurd (eqb-false v 0 t h)

-- ---- the designs of poles
pair-clear : (p : Prototype) (n m : ℕ) → Clear (pair_of p n m)
unfolding lp_pair hp_pair cheb1_pair cheb2_pair lp_biquad hp_biquad cheb1_biquad cheb2_biquad
pair-clear (ButterworthLow k) n m = refl
pair-clear (ButterworthHigh k) n m = refl
pair-clear (ChebyshevI ellipse k) n m = refl
pair-clear (ChebyshevII ellipse k) n m = refl

real-part-clear : (p : Prototype) → cleared_first (real_part p) ≡ real_part p
unfolding lp_first hp_first cheb_first
real-part-clear (ButterworthLow k) = refl
real-part-clear (ButterworthHigh k) = refl
real-part-clear (ChebyshevI ellipse k) = refl
real-part-clear (ChebyshevII ellipse k) = refl

first-clear : (p : Prototype) (n : ℕ) → cleared_first (first_of p n) ≡ first_of p n
unfolding first_of
first-clear p n = go (eqb (n % 2) 0)
  where
    go : (b : Bool) → cleared_first (cond b blank_first (real_part p)) ≡ cond b blank_first (real_part p)
    go true = refl
    go false = real-part-clear p

used : (n : ℕ) → 0 < n → (ltb 0 (n / 2) || eqb (n % 2) 1) ≡ true
used n h = go (ltb 0 (n / 2)) refl
  where
    go : (b : Bool) → ltb 0 (n / 2) ≡ b → (b || eqb (n % 2) 1) ≡ true
    go true e = refl
    go false e = let z = ltb-false 0 (n / 2) e in eq-eqb (n % 2) 1 (omega arith)

prototype-fresh : (p : Prototype) (n : ℕ) → (0 < n) × (n ≤ max_order) → FreshCascade (prototype_cascade p n)
unfolding prototype_cascade
prototype-fresh p n h =
    fresh _ (omega (arith, h.1)) (used n h.0) (padded-clear max_sections _ (up_to-clear (pair_of p n) (pair-clear p n) (n / 2))) (first-clear p n) refl

pub butterworth-lp-fresh : (n : ℕ) (cutoff rate : Float) → (butterworth_lp n cutoff rate).refusal ≡ 0 → FreshCascade (butterworth_lp n cutoff rate).cascade
unfolding butterworth_lp
butterworth-lp-fresh n cutoff rate = accepted-fresh (validate_params cutoff rate n) _ (λ e. prototype-fresh _ n (good-params cutoff rate n e))

pub butterworth-hp-fresh : (n : ℕ) (cutoff rate : Float) → (butterworth_hp n cutoff rate).refusal ≡ 0 → FreshCascade (butterworth_hp n cutoff rate).cascade
unfolding butterworth_hp
butterworth-hp-fresh n cutoff rate = accepted-fresh (validate_params cutoff rate n) _ (λ e. prototype-fresh _ n (good-params cutoff rate n e))

pub chebyshev1-fresh : (n : ℕ) (cutoff db rate : Float) → (chebyshev1_lp n cutoff db rate).refusal ≡ 0 → FreshCascade (chebyshev1_lp n cutoff db rate).cascade
unfolding chebyshev1_lp
chebyshev1-fresh n cutoff db rate = accepted-fresh (validate_chebyshev cutoff db rate n) _ (λ e. prototype-fresh _ n (good-chebyshev cutoff db rate n e))

pub chebyshev2-fresh : (n : ℕ) (cutoff db rate : Float) → (chebyshev2_lp n cutoff db rate).refusal ≡ 0 → FreshCascade (chebyshev2_lp n cutoff db rate).cascade
unfolding chebyshev2_lp
chebyshev2-fresh n cutoff db rate = accepted-fresh (validate_chebyshev cutoff db rate n) _ (λ e. prototype-fresh _ n (good-chebyshev cutoff db rate n e))

-- ---- band pass
band-clear : (sum product bw : Float) → Clear (band_biquad sum product bw)
unfolding band_biquad
band-clear sum product bw = refl

real-clear : (bw w0 : Float) → Clear (bp_real bw w0)
unfolding bp_real bp_biquad
real-clear bw w0 = either (le plus_zero (bw ⊗ half ⊗ (bw ⊗ half) ⊖ w0)) _ _ (band-clear _ _ _) (band-clear _ _ _)
  where
    either : (b : Bool) (x y : SectionRecord) → Clear x → Clear y → Clear (cond b x y)
    either true x y u v = u
    either false x y u v = v

bp_up_to-clear : (n : ℕ) (bw w0 : Float) (m : ℕ) → AllClear (bp_up_to n bw w0 m)
unfolding bp_up_to bp_pair_of bp_pair bp_biquad band_biquad
bp_up_to-clear n bw w0 zero = tt
bp_up_to-clear n bw w0 (suc m) = append-clear (bp_up_to n bw w0 m) _ (bp_up_to-clear n bw w0 m) (refl, (refl, tt))

bp_sections-clear : (n : ℕ) (bw w0 : Float) → AllClear (bp_sections n bw w0)
unfolding bp_sections
bp_sections-clear n bw w0 = go (eqb (n % 2) 0)
  where
    go : (b : Bool) → AllClear (cond b (bp_up_to n bw w0 (n / 2)) (bp_up_to n bw w0 (n / 2) ++ bp_real bw w0 ∷ []))
    go true = bp_up_to-clear n bw w0 (n / 2)
    go false = append-clear (bp_up_to n bw w0 (n / 2)) (bp_real bw w0 ∷ []) (bp_up_to-clear n bw w0 (n / 2)) (real-clear bw w0, tt)

band-fresh : (n : ℕ) (wl wh : Float) → (0 < n) × (n ≤ max_band_order) → FreshCascade (bp_cascade n wl wh)
unfolding bp_cascade
band-fresh n wl wh h = fresh _ h.1 (rw (lt-ltb 0 n h.0)) (padded-clear max_sections _ (bp_sections-clear n (wh ⊖ wl) (wl ⊗ wh))) refl refl

pub bandpass-fresh : (n : ℕ) (low high rate : Float) → (butterworth_bp n low high rate).refusal ≡ 0 → FreshCascade (butterworth_bp n low high rate).cascade
unfolding butterworth_bp
bandpass-fresh n low high rate =
    accepted-fresh (validate_band low high rate n) _ (λ e. band-fresh n _ _ (good-band low high rate n e))
