-- The loops of a long block: the run of finite samples, and the count.
use mathlib.Core.Path.{◌≡◌, refl, sym, ap, ◌∙◌}
use mathlib.Core.Bool.{Bool, true, false, cond}
use mathlib.Core.List.{List, [], ◌∷◌}
use Prim.Native.Nat.{ℕ, ◌+◌, ◌<◌, ◌≤◌, min}
use native.Mathlib.Nat.{add-zero}
use native.Mathlib.Omega.{arith}
use lib.Dec.{ltb}
use lib.ListN.{length, get_or, drop}
use lib.Ieee.{Float, nan}
use lib.Ieee.Scale.{finite}
use Rattle.std.specs.Int.{from_bool}
use Rattle.std.specs.List.{prefix_len}
use Rattle.lists.proofs.Folding.{fold-turn, fold_done}
use Rattle.fir_theory.specs.Blocks.{finite_run, age_after, clouds_from}
use Rattle.fir_theory.proofs.Full.{capped-ltb}

-- ---- the run of finite samples
pub prefix-is : (s : List Float) → prefix_len finite s ≡ finite_run s
unfolding finite_run
prefix-is [] = refl
prefix-is (x ∷ s) = ap (λ (k : ℕ). cond (finite x) k 0) (omega (arith, prefix-is s))

-- ---- the count: what is left is counted yet
pub record Counting (n age₀ : ℕ) (input : List Float) (clouded age i : ℕ) : Type 0 where
  pub few : clouded ≤ i
  pub young : age ≤ age₀ + i
  pub rest : clouded + clouds_from n (min age n) (drop i input) ≡ clouds_from n (min age₀ n) input

capped_age : (n age : ℕ) (x : Float) → age_after n (min age n) x ≡ min (cond (finite x) (age + 1) 0) n
capped_age n age x = go (finite x)
  where
    go : (b : Bool) → cond b (min (min age n + 1) n) 0 ≡ min (cond b (age + 1) 0) n
    go true = omega arith
    go false = omega arith

counted : (b : Bool) → from_bool b ≡ cond b 1 0
counted true = refl
counted false = refl

pub count_turn : {n age₀ : ℕ} {input : List Float} (clouded age i : ℕ) {after m : ℕ} → i < length input
    → after ≡ cond (finite (get_or input i nan)) (age + 1) 0 → m ≡ from_bool (ltb after n)
    → Counting n age₀ input clouded age i → Counting n age₀ input (clouded + m) after (i + 1)
unfolding clouds_from
count_turn {n} {age₀} {input} clouded age i {after} {m} h e g p =
    let x = get_or input i nan in
    let a : age_after n (min age n) x ≡ min after n = capped_age n age x ∙ ap (λ (z : ℕ). min z n) (sym e) in
    let k : m ≡ cond (ltb after n) 1 0 = g ∙ counted (ltb after n) in
    record {
      few = rw k (few (ltb after n));
      young = rw e (young (finite x));
      rest = fold-turn (λ xs. clouded + clouds_from n (min age n) xs) input i (λ xs. clouded + m + clouds_from n (min after n) xs) nan h
          (λ xs. rw (a, ← capped-ltb after n, k) (more (cond (ltb after n) 1 0) (clouds_from n (min after n) xs))) p.rest;
    }
  where
    few : (b : Bool) → clouded + cond b 1 0 ≤ i + 1
    few true = omega (arith, p.few)
    few false = omega (arith, p.few)

    young : (b : Bool) → cond b (age + 1) 0 ≤ age₀ + (i + 1)
    young true = omega (arith, p.young)
    young false = omega arith

    more : (k m : ℕ) → clouded + (k + m) ≡ clouded + k + m
    more k m = omega arith

pub count-done : {n age₀ : ℕ} {input : List Float} (clouded age i : ℕ) → length input ≤ i → Counting n age₀ input clouded age i
    → clouded ≡ clouds_from n (min age₀ n) input
unfolding clouds_from
count-done {n} {age₀} {input} clouded age i h p =
    sym (add-zero clouded) ∙ fold_done (λ xs. clouded + clouds_from n (min age n) xs) input i h p.rest
