-- A pass in place, in either direction.
use Rattle.std.proofs.Common.{◌≡◌, ℕ, suc, ◌+◌, ◌<◌, ◌≤◌, List, [], ◌∷◌, ◌++◌, reverse, length, get_or, take, drop, set, sym, ap, ◌∙◌, append_assoc}
use Rattle.std.proofs.Common.{append-nil, add-one, arith, length-set, drop_of_length-le, take_all, drop-cons, take-suc, get_or-set_same, take-suc-set}
use Rattle.std.proofs.Common.{drop-set-lt}
use mathlib.Core.List.{reverse-cons, reverse-append, reverse-reverse}
use lib.Seq.{take-set-le}
use lib.Ieee.{Float, nan}
use Rattle.j211.specs.J211.{zero_history, output_of, next_of, pass, forward, backward}
use Rattle.j211.specs.declared.Coefficients.{Coefficients}
use Rattle.j211.specs.declared.History.{History}

-- a pass over samples, under way with the history h: the outputs so far, and what the samples left will give, are the whole pass
pub record Passing (k : Coefficients) (samples : List Float) (h : History) (outputs left : List Float) : Type 0 where
  pub whole : outputs ++ pass k h left ≡ pass k zero_history samples

-- In place: the buffer was `old`. Forward the outputs stand before place i, and the samples left from there on.
pub record Forward (k : Coefficients) (old : List Float) (h : History) (buffer : List Float) (i : ℕ) : Type 0 where
  pub within : i ≤ length buffer
  pub same : length buffer ≡ length old
  pub passing : Passing k old h (take i buffer) (drop i buffer)

-- Backward the samples left stand before place i, and the outputs from there on; both count from the last place.
pub record Backward (k : Coefficients) (old : List Float) (h : History) (buffer : List Float) (i : ℕ) : Type 0 where
  pub within : i ≤ length buffer
  pub same : length buffer ≡ length old
  pub passing : Passing k (reverse old) h (reverse (drop i buffer)) (reverse (take i buffer))

-- one sample more, in either direction
pass-turn : {k : Coefficients} {samples outputs left : List Float} {h h' : History} {x y : Float} → y ≡ output_of k h x → h' ≡ next_of h x (output_of k h x)
    → Passing k samples h outputs (x ∷ left) → Passing k samples h' (outputs ++ y ∷ []) left
unfolding pass
pass-turn ey eh p = record { whole = rw (append_assoc, eh, ey) p.whole }

module _ {k : Coefficients} {old b : List Float} {i : ℕ} {h : History} where
  module _ {h' : History} {y : Float} (inside : i < length b) (ey : y ≡ output_of k h (get_or b i nan))
      (eh : h' ≡ next_of h (get_or b i nan) (output_of k h (get_or b i nan)))
    where
      pub forward-turn : Forward k old h b i → Forward k old h' (set b i y) (i + 1)
      forward-turn p = record {
        within = rw length-set (omega arith);
        same = rw length-set p.same;
        passing = rw (add-one, take-suc-set b i y, drop-set-lt (suc i) b i y (omega arith)) (pass-turn ey eh (rw (drop-cons b i nan inside) at p.passing));
      }

      pub backward-turn : {j : ℕ} → j ≡ suc i → Backward k old h b j → Backward k old h' (set b i y) i
      backward-turn e p =
          let l : i < length (set b i y) = rw length-set inside in
          record {
            within = rw length-set (omega arith);
            same = rw length-set p.same;
            passing = rw (
              drop-cons (set b i y) i nan l,
              get_or-set_same b i y nan inside,
              drop-set-lt (suc i) b i y (omega arith),
              reverse-cons,
              take-set-le i b i y (omega arith),
            )
                (pass-turn ey eh (rw (e, take-suc b i nan inside, reverse-append) at p.passing));
          }

  pub forward-done : length b ≤ i → Forward k old h b i → b ≡ forward k old
  unfolding pass
  forward-done e p = sym (append-nil b) ∙ (rw (take_all i b e, drop_of_length-le b {i = i} e) at p.passing.whole)

  pub backward-done : i ≡ 0 → Backward k old h b i → b ≡ backward k old
  unfolding pass
  backward-done e p = sym (reverse-reverse b) ∙ ap reverse (sym (append-nil (reverse b)) ∙ (rw e at p.passing.whole))
