-- The loop that writes digits, the last one first, and the zeros in front of a count.
use Rattle.std.proofs.Common.{ℕ, zero, suc, ◌+◌, ◌-◌, ◌/◌, ◌%◌, ◌^◌, ◌<◌, ◌≤◌, ◌≡◌, ◌∙◌, ◌⊎◌, refl, sym, ap, inl, inr, cond, not, List, [], ◌∷◌, ◌++◌, Bool}
use Rattle.std.proofs.Common.{arith, add-one, append_assoc, length, take, drop, slice_set, length-append, length-set, not-suc-le-zero}
use Rattle.std.proofs.lemmas.Bool.Decides.{nat_tests}
use Rattle.std.proofs.lemmas.List.{take_rest, drop-set}
use Rattle.std.proofs.str.Laws.{order}
use Rattle.std.specs.List.{position}
use Rattle.std.specs.Option.{unwrap_or}
use borrow.Author.Tests.{ne_eqb}
use lib.Dec.{eqb}
use native.Mathlib.Nat.{mod-eq_of_lt, div-eq_of_lt, one-le-pow, div-one, pow-zero, pow-succ', one-mul, div-div-eq-div-mul, le-div_iff_mul-le, div-lt_iff_lt-mul}
use Rattle.text_answers.specs.Texts.{put, place_after, glyph, digits_of, Fewest, CountPut}

-- ---- the loop that writes digits, the last one first
pub length_digits : (base k n : ℕ) → length (digits_of base k n) ≡ k
unfolding digits_of
length_digits base zero n = refl
length_digits base (suc k) n = rw (length-append, length_digits base k (n / base)) (add-one k)

-- the i digits of rest are still to come, in front of those that are written
pub record Writing (base n k : ℕ) (text : List ℕ) (i rest : ℕ) : Type 0 where
  pub room : length text ≡ k
  pub split : digits_of base i rest ++ drop i text ≡ digits_of base k n

pub write-turn : (base n k : ℕ) (text : List ℕ) (i rest digit : ℕ) → 0 < i → i ≤ k → digit ≡ glyph (rest % base) → Writing base n k text i rest
    → Writing base n k (slice_set text (i - 1) digit) (i - 1) (rest / base)
unfolding digits_of
write-turn base n k text zero rest digit h l e p = absurd (not-suc-le-zero h)
write-turn base n k text (suc i) rest digit h l e p =
    let j : suc i - 1 ≡ i = omega arith in
    record {
      room = length-set text (suc i - 1) digit ∙ p.room;
      split = rw (j, e, drop-set text i (glyph (rest % base)) (omega (arith, p.room)), add-one) (rw append_assoc at p.split);
    }

pub write-done : (base n k : ℕ) (text : List ℕ) (i rest : ℕ) → i ≡ 0 → Writing base n k text i rest → text ≡ digits_of base k n
unfolding digits_of
write-done base n k text i rest h p = rw h at p.split

-- ---- the zeros in front of a count
first_digit : (base k n : ℕ) → digits_of base (suc k) n ≡ glyph (n / base ^ k % base) ∷ digits_of base k n
unfolding digits_of
first_digit base zero n = rw (pow-zero, div-one)
first_digit base (suc k) n =
    rw (pow-succ', ← div-div-eq-div-mul n base (base ^ k)) (ap (λ (l : List ℕ). l ++ glyph (n % base) ∷ []) (first_digit base k (n / base)))

abbrev pub is_other : ℕ → Bool
is_other d = not (eqb d 48)

-- how many zeros stand in front, but for the last digit
unfoldable pub zeros : ℕ → List ℕ → ℕ
zeros k digits = unwrap_or (position is_other digits) k

one_digit : (d : ℕ) → zeros 0 (d ∷ []) ≡ 0
unfolding zeros
one_digit d = grind (arith, nat_tests)

one_more : (k d : ℕ) (digits : List ℕ) → zeros (suc k) (d ∷ digits) ≡ cond (is_other d) 0 (suc (zeros k digits))
unfolding zeros
one_more k d digits = grind (arith, nat_tests)

other_or_not : (q : ℕ) → q < 10 → is_other (glyph (q % 10)) ≡ not (eqb q 0)
unfolding glyph
other_or_not q h = rw (mod-eq_of_lt h) (grind (arith, nat_tests))

-- behind them stand the fewest digits that hold the number
pub record Left (k n z : ℕ) : Type 0 where
  pub count : ℕ
  pub all : z + count ≡ suc k
  pub fewest : Fewest n count
  pub digits : drop z (digits_of 10 (suc k) n) ≡ digits_of 10 count n

pub fewest_left : (k n : ℕ) → n < 10 ^ suc k → Left k n (zeros k (digits_of 10 (suc k) n))
unfolding digits_of
fewest_left zero n h =
    rw (one_digit (glyph (n % 10)))
    (record { count = 1; all = refl; fewest = record { some = omega arith; hold = h; needed = λ m. absurd (omega arith) }; digits = refl })
fewest_left (suc k) n h = step (fewest_left k n) (order n (10 ^ suc k))
  where
    step : (n < 10 ^ suc k → Left k n (zeros k (digits_of 10 (suc k) n))) → (n < 10 ^ suc k) ⊎ (10 ^ suc k ≤ n)
        → Left (suc k) n (zeros (suc k) (digits_of 10 (suc (suc k)) n))
    step f (inl l) =
        let r = f l in
        let d = other_or_not (n / 10 ^ suc k) (rw (div-eq_of_lt l) (omega arith)) in
        rw (first_digit 10 (suc k) n, one_more, d, div-eq_of_lt l)
        (record { count = r.count; all = omega (arith, r.all); fewest = r.fewest; digits = rw (first_digit 10 (suc k) n) r.digits })
    step f (inr l) =
        let q : 0 < n / 10 ^ suc k = (le-div_iff_mul-le (one-le-pow (suc k) 10 (omega arith))).1 (rw one-mul l) in
        let small : n / 10 ^ suc k < 10 = (div-lt_iff_lt-mul (one-le-pow (suc k) 10 (omega arith))).1 (rw pow-succ' at h) in
        let i : suc (suc k) - 1 ≡ suc k = omega arith in
        rw (first_digit 10 (suc k) n, one_more, other_or_not (n / 10 ^ suc k) small, ne_eqb (n / 10 ^ suc k) 0 (omega arith))
        (record { count = suc (suc k); all = omega arith; fewest = record { some = omega arith; hold = h; needed = λ m. rw i l }; digits = refl })

pub count_put : {bytes bytes' text : List ℕ} {at at' n z : ℕ} → n < 2 ^ 64 → text ≡ digits_of 10 20 n → z ≡ zeros 19 text
    → bytes' ≡ put bytes at (take (20 - z) (drop z text)) → at' ≡ place_after bytes at (length (take (20 - z) (drop z text))) → CountPut bytes at n bytes' at'
count_put {text = text} {n = n} {z = z} h t e f g =
    let r = rw (← t, ← e) at (fewest_left 19 n (omega arith)) in
    let l : 20 ≡ length text = rw t (sym (length_digits 10 20 n)) in
    let d : take (20 - z) (drop z text) ≡ digits_of 10 r.count n = rw (l, take_rest, t) r.digits in
    record { digits = r.count; fewest = r.fewest; place = g ∙ ap (place_after _ _) (ap length d ∙ length_digits 10 r.count n); text = f ∙ ap (put _ _) d }
