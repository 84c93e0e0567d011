-- The loop over hexadecimal digits, and the written forms of a float.
use Rattle.std.proofs.Common.{ℕ, ◌+◌, ◌*◌, ◌^◌, ◌<◌, ◌≤◌, ◌≡◌, ◌∙◌, refl, sym, arith, true, false, List, [], ◌∷◌, length, get_or, take, drop, None, Some, codes}
use Rattle.std.proofs.lemmas.Bool.Decides.{nat_tests}
use Rattle.std.proofs.lemmas.Slice.Eq.{bytes_eq-Decides}
use borrow.Author.Tests.{eq-eqb, ne_eqb, le-leb}
use Rattle.std.specs.Char.{is_ascii_digit}
use Rattle.std.specs.Float.{nan, inf}
use Rattle.std.specs.Float.Ieee.{neg}
use Rattle.std.specs.List.{list_all, prefix_len}
use Rattle.std.specs.Option.{option_map}
use Rattle.std.specs.Str.{bytes_eq}
use Rattle.text_decimals.specs.Decimals.{digit, value_after, decimal}
use Rattle.text_decimals.proofs.Digits.{value-cons, value-more, value-less}
use Rattle.text_numbers.specs.Numbers.{after_whole, unsigned, signed, named}

-- ---- a token that is a name
pub named-nan : (token : List ℕ) → token ≡ codes "NaN" → Some nan ≡ named token
unfolding named
named-nan token e = rw e refl

pub named-inf : (token : List ℕ) → token ≡ codes "inf" → Some (inf false) ≡ named token
unfolding named
named-inf token e = rw e refl

pub named-minus-inf : (token : List ℕ) → token ≡ codes "-inf" → Some (inf true) ≡ named token
unfolding named
named-minus-inf token e = rw e refl

-- ---- a token that is none of the names
differs : (token name : List ℕ) → (token ≡ name → ⊥) → bytes_eq token name ≡ false
differs token name n = grind (arith, nat_tests, bytes_eq-Decides token name)

pub named-other : (token : List ℕ) → (token ≡ codes "NaN" → ⊥) → (token ≡ codes "inf" → ⊥) → (token ≡ codes "-inf" → ⊥) → signed token ≡ named token
unfolding named
named-other token a b d = rw (differs token (codes "NaN") a, differs token (codes "inf") b, differs token (codes "-inf") d)

-- ---- a sign, or none
pub signed-minus : (token : List ℕ) → 0 < length token → get_or token 0 0 ≡ 45 → option_map neg (unsigned (drop 1 token)) ≡ signed token
unfolding signed
signed-minus [] h e = absurd (omega arith)
signed-minus (b ∷ token) h e = rw (eq-eqb b 45 e)

pub signed-plain : (token : List ℕ) → (0 < length token → get_or token 0 0 ≡ 45 → ⊥) → unsigned token ≡ signed token
unfolding signed unsigned after_whole decimal
signed-plain [] n = refl
signed-plain (b ∷ token) n = rw (ne_eqb b 45 (n (omega arith)))

-- ---- a point, or none: the rest of a token after its first digits
module _ (whole : List ℕ) where
  pub after-whole : (rest : List ℕ) → length rest < 1 → decimal whole [] ≡ after_whole whole rest
  unfolding after_whole
  after-whole [] h = refl
  after-whole (b ∷ fraction) h = absurd (omega arith)

  pub after-point : (rest : List ℕ) → 0 < length rest → get_or rest 0 0 ≡ 46 → list_all is_ascii_digit (drop 1 rest) ≡ true → 0 < length (drop 1 rest)
      → decimal whole (drop 1 rest) ≡ after_whole whole rest
  unfolding after_whole
  after-point [] h e a l = absurd (omega arith)
  after-point (b ∷ fraction) h e a l = rw (eq-eqb b 46 e, a, le-leb 1 (length fraction) l)

  pub after-other : (rest : List ℕ) → 0 < length rest
      → (get_or rest 0 0 ≡ 46 → list_all is_ascii_digit (drop 1 rest) ≡ true → 0 < length (drop 1 rest) → ⊥) → None ≡ after_whole whole rest
  unfolding after_whole
  after-other [] h n = absurd (omega arith)
  after-other (b ∷ fraction) h n = grind (arith, nat_tests)

pub parted : {whole rest : List ℕ} {n : ℕ} (token : List ℕ) → n ≡ prefix_len is_ascii_digit token → whole ≡ take n token → rest ≡ drop n token
    → after_whole whole rest ≡ unsigned token
unfolding unsigned
parted token e f g = rw (f, g, e)

-- ---- hexadecimal digits, 16 at most: the loop at place i
abbrev pub Reading : List ℕ → ℕ → ℕ → Type 0
Reading ds value i = value_after 16 value (drop i ds) ≡ value_after 16 0 ds

pub hex-fits : (ds : List ℕ) (value i : ℕ) → length ds ≤ 16 → i < length ds → Reading ds value i → value * 16 + digit (get_or ds i 0) < 2 ^ 64
hex-fits ds value i l h r =
    let m = value-more 15 (value * 16 + digit (get_or ds i 0)) (drop (i + 1) ds) in
    let e = sym (value-cons 16 value ds i h) ∙ r in
    let s = value-less 16 1 0 ds 16 (omega arith) (omega arith) l in
    omega (arith, m, e, s)
