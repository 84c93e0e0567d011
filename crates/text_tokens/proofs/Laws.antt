-- The first token of a line, and all of them.
use Rattle.std.proofs.Common.{ℕ, ◌<◌, ◌≡◌, ◌∙◌, refl, ap, arith, one-add, Bool, true, false, not, List, [], ◌∷◌, length, take, drop, length-drop, None, Some}
use Rattle.std.proofs.lemmas.Grind.{common_steps}
use Rattle.std.proofs.lemmas.Bool.Decides.{nat_tests}
use Rattle.std.proofs.lemmas.Option.{some_pair_parts}
use Rattle.std.specs.Option.{unwrap_or}
use Rattle.std.specs.List.{filter, position, position_or_len, slice_split}
use Rattle.text_tokens.specs.Tokens.{is_space, is_empty, from_token, up_to_space, next_token, tokens}

-- a test that a byte passes which is no space
abbrev pub is_letter : ℕ → Bool
is_letter b = not (is_space b)

pub no_token : (line : List ℕ) → position is_letter line ≡ None → next_token line ≡ None
unfolding next_token up_to_space from_token
no_token line e = grind (arith, common_steps, nat_tests)

pub a_token : (line : List ℕ) (start end : ℕ) → position is_letter line ≡ Some start
    → end ≡ unwrap_or (position is_space (drop start line)) (length (drop start line))
    → next_token line ≡ Some (take end (drop start line), drop end (drop start line))
unfolding next_token up_to_space from_token
a_token line start end e f = grind (arith, common_steps, nat_tests)

-- ---- all tokens, with any bytes as spaces
module _ (p : ℕ → Bool) where
  letters : List ℕ → ℕ
  letters = position_or_len p

  rest_of : List ℕ → List ℕ
  rest_of line = drop (position_or_len (λ b. not (p b)) line) line

  all_tokens : List ℕ → List (List ℕ)
  all_tokens line = filter (λ token. not (is_empty token)) (slice_split p line)

  -- spaces at the front change nothing
  skip : (line : List ℕ) → all_tokens line ≡ all_tokens (rest_of line)
  unfolding all_tokens rest_of
  skip [] = refl
  skip (b ∷ bytes) = step (skip bytes) (p b) refl
    where
      step : all_tokens bytes ≡ all_tokens (rest_of bytes) → (t : Bool) → p b ≡ t → all_tokens (b ∷ bytes) ≡ all_tokens (rest_of (b ∷ bytes))
      step h true e = rw (e, one-add) h
      step h false e = rw (e, e) refl

  -- behind them comes a letter, or nothing
  letter_first : (line : List ℕ) (b : ℕ) (bytes : List ℕ) → rest_of line ≡ b ∷ bytes → p b ≡ false
  unfolding rest_of
  letter_first [] b bytes e = cc
  letter_first (c ∷ line) b bytes e = step (letter_first line b bytes) (p c) refl
    where
      step : (rest_of line ≡ b ∷ bytes → p b ≡ false) → (t : Bool) → p c ≡ t → p b ≡ false
      step h true t = h (rw (t, one-add) at e)
      step h false t = let k = rw t at e in let q : c ≡ b = cc in rw (← q) t

  -- what stands before the first space is the first part
  First : List ℕ → Type 0
  First bytes = (others : List (List ℕ)) × (slice_split p bytes ≡ take (letters bytes) bytes ∷ others)
      × (filter (λ token. not (is_empty token)) others ≡ all_tokens (drop (letters bytes) bytes))

  first_part : (bytes : List ℕ) → First bytes
  unfolding all_tokens letters First
  first_part [] = ([], refl, refl)
  first_part (b ∷ bytes) = step (first_part bytes) (p b) refl
    where
      step : First bytes → (t : Bool) → p b ≡ t → First (b ∷ bytes)
      step h true e = (slice_split p bytes, rw e refl, rw (e, e) refl)
      step h false e = (h.0, rw (e, h.1, one-add) refl, rw (e, one-add) h.2)

  -- a line that begins with a letter
  from_letter : (b : ℕ) (bytes : List ℕ) → p b ≡ false → all_tokens (b ∷ bytes)
      ≡ take (letters (b ∷ bytes)) (b ∷ bytes) ∷ all_tokens (drop (letters (b ∷ bytes)) (b ∷ bytes))
  unfolding all_tokens letters First
  from_letter b bytes e =
      let h = first_part bytes in
      rw (e, h.1, one-add) (ap (λ (l : List (List ℕ)). (b ∷ take (letters bytes) bytes) ∷ l) h.2)

pub tokens-none : (line : List ℕ) → next_token line ≡ None → tokens line ≡ []
unfolding next_token up_to_space tokens all_tokens rest_of from_token
tokens-none line e = skip is_space line ∙ go (from_token line) e
  where
    go : (bytes : List ℕ) → up_to_space bytes ≡ None → tokens bytes ≡ []
    go [] h = refl
    go (b ∷ bytes) h = cc

pub tokens-some : (line token rest : List ℕ) → next_token line ≡ Some (token, rest) → tokens line ≡ token ∷ tokens rest
unfolding next_token up_to_space tokens all_tokens rest_of from_token letters
tokens-some line token rest e = skip is_space line ∙ go (from_token line) refl e
  where
    go : (bytes : List ℕ) → from_token line ≡ bytes → up_to_space bytes ≡ Some (token, rest) → tokens bytes ≡ token ∷ tokens rest
    go [] f h = cc
    go (b ∷ bytes) f h =
        let l = from_letter is_space b bytes (letter_first is_space line b bytes f) in
        let k = some_pair_parts _ _ _ _ h in
        rw (← k.0, ← k.1) l

-- what follows a token is shorter than the line
pub shorter : (line token rest : List ℕ) → next_token line ≡ Some (token, rest) → length rest < length line
unfolding next_token up_to_space from_token rest_of
shorter line token rest e = omega (arith, go (from_token line) refl e, length-drop (position_or_len is_letter line) line)
  where
    go : (bytes : List ℕ) → from_token line ≡ bytes → up_to_space bytes ≡ Some (token, rest) → length rest < length bytes
    go [] f h = cc
    go (b ∷ bytes) f h =
        let l = letter_first is_space line b bytes f in
        let k = some_pair_parts _ _ _ _ h in
        rw (← k.1, l, one-add) (omega (arith, length-drop (position_or_len is_space bytes) bytes))
