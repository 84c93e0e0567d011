-- The table of the powers of ten: its rule is one test over the whole table.
use Prim.Native.Nat.{ℕ, ◌^◌, ◌<◌}
use mathlib.Core.Path.{◌≡◌, sym, ap₂, ◌∙◌}
use mathlib.Core.Bool.{Bool, true, false, ◌&&◌}
use mathlib.Core.List.{List, [], ◌∷◌}
use lib.Dec.{T, eqb, eqb→eq}
use lib.IntN.{pos, negsuc}
use lib.ListN.{get_or}
use lib.Ieee.{Float, nan, inf, fin, binary64, of_int, of_bits}
use lib.Ieee.Fits.{and_l, and_r}
use Rattle.lists.proofs.Table.{at}

-- the code's table
unfoldable pub table : List ℕ
table =
    0x3FF0000000000000 ∷ 0x4024000000000000 ∷ 0x4059000000000000 ∷ 0x408F400000000000 ∷ 0x40C3880000000000 ∷ 0x40F86A0000000000
    ∷ 0x412E848000000000 ∷ 0x416312D000000000 ∷ 0x4197D78400000000 ∷ 0x41CDCD6500000000 ∷ 0x4202A05F20000000 ∷ 0x42374876E8000000
    ∷ 0x426D1A94A2000000 ∷ 0x42A2309CE5400000 ∷ 0x42D6BCC41E900000 ∷ 0x430C6BF526340000 ∷ 0x4341C37937E08000 ∷ 0x4376345785D8A000
    ∷ 0x43ABC16D674EC800 ∷ 0x43E158E460913D00 ∷ 0x4415AF1D78B58C40 ∷ 0x444B1AE4D6E2EF50 ∷ 0x4480F0CF064DD592 ∷ []

-- whether a float is 10^k, which is 5^k * 2^k
is_power : Float → ℕ → Bool
is_power nan k = false
is_power (inf s) k = false
is_power (fin true m e) k = false
is_power (fin false m (negsuc e)) k = false
is_power (fin false m (pos e)) k = eqb m (5 ^ k) && eqb e k

is-power : (x : Float) (k : ℕ) → T (is_power x k) → x ≡ fin false (5 ^ k) (pos k)
unfolding is_power
is-power nan k t = absurd t
is-power (inf s) k t = absurd t
is-power (fin true m e) k t = absurd t
is-power (fin false m (negsuc e)) k t = absurd t
is-power (fin false m (pos e)) k t =
    ap₂ (λ (a b : ℕ). fin false a (pos b)) (eqb→eq m (5 ^ k) (and_l (eqb m (5 ^ k)) (eqb e k) t)) (eqb→eq e k (and_r (eqb m (5 ^ k)) (eqb e k) t))

-- the rule: an entry's bits are 10^k, and so is the whole number 10^k as a float
right : ℕ → ℕ → Bool
right k b = is_power (of_bits binary64 b) k && is_power (of_int binary64 (pos (10 ^ k))) k

pub rule : (k : ℕ) → k < 23 → of_bits binary64 (get_or table k 0) ≡ of_int binary64 (pos (10 ^ k))
unfolding table right is_power of_bits of_int
rule k h =
    let t = at right table tt k h in
    let a = is_power (of_bits binary64 (get_or table k 0)) k in
    let b = is_power (of_int binary64 (pos (10 ^ k))) k in
    is-power _ k (and_l a b t) ∙ sym (is-power _ k (and_r a b t))

-- 10^k as a float, up to 10^22
pub power-is : (k : ℕ) → k < 23 → of_int binary64 (pos (10 ^ k)) ≡ fin false (5 ^ k) (pos k)
unfolding table right is_power of_bits of_int
power-is k h =
    let t = at right table tt k h in
    let a = is_power (of_bits binary64 (get_or table k 0)) k in
    let b = is_power (of_int binary64 (pos (10 ^ k))) k in
    is-power _ k (and_r a b t)
