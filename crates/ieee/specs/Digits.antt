-- What the steps of `sqrt` hand to one another, on bit patterns. Not part of what `sqrt` promises.
use Rattle.std.specs.Prelude.{◌≡◌, ℕ, ◌+◌, ◌*◌, ◌^◌, ◌≤◌, ◌<◌}

-- r is the whole number nearest to √(m * 2 ^ 52), and has 53 digits: (r - 1/2) ^ 2 < m * 2 ^ 52 < (r + 1/2) ^ 2, in whole numbers
pub record NearestRoot (m r : ℕ) : Type 0 where
  pub least : 2 ^ 52 ≤ r
  pub most : r < 2 ^ 53
  pub below : r * r < m * 2 ^ 52 + r
  pub above : m * 2 ^ 52 ≤ r * r + r

-- r is the bit pattern of q * 2 ^ k smallest values, 2 ^ -1074 each, and q is the whole number nearest to √M. Here M * 2 ^ (2 * k) is N * 2 ^ 1022:
-- for an x of n smallest values, and N = n * 2 ^ 52, that is n * 2 ^ 1074, the square of √x in smallest values.
pub record Rooted (N r : ℕ) : Type 0 where
  pub q : ℕ
  pub k : ℕ
  pub M : ℕ
  pub bits : r ≡ k * 2 ^ 52 + q
  pub least : 2 ^ 52 ≤ q
  pub most : q < 2 ^ 53
  pub exponent : k < 2000
  pub square : M * 2 ^ (k + k) ≡ N * 2 ^ 1022
  pub start : 2 ^ 52 * 2 ^ 52 ≤ M
  pub below : q * q < M + q
  pub above : M ≤ q * q + q
