-- The refusal numbers of 01's two tables, under their names there, that of records lent as slices, those of 02, and the test of number 1, which
-- designs and ready-made taps share.
use Rattle.std.specs.Prelude.{ℕ, Bool, ◌||◌, eqb, ltb}

-- no refusal
abbrev pub no_refusal : ℕ
no_refusal = 0

abbrev pub invalid_order : ℕ
invalid_order = 1

-- 1: an order, or a number of taps, 0 or above the most
unfoldable pub order_refused : ℕ → ℕ → Bool
order_refused n most = eqb n 0 || ltb most n

abbrev pub invalid_frequency : ℕ
invalid_frequency = 2

abbrev pub invalid_sample_rate : ℕ
invalid_sample_rate = 3

abbrev pub invalid_ripple : ℕ
invalid_ripple = 4

abbrev pub short_output : ℕ
short_output = 5

abbrev pub bad_cascade : ℕ
bad_cascade = 11

abbrev pub bad_taps : ℕ
bad_taps = 12

-- of a call on lent slices: a slice of another length than asked for, a flag that is neither 0 nor 1, or a code that no design has
abbrev pub bad_call : ℕ
bad_call = 13

-- 02's Q-1: not a channel class
abbrev pub invalid_class : ℕ
invalid_class = 21

-- 02's Q-2: an empty block, a header length below 4 or past the end, or channels outside 1 to 8
abbrev pub invalid_header : ℕ
invalid_header = 22

-- samples that run past the end
abbrev pub truncated_block : ℕ
truncated_block = 23

-- a channel not present
abbrev pub channel_not_present : ℕ
channel_not_present = 24

-- 02's Q-3: a coefficient that is not finite
abbrev pub non_finite_coefficient : ℕ
non_finite_coefficient = 25
