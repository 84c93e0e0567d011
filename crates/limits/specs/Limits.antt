-- 01's limits, each in one place.
use Rattle.std.specs.Prelude.{ℕ}

-- how many sections a cascade has room for
abbrev pub max_sections : ℕ
max_sections = 4

-- the most taps that a tap record of the code holds
abbrev pub max_taps : ℕ
max_taps = 64

-- the largest order of a design, and of a band pass
abbrev pub max_order : ℕ
max_order = 8

abbrev pub max_band_order : ℕ
max_band_order = 4
