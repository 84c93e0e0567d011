-- What a cascade design returns: its refusal number, or 0 and the cascade.
use Rattle.std.specs.Prelude.{ℕ, zero, suc, cond, List, [], ◌∷◌, eqb}
use Rattle.runs.specs.Refusals.{no_refusal}
use Rattle.runs.specs.Default.{by_default}
use Rattle.cascade_theory.specs.Section.{SectionRecord, blank_section}
use Rattle.cascade_theory.specs.Cascade.{CascadeRecord, blank_cascade}
use Rattle.cascade_theory.specs.Coefficients.{finite_coefficients}

pub record CascadeDesignRecord : Type 0 where
  pub refusal : ℕ
  pub cascade : CascadeRecord

-- a refused design returns its number and the blank record
abbrev pub refused_design : ℕ → CascadeDesignRecord
refused_design n = record { refusal = n; cascade = blank_cascade }

abbrev pub accepted : CascadeRecord → CascadeDesignRecord
accepted c = record { refusal = no_refusal; cascade = c }

-- the design of c, unless a check has drawn the number n
abbrev pub unless_refused : ℕ → CascadeRecord → CascadeDesignRecord
unless_refused n c = cond (eqb n no_refusal) (accepted c) (refused_design n)

-- 02's Q-3: a cascade's design by default
abbrev pub cascade_by_default : CascadeDesignRecord → CascadeDesignRecord
cascade_by_default = by_default (λ (d : CascadeDesignRecord). d.refusal) (λ (d : CascadeDesignRecord). finite_coefficients d.cascade) refused_design

-- sections in the first of p places, and blank ones behind them
unfoldable pub padded : ℕ → List SectionRecord → List SectionRecord
padded zero ss = []
padded (suc p) [] = blank_section ∷ padded p []
padded (suc p) (s ∷ ss) = s ∷ padded p ss
