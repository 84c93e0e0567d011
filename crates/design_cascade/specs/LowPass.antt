-- What the designs of 000 and 001 but the band pass return.
use Rattle.std.specs.Prelude.{ℕ, Float}
use Rattle.design_checks.specs.Checks.{validate_params, validate_chebyshev}
use Rattle.design_cascade.specs.Design.{CascadeDesignRecord, unless_refused}
use Rattle.design_cascade.specs.Butterworth.{warped}
use Rattle.design_cascade.specs.Chebyshev.{cheb1_prototype, cheb2_prototype}
use Rattle.design_cascade.specs.Prototype.{prototype_cascade}
use Rattle.design_cascade.specs.declared.prototype.Prototype.TheVariants.{ButterworthLow, ButterworthHigh}

unfoldable pub butterworth_lp : ℕ → Float → Float → CascadeDesignRecord
butterworth_lp n cutoff rate = unless_refused (validate_params cutoff rate n) (prototype_cascade (ButterworthLow (warped cutoff rate)) n)

unfoldable pub butterworth_hp : ℕ → Float → Float → CascadeDesignRecord
butterworth_hp n cutoff rate = unless_refused (validate_params cutoff rate n) (prototype_cascade (ButterworthHigh (warped cutoff rate)) n)

unfoldable pub chebyshev1_lp : ℕ → Float → Float → Float → CascadeDesignRecord
chebyshev1_lp n cutoff db rate = unless_refused (validate_chebyshev cutoff db rate n) (prototype_cascade (cheb1_prototype n db (warped cutoff rate)) n)

unfoldable pub chebyshev2_lp : ℕ → Float → Float → Float → CascadeDesignRecord
chebyshev2_lp n cutoff db rate = unless_refused (validate_chebyshev cutoff db rate n) (prototype_cascade (cheb2_prototype n db (warped cutoff rate)) n)
