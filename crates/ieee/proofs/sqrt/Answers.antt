-- `ieee::sqrt` meets its contract, by the facts of proofs/Patterns.antt, and `sqrt-unique` with `sqrt_of-correct` for the value.
use mathlib.Core.Path.{◌≡◌, refl, sym, subst}
use mathlib.Core.Bool.{Bool, true, not}
use native.Mathlib.Omega.{arith}
use lib.Dec.{T}
use lib.Ieee.{Float, binary64, of_bits, to_bits, sub, fits}
use lib.Ieee.Bits.{of_bits-to_bits}
use Rattle.ieee.specs.Sqrt.{Sqrt, sqrt_of}
use Rattle.ieee.proofs.Unique.{sqrt-unique}
use Rattle.ieee.proofs.Model.{sqrt_of-correct}
use Rattle.ieee.proofs.Patterns.{negative, infinite, neither, finite-root, bits_pos, no-nan-made}
use Rattle.ieee.proofs.sqrt.Goals as goal

both : (x r : Float) → Sqrt binary64 x r → (r ≡ sqrt_of binary64 x) × Sqrt binary64 x r
both x r h = (sqrt-unique binary64 x r (sqrt_of binary64 x) h (sqrt_of-correct binary64 x), h)

own : (x : Float) → fits binary64 x ≡ true → of_bits binary64 (to_bits binary64 x) ≡ x
own x h = of_bits-to_bits binary64 x (subst T (sym h) tt)

pub returns-then-x : goal.returns-then-x
unfolding of_bits sub
returns-then-x c =
    let p = both c.args.x _ (negative c.args.x _ (subst T (sym c.if-x.true) tt) refl) in
    record { value = p.0; correctly_rounded = p.1 }

pub root_bits-requires : goal.root_bits-requires
unfolding of_bits
root_bits-requires c = (
  bits_pos c.args.x (to_bits binary64 c.args.x)
      (own c.args.x c.well_formed.0.1) (subst T (sym c.if-x-2.true) tt),
  omega arith,
)

pub float_from_bits-result : goal.float_from_bits-result
float_from_bits-result c = no-nan-made (to_bits binary64 c.args.x) c.root_bits.result c.root_bits.ensures.subnormal
    c.root_bits.ensures.normal

pub returns-then-b-lt-INFINITY : goal.returns-then-b-lt-INFINITY
unfolding of_bits
returns-then-b-lt-INFINITY c =
    let x = c.args.x in
    let p = both x _
    (finite-root x (to_bits binary64 x) c.root_bits.result (own c.args.x c.well_formed.0.1)
    (bits_pos x (to_bits binary64 x) (own c.args.x c.well_formed.0.1) (subst T (sym c.if-x-2.true) tt)) (omega arith)
    c.root_bits.ensures.subnormal c.root_bits.ensures.normal) in
    record { value = p.0; correctly_rounded = p.1 }

pub returns-else-b-lt-INFINITY : goal.returns-else-b-lt-INFINITY
unfolding of_bits
returns-else-b-lt-INFINITY c =
    let p = both c.args.x _ (infinite c.args.x (to_bits binary64 c.args.x)
    (own c.args.x c.well_formed.0.1) (subst T (sym c.if-x-2.true) tt) (omega arith)) in
    record { value = p.0; correctly_rounded = p.1 }

pub returns-else-x-2 : goal.returns-else-x-2
unfolding of_bits
returns-else-x-2 c =
    let p = both c.args.x _ (neither c.args.x (subst (λ (t : Bool). T (not t)) (sym c.if-x.false) tt)
    (subst (λ (t : Bool). T (not t)) (sym c.if-x-2.false) tt)) in
    record { value = p.0; correctly_rounded = p.1 }
