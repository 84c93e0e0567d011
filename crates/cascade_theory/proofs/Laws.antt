-- The check, and what a step returns.
use mathlib.Core.Path.{◌≡◌, ap}
use mathlib.Core.Bool.{true}
use lib.Ieee.{Float, Format}
use Rattle.cascade_theory.specs.Cascade.{CascadeRecord, check_cascade, moved, mark, next}

-- a sample changes nothing that the check reads
pub check-next : (f : Format) (c : CascadeRecord) (x : Float) → check_cascade c ≡ true → check_cascade (next f c x) ≡ true
unfolding check_cascade next moved
check-next f c x h = h

-- the flag of the record after a sample is the mark of its answer
pub mark-next : (f : Format) (c : CascadeRecord) (x : Float) {c' : CascadeRecord} → c' ≡ next f c x → c'.clouded ≡ mark f c x
unfolding next
mark-next f c x e = ap (λ (k : CascadeRecord). k.clouded) e
