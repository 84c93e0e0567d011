-- Four turns, each through its section where that is used, are a pass through the first n sections.
use mathlib.Core.Path.{◌≡◌, ap}
use mathlib.Core.Bool.{Bool, cond}
use mathlib.Core.List.{List, [], ◌∷◌, map}
use Prim.Native.Nat.{ℕ, zero, suc}
use native.Mathlib.Omega.{arith}
use lib.Dec.{ltb}
use lib.ListN.{length, get_or}
use lib.Ieee.{Float, Format}
use borrow.Author.Tests.{lt-ltb}
use Rattle.lists.proofs.Places.{four-places}
use Rattle.limits.specs.Limits.{max_sections}
use Rattle.cascade_theory.specs.Section.{SectionRecord, section_out, section_next}
use Rattle.cascade_theory.specs.Parts.{sections_out, sections_next}

-- what a turn makes of a sample and of its section
pub record Turned (f : Format) (used : Bool) (s : SectionRecord) (x y : Float) (t : SectionRecord) : Type 0 where
  pub out : y ≡ cond used (section_out f s x) x
  pub next : t ≡ cond used (section_next f s x) s

pub turned : (f : Format) {used : Bool} {s t : SectionRecord} {x y : Float} → (y ≡ cond used (section_out f s x) x) × (t ≡ cond used (section_next f s x) s)
    → Turned f used s x y t
turned f p = record { out = p.0; next = p.1 }

passed : (f : Format) (a b c d a' b' c' d' : SectionRecord) (n : ℕ) (x y₀ y₁ y₂ y₃ : Float) → Turned f (ltb 0 n) a x y₀ a' → Turned f (ltb 1 n) b y₀ y₁ b'
    → Turned f (ltb 2 n) c y₁ y₂ c'
    → Turned f (ltb 3 n) d y₂ y₃ d' → (y₃ ≡ sections_out f n (a ∷ b ∷ c ∷ d ∷ []) x) × (a' ∷ b' ∷ c' ∷ d' ∷ [] ≡ sections_next f n (a ∷ b ∷ c ∷ d ∷ []) x)
passed f a b c d a' b' c' d' zero x y₀ y₁ y₂ y₃ p q r s = (rw (s.out, r.out, q.out, p.out), rw (s.next, r.next, q.next, p.next))
passed f a b c d a' b' c' d' (suc zero) x y₀ y₁ y₂ y₃ p q r s = (rw (s.out, r.out, q.out, p.out), rw (s.next, r.next, q.next, p.next))
passed f a b c d a' b' c' d' (suc (suc zero)) x y₀ y₁ y₂ y₃ p q r s = (rw (s.out, r.out, q.out, p.out), rw (s.next, r.next, q.next, p.next, p.out))
passed f a b c d a' b' c' d' (suc (suc (suc zero))) x y₀ y₁ y₂ y₃ p q
    r s = (rw (s.out, r.out, q.out, p.out), rw (s.next, r.next, q.next, p.next, q.out, p.out))
passed f a b c d a' b' c' d' (suc (suc (suc (suc zero)))) x y₀ y₁ y₂ y₃ p q
    r s = (rw (s.out, r.out, q.out, p.out), rw (s.next, r.next, q.next, p.next, r.out, q.out, p.out))
passed f a b c d a' b' c' d' (suc (suc (suc (suc (suc n))))) x y₀ y₁ y₂ y₃ p q r s =
    let t₀ = lt-ltb 0 (suc (suc (suc (suc (suc n))))) (omega arith) in
    let t₁ = lt-ltb 1 (suc (suc (suc (suc (suc n))))) (omega arith) in
    let t₂ = lt-ltb 2 (suc (suc (suc (suc (suc n))))) (omega arith) in
    let t₃ = lt-ltb 3 (suc (suc (suc (suc (suc n))))) (omega arith) in
    (rw (s.out, t₃, r.out, t₂, q.out, t₁, p.out, t₀), rw (s.next, t₃, r.next, t₂, q.next, t₁, p.next, t₀, r.out, t₂, q.out, t₁, p.out, t₀))

-- whatever record the code has for a section
pub four-turns : (f : Format) {A : Type 0} (view : A → SectionRecord) (ss : List A) (u : A) (n : ℕ) (x : Float) {y₀ y₁ y₂ y₃ : Float} {a b c d : A} → length ss
    ≡ max_sections
    → Turned f (ltb 0 n) (view (get_or ss 0 u)) x y₀ (view a) → Turned f (ltb 1 n) (view (get_or ss 1 u)) y₀ y₁ (view b)
    → Turned f (ltb 2 n) (view (get_or ss 2 u)) y₁ y₂ (view c)
    → Turned f (ltb 3 n) (view (get_or ss 3 u)) y₂ y₃ (view d)
    → (y₃ ≡ sections_out f n (map view ss) x) × (map view (a ∷ b ∷ c ∷ d ∷ []) ≡ sections_next f n (map view ss) x)
four-turns f view ss u n x {y₀} {y₁} {y₂} {y₃} {a} {b} {c} {d} l p q r s =
    rw (← ap (map view) (four-places ss u l)) (passed f _ _ _ _ (view a) (view b) (view c) (view d) n x y₀ y₁ y₂ y₃ p q r s)
