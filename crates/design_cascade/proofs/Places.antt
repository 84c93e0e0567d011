-- Sections put into their places one after the other, whatever type the code has for a section.
use mathlib.Core.Path.{◌≡◌, refl, sym, ap, ap₂, ◌∙◌}
use mathlib.Core.List.{List, [], ◌∷◌, ◌++◌, map, append_assoc, map-append}
use Prim.Native.Nat.{ℕ, zero, suc, ◌+◌, ◌*◌, ◌<◌, ◌≤◌}
use native.Mathlib.Numerals.{add-one}
use native.Mathlib.Omega.{arith}
use lib.ListN.{length, set, take, drop, length-append}
use lib.Seq.{take_all, take-suc-set}
use Rattle.std.proofs.lemmas.List.{drop-map}
use lib.Ieee.{Float}
use Rattle.limits.specs.Limits.{max_sections}
use Rattle.cascade_theory.specs.Section.{SectionRecord, blank_section}
use Rattle.lists.specs.Lists.{up_to}
use Rattle.lists.proofs.Places.{up_to-length, map-set}
use Rattle.design_cascade.specs.Design.{padded}
use Rattle.design_cascade.specs.BandPass.{bp_up_to, bp_pair_of}

-- the next section goes to the first blank place
padded-next : (p : ℕ) (ss : List SectionRecord) (s : SectionRecord) → length ss < p → set (padded p ss) (length ss) s ≡ padded p (ss ++ s ∷ [])
unfolding padded
padded-next zero ss s h = absurd (omega arith)
padded-next (suc p) [] s h = refl
padded-next (suc p) (t ∷ ss) s h = ap (λ (l : List SectionRecord). t ∷ l) (padded-next p ss s (omega arith))

-- blank sections with others in the first places
padded-front : (p n : ℕ) (ss : List SectionRecord) → length ss ≡ n → n ≤ p → ss ++ drop n (padded p []) ≡ padded p ss
unfolding padded
padded-front p zero [] e h = refl
padded-front zero (suc n) ss e h = absurd (omega arith)
padded-front (suc p) (suc n) [] e h = absurd (omega arith)
padded-front p zero (s ∷ ss) e h = absurd (omega arith)
padded-front (suc p) (suc n) (s ∷ ss) e h = ap (λ (l : List SectionRecord). s ∷ l) (padded-front p n ss (omega arith) (omega arith))

pub place : {A : Type 0} (view : A → SectionRecord) (kept : List A) (p i : ℕ) (ss : List SectionRecord) (a : A) (s : SectionRecord)
    → map view kept ≡ padded p ss → i ≡ length ss → i < p → view a ≡ s → map view (set kept i a) ≡ padded p (ss ++ s ∷ [])
place view kept p i ss a s e n h v =
    map-set view kept i a
    ∙ ap (λ (l : List SectionRecord). set l i (view a)) e
    ∙ ap (λ (b : SectionRecord). set (padded p ss) i b) v
    ∙ ap (λ (k : ℕ). set (padded p ss) k s) n
    ∙ padded-next p ss s (omega (arith, n))

pub no-places : blank_section ∷ blank_section ∷ blank_section ∷ blank_section ∷ [] ≡ padded max_sections []
unfolding padded
no-places = refl

-- ---- one section a turn
module _ {A : Type 0} (view : A → SectionRecord) (g : ℕ → SectionRecord) where
  pub up_to-turn : (used : List A) (m : ℕ) (a : A) → map view (take m used) ≡ up_to g m → m < length used → view a ≡ g m
      → map view (take (m + 1) (set used m a)) ≡ up_to g (m + 1)
  unfolding up_to
  up_to-turn used m a e h v = rw (add-one m, take-suc-set used m a h, map-append view (take m used) (a ∷ []), e, v)

  -- behind the used ones the blank ones are left
  pub up_to-done : (used blanks : List A) (m n : ℕ) → map view (take m used) ≡ up_to g m → m ≡ n → length used ≤ m → map view blanks ≡ padded max_sections []
      → n ≤ max_sections
      → map view (used ++ drop n blanks) ≡ padded max_sections (up_to g n)
  up_to-done used blanks m n e all long b h =
      map-append view used (drop n blanks)
      ∙ ap₂ (λ (l r : List SectionRecord). l ++ r) (rw (take_all m used long, all) at e) (sym (drop-map view n blanks) ∙ ap (drop n) b)
      ∙ padded-front max_sections n (up_to g n) (up_to-length g n) h

-- ---- two sections a turn
module _ (n : ℕ) (bw w0 : Float) where
  pub band-length : (m : ℕ) → length (bp_up_to n bw w0 m) ≡ 2 * m
  unfolding bp_up_to
  band-length zero = refl
  band-length (suc m) = length-append (bp_up_to n bw w0 m) ((bp_pair_of n bw w0 m).bq1 ∷ (bp_pair_of n bw w0 m).bq2 ∷ [])
      ∙ ap (λ (k : ℕ). k + 2) (band-length m)
      ∙ (omega arith)

  pub band-none : blank_section ∷ blank_section ∷ blank_section ∷ blank_section ∷ [] ≡ padded max_sections (bp_up_to n bw w0 0)
  unfolding bp_up_to
  band-none = no-places

  pub band-turn : {A : Type 0} (view : A → SectionRecord) (kept : List A) (m : ℕ) (a b : A) → map view kept ≡ padded max_sections (bp_up_to n bw w0 m) → m < 2
      → view a ≡ (bp_pair_of n bw w0 m).bq1 → view b ≡ (bp_pair_of n bw w0 m).bq2 → map view (set (set kept (2 * m) a) (2 * m + 1) b)
      ≡ padded max_sections (bp_up_to n bw w0 (m + 1))
  band-turn view kept m a b e h u v =
      let xs = bp_up_to n bw w0 m in
      let p = bp_pair_of n bw w0 m in
      let one_more = place view kept max_sections (2 * m) xs a p.bq1 e (sym (band-length m)) (omega arith) u in
      let l : 2 * m + 1 ≡ length (xs ++ p.bq1 ∷ []) = omega (arith, length-append xs (p.bq1 ∷ []), band-length m) in
      rw (add-one m)
      (place view (set kept (2 * m) a) max_sections (2 * m + 1) (xs ++ p.bq1 ∷ []) b p.bq2 one_more l (omega arith) v
      ∙ ap (padded max_sections) (append_assoc xs (p.bq1 ∷ []) (p.bq2 ∷ []) ∙ more m))
    where
      more : (m : ℕ) → bp_up_to n bw w0 m ++ (bp_pair_of n bw w0 m).bq1 ∷ (bp_pair_of n bw w0 m).bq2 ∷ [] ≡ bp_up_to n bw w0 (suc m)
      more m = unfold bp_up_to in refl
