-- What is told of a point by what is known there, and what it has then.
use Rattle.std.proofs.Common.{◌≡◌, ℕ, true, true≢false, Option, Some, None, refl, sym, subst}
use Rattle.std.specs.Prelude.{IfSome, is_some, option_and_then}
use Rattle.cc_rules_asked.specs.CcPlaces.declared.abs.Abs.{Abs}
use Rattle.cc_rules_asked.specs.CcRulesNeeds.declared.needs.Part.{Part}
use Rattle.cc_rules_asked.specs.CcRulesNeeds.declared.needs.Slot.{Slot}
use Rattle.cc_rules_asked.specs.CcRulesNeeds.declared.needs.Slot.TheVariants.{Whole, HandlerReads, HandlerWrites, ReadLevels, WriteLevels, Result, ByMain, ByHandler, Levels, From, Flag, LocalAt, CellAt, Apart}
use Rattle.cc_rules_asked.specs.CcRulesNeeds.Points.{HasFlow, IsRaisedAt}
use Rattle.cc_rules_asked.specs.CcRulesNeeds.Raised.{MayGet, IsPut}
use Rattle.cc_rules_raised.specs.Slots.{MayRise, IsRisenBy, IsRisen}
use Rattle.cc_rules_asked.specs.CcStateFacts.declared.facts.Facts.{Facts}
use Rattle.cc_rules_asked.specs.CcStateFacts.declared.facts.PointFact.{PointFact}
use Rattle.cc_rules_asked.specs.CcStateFacts.Facts.{fact_at, cell_of, cell_at}
use Rattle.cc_rules_asked.specs.CcStateOperators.Domains.{Domain}

pub if_some : {A : Type 0} (o : Option A) (P : A → Type 0) → ((x : A) → o ≡ Some x → P x) → IfSome o P
if_some None P h = tt
if_some (Some x) P h = h x refl

pub some_there : {A : Type 0} (o : Option A) → is_some o ≡ true → (x : A) × (o ≡ Some x)
some_there None h = absurd (true≢false (sym h))
some_there (Some x) h = (x, refl)

-- a fact that has a cell
pub record HasCell {I : Type 0} (f : Facts I) (n j : ℕ) : Type 0 where
  pub fact : PointFact I
  pub known : fact_at f n ≡ Some fact
  pub set : Abs I
  pub cell : cell_of fact j ≡ Some set

pub cell_known : {I : Type 0} (f : Facts I) (n j : ℕ) → is_some (cell_at f n j) ≡ true → HasCell f n j
cell_known {I} f n j h = by (fact_at f n) refl h
  where
    by : (o : Option (PointFact I)) → fact_at f n ≡ o → is_some (option_and_then (λ (x : PointFact I). cell_of x j) o) ≡ true → HasCell f n j
    by None e k = absurd (true≢false (sym k))
    by (Some x) e k = let (y, at) = some_there (cell_of x j) k in record { fact = x; known = e; set = y; cell = at }

module _ {I : Type 0} (d : Domain I) (f : Facts I) (n : ℕ) (change : PointFact I → PointFact I) (told : PointFact I) (is : (fact : PointFact I) → fact_at f n ≡ Some fact → told ≡ change fact) where
  pub told_rose : (g : Facts I) (fact : PointFact I) → fact_at f n ≡ Some fact → IsRaisedAt d.below f n told g → IsRisenBy d.below change n f g
  told_rose g fact e raised = record { fact = fact; known = e; risen = subst (λ (x : PointFact I). IsRaisedAt d.below f n x g) (is fact e) raised }

  pub told_had : (fact : PointFact I) → fact_at f n ≡ Some fact → HasFlow d.below told (fact_at f n) → HasFlow d.below (change fact) (fact_at f n)
  told_had fact e h = subst (λ (x : PointFact I). HasFlow d.below x (fact_at f n)) (is fact e) h

-- ---- slots of keys and functions

pub other_may : {I : Type 0} (slot : Slot) (part : Part I) (f : Facts I) → ((n j : ℕ) → slot ≡ CellAt n j → ⊥) → ((n r j : ℕ) → slot ≡ Apart n r j → ⊥) → MayRise slot part f → MayGet slot part f
other_may (CellAt n j) part f a b h = absurd (a n j refl)
other_may (Apart n r j) part f a b h = absurd (b n r j refl)
other_may (Flag n) part f a b h = h
other_may (LocalAt n r) part f a b h = h
other_may (Whole k) part f a b h = h
other_may (Result k) part f a b h = h
other_may (HandlerReads k) part f a b h = h
other_may (HandlerWrites k) part f a b h = h
other_may (ReadLevels k) part f a b h = h
other_may (WriteLevels k) part f a b h = h
other_may (ByMain k) part f a b h = h
other_may (ByHandler k) part f a b h = h
other_may (Levels k) part f a b h = h
other_may (From k) part f a b h = h

pub other_risen : {I : Type 0} (below : I → I → Type 0) (slot : Slot) (part : Part I) (f g : Facts I) → ((n j : ℕ) → slot ≡ CellAt n j → ⊥) → ((n r j : ℕ) → slot ≡ Apart n r j → ⊥) → IsPut below slot part f g → IsRisen below slot part f g
other_risen below (CellAt n j) part f g a b h = absurd (a n j refl)
other_risen below (Apart n r j) part f g a b h = absurd (b n r j refl)
other_risen below (Flag n) part f g a b h = h
other_risen below (LocalAt n r) part f g a b h = h
other_risen below (Whole k) part f g a b h = h
other_risen below (Result k) part f g a b h = h
other_risen below (HandlerReads k) part f g a b h = h
other_risen below (HandlerWrites k) part f g a b h = h
other_risen below (ReadLevels k) part f g a b h = h
other_risen below (WriteLevels k) part f g a b h = h
other_risen below (ByMain k) part f g a b h = h
other_risen below (ByHandler k) part f g a b h = h
other_risen below (Levels k) part f g a b h = h
other_risen below (From k) part f g a b h = h
