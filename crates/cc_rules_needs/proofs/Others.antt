-- What is put into a slot is there, and every other slot has what it had.
use Rattle.std.proofs.Common.{arith, ◌≡◌, ◌⊎◌, inl, inr, ◌<◌, ℕ, zero, suc, Bool, false, List, [], ◌∷◌, length, Option, Some, None, slice_get, slice_set, refl, ap}
use Rattle.std.specs.Prelude.{unwrap_or}
use Rattle.cc_places.specs.declared.abs.Abs.{Abs}
use Rattle.cc_rules_needs.specs.Needs.{Slot, Whole, HandlerReads, HandlerWrites, ReadLevels, WriteLevels, Result, ByMain, ByHandler, Levels, From, Part, Mark, LevelSet, Flags, Values, get, IsBelowPart}
use Rattle.cc_rules_needs.specs.Raised.{MayGet, put_values, put_mark, put_levels, put}
use Rattle.cc_rules_needs.proofs.Puts.{some_below}
use Rattle.cc_rules_needs.proofs.Through.{AreOthers}
use Rattle.cc_state_facts.specs.declared.facts.Facts.{Facts}

-- ---- an element of a list is another one

abbrev pub AtOrOther : {A : Type 0} → List A → ℕ → A → ℕ → Type 0
AtOrOther xs k y n = ((n ≡ k) × (slice_get (slice_set xs k y) n ≡ Some y)) ⊎ (slice_get (slice_set xs k y) n ≡ slice_get xs n)

later : {A : Type 0} (x : A) (xs : List A) (k : ℕ) (y : A) (n : ℕ) → AtOrOther xs k y n → AtOrOther (x ∷ xs) (suc k) y (suc n)
later x xs k y n (inl e) = inl (ap suc e.0, e.1)
later x xs k y n (inr e) = inr e

pub set_at : {A : Type 0} (xs : List A) (k : ℕ) (y : A) (n : ℕ) → k < length xs → AtOrOther xs k y n
set_at [] k y n l = absurd (omega (arith, l))
set_at (x ∷ xs) zero y zero l = inl (refl, refl)
set_at (x ∷ xs) zero y (suc n) l = inr refl
set_at (x ∷ xs) (suc k) y zero l = inr refl
set_at (x ∷ xs) (suc k) y (suc n) l = later x xs k y n (set_at xs k y n (omega (arith, l)))

pub set_there : {A : Type 0} (xs : List A) (k : ℕ) (y : A) → k < length xs → slice_get (slice_set xs k y) k ≡ Some y
set_there [] k y l = absurd (omega (arith, l))
set_there (x ∷ xs) zero y l = refl
set_there (x ∷ xs) (suc k) y l = set_there xs k y (omega (arith, l))

-- by what is made of the element that is there
made_at : {A B : Type 0} (make : Option A → B) (xs : List A) (k : ℕ) (y : A) (n : ℕ) (slot : ℕ → Slot) → AtOrOther xs k y n →
    ((slot n ≡ slot k) × (make (slice_get (slice_set xs k y) n) ≡ make (Some y))) ⊎ (make (slice_get (slice_set xs k y) n) ≡ make (slice_get xs n))
made_at make xs k y n slot (inl e) = inl (ap slot e.0, ap make e.1)
made_at make xs k y n slot (inr e) = inr (ap make e)

module _ {I : Type 0} (below : I → I → Type 0) where
  abbrev values_made : Option (Abs I) → Part I
  values_made x = Values x

  abbrev mark_made : Option Bool → Part I
  mark_made x = Mark (unwrap_or x false)

  abbrev levels_made : Option ℕ → Part I
  levels_made x = LevelSet (unwrap_or x 0)

  -- ---- values

  values_others : (slot : Slot) (y z : Abs I) (f : Facts I) → MayGet slot (Values (Some y)) f → AreOthers slot (Values (Some z)) f (put_values slot z f) × (get slot (put_values slot z f) ≡ Values (Some z))
  values_others (Whole k) y z f m = (at, ap values_made (set_there f.whole k z (some_below f.whole k m.0 m.1)))
    where
      at : AreOthers (Whole k) (Values (Some z)) f (put_values (Whole k) z f)
      at (Whole n) = made_at values_made f.whole k z n Whole (set_at f.whole k z n (some_below f.whole k m.0 m.1))
      at _ = inr refl
  values_others (Result k) y z f m = (at, ap values_made (set_there f.results k z (some_below f.results k m.0 m.1)))
    where
      at : AreOthers (Result k) (Values (Some z)) f (put_values (Result k) z f)
      at (Result n) = made_at values_made f.results k z n Result (set_at f.results k z n (some_below f.results k m.0 m.1))
      at _ = inr refl
  values_others _ y z f m = absurd m

  -- ---- marks

  marks_others : (slot : Slot) (a b : Bool) (f : Facts I) → MayGet slot (Mark a) f → AreOthers slot (Mark b) f (put_mark slot b f) × (get slot (put_mark slot b f) ≡ Mark b)
  marks_others (HandlerReads k) a b f m = (at, ap mark_made (set_there f.handler_reads k b m))
    where
      at : AreOthers (HandlerReads k) (Mark b) f (put_mark (HandlerReads k) b f)
      at (HandlerReads n) = made_at mark_made f.handler_reads k b n HandlerReads (set_at f.handler_reads k b n m)
      at _ = inr refl
  marks_others (HandlerWrites k) a b f m = (at, ap mark_made (set_there f.handler_writes k b m))
    where
      at : AreOthers (HandlerWrites k) (Mark b) f (put_mark (HandlerWrites k) b f)
      at (HandlerWrites n) = made_at mark_made f.handler_writes k b n HandlerWrites (set_at f.handler_writes k b n m)
      at _ = inr refl
  marks_others (ByMain k) a b f m = (at, ap mark_made (set_there f.by_main k b m))
    where
      at : AreOthers (ByMain k) (Mark b) f (put_mark (ByMain k) b f)
      at (ByMain n) = made_at mark_made f.by_main k b n ByMain (set_at f.by_main k b n m)
      at _ = inr refl
  marks_others (ByHandler k) a b f m = (at, ap mark_made (set_there f.by_handler k b m))
    where
      at : AreOthers (ByHandler k) (Mark b) f (put_mark (ByHandler k) b f)
      at (ByHandler n) = made_at mark_made f.by_handler k b n ByHandler (set_at f.by_handler k b n m)
      at _ = inr refl
  marks_others _ a b f m = absurd m

  -- ---- levels

  levels_others : (slot : Slot) (x z : ℕ) (f : Facts I) → MayGet slot (LevelSet x) f → AreOthers slot (LevelSet z) f (put_levels slot z f) × (get slot (put_levels slot z f) ≡ LevelSet z)
  levels_others (ReadLevels k) x z f m = (at, ap levels_made (set_there f.read_levels k z m))
    where
      at : AreOthers (ReadLevels k) (LevelSet z) f (put_levels (ReadLevels k) z f)
      at (ReadLevels n) = made_at levels_made f.read_levels k z n ReadLevels (set_at f.read_levels k z n m)
      at _ = inr refl
  levels_others (WriteLevels k) x z f m = (at, ap levels_made (set_there f.write_levels k z m))
    where
      at : AreOthers (WriteLevels k) (LevelSet z) f (put_levels (WriteLevels k) z f)
      at (WriteLevels n) = made_at levels_made f.write_levels k z n WriteLevels (set_at f.write_levels k z n m)
      at _ = inr refl
  levels_others (Levels k) x z f m = (at, ap levels_made (set_there f.levels k z m))
    where
      at : AreOthers (Levels k) (LevelSet z) f (put_levels (Levels k) z f)
      at (Levels n) = made_at levels_made f.levels k z n Levels (set_at f.levels k z n m)
      at _ = inr refl
  levels_others (From k) x z f m = (at, ap levels_made (set_there f.from k z m))
    where
      at : AreOthers (From k) (LevelSet z) f (put_levels (From k) z f)
      at (From n) = made_at levels_made f.from k z n From (set_at f.from k z n m)
      at _ = inr refl
  levels_others _ x z f m = absurd m

  -- ---- any part

  nothing_put : (slot : Slot) (f : Facts I) → MayGet slot (Values None) f → ⊥
  nothing_put (Whole k) f m = m
  nothing_put _ f m = m

  no_flags : (slot : Slot) (off on : Bool) (f : Facts I) → MayGet slot (Flags off on) f → ⊥
  no_flags (Whole k) off on f m = m
  no_flags _ off on f m = m

  pub put_others : (slot : Slot) (more part : Part I) (f : Facts I) → MayGet slot more f → IsBelowPart below more part → AreOthers slot part f (put slot part f) × (get slot (put slot part f) ≡ part)
  put_others slot (Mark a) (Mark b) f m r = marks_others slot a b f m
  put_others slot (Mark a) _ f m r = absurd r
  put_others slot (LevelSet x) (LevelSet z) f m r = levels_others slot x z f m
  put_others slot (LevelSet x) _ f m r = absurd r
  put_others slot (Values (Some y)) (Values (Some z)) f m r = values_others slot y z f m
  put_others slot (Values (Some y)) _ f m r = absurd r
  put_others slot (Values None) part f m r = absurd (nothing_put slot f m)
  put_others slot (Flags off on) part f m r = absurd (no_flags slot off on f m)
