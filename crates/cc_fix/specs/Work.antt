-- What the solver keeps: each constraint that is not met is pending, each that is pending is listed, and the facts are below each
-- solution.
use Rattle.std.specs.Prelude.{ℕ, ◌<◌, ◌≡◌, ◌⊎◌, Bool, true, false, List, [], ◌∷◌, ◌++◌, length, Some, slice_get}
use Rattle.std.specs.List.{Contains}
use Rattle.cc_fix.specs.declared.work.Work.{Work}
use Rattle.cc_lattice.specs.Systems.{MeetsAll}

-- what is listed, in the order in which it is put; the next one is the last
abbrev pub listed : Work → List ℕ
listed work = work.later.items ++ work.first.items

-- of each constraint it is told whether it is pending
abbrev pub IsPending : List Bool → ℕ → Type 0
IsPending pending j = slice_get pending j ≡ Some true

-- so many constraints, where each one that the facts do not meet is pending, and each that is pending is listed
pub record IsWork {F : Type 0} (count : ℕ) (asks : ℕ → F → F → Type 0) (f : F) (pending : List Bool) (list : List ℕ) : Type 0 where
  pub counts : length pending ≡ count
  pub known : (j : ℕ) → Contains list j → j < count
  pub lists : (j : ℕ) → IsPending pending j → Contains list j
  pub met : (j : ℕ) → j < count → asks j f f ⊎ IsPending pending j

-- all of so many are pending and listed
pub record AreAll (count : ℕ) (pending : List Bool) (list : List ℕ) : Type 0 where
  pub counts : length pending ≡ count
  pub known : (j : ℕ) → Contains list j → j < count
  pub lists : (j : ℕ) → IsPending pending j → Contains list j
  pub all : (j : ℕ) → j < count → IsPending pending j

-- some more become pending, and are listed where they were not
pub record ArePut (more : List ℕ) (old : List Bool) (was : List ℕ) (new : List Bool) (is : List ℕ) : Type 0 where
  pub count : length new ≡ length old
  pub kept : (j : ℕ) → IsPending old j → IsPending new j
  pub put : (j : ℕ) → Contains more j → IsPending new j
  pub stays : (j : ℕ) → Contains was j → Contains is j
  pub lists : (j : ℕ) → IsPending new j → IsPending old j ⊎ Contains is j
  pub known : (j : ℕ) → Contains is j → Contains was j ⊎ Contains more j

-- one more is listed
pub record IsPushed (index : ℕ) (old new : Work) : Type 0 where
  pub pending : new.pending.items ≡ old.pending.items
  pub stays : (j : ℕ) → Contains (listed old) j → Contains (listed new) j
  pub there : Contains (listed new) index
  pub known : (j : ℕ) → Contains (listed new) j → Contains (listed old) j ⊎ (index ≡ j)

-- the last one is no longer listed
pub record IsTaken (index : ℕ) (old new : Work) : Type 0 where
  pub pending : new.pending.items ≡ old.pending.items
  pub list : listed old ≡ listed new ++ index ∷ []

-- a constraint that raised facts is listed again itself, unless it settles
abbrev pub itself_unless : Bool → ℕ → List ℕ
itself_unless true i = []
itself_unless false i = i ∷ []

-- facts below each solution
abbrev pub IsBelowSolutions : {F : Type 0} → (F → Type 0) → (F → F → Type 0) → ℕ → (ℕ → F → F → Type 0) → F → Type 0
IsBelowSolutions {F} fits below count asks f = (g : F) → fits g → MeetsAll count asks g → below f g

-- the room falls, or it stays and so does how much is listed
abbrev pub Goes : ℕ → ℕ → ℕ → ℕ → Type 0
Goes room n room' n' = (room' < room) ⊎ ((room' ≡ room) × (n' ≡ n))
