-- All accesses of a key, in the order of their points, and what is known of each.
use Rattle.std.specs.Prelude.{◌≡◌, ◌⊎◌, ◌↔◌, ◌<◌, ℕ, Bool, true, IsTrue, List, Some, is_some, length}
use Rattle.std.specs.List.{AllPairs, Contains}
use Rattle.cc_program.specs.declared.expr.Place.{Place}
use Rattle.cc_program.specs.declared.func.Func.{Func}
use Rattle.cc_program.specs.declared.program.Program.{Program}
use Rattle.cc_slots_accesses.specs.declared.access.Access.{Access}
use Rattle.cc_slots_accesses.specs.Accesses.{AccessesAt, MayName, NamesByForm}
use Rattle.cc_slots_accesses.specs.Known.{is_volatile_in, may_be_on}
use Rattle.cc_slots_accesses.specs.Outside.{MayBeOutside}
use Rattle.cc_slots_accesses.specs.Puts.{of_number}
use Rattle.cc_state_points.specs.CcStateFacts.declared.facts.Facts.{Facts}
use Rattle.cc_state_points.specs.CcStateFacts.declared.facts.Key.{Key}
use Rattle.cc_state_points.specs.CcStateFacts.Facts.{fact_at, levels_of, mark_of}
use Rattle.cc_state_points.specs.CcStateKeys.Keys.{key_number, keys_of}
use Rattle.cc_state_points.specs.CcStateOperators.Domains.{Domain}
use Rattle.cc_state_points.specs.CcStateReads.Reads.{registers_at}
use Rattle.cc_state_points.specs.CcSyntax.Programs.{place_type}

module _ {I : Type 0} (d : Domain I) (p : Program) (facts : Facts I) where
  module _ (k : Key) where
    -- a place names the key by its form, or, where its point is reached, through a pointer
    abbrev pub Names : ℕ → ℕ → Func → Place → Type 0
    Names n id f a = NamesByForm p id f a k ⊎ MayName p d facts n id f a k

    -- an access of the key at a point
    pub record IsAccessAt (n : ℕ) (writes : Bool) (it : Access) : Type 0 where
      pub place : Place
      pub at : AccessesAt p n writes place
      pub names : Names n at.id at.func place
      pub volatile : it.is_volatile ≡ is_volatile_in (place_type p at.func.locals place)
      pub outside : IsTrue it.may_be_outside ↔ ((is_some (fact_at facts n) ≡ true) × ((array : Key) × MayBeOutside d p at.id at.func (registers_at facts at.func n) place array))
      pub reached : it.is_reached ≡ is_some (fact_at facts n)
      pub on : it.may_be_on ≡ may_be_on (fact_at facts n)
      pub by_handler : it.by_handler ≡ mark_of facts.by_handler at.id
      pub levels : it.levels ≡ levels_of facts.levels at.id
      pub from : it.from ≡ levels_of facts.from at.id

    abbrev pub IsAccessOf : Access → Type 0
    IsAccessOf it = IsAccessAt it.point it.writes it

    abbrev pub IsListed : List Access → ℕ → Bool → Type 0
    IsListed accesses n writes = (it : Access) × Contains accesses it × (it.point ≡ n) × (it.writes ≡ writes)

    -- each access of the key at one of the first points is there once, and no other
    pub record AreAccessesBelow (count : ℕ) (accesses : List Access) : Type 0 where
      pub each : (it : Access) → Contains accesses it → IsAccessOf it
      pub all : (n : ℕ) (writes : Bool) (a : Place) (at : AccessesAt p n writes a) → n < count → Names n at.id at.func a → IsListed accesses n writes
      pub below : (it : Access) → Contains accesses it → it.point < count
      pub ascend : AllPairs (λ x y. x.point < y.point) accesses

    -- and at all points
    pub record AreAccessesOf (accesses : List Access) : Type 0 where
      pub each : (it : Access) → Contains accesses it → IsAccessOf it
      pub all : (n : ℕ) (writes : Bool) (a : Place) (at : AccessesAt p n writes a) → Names n at.id at.func a → IsListed accesses n writes
      pub ascend : AllPairs (λ x y. x.point < y.point) accesses

  -- a list for each key, by its number
  pub record AreListsBelow (count : ℕ) (lists : List (List Access)) : Type 0 where
    pub length_is : length lists ≡ length (keys_of p)
    pub each : (k : Key) (number : ℕ) → key_number p k ≡ Some number → AreAccessesBelow k count (of_number lists number)

  pub record AreLists (lists : List (List Access)) : Type 0 where
    pub length_is : length lists ≡ length (keys_of p)
    pub each : (k : Key) (number : ℕ) → key_number p k ≡ Some number → AreAccessesOf k (of_number lists number)
