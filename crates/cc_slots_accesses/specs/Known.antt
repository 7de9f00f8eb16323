-- What is known of an access where it stands.
use Rattle.std.specs.Prelude.{◌≡◌, ◌↔◌, ℕ, Bool, true, false, IsTrue, Option, Some, None, is_some}
use Rattle.cc_program.specs.declared.expr.Place.{Place}
use Rattle.cc_slots_accesses.specs.declared.access.Access.{Access}
use Rattle.cc_slots_accesses.specs.Outside.{MayBeOutsideIn}
use Rattle.cc_rules_flows.specs.CcStateFacts.declared.facts.Facts.{Facts}
use Rattle.cc_rules_flows.specs.CcStateFacts.declared.facts.Key.{Key}
use Rattle.cc_rules_flows.specs.CcStateFacts.declared.facts.PointFact.{PointFact}
use Rattle.cc_rules_flows.specs.CcStateFacts.Facts.{levels_of, mark_of}
use Rattle.cc_rules_flows.specs.CcStateOperators.Domains.{Domain}
use Rattle.cc_rules_flows.specs.CcStateValues.declared.context.Context.{Context}
use Rattle.cc_rules_flows.specs.CcSyntax.Programs.{place_type}
use Rattle.cc_rules_flows.specs.CcSyntax.Values.{PlaceType, DevicePlace, ObjectPlace, FunctionPlace}

abbrev pub is_volatile_place : PlaceType → Bool
is_volatile_place (DevicePlace constant t) = true
is_volatile_place (ObjectPlace constant volatile t) = volatile
is_volatile_place (FunctionPlace sig) = false

abbrev pub is_volatile_in : Option PlaceType → Bool
is_volatile_in None = false
is_volatile_in (Some a) = is_volatile_place a

-- whether the flag may be on at a point; it is nothing at one that is not reached
abbrev pub may_be_on : {I : Type 0} → Option (PointFact I) → Bool
may_be_on None = false
may_be_on (Some fact) = fact.on

module _ {I : Type 0} (d : Domain I) (c : Context I) (facts : Facts I) (fact : Option (PointFact I)) where
  -- of an access to a place, from a function and with what is known at its point
  pub record IsKnownAccess (point : ℕ) (writes : Bool) (a : Place) (it : Access) : Type 0 where
    pub stands : it.point ≡ point
    pub kind : it.writes ≡ writes
    pub volatile : it.is_volatile ≡ is_volatile_in (place_type c.program.now c.func.now.locals a)
    pub outside : IsTrue it.may_be_outside ↔ ((is_some fact ≡ true) × ((k : Key) × MayBeOutsideIn d c a k))
    pub reached : it.is_reached ≡ is_some fact
    pub on : it.may_be_on ≡ may_be_on fact
    pub by_handler : it.by_handler ≡ mark_of facts.by_handler c.id
    pub levels : it.levels ≡ levels_of facts.levels c.id
    pub from : it.from ≡ levels_of facts.from c.id
