-- What putting an access behind others does: it is known what is known of it, and it stands behind those of the keys that it names alone.
use Rattle.std.specs.Prelude.{ℕ, Bool, List, Option, is_some}
use Rattle.cc_program.specs.declared.expr.Place.{Place}
use Rattle.cc_slots_accesses.specs.declared.access.Access.{Access}
use Rattle.cc_slots_accesses.specs.Known.{IsKnownAccess}
use Rattle.cc_slots_accesses.specs.Named.{AreKeysIn}
use Rattle.cc_slots_accesses.specs.Puts.{IsPut}
use Rattle.cc_rules_flows.specs.CcStateFacts.declared.facts.Facts.{Facts}
use Rattle.cc_rules_flows.specs.CcStateFacts.declared.facts.Key.{Key}
use Rattle.cc_rules_flows.specs.CcStateFacts.declared.facts.PointFact.{PointFact}
use Rattle.cc_rules_flows.specs.CcStateOperators.Domains.{Domain}
use Rattle.cc_rules_flows.specs.CcStateValues.declared.context.Context.{Context}

pub record IsVisit {I : Type 0} (d : Domain I) (c : Context I) (facts : Facts I) (fact : Option (PointFact I)) (point : ℕ) (writes : Bool) (a : Place) (old new : List (List Access)) : Type 0 where
  pub access : Access
  pub named : List Key
  pub is_known : IsKnownAccess d c facts fact point writes a access
  pub are_keys : AreKeysIn d c (is_some fact) a named
  pub is_put : IsPut c.program.now named access old new
