-- The keys that the place of an access names: by its form, or, where a run may come there, through a pointer.
use Rattle.std.specs.Prelude.{◌≡◌, ◌⊎◌, ◌↔◌, Bool, true, List}
use Rattle.std.specs.List.{Contains}
use Rattle.cc_program.specs.declared.expr.Place.{Place}
use Rattle.cc_slots_accesses.specs.Accesses.{NamesByForm}
use Rattle.cc_rules_flows.specs.CcStateFacts.declared.facts.Key.{Key}
use Rattle.cc_rules_flows.specs.CcStateOperators.Domains.{Domain}
use Rattle.cc_rules_flows.specs.CcStateReads.Contexts.{AreNamedIn}
use Rattle.cc_rules_flows.specs.CcStateValues.declared.context.Context.{Context}

module _ {I : Type 0} (d : Domain I) (c : Context I) where
  abbrev pub NamesThere : Place → Key → Type 0
  NamesThere a k = (named : List Key) × AreNamedIn d c a named × Contains named k

  abbrev pub NamesIn : Bool → Place → Key → Type 0
  NamesIn is_reached a k = NamesByForm c.program.now c.id c.func.now a k ⊎ ((is_reached ≡ true) × NamesThere a k)

  -- all keys that it names
  abbrev pub AreKeysIn : Bool → Place → List Key → Type 0
  AreKeysIn is_reached a keys = (k : Key) → (Contains keys k ↔ NamesIn is_reached a k)
