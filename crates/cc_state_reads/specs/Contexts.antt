-- The keys that a place names, and what a read gives, where the code has the sets of the registers of its function in their order.
use Rattle.std.specs.Prelude.{◌≡◌, ℕ, List, Some, option_and_then}
use Rattle.std.specs.List.{Contains}
use Rattle.cc_state_values.specs.CcPlaces.declared.abs.Abs.{Abs}
use Rattle.cc_program.specs.declared.expr.Expr.{Expr}
use Rattle.cc_program.specs.declared.expr.Expr.TheOpen as one
use Rattle.cc_program.specs.declared.expr.Place.{Place, out-Place}
use Rattle.cc_state_keys.specs.CcStateFacts.declared.facts.Facts.{Facts}
use Rattle.cc_state_keys.specs.CcStateFacts.declared.facts.Key.{Key}
use Rattle.cc_state_values.specs.CcStateOperators.Domains.{Domain}
use Rattle.cc_state_reads.specs.Named.{AreClasses}
use Rattle.cc_state_reads.specs.Reads.{AreNamed, IsByKeys, IsOfKind, IsRead, whole_of}
use Rattle.cc_state_values.specs.declared.context.Context.{Context}
use Rattle.cc_state_values.specs.Contexts.{set_in}
use Rattle.cc_state_keys.specs.CcSyntax.Programs.{place_type}
use Rattle.cc_state_keys.specs.CcSyntax.Values.{ValueType, read_from}

module _ {I : Type 0} (d : Domain I) (c : Context I) where
  abbrev pub AreClassesIn : Place → List Key → Type 0
  AreClassesIn a classes = AreClasses d c.program.now c.id c.func.now (set_in c) a classes

  -- of each place of this form
  abbrev pub AreClassesAs : one.Place-F Expr Place → List Key → Type 0
  AreClassesAs x classes = (a : Place) → out-Place a ≡ x → AreClassesIn a classes

  abbrev pub AreNamedIn : Place → List Key → Type 0
  AreNamedIn a keys = AreNamed d c.program.now c.id c.func.now (set_in c) a keys

  abbrev pub IsByKeysIn : Facts I → Place → Abs I → Type 0
  IsByKeysIn facts a y = IsByKeys d c.program.now c.id c.func.now (set_in c) facts a y

  abbrev pub IsReadIn : Facts I → ℕ → Place → Abs I → Type 0
  IsReadIn facts point a y = IsRead d c.program.now c.id c.func.now (set_in c) facts point a y

  -- each key that a place names has a whole-run set, which is of the kind of the place's type
  abbrev pub HaveKind : Facts I → Place → Type 0
  HaveKind facts a = (keys : List Key) (k : Key) (t : ValueType) → AreNamedIn a keys → Contains keys k → option_and_then read_from (place_type c.program.now c.func.now.locals a) ≡ Some t →
      (y : Abs I) × (whole_of c.program.now facts k ≡ Some y) × IsOfKind t y

-- an access to a place gives a scalar
abbrev pub ReadsScalar : {I : Type 0} → Context I → Place → Type 0
ReadsScalar c a = (t : ValueType) × (option_and_then read_from (place_type c.program.now c.func.now.locals a) ≡ Some t)
