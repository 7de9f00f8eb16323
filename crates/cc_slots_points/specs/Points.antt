-- What is done for one point: where its statement accesses a place, that access is put behind those of the keys that the place names.
use Rattle.std.specs.Prelude.{◌≡◌, ℕ, Bool, true, false, List, Option, is_some}
use Rattle.cc_program.specs.declared.expr.Place.{Place}
use Rattle.cc_program.specs.declared.func.Func.{Func}
use Rattle.cc_program.specs.declared.program.Program.{Program}
use Rattle.cc_state_points.specs.CcRulesFlows.Acts.{Act, Sets, Reads, Writes, Calls, Saves, Turns, Restores, Tests, Chooses, Returns, Passes}
use Rattle.cc_slots_accesses.specs.declared.access.Access.{Access}
use Rattle.cc_slots_accesses.specs.Accesses.{AccessesAt}
use Rattle.cc_slots_accesses.specs.Visits.{IsVisit}
use Rattle.cc_state_points.specs.CcStateFacts.declared.facts.Facts.{Facts}
use Rattle.cc_state_points.specs.CcStateFacts.declared.facts.PointFact.{PointFact}
use Rattle.cc_state_points.specs.CcStateFacts.Facts.{fact_at}
use Rattle.cc_state_points.specs.CcStateOperators.Domains.{Domain}
use Rattle.cc_state_points.specs.CcStateReads.Reads.{registers_at}
use Rattle.cc_state_points.specs.CcStateValues.declared.context.Context.{Context}
use Rattle.cc_state_points.specs.CcStateValues.Contexts.{set_in}
use Rattle.cc_state_points.specs.CcStateValues.Typed.{IsPurePlace}

-- where expressions of a point's function are worked; its registers have sets where the point is reached
pub record IsContextOf {I : Type 0} (p : Program) (facts : Facts I) (n number : ℕ) (f : Func) (c : Context I) : Type 0 where
  pub program : c.program.now ≡ p
  pub id : c.id ≡ number
  pub func : c.func.now ≡ f
  pub sets : is_some (fact_at facts n) ≡ true → set_in c ≡ registers_at facts f n

-- the place that is accessed, where one is, has pure operands
abbrev pub HasPurePlace : Program → Func → Act → Type 0
HasPurePlace p f (Reads r a) = IsPurePlace p f a
HasPurePlace p f (Writes a e) = IsPurePlace p f a
HasPurePlace p f (Sets r e) = Unit {0}
HasPurePlace p f (Calls result g args) = Unit {0}
HasPurePlace p f (Saves result) = Unit {0}
HasPurePlace p f (Turns on) = Unit {0}
HasPurePlace p f (Restores e) = Unit {0}
HasPurePlace p f (Tests e these those) = Unit {0}
HasPurePlace p f (Chooses e cases) = Unit {0}
HasPurePlace p f (Returns e) = Unit {0}
HasPurePlace p f Passes = Unit {0}

module _ {I : Type 0} (d : Domain I) (c : Context I) (facts : Facts I) (fact : Option (PointFact I)) (n : ℕ) where
  -- for a statement that does this
  abbrev pub IsDone : Act → List (List Access) → List (List Access) → Type 0
  IsDone (Reads r a) old new = IsVisit d c facts fact n false a old new
  IsDone (Writes a e) old new = IsVisit d c facts fact n true a old new
  IsDone (Sets r e) old new = new ≡ old
  IsDone (Calls result g args) old new = new ≡ old
  IsDone (Saves result) old new = new ≡ old
  IsDone (Turns on) old new = new ≡ old
  IsDone (Restores e) old new = new ≡ old
  IsDone (Tests e these those) old new = new ≡ old
  IsDone (Chooses e cases) old new = new ≡ old
  IsDone (Returns e) old new = new ≡ old
  IsDone Passes old new = new ≡ old

-- for a point
pub data IsPassed {I : Type 0} (d : Domain I) (p : Program) (facts : Facts I) (n : ℕ) (old new : List (List Access)) : Type 0 where
  Quiet : ((writes : Bool) (a : Place) → AccessesAt p n writes a → ⊥) → new ≡ old → IsPassed d p facts n old new
  Visited : (writes : Bool) (a : Place) (at : AccessesAt p n writes a) (c : Context I) → IsContextOf p facts n at.id at.func c → IsVisit d c facts (fact_at facts n) n writes a old new → IsPassed d p facts n old new
