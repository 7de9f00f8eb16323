-- What is known at a point of a program: abstract values, the keys that a place names, and what a read gives, with the sets that the facts
-- have there of the registers of the point's function.
use Rattle.std.specs.Prelude.{◌≡◌, ◌<◌, ◌^◌, ℕ, List, length, Option, Some, option_and_then, slice_get}
use Rattle.std.specs.List.{Contains}
use Rattle.cc_flow_sound.specs.CcFlow.declared.types.Point.{Point}
use Rattle.cc_flow_sound.specs.CcFlow.Points.{flow_of}
use Rattle.cc_state_reads.specs.CcPlaces.declared.abs.Abs.{Abs}
use Rattle.cc_program.specs.declared.expr.Expr.{Expr}
use Rattle.cc_program.specs.declared.expr.Place.{Place}
use Rattle.cc_program.specs.declared.func.Func.{Func}
use Rattle.cc_program.specs.declared.program.Program.{Program}
use Rattle.cc_state_reads.specs.CcStateFacts.declared.facts.Facts.{Facts}
use Rattle.cc_state_reads.specs.CcStateFacts.declared.facts.Key.{Key}
use Rattle.cc_state_reads.specs.CcStateOperators.Domains.{Domain}
use Rattle.cc_state_reads.specs.Reads.{AreNamed, IsOfKind, IsRead, registers_at, whole_of}
use Rattle.cc_state_reads.specs.CcStateValues.declared.context.Context.{Context}
use Rattle.cc_state_reads.specs.CcStateValues.Contexts.{set_in}
use Rattle.cc_state_reads.specs.CcStateValues.Typed.{IsPure, IsPurePlace, HaveSets}
use Rattle.cc_state_reads.specs.CcStateValues.Values.{IsVal}
use Rattle.cc_state_reads.specs.CcSyntax.Programs.{place_type}
use Rattle.cc_state_reads.specs.CcSyntax.Values.{ValueType, read_from}

-- what an access to a place gives is a scalar
abbrev pub GivesScalar : Program → Func → Place → Type 0
GivesScalar p f a = (t : ValueType) × (option_and_then read_from (place_type p f.locals a) ≡ Some t)

module _ (p : Program) (n : ℕ) where
  -- a point, and its function
  pub record IsPointOf (q : Point) (f : Func) : Type 0 where
    pub numbered : slice_get (flow_of p).points n ≡ Some q
    pub function : slice_get p.funcs q.func ≡ Some f

  abbrev pub HasFunction : Func → Type 0
  HasFunction f = (q : Point) × IsPointOf q f

  -- a pure expression of the function; a place, the operands in which are pure; and one that is read
  abbrev pub IsPureAt : Expr → Type 0
  IsPureAt e = (q : Point) × (f : Func) × IsPointOf q f × IsPure p f e

  abbrev pub IsPurePlaceAt : Place → Type 0
  IsPurePlaceAt a = (q : Point) × (f : Func) × IsPointOf q f × IsPurePlace p f a

  abbrev pub IsReadPlaceAt : Place → Type 0
  IsReadPlaceAt a = (q : Point) × (f : Func) × IsPointOf q f × IsPurePlace p f a × GivesScalar p f a

  -- the function has as many locals as ids name
  abbrev pub HasFewLocals : Type 0
  HasFewLocals = (q : Point) (f : Func) → IsPointOf q f → length f.locals < 2 ^ 32

-- each key that a place names has a whole-run set, which is of the kind of the place's type
abbrev pub HaveKinds : {I : Type 0} → Domain I → Facts I → Place → Program → ℕ → Func → (ℕ → Option (Abs I)) → Type 0
HaveKinds {I = I} d facts a p id f register = (keys : List Key) (k : Key) (t : ValueType) → AreNamed d p id f register a keys → Contains keys k → option_and_then read_from (place_type p f.locals a) ≡ Some t →
    (y : Abs I) × (whole_of p facts k ≡ Some y) × IsOfKind t y

module _ {I : Type 0} (d : Domain I) (p : Program) (facts : Facts I) (n : ℕ) where
  abbrev pub IsValueAt : Expr → Abs I → Type 0
  IsValueAt e y = (q : Point) × (f : Func) × IsPointOf p n q f × IsVal d p q.func f (registers_at facts f n) e y

  abbrev pub AreNamedAt : Place → List Key → Type 0
  AreNamedAt a keys = (q : Point) × (f : Func) × IsPointOf p n q f × AreNamed d p q.func f (registers_at facts f n) a keys

  abbrev pub IsReadAt : Place → Abs I → Type 0
  IsReadAt a y = (q : Point) × (f : Func) × IsPointOf p n q f × IsRead d p q.func f (registers_at facts f n) facts n a y

  -- the registers of its function have sets of values of their types
  abbrev pub HaveSetsAt : Type 0
  HaveSetsAt = (q : Point) (f : Func) → IsPointOf p n q f → HaveSets d p q.func f (registers_at facts f n)

  abbrev pub HaveKindsAt : Place → Type 0
  HaveKindsAt a = (q : Point) (f : Func) → IsPointOf p n q f → HaveKinds d facts a p q.func f (registers_at facts f n)

-- where expressions of the function are worked, as the code has it
pub record IsContextAt {I : Type 0} (p : Program) (facts : Facts I) (n : ℕ) (f : Func) (c : Context I) : Type 0 where
  pub point : Point
  pub there : IsPointOf p n point f
  pub program : c.program.now ≡ p
  pub id : c.id ≡ point.func
  pub func : c.func.now ≡ f
  pub sets : set_in c ≡ registers_at facts f n
