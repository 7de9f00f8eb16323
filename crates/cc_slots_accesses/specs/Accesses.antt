-- Which statements access the cells of a key, and what the functions that are reached from a handler do with it.
use Rattle.std.specs.Prelude.{◌≡◌, ◌<◌, ℕ, Bool, true, false, List, Some}
use Rattle.std.specs.List.{AllPairs, Contains}
use Rattle.cc_rules_flows.specs.CcFlow.declared.types.Point.{Point}
use Rattle.cc_program.specs.declared.expr.Expr.{Expr}
use Rattle.cc_program.specs.declared.expr.Place.{Place}
use Rattle.cc_program.specs.declared.func.Func.{Func}
use Rattle.cc_program.specs.declared.program.Program.{Program}
use Rattle.cc_program.specs.declared.stmt.Stmt.{Stmt}
use Rattle.cc_rules_flows.specs.Acts.{Act, Reads, Writes, act_of}
use Rattle.cc_rules_flows.specs.Nexts.{IsPoint, statement_of}
use Rattle.cc_slots_types.specs.declared.class.Class.{Class}
use Rattle.cc_slots_types.specs.declared.class.Class.TheVariants as class
use Rattle.cc_rules_flows.specs.CcStateFacts.declared.facts.Facts.{Facts}
use Rattle.cc_rules_flows.specs.CcStateFacts.declared.facts.Key.{Key}
use Rattle.cc_rules_flows.specs.CcStateFacts.declared.facts.PointFact.{PointFact}
use Rattle.cc_rules_flows.specs.CcStateFacts.Facts.{fact_at, mark_of}
use Rattle.cc_state_keys.specs.Addressed.{in_place}
use Rattle.cc_rules_flows.specs.CcStateOperators.Domains.{Domain}
use Rattle.cc_rules_flows.specs.CcStateReads.Reads.{AreNamed, registers_at}

-- a statement reads or writes a place that is no register
pub data Accesses : Bool → Act → Place → Type 0 where
  AReader : {act : Act} {a : Place} (r : ℕ) → act ≡ Reads r a → Accesses false act a
  AWriter : {act : Act} {a : Place} (e : Expr) → act ≡ Writes a e → Accesses true act a

module _ (p : Program) where
  -- the statement of a point accesses a place, whether the point is reached or not
  pub record AccessesAt (n : ℕ) (writes : Bool) (a : Place) : Type 0 where
    pub id : ℕ
    pub func : Func
    pub point : Point
    pub statement : Stmt
    pub here : IsPoint p n id func point
    pub stands : statement_of func point ≡ Some statement
    pub access : Accesses writes (act_of func statement) a

  -- a place is of a key by its form alone, wherever it stands
  abbrev pub NamesByForm : ℕ → Func → Place → Key → Type 0
  NamesByForm id f a k = (in_place p id f a).own ≡ Some k

  module _ {I : Type 0} (d : Domain I) (facts : Facts I) where
    -- a point is reached, and a place may name a key there
    pub record MayName (n : ℕ) (id : ℕ) (f : Func) (a : Place) (k : Key) : Type 0 where
      pub fact : PointFact I
      pub keys : List Key
      pub reached : fact_at facts n ≡ Some fact
      pub named : AreNamed d p id f (registers_at facts f n) a keys
      pub one : Contains keys k

    -- an access at a point that is reached
    pub record IsAccess (writes : Bool) (k : Key) (n : ℕ) : Type 0 where
      pub place : Place
      pub at : AccessesAt n writes place
      pub names : MayName n at.id at.func place k

    -- all points of such accesses, ascending
    pub record AreAccesses (writes : Bool) (k : Key) (points : List ℕ) : Type 0 where
      pub all : (n : ℕ) → (Contains points n → IsAccess writes k n) × (IsAccess writes k n → Contains points n)
      pub ascend : AllPairs (λ m n. m < n) points

    -- in a function that is reached from a handler
    abbrev pub IsHandlerAccess : Bool → Key → Type 0
    IsHandlerAccess writes k = (n : ℕ) × (access : IsAccess writes k n) × (mark_of facts.by_handler access.at.id ≡ true)

    -- by what these functions do
    abbrev pub IsClass : Key → Class → Type 0
    IsClass k class.Lone = (IsHandlerAccess false k → ⊥) × (IsHandlerAccess true k → ⊥)
    IsClass k class.Read = IsHandlerAccess false k × (IsHandlerAccess true k → ⊥)
    IsClass k class.Written = IsHandlerAccess true k
