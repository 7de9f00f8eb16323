-- A test of an expression, as the code has it: what is asked of it, and what it leaves.
use Rattle.std.specs.Prelude.{◌≡◌, ℕ, ◌==◌, ℤ, true, List, [], ◌∷◌, Some, slice_get, if◌then◌else◌}
use Rattle.std.specs.List.{Contains}
use Rattle.cc_rules_flows.specs.CcLattice.Domains.{IsIntValue}
use Rattle.cc_program.specs.CcNum.declared.int_type.IntType.{IntType}
use Rattle.cc_program.specs.CcNum.Integers.{IsValueOf}
use Rattle.cc_program.specs.CcNum.declared.op.BinOp.{BinOp}
use Rattle.cc_rules_flows.specs.CcPlaces.declared.abs.Abs.{Abs}
use Rattle.cc_rules_flows.specs.CcPlaces.declared.abs.Abs.TheVariants as abs
use Rattle.cc_program.specs.declared.expr.Expr.{Expr, out-Expr}
use Rattle.cc_program.specs.declared.expr.Expr.TheOpen as one
use Rattle.cc_program.specs.declared.expr.Place.{Place, out-Place}
use Rattle.cc_rules_flows.specs.Tests.{Test, Is, Equals, Differs, HasPassing, Stays, IsOperand, IsCutAs, IsCutBy, IsLeft, IsOfRegister, IsLeftAlike}
use Rattle.cc_rules_tests.specs.declared.tested.Test.{Test as CodeTest}
use Rattle.cc_rules_tests.specs.declared.tested.Test.TheVariants as made
use Rattle.cc_rules_tests.specs.declared.tested.Tested.{Tested}
use Rattle.cc_rules_tests.specs.declared.changed.Changed.{Changed}
use Rattle.cc_rules_flows.specs.CcStateOperators.Domains.{Domain, AllOf, IsHull}
use Rattle.cc_rules_flows.specs.CcStateValues.declared.context.Context.{Context}
use Rattle.cc_rules_flows.specs.CcStateValues.Contexts.{HaveSetsIn, IsPureIn, set_in}
use Rattle.cc_rules_flows.specs.CcStateValues.Values.{IsVal}
use Rattle.cc_rules_flows.specs.CcSyntax.Programs.{type_of}
use Rattle.cc_rules_flows.specs.CcSyntax.Registers.{is_register}
use Rattle.cc_rules_flows.specs.CcSyntax.Sizes.{AreSized}
use Rattle.cc_rules_flows.specs.CcSyntax.Types.{Named}
use Rattle.cc_rules_flows.specs.CcSyntax.Values.{Integer, scalar_value}

abbrev pub test_of : CodeTest → Test
test_of (made.Is b) = Is b
test_of (made.Equals n) = Equals n
test_of (made.Differs ns) = Differs ns.now

abbrev pub labels_of : Test → List ℤ
labels_of (Is b) = []
labels_of (Equals n) = n ∷ []
labels_of (Differs ns) = ns

-- an expression reads a local
abbrev pub ReadsLocal : ℕ → Expr → Type 0
ReadsLocal r a = (place : Place) × (out-Expr a ≡ one.Load place) × (out-Place place ≡ one.Local r)

-- a local is a register of an integer type
pub record IsIntRegister {I : Type 0} (c : Context I) (r : ℕ) (type : IntType) : Type 0 where
  pub register : is_register c.func.now r ≡ true
  pub local : Named
  pub is_local : slice_get c.func.now.locals r ≡ Some local
  pub is_type : scalar_value local.1 ≡ Some (Integer type)

-- registers with their sets, and one of them before the others
abbrev pub IsChangedOf : {I : Type 0} → Context I → Changed I → Type 0
IsChangedOf {I = I} c t = (q : ℕ) × (s : Abs I) × (t.registers.items ≡ q ∷ c.registers.now) × (t.sets.items ≡ s ∷ c.sets.now)

-- a set cut by a comparison with one number
abbrev pub IsCutByOne : {I : Type 0} → Domain I → BinOp → ℤ → I → I → Type 0
IsCutByOne {I = I} d o n x z = (one : I) × IsHull d (λ m. m ≡ n) one × d.keep o x one z

module _ {I : Type 0} (d : Domain I) (c : Context I) where
  -- a register may hold a number, and the members of a set
  abbrev pub MayHoldOne : ℕ → ℤ → Type 0
  MayHoldOne r m = (t : IntType) × IsIntRegister c r t × IsValueOf t c.program.now.target m

  abbrev pub MayHoldEach : ℕ → List ℤ → Type 0
  MayHoldEach r members = (t : IntType) × IsIntRegister c r t × ((m : ℤ) → Contains members m → IsValueOf t c.program.now.target m)

  abbrev pub MayHoldAll : ℕ → I → Type 0
  MayHoldAll r x = (t : IntType) × IsIntRegister c r t × AllOf d t c.program.now.target x

  abbrev pub MayHave : ℕ → Abs I → Type 0
  MayHave r (abs.Ints x) = MayHoldAll r x
  MayHave r (abs.Addrs s) = Unit {0}

  -- an operand of a comparison: pure, and of an integer type
  abbrev pub IsPureNumber : Expr → Type 0
  IsPureNumber a = IsPureIn d c a × ((t : IntType) × (type_of c.program.now c.func.now.locals a ≡ Some (Integer t)))

  -- a member of an explicit set
  abbrev pub IsExplicitIn : Abs I → ℤ → Type 0
  IsExplicitIn y m = (x : I) × (members : List ℤ) × (y ≡ abs.Ints x) × (d.members x ≡ Some members) × Contains members m

  -- what an expression may give where a register has another set
  abbrev pub IsValWith : ℕ → I → Expr → Abs I → Type 0
  IsValWith r x e y = IsVal d c.program.now c.id c.func.now (λ q. if q == r then Some (abs.Ints x) else set_in c q) e y

module _ {I : Type 0} (d : Domain I) (t : Tested I) where
  -- the expression is pure, the registers have sets of their types, and labels are values of integer types
  pub record IsTested : Type 0 where
    pub sized : AreSized t.context.now.program.now.structures t.context.now.program.now.target
    pub known : HaveSetsIn d t.context.now
    pub pure : IsPureIn d t.context.now t.expression.now
    pub labels : (n : ℤ) → Contains (labels_of (test_of t.test)) n → IsIntValue n

  abbrev pub HasPassingIn : Abs I → Type 0
  HasPassingIn y = HasPassing d t.context.now.program.now t.context.now.id t.context.now.func.now (set_in t.context.now) t.expression.now (test_of t.test) y

  abbrev pub StaysIn : ℕ → ℤ → Type 0
  StaysIn r m = Stays d t.context.now.program.now t.context.now.id t.context.now.func.now (set_in t.context.now) t.expression.now (test_of t.test) r m

  abbrev pub IsOperandIn : ℕ → I → Expr → Type 0
  IsOperandIn r x a = IsOperand d t.context.now.program.now t.context.now.id t.context.now.func.now (set_in t.context.now) t.expression.now (test_of t.test) r x a

  abbrev pub IsCutAsIn : ℕ → I → BinOp → Expr → Expr → I → I → Type 0
  IsCutAsIn r x o a b u z = IsCutAs d t.context.now.program.now t.context.now.id t.context.now.func.now (set_in t.context.now) t.expression.now (test_of t.test) r x o a b u z

  abbrev pub IsCutByIn : List ℤ → I → I → Type 0
  IsCutByIn ns x z = IsCutBy d t.context.now.program.now t.context.now.id t.context.now.func.now (set_in t.context.now) t.expression.now (test_of t.test) ns x z

  abbrev pub IsLeftIn : ℕ → Abs I → Abs I → Type 0
  IsLeftIn r y z = IsLeft d t.context.now.program.now t.context.now.id t.context.now.func.now (set_in t.context.now) t.expression.now (test_of t.test) r y z

  abbrev pub IsOfRegisterIn : ℕ → Abs I → Type 0
  IsOfRegisterIn r y = IsOfRegister d t.context.now.program.now t.context.now.id t.context.now.func.now (set_in t.context.now) t.expression.now (test_of t.test) r y

  abbrev pub IsLeftAlikeIn : ℕ → Abs I → Abs I → Type 0
  IsLeftAlikeIn r y z = IsLeftAlike d t.context.now.program.now t.context.now.id t.context.now.func.now (set_in t.context.now) t.expression.now (test_of t.test) r y z

  -- what is left of a range
  abbrev pub IsRangeLeftIn : ℕ → I → I → Type 0
  IsRangeLeftIn r x u = IsLeftIn r (abs.Ints x) (abs.Ints u)

  -- the value has been worked with a register at a number
  abbrev pub IsWorkedAt : ℕ → ℤ → Type 0
  IsWorkedAt r m = (one : I) × (y : Abs I) × IsHull d (λ n. n ≡ m) one × IsValWith d t.context.now r one t.expression.now y
