-- Types, values and function bodies with other numbers: each structure, object, device and function by the number that
-- it has elsewhere.
use Rattle.std.specs.Prelude.{ℕ, List, slice_get, Option, Some, None, option_map}
use Rattle.cc_program.specs.declared.expr.Expr.{Expr, Const, Null, FuncAddr, Load, AddrOf, Un, Bin, Conv, Qualify, Move, Gap, Compare, Both, Either, Choose, Assign, Change, After, Call, Intr, Seq, fold-Expr}
use Rattle.cc_program.specs.declared.expr.Expr.TheOpen as one
use Rattle.cc_program.specs.declared.expr.Place.{Place, fold-Place, Local, Static, Device, Element, Member, Deref}
use Rattle.cc_program.specs.declared.stmt.Case.{Case, roll-Case, fold-Case}
use Rattle.cc_program.specs.declared.stmt.Stmt.{Stmt, Do, If, While, DoWhile, For, Switch, Break, Continue, Return, Empty, Block, fold-Stmt}
use Rattle.cc_program.specs.declared.stmt.Stmt.TheOpen as is
use Rattle.cc_program.specs.declared.types.CType.{CType, fold-CType}
use Rattle.cc_program.specs.declared.types.Shape.{Shape, fold-Shape, Void, Int, Pointer, Array, Struct, Func}
use Rattle.cc_program.specs.declared.types.Shape.TheOpen as shape
use Rattle.cc_program.specs.declared.types.Sig.{Sig, roll-Sig, fold-Sig}
use Rattle.cc_program.specs.declared.value.Address.{Address}
use Rattle.cc_program.specs.declared.value.Address.TheVariants as address
use Rattle.cc_program.specs.declared.value.Leaf.{Leaf}
use Rattle.cc_program.specs.declared.value.Leaf.TheVariants as leaf
use Rattle.cc_program.specs.declared.value.Root.{Root}
use Rattle.cc_program.specs.declared.value.Root.TheVariants as root
use Rattle.cc_unit.specs.declared.ids.Id.{Id}
use Rattle.cc_unit.specs.declared.ids.Id.TheVariants as id
use Rattle.cc_unit.specs.declared.ids.Ids.{Ids}

-- ---- ids

abbrev pub structure_by : Option ℕ → ℕ
structure_by (Some i) = i
structure_by None = 0

-- a name of another kind has no id of this one
abbrev pub object_by : Option Id → ℕ
object_by (Some (id.Object i)) = i
object_by (Some (id.Device d)) = 0
object_by (Some (id.Func f)) = 0
object_by None = 0

abbrev pub func_by : Option Id → ℕ
func_by (Some (id.Func f)) = f
func_by (Some (id.Object i)) = 0
func_by (Some (id.Device d)) = 0
func_by None = 0

-- what one source has as a device may be an object of another
abbrev pub device_by : Option Id → Place
device_by (Some (id.Device d)) = Device d
device_by (Some (id.Object i)) = Static i
device_by (Some (id.Func f)) = Static 0
device_by None = Static 0

-- ---- structures in types

module _ (structures : List ℕ) where
  abbrev pub shape_step : shape.Shape-F Shape CType Sig → Shape
  shape_step shape.Void = Void
  shape_step (shape.Int t) = Int t
  shape_step (shape.Pointer to) = Pointer to
  shape_step (shape.Array of n) = Array of n
  shape_step (shape.Struct i) = Struct (structure_by (slice_get structures i))
  shape_step (shape.Func sig) = Func sig

  abbrev pub type_step : shape.CType-F Shape CType Sig → CType
  type_step t = record { constant = t.constant; volatile = t.volatile; shape = t.shape }

  abbrev pub sig_step : shape.Sig-F Shape CType Sig → Sig
  sig_step s = roll-Sig s

  unfoldable pub type_renumbered : CType → CType
  type_renumbered t = fold-CType Shape CType Sig shape_step type_step sig_step t

  unfoldable pub shape_renumbered : Shape → Shape
  shape_renumbered s = fold-Shape Shape CType Sig shape_step type_step sig_step s

  unfoldable pub sig_renumbered : Sig → Sig
  sig_renumbered s = fold-Sig Shape CType Sig shape_step type_step sig_step s

-- ---- objects, devices and functions in expressions, statements and values

module _ (ids : Ids) where
  abbrev pub expr_step : one.Expr-F Expr Place → Expr
  expr_step (one.Const n t) = Const n t
  expr_step (one.Null t) = Null (type_renumbered ids.structures t)
  expr_step (one.FuncAddr f) = FuncAddr (func_by (slice_get ids.names f))
  expr_step (one.Load a) = Load a
  expr_step (one.AddrOf a) = AddrOf a
  expr_step (one.Un o t a) = Un o t a
  expr_step (one.Bin o t a b) = Bin o t a b
  expr_step (one.Conv t a) = Conv t a
  expr_step (one.Qualify t a) = Qualify (type_renumbered ids.structures t) a
  expr_step (one.Move a b back) = Move a b back
  expr_step (one.Gap a b) = Gap a b
  expr_step (one.Compare o a b) = Compare o a b
  expr_step (one.Both a b) = Both a b
  expr_step (one.Either a b) = Either a b
  expr_step (one.Choose c a b) = Choose c a b
  expr_step (one.Assign a e) = Assign a e
  expr_step (one.Change a o t e) = Change a o t e
  expr_step (one.After a down) = After a down
  expr_step (one.Call f args) = Call f args
  expr_step (one.Intr i a) = Intr i a
  expr_step (one.Seq a b) = Seq a b

  abbrev pub place_step : one.Place-F Expr Place → Place
  place_step (one.Local n) = Local n
  place_step (one.Static i) = Static (object_by (slice_get ids.names i))
  place_step (one.Device d) = device_by (slice_get ids.names d)
  place_step (one.Element a i) = Element a i
  place_step (one.Member a m) = Member a m
  place_step (one.Deref e) = Deref e

  unfoldable pub place_renumbered : Place → Place
  place_renumbered a = fold-Place Expr Place expr_step place_step a

  unfoldable pub expr_renumbered : Expr → Expr
  expr_renumbered e = fold-Expr Expr Place expr_step place_step e

  abbrev pub stmt_step : is.Stmt-F Stmt Case → Stmt
  stmt_step (is.Do e) = Do (expr_renumbered e)
  stmt_step (is.If e a b) = If (expr_renumbered e) a b
  stmt_step (is.While e a) = While (expr_renumbered e) a
  stmt_step (is.DoWhile a e) = DoWhile a (expr_renumbered e)
  stmt_step (is.For first test again a) = For (option_map expr_renumbered first) (option_map expr_renumbered test) (option_map expr_renumbered again) a
  stmt_step (is.Switch e cases) = Switch (expr_renumbered e) cases
  stmt_step is.Break = Break
  stmt_step is.Continue = Continue
  stmt_step (is.Return e) = Return (option_map expr_renumbered e)
  stmt_step is.Empty = Empty
  stmt_step (is.Block a) = Block a

  abbrev pub case_step : is.Case-F Stmt Case → Case
  case_step c = roll-Case c

  unfoldable pub case_renumbered : Case → Case
  case_renumbered c = fold-Case Stmt Case stmt_step case_step c

  unfoldable pub stmt_renumbered : Stmt → Stmt
  stmt_renumbered s = fold-Stmt Stmt Case stmt_step case_step s

  -- a first value names no automatic object (6.6, 9)
  abbrev pub root_renumbered : Root → Root
  root_renumbered (root.Static i) = root.Static (object_by (slice_get ids.names i))
  root_renumbered (root.Auto activation f local) = root.Auto activation f local

  abbrev pub address_renumbered : Address → Address
  address_renumbered address.Null = address.Null
  address_renumbered (address.Func f) = address.Func (func_by (slice_get ids.names f))
  address_renumbered (address.At object path index count) = address.At (root_renumbered object) path index count

  abbrev pub leaf_renumbered : Leaf → Leaf
  leaf_renumbered (leaf.Int n) = leaf.Int n
  leaf_renumbered (leaf.Place a) = leaf.Place (address_renumbered a)
