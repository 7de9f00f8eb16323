-- What an expression is at its top, as far as statements in normal form tell expressions apart.
use Rattle.std.specs.Prelude.{ℤ, List, Option}
use Rattle.cc_program.specs.CcNum.declared.int_type.IntType.{IntType}
use Rattle.cc_program.specs.declared.expr.Expr.{Expr, out-Expr}
use Rattle.cc_program.specs.declared.expr.Expr.TheOpen as one
use Rattle.cc_program.specs.declared.expr.Place.{Place}

pub data Form : Type 0 where
  ConstantForm : ℤ → IntType → Form
  FunctionForm : Form
  LoadForm : Place → Form
  AssignForm : Place → Expr → Form
  CallForm : Expr → List Expr → Form
  IntrinsicForm : Option Expr → Form
  OtherForm : Form

abbrev pub form_at : one.Expr-F Expr Place → Form
form_at (one.Const n t) = ConstantForm n t
form_at (one.FuncAddr f) = FunctionForm
form_at (one.Load a) = LoadForm a
form_at (one.Assign a e) = AssignForm a e
form_at (one.Call f args) = CallForm f args
form_at (one.Intr i a) = IntrinsicForm a
form_at (one.Null t) = OtherForm
form_at (one.AddrOf a) = OtherForm
form_at (one.Un o t a) = OtherForm
form_at (one.Bin o t a b) = OtherForm
form_at (one.Conv t a) = OtherForm
form_at (one.Qualify t a) = OtherForm
form_at (one.Move a b back) = OtherForm
form_at (one.Gap a b) = OtherForm
form_at (one.Compare o a b) = OtherForm
form_at (one.Both a b) = OtherForm
form_at (one.Either a b) = OtherForm
form_at (one.Choose c a b) = OtherForm
form_at (one.Change a o t e) = OtherForm
form_at (one.After a down) = OtherForm
form_at (one.Seq a b) = OtherForm

abbrev pub form_of : Expr → Form
form_of e = form_at (out-Expr e)
