-- The forms of expressions that tests refine by.
use Rattle.std.specs.Prelude.{ℕ, Option, Some, None, if◌then◌else◌}
use Rattle.cc_rules_flows.specs.CcLattice.Domains.{is_comparison}
use Rattle.cc_program.specs.CcNum.declared.int_type.IntType.{IntType}
use Rattle.cc_program.specs.CcNum.declared.op.BinOp.{BinOp}
use Rattle.cc_program.specs.declared.expr.Expr.{Expr}
use Rattle.cc_program.specs.declared.expr.Expr.TheOpen as one
use Rattle.cc_program.specs.declared.expr.Place.{Place, out-Place}
use Rattle.cc_rules_tests.specs.declared.forms.Comparison.{Comparison}
use Rattle.cc_rules_tests.specs.declared.forms.Converted.{Converted}

-- the local that a place is, and that an expression reads
abbrev pub local_in : one.Place-F Expr Place → Option ℕ
local_in (one.Local r) = Some r
local_in _ = None

abbrev pub local_read : one.Expr-F Expr Place → Option ℕ
local_read (one.Load a) = local_in (out-Place a)
local_read _ = None

-- a conversion, with its operand
abbrev pub conversion_in : one.Expr-F Expr Place → Option (IntType × Expr)
conversion_in (one.Conv t a) = Some (t, a)
conversion_in _ = None

abbrev pub converted_view : Option Converted → Option (IntType × Expr)
converted_view None = None
converted_view (Some c) = Some (c.to, c.operand.now)

-- a comparison of integers, with its operands
abbrev pub comparison_in : one.Expr-F Expr Place → Option (BinOp × Expr × Expr)
comparison_in (one.Bin o t a b) = if is_comparison o then Some (o, a, b) else None
comparison_in _ = None

abbrev pub comparison_view : Option Comparison → Option (BinOp × Expr × Expr)
comparison_view None = None
comparison_view (Some c) = Some (c.op, c.left.now, c.right.now)
