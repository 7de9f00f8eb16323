-- The pieces of expressions and places (C99 6.5), in front of those that follow.
use Rattle.std.specs.Prelude.{ℕ, ℤ, Bool, true, false, List, [], ◌∷◌, Option, Some, None, slice_get, if◌then◌else◌}
use Rattle.cc_program.specs.CcNum.declared.int_type.IntType.{IntType}
use Rattle.cc_program.specs.CcNum.declared.op.BinOp.{BinOp}
use Rattle.cc_program.specs.CcNum.declared.op.BinOp.TheVariants as op
use Rattle.cc_program.specs.CcNum.declared.op.UnOp.{UnOp}
use Rattle.cc_program.specs.CcNum.declared.op.UnOp.TheVariants as unary_op
use Rattle.cc_program.specs.CcNum.declared.target.Target.{Target}
use Rattle.cc_program.specs.CcWords.declared.word.Word.TheVariants as w
use Rattle.cc_lex.specs.declared.token.Mark.{Mark}
use Rattle.cc_lex.specs.declared.token.Mark.TheVariants as m
use Rattle.cc_program.specs.declared.expr.Expr.{Expr, fold-Expr, map-Expr}
use Rattle.cc_program.specs.declared.expr.Expr.TheOpen as one
use Rattle.cc_program.specs.declared.expr.Place.{Place, fold-Place, map-Place}
use Rattle.cc_program.specs.declared.func.Func.{Func}
use Rattle.cc_program.specs.declared.object.Device.{Device}
use Rattle.cc_program.specs.declared.program.Program.{Program}
use Rattle.cc_program.specs.declared.types.CType.{CType}
use Rattle.cc_program.specs.declared.types.Structure.{Structure}
use Rattle.cc_typed.specs.CcSyntax.Programs.{expr_step, place_step}
use Rattle.cc_typed.specs.CcSyntax.SameTypes.{alike}
use Rattle.cc_typed.specs.CcSyntax.Values.{ValueType, PlaceType}
use Rattle.cc_pieces.specs.Constants.{constant, is_narrow}
use Rattle.cc_pieces.specs.Declarators.{cast, int_cast, int_name, qualifiers}
use Rattle.cc_pieces.specs.Pieces.{Piece, Pieces, punct, keyword, plain_number, space, opening, closing}
use Rattle.cc_bodies.specs.Names.{named, local_name, object_name, func_name, member_name}
use Rattle.cc_bodies.specs.Spots.{Spot, Whole, Operand, Converted, Pointed, wraps_operation, wraps_conversion, converts_constant}

-- ---- operators

abbrev pub unary_mark : UnOp → Mark
unary_mark unary_op.Neg = m.Minus
unary_mark unary_op.Not = m.Tilde
unary_mark unary_op.Lnot = m.Bang

abbrev pub binary_mark : BinOp → Mark
binary_mark op.Add = m.Plus
binary_mark op.Sub = m.Minus
binary_mark op.Mul = m.Star
binary_mark op.Div = m.Slash
binary_mark op.Rem = m.Percent
binary_mark op.And = m.Amp
binary_mark op.Or = m.Bar
binary_mark op.Xor = m.Caret
binary_mark op.Shl = m.Shl
binary_mark op.Shr = m.Shr
binary_mark op.Lt = m.Lt
binary_mark op.Le = m.Le
binary_mark op.Gt = m.Gt
binary_mark op.Ge = m.Ge
binary_mark op.Eq = m.EqEq
binary_mark op.Ne = m.NotEq

-- a pointer is moved forward or back
abbrev pub movement_mark : Bool → Mark
movement_mark true = m.Minus
movement_mark false = m.Plus

-- ---- the forms of operations

-- the text of an expression or a place, by where it stands
abbrev pub Text : Type 0
Text = Spot → Pieces → Pieces

-- a mark between two spaces
abbrev pub spaced : Mark → Pieces → Pieces
spaced o ps = space ∷ punct o ∷ space ∷ ps

-- `(opA)`
abbrev pub unary : Mark → Text → Spot → Text
unary o a inner spot ps = opening (wraps_operation spot) (punct o ∷ a inner (closing (wraps_operation spot) ps))

-- `(A op B)`
abbrev pub binary : Mark → Text → Text → Text
binary o a b spot ps = opening (wraps_operation spot) (a Operand (spaced o (b Operand (closing (wraps_operation spot) ps))))

-- `(A ? B : C)`
abbrev pub choice : Text → Text → Text → Text
choice c a b spot ps =
    opening (wraps_operation spot) (c Operand (spaced m.Question (a Operand (spaced m.Colon (b Operand (closing (wraps_operation spot) ps))))))

-- `(T)A`
abbrev pub conversion : (Pieces → Pieces) → Text → Text
conversion type a spot ps = opening (wraps_conversion spot) (type (a Converted (closing (wraps_conversion spot) ps)))

-- what no operand of a normal program is
abbrev pub nothing : Text
nothing spot ps = ps

-- ---- constants

-- a constant of a narrow type
abbrev pub narrow : Bool → Target → ℤ → IntType → Spot → Pieces → Pieces
narrow false target n t spot ps = constant target n t ps
narrow true target n t spot ps = opening (wraps_conversion spot) (int_cast t (constant target n t (closing (wraps_conversion spot) ps)))

abbrev pub constant_text : Target → ℤ → IntType → Text
constant_text target n t spot ps = if is_narrow t then narrow (converts_constant spot) target n t spot ps else constant target n t ps

-- `(T)0`
abbrev pub null_cast : List Structure → CType → Pieces → Pieces
null_cast structures t ps = cast structures t (plain_number 0 ∷ ps)

-- `(void *)0` in parentheses
abbrev pub void_null : Pieces → Pieces
void_null ps =
    punct m.LParen ∷ punct m.LParen ∷ keyword w.Void ∷ space ∷ punct m.Star ∷ punct m.RParen ∷ plain_number 0 ∷ punct m.RParen ∷ ps

-- a null is `0` for what has its type, outermost qualifiers aside
abbrev pub taken_null : List Structure → CType → Option CType → Pieces → Pieces
taken_null structures t None ps = null_cast structures t ps
taken_null structures t (Some u) ps = if alike t u then plain_number 0 ∷ ps else null_cast structures t ps

abbrev pub null_text : List Structure → CType → Text
null_text structures t (Whole to) ps = taken_null structures t to ps
null_text structures t Operand ps = null_cast structures t ps
null_text structures t Converted ps = punct m.LParen ∷ null_cast structures t (punct m.RParen ∷ ps)
null_text structures t Pointed ps = cast structures t (void_null ps)

-- ---- places

-- `(*(volatile T *)n)`
abbrev pub numbered_device : Device → Pieces → Pieces
numbered_device d ps =
    punct m.LParen ∷ punct m.Star ∷ punct m.LParen ∷ qualifiers d.constant true (int_name d.int (space ∷ punct m.Star ∷ punct m.RParen
    ∷ plain_number d.number ∷ punct m.RParen ∷ ps))

abbrev pub device_by : Device → Option (List ℕ) → Pieces → Pieces
device_by d None ps = numbered_device d ps
device_by d (Some x) ps = named (Some x) ps

abbrev pub device_text : Option Device → Pieces → Pieces
device_text None ps = ps
device_text (Some d) ps = device_by d d.name ps

-- ---- expressions

-- an expression: its type, and its text
pub record Written : Type 0 where
  pub ctype : Option ValueType
  pub text : Text

-- a place
pub record WrittenPlace : Type 0 where
  pub ctype : Option PlaceType
  pub text : Text

module _ (p : Program) (f : Func) where
  abbrev pub text_step : one.Expr-F Written WrittenPlace → Text
  text_step (one.Const n t) = constant_text p.target n t
  text_step (one.Null t) = null_text p.structures t
  text_step (one.FuncAddr i) = λ spot ps. named (func_name (slice_get p.funcs i)) ps
  text_step (one.Load a) = a.text
  text_step (one.AddrOf a) = unary m.Amp a.text Operand
  text_step (one.Un o t a) = unary (unary_mark o) a.text Operand
  text_step (one.Bin o t a b) = binary (binary_mark o) a.text b.text
  text_step (one.Conv t a) = conversion (int_cast t) a.text
  text_step (one.Qualify t a) = conversion (cast p.structures t) a.text
  text_step (one.Move a b back) = binary (movement_mark back) a.text b.text
  text_step (one.Gap a b) = binary m.Minus a.text b.text
  text_step (one.Compare o a b) = binary (binary_mark o) a.text b.text
  text_step (one.Both a b) = binary m.AndAnd a.text b.text
  text_step (one.Either a b) = binary m.OrOr a.text b.text
  text_step (one.Choose c a b) = choice c.text a.text b.text
  text_step (one.Assign a e) = nothing
  text_step (one.Change a o t e) = nothing
  text_step (one.After a down) = nothing
  text_step (one.Call g args) = nothing
  text_step (one.Intr i a) = nothing
  text_step (one.Seq a b) = nothing

  abbrev pub place_text_step : one.Place-F Written WrittenPlace → Text
  place_text_step (one.Local r) = λ spot ps. named (local_name (slice_get f.locals r)) ps
  place_text_step (one.Static i) = λ spot ps. named (object_name (slice_get p.objects i)) ps
  place_text_step (one.Device d) = λ spot ps. device_text (slice_get p.devices d) ps
  place_text_step (one.Element a i) = λ spot ps. a.text Operand (punct m.LBracket ∷ i.text Operand (punct m.RBracket ∷ ps))
  place_text_step (one.Member a i) = λ spot ps. a.text Operand (punct m.Dot ∷ named (member_name p.structures i a.ctype) ps)
  place_text_step (one.Deref e) = unary m.Star e.text Pointed

  abbrev pub expr_written : one.Expr-F Written WrittenPlace → Written
  expr_written e = record {
    ctype = expr_step p f.locals (map-Expr Written WrittenPlace (Option ValueType) (Option PlaceType) (λ e. e.ctype) (λ a. a.ctype) e);
    text = text_step e;
  }

  abbrev pub place_written : one.Place-F Written WrittenPlace → WrittenPlace
  place_written a = record {
    ctype = place_step p f.locals (map-Place Written WrittenPlace (Option ValueType) (Option PlaceType) (λ e. e.ctype) (λ a. a.ctype) a);
    text = place_text_step a;
  }

  unfoldable pub written : Expr → Written
  written e = fold-Expr Written WrittenPlace expr_written place_written e

  unfoldable pub place : Place → WrittenPlace
  place a = fold-Place Written WrittenPlace expr_written place_written a

  abbrev pub expr : Expr → Text
  expr e = (written e).text

  abbrev pub place_text : Place → Text
  place_text a = (place a).text
