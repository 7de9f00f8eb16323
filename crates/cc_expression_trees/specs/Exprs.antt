-- Which trees show an expression and a place of a function, whatever their offsets, with parentheses anywhere. An
-- expression that assigns, calls or has a comma in it is none of an operand of a normal program, and no tree shows it here.
use Rattle.std.specs.Prelude.{◌≡◌, ℕ, ℤ, Bool, true, false, Option, Some, None, slice_get}
use Rattle.cc_program.specs.CcNum.declared.int_type.IntType.{IntType}
use Rattle.cc_program.specs.CcNum.declared.op.BinOp.{BinOp}
use Rattle.cc_program.specs.CcNum.declared.op.UnOp.{UnOp}
use Rattle.cc_lex.specs.declared.token.Mark.{Mark}
use Rattle.cc_lex.specs.declared.token.Mark.TheVariants as m
use Rattle.cc_bodies.specs.Exprs.{unary_mark, binary_mark, movement_mark}
use Rattle.cc_bodies.specs.Names.{member_name}
use Rattle.cc_bodies.specs.Spots.{Spot, Whole, Operand, Converted, Pointed}
use Rattle.cc_pieces.specs.Constants.{is_narrow}
use Rattle.cc_program.specs.declared.expr.Expr.{Expr, out-Expr}
use Rattle.cc_program.specs.declared.expr.Expr.TheOpen as one
use Rattle.cc_program.specs.declared.expr.Place.{Place, out-Place}
use Rattle.cc_program.specs.declared.func.Func.{Func}
use Rattle.cc_program.specs.declared.object.Device.{Device}
use Rattle.cc_program.specs.declared.object.Object.{Object}
use Rattle.cc_program.specs.declared.program.Program.{Program}
use Rattle.cc_program.specs.declared.types.CType.{CType}
use Rattle.cc_program.specs.declared.types.Shape.TheOpen as shape
use Rattle.cc_typed.specs.CcSyntax.Programs.{place_type}
use Rattle.cc_typed.specs.CcSyntax.SameTypes.{alike}
use Rattle.cc_typed.specs.CcSyntax.Types.{Named}
use Rattle.cc_tree.specs.declared.at.At.{At}
use Rattle.cc_tree.specs.declared.tree.Tree as tree
use Rattle.cc_tree.specs.declared.tree.Tree.{Tree}
use Rattle.cc_tree.specs.declared.tree.TypeName.{TypeName}
use Rattle.cc_tree.specs.Tokens.{Name}
use Rattle.cc_expression_trees.specs.Types.{plain_suffix, ShowsTypeName}
use Rattle.cc_expression_trees.specs.Constants.{qualified, plain, ShowsInteger, IsZero, IsVoidNull}

-- an operation that is written with a mark between two operands
pub data IsBinary : one.Expr-F Expr Place → Mark → Expr → Expr → Type 0 where
  AnOperation : (o : BinOp) (t : IntType) (a b : Expr) → IsBinary (one.Bin o t a b) (binary_mark o) a b
  AMovement : (a b : Expr) (back : Bool) → IsBinary (one.Move a b back) (movement_mark back) a b
  ADifference : (a b : Expr) → IsBinary (one.Gap a b) m.Minus a b
  AComparison : (o : BinOp) (a b : Expr) → IsBinary (one.Compare o a b) (binary_mark o) a b
  ABoth : (a b : Expr) → IsBinary (one.Both a b) m.AndAnd a b
  AnEither : (a b : Expr) → IsBinary (one.Either a b) m.OrOr a b

abbrev pub is_null : one.Expr-F Expr Place → Bool
is_null (one.Null t) = true
is_null _ = false

module _ (p : Program) (f : Func) where
  mutual
    pub data ShowsExpr : Expr → Tree → Type 0 where
      InParens : (e : Expr) (x : At Tree) → ShowsExpr e x.node → ShowsExpr e (tree.Paren x)
      -- a type of a lower rank than int has no constants, so such a value is converted
      ShowsConstant : (e : Expr) (n : ℤ) (t : IntType) (x : Tree) → out-Expr e ≡ one.Const n t → is_narrow t ≡ false → ShowsInteger p.target n t x → ShowsExpr e x
      ShowsNarrow : (e : Expr) (n : ℤ) (t : IntType) (type : TypeName) (x : At Tree) → out-Expr e ≡ one.Const n t → is_narrow t ≡ true → ShowsTypeName p.structures (plain (shape.Int t)) type → ShowsInteger p.target n t x.node →
          ShowsExpr e (tree.Cast type x)
      ShowsNull : (e : Expr) (t : CType) (type : TypeName) (x : At Tree) → out-Expr e ≡ one.Null t → ShowsTypeName p.structures t type → IsZero x.node → ShowsExpr e (tree.Cast type x)
      ShowsFunction : (e : Expr) (i : ℕ) (g : Func) → out-Expr e ≡ one.FuncAddr i → slice_get p.funcs i ≡ Some g → ShowsExpr e (tree.Named g.name)
      ShowsRead : (e : Expr) (a : Place) (x : Tree) → out-Expr e ≡ one.Load a → ShowsPlace a x → ShowsExpr e x
      ShowsAddress : (e : Expr) (a : Place) (x : At Tree) → out-Expr e ≡ one.AddrOf a → ShowsPlace a x.node → ShowsExpr e (tree.Prefix m.Amp x)
      ShowsUnary : (e : Expr) (o : UnOp) (t : IntType) (a : Expr) (x : At Tree) → out-Expr e ≡ one.Un o t a → ShowsExpr a x.node → ShowsExpr e (tree.Prefix (unary_mark o) x)
      ShowsConversion : (e : Expr) (t : IntType) (a : Expr) (type : TypeName) (x : At Tree) → out-Expr e ≡ one.Conv t a → ShowsTypeName p.structures (plain (shape.Int t)) type → ShowsExpr a x.node → ShowsExpr e (tree.Cast type x)
      ShowsQualified : (e : Expr) (t : CType) (a : Expr) (type : TypeName) (x : At Tree) → out-Expr e ≡ one.Qualify t a → ShowsTypeName p.structures t type → ShowsExpr a x.node → ShowsExpr e (tree.Cast type x)
      ShowsBinary : (e : Expr) (level : one.Expr-F Expr Place) (o : Mark) (a b : Expr) (x y : At Tree) → out-Expr e ≡ level → IsBinary level o a b → ShowsExpr a x.node → ShowsExpr b y.node → ShowsExpr e (tree.Binary o x y)
      ShowsChoice : (e c a b : Expr) (x y z : At Tree) → out-Expr e ≡ one.Choose c a b → ShowsExpr c x.node → ShowsExpr a y.node → ShowsExpr b z.node → ShowsExpr e (tree.Choose x y z)

    pub data ShowsPlace : Place → Tree → Type 0 where
      PlaceInParens : (a : Place) (x : At Tree) → ShowsPlace a x.node → ShowsPlace a (tree.Paren x)
      ShowsLocal : (a : Place) (r : ℕ) (l : Named) → out-Place a ≡ one.Local r → slice_get f.locals r ≡ Some l → ShowsPlace a (tree.Named l.0)
      ShowsStatic : (a : Place) (i : ℕ) (o : Object) → out-Place a ≡ one.Static i → slice_get p.objects i ≡ Some o → ShowsPlace a (tree.Named o.name)
      ShowsDevice : (a : Place) (i : ℕ) (d : Device) (x : Name) → out-Place a ≡ one.Device i → slice_get p.devices i ≡ Some d → d.name ≡ Some x → ShowsPlace a (tree.Named x)
      -- `*(volatile T *)n`
      ShowsNumbered : (a : Place) (i : ℕ) (d : Device) (type : TypeName) (j k : ℕ) → out-Place a ≡ one.Device i → slice_get p.devices i ≡ Some d → d.name ≡ None →
          ShowsTypeName p.structures (plain (shape.Pointer (qualified d.constant true (shape.Int d.int)))) type →
          ShowsPlace a (tree.Prefix m.Star (record { at = j; node = tree.Cast type (record { at = k; node = tree.Number d.number (plain_suffix d.number) }) }))
      ShowsElement : (a b : Place) (e : Expr) (x y : At Tree) → out-Place a ≡ one.Element b e → ShowsPlace b x.node → ShowsExpr e y.node → ShowsPlace a (tree.Subscript x y)
      ShowsMember : (a b : Place) (i : ℕ) (name : Name) (x : At Tree) → out-Place a ≡ one.Member b i → member_name p.structures i (place_type p f.locals b) ≡ Some name → ShowsPlace b x.node → ShowsPlace a (tree.Member x name)
      ShowsPointed : (a : Place) (e : Expr) (x : At Tree) → out-Place a ≡ one.Deref e → ShowsPointer e x.node → ShowsPlace a (tree.Prefix m.Star x)

    -- right under the `*` of an indirection a null is `(T)((void *)0)`, since `*(T)0` is a device
    pub data ShowsPointer : Expr → Tree → Type 0 where
      PointerInParens : (e : Expr) (x : At Tree) → ShowsPointer e x.node → ShowsPointer e (tree.Paren x)
      PointerNull : (e : Expr) (t : CType) (type : TypeName) (x : At Tree) → out-Expr e ≡ one.Null t → ShowsTypeName p.structures t type → IsVoidNull p.structures x.node → ShowsPointer e (tree.Cast type x)
      AnotherPointer : (e : Expr) (x : Tree) → is_null (out-Expr e) ≡ false → ShowsExpr e x → ShowsPointer e x

  -- A whole right side, argument or returned value, with the type of what takes it where it has one: there a value of a
  -- type of a lower rank than int is a constant of int, and a null of that type, outermost qualifiers aside, is `0`.
  pub data ShowsValue : Option CType → Expr → Tree → Type 0 where
    ValueInParens : (to : Option CType) (e : Expr) (x : At Tree) → ShowsValue to e x.node → ShowsValue to e (tree.Paren x)
    ValueOf : (to : Option CType) (e : Expr) (x : Tree) → ShowsExpr e x → ShowsValue to e x
    NarrowValue : (to : Option CType) (e : Expr) (n : ℤ) (t : IntType) (x : Tree) → out-Expr e ≡ one.Const n t → is_narrow t ≡ true → ShowsInteger p.target n t x → ShowsValue to e x
    NullValue : (to : CType) (e : Expr) (t : CType) (x : Tree) → out-Expr e ≡ one.Null t → alike t to ≡ true → IsZero x → ShowsValue (Some to) e x

  abbrev pub ShowsAt : Spot → Expr → Tree → Type 0
  ShowsAt (Whole to) e x = ShowsValue to e x
  ShowsAt Operand e x = ShowsExpr e x
  ShowsAt Converted e x = ShowsExpr e x
  ShowsAt Pointed e x = ShowsPointer e x
