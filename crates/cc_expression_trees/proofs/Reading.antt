-- The text of an operand, and of a place, is read as a tree that shows it, by induction over expressions.
use Rattle.std.proofs.Common.{◌≡◌, ℕ, suc, ◌+◌, ◌≤◌, Bool, true, false, cond, ℤ, [], ◌∷◌, length, Option, Some, None, refl, ap, sym, ◌∙◌, subst, arith, lit≤, slice_get}
use Rattle.std.specs.Option.{is_some}
use Rattle.cc_program.specs.CcNum.declared.int_type.IntType.{IntType}
use Rattle.cc_program.specs.CcNum.declared.op.BinOp.{BinOp}
use Rattle.cc_program.specs.CcNum.declared.op.BinOp.TheVariants as op
use Rattle.cc_program.specs.CcNum.declared.op.UnOp.{UnOp}
use Rattle.cc_program.specs.CcNum.declared.op.UnOp.TheVariants as unary_op
use Rattle.cc_lex.specs.declared.token.Kind.TheVariants as kind
use Rattle.cc_lex.specs.declared.token.Mark.{Mark}
use Rattle.cc_lex.specs.declared.token.Mark.TheVariants as m
use Rattle.cc_program.specs.declared.expr.Expr.{Expr, out-Expr, roll-Expr, out-roll-Expr, map-Expr}
use Rattle.cc_program.specs.declared.expr.Expr.TheOpen as one
use Rattle.cc_program.specs.declared.expr.Place.{Place, out-Place, roll-Place, out-roll-Place, map-Place}
use Rattle.cc_program.specs.declared.func.Func.{Func}
use Rattle.cc_program.specs.declared.object.Device.{Device}
use Rattle.cc_program.specs.declared.program.Program.{Program}
use Rattle.cc_program.specs.declared.types.CType.{CType}
use Rattle.cc_program.specs.declared.types.Shape.TheOpen as shape
use Rattle.cc_program.proofs.ExprInduction.{Parts, PlaceParts, by_expr, by_place}
use Rattle.cc_tree.specs.declared.at.At.{At}
use Rattle.cc_tree.specs.declared.tree.Tree as tree
use Rattle.cc_tree.specs.declared.tree.Tree.{Tree}
use Rattle.cc_tree.specs.declared.tree.TypeName.{TypeName}
use Rattle.cc_tree.specs.Operators.{operand_level, cast_level}
use Rattle.cc_tree.specs.Terms.{APrefix, ACast, ANumber}
use Rattle.cc_tree.specs.Tokens.{Name}
use Rattle.cc_pieces.specs.Constants.{is_narrow, constant}
use Rattle.cc_pieces.specs.Declarators.{declarator, int_name, type_name, qualifiers}
use Rattle.cc_pieces.specs.Pieces.{Pieces, punct, ident, plain_number, space, spelled}
use Rattle.cc_bodies.specs.Exprs.{Text, unary_mark, binary_mark, movement_mark, unary, binary, choice, conversion, constant_text, narrow, null_text, null_cast, numbered_device, device_by, device_text, Written, WrittenPlace, expr_written, place_written, written, place, expr, place_text}
use Rattle.cc_bodies.specs.Names.{named, local_name, object_name, func_name, member_name}
use Rattle.cc_bodies.specs.Spots.{Spot, Whole, Operand, Converted, Pointed, wraps_operation, wraps_conversion, converts_constant}
use Rattle.cc_bodies.proofs.Links.{level, place_level, place_type_linked}
use Rattle.cc_typed.specs.CcSyntax.Programs.{place_type, null_type}
use Rattle.cc_typed.specs.CcSyntax.Operators.{function_type}
use Rattle.cc_typed.specs.CcSyntax.SameTypes.{alike}
use Rattle.cc_expression_trees.specs.Types.{ShowsTypeName, plain_suffix}
use Rattle.cc_expression_trees.proofs.Parameters.{Reads}
use Rattle.cc_expression_trees.proofs.TypeNames.{type-name-of}
use Rattle.cc_expression_trees.specs.Constants.{plain, ShowsInteger, IsZero, IsVoidNull}
use Rattle.cc_expression_trees.specs.Exprs.{IsBinary, AnOperation, AMovement, ADifference, AComparison, ABoth, AnEither, is_null, ShowsExpr, InParens, ShowsConstant, ShowsNarrow, ShowsNull, ShowsFunction, ShowsRead, ShowsAddress, ShowsUnary, ShowsConversion, ShowsQualified, ShowsBinary, ShowsChoice, ShowsPlace, PlaceInParens, ShowsLocal, ShowsStatic, ShowsDevice, ShowsNumbered, ShowsElement, ShowsMember, ShowsPointed, ShowsPointer, PointerNull, AnotherPointer, ShowsValue, ValueOf, NarrowValue, NullValue, ShowsAt}
use Rattle.cc_expression_trees.specs.ReadExpressions.{ReadsTree, tightest, tightest_place}
use Rattle.cc_expression_trees.proofs.Forms.{ReadsName, showing, operation-loose, conversion-loose, place-loose, place-most, within-place, IsLevel, in-parens, wrapped, name-read, prefix-read, cast-read, binary-read, choice-read, subscript-read, member-read}
use Rattle.cc_expression_trees.proofs.Integers.{constant-read, zero-read, int-name-read, device-name-read, void-null-read}
use Rattle.cc_expression_trees.proofs.Types.{pointer-type-reads, null-reads}
use Rattle.cc_expression_trees.proofs.Typed.{held, IsOperand, IsOperandPlace, OperandParts, OperandPlaceParts, parts-of, place-parts-of}

-- ---- marks

level-is : (o : BinOp) → (k : ℕ) × IsLevel (binary_mark o) k
level-is op.Add = (11, (refl, (lit≤ tt, lit≤ tt)))
level-is op.Sub = (11, (refl, (lit≤ tt, lit≤ tt)))
level-is op.Mul = (12, (refl, (lit≤ tt, lit≤ tt)))
level-is op.Div = (12, (refl, (lit≤ tt, lit≤ tt)))
level-is op.Rem = (12, (refl, (lit≤ tt, lit≤ tt)))
level-is op.And = (7, (refl, (lit≤ tt, lit≤ tt)))
level-is op.Or = (5, (refl, (lit≤ tt, lit≤ tt)))
level-is op.Xor = (6, (refl, (lit≤ tt, lit≤ tt)))
level-is op.Shl = (10, (refl, (lit≤ tt, lit≤ tt)))
level-is op.Shr = (10, (refl, (lit≤ tt, lit≤ tt)))
level-is op.Lt = (9, (refl, (lit≤ tt, lit≤ tt)))
level-is op.Le = (9, (refl, (lit≤ tt, lit≤ tt)))
level-is op.Gt = (9, (refl, (lit≤ tt, lit≤ tt)))
level-is op.Ge = (9, (refl, (lit≤ tt, lit≤ tt)))
level-is op.Eq = (8, (refl, (lit≤ tt, lit≤ tt)))
level-is op.Ne = (8, (refl, (lit≤ tt, lit≤ tt)))

movement-is : (back : Bool) → IsLevel (movement_mark back) 11
movement-is true = (refl, (lit≤ tt, lit≤ tt))
movement-is false = (refl, (lit≤ tt, lit≤ tt))

operand-is : (o : UnOp) → operand_level (unary_mark o) ≡ Some cast_level
operand-is unary_op.Neg = refl
operand-is unary_op.Not = refl
operand-is unary_op.Lnot = refl

-- ---- what is claimed

name-of-type : (p : Program) (t : CType) → Reads p.structures (declarator p.structures t) t → (at : ℕ) (ps : Pieces) → ReadsName (ShowsTypeName p.structures t) at (type_name p.structures t ps) ps
name-of-type p t r at ps =
    let n = type-name-of p.structures (declarator p.structures t) t r at ps in
    record { type = n.type; shows = n.shows; next = n.next; is = n.is }

module _ (p : Program) (f : Func) where
  abbrev pub ReadsText : Expr → Text → Type 0
  ReadsText e text = (spot : Spot) (l at : ℕ) (ps : Pieces) → l ≤ tightest spot → ReadsTree (ShowsAt p f spot e) l at (text spot ps) ps

  abbrev pub ReadsPlaceText : Place → Text → Type 0
  ReadsPlaceText a text = (spot : Spot) (l at : ℕ) (ps : Pieces) → l ≤ tightest_place spot → ReadsTree (ShowsPlace p f a) l at (text spot ps) ps

  -- read as an operand anywhere
  abbrev ReadsOperand : Expr → Text → Type 0
  ReadsOperand e text = (spot : Spot) (l at : ℕ) (ps : Pieces) → l ≤ tightest spot → ReadsTree (ShowsExpr p f e) l at (text spot ps) ps

  at-spot : (e : Expr) (spot : Spot) → is_null (out-Expr e) ≡ false → (x : Tree) → ShowsExpr p f e x → ShowsAt p f spot e x
  at-spot e (Whole to) n x h = ValueOf to e x h
  at-spot e Operand n x h = h
  at-spot e Converted n x h = h
  at-spot e Pointed n x h = AnotherPointer e x n h

  anywhere : (e : Expr) (text : Text) → is_null (out-Expr e) ≡ false → ReadsOperand e text → ReadsText e text
  anywhere e text n h spot l at ps k = showing (at-spot e spot n) (h spot l at ps k)

  -- ---- forms

  binary-reads : (e a b : Expr) (x : one.Expr-F Expr Place) (o : Mark) (k : ℕ) (ta tb : Text) → IsLevel o k → out-Expr e ≡ x → IsBinary x o a b → ReadsText a ta → ReadsText b tb → ReadsOperand e (binary o ta tb)
  binary-reads e a b x o k ta tb i h g ra rb spot l at ps le = wrapped (ShowsExpr p f e) (InParens e) (wraps_operation spot) (λ qs. ta Operand (space ∷ punct o ∷ space ∷ tb Operand qs)) 2
      (λ l at qs le. binary-read (ShowsExpr p f e) (ShowsExpr p f a) (ShowsExpr p f b) o k i (λ y z c d. ShowsBinary e x o a b y z h g c d) _ (tb Operand qs) qs l at le
      (ra Operand k at (space ∷ punct o ∷ space ∷ tb Operand qs) (most k i.1.1)) (λ at. rb Operand (suc k) at qs (next k i.1.1))) l at ps (operation-loose spot l le) where
        most : (k : ℕ) → k ≤ 12 → k ≤ 13
        most k h = omega (arith, h)

        next : (k : ℕ) → k ≤ 12 → suc k ≤ 13
        next k h = omega (arith, h)

  choice-reads : (e c a b : Expr) (tc ta tb : Text) → out-Expr e ≡ one.Choose c a b → ReadsText c tc → ReadsText a ta → ReadsText b tb → ReadsOperand e (choice tc ta tb)
  choice-reads e c a b tc ta tb h rc ra rb spot l at ps le = wrapped (ShowsExpr p f e) (InParens e) (wraps_operation spot)
      (λ qs. tc Operand (space ∷ punct m.Question ∷ space ∷ ta Operand (space ∷ punct m.Colon ∷ space ∷ tb Operand qs))) 2
      (λ l at qs le. choice-read (ShowsExpr p f e) (ShowsExpr p f c) (ShowsExpr p f a) (ShowsExpr p f b) (λ x y z u v i. ShowsChoice e c a b x y z h u v i) _ (ta Operand (space ∷ punct m.Colon ∷ space ∷ tb Operand qs)) (tb Operand qs) qs l at le
      (rc Operand 3 at _ (lit≤ tt)) (λ at. ra Operand 0 at _ (lit≤ tt)) (λ at. rb Operand 2 at qs (lit≤ tt))) l at ps (operation-loose spot l le)

  unary-reads : (e : Expr) (T : Tree → Type 0) (o : Mark) (text : Text) (inner : Spot) → operand_level o ≡ Some cast_level → ((x : At Tree) → T x.node → ShowsExpr p f e (tree.Prefix o x)) →
      ((at : ℕ) (qs : Pieces) → ReadsTree T cast_level at (text inner qs) qs) → ReadsOperand e (unary o text inner)
  unary-reads e T o text inner i build r spot l at ps le = wrapped (ShowsExpr p f e) (InParens e) (wraps_operation spot) (λ qs. punct o ∷ text inner qs) 14
      (λ l at qs le. prefix-read (ShowsExpr p f e) T o i build (text inner qs) qs l at le (r _ qs)) l at ps (λ w. within-14 l (operation-loose spot l le w)) where
        within-14 : (l : ℕ) → l ≤ 2 → l ≤ 14
        within-14 l h = omega (arith, h)

  conversion-reads : (e a : Expr) (N : TypeName → Type 0) (name : Pieces → Pieces) (ta : Text) → ((t : TypeName) (x : At Tree) → N t → ShowsExpr p f a x.node → ShowsExpr p f e (tree.Cast t x)) →
      ((at : ℕ) (ps : Pieces) → ReadsName N at (name ps) ps) → ReadsText a ta → ReadsOperand e (conversion (λ qs. punct m.LParen ∷ name (punct m.RParen ∷ qs)) ta)
  conversion-reads e a N name ta build n r spot l at ps le = wrapped (ShowsExpr p f e) (InParens e) (wraps_conversion spot) (λ qs. punct m.LParen ∷ name (punct m.RParen ∷ ta Converted qs)) 13
      (λ l at qs le. cast-read (ShowsExpr p f e) (ShowsExpr p f a) N build name n (ta Converted qs) qs l at le (λ at. r Converted 13 at qs (lit≤ tt))) l at ps (conversion-loose spot l le)

  -- ---- constants

  narrow-reads : (e : Expr) (n : ℤ) (t : IntType) → out-Expr e ≡ one.Const n t → is_narrow t ≡ true → (spot : Spot) (l at : ℕ) (ps : Pieces) → l ≤ tightest spot → ReadsTree (ShowsExpr p f e) l at (narrow true p.target n t spot ps) ps
  narrow-reads e n t h k spot l at ps le = wrapped (ShowsExpr p f e) (InParens e) (wraps_conversion spot) (λ qs. punct m.LParen ∷ int_name t (punct m.RParen ∷ constant p.target n t qs)) 13
      (λ l at qs le. cast-read (ShowsExpr p f e) (ShowsInteger p.target n t) (ShowsTypeName p.structures (plain (shape.Int t))) (λ type x a b. ShowsNarrow e n t type x h k a b) (int_name t) (int-name-read p.structures t)
      (constant p.target n t qs) qs l at le (λ at. constant-read p.target n t 13 at qs)) l at ps (conversion-loose spot l le)

  not-null : (e : Expr) (n : ℤ) (t : IntType) → out-Expr e ≡ one.Const n t → is_null (out-Expr e) ≡ false
  not-null e n t h = ap is_null h

  spot-narrow : (e : Expr) (n : ℤ) (t : IntType) → out-Expr e ≡ one.Const n t → is_narrow t ≡ true → (spot : Spot) (l at : ℕ) (ps : Pieces) → l ≤ tightest spot → ReadsTree (ShowsAt p f spot e) l at (narrow (converts_constant spot) p.target n t spot ps) ps
  spot-narrow e n t h k (Whole to) l at ps le = showing (λ x i. NarrowValue to e n t x h k i) (constant-read p.target n t l at ps)
  spot-narrow e n t h k Operand l at ps le = narrow-reads e n t h k Operand l at ps le
  spot-narrow e n t h k Converted l at ps le = narrow-reads e n t h k Converted l at ps le
  spot-narrow e n t h k Pointed l at ps le = showing (at-spot e Pointed (not-null e n t h)) (narrow-reads e n t h k Pointed l at ps le)

  constant-reads : (e : Expr) (n : ℤ) (t : IntType) → out-Expr e ≡ one.Const n t → ReadsText e (constant_text p.target n t)
  constant-reads e n t h spot l at ps le = by (is_narrow t) refl where
    by : (b : Bool) → is_narrow t ≡ b → ReadsTree (ShowsAt p f spot e) l at (cond b (narrow (converts_constant spot) p.target n t spot ps) (constant p.target n t ps)) ps
    by true k = spot-narrow e n t h k spot l at ps le
    by false k = showing (λ x i. at-spot e spot (not-null e n t h) x (ShowsConstant e n t x h k i)) (constant-read p.target n t l at ps)

  -- ---- nulls

  null-cast-read : (e : Expr) (t : CType) → out-Expr e ≡ one.Null t → is_some (null_type p t) ≡ true → (l at : ℕ) (ps : Pieces) → l ≤ 13 → ReadsTree (ShowsExpr p f e) l at (null_cast p.structures t ps) ps
  null-cast-read e t h k l at ps le = cast-read (ShowsExpr p f e) IsZero (ShowsTypeName p.structures t) (λ type x a b. ShowsNull e t type x h a b) (type_name p.structures t)
      (name-of-type p t (null-reads p t k)) (plain_number 0 ∷ ps) ps l at le (λ at. zero-read 13 at ps)

  null-reads-text : (e : Expr) (t : CType) → out-Expr e ≡ one.Null t → is_some (null_type p t) ≡ true → ReadsText e (null_text p.structures t)
  null-reads-text e t h k (Whole None) l at ps le = showing (λ x i. ValueOf None e x i) (null-cast-read e t h k l at ps (omega (arith, le)))
  null-reads-text e t h k (Whole (Some u)) l at ps le = by (alike t u) refl where
    by : (b : Bool) → alike t u ≡ b → ReadsTree (ShowsValue p f (Some u) e) l at (cond b (plain_number 0 ∷ ps) (null_cast p.structures t ps)) ps
    by true i = showing (λ x z. NullValue u e t x h i z) (zero-read l at ps)
    by false i = showing (λ x z. ValueOf (Some u) e x z) (null-cast-read e t h k l at ps (omega (arith, le)))
  null-reads-text e t h k Operand l at ps le = null-cast-read e t h k l at ps le
  null-reads-text e t h k Converted l at ps le = in-parens (ShowsExpr p f e) (InParens e) (null_cast p.structures t) (λ at qs. null-cast-read e t h k 0 at qs (lit≤ tt)) l at ps
  null-reads-text e t h k Pointed l at ps le = cast-read (ShowsPointer p f e) (IsVoidNull p.structures) (ShowsTypeName p.structures t) (λ type x a b. PointerNull e t type x h a b) (type_name p.structures t)
      (name-of-type p t (null-reads p t k)) _ ps l at le (λ at. void-null-read p.structures 13 at ps)

  -- ---- places

  place-unary-reads : (a : Place) (T : Tree → Type 0) (text : Text) (inner : Spot) → ((x : At Tree) → T x.node → ShowsPlace p f a (tree.Prefix m.Star x)) →
      ((at : ℕ) (qs : Pieces) → ReadsTree T cast_level at (text inner qs) qs) → ReadsPlaceText a (unary m.Star text inner)
  place-unary-reads a T text inner build r spot l at ps le = wrapped (ShowsPlace p f a) (PlaceInParens a) (wraps_operation spot) (λ qs. punct m.Star ∷ text inner qs) 14
      (λ l at qs le. prefix-read (ShowsPlace p f a) T m.Star refl build (text inner qs) qs l at le (r _ qs)) l at ps (place-loose spot l le)

  numbered-read : (a : Place) (i : ℕ) (d : Device) → out-Place a ≡ one.Device i → slice_get p.devices i ≡ Some d → d.name ≡ None → (l at : ℕ) (ps : Pieces) → ReadsTree (ShowsPlace p f a) l at (numbered_device d ps) ps
  numbered-read a i d h g e l at ps = in-parens (ShowsPlace p f a) (PlaceInParens a) (λ qs. punct m.Star ∷ punct m.LParen ∷ qualifiers d.constant true (int_name d.int (space ∷ punct m.Star ∷ punct m.RParen ∷ plain_number d.number ∷ qs)))
      (λ at qs. star at qs) l at ps where
        star : (at : ℕ) (qs : Pieces) → ReadsTree (ShowsPlace p f a) 0 at (punct m.Star ∷ punct m.LParen ∷ qualifiers d.constant true (int_name d.int (space ∷ punct m.Star ∷ punct m.RParen ∷ plain_number d.number ∷ qs))) qs
        star at qs =
            let n = device-name-read p.structures d.constant d.int (at + 1 + 1) (punct m.RParen ∷ plain_number d.number ∷ qs) in
            let size = length (spelled (kind.Number d.number (plain_suffix d.number))) in
            record {
              tree = _;
              shows = ShowsNumbered a i d n.type (at + 1) (n.next + 1) h g e n.shows;
              next = n.next + 1 + size;
              is = APrefix [] 0 13 m.Star _ (at, 1) _ _ (lit≤ tt) refl (ACast [] 13 n.type _ (at + 1, 1) (n.next, 1) _ _ _ (lit≤ tt) n.is (ANumber [] 13 d.number (plain_suffix d.number) (n.next + 1, size) _));
            }

  device-reads : (a : Place) (i : ℕ) (d : Device) → out-Place a ≡ one.Device i → slice_get p.devices i ≡ Some d → (o : Option Name) → d.name ≡ o → (l at : ℕ) (ps : Pieces) → ReadsTree (ShowsPlace p f a) l at (device_by d o ps) ps
  device-reads a i d h g None e l at ps = numbered-read a i d h g e l at ps
  device-reads a i d h g (Some x) e l at ps = name-read (ShowsPlace p f a) x (ShowsDevice a i d x h g e) l at ps

  element-reads : (a b : Place) (e : Expr) (ta te : Text) → out-Place a ≡ one.Element b e → ReadsPlaceText b ta → ReadsText e te → ReadsPlaceText a (λ spot ps. ta Operand (punct m.LBracket ∷ te Operand (punct m.RBracket ∷ ps)))
  element-reads a b e ta te h rb re spot l at ps le = subscript-read (ShowsPlace p f a) (ShowsPlace p f b) (ShowsExpr p f e) (λ x y c d. ShowsElement a b e x y h c d) _ (te Operand (punct m.RBracket ∷ ps)) ps l at (place-most spot l le)
      (rb Operand 15 at (punct m.LBracket ∷ te Operand (punct m.RBracket ∷ ps)) (lit≤ tt)) (λ at. re Operand 0 at (punct m.RBracket ∷ ps) (lit≤ tt))

  member-reads : (a b : Place) (i : ℕ) (name : Name) (ta : Text) → out-Place a ≡ one.Member b i → member_name p.structures i (place_type p f.locals b) ≡ Some name → ReadsPlaceText b ta →
      ReadsPlaceText a (λ spot ps. ta Operand (punct m.Dot ∷ ident name ∷ ps))
  member-reads a b i name ta h g rb spot l at ps le = member-read (ShowsPlace p f a) (ShowsPlace p f b) name (λ x c. ShowsMember a b i name x h g c) _ ps l at (place-most spot l le) (rb Operand 15 at (punct m.Dot ∷ ident name ∷ ps) (lit≤ tt))

  -- ---- the law, by induction

  abbrev Read : Expr → Type 0
  Read e = IsOperand p f e → ReadsText e (expr p f e)

  abbrev PlaceRead : Place → Type 0
  PlaceRead a = IsOperandPlace p f a → ReadsPlaceText a (place_text p f a)

  -- what the level's text is read as
  at-level : (x : one.Expr-F Expr Place) → ReadsText (roll-Expr x) (expr_written p f (map-Expr Expr Place Written WrittenPlace (written p f) (place p f) x)).text → ReadsText (roll-Expr x) (expr p f (roll-Expr x))
  at-level x h = subst (λ w. ReadsText (roll-Expr x) w.text) (sym (level p f x)) h

  place-at-level : (x : one.Place-F Expr Place) → ReadsPlaceText (roll-Place x) (place_written p f (map-Place Expr Place Written WrittenPlace (written p f) (place p f) x)).text → ReadsPlaceText (roll-Place x) (place_text p f (roll-Place x))
  place-at-level x h = subst (λ w. ReadsPlaceText (roll-Place x) w.text) (sym (place_level p f x)) h

  other : (x : one.Expr-F Expr Place) → is_null x ≡ false → is_null (out-Expr (roll-Expr x)) ≡ false
  other x h = ap is_null (out-roll-Expr x) ∙ h

  two : (x : one.Expr-F Expr Place) (o : Mark) (a b : Expr) (k : ℕ) → is_null x ≡ false → IsLevel o k → IsBinary x o a b → Read a × Read b → IsOperand p f a × IsOperand p f b → ReadsText (roll-Expr x) (binary o (expr p f a) (expr p f b))
  two x o a b k n i g h t = anywhere (roll-Expr x) _ (other x n) (binary-reads (roll-Expr x) a b x o k (expr p f a) (expr p f b) i (out-roll-Expr x) g (h.0 t.0) (h.1 t.1))

  function-some : (o : Option Func) → is_some (function_type o) ≡ true → is_some o ≡ true
  function-some None h = absurd (cc)
  function-some (Some g) h = refl

  made-level : (x : one.Expr-F Expr Place) → Parts Read PlaceRead x → OperandParts p f x → ReadsText (roll-Expr x) (expr_written p f (map-Expr Expr Place Written WrittenPlace (written p f) (place p f) x)).text
  made-level (one.Const n t) h k = constant-reads (roll-Expr (one.Const n t)) n t (out-roll-Expr (one.Const n t))
  made-level (one.Null t) h k = null-reads-text (roll-Expr (one.Null t)) t (out-roll-Expr (one.Null t)) k
  made-level (one.FuncAddr i) h k =
      let e = roll-Expr (one.FuncAddr i) in
      let g = held (slice_get p.funcs i) (function-some (slice_get p.funcs i) k) in
      subst (λ o. ReadsText e (λ spot ps. named (func_name o) ps)) (sym g.1) (anywhere e _ (other (one.FuncAddr i) refl) (λ spot l at ps le. name-read (ShowsExpr p f e) g.0.name (ShowsFunction e i g.0 (out-roll-Expr (one.FuncAddr i)) g.1) l at ps))
  made-level (one.Load a) h k = let e = roll-Expr (one.Load a) in
      anywhere e _ (other (one.Load a) refl) (λ spot l at ps le. showing (λ x i. ShowsRead e a x (out-roll-Expr (one.Load a)) i) (h k spot l at ps (within-place spot l le)))
  made-level (one.AddrOf a) h k = let e = roll-Expr (one.AddrOf a) in
      anywhere e _ (other (one.AddrOf a) refl) (unary-reads e (ShowsPlace p f a) m.Amp (place_text p f a) Operand refl (λ x i. ShowsAddress e a x (out-roll-Expr (one.AddrOf a)) i) (λ at qs. h k Operand 13 at qs (lit≤ tt)))
  made-level (one.Un o t a) h k = let e = roll-Expr (one.Un o t a) in
      anywhere e _ (other (one.Un o t a) refl) (unary-reads e (ShowsExpr p f a) (unary_mark o) (expr p f a) Operand (operand-is o) (λ x i. ShowsUnary e o t a x (out-roll-Expr (one.Un o t a)) i) (λ at qs. h k Operand 13 at qs (lit≤ tt)))
  made-level (one.Bin o t a b) h k = let i = level-is o in two (one.Bin o t a b) (binary_mark o) a b i.0 refl i.1 (AnOperation o t a b) h k
  made-level (one.Conv t a) h k = let e = roll-Expr (one.Conv t a) in
      anywhere e _ (other (one.Conv t a) refl) (conversion-reads e a (ShowsTypeName p.structures (plain (shape.Int t))) (int_name t) (expr p f a) (λ type x c d. ShowsConversion e t a type x (out-roll-Expr (one.Conv t a)) c d) (int-name-read p.structures t) (h k))
  made-level (one.Qualify t a) h k = let e = roll-Expr (one.Qualify t a) in
      anywhere e _ (other (one.Qualify t a) refl) (conversion-reads e a (ShowsTypeName p.structures t) (type_name p.structures t) (expr p f a) (λ type x c d. ShowsQualified e t a type x (out-roll-Expr (one.Qualify t a)) c d)
      (name-of-type p t (pointer-type-reads p t k.0)) (h k.1))
  made-level (one.Move a b back) h k = two (one.Move a b back) (movement_mark back) a b 11 refl (movement-is back) (AMovement a b back) h k
  made-level (one.Gap a b) h k = two (one.Gap a b) m.Minus a b 11 refl (refl, (lit≤ tt, lit≤ tt)) (ADifference a b) h k
  made-level (one.Compare o a b) h k = let i = level-is o in two (one.Compare o a b) (binary_mark o) a b i.0 refl i.1 (AComparison o a b) h k
  made-level (one.Both a b) h k = two (one.Both a b) m.AndAnd a b 4 refl (refl, (lit≤ tt, lit≤ tt)) (ABoth a b) h k
  made-level (one.Either a b) h k = two (one.Either a b) m.OrOr a b 3 refl (refl, (lit≤ tt, lit≤ tt)) (AnEither a b) h k
  made-level (one.Choose c a b) h k = let e = roll-Expr (one.Choose c a b) in
      anywhere e _ (other (one.Choose c a b) refl) (choice-reads e c a b (expr p f c) (expr p f a) (expr p f b) (out-roll-Expr (one.Choose c a b)) (h.0 k.0) (h.1 k.1.0) (h.2 k.1.1))
  made-level (one.Assign a e) h k = absurd k
  made-level (one.Change a o t e) h k = absurd k
  made-level (one.After a down) h k = absurd k
  made-level (one.Call g args) h k = absurd k
  made-level (one.Intr i a) h k = absurd k
  made-level (one.Seq a b) h k = absurd k

  made : (x : one.Expr-F Expr Place) → Parts Read PlaceRead x → Read (roll-Expr x)
  made x h t = at-level x (made-level x h (parts-of p f x t))

  place-made-level : (x : one.Place-F Expr Place) → PlaceParts Read PlaceRead x → OperandPlaceParts p f x → ReadsPlaceText (roll-Place x) (place_written p f (map-Place Expr Place Written WrittenPlace (written p f) (place p f) x)).text
  place-made-level (one.Local r) h k =
      let a = roll-Place (one.Local r) in
      let g = held (slice_get f.locals r) k in
      subst (λ o. ReadsPlaceText a (λ spot ps. named (local_name o) ps)) (sym g.1) (λ spot l at ps le. name-read (ShowsPlace p f a) g.0.0 (ShowsLocal a r g.0 (out-roll-Place (one.Local r)) g.1) l at ps)
  place-made-level (one.Static i) h k =
      let a = roll-Place (one.Static i) in
      let g = held (slice_get p.objects i) k in
      subst (λ o. ReadsPlaceText a (λ spot ps. named (object_name o) ps)) (sym g.1) (λ spot l at ps le. name-read (ShowsPlace p f a) g.0.name (ShowsStatic a i g.0 (out-roll-Place (one.Static i)) g.1) l at ps)
  place-made-level (one.Device d) h k =
      let a = roll-Place (one.Device d) in
      let g = held (slice_get p.devices d) k in
      subst (λ o. ReadsPlaceText a (λ spot ps. device_text o ps)) (sym g.1) (λ spot l at ps le. device-reads a d g.0 (out-roll-Place (one.Device d)) g.1 g.0.name refl l at ps)
  place-made-level (one.Element b e) h k = element-reads (roll-Place (one.Element b e)) b e (place_text p f b) (expr p f e) (out-roll-Place (one.Element b e)) (h.0 k.0) (h.1 k.1)
  place-made-level (one.Member b i) h k =
      let a = roll-Place (one.Member b i) in
      let g = held (member_name p.structures i (place_type p f.locals b)) k.1 in
      subst (λ o. ReadsPlaceText a (λ spot ps. place_text p f b Operand (punct m.Dot ∷ named o ps))) (sym (ap (member_name p.structures i) (place_type_linked p f b) ∙ g.1))
      (member-reads a b i g.0 (place_text p f b) (out-roll-Place (one.Member b i)) g.1 (h k.0))
  place-made-level (one.Deref e) h k = let a = roll-Place (one.Deref e) in
      place-unary-reads a (ShowsPointer p f e) (expr p f e) Pointed (λ x i. ShowsPointed a e x (out-roll-Place (one.Deref e)) i) (λ at qs. h k Pointed 13 at qs (lit≤ tt))

  place-made : (x : one.Place-F Expr Place) → PlaceParts Read PlaceRead x → PlaceRead (roll-Place x)
  place-made x h t = place-at-level x (place-made-level x h (place-parts-of p f x t))

  pub expr-reads : (e : Expr) → IsOperand p f e → ReadsText e (expr p f e)
  expr-reads = by_expr Read PlaceRead made place-made

  pub place-reads : (a : Place) → IsOperandPlace p f a → ReadsPlaceText a (place_text p f a)
  place-reads = by_place Read PlaceRead made place-made
