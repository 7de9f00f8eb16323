-- The pieces of an operand, and of a place, part from one another, by induction over expressions.
use Rattle.std.proofs.Common.{◌≡◌, ◌≤◌, ◌-◌, ◌^◌, ℕ, Bool, true, false, ◌||◌, eqb, cond, ℤ, List, [], ◌∷◌, ◌++◌, Option, Some, None, refl, ap, sym, ◌∙◌, subst, arith, lit≤, slice_get, true≢false}
use Rattle.std.proofs.lemmas.Bool.Decides.{nat_tests}
use Rattle.std.specs.Option.{is_some}
use Rattle.std.specs.List.{list_all}
use Rattle.cc_program.specs.CcNum.declared.int_type.IntType.{IntType}
use Rattle.cc_program.specs.CcNum.declared.op.BinOp.{BinOp}
use Rattle.cc_program.specs.CcNum.declared.op.BinOp.TheVariants as op
use Rattle.cc_program.specs.CcNum.declared.op.UnOp.{UnOp}
use Rattle.cc_program.specs.CcNum.declared.op.UnOp.TheVariants as unary_op
use Rattle.cc_program.specs.CcNum.Integers.{is_value_of}
use Rattle.cc_program.proofs.CcNum.ResultLaws.{value_from_test}
use Rattle.cc_program.specs.CcWords.Names.{is_name, is_letter, is_letter_or_digit, is_identifier}
use Rattle.cc_lex.specs.Bytes.{begins_with}
use Rattle.cc_lex.specs.declared.token.Kind.TheVariants as kind
use Rattle.cc_lex.specs.declared.token.Mark.{Mark}
use Rattle.cc_lex.specs.declared.token.Mark.TheVariants as m
use Rattle.cc_lex.proofs.Booleans.{and-true, or-false}
use Rattle.cc_program.specs.declared.expr.Expr.{Expr, roll-Expr, map-Expr}
use Rattle.cc_program.specs.declared.expr.Expr.TheOpen as one
use Rattle.cc_program.specs.declared.expr.Place.{Place, roll-Place, map-Place}
use Rattle.cc_program.specs.declared.func.Func.{Func}
use Rattle.cc_program.specs.declared.object.Device.{Device}
use Rattle.cc_program.specs.declared.program.Program.{Program}
use Rattle.cc_program.specs.declared.types.CType.{CType}
use Rattle.cc_program.specs.declared.types.Shape.{Shape, out-Shape}
use Rattle.cc_program.specs.declared.types.Shape.TheOpen as shape
use Rattle.cc_program.specs.declared.types.Sig.{Sig}
use Rattle.cc_program.specs.declared.types.Structure.{Structure}
use Rattle.cc_program.proofs.ExprInduction.{Parts, PlaceParts, by_expr, by_place}
use Rattle.cc_tree.specs.Tokens.{Name}
use Rattle.cc_pieces.specs.Constants.{is_narrow, constant}
use Rattle.cc_pieces.specs.Declarators.{int_name, type_name, qualifiers}
use Rattle.cc_pieces.specs.declared.types.Inside.TheVariants.{Nothing}
use Rattle.cc_pieces.specs.Pieces.{Pieces, punct, ident, plain_number, space, flat, opening, closing}
use Rattle.cc_expression_trees.specs.Parts.{Fits, is_inside, is_apart}
use Rattle.cc_expression_trees.proofs.Spelling.{name-parts}
use Rattle.cc_bodies.specs.Exprs.{Text, unary_mark, binary_mark, movement_mark, unary, binary, choice, conversion, constant_text, narrow, null_text, null_cast, void_null, device_by, device_text, Written, WrittenPlace, expr_written, place_written, written, place, expr, place_text}
use Rattle.cc_bodies.specs.Names.{named, local_name, object_name, func_name, member_name, member_shape, member_at}
use Rattle.cc_bodies.specs.Spots.{Spot, Whole, Operand, Converted, Pointed, wraps_operation, wraps_conversion, converts_constant}
use Rattle.cc_bodies.proofs.Links.{level, place_level, place_type_linked}
use Rattle.cc_typed.specs.CcSyntax.Programs.{place_type, null_type}
use Rattle.cc_typed.specs.CcSyntax.Operators.{function_type, when}
use Rattle.cc_typed.specs.CcSyntax.SameTypes.{alike}
use Rattle.cc_typed.specs.CcSyntax.Types.{Named}
use Rattle.cc_typed.specs.CcSyntax.Values.{PlaceType, DevicePlace, ObjectPlace, FunctionPlace, Integer}
use Rattle.cc_expression_trees.specs.Soft.{IsSoft}
use Rattle.cc_expression_trees.proofs.Bases.{int-fits}
use Rattle.cc_expression_trees.proofs.TypeFitting.{name-apart, open-apart, close-apart, bracket-apart, unbracket-apart, number-fits}
use Rattle.cc_expression_trees.proofs.Parameters.{nothing-fits}
use Rattle.cc_expression_trees.specs.Names.{HasNames}
use Rattle.cc_expression_trees.proofs.Numbers.{is_first, Starts, constant-fits}
use Rattle.cc_expression_trees.proofs.Typed.{held, IsOperand, IsOperandPlace, OperandParts, OperandPlaceParts, parts-of, place-parts-of}
use Rattle.cc_expression_trees.proofs.Types.{pointer-type-fits, null-type-fits}

-- ---- marks

abbrev ApartBefore : Mark → Type 0
ApartBefore o = (is_inside o ≡ true) × ((text : List ℕ) → Starts text → is_apart (kind.Punct o) text ≡ true)

unary-parts : (o : UnOp) (text : List ℕ) → Starts text → is_apart (kind.Punct (unary_mark o)) text ≡ true
unary-parts unary_op.Neg [] h = refl
unary-parts unary_op.Neg (b ∷ text) h = grind (arith, nat_tests)
unary-parts unary_op.Not [] h = refl
unary-parts unary_op.Not (b ∷ text) h = refl
unary-parts unary_op.Lnot [] h = refl
unary-parts unary_op.Lnot (b ∷ text) h = grind (arith, nat_tests)

unary-inside : (o : UnOp) → is_inside (unary_mark o) ≡ true
unary-inside unary_op.Neg = refl
unary-inside unary_op.Not = refl
unary-inside unary_op.Lnot = refl

amp-parts : (text : List ℕ) → Starts text → is_apart (kind.Punct m.Amp) text ≡ true
amp-parts [] h = refl
amp-parts (b ∷ text) h = grind (arith, nat_tests)

star-parts : (text : List ℕ) → Starts text → is_apart (kind.Punct m.Star) text ≡ true
star-parts [] h = refl
star-parts (b ∷ text) h = grind (arith, nat_tests)

-- a mark between two spaces
abbrev IsSpaced : Mark → Type 0
IsSpaced o = (is_inside o ≡ true) × ((text : List ℕ) → is_apart (kind.Punct o) (32 ∷ text) ≡ true)

binary-parts : (o : BinOp) (text : List ℕ) → is_apart (kind.Punct (binary_mark o)) (32 ∷ text) ≡ true
binary-parts op.Add text = refl
binary-parts _ text = refl

binary-inside : (o : BinOp) → is_inside (binary_mark o) ≡ true
binary-inside op.Add = refl
binary-inside _ = refl

movement-spaced : (back : Bool) → IsSpaced (movement_mark back)
movement-spaced true = (refl, λ text. refl)
movement-spaced false = (refl, λ text. refl)

-- ---- names

name-starts : (x text : List ℕ) → is_identifier x ≡ true → Starts (x ++ text)
name-starts [] text h = absurd (cc)
name-starts (b ∷ bs) text h = first b (and-true (is_letter b) (list_all is_letter_or_digit bs) h).0 where
  first : (b : ℕ) → is_letter b ≡ true → is_first b ≡ true
  first b h = rw h refl

-- ---- what is claimed

-- where the text is no whole right side it begins with a letter, a digit or a parenthesis
abbrev pub is_whole : Spot → Bool
is_whole (Whole to) = true
is_whole Operand = false
is_whole Converted = false
is_whole Pointed = false

abbrev pub FitsText : Text → Type 0
FitsText text = (spot : Spot) (ps : Pieces) → Fits ps → IsSoft (flat ps) → Fits (text spot ps) × (is_whole spot ≡ false → Starts (flat (text spot ps)))

-- a place ends with a name or a bracket where it is no whole right side
abbrev pub NoWord : List ℕ → Type 0
NoWord text = begins_with is_letter_or_digit text ≡ false

abbrev pub SoftAt : Spot → List ℕ → Type 0
SoftAt (Whole to) text = IsSoft text
SoftAt Operand text = NoWord text
SoftAt Converted text = NoWord text
SoftAt Pointed text = NoWord text

abbrev pub FitsPlaceText : Text → Type 0
FitsPlaceText text = (spot : Spot) (ps : Pieces) → Fits ps → SoftAt spot (flat ps) → Fits (text spot ps) × (is_whole spot ≡ false → Starts (flat (text spot ps)))

soft-no-word : (text : List ℕ) → IsSoft text → NoWord text
soft-no-word [] h = refl
soft-no-word (b ∷ text) h = (or-false (is_letter_or_digit b) (eqb b 46 || eqb b 61) h).0

pub soft-at : (spot : Spot) (text : List ℕ) → IsSoft text → SoftAt spot text
soft-at (Whole to) text h = h
soft-at Operand text h = soft-no-word text h
soft-at Converted text h = soft-no-word text h
soft-at Pointed text h = soft-no-word text h

no-word : (spot : Spot) (text : List ℕ) → SoftAt spot text → NoWord text
no-word (Whole to) text h = soft-no-word text h
no-word Operand text h = h
no-word Converted text h = h
no-word Pointed text h = h

word-free : (x text : List ℕ) → NoWord text → is_apart (kind.Ident x) text ≡ true
word-free x [] h = refl
word-free x (b ∷ text) h = rw h refl

wrapped-fits : (t : Bool) (inner : Pieces → Pieces) → ((qs : Pieces) → Fits qs → IsSoft (flat qs) → Fits (inner qs)) → (ps : Pieces) → Fits ps → IsSoft (flat ps) → Fits (opening t (inner (closing t ps)))
wrapped-fits false inner k ps f s = k ps f s
wrapped-fits true inner k ps f s = (refl, open-apart (flat (inner (punct m.RParen ∷ ps))), k (punct m.RParen ∷ ps) (refl, close-apart (flat ps), f) refl)

-- an operation is in parentheses where it is no whole right side
operation-fits : (inner : Pieces → Pieces) → ((qs : Pieces) → Fits qs → IsSoft (flat qs) → Fits (inner qs)) → FitsText (λ spot ps. opening (wraps_operation spot) (inner (closing (wraps_operation spot) ps)))
operation-fits inner k (Whole to) ps f s = (k ps f s, λ e. absurd (true≢false e))
operation-fits inner k Operand ps f s = (wrapped-fits true inner k ps f s, λ e. refl)
operation-fits inner k Converted ps f s = (wrapped-fits true inner k ps f s, λ e. refl)
operation-fits inner k Pointed ps f s = (wrapped-fits true inner k ps f s, λ e. refl)

binary-fits : (o : Mark) (a b : Text) → IsSpaced o → FitsText a → FitsText b → FitsText (binary o a b)
binary-fits o a b i ra rb = operation-fits (λ qs. a Operand (space ∷ punct o ∷ space ∷ b Operand qs)) (λ qs f s.
    (ra Operand (space ∷ punct o ∷ space ∷ b Operand qs) (refl, (i.0, i.1 (flat (b Operand qs)), (refl, (rb Operand qs f s).0))) refl).0)

choice-fits : (c a b : Text) → FitsText c → FitsText a → FitsText b → FitsText (choice c a b)
choice-fits c a b rc ra rb = operation-fits (λ qs. c Operand (space ∷ punct m.Question ∷ space ∷ a Operand (space ∷ punct m.Colon ∷ space ∷ b Operand qs))) (λ qs f s.
    (rc Operand _ (refl, (refl, refl, (refl, (ra Operand _ (refl, (refl, refl, (refl, (rb Operand qs f s).0))) refl).0))) refl).0)

unary-fits : (o : Mark) (text : Text) (inner : Spot) → ApartBefore o → is_whole inner ≡ false → FitsText text → FitsText (unary o text inner)
unary-fits o text inner i n r = operation-fits (λ qs. punct o ∷ text inner qs) (λ qs f s. let q = r inner qs f s in (i.0, i.1 (flat (text inner qs)) (q.1 n), q.0))

-- a conversion begins with a parenthesis
conversion-fits : (name : Pieces → Pieces) (a : Text) → ((ps : Pieces) → Fits ps → IsSoft (flat ps) → Fits (name ps)) → FitsText a → FitsText (conversion (λ qs. punct m.LParen ∷ name (punct m.RParen ∷ qs)) a)
conversion-fits name a k r spot ps f s = (
  wrapped-fits (wraps_conversion spot) (λ qs. punct m.LParen ∷ name (punct m.RParen ∷ a Converted qs)) (λ qs f s.
      (refl, open-apart (flat (name (punct m.RParen ∷ a Converted qs))), k (punct m.RParen ∷ a Converted qs) (refl, close-apart (flat (a Converted qs)), (r Converted qs f s).0) refl)) ps f s,
  λ e. starts (wraps_conversion spot) ps,
) where
  starts : (t : Bool) (ps : Pieces) → Starts (flat (opening t (punct m.LParen ∷ name (punct m.RParen ∷ a Converted (closing t ps)))))
  starts true ps = refl
  starts false ps = refl

name-text-fits : (x : Name) → is_name x ≡ true → FitsText (λ spot ps. ident x ∷ ps)
name-text-fits x n spot ps f s = ((n, name-apart x (flat ps) s, f), λ e. name-starts x (flat ps) (name-parts x n).form)

name-place-fits : (x : Name) → is_name x ≡ true → FitsPlaceText (λ spot ps. ident x ∷ ps)
name-place-fits x n spot ps f s = ((n, word-free x (flat ps) (no-word spot (flat ps) s), f), λ e. name-starts x (flat ps) (name-parts x n).form)

starred : (text : Text) → FitsText text → (ps : Pieces) → Fits ps → Fits (punct m.LParen ∷ punct m.Star ∷ text Pointed (punct m.RParen ∷ ps))
starred text r ps g = let q = r Pointed (punct m.RParen ∷ ps) (refl, close-apart (flat ps), g) refl in (refl, refl, (refl, star-parts (flat (text Pointed (punct m.RParen ∷ ps))) (q.1 refl), q.0))

-- ---- constants

int-name-fits : (t : IntType) (ps : Pieces) → Fits ps → IsSoft (flat ps) → Fits (int_name t ps)
int-name-fits t ps f s = int-fits false false t ps s f

module _ (p : Program) where
  constant-text-fits : (n : ℤ) (t : IntType) → is_value_of t p.target n ≡ true → FitsText (constant_text p.target n t)
  constant-text-fits n t v spot ps f s = by (is_narrow t) where
    bare : FitsText (λ spot ps. constant p.target n t ps)
    bare spot ps f s = let q = constant-fits p.target n t (value_from_test t p.target n v) ps f s in (q.0, λ e. q.1)

    narrowed : (c : Bool) → FitsText (narrow c p.target n t)
    narrowed false = bare
    narrowed true = conversion-fits (int_name t) (λ spot ps. constant p.target n t ps) (int-name-fits t) bare

    by : (b : Bool) → Fits (cond b (narrow (converts_constant spot) p.target n t spot ps) (constant p.target n t ps)) × (is_whole spot ≡ false → Starts (flat (cond b (narrow (converts_constant spot) p.target n t spot ps) (constant p.target n t ps))))
    by true = narrowed (converts_constant spot) spot ps f s
    by false = bare spot ps f s

  module _ (f : Func) (names : HasNames p f) where
    name-fits : (t : CType) → is_some (null_type p t) ≡ true → (ps : Pieces) → Fits ps → IsSoft (flat ps) → Fits (type_name p.structures t ps)
    name-fits t k ps g s = null-type-fits p names.tags t k Nothing (λ qs. qs) nothing-fits ps g s

    null-cast-fits : (t : CType) → is_some (null_type p t) ≡ true → (ps : Pieces) → Fits ps → IsSoft (flat ps) → Fits (null_cast p.structures t ps)
    null-cast-fits t k ps g s = (refl, open-apart (flat (type_name p.structures t (punct m.RParen ∷ plain_number 0 ∷ ps))), name-fits t k (punct m.RParen ∷ plain_number 0 ∷ ps) (refl, close-apart (flat (plain_number 0 ∷ ps)), number-fits 0 ps (lit≤ tt) s g) refl)

    void-null-fits : (ps : Pieces) → Fits ps → Fits (void_null ps)
    void-null-fits ps g = (refl, refl, (refl, refl, (tt, refl, (refl, (refl, refl, (refl, close-apart (flat (plain_number 0 ∷ punct m.RParen ∷ ps)), number-fits 0 (punct m.RParen ∷ ps) (lit≤ tt) refl (refl, close-apart (flat ps), g)))))))

    null-text-fits : (t : CType) → is_some (null_type p t) ≡ true → FitsText (null_text p.structures t)
    null-text-fits t k (Whole None) ps g s = (null-cast-fits t k ps g s, λ e. refl)
    null-text-fits t k (Whole (Some u)) ps g s = (by (alike t u), λ e. absurd (true≢false e)) where
      by : (b : Bool) → Fits (cond b (plain_number 0 ∷ ps) (null_cast p.structures t ps))
      by true = number-fits 0 ps (lit≤ tt) s g
      by false = null-cast-fits t k ps g s
    null-text-fits t k Operand ps g s = (null-cast-fits t k ps g s, λ e. refl)
    null-text-fits t k Converted ps g s = ((refl, refl, null-cast-fits t k (punct m.RParen ∷ ps) (refl, close-apart (flat ps), g) refl), λ e. refl)
    null-text-fits t k Pointed ps g s = ((refl, open-apart (flat (type_name p.structures t (punct m.RParen ∷ void_null ps))), name-fits t k (punct m.RParen ∷ void_null ps) (refl, close-apart (flat (void_null ps)), void-null-fits ps g) refl), λ e. refl)

    -- ---- places

    device-fits : (d : Device) → d.number ≤ 2 ^ 63 - 1 → ((x : Name) → d.name ≡ Some x → is_name x ≡ true) → (o : Option Name) → d.name ≡ o → FitsPlaceText (λ spot ps. device_by d o ps)
    device-fits d l n (Some x) e spot ps g s = name-place-fits x (n x e) spot ps g s
    device-fits d l n None e spot ps g s = (
      (
        refl,
        refl,
        (
          refl,
          refl,
          (
            refl,
            open-apart (flat (qualifiers d.constant true (int_name d.int (space ∷ punct m.Star ∷ punct m.RParen ∷ plain_number d.number ∷ punct m.RParen ∷ ps)))),
            int-fits d.constant true d.int (space ∷ punct m.Star ∷ punct m.RParen ∷ plain_number d.number ∷ punct m.RParen ∷ ps) refl
                (refl, (refl, refl, (refl, close-apart (flat (plain_number d.number ∷ punct m.RParen ∷ ps)), number-fits d.number (punct m.RParen ∷ ps) l refl (refl, close-apart (flat ps), g)))),
          ),
        ),
      ),
      λ e. refl,
    )

    element-fits : (a e : Text) → FitsPlaceText a → FitsText e → FitsPlaceText (λ spot ps. a Operand (punct m.LBracket ∷ e Operand (punct m.RBracket ∷ ps)))
    element-fits a e ra re spot ps g s =
        let q = ra Operand (punct m.LBracket ∷ e Operand (punct m.RBracket ∷ ps)) (refl, bracket-apart (flat (e Operand (punct m.RBracket ∷ ps))), (re Operand (punct m.RBracket ∷ ps) (refl, unbracket-apart (flat ps), g) refl).0) refl in
        (q.0, λ k. q.1 refl)

    dot-apart : (x text : List ℕ) → is_identifier x ≡ true → is_apart (kind.Punct m.Dot) (x ++ text) ≡ true
    dot-apart [] text h = absurd (cc)
    dot-apart (b ∷ bs) text h = dot b (and-true (is_letter b) (list_all is_letter_or_digit bs) h).0 where
      dot : (b : ℕ) → is_letter b ≡ true → is_apart (kind.Punct m.Dot) (b ∷ (bs ++ text)) ≡ true
      dot b h = grind (arith, nat_tests)

    member-fits : (a : Text) (x : Name) → is_name x ≡ true → FitsPlaceText a → FitsPlaceText (λ spot ps. a Operand (punct m.Dot ∷ ident x ∷ ps))
    member-fits a x n ra spot ps g s =
        let q = ra Operand (punct m.Dot ∷ ident x ∷ ps) (refl, dot-apart x (flat ps) (name-parts x n).form, (n, word-free x (flat ps) (no-word spot (flat ps) s), g)) refl in
        (q.0, λ k. q.1 refl)

    star-fits : (text : Text) → FitsText text → FitsPlaceText (unary m.Star text Pointed)
    star-fits text r (Whole to) ps g s = let q = r Pointed ps g s in ((refl, star-parts (flat (text Pointed ps)) (q.1 refl), q.0), λ e. absurd (true≢false e))
    star-fits text r Operand ps g s = (starred text r ps g, λ e. refl)
    star-fits text r Converted ps g s = (starred text r ps g, λ e. refl)
    star-fits text r Pointed ps g s = (starred text r ps g, λ e. refl)

    -- ---- the law, by induction

    -- the numbers of devices are addresses
    module _ (addresses : (i : ℕ) (d : Device) → slice_get p.devices i ≡ Some d → d.number ≤ 2 ^ 63 - 1) where
      abbrev Fit : Expr → Type 0
      Fit e = IsOperand p f e → FitsText (expr p f e)

      abbrev PlaceFit : Place → Type 0
      PlaceFit a = IsOperandPlace p f a → FitsPlaceText (place_text p f a)

      function-some : (o : Option Func) → is_some (function_type o) ≡ true → is_some o ≡ true
      function-some None h = absurd (cc)
      function-some (Some g) h = refl

      in-range : (b : Bool) (t : IntType) → is_some (when b (Integer t)) ≡ true → b ≡ true
      in-range true t h = refl
      in-range false t h = absurd (cc)

      read-fits : (a : Text) → FitsPlaceText a → FitsText a
      read-fits a r spot ps g s = r spot ps g (soft-at spot (flat ps) s)

      fit-level : (x : one.Expr-F Expr Place) → Parts Fit PlaceFit x → OperandParts p f x → FitsText (expr_written p f (map-Expr Expr Place Written WrittenPlace (written p f) (place p f) x)).text
      fit-level (one.Const n t) h k = constant-text-fits n t (in-range (is_value_of t p.target n) t k)
      fit-level (one.Null t) h k = null-text-fits t k
      fit-level (one.FuncAddr i) h k =
          let g = held (slice_get p.funcs i) (function-some (slice_get p.funcs i) k) in
          subst (λ o. FitsText (λ spot ps. named (func_name o) ps)) (sym g.1) (name-text-fits g.0.name (names.funcs i g.0 g.1))
      fit-level (one.Load a) h k = read-fits (place_text p f a) (h k)
      fit-level (one.AddrOf a) h k = unary-fits m.Amp (place_text p f a) Operand (refl, amp-parts) refl (read-fits (place_text p f a) (h k))
      fit-level (one.Un o t a) h k = unary-fits (unary_mark o) (expr p f a) Operand (unary-inside o, unary-parts o) refl (h k)
      fit-level (one.Bin o t a b) h k = binary-fits (binary_mark o) (expr p f a) (expr p f b) (binary-inside o, binary-parts o) (h.0 k.0) (h.1 k.1)
      fit-level (one.Conv t a) h k = conversion-fits (int_name t) (expr p f a) (int-name-fits t) (h k)
      fit-level (one.Qualify t a) h k = conversion-fits (type_name p.structures t) (expr p f a) (λ ps g s. pointer-type-fits p names.tags t k.0 Nothing (λ qs. qs) nothing-fits ps g s) (h k.1)
      fit-level (one.Move a b back) h k = binary-fits (movement_mark back) (expr p f a) (expr p f b) (movement-spaced back) (h.0 k.0) (h.1 k.1)
      fit-level (one.Gap a b) h k = binary-fits m.Minus (expr p f a) (expr p f b) (refl, λ text. refl) (h.0 k.0) (h.1 k.1)
      fit-level (one.Compare o a b) h k = binary-fits (binary_mark o) (expr p f a) (expr p f b) (binary-inside o, binary-parts o) (h.0 k.0) (h.1 k.1)
      fit-level (one.Both a b) h k = binary-fits m.AndAnd (expr p f a) (expr p f b) (refl, λ text. refl) (h.0 k.0) (h.1 k.1)
      fit-level (one.Either a b) h k = binary-fits m.OrOr (expr p f a) (expr p f b) (refl, λ text. refl) (h.0 k.0) (h.1 k.1)
      fit-level (one.Choose c a b) h k = choice-fits (expr p f c) (expr p f a) (expr p f b) (h.0 k.0) (h.1 k.1.0) (h.2 k.1.1)
      fit-level (one.Assign a e) h k = absurd k
      fit-level (one.Change a o t e) h k = absurd k
      fit-level (one.After a down) h k = absurd k
      fit-level (one.Call g args) h k = absurd k
      fit-level (one.Intr i a) h k = absurd k
      fit-level (one.Seq a b) h k = absurd k

      fitted : (x : one.Expr-F Expr Place) → Parts Fit PlaceFit x → Fit (roll-Expr x)
      fitted x h t = subst (λ w. FitsText w.text) (sym (level p f x)) (fit-level x h (parts-of p f x t))

      member-name-is : (structures : List Structure) (i : ℕ) (o : Option PlaceType) (x : Name) → member_name structures i o ≡ Some x → ((j k : ℕ) (s : Structure) (m : Named) → slice_get structures j ≡ Some s → slice_get s.members k ≡ Some m → is_name m.0 ≡ true) → is_name x ≡ true
      member-name-is structures i None x h n = absurd (cc)
      member-name-is structures i (Some (DevicePlace constant t)) x h n = absurd (cc)
      member-name-is structures i (Some (FunctionPlace sig)) x h n = absurd (cc)
      member-name-is structures i (Some (ObjectPlace constant volatile t)) x h n = of-shape (out-Shape t.shape) h where
        of-member : (j : ℕ) (s : Structure) (m : Option Named) → slice_get structures j ≡ Some s → slice_get s.members i ≡ m → local_name m ≡ Some x → is_name x ≡ true
        of-member j s None e g h = absurd (cc)
        of-member j s (Some m) e g h = let same : m.0 ≡ x = cc in subst (λ y. is_name y ≡ true) same (n j i s m e g)

        of-structure : (j : ℕ) (s : Option Structure) → slice_get structures j ≡ s → member_at i s ≡ Some x → is_name x ≡ true
        of-structure j None e h = absurd (cc)
        of-structure j (Some s) e h = of-member j s (slice_get s.members i) e refl h

        of-shape : (y : shape.Shape-F Shape CType Sig) → member_shape structures i y ≡ Some x → is_name x ≡ true
        of-shape (shape.Struct j) h = of-structure j (slice_get structures j) refl h
        of-shape shape.Void h = absurd (cc)
        of-shape (shape.Int t) h = absurd (cc)
        of-shape (shape.Pointer to) h = absurd (cc)
        of-shape (shape.Array of n) h = absurd (cc)
        of-shape (shape.Func s) h = absurd (cc)

      place-fit-level : (x : one.Place-F Expr Place) → PlaceParts Fit PlaceFit x → OperandPlaceParts p f x → FitsPlaceText (place_written p f (map-Place Expr Place Written WrittenPlace (written p f) (place p f) x)).text
      place-fit-level (one.Local r) h k =
          let g = held (slice_get f.locals r) k in
          subst (λ o. FitsPlaceText (λ spot ps. named (local_name o) ps)) (sym g.1) (name-place-fits g.0.0 (names.locals r g.0 g.1))
      place-fit-level (one.Static i) h k =
          let g = held (slice_get p.objects i) k in
          subst (λ o. FitsPlaceText (λ spot ps. named (object_name o) ps)) (sym g.1) (name-place-fits g.0.name (names.objects i g.0 g.1))
      place-fit-level (one.Device d) h k =
          let g = held (slice_get p.devices d) k in
          subst (λ o. FitsPlaceText (λ spot ps. device_text o ps)) (sym g.1) (device-fits g.0 (addresses d g.0 g.1) (λ x e. names.devices d g.0 x g.1 e) g.0.name refl)
      place-fit-level (one.Element b e) h k = element-fits (place_text p f b) (expr p f e) (h.0 k.0) (h.1 k.1)
      place-fit-level (one.Member b i) h k =
          let g = held (member_name p.structures i (place_type p f.locals b)) k.1 in
          subst (λ o. FitsPlaceText (λ spot ps. place_text p f b Operand (punct m.Dot ∷ named o ps))) (sym (ap (member_name p.structures i) (place_type_linked p f b) ∙ g.1))
          (member-fits (place_text p f b) g.0 (member-name-is p.structures i (place_type p f.locals b) g.0 g.1 names.members) (h k.0))
      place-fit-level (one.Deref e) h k = star-fits (expr p f e) (h k)

      place-fitted : (x : one.Place-F Expr Place) → PlaceParts Fit PlaceFit x → PlaceFit (roll-Place x)
      place-fitted x h t = subst (λ w. FitsPlaceText w.text) (sym (place_level p f x)) (place-fit-level x h (place-parts-of p f x t))

      pub expr-fits : (e : Expr) → IsOperand p f e → FitsText (expr p f e)
      expr-fits = by_expr Fit PlaceFit fitted place-fitted

      pub place-fits : (a : Place) → IsOperandPlace p f a → FitsPlaceText (place_text p f a)
      place-fits = by_place Fit PlaceFit fitted place-fitted
