-- Constants and nulls are read.
use Rattle.std.proofs.Common.{◌≡◌, ℕ, ◌-◌, ◌+◌, ◌≤◌, ℤ, pos, cond, Bool, true, false, List, [], ◌∷◌, length, None, refl, ◌∙◌, lit≤}
use Rattle.std.specs.Prelude.{int_lt, unsigned_abs}
use Rattle.std.specs.Ordering.{int_eq}
use Rattle.cc_program.specs.CcNum.declared.int_type.IntType.{IntType}
use Rattle.cc_program.specs.CcNum.declared.target.Target.{Target}
use Rattle.cc_program.specs.CcNum.Integers.{least_of}
use Rattle.cc_program.specs.CcWords.declared.word.Word.TheVariants as w
use Rattle.cc_lex.specs.declared.token.Kind.TheVariants as kind
use Rattle.cc_lex.specs.declared.token.Mark.TheVariants as m
use Rattle.cc_program.specs.declared.types.CType.{CType}
use Rattle.cc_program.specs.declared.types.Shape.{Shape, out-roll-Shape}
use Rattle.cc_program.specs.declared.types.Sig.{Sig}
use Rattle.cc_program.specs.declared.types.Shape.TheOpen as shape
use Rattle.cc_program.specs.declared.types.Structure.{Structure}
use Rattle.cc_tree.specs.declared.at.At.{At}
use Rattle.cc_tree.specs.declared.tree.Declr as declr
use Rattle.cc_tree.specs.declared.tree.Declr.{Declr}
use Rattle.cc_tree.specs.declared.tree.Tree as tree
use Rattle.cc_tree.specs.Terms.{IsTree, ANumber, APrefix, ABinary, ATypeName, Specs, NoSpec, NoName, APointer, NoQualifier}
use Rattle.cc_tree.specs.Tokens.{at as at_of}
use Rattle.cc_tree.proofs.NewNames.{name_of-Nothing, name_of-Pointer}
use Rattle.cc_pieces.specs.Constants.{has_unsigned_letter, long_letters_of, of_type, negative, least, constant}
use Rattle.cc_pieces.specs.Declarators.{int_name, qualifiers}
use Rattle.cc_pieces.specs.Pieces.{Pieces, punct, keyword, plain_number, space, spelled}
use Rattle.cc_expression_trees.specs.Laid.{laid}
use Rattle.cc_expression_trees.specs.Types.{suffix, plain_suffix, Plain, DeclaresNothing, DeclaresPointer, NamesType, ShowsTypeName}
use Rattle.cc_expression_trees.proofs.Words.{closed-apart}
use Rattle.cc_expression_trees.proofs.Bases.{int-read, void-read, ReadsBase}
use Rattle.cc_expression_trees.specs.Constants.{qualified, plain, number_of, ShowsInteger, InParens, ShowsNatural, ShowsNegative, ShowsLeast, IsZero, Zero, void_pointer, IsVoidNull, VoidNull, NullInParens}
use Rattle.cc_expression_trees.specs.ReadExpressions.{ReadsTree}
use Rattle.cc_expression_trees.proofs.Forms.{ReadsName, in-parens, cast-read}

-- ---- integers

module _ (target : Target) (n : ℤ) (t : IntType) where
  natural-read : int_lt n (pos 0) ≡ false → (l at : ℕ) (ps : Pieces) → ReadsTree (ShowsInteger target n t) l at (of_type t (unsigned_abs n) ∷ ps) ps
  natural-read e l at ps =
      let s = suffix (unsigned_abs n) (has_unsigned_letter t) (long_letters_of t) in
      let size = length (spelled (kind.Number (unsigned_abs n) s)) in
      record { tree = record { at = at; node = number_of t (unsigned_abs n) }; shows = ShowsNatural n t e; next = at + size; is = ANumber [] l (unsigned_abs n) s (at, size) _ }

  -- `-n`
  minus-read : (k l at : ℕ) (ps : Pieces) → l ≤ 14 → Unit {0} × (next : ℕ) × IsTree [] l (record { at = at; node = tree.Prefix m.Minus (record { at = at + 1; node = number_of t k }) }) (laid at (punct m.Minus ∷ of_type t k ∷ ps)) (laid next ps)
  minus-read k l at ps h =
      let s = suffix k (has_unsigned_letter t) (long_letters_of t) in
      let size = length (spelled (kind.Number k s)) in
      (tt, at + 1 + size, APrefix [] l 13 m.Minus _ (at, 1) _ _ h refl (ANumber [] 13 k s (at + 1, size) _))

  negative-read : int_lt n (pos 0) ≡ true → int_eq n (least_of t target) ≡ false → (l at : ℕ) (ps : Pieces) → ReadsTree (ShowsInteger target n t) l at (negative t (unsigned_abs n) ps) ps
  negative-read e g l at ps = in-parens (ShowsInteger target n t) (InParens n t) (λ qs. punct m.Minus ∷ of_type t (unsigned_abs n) ∷ qs) (λ at qs. minus at qs) l at ps where
    minus : (at : ℕ) (qs : Pieces) → ReadsTree (ShowsInteger target n t) 0 at (punct m.Minus ∷ of_type t (unsigned_abs n) ∷ qs) qs
    minus at qs = let r = minus-read (unsigned_abs n) 0 at qs (lit≤ tt) in
        record { tree = _; shows = ShowsNegative n t (at + 1) e g; next = r.1; is = r.2 }

  least-read : int_lt n (pos 0) ≡ true → int_eq n (least_of t target) ≡ true → (l at : ℕ) (ps : Pieces) → ReadsTree (ShowsInteger target n t) l at (least t (unsigned_abs n - 1) ps) ps
  least-read e g l at ps = in-parens (ShowsInteger target n t) (InParens n t) (λ qs. punct m.Minus ∷ of_type t (unsigned_abs n - 1) ∷ space ∷ punct m.Minus ∷ space ∷ plain_number 1 ∷ qs) (λ at qs. difference at qs) l at ps where
    difference : (at : ℕ) (qs : Pieces) → ReadsTree (ShowsInteger target n t) 0 at (punct m.Minus ∷ of_type t (unsigned_abs n - 1) ∷ space ∷ punct m.Minus ∷ space ∷ plain_number 1 ∷ qs) qs
    difference at qs =
        let r = minus-read (unsigned_abs n - 1) 11 at (space ∷ punct m.Minus ∷ space ∷ plain_number 1 ∷ qs) (lit≤ tt) in
        let one = length (spelled (kind.Number 1 (plain_suffix 1))) in
        let behind = r.1 + 1 + 1 + 1 in
        record {
          tree = _;
          shows = ShowsLeast n t at (at + 1) behind e g;
          next = behind + one;
          is = ABinary [] 0 11 m.Minus _ _ (r.1 + 1, 1) _ _ _ (lit≤ tt) refl r.2 (ANumber [] 12 1 (plain_suffix 1) (behind, one) _);
        }

  chosen : (a b : Bool) → int_lt n (pos 0) ≡ a → int_eq n (least_of t target) ≡ b → (l at : ℕ) (ps : Pieces) →
      ReadsTree (ShowsInteger target n t) l at (cond a (cond b (least t (unsigned_abs n - 1) ps) (negative t (unsigned_abs n) ps)) (of_type t (unsigned_abs n) ∷ ps)) ps
  chosen true true e g l at ps = least-read e g l at ps
  chosen true false e g l at ps = negative-read e g l at ps
  chosen false b e g l at ps = natural-read e l at ps

  pub constant-read : (l at : ℕ) (ps : Pieces) → ReadsTree (ShowsInteger target n t) l at (constant target n t ps) ps
  unfolding constant
  constant-read l at ps = chosen (int_lt n (pos 0)) (int_eq n (least_of t target)) refl refl l at ps

-- ---- nulls

pub zero-read : (l at : ℕ) (ps : Pieces) → ReadsTree IsZero l at (plain_number 0 ∷ ps) ps
zero-read l at ps =
    let size = length (spelled (kind.Number 0 (plain_suffix 0))) in
    record { tree = record { at = at; node = tree.Number 0 (plain_suffix 0) }; shows = Zero; next = at + size; is = ANumber [] l 0 (plain_suffix 0) (at, size) _ }

-- ---- names of types that are no derived ones, and of pointers to them

module _ (structures : List Structure) where
  pub int-name-read : (t : IntType) (at : ℕ) (ps : Pieces) → ReadsName (ShowsTypeName structures (plain (shape.Int t))) at (int_name t ps) ps
  int-name-read t at ps =
      let r = int-read structures false false t [] (laid at (int_name t ps)) at ps (NoSpec [] _) in
      let d = at_of (laid r.next ps) declr.Nothing in
      record {
        type = record { specs = r.specs; declr = d };
        shows = NamesType (plain (shape.Int t)) (plain (shape.Int t)) r.specs d r.shows (DeclaresNothing (plain (shape.Int t)));
        next = r.next;
        is = ATypeName [] r.specs d _ _ _ (Specs [] r.specs _ _ r.is r.have (closed-apart r.specs r.closed)) (NoName [] false (laid r.next ps)) name_of-Nothing;
      }

  -- `T *`, whose specifiers were read
  pointer-of : (t : shape.Shape-F Shape CType Sig) (c v : Bool) (at : ℕ) (qs ps : Pieces) → ReadsBase structures (qualified c v t) [] (laid at qs) (space ∷ punct m.Star ∷ ps) → ReadsName (ShowsTypeName structures (plain (shape.Pointer (qualified c v t)))) at qs ps
  pointer-of t c v at qs ps r =
      let b = qualified c v t in
      let inner = at_of (laid (r.next + 1 + 1) ps) declr.Nothing in
      let d : At Declr = record { at = r.next + 1; node = declr.Pointer [] inner } in
      record {
        type = record { specs = r.specs; declr = d };
        shows = NamesType b (plain (shape.Pointer b)) r.specs d r.shows (DeclaresPointer (plain (shape.Pointer b)) b (plain (shape.Pointer b)) inner (Plain None) (out-roll-Shape (shape.Pointer b)) (DeclaresNothing (plain (shape.Pointer b))));
        next = r.next + 1 + 1;
        is = ATypeName [] r.specs d _ _ _ (Specs [] r.specs _ _ r.is r.have (closed-apart r.specs r.closed))
            (APointer [] [] inner (r.next + 1, 1) _ _ _ (NoQualifier _) (NoName [] false (laid (r.next + 1 + 1) ps))) (name_of-Pointer [] inner ∙ name_of-Nothing);
      }

  pub device-name-read : (constant : Bool) (t : IntType) (at : ℕ) (ps : Pieces) → ReadsName (ShowsTypeName structures (plain (shape.Pointer (qualified constant true (shape.Int t))))) at (qualifiers constant true (int_name t (space ∷ punct m.Star ∷ ps))) ps
  device-name-read constant t at ps = pointer-of (shape.Int t) constant true at _ ps (int-read structures constant true t [] _ at (space ∷ punct m.Star ∷ ps) (NoSpec [] _))

  void-name-read : (at : ℕ) (ps : Pieces) → ReadsName (ShowsTypeName structures void_pointer) at (keyword w.Void ∷ space ∷ punct m.Star ∷ ps) ps
  void-name-read at ps = pointer-of shape.Void false false at _ ps (void-read structures false false [] _ at (space ∷ punct m.Star ∷ ps) (NoSpec [] _))

  -- `((void *)0)`
  pub void-null-read : (l at : ℕ) (ps : Pieces) → ReadsTree (IsVoidNull structures) l at (punct m.LParen ∷ punct m.LParen ∷ keyword w.Void ∷ space ∷ punct m.Star ∷ punct m.RParen ∷ plain_number 0 ∷ punct m.RParen ∷ ps) ps
  void-null-read l at ps = in-parens (IsVoidNull structures) NullInParens (λ qs. punct m.LParen ∷ keyword w.Void ∷ space ∷ punct m.Star ∷ punct m.RParen ∷ plain_number 0 ∷ qs)
      (λ at qs. cast-read (IsVoidNull structures) IsZero (ShowsTypeName structures void_pointer) VoidNull (λ rs. keyword w.Void ∷ space ∷ punct m.Star ∷ rs) void-name-read (plain_number 0 ∷ qs) qs 0 at (lit≤ tt) (λ at. zero-read 13 at qs)) l at ps
