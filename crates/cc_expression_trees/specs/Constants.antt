-- Which trees show an integer, and a null.
use Rattle.std.specs.Prelude.{◌≡◌, ℕ, ◌-◌, ℤ, pos, int_lt, unsigned_abs, Bool, true, false, List}
use Rattle.std.specs.Ordering.{int_eq}
use Rattle.cc_program.specs.CcNum.declared.int_type.IntType.{IntType}
use Rattle.cc_program.specs.CcNum.declared.target.Target.{Target}
use Rattle.cc_program.specs.CcNum.Integers.{least_of}
use Rattle.cc_lex.specs.declared.token.Mark.TheVariants as m
use Rattle.cc_pieces.specs.Constants.{has_unsigned_letter, long_letters_of}
use Rattle.cc_program.specs.declared.types.CType.{CType}
use Rattle.cc_program.specs.declared.types.Shape.{Shape, roll-Shape}
use Rattle.cc_program.specs.declared.types.Shape.TheOpen as shape
use Rattle.cc_program.specs.declared.types.Sig.{Sig}
use Rattle.cc_program.specs.declared.types.Structure.{Structure}
use Rattle.cc_tree.specs.declared.at.At.{At}
use Rattle.cc_tree.specs.declared.tree.Tree as tree
use Rattle.cc_tree.specs.declared.tree.Tree.{Tree}
use Rattle.cc_tree.specs.declared.tree.TypeName.{TypeName}
use Rattle.cc_expression_trees.specs.Types.{suffix, plain_suffix, ShowsTypeName}

-- a type with qualifiers of its own
abbrev pub qualified : Bool → Bool → shape.Shape-F Shape CType Sig → CType
qualified constant volatile x = record { constant = constant; volatile = volatile; shape = roll-Shape x }

abbrev pub plain : shape.Shape-F Shape CType Sig → CType
plain x = qualified false false x

-- ---- integers

-- a number with the letters of a type
abbrev pub number_of : IntType → ℕ → Tree
number_of t n = tree.Number n (suffix n (has_unsigned_letter t) (long_letters_of t))

-- A value with the letters of a type: a number; for a value below 0 `-n`, and for the least one of the type `-n - 1`,
-- since its number alone has no such type.
pub data ShowsInteger (target : Target) : ℤ → IntType → Tree → Type 0 where
  InParens : (n : ℤ) (t : IntType) (x : At Tree) → ShowsInteger target n t x.node → ShowsInteger target n t (tree.Paren x)
  ShowsNatural : (n : ℤ) (t : IntType) → int_lt n (pos 0) ≡ false → ShowsInteger target n t (number_of t (unsigned_abs n))
  ShowsNegative : (n : ℤ) (t : IntType) (at : ℕ) → int_lt n (pos 0) ≡ true → int_eq n (least_of t target) ≡ false →
      ShowsInteger target n t (tree.Prefix m.Minus (record { at = at; node = number_of t (unsigned_abs n) }))
  ShowsLeast : (n : ℤ) (t : IntType) (a b c : ℕ) → int_lt n (pos 0) ≡ true → int_eq n (least_of t target) ≡ true →
      ShowsInteger target n t (tree.Binary m.Minus (record { at = a; node = tree.Prefix m.Minus (record { at = b; node = number_of t (unsigned_abs n - 1) }) }) (record { at = c; node = tree.Number 1 (plain_suffix 1) }))

-- ---- nulls

-- `0`
pub data IsZero : Tree → Type 0 where
  Zero : IsZero (tree.Number 0 (plain_suffix 0))
  ZeroInParens : (x : At Tree) → IsZero x.node → IsZero (tree.Paren x)

abbrev pub void_pointer : CType
void_pointer = plain (shape.Pointer (plain shape.Void))

-- `(void *)0`
pub data IsVoidNull (structures : List Structure) : Tree → Type 0 where
  VoidNull : (type : TypeName) (x : At Tree) → ShowsTypeName structures void_pointer type → IsZero x.node → IsVoidNull structures (tree.Cast type x)
  NullInParens : (x : At Tree) → IsVoidNull structures x.node → IsVoidNull structures (tree.Paren x)
