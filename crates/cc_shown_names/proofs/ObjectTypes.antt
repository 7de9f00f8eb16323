-- What an object's type is: it stands, has a size, and is no array without a bound, also with a unit's numbers of structures.
use Rattle.std.proofs.Common.{◌≡◌, ℕ, zero, suc, Bool, true, false, ◌&&◌, ◌||◌, nat_eq, Option, Some, None, refl, ap, sym, ◌∙◌, eqb-true}
use Rattle.std.specs.Option.{is_some}
use Rattle.cc_expression_trees.specs.Constants.{qualified}
use Rattle.cc_program.specs.CcNum.Integers.{bytes_of}
use Rattle.cc_program.specs.CcNum.declared.int_type.IntType.{IntType}
use Rattle.cc_program.specs.CcNum.declared.int_type.IntType.TheVariants as int
use Rattle.cc_program.specs.CcNum.declared.target.Target.{Target}
use Rattle.cc_program.specs.declared.program.Program.{Program}
use Rattle.cc_program.specs.declared.types.CType.{CType}
use Rattle.cc_program.specs.declared.types.Shape.{Shape, Int, out-Shape, out-roll-Shape}
use Rattle.cc_program.specs.declared.types.Shape.TheOpen as shape
use Rattle.cc_program.specs.declared.types.Shape.TheVariants.{outs-Int}
use Rattle.cc_program.specs.declared.types.Sig.{Sig}
use Rattle.cc_type.specs.CcSpecifiers.Bounds.{is_bound}
use Rattle.cc_type.specs.CcSpecifiers.Declarators.{is_unbounded_shape, is_unbounded}
use Rattle.cc_type.specs.CcSyntax.Kinds.{Kind, IsScalar, bytes_in, is_small, is_object_kind, is_object_type, qualified_kind}
use Rattle.cc_type.specs.CcSyntax.Programs.{kind_in}
use Rattle.cc_shown_expressions.specs.Numbers.{type_numbered}
use Rattle.cc_shown_expressions.proofs.Bases.{type-of-fields, shape-of-level}
use Rattle.cc_shown_expressions.proofs.Numbering.{level, level-at, shape-level, constant-kept, volatile-kept}
use Rattle.cc_shown_expressions.proofs.Standing.{kind-at, element-is}

abbrev pub IsObjectKind : Option Kind → Type 0
IsObjectKind k = (kind : Kind) × (size : ℕ) × (k ≡ Some kind) × (bytes_in kind ≡ Some size) × (is_small size ≡ true)

object-size : (kind : Kind) (o : Option ℕ) → bytes_in kind ≡ o → is_object_kind o ≡ true → IsObjectKind (Some kind)
object-size kind None e h = absurd (cc)
object-size kind (Some n) e h = (kind, n, refl, e, h)

pub object-kind : (k : Option Kind) → is_object_type k ≡ true → IsObjectKind k
object-kind None h = absurd (cc)
object-kind (Some kind) h = object-size kind (bytes_in kind) refl h

pub object-stands : (k : Option Kind) → is_object_type k ≡ true → is_some k ≡ true
object-stands None h = absurd (cc)
object-stands (Some kind) h = refl

-- ---- integers

few-bytes : (n : ℕ) → nat_eq n 2 || nat_eq n 4 ≡ true → is_small n ≡ true
few-bytes n h = of-first (nat_eq n 2) refl h
  where
    of-second : (b : Bool) → nat_eq n 4 ≡ b → b ≡ true → is_small n ≡ true
    of-second true e g = ap is_small (eqb-true n 4 e)
    of-second false e g = absurd (cc)

    of-first : (b : Bool) → nat_eq n 2 ≡ b → b || nat_eq n 4 ≡ true → is_small n ≡ true
    of-first true e g = ap is_small (eqb-true n 2 e)
    of-first false e g = of-second (nat_eq n 4) refl g

small-int : (i : IntType) (target : Target) → is_small (bytes_of i target) ≡ true
small-int int.Bool target = refl
small-int int.Char target = refl
small-int int.SChar target = refl
small-int int.UChar target = refl
small-int int.Short target = refl
small-int int.UShort target = refl
small-int int.Int target = few-bytes target.int_bytes target.int
small-int int.UInt target = few-bytes target.int_bytes target.int
small-int int.Long target = refl
small-int int.ULong target = refl
small-int int.LongLong target = refl
small-int int.ULongLong target = refl

scalar-object : (q : Bool) (n : ℕ) → is_small n ≡ true → is_object_type (qualified_kind q (Some (IsScalar false n))) ≡ true
scalar-object true n h = h
scalar-object false n h = h

pub integer-fits : (p : Program) (c v : Bool) (i : IntType) → is_object_type (kind_in p (qualified c v (shape.Int i))) ≡ true
integer-fits p c v i =
    ap is_object_type (kind-at p (qualified c v (shape.Int i)) (shape.Int i) (out-roll-Shape (shape.Int i)))
    ∙ scalar-object (c || v) (bytes_of i p.target) (small-int i p.target)

pub integer-numbered : (number : ℕ → ℕ) (c v : Bool) (i : IntType) → type_numbered number (qualified c v (shape.Int i)) ≡ record { constant = c; volatile = v; shape = Int i }
integer-numbered number c v i =
    let t = qualified c v (shape.Int i) in
    type-of-fields (type_numbered number t) (record { constant = c; volatile = v; shape = Int i }) (constant-kept number t) (volatile-kept number t)
    (shape-of-level (type_numbered number t).shape (Int i) (level-at number t (shape.Int i) (out-roll-Shape (shape.Int i)) ∙ sym (outs-Int i)))

-- ---- arrays have bounds

bound-by : (b c : Bool) → b && c ≡ true → b ≡ true
bound-by true c h = refl
bound-by false c h = absurd (cc)

array-bounded : (of : CType) (n : ℕ) → is_bound n ≡ true → is_unbounded_shape (shape.Array of n) ≡ false
array-bounded of zero h = absurd (cc)
array-bounded of (suc n) h = refl

bounded-at : (p : Program) (number : ℕ → ℕ) (t : CType) (x : shape.Shape-F Shape CType Sig) → out-Shape t.shape ≡ x → is_object_type (kind_in p t) ≡ true → is_unbounded_shape (level number x) ≡ false
bounded-at p number t shape.Void e h = refl
bounded-at p number t (shape.Int i) e h = refl
bounded-at p number t (shape.Pointer to) e h = refl
bounded-at p number t (shape.Array of n) e h = array-bounded (type_numbered number of) n (element-is p t of n e (object-stands (kind_in p t) h)).bound
bounded-at p number t (shape.Struct i) e h = refl
bounded-at p number t (shape.Func sig) e h = refl

pub bounded : (p : Program) (number : ℕ → ℕ) (t : CType) → is_object_type (kind_in p t) ≡ true → is_unbounded (type_numbered number t) ≡ false
bounded p number t h = ap is_unbounded_shape (shape-level number t) ∙ bounded-at p number t (out-Shape t.shape) refl h
