-- What has a type by a rule: its parts have types, and where they are used they are scalars.
use Rattle.std.proofs.Common.{◌≡◌, ℕ, ℤ, Bool, true, false, not, ◌&&◌, List, Option, Some, None, slice_get, refl, ap, sym, ◌∙◌}
use Rattle.std.proofs.lemmas.Option.{same_Some}
use Rattle.std.specs.Prelude.{if◌then◌else◌}
use Rattle.cc_program.specs.CcNum.declared.int_type.IntType.{IntType}
use Rattle.cc_program.specs.CcNum.declared.op.BinOp.{BinOp}
use Rattle.cc_program.specs.CcNum.declared.target.Target.{Target}
use Rattle.cc_program.specs.CcNum.Integers.{is_value_of}
use Rattle.cc_program.specs.CcNum.Results.{is_shift}
use Rattle.cc_operands.specs.Operands.{is_pointer}
use Rattle.cc_program.specs.declared.func.Func.{Func}
use Rattle.cc_program.specs.declared.program.Program.{Program}
use Rattle.cc_program.specs.declared.types.CType.{CType}
use Rattle.cc_program.specs.declared.types.Shape.{Shape, out-Shape}
use Rattle.cc_program.specs.declared.types.Shape.TheOpen as shape
use Rattle.cc_program.specs.declared.types.Sig.{Sig}
use Rattle.cc_program.specs.declared.types.Structure.{Structure}
use Rattle.cc_eval.specs.CcSyntax.Expressions.{of_one, of_two, null_type, pointer_type}
use Rattle.cc_eval.specs.CcSyntax.Kinds.{is_plain_scalar}
use Rattle.cc_eval.specs.CcSyntax.Operators.{when, constant_type, pointer_in, void_pointer_in, first_of, is_unqualified, is_handler, function_type, is_of, is_promoted_value, is_integer, second_fits, points_to_object}
use Rattle.cc_eval.specs.CcSyntax.Values.{ValueType, NoValue, Integer, ToObject, ToFunction, PlaceType, DevicePlace, ObjectPlace, FunctionPlace, is_scalar, is_void, point_alike, is_assignable, pointed_to, pointer_shape, pointer_to, scalar_shape, scalar_value, read_from}
use Rattle.cc_eval.specs.CcSyntax.Views.{View, of_program, kind_in}

pub record HasOne {A B : Type 0} (a : Option A) (f : A → Option B) (r : B) : Type 0 where
  pub first : A
  pub is : a ≡ Some first
  pub gives : f first ≡ Some r

pub has_one : {A B : Type 0} (a : Option A) (f : A → Option B) (r : B) → of_one a f ≡ Some r → HasOne a f r
has_one None f r h = absurd (cc)
has_one (Some x) f r h = record { first = x; is = refl; gives = h }

pub record HasTwo {A B C : Type 0} (a : Option A) (b : Option B) (f : A → B → Option C) (r : C) : Type 0 where
  pub first : A
  pub second : B
  pub is_first : a ≡ Some first
  pub is_second : b ≡ Some second
  pub gives : f first second ≡ Some r

pub has_two : {A B C : Type 0} (a : Option A) (b : Option B) (f : A → B → Option C) (r : C) → of_two a b f ≡ Some r → HasTwo a b f r
has_two None b f r h = absurd (cc)
has_two (Some x) None f r h = absurd (cc)
has_two (Some x) (Some y) f r h = record { first = x; second = y; is_first = refl; is_second = refl; gives = h }

pub record Passes {A : Type 0} (b : Bool) (x r : A) : Type 0 where
  pub test : b ≡ true
  pub is : x ≡ r

pub passes : {A : Type 0} (b : Bool) (x r : A) → when b x ≡ Some r → Passes b x r
passes true x r h = record { test = refl; is = same_Some x r h }
passes false x r h = absurd (cc)

pub integer_is : (i : IntType) (t : ValueType) → Integer i ≡ t → is_scalar t ≡ true
integer_is i t h = ap is_scalar (sym h)

pub of_scalar : (i : IntType) (t : ValueType) → is_of i t ≡ true → is_scalar t ≡ true
of_scalar i NoValue h = absurd (cc)
of_scalar i (Integer s) h = refl
of_scalar i (ToObject c v t) h = refl
of_scalar i (ToFunction s) h = refl

pub integral : (t : ValueType) → is_integer t ≡ true → is_scalar t ≡ true
integral NoValue h = absurd (cc)
integral (Integer s) h = refl
integral (ToObject c v t) h = refl
integral (ToFunction s) h = refl

pub promoted_scalar : (target : Target) (t : ValueType) → is_promoted_value target t ≡ true → is_scalar t ≡ true
promoted_scalar target NoValue h = absurd (cc)
promoted_scalar target (Integer s) h = refl
promoted_scalar target (ToObject c v t) h = refl
promoted_scalar target (ToFunction s) h = refl

second_by : (shift : Bool) (target : Target) (i : IntType) (t : ValueType) → (if shift then is_promoted_value target t else is_of i t) ≡ true → is_scalar t ≡ true
second_by true target i t h = promoted_scalar target t h
second_by false target i t h = of_scalar i t h

pub second_scalar : (target : Target) (o : BinOp) (i : IntType) (t : ValueType) → second_fits target o i t ≡ true → is_scalar t ≡ true
second_scalar target o i t h = second_by (is_shift o) target i t h

pub object_scalar : (structures : List Structure) (t : ValueType) → points_to_object structures t ≡ true → is_scalar t ≡ true
object_scalar structures NoValue h = absurd (cc)
object_scalar structures (Integer s) h = refl
object_scalar structures (ToObject c v t) h = refl
object_scalar structures (ToFunction s) h = refl

pub pointer_scalar : (t : ValueType) → is_pointer t ≡ true → is_scalar t ≡ true
pointer_scalar NoValue h = absurd (cc)
pointer_scalar (Integer s) h = refl
pointer_scalar (ToObject c v t) h = refl
pointer_scalar (ToFunction s) h = refl

pub alike_first : (t u : ValueType) → point_alike t u ≡ true → is_scalar t ≡ true
alike_first NoValue u h = absurd (cc)
alike_first (Integer s) u h = refl
alike_first (ToObject c v t) u h = refl
alike_first (ToFunction s) u h = refl

pub alike_second : (t u : ValueType) → point_alike t u ≡ true → is_scalar u ≡ true
alike_second NoValue u h = absurd (cc)
alike_second (Integer s) u h = absurd (cc)
alike_second (ToObject c v t) NoValue h = absurd (cc)
alike_second (ToObject c v t) (Integer s) h = refl
alike_second (ToObject c v t) (ToObject c' v' u) h = refl
alike_second (ToObject c v t) (ToFunction s) h = refl
alike_second (ToFunction s) NoValue h = absurd (cc)
alike_second (ToFunction s) (Integer i) h = refl
alike_second (ToFunction s) (ToObject c' v' u) h = refl
alike_second (ToFunction s) (ToFunction u) h = refl

pub assigned_scalar : (to t : ValueType) → is_assignable to t ≡ true → is_scalar t ≡ true
assigned_scalar NoValue t h = absurd (cc)
assigned_scalar (Integer s) NoValue h = absurd (cc)
assigned_scalar (Integer s) (Integer t) h = refl
assigned_scalar (Integer s) (ToObject c v t) h = refl
assigned_scalar (Integer s) (ToFunction t) h = refl
assigned_scalar (ToObject c v t) NoValue h = absurd (cc)
assigned_scalar (ToObject c v t) (Integer s) h = refl
assigned_scalar (ToObject c v t) (ToObject c' v' u) h = refl
assigned_scalar (ToObject c v t) (ToFunction s) h = refl
assigned_scalar (ToFunction s) NoValue h = absurd (cc)
assigned_scalar (ToFunction s) (Integer i) h = refl
assigned_scalar (ToFunction s) (ToObject c v t) h = refl
assigned_scalar (ToFunction s) (ToFunction t) h = refl

pub assigned_to_scalar : (to t : ValueType) → is_assignable to t ≡ true → is_scalar to ≡ true
assigned_to_scalar NoValue t h = absurd (cc)
assigned_to_scalar (Integer s) t h = refl
assigned_to_scalar (ToObject c v u) t h = refl
assigned_to_scalar (ToFunction s) t h = refl

pub pointed_scalar : (t : ValueType) (r : PlaceType) → pointed_to t ≡ Some r → is_scalar t ≡ true
pointed_scalar NoValue r h = absurd (cc)
pointed_scalar (Integer s) r h = refl
pointed_scalar (ToObject c v t) r h = refl
pointed_scalar (ToFunction s) r h = refl

-- what a type of pointers points to, and what a scalar type gives
pub points_scalar : (t : CType) (x : shape.Shape-F Shape CType Sig) → is_scalar (pointer_shape t x) ≡ true
points_scalar t shape.Void = refl
points_scalar t (shape.Int i) = refl
points_scalar t (shape.Pointer to) = refl
points_scalar t (shape.Array of n) = refl
points_scalar t (shape.Struct i) = refl
points_scalar t (shape.Func s) = refl

scalar_at : (x : shape.Shape-F Shape CType Sig) (r : ValueType) → scalar_shape x ≡ Some r → is_scalar r ≡ true
scalar_at (shape.Int i) r h = integer_is i r (same_Some (Integer i) r h)
scalar_at (shape.Pointer to) r h = ap is_scalar (sym (same_Some (pointer_to to) r h)) ∙ points_scalar to (out-Shape to.shape)
scalar_at shape.Void r h = absurd (cc)
scalar_at (shape.Array of n) r h = absurd (cc)
scalar_at (shape.Struct i) r h = absurd (cc)
scalar_at (shape.Func s) r h = absurd (cc)

pub value_scalar : (t : CType) (r : ValueType) → scalar_value t ≡ Some r → is_scalar r ≡ true
value_scalar t r h = scalar_at (out-Shape t.shape) r h

pub read_scalar : (a : PlaceType) (t : ValueType) → read_from a ≡ Some t → is_scalar t ≡ true
read_scalar (DevicePlace c i) t h = integer_is i t (same_Some (Integer i) t h)
read_scalar (ObjectPlace c v u) t h = value_scalar u t h
read_scalar (FunctionPlace s) t h = absurd (cc)

-- constants, nulls and functions
pub constant_scalar : (target : Target) (n : ℤ) (i : IntType) (t : ValueType) → constant_type target n i ≡ Some t → is_scalar t ≡ true
constant_scalar target n i t h = integer_is i t (passes (is_value_of i target n) (Integer i) t h).is

when_points : (b : Bool) (to : CType) (t : ValueType) → when b (pointer_to to) ≡ Some t → is_scalar t ≡ true
when_points b to t h = ap is_scalar (sym (passes b (pointer_to to) t h).is) ∙ points_scalar to (out-Shape to.shape)

pointer_in_scalar : (b : Bool) (x : shape.Shape-F Shape CType Sig) (t : ValueType) → pointer_in b x ≡ Some t → is_scalar t ≡ true
pointer_in_scalar b (shape.Pointer to) t h = when_points b to t h
pointer_in_scalar b shape.Void t h = absurd (cc)
pointer_in_scalar b (shape.Int i) t h = absurd (cc)
pointer_in_scalar b (shape.Array of n) t h = absurd (cc)
pointer_in_scalar b (shape.Struct i) t h = absurd (cc)
pointer_in_scalar b (shape.Func s) t h = absurd (cc)

void_in_scalar : (b : Bool) (x : shape.Shape-F Shape CType Sig) (t : ValueType) → void_pointer_in b x ≡ Some t → is_scalar t ≡ true
void_in_scalar b (shape.Pointer to) t h = when_points (b && (is_void to && is_unqualified to)) to t h
void_in_scalar b shape.Void t h = absurd (cc)
void_in_scalar b (shape.Int i) t h = absurd (cc)
void_in_scalar b (shape.Array of n) t h = absurd (cc)
void_in_scalar b (shape.Struct i) t h = absurd (cc)
void_in_scalar b (shape.Func s) t h = absurd (cc)

first_scalar : (a b : Option ValueType) (t : ValueType) → ((u : ValueType) → a ≡ Some u → is_scalar u ≡ true) → ((u : ValueType) → b ≡ Some u → is_scalar u ≡ true) → first_of a b ≡ Some t → is_scalar t ≡ true
first_scalar None b t f g h = g t h
first_scalar (Some a) b t f g h = f t h

pub null_scalar : (v : View) (c : CType) (t : ValueType) → null_type v c ≡ Some t → is_scalar t ≡ true
null_scalar v c t h =
    first_scalar (void_pointer_in (is_unqualified c) (out-Shape c.shape)) (pointer_type v c) t (void_in_scalar (is_unqualified c) (out-Shape c.shape)) (pointer_in_scalar (is_plain_scalar (kind_in v c)) (out-Shape c.shape)) h

function_by : (o : Option Func) (t : ValueType) → function_type o ≡ Some t → is_scalar t ≡ true
function_by None t h = absurd (cc)
function_by (Some f) t h = ap is_scalar (sym (passes (not (is_handler f)) (ToFunction f.sig) t h).is)

pub function_scalar : (p : Program) (i : ℕ) (t : ValueType) → (of_program p).functions i ≡ Some t → is_scalar t ≡ true
function_scalar p i t h = function_by (slice_get p.funcs i) t h
