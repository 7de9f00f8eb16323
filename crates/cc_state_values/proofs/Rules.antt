-- What the rules of types say of operands: which are integers and which are pointers.
use Rattle.std.proofs.Common.{◌≡◌, ◌⊎◌, Bool, true, false, not, ◌&&◌, ◌||◌, inl, inr, List, Option, Some, None, refl, ap, sym, ◌∙◌, subst}
use Rattle.std.specs.Prelude.{if◌then◌else◌}
use Rattle.std.proofs.lemmas.Option.{same_Some}
use Rattle.cc_program.specs.CcNum.declared.int_type.IntType.{IntType}
use Rattle.cc_program.specs.CcNum.declared.op.BinOp.{BinOp}
use Rattle.cc_program.specs.CcNum.declared.op.UnOp.{UnOp}
use Rattle.cc_program.specs.CcNum.declared.target.Target.{Target}
use Rattle.cc_program.specs.CcNum.Promotions.{promoted}
use Rattle.cc_program.specs.CcNum.Results.{is_shift}
use Rattle.cc_program.specs.declared.func.Func.{Func}
use Rattle.cc_program.specs.declared.program.Program.{Program}
use Rattle.cc_program.specs.declared.types.CType.{CType}
use Rattle.cc_program.specs.declared.types.Shape.{Shape, out-Shape}
use Rattle.cc_program.specs.declared.types.Shape.TheOpen as shape
use Rattle.cc_program.specs.declared.types.Sig.{Sig}
use Rattle.cc_program.specs.declared.types.Structure.{Structure}
use Rattle.cc_state_operators.specs.CcSyntax.Expressions.{of_one, of_two}
use Rattle.cc_state_operators.specs.CcSyntax.Operators.{when, pointer_in, void_pointer_in, first_of, is_unqualified, function_type, is_promoted, is_of, is_integer, is_promoted_value, second_fits, unary_type, unary_result, binary_type, binary_result, when_assignable, points_to_object, common_type, choice_type, subscript_type}
use Rattle.cc_state_operators.specs.CcSyntax.Programs.{pointer_type, null_type}
use Rattle.cc_state_operators.specs.CcSyntax.SameTypes.{same_int, same_sig, alike}
use Rattle.cc_state_operators.specs.CcSyntax.Values.{ValueType, NoValue, Integer, ToObject, ToFunction, PlaceType, DevicePlace, ObjectPlace, FunctionPlace, pointer_shape, pointer_to, is_scalar, is_void, is_assignable, point_alike, pointed_to, address_of, element_of}
use Rattle.cc_state_operators.proofs.CcSyntax.Prefixes.{both_true}
use Rattle.cc_state_operators.proofs.CcSyntax.SameLemmas.{int_same}

-- options that are there

pub one_there : {A B : Type 0} (a : Option A) (f : A → Option B) (w : B) → of_one a f ≡ Some w → (x : A) × (a ≡ Some x) × (f x ≡ Some w)
one_there None f w h = absurd (cc)
one_there (Some x) f w h = (x, refl, h)

pub two_there : {A B C : Type 0} (a : Option A) (b : Option B) (f : A → B → Option C) (w : C) → of_two a b f ≡ Some w → (x : A) × (y : B) × (a ≡ Some x) × (b ≡ Some y) × (f x y ≡ Some w)
two_there None b f w h = absurd (cc)
two_there (Some x) None f w h = absurd (cc)
two_there (Some x) (Some y) f w h = (x, y, refl, refl, h)

pub when_there : {A : Type 0} (b : Bool) (x w : A) → when b x ≡ Some w → (b ≡ true) × (x ≡ w)
when_there true x w h = (refl, same_Some x w h)
when_there false x w h = absurd (cc)

-- pointers

abbrev pub IsPointer : ValueType → Type 0
IsPointer NoValue = ⊥
IsPointer (Integer t) = ⊥
IsPointer (ToObject constant volatile t) = Unit {0}
IsPointer (ToFunction sig) = Unit {0}

pub pointer_scalar : (a : ValueType) → IsPointer a → is_scalar a ≡ true
pointer_scalar NoValue h = absurd h
pointer_scalar (Integer t) h = absurd h
pointer_scalar (ToObject constant volatile t) h = refl
pointer_scalar (ToFunction sig) h = refl

pub points_first : (a b : ValueType) → point_alike a b ≡ true → IsPointer a
points_first NoValue b h = absurd (cc)
points_first (Integer t) b h = absurd (cc)
points_first (ToObject c v t) b h = tt
points_first (ToFunction sig) b h = tt

pub points_second : (a b : ValueType) → point_alike a b ≡ true → IsPointer b
points_second NoValue b h = absurd (cc)
points_second (Integer t) b h = absurd (cc)
points_second (ToObject c v t) NoValue h = absurd (cc)
points_second (ToObject c v t) (Integer u) h = absurd (cc)
points_second (ToObject c v t) (ToObject c' v' u) h = tt
points_second (ToObject c v t) (ToFunction sig) h = absurd (cc)
points_second (ToFunction s) NoValue h = absurd (cc)
points_second (ToFunction s) (Integer u) h = absurd (cc)
points_second (ToFunction s) (ToObject c' v' u) h = absurd (cc)
points_second (ToFunction s) (ToFunction t) h = tt

pub object_pointer : (structures : List Structure) (a : ValueType) → points_to_object structures a ≡ true → IsPointer a
object_pointer structures NoValue h = absurd (cc)
object_pointer structures (Integer t) h = absurd (cc)
object_pointer structures (ToObject c v t) h = tt
object_pointer structures (ToFunction sig) h = absurd (cc)

pub pointer_taken : (to from : ValueType) → IsPointer to → is_assignable to from ≡ true → IsPointer from
pointer_taken NoValue from p h = absurd p
pointer_taken (Integer s) from p h = absurd p
pointer_taken (ToObject c v t) NoValue p h = absurd (cc)
pointer_taken (ToObject c v t) (Integer s) p h = absurd (cc)
pointer_taken (ToObject c v t) (ToObject c' v' u) p h = tt
pointer_taken (ToObject c v t) (ToFunction sig) p h = absurd (cc)
pointer_taken (ToFunction s) NoValue p h = absurd (cc)
pointer_taken (ToFunction s) (Integer t) p h = absurd (cc)
pointer_taken (ToFunction s) (ToObject c v t) p h = absurd (cc)
pointer_taken (ToFunction s) (ToFunction t) p h = tt

pub assigned_scalar : (to from : ValueType) → is_assignable to from ≡ true → is_scalar from ≡ true
assigned_scalar NoValue from h = absurd (cc)
assigned_scalar (Integer s) NoValue h = absurd (cc)
assigned_scalar (Integer s) (Integer t) h = refl
assigned_scalar (Integer s) (ToObject c v t) h = refl
assigned_scalar (Integer s) (ToFunction sig) h = refl
assigned_scalar (ToObject c v t) NoValue h = absurd (cc)
assigned_scalar (ToObject c v t) (Integer s) h = refl
assigned_scalar (ToObject c v t) (ToObject c' v' u) h = refl
assigned_scalar (ToObject c v t) (ToFunction sig) h = refl
assigned_scalar (ToFunction s) NoValue h = absurd (cc)
assigned_scalar (ToFunction s) (Integer t) h = refl
assigned_scalar (ToFunction s) (ToObject c v t) h = refl
assigned_scalar (ToFunction s) (ToFunction t) h = refl

pub assigned_there : (to : Option ValueType) (a t : ValueType) → when_assignable to a ≡ Some t → is_assignable t a ≡ true
assigned_there None a t h = absurd (cc)
assigned_there (Some u) a t h = let w = when_there (is_assignable u a) u t h in subst (λ z. is_assignable z a ≡ true) w.1 w.0

pub pointed_pointer : (a : ValueType) (t : PlaceType) → pointed_to a ≡ Some t → IsPointer a
pointed_pointer NoValue t h = absurd (cc)
pointed_pointer (Integer s) t h = absurd (cc)
pointed_pointer (ToObject c v u) t h = tt
pointed_pointer (ToFunction sig) t h = tt

pub address_pointer : (a : PlaceType) (t : ValueType) → address_of a ≡ Some t → IsPointer t
address_pointer (DevicePlace c s) t h = absurd (cc)
address_pointer (ObjectPlace c v u) t h = subst IsPointer (same_Some (ToObject c v u) t h) tt
address_pointer (FunctionPlace sig) t h = subst IsPointer (same_Some (ToFunction sig) t h) tt

-- integers

pub of_integer : (t : IntType) (a : ValueType) → is_of t a ≡ true → a ≡ Integer t
of_integer t NoValue h = absurd (cc)
of_integer t (Integer s) h = ap Integer (int_same s t h)
of_integer t (ToObject c v u) h = absurd (cc)
of_integer t (ToFunction sig) h = absurd (cc)

pub some_integer : (a : ValueType) → is_integer a ≡ true → (s : IntType) × (a ≡ Integer s)
some_integer NoValue h = absurd (cc)
some_integer (Integer s) h = (s, refl)
some_integer (ToObject c v u) h = absurd (cc)
some_integer (ToFunction sig) h = absurd (cc)

pub promoted_integer : (target : Target) (a : ValueType) → is_promoted_value target a ≡ true → (s : IntType) × (a ≡ Integer s)
promoted_integer target NoValue h = absurd (cc)
promoted_integer target (Integer s) h = (s, refl)
promoted_integer target (ToObject c v u) h = absurd (cc)
promoted_integer target (ToFunction sig) h = absurd (cc)

pub integer_scalar : (a : ValueType) (s : IntType) → a ≡ Integer s → is_scalar a ≡ true
integer_scalar a s h = subst (λ z. is_scalar z ≡ true) (sym h) refl

-- operands of an operator: a second one of a shift has a type of its own
abbrev pub IsSecondType : Bool → IntType → ValueType → Type 0
IsSecondType true t b = (s : IntType) × (b ≡ Integer s)
IsSecondType false t b = b ≡ Integer t

pub record AreIntegers (target : Target) (o : BinOp) (t : IntType) (a b r : ValueType) : Type 0 where
  pub promotion : promoted t target ≡ t
  pub first : a ≡ Integer t
  pub second : IsSecondType (is_shift o) t b
  pub whole : r ≡ Integer (binary_result o t)

pub are_integers : (target : Target) (o : BinOp) (t : IntType) (a b r : ValueType) → binary_type target o t a b ≡ Some r → AreIntegers target o t a b r
are_integers target o t a b r h =
    let w = when_there (is_promoted target t && (is_of t a && second_fits target o t b)) (Integer (binary_result o t)) r h in
    let l = both_true (is_promoted target t) (is_of t a && second_fits target o t b) w.0 in
    let m = both_true (is_of t a) (second_fits target o t b) l.1 in
    record {
      promotion = int_same (promoted t target) t l.0;
      first = of_integer t a m.0;
      second = by_test (is_shift o) m.1;
      whole = sym w.1;
    }
  where
    by_test : (shift : Bool) → (if shift then is_promoted_value target b else is_of t b) ≡ true → IsSecondType shift t b
    by_test true k = promoted_integer target b k
    by_test false k = of_integer t b k

pub second_scalar : (shift : Bool) (t : IntType) (b : ValueType) → IsSecondType shift t b → is_scalar b ≡ true
second_scalar true t b (s, h) = integer_scalar b s h
second_scalar false t b h = integer_scalar b t h

pub record IsOneInteger (target : Target) (t result : IntType) (a r : ValueType) : Type 0 where
  pub promotion : promoted t target ≡ t
  pub first : a ≡ Integer t
  pub whole : r ≡ Integer result

pub is_one_integer : (target : Target) (o : UnOp) (t : IntType) (a r : ValueType) → unary_type target o t a ≡ Some r → IsOneInteger target t (unary_result o t) a r
is_one_integer target o t a r h =
    let w = when_there (is_promoted target t && is_of t a) (Integer (unary_result o t)) r h in
    let l = both_true (is_promoted target t) (is_of t a) w.0 in
    record { promotion = int_same (promoted t target) t l.0; first = of_integer t a l.1; whole = sym w.1 }

-- the arms of a choice with a value: integers of one type, or pointers
abbrev pub AreArms : ValueType → ValueType → ValueType → Type 0
AreArms a b r = ((s : IntType) × (a ≡ Integer s) × (b ≡ Integer s) × (r ≡ Integer s)) ⊎ (IsPointer a × IsPointer b × IsPointer r)

no_value : {A : Type 0} (r : ValueType) → NoValue ≡ r → is_scalar r ≡ true → A
no_value r h k = let e : false ≡ true = ap is_scalar h ∙ k in absurd (cc)

integer_arms : (s t : IntType) (r : ValueType) (both : Bool) → (both ≡ true → same_int s t ≡ true) → (if both then Integer s else NoValue) ≡ r → is_scalar r ≡ true → AreArms (Integer s) (Integer t) r
integer_arms s t r true same h k = inl (s, refl, ap Integer (sym (int_same s t (same refl))), sym h)
integer_arms s t r false same h k = no_value r h k

object_arms : (c v : Bool) (t : CType) (c' v' : Bool) (u : CType) (r : ValueType) (both : Bool) → (if both then ToObject (c || c') (v || v') t else NoValue) ≡ r → is_scalar r ≡ true → AreArms (ToObject c v t) (ToObject c' v' u) r
object_arms c v t c' v' u r true h k = inr (tt, tt, subst IsPointer h tt)
object_arms c v t c' v' u r false h k = no_value r h k

function_arms : (s t : Sig) (r : ValueType) (both : Bool) → (if both then ToFunction s else NoValue) ≡ r → is_scalar r ≡ true → AreArms (ToFunction s) (ToFunction t) r
function_arms s t r true h k = inr (tt, tt, subst IsPointer h tt)
function_arms s t r false h k = no_value r h k

arms_of : (target : Target) (a b r : ValueType) → common_type target a b ≡ r → is_scalar r ≡ true → AreArms a b r
arms_of target NoValue b r h k = no_value r h k
arms_of target (Integer s) NoValue r h k = no_value r h k
arms_of target (Integer s) (Integer t) r h k = integer_arms s t r (same_int s t && is_promoted target s) (λ e. (both_true (same_int s t) (is_promoted target s) e).0) h k
arms_of target (Integer s) (ToObject c v t) r h k = no_value r h k
arms_of target (Integer s) (ToFunction sig) r h k = no_value r h k
arms_of target (ToObject c v t) NoValue r h k = no_value r h k
arms_of target (ToObject c v t) (Integer s) r h k = no_value r h k
arms_of target (ToObject c v t) (ToObject c' v' u) r h k = object_arms c v t c' v' u r (alike t u && not (is_void t)) h k
arms_of target (ToObject c v t) (ToFunction sig) r h k = no_value r h k
arms_of target (ToFunction s) NoValue r h k = no_value r h k
arms_of target (ToFunction s) (Integer t) r h k = no_value r h k
arms_of target (ToFunction s) (ToObject c v t) r h k = no_value r h k
arms_of target (ToFunction s) (ToFunction t) r h k = function_arms s t r (same_sig s t) h k

pub are_arms : (target : Target) (c a b r : ValueType) → choice_type target c a b ≡ Some r → is_scalar r ≡ true → (is_scalar c ≡ true) × AreArms a b r
are_arms target c a b r h k = let w = when_there (is_scalar c) (common_type target a b) r h in (w.0, arms_of target a b r w.1 k)

pub arms_scalar : (a b r : ValueType) → AreArms a b r → (is_scalar a ≡ true) × (is_scalar b ≡ true)
arms_scalar a b r (inl (s, h, k, l)) = (integer_scalar a s h, integer_scalar b s k)
arms_scalar a b r (inr (h, k, l)) = (pointer_scalar a h, pointer_scalar b k)

-- a subscript is an integer
pub subscript_there : (a : PlaceType) (i : ValueType) (t : PlaceType) → subscript_type a i ≡ Some t → (s : IntType) × (i ≡ Integer s)
subscript_there a i t h = by_test (is_integer i) refl h
  where
    by_test : (b : Bool) → is_integer i ≡ b → (if b then element_of a else None) ≡ Some t → (s : IntType) × (i ≡ Integer s)
    by_test true e k = some_integer i e
    by_test false e k = absurd (cc)

-- nulls and functions are pointers
shape_pointer : (t : CType) (x : shape.Shape-F Shape CType Sig) → IsPointer (pointer_shape t x)
shape_pointer t (shape.Func sig) = tt
shape_pointer t shape.Void = tt
shape_pointer t (shape.Int i) = tt
shape_pointer t (shape.Pointer to) = tt
shape_pointer t (shape.Array of n) = tt
shape_pointer t (shape.Struct s) = tt

pointer_in_is : (good : Bool) (x : shape.Shape-F Shape CType Sig) (u : ValueType) → pointer_in good x ≡ Some u → IsPointer u
pointer_in_is good (shape.Pointer to) u h = subst IsPointer (when_there good (pointer_to to) u h).1 (shape_pointer to (out-Shape to.shape))
pointer_in_is good shape.Void u h = absurd (cc)
pointer_in_is good (shape.Int i) u h = absurd (cc)
pointer_in_is good (shape.Array of n) u h = absurd (cc)
pointer_in_is good (shape.Struct s) u h = absurd (cc)
pointer_in_is good (shape.Func sig) u h = absurd (cc)

void_pointer_is : (plain : Bool) (x : shape.Shape-F Shape CType Sig) (u : ValueType) → void_pointer_in plain x ≡ Some u → IsPointer u
void_pointer_is plain (shape.Pointer to) u h = subst IsPointer (when_there _ (pointer_to to) u h).1 (shape_pointer to (out-Shape to.shape))
void_pointer_is plain shape.Void u h = absurd (cc)
void_pointer_is plain (shape.Int i) u h = absurd (cc)
void_pointer_is plain (shape.Array of n) u h = absurd (cc)
void_pointer_is plain (shape.Struct s) u h = absurd (cc)
void_pointer_is plain (shape.Func sig) u h = absurd (cc)

first_pointer : (a b : Option ValueType) (u : ValueType) → (a ≡ Some u → IsPointer u) → (b ≡ Some u → IsPointer u) → first_of a b ≡ Some u → IsPointer u
first_pointer None b u f g h = g h
first_pointer (Some v) b u f g h = f h

pub null_pointer : (p : Program) (t : CType) (u : ValueType) → null_type p t ≡ Some u → IsPointer u
null_pointer p t u h = first_pointer (void_pointer_in (is_unqualified t) (out-Shape t.shape)) (pointer_type p t) u
    (λ k. void_pointer_is (is_unqualified t) (out-Shape t.shape) u k) (λ k. pointer_in_is _ (out-Shape t.shape) u k) h

pub function_pointer : (f : Option Func) (u : ValueType) → function_type f ≡ Some u → IsPointer u
function_pointer None u h = absurd (cc)
function_pointer (Some f) u h = subst IsPointer (when_there _ (ToFunction f.sig) u h).1 tt
