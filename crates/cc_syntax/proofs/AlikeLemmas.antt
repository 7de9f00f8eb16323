-- Types that are one, outermost qualifiers aside: an equivalence, and what is the same of them.
use Rattle.std.proofs.Common.{◌≡◌, ℕ, Bool, true, false, ◌&&◌, Option, Some, None, refl, ap, sym, ◌∙◌, subst}
use Rattle.cc_program.specs.CcNum.declared.int_type.IntType.{IntType}
use Rattle.cc_program.specs.declared.types.CType.{CType}
use Rattle.cc_program.specs.declared.types.Shape.{Shape, out-Shape}
use Rattle.cc_program.specs.declared.types.Shape.TheOpen as shape
use Rattle.cc_program.specs.declared.types.Sig.{Sig}
use Rattle.cc_syntax.specs.Initial.{bound_shape}
use Rattle.cc_syntax.specs.SameTypes.{alike}
use Rattle.cc_syntax.specs.Values.{ValueType, NoValue, Integer, ToObject, ToFunction, scalar_shape, scalar_value, implies, is_assignable, is_assignable_some}
use Rattle.cc_syntax.proofs.Prefixes.{both_true}
use Rattle.cc_syntax.proofs.SameLemmas.{Alike, SameShape, Arrays, compared, sig_compared, arrays_compared, int_same, and_true}

pub shares : (t u : CType) → alike t u ≡ true → Alike t u
shares t u h = (compared t).shares u h

pub same_shape_alike : (t u : CType) → out-Shape t.shape ≡ out-Shape u.shape → alike t u ≡ true
same_shape_alike t u h = (compared t).shaped u h

pub alike_itself : (t : CType) → alike t t ≡ true
alike_itself t = same_shape_alike t t refl

-- ---- the equivalence

mirrored : (t u : CType) → Alike t u → Alike u t
mirrored _ _ (SameShape t u e) = SameShape u t (sym e)
mirrored _ _ (Arrays t u of other n e f h) = Arrays u t other of n f e (mirrored of other h)

pub same_of : (of other : CType) (n m : ℕ) (x : shape.Shape-F Shape CType Sig) → x ≡ shape.Array of n → x ≡ shape.Array other m → of ≡ other
same_of of other n m x h k = cc

same_count : (of other : CType) (n m : ℕ) (x : shape.Shape-F Shape CType Sig) → x ≡ shape.Array of n → x ≡ shape.Array other m → n ≡ m
same_count of other n m x h k = cc

-- what is shared with an array
pub array_view : (u w : CType) → Alike u w → (other : CType) (n : ℕ) → out-Shape u.shape ≡ shape.Array other n → (last : CType) × (out-Shape w.shape ≡ shape.Array last n) × Alike other last
array_view _ _ (SameShape u w e) other n f = (other, sym e ∙ f, SameShape other other refl)
array_view _ _ (Arrays u w of last m e f h) other n g =
    (last, f ∙ ap (λ (k : ℕ). shape.Array last k) (same_count of other m n (out-Shape u.shape) e g), subst (λ (x : CType). Alike x last) (same_of of other m n (out-Shape u.shape) e g) h)

shape_joined : (t u w : CType) → out-Shape t.shape ≡ out-Shape u.shape → Alike u w → Alike t w
shape_joined t _ _ e (SameShape u w f) = SameShape t w (e ∙ f)
shape_joined t _ _ e (Arrays u w of other n f g h) = Arrays t w of other n (e ∙ f) g h

joined : (t u w : CType) → Alike t u → Alike u w → Alike t w
joined _ _ w (SameShape t u e) k = shape_joined t u w e k
joined _ _ w (Arrays t u of other n e f h) k =
    let last = (array_view u w k other n f).0 in
    Arrays t w of (array_view u w k other n f).0 n e (array_view u w k other n f).1 (joined of other (array_view u w k other n f).0 h (array_view u w k other n f).2)

array_alike : (t u of other : CType) (n : ℕ) → out-Shape t.shape ≡ shape.Array of n → out-Shape u.shape ≡ shape.Array other n → alike of other ≡ true → alike t u ≡ true
array_alike t u of other n e f h = arrays_compared t u of other n e f h

pub tested : (t u : CType) → Alike t u → alike t u ≡ true
tested _ _ (SameShape t u e) = same_shape_alike t u e
tested _ _ (Arrays t u of other n e f h) = array_alike t u of other n e f (tested of other h)

pub alike_mirrored : (t u : CType) → alike t u ≡ true → alike u t ≡ true
alike_mirrored t u h = tested u t (mirrored t u (shares t u h))

pub alike_joined : (t u w : CType) → alike t u ≡ true → alike u w ≡ true → alike t w ≡ true
alike_joined t u w h k = tested t w (joined t u w (shares t u h) (shares u w k))

-- ---- what is the same

shares-scalar : (t u : CType) → Alike t u → scalar_value t ≡ scalar_value u
shares-scalar _ _ (SameShape t u e) = ap scalar_shape e
shares-scalar _ _ (Arrays t u of other n e f h) = ap scalar_shape e ∙ sym (ap scalar_shape f)

pub alike-scalar : (t u : CType) → alike t u ≡ true → scalar_value t ≡ scalar_value u
alike-scalar t u h = shares-scalar t u (shares t u h)

shares-bound : (t u : CType) → Alike t u → bound_shape (out-Shape t.shape) ≡ bound_shape (out-Shape u.shape)
shares-bound _ _ (SameShape t u e) = ap bound_shape e
shares-bound _ _ (Arrays t u of other n e f h) = ap bound_shape e ∙ sym (ap bound_shape f)

pub alike-bound : (t u : CType) → alike t u ≡ true → bound_shape (out-Shape t.shape) ≡ bound_shape (out-Shape u.shape)
alike-bound t u h = shares-bound t u (shares t u h)

shares-struct : (t u : CType) → Alike t u → (i : ℕ) → out-Shape t.shape ≡ shape.Struct i → out-Shape u.shape ≡ shape.Struct i
shares-struct _ _ (SameShape t u e) i f = sym e ∙ f
shares-struct _ _ (Arrays t u of other n e f h) i g = absurd (cc)

pub alike-struct : (t u : CType) → alike t u ≡ true → (i : ℕ) → out-Shape t.shape ≡ shape.Struct i → out-Shape u.shape ≡ shape.Struct i
alike-struct t u h = shares-struct t u (shares t u h)

-- ---- what may be assigned

pub implies_itself : (a : Bool) → implies a a ≡ true
implies_itself true = refl
implies_itself false = refl

implies_on : (a b c : Bool) → implies b a ≡ true → implies c b ≡ true → implies c a ≡ true
implies_on true b true h k = refl
implies_on true b false h k = refl
implies_on false b false h k = refl
implies_on false true true h k = absurd (cc)
implies_on false false true h k = absurd (cc)

-- a pointer that may be assigned to one to such an object
pub record PointsAs (constant volatile : Bool) (t : CType) (from : ValueType) : Type 0 where
  pub const : Bool
  pub volat : Bool
  pub to : CType
  pub is : from ≡ ToObject const volat to
  pub one : alike t to ≡ true
  pub keeps_const : implies const constant ≡ true
  pub keeps_volatile : implies volat volatile ≡ true

pub points_as : (constant volatile : Bool) (t : CType) (from : ValueType) → is_assignable (ToObject constant volatile t) from ≡ true → PointsAs constant volatile t from
points_as constant volatile t NoValue h = absurd (cc)
points_as constant volatile t (Integer s) h = absurd (cc)
points_as constant volatile t (ToFunction sig) h = absurd (cc)
points_as constant volatile t (ToObject c v u) h =
    let all = both_true (alike t u) (implies c constant && implies v volatile) h in
    let those = both_true (implies c constant) (implies v volatile) all.1 in
    record { const = c; volat = v; to = u; is = refl; one = all.0; keeps_const = those.0; keeps_volatile = those.1 }

pub assignable_object : (c v : Bool) (t : CType) (c' v' : Bool) (u : CType) → alike t u ≡ true → implies c' c ≡ true → implies v' v ≡ true → is_assignable (ToObject c v t) (ToObject c' v' u) ≡ true
assignable_object c v t c' v' u h k l = and_true (alike t u) (implies c' c && implies v' v) h (and_true (implies c' c) (implies v' v) k l)

pub integer_as : (s : IntType) (from : ValueType) → is_assignable (Integer s) from ≡ true → from ≡ Integer s
integer_as s NoValue h = absurd (cc)
integer_as s (Integer t) h = ap Integer (sym (int_same s t h))
integer_as s (ToObject c v u) h = absurd (cc)
integer_as s (ToFunction sig) h = absurd (cc)

pub function_as : (s : Sig) (from : ValueType) → is_assignable (ToFunction s) from ≡ true → from ≡ ToFunction s
function_as s NoValue h = absurd (cc)
function_as s (Integer t) h = absurd (cc)
function_as s (ToObject c v u) h = absurd (cc)
function_as s (ToFunction sig) h = ap ToFunction (sym ((sig_compared s).same sig h))

objects_on : (c v : Bool) (t : CType) (from last : ValueType) → PointsAs c v t from → is_assignable from last ≡ true → is_assignable (ToObject c v t) last ≡ true
objects_on c v t from last a k =
    let b = points_as a.const a.volat a.to last (subst (λ (x : ValueType). is_assignable x last ≡ true) a.is k) in
    subst (λ (x : ValueType). is_assignable (ToObject c v t) x ≡ true) (sym b.is)
    (assignable_object c v t b.const b.volat b.to (alike_joined t a.to b.to a.one b.one) (implies_on c a.const b.const a.keeps_const b.keeps_const) (implies_on v a.volat b.volat a.keeps_volatile b.keeps_volatile))

pub assigned_on : (to from last : ValueType) → is_assignable to from ≡ true → is_assignable from last ≡ true → is_assignable to last ≡ true
assigned_on NoValue from last h k = absurd (cc)
assigned_on (Integer s) from last h k = subst (λ (x : ValueType). is_assignable x last ≡ true) (integer_as s from h) k
assigned_on (ToFunction s) from last h k = subst (λ (x : ValueType). is_assignable x last ≡ true) (function_as s from h) k
assigned_on (ToObject c v t) from last h k = objects_on c v t from last (points_as c v t from h) k

pub assigned_on_some : (to from : ValueType) (last : Option ValueType) → is_assignable to from ≡ true → is_assignable_some (Some from) last ≡ true → is_assignable_some (Some to) last ≡ true
assigned_on_some to from None h k = absurd (cc)
assigned_on_some to from (Some last) h k = assigned_on to from last h k

pub function_itself : (s : Sig) → is_assignable (ToFunction s) (ToFunction s) ≡ true
function_itself s = (sig_compared s).itself
