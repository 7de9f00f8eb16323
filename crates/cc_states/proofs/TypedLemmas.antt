-- Values keep their types where they are assigned, and what operators give has the type that they have.
use Rattle.std.proofs.Common.{◌≡◌, ℕ, ℤ, pos, Bool, true, false, not, ◌&&◌, ◌||◌, ◌⊎◌, inl, inr, List, Option, Some, None, refl, subst}
use Rattle.std.proofs.lemmas.Bool.{eqb-true}
use Rattle.std.proofs.lemmas.Option.{same_Some}
use Rattle.std.specs.Prelude.{negsuc, ◌-ℤ◌, ◌+ℤ◌, nat_le, nat_lt, nat_eq, option_map, option_and_then, slice_get, IfSome, int_lt, int_le, if◌then◌else◌}
use Rattle.std.specs.Ordering.{int_eq}
use Rattle.cc_program.specs.CcNum.declared.int_type.IntType.{IntType}
use Rattle.cc_program.specs.CcNum.declared.int_type.IntType.TheVariants as int
use Rattle.cc_program.specs.CcNum.declared.op.BinOp.{BinOp}
use Rattle.cc_program.specs.CcNum.declared.op.BinOp.TheVariants as op
use Rattle.cc_program.specs.CcNum.declared.op.UnOp.{UnOp}
use Rattle.cc_program.specs.CcNum.declared.op.UnOp.TheVariants as one_op
use Rattle.cc_program.specs.CcNum.declared.target.Target.{Target}
use Rattle.cc_program.specs.CcNum.Integers.{IsValueOf, is_value_of, converted}
use Rattle.cc_program.specs.CcNum.Results.{result_of, unary_result_of, is_shift, one_if}
use Rattle.cc_program.proofs.CcNum.Conversions.{converted-IsValueOf}
use Rattle.cc_program.proofs.CcNum.ResultLaws.{is_value_from, value_from_test, truth_value, result_lands, unary_result_lands}
use Rattle.cc_program.specs.declared.program.Program.{Program}
use Rattle.cc_program.specs.declared.types.CType.{CType}
use Rattle.cc_program.specs.declared.value.Address.{Address}
use Rattle.cc_program.specs.declared.value.Address.TheVariants as address
use Rattle.cc_program.specs.declared.value.Part.{Part}
use Rattle.cc_program.specs.declared.value.Root.{Root}
use Rattle.cc_program.specs.declared.value.Value.{Value}
use Rattle.cc_program.specs.declared.value.Value.TheVariants.{Int, Place}
use Rattle.cc_steps.specs.CcSyntax.Expressions.{of_one}
use Rattle.cc_steps.specs.CcSyntax.Initial.{names, names_element, names_whole, leads_to_element, bound_of}
use Rattle.cc_steps.specs.CcSyntax.Lists.{is_count}
use Rattle.cc_steps.specs.CcSyntax.Operators as rule
use Rattle.cc_steps.specs.CcSyntax.Operators.{is_promoted, is_comparison, function_type, difference_type}
use Rattle.cc_steps.specs.CcSyntax.Values.{ValueType, NoValue, Integer, ToObject, ToFunction, PlaceType, address_of, element_of, is_assignable, is_assignable_some}
use Rattle.cc_steps.proofs.CcSyntax.Prefixes.{both_true}
use Rattle.cc_steps.specs.CcValues.Values as value
use Rattle.cc_steps.specs.CcValues.Values.{integer, address_in, takes, takes_both, unary, binary, conversion, is_true, truth, of_truth, index_in, element_at, offset, moved_address, movement, in_one_array, difference, gap, ordered, compared, comparison}
use Rattle.cc_states.specs.Typed.{place_in, IsAddress, HasType, MayHave}
use Rattle.cc_steps.proofs.CcSyntax.AlikeLemmas.{assigned_on_some, points_as, integer_as, function_as}
use Rattle.cc_states.proofs.Options.{either_true, left_true, right_true}
use Rattle.cc_steps.proofs.CcSyntax.SameLemmas.{and_true}

-- ---- addresses

element_on : (to from : ValueType) (index count : ℕ) (a : PlaceType) → is_assignable to from ≡ true → names_element from index count a ≡ true → names_element to index count a ≡ true
element_on to from index count a h k =
    let all = both_true (is_count count (bound_of a)) (nat_le index count && is_assignable_some (Some from) (of_one (element_of a) address_of)) k in
    let those = both_true (nat_le index count) (is_assignable_some (Some from) (of_one (element_of a) address_of)) all.1 in
    and_true (is_count count (bound_of a)) (nat_le index count && is_assignable_some (Some to) (of_one (element_of a) address_of)) all.0
    (and_true (nat_le index count) (is_assignable_some (Some to) (of_one (element_of a) address_of)) those.0 (assigned_on_some to from (of_one (element_of a) address_of) h those.1))

whole_on : (to from : ValueType) (path : List Part) (index count : ℕ) (a : PlaceType) → is_assignable to from ≡ true → names_whole from path index count a ≡ true → names_whole to path index count a ≡ true
whole_on to from path index count a h k =
    let all = both_true (not (leads_to_element path)) (nat_eq count 1 && (nat_le index 1 && is_assignable_some (Some from) (address_of a))) k in
    let those = both_true (nat_eq count 1) (nat_le index 1 && is_assignable_some (Some from) (address_of a)) all.1 in
    let last = both_true (nat_le index 1) (is_assignable_some (Some from) (address_of a)) those.1 in
    and_true (not (leads_to_element path)) (nat_eq count 1 && (nat_le index 1 && is_assignable_some (Some to) (address_of a))) all.0
    (and_true (nat_eq count 1) (nat_le index 1 && is_assignable_some (Some to) (address_of a)) those.0
    (and_true (nat_le index 1) (is_assignable_some (Some to) (address_of a)) last.0 (assigned_on_some to from (address_of a) h last.1)))

either_on : (to from : ValueType) (path : List Part) (index count : ℕ) (a : PlaceType) → is_assignable to from ≡ true → (names_element from index count a ≡ true) ⊎ (names_whole from path index count a ≡ true) →
    names to path index count (Some a) ≡ true
either_on to from path index count a h (inl k) = left_true (names_element to index count a) (names_whole to path index count a) (element_on to from index count a h k)
either_on to from path index count a h (inr k) = right_true (names_element to index count a) (names_whole to path index count a) (whole_on to from path index count a h k)

names_on : (to from : ValueType) (path : List Part) (index count : ℕ) (a : Option PlaceType) → is_assignable to from ≡ true → names from path index count a ≡ true → names to path index count a ≡ true
names_on to from path index count None h k = absurd (cc)
names_on to from path index count (Some a) h k = either_on to from path index count a h (either_true (names_element from index count a) (names_whole from path index count a) k)

-- another place in the same array
element_there : (to : ValueType) (index other count : ℕ) (a : PlaceType) → names_element to index count a ≡ true → nat_le other count ≡ true → names_element to other count a ≡ true
element_there to index other count a k b =
    let all = both_true (is_count count (bound_of a)) (nat_le index count && is_assignable_some (Some to) (of_one (element_of a) address_of)) k in
    let those = both_true (nat_le index count) (is_assignable_some (Some to) (of_one (element_of a) address_of)) all.1 in
    and_true (is_count count (bound_of a)) (nat_le other count && is_assignable_some (Some to) (of_one (element_of a) address_of)) all.0
    (and_true (nat_le other count) (is_assignable_some (Some to) (of_one (element_of a) address_of)) b those.1)

whole_there : (to : ValueType) (path : List Part) (index other count : ℕ) (a : PlaceType) → names_whole to path index count a ≡ true → nat_le other count ≡ true → names_whole to path other count a ≡ true
whole_there to path index other count a k b =
    let all = both_true (not (leads_to_element path)) (nat_eq count 1 && (nat_le index 1 && is_assignable_some (Some to) (address_of a))) k in
    let those = both_true (nat_eq count 1) (nat_le index 1 && is_assignable_some (Some to) (address_of a)) all.1 in
    let last = both_true (nat_le index 1) (is_assignable_some (Some to) (address_of a)) those.1 in
    and_true (not (leads_to_element path)) (nat_eq count 1 && (nat_le other 1 && is_assignable_some (Some to) (address_of a))) all.0
    (and_true (nat_eq count 1) (nat_le other 1 && is_assignable_some (Some to) (address_of a)) those.0
    (and_true (nat_le other 1) (is_assignable_some (Some to) (address_of a)) (subst (λ (n : ℕ). nat_le other n ≡ true) (eqb-true count 1 those.0) b) last.1))

either_there : (to : ValueType) (path : List Part) (index other count : ℕ) (a : PlaceType) → (names_element to index count a ≡ true) ⊎ (names_whole to path index count a ≡ true) → nat_le other count ≡ true →
    names to path other count (Some a) ≡ true
either_there to path index other count a (inl k) b = left_true (names_element to other count a) (names_whole to path other count a) (element_there to index other count a k b)
either_there to path index other count a (inr k) b = right_true (names_element to other count a) (names_whole to path other count a) (whole_there to path index other count a k b)

pub names_there : (to : ValueType) (path : List Part) (index other count : ℕ) (a : Option PlaceType) → names to path index count a ≡ true → nat_le other count ≡ true → names to path other count a ≡ true
names_there to path index other count None k b = absurd (cc)
names_there to path index other count (Some a) k b = either_there to path index other count a (either_true (names_element to index count a) (names_whole to path index count a) k) b

within_by : (j count k : ℕ) (b : Bool) → nat_le j count ≡ b → (if b then Some j else None) ≡ Some k → nat_le k count ≡ true
within_by j count k true e h = subst (λ (n : ℕ). nat_le n count ≡ true) (same_Some j k h) e
within_by j count k false e h = absurd (cc)

pub within : (i : ℤ) (count k : ℕ) → index_in i count ≡ Some k → nat_le k count ≡ true
within (pos j) count k h = within_by j count k (nat_le j count) refl h
within (negsuc j) count k h = absurd (cc)

-- ---- integers

pub promoted_value : (t : IntType) (target : Target) (b : Bool) → is_value_of t target (one_if b) ≡ true
promoted_value t target b = is_value_from t target (one_if b) (truth_value b t target)

truth_of : (o : BinOp) (t : IntType) (target : Target) (x y z : ℤ) → is_comparison o ≡ true → result_of o x y t target ≡ Some z → (b : Bool) × (one_if b ≡ z)
unfolding result_of
truth_of op.Lt t target x y z c h = (int_lt x y, same_Some (one_if (int_lt x y)) z h)
truth_of op.Le t target x y z c h = (int_le x y, same_Some (one_if (int_le x y)) z h)
truth_of op.Gt t target x y z c h = (int_lt y x, same_Some (one_if (int_lt y x)) z h)
truth_of op.Ge t target x y z c h = (int_le y x, same_Some (one_if (int_le y x)) z h)
truth_of op.Eq t target x y z c h = (int_eq x y, same_Some (one_if (int_eq x y)) z h)
truth_of op.Ne t target x y z c h = (not (int_eq x y), same_Some (one_if (not (int_eq x y))) z h)
truth_of op.Add t target x y z c h = absurd (cc)
truth_of op.Sub t target x y z c h = absurd (cc)
truth_of op.Mul t target x y z c h = absurd (cc)
truth_of op.Div t target x y z c h = absurd (cc)
truth_of op.Rem t target x y z c h = absurd (cc)
truth_of op.And t target x y z c h = absurd (cc)
truth_of op.Or t target x y z c h = absurd (cc)
truth_of op.Xor t target x y z c h = absurd (cc)
truth_of op.Shl t target x y z c h = absurd (cc)
truth_of op.Shr t target x y z c h = absurd (cc)

comparison_value : (target : Target) (z : ℤ) → (b : Bool) × (one_if b ≡ z) → is_value_of int.Int target z ≡ true
comparison_value target z c = subst (λ (n : ℤ). is_value_of int.Int target n ≡ true) c.1 (promoted_value int.Int target c.0)

landed : (t : IntType) (target : Target) (r : Option ℤ) (z : ℤ) → IfSome r (IsValueOf t target) → r ≡ Some z → is_value_of t target z ≡ true
landed t target None z h e = absurd (cc)
landed t target (Some n) z h e = subst (λ (m : ℤ). is_value_of t target m ≡ true) (same_Some n z e) (is_value_from t target n h)

not_shift : (s b : Bool) → s || b ≡ true → s ≡ false → b ≡ true
not_shift true b h e = absurd (cc)
not_shift false b h e = h

typed_by : (o : BinOp) (t : IntType) (target : Target) (x y z : ℤ) (c : Bool) → is_comparison o ≡ c → takes_both o t target x y ≡ true → result_of o x y t target ≡ Some z →
    is_value_of (if c then int.Int else t) target z ≡ true
typed_by o t target x y z true c k h = comparison_value target z (truth_of o t target x y z c h)
typed_by o t target x y z false c k h =
    let all = both_true (takes t target x) (is_shift o || is_value_of t target y) k in
    let those = both_true (is_promoted target t) (is_value_of t target x) all.0 in
    landed t target (result_of o x y t target) z
    (result_lands o x y t target (value_from_test t target x those.1) (λ s. value_from_test t target y (not_shift (is_shift o) (is_value_of t target y) all.1 s))) h

taken_by : (o : BinOp) (t : IntType) (target : Target) (x y z : ℤ) (b : Bool) → takes_both o t target x y ≡ b → (if b then result_of o x y t target else None) ≡ Some z →
    is_value_of (rule.binary_result o t) target z ≡ true
taken_by o t target x y z true e h = typed_by o t target x y z (is_comparison o) refl e h
taken_by o t target x y z false e h = absurd (cc)

result_typed : (o : BinOp) (t : IntType) (target : Target) (x y z : ℤ) → value.binary_result o t target x y ≡ Some z → is_value_of (rule.binary_result o t) target z ≡ true
result_typed o t target x y z h = taken_by o t target x y z (takes_both o t target x y) refl h

unary_by : (o : UnOp) (t : IntType) (target : Target) (x z : ℤ) (b : Bool) → (if b then unary_result_of o x t target else None) ≡ Some z → is_value_of (rule.unary_result o t) target z ≡ true
unfolding unary_result_of
unary_by one_op.Neg t target x z true h = landed t target (unary_result_of one_op.Neg x t target) z (unary_result_lands one_op.Neg x t target) h
unary_by one_op.Not t target x z true h = landed t target (unary_result_of one_op.Not x t target) z (unary_result_lands one_op.Not x t target) h
unary_by one_op.Lnot t target x z true h = comparison_value target z (int_eq x (pos 0), same_Some (one_if (int_eq x (pos 0))) z h)
unary_by o t target x z false h = absurd (cc)

unary_typed : (o : UnOp) (t : IntType) (target : Target) (x z : ℤ) → value.unary_result o t target x ≡ Some z → is_value_of (rule.unary_result o t) target z ≡ true
unary_typed o t target x z h = unary_by o t target x z (takes t target x) h

module _ (p : Program) (openings : List ℕ) where
  pub widened_address : (to from : ValueType) (a : Address) → is_assignable to from ≡ true → IsAddress p openings from a → IsAddress p openings to a
  widened_address to from address.Null h k = tt
  widened_address to from (address.Func f) h k = assigned_on_some to from (function_type (slice_get p.funcs f)) h k
  widened_address to from (address.At object path index count) h k = (k.0, names_on to from path index count (place_in p object path) h k.1, k.2)

  widened_object : (constant volatile : Bool) (t : CType) (c v : Bool) (u : CType) (x : Value) → is_assignable (ToObject constant volatile t) (ToObject c v u) ≡ true →
      HasType p openings (ToObject c v u) x → HasType p openings (ToObject constant volatile t) x
  widened_object constant volatile t c v u (Int n) h k = absurd k
  widened_object constant volatile t c v u (Place a) h k = widened_address (ToObject constant volatile t) (ToObject c v u) a h k

  -- a value that is assigned
  pub widened : (to from : ValueType) (v : Value) → is_assignable to from ≡ true → HasType p openings from v → HasType p openings to v
  widened NoValue from v h k = tt
  widened (Integer s) from v h k = subst (λ (t : ValueType). HasType p openings t v) (integer_as s from h) k
  widened (ToFunction s) from v h k = subst (λ (t : ValueType). HasType p openings t v) (function_as s from h) k
  widened (ToObject constant volatile t) from v h k =
      let b = points_as constant volatile t from h in
      widened_object constant volatile t b.const b.volat b.to v (subst (λ (x : ValueType). is_assignable (ToObject constant volatile t) x ≡ true) b.is h) (subst (λ (x : ValueType). HasType p openings x v) b.is k)

  pub may_widen : (to from : ValueType) (v : Option Value) → is_assignable to from ≡ true → MayHave p openings from v → MayHave p openings to v
  may_widen to from None h k = tt
  may_widen to from (Some v) h k = widened to from v h k

  -- ---- what operators give

  integer_there : (t : IntType) (r : Option ℤ) → ((z : ℤ) → r ≡ Some z → is_value_of t p.target z ≡ true) → MayHave p openings (Integer t) (option_map Int r)
  integer_there t None h = tt
  integer_there t (Some z) h = h z refl

  pub has_unary : (o : UnOp) (t : IntType) (a : Option Value) → MayHave p openings (Integer (rule.unary_result o t)) (unary o t p.target a)
  has_unary o t None = tt
  has_unary o t (Some (Place a)) = tt
  has_unary o t (Some (Int n)) = integer_there (rule.unary_result o t) (value.unary_result o t p.target n) (λ z h. unary_typed o t p.target n z h)

  pub has_binary : (o : BinOp) (t : IntType) (a b : Option Value) → MayHave p openings (Integer (rule.binary_result o t)) (binary o t p.target a b)
  has_binary o t None b = tt
  has_binary o t (Some (Place a)) b = tt
  has_binary o t (Some (Int n)) None = tt
  has_binary o t (Some (Int n)) (Some (Place b)) = tt
  has_binary o t (Some (Int n)) (Some (Int m)) = integer_there (rule.binary_result o t) (value.binary_result o t p.target n m) (λ z h. result_typed o t p.target n m z h)

  pub has_conversion : (t : IntType) (a : Option Value) → MayHave p openings (Integer t) (conversion t p.target a)
  has_conversion t None = tt
  has_conversion t (Some (Place a)) = tt
  has_conversion t (Some (Int n)) = is_value_from t p.target (converted n t p.target) (converted-IsValueOf n t p.target)

  pub has_truth : (a : Option Value) → MayHave p openings (Integer int.Int) (of_truth (truth a))
  has_truth None = tt
  has_truth (Some v) = promoted_value int.Int p.target (is_true v)

  moved_to : (to : ValueType) (object : Root) (path : List Part) (index count : ℕ) (o : Option ℕ) → ((k : ℕ) → o ≡ Some k → nat_le k count ≡ true) →
      (b : Address) → IsAddress p openings to (address.At object path index count) → option_map (λ i. address.At object path i count) o ≡ Some b → IsAddress p openings to b
  moved_to to object path index count None w b h e = absurd (cc)
  moved_to to object path index count (Some k) w b h e =
      subst (IsAddress p openings to) (same_Some (address.At object path k count) b e) (h.0, names_there to path index k count (place_in p object path) h.1 (w k refl), h.2)

  moved_address_typed : (to : ValueType) (back : Bool) (n : ℤ) (a b : Address) → IsAddress p openings to a → moved_address back n a ≡ Some b → IsAddress p openings to b
  moved_address_typed to back n address.Null b h e = absurd (cc)
  moved_address_typed to back n (address.Func f) b h e = absurd (cc)
  moved_address_typed to back n (address.At object path index count) b h e =
      moved_to to object path index count (index_in (pos index +ℤ offset back n) count) (λ k w. within (pos index +ℤ offset back n) count k w) b h e

  address_there : (c v : Bool) (t : CType) (r : Option Address) → ((b : Address) → r ≡ Some b → IsAddress p openings (ToObject c v t) b) → MayHave p openings (ToObject c v t) (option_map Place r)
  address_there c v t None h = tt
  address_there c v t (Some b) h = h b refl

  pub has_movement : (c v : Bool) (t : CType) (back : Bool) (a b : Option Value) → MayHave p openings (ToObject c v t) a → MayHave p openings (ToObject c v t) (movement back a b)
  has_movement c v t back None b h = tt
  has_movement c v t back (Some (Int n)) b h = tt
  has_movement c v t back (Some (Place a)) None h = tt
  has_movement c v t back (Some (Place a)) (Some (Place b)) h = tt
  has_movement c v t back (Some (Place a)) (Some (Int n)) h =
      address_there c v t (moved_address back n a) (λ b e. moved_address_typed (ToObject c v t) back n a b h e)

  difference_by : (n : ℤ) (b : Bool) → is_value_of (difference_type p.target) p.target n ≡ b → MayHave p openings (Integer (difference_type p.target)) (if b then Some (Int n) else None)
  difference_by n true h = h
  difference_by n false h = tt

  gap_there : (o : Option (ℕ × ℕ)) → MayHave p openings (Integer (difference_type p.target)) (option_and_then (λ o. difference p.target o.0 o.1) o)
  gap_there None = tt
  gap_there (Some o) = difference_by (pos o.0 -ℤ pos o.1) (is_value_of (difference_type p.target) p.target (pos o.0 -ℤ pos o.1)) refl

  pub has_gap : (a b : Option Value) → MayHave p openings (Integer (difference_type p.target)) (gap p.target a b)
  has_gap None b = tt
  has_gap (Some (Int n)) b = tt
  has_gap (Some (Place a)) None = tt
  has_gap (Some (Place a)) (Some (Int n)) = tt
  has_gap (Some (Place a)) (Some (Place b)) = gap_there (in_one_array a b)

  ordered_there : (test : ℕ → ℕ → Bool) (o : Option (ℕ × ℕ)) → MayHave p openings (Integer int.Int) (option_map (λ o. Int (one_if (test o.0 o.1))) o)
  ordered_there test None = tt
  ordered_there test (Some o) = promoted_value int.Int p.target (test o.0 o.1)

  compared_typed : (o : BinOp) (a b : Address) → MayHave p openings (Integer int.Int) (compared o a b)
  compared_typed op.Eq a b = promoted_value int.Int p.target _
  compared_typed op.Ne a b = promoted_value int.Int p.target _
  compared_typed op.Lt a b = ordered_there (λ i j. nat_lt i j) (in_one_array a b)
  compared_typed op.Le a b = ordered_there (λ i j. nat_le i j) (in_one_array a b)
  compared_typed op.Gt a b = ordered_there (λ i j. nat_lt j i) (in_one_array a b)
  compared_typed op.Ge a b = ordered_there (λ i j. nat_le j i) (in_one_array a b)
  compared_typed op.Add a b = tt
  compared_typed op.Sub a b = tt
  compared_typed op.Mul a b = tt
  compared_typed op.Div a b = tt
  compared_typed op.Rem a b = tt
  compared_typed op.And a b = tt
  compared_typed op.Or a b = tt
  compared_typed op.Xor a b = tt
  compared_typed op.Shl a b = tt
  compared_typed op.Shr a b = tt

  pub has_comparison : (o : BinOp) (a b : Option Value) → MayHave p openings (Integer int.Int) (comparison o a b)
  has_comparison o None b = tt
  has_comparison o (Some (Int n)) b = tt
  has_comparison o (Some (Place a)) None = tt
  has_comparison o (Some (Place a)) (Some (Int n)) = tt
  has_comparison o (Some (Place a)) (Some (Place b)) = compared_typed o a b
