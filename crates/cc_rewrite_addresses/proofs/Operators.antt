-- Operators give integers, and addresses in the objects that their operands name.
use Rattle.std.proofs.Common.{◌≡◌, ℕ, ℤ, Bool, true, false, List, [], ◌∷◌, Option, Some, None, option_map, option_and_then, subst, if◌then◌else◌}
use Rattle.std.specs.Prelude.{◌-ℤ◌, nat_le, nat_lt, pos}
use Rattle.cc_program.specs.CcNum.declared.int_type.IntType.{IntType}
use Rattle.cc_program.specs.CcNum.declared.op.BinOp.{BinOp}
use Rattle.cc_program.specs.CcNum.declared.op.BinOp.TheVariants as op
use Rattle.cc_program.specs.CcNum.declared.op.UnOp.{UnOp}
use Rattle.cc_program.specs.CcNum.declared.target.Target.{Target}
use Rattle.cc_program.specs.CcNum.Integers.{is_value_of, converted}
use Rattle.cc_program.specs.CcNum.Results.{one_if}
use Rattle.cc_program.specs.declared.value.Address.{Address}
use Rattle.cc_program.specs.declared.value.Address.TheVariants as address
use Rattle.cc_program.specs.declared.value.Part.{Part}
use Rattle.cc_program.specs.declared.value.Root.{Root}
use Rattle.cc_program.specs.declared.value.Value.{Value}
use Rattle.cc_program.specs.declared.value.Value.TheVariants.{Int, Place}
use Rattle.cc_states.specs.CcSyntax.Expressions.{of_two}
use Rattle.cc_states.specs.CcSyntax.Operators.{difference_type}
use Rattle.cc_states.specs.CcSyntax.Values.{ValueType, NoValue, Integer, ToObject, ToFunction}
use Rattle.cc_states.specs.CcEval.Eval.{all_good, in_front, changed, is_back}
use Rattle.cc_states.specs.CcValues.Values.{integer, address_in, unary_result, binary_result, unary, binary, conversion, of_truth, index_in, moved_address, movement, in_one_array, difference, gap, compared, comparison}
use Rattle.cc_rewrite_addresses.specs.Holds.{Every, ValueIn, MayIn}
use Rattle.cc_rewrite_renamed.specs.Names.{names_in_root, names_in_address}

module _ (test : ℕ → Bool) where
  abbrev May : Option Value → Type 0
  May v = MayIn test v

  ints : (n : Option ℤ) → May (option_map Int n)
  ints None = tt
  ints (Some n) = tt

  pub unary_in : (o : UnOp) (t : IntType) (target : Target) (v : Option Value) → May (unary o t target v)
  unary_in o t target v = by (integer v)
    where
      by : (n : Option ℤ) → May (option_and_then (λ x. option_map Int (unary_result o t target x)) n)
      by None = tt
      by (Some x) = ints (unary_result o t target x)

  pub binary_in : (o : BinOp) (t : IntType) (target : Target) (v w : Option Value) → May (binary o t target v w)
  binary_in o t target v w = by (integer v) (integer w)
    where
      by : (m n : Option ℤ) → May (of_two m n (λ x y. option_map Int (binary_result o t target x y)))
      by None n = tt
      by (Some x) None = tt
      by (Some x) (Some y) = ints (binary_result o t target x y)

  pub conversion_in : (t : IntType) (target : Target) (v : Option Value) → May (conversion t target v)
  conversion_in t target v = by (integer v)
    where
      by : (n : Option ℤ) → May (option_map (λ x. Int (converted x t target)) n)
      by None = tt
      by (Some x) = tt

  pub of_truth_in : (b : Option Bool) → May (of_truth b)
  of_truth_in None = tt
  of_truth_in (Some b) = tt

  -- ---- pointers

  elements : (o : Root) (path : List Part) (count : ℕ) (i : Option ℕ) → names_in_root test o ≡ true → May (option_map Place (option_map (λ i. address.At o path i count) i))
  elements o path count None h = tt
  elements o path count (Some i) h = h

  moved : (back : Bool) (n : ℤ) (a : Address) → names_in_address test a ≡ true → May (option_map Place (moved_address back n a))
  moved back n address.Null h = tt
  moved back n (address.Func f) h = tt
  moved back n (address.At o path i count) h = elements o path count (index_in _ count) h

  pub movement_in : (back : Bool) (v w : Option Value) → May v → May (movement back v w)
  movement_in back None w h = tt
  movement_in back (Some (Int n)) w h = tt
  movement_in back (Some (Place a)) w h = by (integer w)
    where
      by : (n : Option ℤ) → May (of_two (Some a) n (λ p n. option_map Place (moved_address back n p)))
      by None = tt
      by (Some n) = moved back n a h

  number_if : (b : Bool) (n : ℤ) → May (if b then Some (Int n) else None)
  number_if true n = tt
  number_if false n = tt

  pub gap_in : (target : Target) (v w : Option Value) → May (gap target v w)
  gap_in target v w = by (address_in v) (address_in w)
    where
      apart : (o : Option (ℕ × ℕ)) → May (option_and_then (λ o. difference target o.0 o.1) o)
      apart None = tt
      apart (Some o) = number_if (is_value_of (difference_type target) target (pos o.0 -ℤ pos o.1)) (pos o.0 -ℤ pos o.1)

      by : (a b : Option Address) → May (of_two a b (λ p q. option_and_then (λ o. difference target o.0 o.1) (in_one_array p q)))
      by None b = tt
      by (Some a) None = tt
      by (Some a) (Some b) = apart (in_one_array a b)

  ordered_in : (less : ℕ → ℕ → Bool) (o : Option (ℕ × ℕ)) → May (option_map (λ o. Int (one_if (less o.0 o.1))) o)
  ordered_in less None = tt
  ordered_in less (Some o) = tt

  compared_in : (o : BinOp) (a b : Address) → May (compared o a b)
  compared_in op.Eq a b = tt
  compared_in op.Ne a b = tt
  compared_in op.Lt a b = ordered_in (λ i j. nat_lt i j) (in_one_array a b)
  compared_in op.Le a b = ordered_in (λ i j. nat_le i j) (in_one_array a b)
  compared_in op.Gt a b = ordered_in (λ i j. nat_lt j i) (in_one_array a b)
  compared_in op.Ge a b = ordered_in (λ i j. nat_le j i) (in_one_array a b)
  compared_in op.Add a b = tt
  compared_in op.Sub a b = tt
  compared_in op.Mul a b = tt
  compared_in op.Div a b = tt
  compared_in op.Rem a b = tt
  compared_in op.And a b = tt
  compared_in op.Or a b = tt
  compared_in op.Xor a b = tt
  compared_in op.Shl a b = tt
  compared_in op.Shr a b = tt

  pub comparison_in : (o : BinOp) (v w : Option Value) → May (comparison o v w)
  comparison_in o v w = by (address_in v) (address_in w)
    where
      by : (a b : Option Address) → May (of_two a b (compared o))
      by None b = tt
      by (Some a) None = tt
      by (Some a) (Some b) = compared_in o a b

  pub changed_in : (target : Target) (o : BinOp) (t : IntType) (x : Option ValueType) (v w : Option Value) → May v → May (changed target o t x v w)
  changed_in target o t None v w h = tt
  changed_in target o t (Some NoValue) v w h = tt
  changed_in target o t (Some (Integer s)) v w h = conversion_in s target (binary o t target (conversion t target v) w)
  changed_in target o t (Some (ToObject constant volatile to)) v w h = movement_in (is_back o) v w h
  changed_in target o t (Some (ToFunction sig)) v w h = tt

  -- ---- addresses and arguments

  same_address : (a b : Address) → Some a ≡ Some b → a ≡ b
  same_address a b e = cc

  pub address_of_value : (v : Option Value) (a : Address) → address_in v ≡ Some a → May v → names_in_address test a ≡ true
  address_of_value None a e h = absurd (cc)
  address_of_value (Some (Int n)) a e h = absurd (cc)
  address_of_value (Some (Place b)) a e h = subst (λ (x : Address). names_in_address test x ≡ true) (same_address b a e) h

  abbrev GoodIn : Option (List Value) → Type 0
  GoodIn None = Unit {0}
  GoodIn (Some vs) = Every (ValueIn test) vs

  front_in : (v : Value) (vs : Option (List Value)) → ValueIn test v → GoodIn vs → GoodIn (in_front v vs)
  front_in v None h k = tt
  front_in v (Some vs) h k = (h, k)

  good_by : (vs : List (Option Value)) → Every May vs → GoodIn (all_good vs)
  good_by [] h = tt
  good_by (None ∷ vs) h = tt
  good_by (Some v ∷ vs) h = front_in v (all_good vs) h.0 (good_by vs h.1)

  pub good_in : (vs : List (Option Value)) (good : List Value) → Every May vs → all_good vs ≡ Some good → Every (ValueIn test) good
  good_in vs good h e = subst GoodIn e (good_by vs h)
