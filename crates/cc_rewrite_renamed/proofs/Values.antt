-- Operators over values by other numbers: the results are those by the old numbers, by other numbers.
use Rattle.std.proofs.Common.{◌≡◌, ◌∙◌, ◌==◌, ◌&&◌, ◌⊎◌, inl, inr, ℕ, ℤ, Bool, true, false, not, List, [], ◌∷◌, map, Option, Some, None, option_map, option_and_then, refl, ap, sym, if◌then◌else◌}
use Rattle.std.specs.Prelude.{◌≢◌, ◌-ℤ◌, nat_le, nat_lt, pos}
use Rattle.std.proofs.lemmas.Bool.Decides.{eqb_tells}
use Rattle.cc_program.specs.CcNum.declared.int_type.IntType.{IntType}
use Rattle.cc_program.specs.CcNum.declared.op.BinOp.{BinOp}
use Rattle.cc_program.specs.CcNum.declared.op.BinOp.TheVariants as op
use Rattle.cc_program.specs.CcNum.declared.op.UnOp.{UnOp}
use Rattle.cc_program.specs.CcNum.declared.target.Target.{Target}
use Rattle.cc_program.specs.CcNum.Integers.{is_value_of, converted}
use Rattle.cc_program.specs.CcNum.Results.{one_if}
use Rattle.cc_program.specs.declared.value.Address.{Address}
use Rattle.cc_program.specs.declared.value.Address.TheVariants as address
use Rattle.cc_program.specs.declared.value.Part.{Part}
use Rattle.cc_program.specs.declared.value.Root.{Root}
use Rattle.cc_program.specs.declared.value.Root.TheVariants as root
use Rattle.cc_program.specs.declared.value.Value.{Value}
use Rattle.cc_program.specs.declared.value.Value.TheVariants.{Int, Place}
use Rattle.cc_eval.specs.CcSyntax.Expressions.{of_two}
use Rattle.cc_eval.specs.CcSyntax.Operators.{difference_type}
use Rattle.cc_eval.specs.CcValues.Values.{integer, address_in, unary_result, binary_result, unary, binary, conversion, is_true, truth, of_truth, index_in, element_at, moved_address, movement, same_path, same_object, same_address, in_one_array, difference, gap, ordered, compared, comparison}
use Rattle.cc_eval.specs.Eval.{all_good, in_front}
use Rattle.cc_rewrite_renamed.specs.Objects.{root_renamed, address_renamed}
use Rattle.cc_rewrite_renamed.specs.Renaming.{value_renamed}

module _ (r : ℕ → ℕ) where
  abbrev may : Option Value → Option Value
  may v = option_map (value_renamed r) v

  pub integer_kept : (v : Option Value) → integer (may v) ≡ integer v
  integer_kept None = refl
  integer_kept (Some (Int n)) = refl
  integer_kept (Some (Place a)) = refl

  pub address_kept : (v : Option Value) → address_in (may v) ≡ option_map (address_renamed r) (address_in v)
  address_kept None = refl
  address_kept (Some (Int n)) = refl
  address_kept (Some (Place a)) = refl

  true_kept : (v : Value) → is_true (value_renamed r v) ≡ is_true v
  true_kept (Int n) = refl
  true_kept (Place address.Null) = refl
  true_kept (Place (address.Func f)) = refl
  true_kept (Place (address.At object path index count)) = refl

  pub is_true_kept : (v : Value) → is_true (value_renamed r v) ≡ is_true v
  is_true_kept = true_kept

  pub truth_kept : (v : Option Value) → truth (may v) ≡ truth v
  truth_kept None = refl
  truth_kept (Some v) = ap (λ (b : Bool). Some b) (true_kept v)

  -- numbers are kept
  number_kept : (n : Option ℤ) → may (option_map Int n) ≡ option_map Int n
  number_kept None = refl
  number_kept (Some n) = refl

  pub of_truth_kept : (b : Option Bool) → may (of_truth b) ≡ of_truth b
  of_truth_kept None = refl
  of_truth_kept (Some b) = refl

  unary_by : (f : ℤ → Option ℤ) (n : Option ℤ) → option_and_then (λ x. option_map Int (f x)) n ≡ may (option_and_then (λ x. option_map Int (f x)) n)
  unary_by f None = refl
  unary_by f (Some n) = sym (number_kept (f n))

  pub unary_kept : (o : UnOp) (t : IntType) (target : Target) (v : Option Value) → unary o t target (may v) ≡ may (unary o t target v)
  unary_kept o t target v =
      ap (option_and_then (λ x. option_map Int (unary_result o t target x))) (integer_kept v) ∙ unary_by (unary_result o t target) (integer v)

  binary_by : (f : ℤ → ℤ → Option ℤ) (m n : Option ℤ) → of_two m n (λ x y. option_map Int (f x y)) ≡ may (of_two m n (λ x y. option_map Int (f x y)))
  binary_by f None n = refl
  binary_by f (Some m) None = refl
  binary_by f (Some m) (Some n) = sym (number_kept (f m n))

  pub binary_kept : (o : BinOp) (t : IntType) (target : Target) (v w : Option Value) → binary o t target (may v) (may w) ≡ may (binary o t target v w)
  binary_kept o t target v w =
      (λ i. of_two (integer_kept v i) (integer_kept w i) (λ x y. option_map Int (binary_result o t target x y))) ∙ binary_by (binary_result o t target) (integer v) (integer w)

  conversion_by : (f : ℤ → ℤ) (n : Option ℤ) → option_map (λ x. Int (f x)) n ≡ may (option_map (λ x. Int (f x)) n)
  conversion_by f None = refl
  conversion_by f (Some n) = refl

  pub conversion_kept : (t : IntType) (target : Target) (v : Option Value) → conversion t target (may v) ≡ may (conversion t target v)
  conversion_kept t target v =
      ap (option_map (λ x. Int (converted x t target))) (integer_kept v) ∙ conversion_by (λ x. converted x t target) (integer v)

  -- ---- pointers

  element_by : (object : Root) (path : List Part) (count : ℕ) (i : Option ℕ) →
      option_map (λ i. address.At (root_renamed r object) path i count) i ≡ option_map (address_renamed r) (option_map (λ i. address.At object path i count) i)
  element_by object path count None = refl
  element_by object path count (Some i) = refl

  pub element_at_kept : (object : Root) (path : List Part) (index : ℤ) (count : ℕ) → element_at (root_renamed r object) path index count ≡ option_map (address_renamed r) (element_at object path index count)
  element_at_kept object path index count = element_by object path count (index_in index count)

  moved_kept : (back : Bool) (n : ℤ) (a : Address) → moved_address back n (address_renamed r a) ≡ option_map (address_renamed r) (moved_address back n a)
  moved_kept back n address.Null = refl
  moved_kept back n (address.Func f) = refl
  moved_kept back n (address.At object path index count) = element_at_kept object path _ count

  placed : (a : Option Address) → option_map Place (option_map (address_renamed r) a) ≡ may (option_map Place a)
  placed None = refl
  placed (Some a) = refl

  movement_by : (back : Bool) (a : Option Address) (n : Option ℤ) →
      of_two (option_map (address_renamed r) a) n (λ p n. option_map Place (moved_address back n p)) ≡ may (of_two a n (λ p n. option_map Place (moved_address back n p)))
  movement_by back None n = refl
  movement_by back (Some a) None = refl
  movement_by back (Some a) (Some n) = ap (option_map Place) (moved_kept back n a) ∙ placed (moved_address back n a)

  pub movement_kept : (back : Bool) (v w : Option Value) → movement back (may v) (may w) ≡ may (movement back v w)
  movement_kept back v w =
      (λ i. of_two (address_kept v i) (integer_kept w i) (λ p n. option_map Place (moved_address back n p))) ∙ movement_by back (address_in v) (integer w)

  pub value_of_address : (a : Option Address) → option_map Place (option_map (address_renamed r) a) ≡ may (option_map Place a)
  value_of_address = placed

  -- what each of a list is
  front_kept : (v : Value) (vs : Option (List Value)) → in_front (value_renamed r v) (option_map (map (value_renamed r)) vs) ≡ option_map (map (value_renamed r)) (in_front v vs)
  front_kept v None = refl
  front_kept v (Some vs) = refl

  pub all_good_kept : (vs : List (Option Value)) → all_good (map may vs) ≡ option_map (map (value_renamed r)) (all_good vs)
  all_good_kept [] = refl
  all_good_kept (None ∷ vs) = refl
  all_good_kept (Some v ∷ vs) = ap (in_front (value_renamed r v)) (all_good_kept vs) ∙ front_kept v (all_good vs)

  module _ (apart : (i j : ℕ) → r i ≡ r j → i ≡ j) where
    -- ---- objects

    number_same : (i j : ℕ) → (r i == r j) ≡ (i == j)
    number_same i j = by (eqb_tells i j) (eqb_tells (r i) (r j))
      where
        by : (((i == j) ≡ true) × (i ≡ j)) ⊎ (((i == j) ≡ false) × (i ≢ j)) → (((r i == r j) ≡ true) × (r i ≡ r j)) ⊎ (((r i == r j) ≡ false) × (r i ≢ r j)) → (r i == r j) ≡ (i == j)
        by (inl (t, same)) (inl (u, k)) = u ∙ sym t
        by (inl (t, same)) (inr (u, k)) = absurd (k (ap r same))
        by (inr (f, other)) (inl (u, k)) = absurd (other (apart i j k))
        by (inr (f, other)) (inr (u, k)) = u ∙ sym f

    object_kept : (o q : Root) → same_object (root_renamed r o) (root_renamed r q) ≡ same_object o q
    object_kept (root.Static i) (root.Static j) = number_same i j
    object_kept (root.Auto n f i) (root.Auto m g j) = refl
    object_kept (root.Static i) (root.Auto m g j) = refl
    object_kept (root.Auto n f i) (root.Static j) = refl

    same_address_kept : (a b : Address) → same_address (address_renamed r a) (address_renamed r b) ≡ same_address a b
    same_address_kept address.Null address.Null = refl
    same_address_kept (address.Func f) (address.Func g) = refl
    same_address_kept (address.At o p i n) (address.At o' p' j m) = ap (λ (b : Bool). b && same_path p p' && (i == j)) (object_kept o o')
    same_address_kept address.Null (address.Func g) = refl
    same_address_kept address.Null (address.At o p i n) = refl
    same_address_kept (address.Func f) address.Null = refl
    same_address_kept (address.Func f) (address.At o p i n) = refl
    same_address_kept (address.At o p i n) address.Null = refl
    same_address_kept (address.At o p i n) (address.Func g) = refl

    one_array_kept : (a b : Address) → in_one_array (address_renamed r a) (address_renamed r b) ≡ in_one_array a b
    one_array_kept address.Null b = refl
    one_array_kept (address.Func g) b = refl
    one_array_kept (address.At o p i n) address.Null = refl
    one_array_kept (address.At o p i n) (address.Func g) = refl
    one_array_kept (address.At o p i n) (address.At o' p' j m) = ap (λ (b : Bool). if b && same_path p p' && (n == m) then Some (i, j) else None) (object_kept o o')

    number_if : (b : Bool) (n : ℤ) → may (if b then Some (Int n) else None) ≡ (if b then Some (Int n) else None)
    number_if true n = refl
    number_if false n = refl

    difference_kept : (target : Target) (i j : ℕ) → may (difference target i j) ≡ difference target i j
    difference_kept target i j = number_if (is_value_of (difference_type target) target (pos i -ℤ pos j)) (pos i -ℤ pos j)

    gap_by : (target : Target) (o : Option (ℕ × ℕ)) → option_and_then (λ o. difference target o.0 o.1) o ≡ may (option_and_then (λ o. difference target o.0 o.1) o)
    gap_by target None = refl
    gap_by target (Some o) = sym (difference_kept target o.0 o.1)

    gap_in : (target : Target) (a b : Option Address) →
        of_two (option_map (address_renamed r) a) (option_map (address_renamed r) b) (λ p q. option_and_then (λ o. difference target o.0 o.1) (in_one_array p q))
        ≡ may (of_two a b (λ p q. option_and_then (λ o. difference target o.0 o.1) (in_one_array p q)))
    gap_in target None b = refl
    gap_in target (Some a) None = refl
    gap_in target (Some a) (Some b) = ap (option_and_then (λ o. difference target o.0 o.1)) (one_array_kept a b) ∙ gap_by target (in_one_array a b)

    pub gap_kept : (target : Target) (v w : Option Value) → gap target (may v) (may w) ≡ may (gap target v w)
    gap_kept target v w =
        (λ i. of_two (address_kept v i) (address_kept w i) (λ p q. option_and_then (λ o. difference target o.0 o.1) (in_one_array p q))) ∙ gap_in target (address_in v) (address_in w)

    ordered_by : (test : ℕ → ℕ → Bool) (o : Option (ℕ × ℕ)) → option_map (λ o. Int (one_if (test o.0 o.1))) o ≡ may (option_map (λ o. Int (one_if (test o.0 o.1))) o)
    ordered_by test None = refl
    ordered_by test (Some o) = refl

    ordered_kept : (test : ℕ → ℕ → Bool) (a b : Address) → ordered test (address_renamed r a) (address_renamed r b) ≡ may (ordered test a b)
    ordered_kept test a b = ap (option_map (λ o. Int (one_if (test o.0 o.1)))) (one_array_kept a b) ∙ ordered_by test (in_one_array a b)

    compared_kept : (o : BinOp) (a b : Address) → compared o (address_renamed r a) (address_renamed r b) ≡ may (compared o a b)
    compared_kept op.Eq a b = ap (λ (x : Bool). Some (Int (one_if x))) (same_address_kept a b)
    compared_kept op.Ne a b = ap (λ (x : Bool). Some (Int (one_if (not x)))) (same_address_kept a b)
    compared_kept op.Lt a b = ordered_kept (λ i j. nat_lt i j) a b
    compared_kept op.Le a b = ordered_kept (λ i j. nat_le i j) a b
    compared_kept op.Gt a b = ordered_kept (λ i j. nat_lt j i) a b
    compared_kept op.Ge a b = ordered_kept (λ i j. nat_le j i) a b
    compared_kept op.Add a b = refl
    compared_kept op.Sub a b = refl
    compared_kept op.Mul a b = refl
    compared_kept op.Div a b = refl
    compared_kept op.Rem a b = refl
    compared_kept op.And a b = refl
    compared_kept op.Or a b = refl
    compared_kept op.Xor a b = refl
    compared_kept op.Shl a b = refl
    compared_kept op.Shr a b = refl

    comparison_in : (o : BinOp) (a b : Option Address) → of_two (option_map (address_renamed r) a) (option_map (address_renamed r) b) (compared o) ≡ may (of_two a b (compared o))
    comparison_in o None b = refl
    comparison_in o (Some a) None = refl
    comparison_in o (Some a) (Some b) = compared_kept o a b

    pub comparison_kept : (o : BinOp) (v w : Option Value) → comparison o (may v) (may w) ≡ may (comparison o v w)
    comparison_kept o v w = (λ i. of_two (address_kept v i) (address_kept w i) (compared o)) ∙ comparison_in o (address_in v) (address_in w)
