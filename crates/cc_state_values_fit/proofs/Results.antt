-- What operators on addresses and on truths give is 0 or 1, or a difference of the type that differences have.
use Rattle.std.proofs.Common.{◌≡◌, inl, inr, ℕ, ℤ, pos, ◌-ℤ◌, Bool, true, false, not, Option, Some, None, refl, sym, subst}
use Rattle.std.specs.Prelude.{option_map, option_and_then, nat_le, nat_lt, if◌then◌else◌}
use Rattle.cc_state_reads.specs.CcLattice.Domains.{type_given, type_given_of_one}
use Rattle.cc_program.proofs.CcNum.ResultLaws.{value_from_test, truth_value}
use Rattle.cc_program.specs.CcNum.declared.int_type.IntType.{IntType}
use Rattle.cc_program.specs.CcNum.declared.op.BinOp.{BinOp}
use Rattle.cc_program.specs.CcNum.declared.op.BinOp.TheVariants as op
use Rattle.cc_program.specs.CcNum.declared.op.UnOp.{UnOp}
use Rattle.cc_program.specs.CcNum.declared.op.UnOp.TheVariants as unary
use Rattle.cc_program.specs.CcNum.declared.target.Target.{Target}
use Rattle.cc_program.specs.CcNum.Integers.{is_value_of, IsValueOf}
use Rattle.cc_program.specs.CcNum.Results.{one_if}
use Rattle.cc_program.specs.declared.value.Address.{Address}
use Rattle.cc_program.specs.declared.value.Value.TheVariants.{Int}
use Rattle.cc_state_reads.specs.CcStateOperators.Domains.{Domain}
use Rattle.cc_state_reads.specs.CcStateOperators.Results.{Together, IsZeroOrOne, ByBoth, ByEither}
use Rattle.cc_state_reads.specs.CcPlaces.declared.abs.Abs.{Abs}
use Rattle.cc_state_reads.specs.CcPlaces.declared.addrs.Addrs.{Addrs}
use Rattle.cc_state_reads.specs.CcSyntax.Operators.{unary_result, binary_result, difference_type}
use Rattle.cc_state_reads.specs.CcValues.Values.{same_address, in_one_array, difference, gap, compared, comparison}

-- ---- the types of results, as domains and as programs have them

pub binary_same : (o : BinOp) (t : IntType) → type_given o t ≡ binary_result o t
binary_same op.Add t = refl
binary_same op.Sub t = refl
binary_same op.Mul t = refl
binary_same op.Div t = refl
binary_same op.Rem t = refl
binary_same op.And t = refl
binary_same op.Or t = refl
binary_same op.Xor t = refl
binary_same op.Shl t = refl
binary_same op.Shr t = refl
binary_same op.Lt t = refl
binary_same op.Le t = refl
binary_same op.Gt t = refl
binary_same op.Ge t = refl
binary_same op.Eq t = refl
binary_same op.Ne t = refl

pub unary_same : (o : UnOp) (t : IntType) → type_given_of_one o t ≡ unary_result o t
unary_same unary.Neg t = refl
unary_same unary.Not t = refl
unary_same unary.Lnot t = refl

-- ---- truths

abbrev pub IsTruth : ℤ → Type 0
IsTruth n = (b : Bool) × (one_if b ≡ n)

pub truth_in : (t : IntType) (target : Target) (n : ℤ) → IsTruth n → IsValueOf t target n
truth_in t target n (b, e) = subst (IsValueOf t target) e (truth_value b t target)

some_int : (b : Bool) (n : ℤ) → Some (Int (one_if b)) ≡ Some (Int n) → IsTruth n
some_int b n h = (b, cc)

ordered_truth : (test : ℕ → ℕ → Bool) (x : Option (ℕ × ℕ)) (n : ℤ) → option_map (λ (o : ℕ × ℕ). Int (one_if (test o.0 o.1))) x ≡ Some (Int n) → IsTruth n
ordered_truth test None n h = absurd (cc)
ordered_truth test (Some o) n h = some_int (test o.0 o.1) n h

compared_truth : (o : BinOp) (a b : Address) (n : ℤ) → compared o a b ≡ Some (Int n) → IsTruth n
compared_truth op.Eq a b n h = some_int (same_address a b) n h
compared_truth op.Ne a b n h = some_int (not (same_address a b)) n h
compared_truth op.Lt a b n h = ordered_truth (λ i j. nat_lt i j) (in_one_array a b) n h
compared_truth op.Le a b n h = ordered_truth (λ i j. nat_le i j) (in_one_array a b) n h
compared_truth op.Gt a b n h = ordered_truth (λ i j. nat_lt j i) (in_one_array a b) n h
compared_truth op.Ge a b n h = ordered_truth (λ i j. nat_le j i) (in_one_array a b) n h
compared_truth _ a b n h = absurd (cc)

module _ {I : Type 0} (d : Domain I) where
  pub compared_together : (o : BinOp) (s t : Addrs) (n : ℤ) → Together d (comparison o) s t n → IsTruth n
  compared_together o s t n (a, b, in_s, in_t, e) = compared_truth o a b n e

  pub zero_or_one : (n : ℤ) → IsZeroOrOne d n → IsTruth n
  zero_or_one n (inl e) = (false, sym e)
  zero_or_one n (inr e) = (true, sym e)

  pub both_truth : (x y : Abs I) (n : ℤ) → ByBoth d x y n → IsTruth n
  both_truth x y n (inl (may, e)) = (false, sym e)
  both_truth x y n (inr (may, (b, other, e))) = (b, sym e)

  pub either_truth : (x y : Abs I) (n : ℤ) → ByEither d x y n → IsTruth n
  either_truth x y n (inl (may, e)) = (true, sym e)
  either_truth x y n (inr (may, (b, other, e))) = (b, sym e)

  -- ---- differences

  difference_by : (target : Target) (m n : ℤ) (b : Bool) → is_value_of (difference_type target) target m ≡ b → (if b then Some (Int m) else None) ≡ Some (Int n) → IsValueOf (difference_type target) target n
  difference_by target m n true e h = subst (IsValueOf (difference_type target) target) (let k : Some (Int m) ≡ Some (Int n) = h in cc) (value_from_test (difference_type target) target m e)
  difference_by target m n false e h = absurd (cc)

  gap_by : (target : Target) (x : Option (ℕ × ℕ)) (n : ℤ) → option_and_then (λ (o : ℕ × ℕ). difference target o.0 o.1) x ≡ Some (Int n) → IsValueOf (difference_type target) target n
  gap_by target None n h = absurd (cc)
  gap_by target (Some o) n h = difference_by target (pos o.0 -ℤ pos o.1) n (is_value_of (difference_type target) target (pos o.0 -ℤ pos o.1)) refl h

  pub gap_together : (target : Target) (s t : Addrs) (n : ℤ) → Together d (gap target) s t n → IsValueOf (difference_type target) target n
  gap_together target s t n (a, b, in_s, in_t, e) = gap_by target (in_one_array a b) n e
