-- What two pointers give is of one type; and the least set that has what the members of two lists give, pair by pair.
use Rattle.std.proofs.Common.{◌≡◌, ◌⊎◌, ℕ, ◌+◌, ◌<◌, ℤ, pos, ◌-ℤ◌, Bool, true, false, not, List, [], length, take, get_or, Option, Some, None, inl, inr, ⊎_elim, refl, ap, sym, ◌∙◌, subst}
use Rattle.std.specs.Prelude.{option_map, option_and_then, nat_lt, nat_le, if◌then◌else◌}
use Rattle.std.proofs.lemmas.Option.{same_Some}
use Rattle.cc_lattice.specs.Domains.{IsIntValue}
use Rattle.cc_lattice.proofs.IntValues.{value_is_int}
use Rattle.cc_program.specs.CcNum.declared.int_type.IntType.{IntType}
use Rattle.cc_program.specs.CcNum.declared.int_type.IntType.TheVariants as int
use Rattle.cc_program.specs.CcNum.declared.op.BinOp.{BinOp}
use Rattle.cc_program.specs.CcNum.declared.op.BinOp.TheVariants as op
use Rattle.cc_program.specs.CcNum.declared.target.Target.{Target}
use Rattle.cc_program.specs.CcNum.Integers.{IsValueOf, is_value_of}
use Rattle.cc_program.specs.CcNum.Results.{one_if}
use Rattle.cc_program.proofs.CcNum.ResultLaws.{truth_value, value_from_test}
use Rattle.cc_places.specs.declared.addrs.Addrs.{Addrs}
use Rattle.cc_places.specs.laws.ListLaws.{none_in, taken_cases, taken_before, taken_now}
use Rattle.cc_program.specs.declared.value.Address.{Address}
use Rattle.cc_program.specs.declared.value.Value.{Value}
use Rattle.cc_program.specs.declared.value.Value.TheVariants.{Int, Place}
use Rattle.cc_eval.specs.CcSyntax.Expressions.{of_two}
use Rattle.cc_eval.specs.CcSyntax.Operators.{difference_type}
use Rattle.cc_eval.specs.CcValues.Values.{address_in, same_address, in_one_array, difference, gap, ordered, compared}
use Rattle.cc_state_operators.specs.declared.operators.Relation.{Relation}
use Rattle.cc_state_operators.specs.declared.operators.Relation.TheVariants as relation
use Rattle.cc_state_operators.specs.Domains.{Domain, IsHull, IsHullFrom, IsWhole}
use Rattle.cc_state_operators.specs.Operands.{related, related_type, Gives, GiveEach, GiveAll}
use Rattle.cc_state_operators.specs.Results.{IsGap, IsComparison, IsZeroOrOne}
use Rattle.cc_state_operators.proofs.Hulls.{IsOrder, from_more, hull_more}

-- the type of what two pointers give

two_there : {A B C : Type 0} (a : Option A) (b : Option B) (f : A → B → Option C) (w : C) → of_two a b f ≡ Some w → (x : A) × (y : B) × (a ≡ Some x) × (b ≡ Some y) × (f x y ≡ Some w)
two_there None b f w h = absurd (cc)
two_there (Some x) None f w h = absurd (cc)
two_there (Some x) (Some y) f w h = (x, y, refl, refl, h)

then_there : {A B : Type 0} (f : A → Option B) (a : Option A) (w : B) → option_and_then f a ≡ Some w → (x : A) × (a ≡ Some x) × (f x ≡ Some w)
then_there f None w h = absurd (cc)
then_there f (Some x) w h = (x, refl, h)

mapped_there : {A B : Type 0} (f : A → B) (a : Option A) (w : B) → option_map f a ≡ Some w → (x : A) × (f x ≡ w)
mapped_there f None w h = absurd (cc)
mapped_there f (Some x) w h = (x, same_Some (f x) w h)

pub same_number : (m n : ℤ) → Int m ≡ Int n → m ≡ n
same_number m n h = cc

difference_value : (target : Target) (z n : ℤ) (b : Bool) → is_value_of (difference_type target) target z ≡ b → (if b then Some (Int z) else None) ≡ Some (Int n) → IsValueOf (difference_type target) target n
difference_value target z n true h k = subst (λ m. IsValueOf (difference_type target) target m) (same_number z n (same_Some (Int z) (Int n) k)) (value_from_test (difference_type target) target z h)
difference_value target z n false h k = absurd (cc)

gap_value : (target : Target) (p q : Option Value) (n : ℤ) → gap target p q ≡ Some (Int n) → IsValueOf (difference_type target) target n
gap_value target p q n h =
    let w = two_there (address_in p) (address_in q) (λ a b. option_and_then (λ (o : ℕ × ℕ). difference target o.0 o.1) (in_one_array a b)) (Int n) h in
    let v = then_there (λ (o : ℕ × ℕ). difference target o.0 o.1) (in_one_array w.0 w.1) (Int n) w.4 in
    difference_value target (pos v.0.0 -ℤ pos v.0.1) n (is_value_of (difference_type target) target (pos v.0.0 -ℤ pos v.0.1)) refl v.2

truth_is : (target : Target) (b : Bool) (n : ℤ) → Some (Int (one_if b)) ≡ Some (Int n) → IsValueOf int.Int target n
truth_is target b n h = subst (λ m. IsValueOf int.Int target m) (same_number (one_if b) n (same_Some (Int (one_if b)) (Int n) h)) (truth_value b int.Int target)

ordered_is : (target : Target) (test : ℕ → ℕ → Bool) (p q : Address) (n : ℤ) → ordered test p q ≡ Some (Int n) → IsValueOf int.Int target n
ordered_is target test p q n h =
    let w = mapped_there (λ (o : ℕ × ℕ). Int (one_if (test o.0 o.1))) (in_one_array p q) (Int n) h in
    truth_is target (test w.0.0 w.0.1) n (ap Some w.1)

compared_is : (target : Target) (o : BinOp) (p q : Address) (n : ℤ) → compared o p q ≡ Some (Int n) → IsValueOf int.Int target n
compared_is target op.Eq p q n h = truth_is target (same_address p q) n h
compared_is target op.Ne p q n h = truth_is target (not (same_address p q)) n h
compared_is target op.Lt p q n h = ordered_is target (λ i j. nat_lt i j) p q n h
compared_is target op.Le p q n h = ordered_is target (λ i j. nat_le i j) p q n h
compared_is target op.Gt p q n h = ordered_is target (λ i j. nat_lt j i) p q n h
compared_is target op.Ge p q n h = ordered_is target (λ i j. nat_le j i) p q n h
compared_is target op.Add p q n h = absurd (cc)
compared_is target op.Sub p q n h = absurd (cc)
compared_is target op.Mul p q n h = absurd (cc)
compared_is target op.Div p q n h = absurd (cc)
compared_is target op.Rem p q n h = absurd (cc)
compared_is target op.And p q n h = absurd (cc)
compared_is target op.Or p q n h = absurd (cc)
compared_is target op.Xor p q n h = absurd (cc)
compared_is target op.Shl p q n h = absurd (cc)
compared_is target op.Shr p q n h = absurd (cc)

pub related_value : (r : Relation) (target : Target) (p q : Option Value) (n : ℤ) → Gives r target p q n → IsValueOf (related_type r target) target n
related_value relation.Difference target p q n h = gap_value target p q n h
related_value (relation.Comparison o) target p q n h = let w = two_there (address_in p) (address_in q) (compared o) (Int n) h in compared_is target o w.0 w.1 n w.4

pub related_number : (r : Relation) (target : Target) (p q v : Option Value) (n : ℤ) → v ≡ related r target p q → v ≡ Some (Int n) → IsIntValue n
related_number r target p q v n e h = value_is_int n (related_type r target) target (related_value r target p q n (sym e ∙ h))

-- pair by pair

module _ {I : Type 0} (d : Domain I) (alike : I → I → Type 0) (all : (x y : I) → alike x y) (o : IsOrder d) (r : Relation) (target : Target) where
  pub no_others : (p : Option Value) (n : ℤ) → GiveEach r target p [] n → ⊥
  no_others p n (b, c, g) = none_in b c

  pub no_pairs : (others : List Address) (n : ℤ) → GiveAll r target [] others n → ⊥
  no_pairs others n (a, b, c, e, g) = none_in a c

  pub each_more : (p q v : Option Value) (others : List Address) (i : ℕ) (other : Address) (x y z : I) → i < length others → other ≡ get_or others i other → q ≡ Some (Place other) → v ≡ related r target p q →
      IsHullFrom d x (GiveEach r target p (take i others)) y → IsHullFrom d y (λ n. v ≡ Some (Int n)) z → IsHullFrom d x (GiveEach r target p (take (i + 1) others)) z
  each_more p q v others i other x y z l e f g h k =
      from_more d alike all o (GiveEach r target p (take i others)) (λ n. v ≡ Some (Int n)) (GiveEach r target p (take (i + 1) others)) x y z split before now h k
    where
      now : (n : ℤ) → v ≡ Some (Int n) → GiveEach r target p (take (i + 1) others) n
      now n m = (other, taken_now others i other l e, ap (related r target p) (sym f) ∙ (sym g ∙ m))

      before : (n : ℤ) → GiveEach r target p (take i others) n → GiveEach r target p (take (i + 1) others) n
      before n (b, c, m) = (b, taken_before others i other b l e c, m)

      split : (n : ℤ) → GiveEach r target p (take (i + 1) others) n → GiveEach r target p (take i others) n ⊎ (v ≡ Some (Int n))
      split n (b, c, m) = ⊎_elim (λ t. inl (b, t, m)) (λ t. inr (g ∙ (ap (related r target p) (f ∙ ap (λ a. Some (Place a)) t) ∙ m))) (taken_cases others i other b l e c)

  pub pairs_more : (p : Option Value) (members others : List Address) (i : ℕ) (member : Address) (y z : I) → i < length members → member ≡ get_or members i member → p ≡ Some (Place member) →
      IsHull d (GiveAll r target (take i members) others) y → IsHullFrom d y (GiveEach r target p others) z → IsHull d (GiveAll r target (take (i + 1) members) others) z
  pairs_more p members others i member y z l e f h k =
      hull_more d alike all o (GiveAll r target (take i members) others) (GiveEach r target p others) (GiveAll r target (take (i + 1) members) others) y z split before now h k
    where
      now : (n : ℤ) → GiveEach r target p others n → GiveAll r target (take (i + 1) members) others n
      now n (b, c, m) = (member, b, taken_now members i member l e, c, ap (λ z. related r target z (Some (Place b))) (sym f) ∙ m)

      before : (n : ℤ) → GiveAll r target (take i members) others n → GiveAll r target (take (i + 1) members) others n
      before n (a, b, c, q, m) = (a, b, taken_before members i member a l e c, q, m)

      split : (n : ℤ) → GiveAll r target (take (i + 1) members) others n → GiveAll r target (take i members) others n ⊎ GiveEach r target p others n
      split n (a, b, c, q, m) = ⊎_elim (λ t. inl (a, b, t, q, m)) (λ t. inr (b, q, ap (λ z. related r target z (Some (Place b))) (f ∙ ap (λ z. Some (Place z)) t) ∙ m)) (taken_cases members i member a l e c)

  pub each_done : (p : Option Value) (others : List Address) (i : ℕ) (x y : I) → take i others ≡ others → IsHullFrom d x (GiveEach r target p (take i others)) y → IsHullFrom d x (GiveEach r target p others) y
  each_done p others i x y e h = subst (λ l. IsHullFrom d x (GiveEach r target p l) y) e h

  pub pairs_done : (members others : List Address) (i : ℕ) (y : I) → take i members ≡ members → IsHull d (GiveAll r target (take i members) others) y → IsHull d (GiveAll r target members others) y
  pairs_done members others i y e h = subst (λ l. IsHull d (GiveAll r target l others) y) e h

-- of a number that is given

pub number_named : (v : Option Value) (w : Value) (m : ℤ) → v ≡ Some w → w ≡ Int m → v ≡ Some (Int m)
number_named v w m e h = e ∙ ap Some h

pub only_number : (v : Option Value) (m n : ℤ) → v ≡ Some (Int m) → v ≡ Some (Int n) → n ≡ m
only_number v m n e h = same_number n m (same_Some (Int n) (Int m) (sym h ∙ e))

-- all values of a type, whose name is known

pub whole_of : {I : Type 0} (d : Domain I) (target : Target) (t u : IntType) (x : I) → t ≡ u → ((n : ℤ) → (d.has x n → IsValueOf t target n) × (IsValueOf t target n → d.has x n)) → IsWhole d u target x
whole_of d target t u x e h = subst (λ w. IsWhole d w target x) e (λ n. ((h n).1, (h n).0))

-- by whether both sets tell their addresses

module _ {I : Type 0} (d : Domain I) (target : Target) (s t : Addrs) where
  pub gap_told : (b : Bool) (members others : List Address) (x : I) → b ≡ true → members ≡ s.members → others ≡ t.members → IsHull d (GiveAll relation.Difference target members others) x → IsGap d target s t b x
  gap_told b members others x e f g h =
      subst (λ c. IsGap d target s t c x) (sym e)
      (subst (λ l. IsHull d (GiveAll relation.Difference target s.members l) x) g (subst (λ l. IsHull d (GiveAll relation.Difference target l others) x) f h))

  pub gap_untold : (b : Bool) (x : I) → b ≡ false → IsWhole d (difference_type target) target x → IsGap d target s t b x
  gap_untold b x e h = subst (λ c. IsGap d target s t c x) (sym e) h

  pub comparison_told : (o : BinOp) (b : Bool) (members others : List Address) (x : I) → b ≡ true → members ≡ s.members → others ≡ t.members →
      IsHull d (GiveAll (relation.Comparison o) target members others) x → IsComparison d o s t b x
  comparison_told o b members others x e f g h =
      subst (λ c. IsComparison d o s t c x) (sym e)
      (subst (λ l. IsHull d (GiveAll (relation.Comparison o) target s.members l) x) g (subst (λ l. IsHull d (GiveAll (relation.Comparison o) target l others) x) f h))

  pub comparison_untold : (o : BinOp) (b : Bool) (x : I) → b ≡ false → IsHull d (IsZeroOrOne d) x → IsComparison d o s t b x
  comparison_untold o b x e h = subst (λ c. IsComparison d o s t c x) (sym e) h
