-- What operators on pointers give is in the sets that they have: of a set that tells its addresses each address is a member itself.
use Rattle.std.proofs.Common.{arith, ◌≡◌, inl, inr, ℕ, ℤ, pos, neg_ℤ, ◌+ℤ◌, ◌-ℤ◌, Bool, true, false, not, ◌&&◌, Option, Some, None, refl, ap, sym, ◌∙◌, subst}
use Rattle.std.proofs.lemmas.Int.{ints}
use Rattle.std.proofs.lemmas.Option.{same_Some}
use Rattle.std.specs.List.{Contains, list_all}
use Rattle.std.specs.Prelude.{nat_lt, nat_le, option_map, option_and_then, if◌then◌else◌}
use Rattle.cc_program.specs.CcNum.declared.op.BinOp.{BinOp}
use Rattle.cc_program.specs.CcNum.declared.op.BinOp.TheVariants as op
use Rattle.cc_program.specs.CcNum.declared.target.Target.{Target}
use Rattle.cc_program.specs.CcNum.Integers.{is_value_of}
use Rattle.cc_program.specs.CcNum.Results.{one_if}
use Rattle.cc_program.proofs.CcNum.ResultLaws.{value_from_test}
use Rattle.cc_state_values.specs.CcPlaces.Kept.{kept_root, kept, starred, member_for, is_object}
use Rattle.cc_state_values.specs.CcPlaces.Moves.{IsMoved, HasMoved}
use Rattle.cc_state_values.specs.CcPlaces.Sets.{HasAddress, IsSetOf}
use Rattle.cc_state_values.specs.CcPlaces.declared.abs.Abs.TheVariants as abs
use Rattle.cc_state_values.specs.CcPlaces.declared.addrs.Addrs.{Addrs}
use Rattle.cc_state_values.specs.CcPlaces.laws.KeptLaws.{kept_twice, starred_of_kept}
use Rattle.cc_state_values.specs.CcPlaces.laws.ListLaws.{both_true, all_at}
use Rattle.cc_program.specs.declared.value.Address.{Address}
use Rattle.cc_program.specs.declared.value.Address.TheVariants as address
use Rattle.cc_program.specs.declared.value.Root.TheVariants as root
use Rattle.cc_program.specs.declared.value.Value.{Value}
use Rattle.cc_program.specs.declared.value.Value.TheVariants.{Int, Place}
use Rattle.cc_state_values.specs.CcStateOperators.Domains.{Domain}
use Rattle.cc_state_values.specs.CcStateOperators.Results.{is_static, is_told, offsets, IsZeroOrOne, IsComparison, IsGap}
use Rattle.cc_state_values_sound.specs.Steps.{MayGive}
use Rattle.cc_state_values.specs.CcSyntax.Operators.{difference_type}
use Rattle.cc_state_values.specs.CcValues.Values.{index_in, offset, moved_address, movement, in_one_array, difference, gap, same_address, compared, comparison}

-- ---- moves

some_mapped : {A B : Type 0} (f : A → B) (x : Option A) (b : B) → option_map f x ≡ Some b → (a : A) × (x ≡ Some a) × (f a ≡ b)
some_mapped f None b h = absurd (cc)
some_mapped f (Some a) b h = (a, refl, same_Some (f a) b h)

moved_kept : (back : Bool) (n : ℤ) (a b : Address) → moved_address back n a ≡ Some b → moved_address back n (kept a) ≡ Some (kept b)
moved_kept back n address.Null b h = absurd (cc)
moved_kept back n (address.Func f) b h = absurd (cc)
moved_kept back n (address.At o path i count) b h =
    let w = some_mapped (λ (k : ℕ). address.At o path k count) (index_in (pos i +ℤ offset back n) count) b h in
    ap (option_map (λ (k : ℕ). address.At (kept_root o) path k count)) w.1 ∙ ap (λ (z : Address). Some (kept z)) w.2

moved_starred : (back : Bool) (n : ℤ) (a b : Address) → moved_address back n a ≡ Some b → (starred a ≡ starred b) × (is_object b ≡ true)
moved_starred back n address.Null b h = absurd (cc)
moved_starred back n (address.Func f) b h = absurd (cc)
moved_starred back n (address.At o path i count) b h =
    let w = some_mapped (λ (k : ℕ). address.At o path k count) (index_in (pos i +ℤ offset back n) count) b h in
    (ap starred w.2, ap is_object (sym w.2))

neg_twice : (n : ℤ) → neg_ℤ (neg_ℤ n) ≡ n
neg_twice n = omega (arith, ints)

moved_back : (n : ℤ) (a : Address) → moved_address true n a ≡ moved_address false (neg_ℤ n) a
moved_back n address.Null = refl
moved_back n (address.Func f) = refl
moved_back n (address.At o path i count) = refl

-- a move by a number is one by an offset
by_offset : (back : Bool) (by : ℤ → Type 0) (n : ℤ) (a b : Address) → by n → moved_address back n a ≡ Some b → IsMoved (offsets back by) a b
by_offset true by n a b h k = (neg_ℤ n, subst by (sym (neg_twice n)) h, sym (moved_back n a) ∙ k)
by_offset false by n a b h k = (n, h, k)

pub moved_in : (exact back : Bool) (by : ℤ → Type 0) (s r : Addrs) (n : ℤ) (a b : Address) → s.is_exact ≡ exact → IsSetOf (HasMoved (offsets back by) s exact) r → Contains s.members (member_for exact a) → by n →
    moved_address back n a ≡ Some b → HasAddress r b
moved_in true back by s r n a b e h k i m = (h.has b).1 (kept b, (kept a, k, by_offset back by n (kept a) (kept b) i (moved_kept back n a b m)), same r.is_exact)
  where
    same : (x : Bool) → member_for x (kept b) ≡ member_for x b
    same true = kept_twice b
    same false = starred_of_kept b
moved_in false back by s r n a b e h k i m =
    let w = moved_starred back n a b m in
    let there : HasAddress s b = subst (λ (x : Bool). Contains s.members (member_for x b)) (sym e) (subst (λ (z : Address). Contains s.members z) w.0 k) in
    (h.has b).1 (b, (there, w.1), refl)

pub movement_gives : {I : Type 0} (d : Domain I) (back : Bool) (s r : Addrs) (x : I) → IsSetOf (HasMoved (offsets back (d.has x)) s s.is_exact) r → (v w : Option Value) → MayGive d.has (abs.Addrs s) v → MayGive d.has (abs.Ints x) w →
    MayGive d.has (abs.Addrs r) (movement back v w)
movement_gives d back s r x h None w k l = tt
movement_gives d back s r x h (Some (Int n)) w k l = absurd k
movement_gives d back s r x h (Some (Place a)) None k l = tt
movement_gives d back s r x h (Some (Place a)) (Some (Place b)) k l = absurd l
movement_gives {I = I} d back s r x h (Some (Place a)) (Some (Int n)) k l = by_address (moved_address back n a) (λ b e. moved_in s.is_exact back (d.has x) s r n a b refl h k l e)
  where
    by_address : (y : Option Address) → ((b : Address) → y ≡ Some b → HasAddress r b) → MayGive {I = I} d.has (abs.Addrs r) (option_map Place y)
    by_address None g = tt
    by_address (Some b) g = g b refl

-- ---- two pointers

static_itself : (a : Address) → is_static (kept a) ≡ true → kept a ≡ a
static_itself address.Null h = refl
static_itself (address.Func f) h = refl
static_itself (address.At (root.Static i) path index count) h = refl
static_itself (address.At (root.Auto n f l) path index count) h = absurd (cc)

told_member : (s : Addrs) (a : Address) → is_told s ≡ true → HasAddress s a → Contains s.members a
told_member s a h k =
    let w = both_true s.is_exact (list_all is_static s.members) h in
    let there : Contains s.members (kept a) = subst (λ (e : Bool). Contains s.members (member_for e a)) w.0 k in
    subst (λ (z : Address). Contains s.members z) (static_itself a (all_at is_static s.members (kept a) w.1 there)) there

module _ {I : Type 0} (d : Domain I) where
  abbrev Gives : I → Option Value → Type 0
  Gives x v = MayGive d.has (abs.Ints x) v

  -- what a difference is, where it is one
  gap_in : (target : Target) (a b : Address) (x : I) →
      ((n : ℤ) → gap target (Some (Place a)) (Some (Place b)) ≡ Some (Int n) → is_value_of (difference_type target) target n ≡ true → d.has x n) → Gives x (gap target (Some (Place a)) (Some (Place b)))
  gap_in target a b x h = by_positions (in_one_array a b) h
    where
      by_positions : (o : Option (ℕ × ℕ)) → ((n : ℤ) → option_and_then (λ (o : ℕ × ℕ). difference target o.0 o.1) o ≡ Some (Int n) → is_value_of (difference_type target) target n ≡ true → d.has x n) →
          Gives x (option_and_then (λ (o : ℕ × ℕ). difference target o.0 o.1) o)
      by_positions None k = tt
      by_positions (Some o) k = by_test (is_value_of (difference_type target) target (pos o.0 -ℤ pos o.1)) refl (k (pos o.0 -ℤ pos o.1))
        where
          by_test : (e : Bool) → is_value_of (difference_type target) target (pos o.0 -ℤ pos o.1) ≡ e →
              ((if e then Some (Int (pos o.0 -ℤ pos o.1)) else None) ≡ Some (Int (pos o.0 -ℤ pos o.1)) → is_value_of (difference_type target) target (pos o.0 -ℤ pos o.1) ≡ true → d.has x (pos o.0 -ℤ pos o.1)) →
              Gives x (if e then Some (Int (pos o.0 -ℤ pos o.1)) else None)
          by_test true e l = l refl e
          by_test false e l = tt

  gap_by : (told : Bool) (target : Target) (s t : Addrs) (a b : Address) (x : I) → is_told s && is_told t ≡ told → IsGap d target s t told x → HasAddress s a → HasAddress t b → Gives x (gap target (Some (Place a)) (Some (Place b)))
  gap_by true target s t a b x e h k l =
      let w = both_true (is_told s) (is_told t) e in
      gap_in target a b x (λ n g i. h.has_all n (a, b, told_member s a w.0 k, told_member t b w.1 l, g))
  gap_by false target s t a b x e h k l = gap_in target a b x (λ n g i. (h n).0 (value_from_test (difference_type target) target n i))

  pub gap_gives : (target : Target) (s t : Addrs) (x : I) → IsGap d target s t (is_told s && is_told t) x → (v w : Option Value) → MayGive d.has (abs.Addrs s) v → MayGive d.has (abs.Addrs t) w → Gives x (gap target v w)
  gap_gives target s t x h None w k l = tt
  gap_gives target s t x h (Some (Int n)) w k l = absurd k
  gap_gives target s t x h (Some (Place a)) None k l = tt
  gap_gives target s t x h (Some (Place a)) (Some (Int n)) k l = absurd l
  gap_gives target s t x h (Some (Place a)) (Some (Place b)) k l = gap_by (is_told s && is_told t) target s t a b x refl h k l

  -- what a comparison is, where it is one
  abbrev IsTruth : I → Option Value → Type 0
  IsTruth x v = (b : Bool) → v ≡ Some (Int (one_if b)) → d.has x (one_if b)

  ordered_in : (test : ℕ → ℕ → Bool) (x : I) (o : Option (ℕ × ℕ)) → IsTruth x (option_map (λ (o : ℕ × ℕ). Int (one_if (test o.0 o.1))) o) → Gives x (option_map (λ (o : ℕ × ℕ). Int (one_if (test o.0 o.1))) o)
  ordered_in test x None h = tt
  ordered_in test x (Some o) h = h (test o.0 o.1) refl

  compared_in : (o : BinOp) (a b : Address) (x : I) → IsTruth x (compared o a b) → Gives x (compared o a b)
  compared_in op.Eq a b x h = h (same_address a b) refl
  compared_in op.Ne a b x h = h (not (same_address a b)) refl
  compared_in op.Lt a b x h = ordered_in (λ i j. nat_lt i j) x (in_one_array a b) h
  compared_in op.Le a b x h = ordered_in (λ i j. nat_le i j) x (in_one_array a b) h
  compared_in op.Gt a b x h = ordered_in (λ i j. nat_lt j i) x (in_one_array a b) h
  compared_in op.Ge a b x h = ordered_in (λ i j. nat_le j i) x (in_one_array a b) h
  compared_in op.Add a b x h = tt
  compared_in op.Sub a b x h = tt
  compared_in op.Mul a b x h = tt
  compared_in op.Div a b x h = tt
  compared_in op.Rem a b x h = tt
  compared_in op.And a b x h = tt
  compared_in op.Or a b x h = tt
  compared_in op.Xor a b x h = tt
  compared_in op.Shl a b x h = tt
  compared_in op.Shr a b x h = tt

  zero_or_one : (b : Bool) → IsZeroOrOne d (one_if b)
  zero_or_one true = inr refl
  zero_or_one false = inl refl

  comparison_by : (told : Bool) (o : BinOp) (s t : Addrs) (a b : Address) (x : I) → is_told s && is_told t ≡ told → IsComparison d o s t told x → HasAddress s a → HasAddress t b → Gives x (compared o a b)
  comparison_by true o s t a b x e h k l =
      let w = both_true (is_told s) (is_told t) e in
      compared_in o a b x (λ c g. h.has_all (one_if c) (a, b, told_member s a w.0 k, told_member t b w.1 l, g))
  comparison_by false o s t a b x e h k l = compared_in o a b x (λ c g. h.has_all (one_if c) (zero_or_one c))

  pub comparison_gives : (o : BinOp) (s t : Addrs) (x : I) → IsComparison d o s t (is_told s && is_told t) x → (v w : Option Value) → MayGive d.has (abs.Addrs s) v → MayGive d.has (abs.Addrs t) w → Gives x (comparison o v w)
  comparison_gives o s t x h None w k l = tt
  comparison_gives o s t x h (Some (Int n)) w k l = absurd k
  comparison_gives o s t x h (Some (Place a)) None k l = tt
  comparison_gives o s t x h (Some (Place a)) (Some (Int n)) k l = absurd l
  comparison_gives o s t x h (Some (Place a)) (Some (Place b)) k l = comparison_by (is_told s && is_told t) o s t a b x refl h k l
