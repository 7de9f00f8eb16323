-- Sets of values of a type: those of integers are below the set of all, those of addresses have each one that a pointer of the type may have. So is
-- a set that is the least above some of them.
use Rattle.std.proofs.Common.{◌≡◌, ⊎_elim, inl, inr, ℤ, Bool, true, false, List, [], ◌∷◌, Contains, refl, sym, subst}
use Rattle.cc_state_reads.specs.CcLattice.Domains.{AreOperands, AreOperandsOne, type_given, type_given_of_one}
use Rattle.cc_program.proofs.CcNum.ResultLaws.{is_value_from, value_from_test}
use Rattle.cc_program.specs.CcNum.declared.int_type.IntType.{IntType}
use Rattle.cc_program.specs.CcNum.declared.op.BinOp.{BinOp}
use Rattle.cc_program.specs.CcNum.declared.op.UnOp.{UnOp}
use Rattle.cc_program.specs.CcNum.declared.target.Target.{Target}
use Rattle.cc_program.specs.CcNum.Integers.{is_value_of, IsValueOf}
use Rattle.cc_state_reads.specs.CcPlaces.Abstract.{AreOfOneKind, IsBelowAbs}
use Rattle.cc_state_reads.specs.CcPlaces.declared.abs.Abs.{Abs}
use Rattle.cc_state_reads.specs.CcPlaces.declared.abs.Abs.TheVariants as abs
use Rattle.cc_state_reads.specs.CcPlaces.declared.addrs.Addrs.{Addrs}
use Rattle.cc_state_reads.specs.CcPlaces.laws.ListLaws.{cons_cases, at_head, behind_head, none_in}
use Rattle.cc_state_reads.specs.CcPlaces.laws.SetLaws.{sets_same}
use Rattle.cc_state_reads.specs.CcPlaces.Sets.{IsWithin}
use Rattle.cc_program.specs.declared.program.Program.{Program}
use Rattle.cc_state.specs.Shape.{MayPoint, HoldsIntegers, IsSetIn}
use Rattle.cc_state_reads.specs.CcStateOperators.Domains.{Domain, AllOf, IsHull, IsUnion}
use Rattle.cc_state_reads.specs.CcStateOperators.Results.{IsArm}
use Rattle.cc_state_reads.proofs.CcStateValues.Rules.{IsPointer}
use Rattle.cc_state_values_fit.proofs.Names.{point_kept, point_surely, point_wider}
use Rattle.cc_state_values_fit.proofs.Unions.{IsOver, over, those_never}
use Rattle.cc_state_values_fit.specs.Fit.{HasWholes, AllMayPoint}
use Rattle.cc_state_reads.proofs.CcSyntax.SameLemmas.{int_same}
use Rattle.cc_state_reads.specs.CcSyntax.Values.{ValueType, NoValue, Integer, ToObject, ToFunction, is_scalar, is_assignable}

-- what the laws of a domain say of the members of sets
pub record IsTyping {I : Type 0} (d : Domain I) : Type 0 where
  pub grows : (x y : I) → d.below x y → (n : ℤ) → d.has x n → d.has y n
  pub by_members : (x y : I) → ((n : ℤ) → d.has x n → d.has y n) → d.below x y
  pub op_typed : (o : BinOp) (a b r : I) (t : IntType) (target : Target) → AreOperands d.has o a b t target → d.op o a b t target r → (n : ℤ) → d.has r n → IsValueOf (type_given o t) target n
  pub op_one_typed : (o : UnOp) (a r : I) (t : IntType) (target : Target) → AreOperandsOne d.has a t target → d.op_one o a t target r → (n : ℤ) → d.has r n → IsValueOf (type_given_of_one o t) target n
  pub to_typed : (a r : I) (t : IntType) (target : Target) → d.to a t target r → (n : ℤ) → d.has r n → IsValueOf t target n

never_false : (b : Bool) → ((b ≡ true → ⊥) → ⊥) → b ≡ true
never_false true h = refl
never_false false h = absurd (h (λ e. cc))

-- ---- the sets of addresses among some sets

addresses : {I : Type 0} → List (Abs I) → List Addrs
addresses [] = []
addresses (abs.Ints x ∷ ys) = addresses ys
addresses (abs.Addrs s ∷ ys) = s ∷ addresses ys

addresses_from : {I : Type 0} (ys : List (Abs I)) (s : Addrs) → Contains (addresses ys) s → Contains ys (abs.Addrs s)
unfolding addresses
addresses_from [] s c = absurd (none_in s c)
addresses_from (abs.Ints x ∷ ys) s c = behind_head (abs.Ints x) ys (abs.Addrs s) (addresses_from ys s c)
addresses_from {I = I} (abs.Addrs r ∷ ys) s c = ⊎_elim
    (λ (e : r ≡ s). subst (λ (z : Addrs). Contains (abs.Addrs r ∷ ys) (abs.Addrs z)) e (at_head {X = Abs I} (abs.Addrs r) ys))
    (λ (k : Contains (addresses ys) s). behind_head (abs.Addrs r) ys (abs.Addrs s) (addresses_from ys s k)) (cons_cases r (addresses ys) s c)

addresses_into : {I : Type 0} (ys : List (Abs I)) (s : Addrs) → Contains ys (abs.Addrs s) → Contains (addresses ys) s
unfolding addresses
addresses_into [] s c = absurd (none_in (abs.Addrs s) c)
addresses_into (abs.Ints x ∷ ys) s c = ⊎_elim (λ (e : abs.Ints x ≡ abs.Addrs s). absurd (cc)) (λ (k : Contains ys (abs.Addrs s)). addresses_into ys s k) (cons_cases (abs.Ints x) ys (abs.Addrs s) c)
addresses_into (abs.Addrs r ∷ ys) s c = elim (cons_cases (abs.Addrs r) ys (abs.Addrs s) c) [
  | inl e ↦ let same : r ≡ s = cc in subst (λ (z : Addrs). Contains (r ∷ addresses ys) z) same (at_head r (addresses ys))
  | inr k ↦ behind_head r (addresses ys) s (addresses_into ys s k)
]

module _ {I : Type 0} (d : Domain I) (p : Program) where
  -- ---- of a type

  pub holds : (t : IntType) (x : I) → AllOf d t p.target x → HoldsIntegers p d (Integer t) x
  holds t x h n m = is_value_from t p.target n (h n m)

  pub held : (t : IntType) (x : I) → HoldsIntegers p d (Integer t) x → AllOf d t p.target x
  held t x h n m = value_from_test t p.target n (h n m)

  pub ints_set : (t : ValueType) (i : IntType) (y : Abs I) (x : I) → Integer i ≡ t → y ≡ abs.Ints x → AllOf d i p.target x → IsSetIn p d t y
  ints_set t i y x is same h = subst (IsSetIn p d t) (sym same) (subst (λ (u : ValueType). IsSetIn p d u (abs.Ints x)) is (holds i x h))

  pub addrs_in : (t : ValueType) (s : Addrs) → IsPointer t → AllMayPoint p t s → IsSetIn p d t (abs.Addrs s)
  addrs_in NoValue s is h = absurd is
  addrs_in (Integer i) s is h = absurd is
  addrs_in (ToObject c v t) s is h = h
  addrs_in (ToFunction sig) s is h = h

  pub addrs_set : (t : ValueType) (y : Abs I) (s : Addrs) → IsPointer t → y ≡ abs.Addrs s → AllMayPoint p t s → IsSetIn p d t y
  addrs_set t y s is same h = subst (IsSetIn p d t) (sym same) (addrs_in t s is h)

  pub points_of : (t : ValueType) (s : Addrs) → IsSetIn p d t (abs.Addrs s) → AllMayPoint p t s
  points_of NoValue s h = absurd h
  points_of (Integer i) s h = absurd h
  points_of (ToObject c v t) s h = h
  points_of (ToFunction sig) s h = h

  pub one_kind : (t : ValueType) (x y : Abs I) → IsSetIn p d t x → IsSetIn p d t y → AreOfOneKind x y
  one_kind t (abs.Ints x) (abs.Ints y) h l = tt
  one_kind t (abs.Addrs r) (abs.Addrs s) h l = tt
  one_kind NoValue (abs.Ints x) (abs.Addrs s) h l = absurd l
  one_kind (Integer i) (abs.Ints x) (abs.Addrs s) h l = absurd l
  one_kind (ToObject c v t) (abs.Ints x) (abs.Addrs s) h l = absurd h
  one_kind (ToFunction sig) (abs.Ints x) (abs.Addrs s) h l = absurd h
  one_kind NoValue (abs.Addrs r) (abs.Ints y) h l = absurd h
  one_kind (Integer i) (abs.Addrs r) (abs.Ints y) h l = absurd h
  one_kind (ToObject c v t) (abs.Addrs r) (abs.Ints y) h l = absurd l
  one_kind (ToFunction sig) (abs.Addrs r) (abs.Ints y) h l = absurd l

  -- a pointer has no numbers
  pub no_ints : (t : ValueType) (x : I) → IsPointer t → IsSetIn p d t (abs.Ints x) → ⊥
  no_ints NoValue x is h = is
  no_ints (Integer i) x is h = is
  no_ints (ToObject c v u) x is h = h
  no_ints (ToFunction sig) x is h = h

  -- what cannot but be of a type
  pub set_surely : (t : ValueType) (y : Abs I) → ((IsSetIn p d t y → ⊥) → ⊥) → IsSetIn p d t y
  set_surely NoValue (abs.Ints x) h = λ n m. h (λ k. k n m)
  set_surely NoValue (abs.Addrs s) h = h (λ k. k)
  set_surely (Integer t) (abs.Ints x) h = λ n m. never_false (is_value_of t p.target n) (λ never. h (λ k. never (k n m)))
  set_surely (Integer t) (abs.Addrs s) h = h (λ k. k)
  set_surely (ToObject c v t) (abs.Ints x) h = h (λ k. k)
  set_surely (ToObject c v t) (abs.Addrs s) h = λ a m. point_surely p (ToObject c v t) a (λ never. h (λ k. never (k a m)))
  set_surely (ToFunction sig) (abs.Ints x) h = h (λ k. k)
  set_surely (ToFunction sig) (abs.Addrs s) h = λ a m. point_surely p (ToFunction sig) a (λ never. h (λ k. never (k a m)))

  -- values that something of another type takes
  pub wider_set : (to from : ValueType) (y : Abs I) → is_assignable to from ≡ true → IsSetIn p d from y → IsSetIn p d to y
  wider_set NoValue from y h k = absurd (cc)
  wider_set (Integer s) NoValue y h k = absurd (cc)
  wider_set (Integer s) (Integer t) y h k = subst (λ (i : IntType). IsSetIn p d (Integer i) y) (sym (int_same s t h)) k
  wider_set (Integer s) (ToObject c v t) y h k = absurd (cc)
  wider_set (Integer s) (ToFunction sig) y h k = absurd (cc)
  wider_set (ToObject c v t) NoValue y h k = absurd (cc)
  wider_set (ToObject c v t) (Integer s) y h k = absurd (cc)
  wider_set (ToObject c v t) (ToObject c' v' u) (abs.Ints x) h k = absurd k
  wider_set (ToObject c v t) (ToObject c' v' u) (abs.Addrs s) h k = λ a m. point_wider p (ToObject c v t) (ToObject c' v' u) a h (k a m)
  wider_set (ToObject c v t) (ToFunction sig) y h k = absurd (cc)
  wider_set (ToFunction s) NoValue y h k = absurd (cc)
  wider_set (ToFunction s) (Integer t) y h k = absurd (cc)
  wider_set (ToFunction s) (ToObject c v t) y h k = absurd (cc)
  wider_set (ToFunction s) (ToFunction t) (abs.Ints x) h k = absurd k
  wider_set (ToFunction s) (ToFunction t) (abs.Addrs r) h k = λ a m. point_wider p (ToFunction s) (ToFunction t) a h (k a m)

  -- ---- least sets

  module _ (typing : IsTyping d) (wholes : HasWholes d p.target) where
    whole_above : (t : IntType) (x : I) → AllOf d t p.target x → d.below x (wholes t).0
    whole_above t x h = typing.by_members x (wholes t).0 (λ n m. ((wholes t).1 n).0 (h n m))

    below_whole : (t : IntType) (x : I) → d.below x (wholes t).0 → AllOf d t p.target x
    below_whole t x h n m = ((wholes t).1 n).1 (typing.grows x (wholes t).0 h n m)

    pub hull_in : (t : IntType) (image : ℤ → Type 0) (x : I) → IsHull d image x → ((n : ℤ) → image n → IsValueOf t p.target n) → AllOf d t p.target x
    hull_in t image x h f = below_whole t x (h.least (wholes t).0 (λ n i. ((wholes t).1 n).0 (f n i)))

    -- below the set of all values
    pub below_in : (t : IntType) (z : Abs I) → IsBelowAbs d.below z (abs.Ints (wholes t).0) → IsSetIn p d (Integer t) z
    below_in t (abs.Ints x) h = holds t x (below_whole t x h)
    below_in t (abs.Addrs s) h = absurd h

    pub whole_set : (t : IntType) → IsSetIn p d (Integer t) (abs.Ints (wholes t).0)
    whole_set t = holds t (wholes t).0 (λ n m. ((wholes t).1 n).1 m)

    pub below_all : (t : IntType) (y : Abs I) → IsSetIn p d (Integer t) y → IsBelowAbs d.below y (abs.Ints (wholes t).0)
    below_all t (abs.Ints x) h = whole_above t x (held t x h)
    below_all t (abs.Addrs s) h = absurd h

    pub has_all : (t : IntType) (n : ℤ) → IsValueOf t p.target n → d.has (wholes t).0 n
    has_all t n h = ((wholes t).1 n).0 h

    -- a set that each such set is above that is above some others, of values of the type
    abbrev pub IsLeastIn : ValueType → List (Abs I) → Abs I → Type 0
    IsLeastIn t ys z = (u : Abs I) → IsSetIn p d t u → ((y : Abs I) → Contains ys y → IsBelowAbs d.below y u) → IsBelowAbs d.below z u

    below_over : (t : ValueType) (ys : List (Abs I)) (above : Addrs) → ((y : Abs I) → Contains ys y → IsSetIn p d t y) → IsPointer t → ((s : Addrs) → Contains (addresses ys) s → IsWithin s above) → (y : Abs I) → Contains ys y → IsBelowAbs d.below y (abs.Addrs above)
    below_over t ys above f is h (abs.Addrs s) c = h s (addresses_into ys s c)
    below_over t ys above f is h (abs.Ints x) c = absurd (no_ints t x is (f (abs.Ints x) c))

    pointers_in : (t : ValueType) → IsPointer t → (ys : List (Abs I)) → ((y : Abs I) → Contains ys y → IsSetIn p d t y) → (z : Abs I) → ((y : Abs I) → Contains ys y → IsBelowAbs d.below y z) → IsLeastIn t ys z → IsSetIn p d t z
    pointers_in t is ys f z above least = by z above (least (abs.Addrs r.set) (addrs_in t r.set is r.all) (below_over t ys r.set f is r.above))
      where
        r : IsOver (MayPoint p t) (point_kept p t) (addresses ys)
        r = over (MayPoint p t) (point_kept p t) (addresses ys) (λ s c. points_of t s (f (abs.Addrs s) (addresses_from ys s c)))

        by : (z : Abs I) → ((y : Abs I) → Contains ys y → IsBelowAbs d.below y z) → IsBelowAbs d.below z (abs.Addrs r.set) → IsSetIn p d t z
        by (abs.Ints x) h b = absurd b
        by (abs.Addrs q) h b = addrs_in t q is (subst (AllMayPoint p t) (sets_same r.set q (r.least q (λ s c. h (abs.Addrs s) (addresses_from ys s c))) b) r.all)

    pub least_in : (t : ValueType) → is_scalar t ≡ true → (ys : List (Abs I)) → ((y : Abs I) → Contains ys y → IsSetIn p d t y) → (z : Abs I) → ((y : Abs I) → Contains ys y → IsBelowAbs d.below y z) → IsLeastIn t ys z → IsSetIn p d t z
    least_in NoValue scalar ys f z above least = absurd (cc)
    least_in (Integer t) scalar ys f z above least = below_in t z (least (abs.Ints (wholes t).0) (whole_set t) (λ y c. below_all t y (f y c)))
    least_in (ToObject c v t) scalar ys f z above least = pointers_in (ToObject c v t) tt ys f z above least
    least_in (ToFunction sig) scalar ys f z above least = pointers_in (ToFunction sig) tt ys f z above least

    -- the union of some of a list
    pub union_in : (t : ValueType) → is_scalar t ≡ true → (values : Abs I → Type 0) (all : List (Abs I)) (kind y : Abs I) → ((z : Abs I) → values z → Contains all z × IsSetIn p d t z) → ((u : Abs I) → IsSetIn p d t u → AreOfOneKind kind u) →
        IsUnion d kind values y → IsSetIn p d t y
    union_in t scalar values all kind y f alike union =
        set_surely t y (λ never. those_never values all (λ those. never
        (least_in t scalar those.those (λ z c. (f z (those.only z c).1).1) y (λ z c. union.above z (those.only z c).1)
        (λ u k h. union.least u (alike u k) (λ z v. h z (those.each z (f z v).0 v))))))

    -- of the arms of a choice that the condition allows
    pub arms_in : (t : ValueType) → is_scalar t ≡ true → (c x w y : Abs I) → IsSetIn p d t x → IsSetIn p d t w → IsUnion d x (IsArm d c x w) y → IsSetIn p d t y
    arms_in t scalar c x w y h k union = union_in t scalar (IsArm d c x w) (x ∷ w ∷ []) x y either (λ u l. one_kind t x u h l) union
      where
        either : (z : Abs I) → IsArm d c x w z → Contains (x ∷ w ∷ []) z × IsSetIn p d t z
        either z (inl (may, e)) = (subst (λ (s : Abs I). Contains (x ∷ w ∷ []) s) (sym e) (at_head x (w ∷ [])), subst (IsSetIn p d t) (sym e) h)
        either z (inr (may, e)) = (subst (λ (s : Abs I). Contains (x ∷ w ∷ []) s) (sym e) (behind_head x (w ∷ []) w (at_head w [])), subst (IsSetIn p d t) (sym e) k)
