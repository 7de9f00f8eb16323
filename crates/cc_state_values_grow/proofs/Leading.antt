-- Where registers have addresses of their types, so have expressions, and places have addresses that lead somewhere. By induction over how
-- what an expression may give, and the addresses of a place, come about.
use Rattle.std.proofs.Common.{◌≡◌, ◌⊎◌, inl, inr, ℕ, ℤ, Bool, true, false, ◌&&◌, List, [], ◌∷◌, ◌++◌, Option, Some, None, refl, ap, sym, ◌∙◌, subst}
use Rattle.std.proofs.lemmas.Option.{same_Some}
use Rattle.std.specs.List.{Contains}
use Rattle.std.specs.Prelude.{option_map, option_and_then, slice_get, if◌then◌else◌}
use Rattle.cc_state_values_sound.specs.CcEval.Context.{local_type, named_by}
use Rattle.cc_state_values_sound.specs.CcPlaces.Abstract.{IsBelowAbs}
use Rattle.cc_state_values_sound.specs.CcPlaces.Kept.{starred, member_for, is_object}
use Rattle.cc_state_values_sound.specs.CcPlaces.Moves.{HasMoved}
use Rattle.cc_state_values_sound.specs.CcPlaces.Sets.{HasAddress, IsWithin, IsSetOf}
use Rattle.cc_state_values_sound.specs.CcPlaces.declared.abs.Abs.{Abs}
use Rattle.cc_state_values_sound.specs.CcPlaces.declared.abs.Abs.TheVariants as abs
use Rattle.cc_state_values_sound.specs.CcPlaces.declared.addrs.Addrs.{Addrs}
use Rattle.cc_state_values_sound.specs.CcPlaces.laws.KeptLaws.{object_starred}
use Rattle.cc_state_values_sound.specs.CcPlaces.laws.SetLaws.{has_same, within_itself, sets_same}
use Rattle.cc_program.specs.declared.expr.Expr.{Expr, out-Expr}
use Rattle.cc_program.specs.declared.expr.Expr.TheOpen as one
use Rattle.cc_program.specs.declared.expr.Place.{Place as PlaceOf, out-Place}
use Rattle.cc_program.specs.declared.func.Func.{Func}
use Rattle.cc_program.specs.Qualifiers.{is_const, is_volatile}
use Rattle.cc_program.specs.declared.object.Object.{Object}
use Rattle.cc_program.specs.declared.program.Program.{Program}
use Rattle.cc_program.specs.declared.types.CType.{CType}
use Rattle.cc_program.specs.declared.value.Address.{Address}
use Rattle.cc_program.specs.declared.value.Address.TheVariants as address
use Rattle.cc_program.specs.declared.value.Part.{Part}
use Rattle.cc_program.specs.declared.value.Part.TheVariants as part
use Rattle.cc_program.specs.declared.value.Root.{Root}
use Rattle.cc_program.specs.declared.value.Root.TheVariants as root
use Rattle.cc_state_values_sound.specs.CcStateOperators.Addresses.{object_address, IsOnly, IsNone, member_address, element_in, IsElement, HasStepped}
use Rattle.cc_state_values_sound.specs.CcStateOperators.Domains.{Domain, IsUnion, MayBe}
use Rattle.cc_state_values_sound.specs.CcStateOperators.Results.{IsArm, offsets}
use Rattle.cc_state_values_sound.specs.CcStateOperators.declared.operators.TwoOperands.TheVariants as kind_two
use Rattle.cc_state_values_sound.proofs.CcStateValues.Parts.{place_effects_at, typed_as, place_typed_as, two_type, qualified_assigned, by_place, register_type}
use Rattle.cc_state_values_sound.proofs.CcStateValues.Rules.{one_there, two_there, when_there}
use Rattle.cc_state_values_sound.specs.CcStateValues.Values.{IsVal, OfConst, OfNull, OfFunction, OfRegister, OfAddress, OfUn, OfBin, OfConv, OfQualify, OfMove, OfGap, OfCompare, OfBoth, OfEither, OfChoose, Designates, AtLocal, AtStatic, AtDevice, AtElement, AtMember, AtTarget}
use Rattle.cc_state_values_grow.proofs.Fitting.{IsKept, Points, Fits, real_fits, points_surely, may_points, whole_leads, points_kept, fits_kept, null_points, function_points, moved_points, wider_points, member_fits, element_fits}
use Rattle.cc_state_values_grow.proofs.Joins.{All, set_all, places_all, both_all, none_all}
use Rattle.cc_state_values_grow.specs.Growth.{LeadSomewhere, RegistersPoint}
use Rattle.cc_state_values_sound.proofs.CcStates.GivenLemmas.{TakesBoth, common}
use Rattle.cc_state_values_sound.proofs.CcStates.Options.{mapped}
use Rattle.cc_state_values_sound.specs.CcStates.Typed.{place_in}
use Rattle.cc_state_values_sound.proofs.CcSyntax.AlikeLemmas.{alike_itself, assignable_object}
use Rattle.cc_state_values_sound.specs.CcSyntax.Effects.{PlaceEffects, place_effects_of}
use Rattle.cc_state_values_sound.specs.CcSyntax.Operators.{common_type, choice_type, moved_type, points_to_object, is_integer, subscript_type}
use Rattle.cc_state_values_sound.specs.CcSyntax.Expressions.{of_one, of_two}
use Rattle.cc_state_values_sound.specs.CcSyntax.Initial.{bound_of}
use Rattle.cc_state_values_sound.specs.CcSyntax.Programs.{type_of, place_type}
use Rattle.cc_state_values_sound.specs.CcSyntax.Types.{Named}
use Rattle.cc_state_values_sound.specs.CcSyntax.Values.{ValueType, NoValue, Integer, ToObject, ToFunction, PlaceType, DevicePlace, ObjectPlace, FunctionPlace, object_place, read_from, address_of, pointed_to, element_of, member_of, is_void, is_scalar, implies, is_assignable, scalar_value}
use Rattle.cc_state_values_sound.specs.CcValues.Values.{index_in, moved_address}

-- what holds where it is not known which of two are allowed

not_unknown : (A : Type 0) → ((A ⊎ (A → ⊥)) → ⊥) → ⊥
not_unknown A h = h (inr (λ a. h (inl a)))

implies_itself : (b : Bool) → implies b b ≡ true
implies_itself true = refl
implies_itself false = refl

object_itself : (c v : Bool) (t : CType) → is_assignable (ToObject c v t) (ToObject c v t) ≡ true
object_itself c v t = assignable_object c v t c v t (alike_itself t) (implies_itself c) (implies_itself v)

-- what is stepped to is an object
member_object : (p : Program) (t : PlaceType) (m : ℕ) (a b : Address) → member_address p t m a ≡ Some b → is_object b ≡ true
member_object p t m a b e =
    let w = mapped (λ (o : Root × List Part). object_address o.0 (o.1 ++ part.Member m ∷ [])) (named_by p t a) b e in
    ap is_object (sym w.2)

element_object : (p : Program) (t : PlaceType) (subscripts : ℤ → Type 0) (a b : Address) → IsElement p t subscripts a b → is_object b ≡ true
element_object p t subscripts a b (i, h, e) = by_name (named_by p t a) e
  where
    at_index : (o : Root × List Part) (bound : Option ℕ) → element_in bound i o ≡ Some b → is_object b ≡ true
    at_index o None f = absurd (cc)
    at_index o (Some count) f = let w = mapped (λ (k : ℕ). address.At o.0 o.1 k count) (index_in i count) b f in ap is_object (sym w.2)

    by_name : (x : Option (Root × List Part)) → option_and_then (element_in (bound_of t) i) x ≡ Some b → is_object b ≡ true
    by_name None f = absurd (cc)
    by_name (Some o) f = at_index o (bound_of t) f

-- starred alike, both are objects or neither is
object_alike : (a b : Address) → starred a ≡ starred b → is_object a ≡ is_object b
object_alike a b e = sym (object_starred a) ∙ ap is_object e ∙ object_starred b

-- ---- what is in the objects of a set, and to what its addresses are moved

stepped_all : (P Q : Address → Type 0) → IsKept Q → (step : Address → Address → Type 0) → ((a b : Address) → P a → step a b → Q b) → ((a b : Address) → step a b → is_object b ≡ true) → (s r : Addrs) →
    All P s → IsSetOf (HasStepped step s s.is_exact) r → All Q r
stepped_all P Q keep step f object s r g h = by_form s.is_exact h
  where
    by_form : (e : Bool) → IsSetOf (HasStepped step s e) r → All Q r
    by_form true k = set_all Q keep (HasStepped step s true) r k (λ b w. f w.0 b (g w.0 w.1) w.2)
    by_form false k = places_all Q keep (HasStepped step s false) r k
        (λ a b w e. (w.0, w.1, w.2, w.3, sym e ∙ w.4))
        (λ b w. object_alike b w.1 w.4 ∙ object w.0 w.1 w.3)
        (λ b w. subst Q (sym w.4) (keep.stars w.1 (f w.0 w.1 (g w.0 w.2) w.3)))

moved_all : (P : Address → Type 0) → IsKept P → ((n : ℤ) (a b : Address) → P a → moved_address false n a ≡ Some b → P b) → (by : ℤ → Type 0) (s r : Addrs) → All P s → IsSetOf (HasMoved by s s.is_exact) r → All P r
moved_all P keep f by s r g h = by_form s.is_exact refl h
  where
    alike_in : s.is_exact ≡ false → (a b : Address) → starred a ≡ starred b → HasAddress s a → HasAddress s b
    alike_in q a b e k = has_same s a b (subst (λ (x : Bool). member_for x a ≡ member_for x b) (sym q) e) k

    starred_in : s.is_exact ≡ false → (b : Address) → HasAddress s b → Contains s.members (starred b)
    starred_in q b k = subst (λ (x : Bool). Contains s.members (member_for x b)) q k

    by_form : (e : Bool) → s.is_exact ≡ e → IsSetOf (HasMoved by s e) r → All P r
    by_form true q k = set_all P keep (HasMoved by s true) r k (λ b w. f w.2.0 w.0 b (g w.0 w.1) w.2.2)
    by_form false q k = places_all P keep (HasMoved by s false) r k
        (λ a b w e. (alike_in q a b e w.0, sym (object_alike a b e) ∙ w.1))
        (λ b w. w.1)
        (λ b w. g (starred b) (starred_in q b w.0))

-- ---- choices

module _ {I : Type 0} (d : Domain I) (P : Address → Type 0) (keep : IsKept P) (surely : (a : Address) → ((P a → ⊥) → ⊥) → P a) where
  -- of the union of the arms that the condition allows, whichever these are
  arms_all : (c : Abs I) (s t r : Addrs) → All P s → All P t → IsUnion d (abs.Addrs s) (IsArm d c (abs.Addrs s) (abs.Addrs t)) (abs.Addrs r) → All P r
  arms_all c s t r f g h m there = surely m (λ never. not_unknown (MayBe d true c) (λ first. not_unknown (MayBe d false c) (λ second. never (by_arms first second m there))))
    where
      below_all : (u : Addrs) → (MayBe d true c → IsWithin s u) → (MayBe d false c → IsWithin t u) → IsWithin r u
      below_all u k l = h.least (abs.Addrs u) tt arm
        where
          arm : (z : Abs I) → IsArm d c (abs.Addrs s) (abs.Addrs t) z → IsBelowAbs d.below z (abs.Addrs u)
          arm z (inl (q, e)) = subst (λ (y : Abs I). IsBelowAbs d.below y (abs.Addrs u)) (sym e) (k q)
          arm z (inr (q, e)) = subst (λ (y : Abs I). IsBelowAbs d.below y (abs.Addrs u)) (sym e) (l q)

      by_arms : MayBe d true c ⊎ (MayBe d true c → ⊥) → MayBe d false c ⊎ (MayBe d false c → ⊥) → All P r
      by_arms (inl q) (inl o) = both_all P keep s t r f g (h.above (abs.Addrs s) (inl (q, refl))) (h.above (abs.Addrs t) (inr (o, refl))) (λ u k l. below_all u (λ i. k) (λ i. l))
      by_arms (inl q) (inr no_second) = subst (All P) (sets_same s r (h.above (abs.Addrs s) (inl (q, refl))) (below_all s (λ i. within_itself s) (λ i. absurd (no_second i)))) f
      by_arms (inr no_first) (inl o) = subst (All P) (sets_same t r (h.above (abs.Addrs t) (inr (o, refl))) (below_all t (λ i. absurd (no_first i)) (λ i. within_itself t))) g
      by_arms (inr no_first) (inr no_second) = none_all P keep r (λ u. below_all u (λ i. absurd (no_first i)) (λ i. absurd (no_second i)))

  -- the second arm of another kind is not allowed
  first_all : (c : Abs I) (s r : Addrs) (x : I) → All P s → IsUnion d (abs.Addrs s) (IsArm d c (abs.Addrs s) (abs.Ints x)) (abs.Addrs r) → All P r
  first_all c s r x f h m there = surely m (λ never. not_unknown (MayBe d true c) (λ first. never (by_arm first m there)))
    where
      below_all : (u : Addrs) → (MayBe d true c → IsWithin s u) → IsWithin r u
      below_all u k = h.least (abs.Addrs u) tt arm
        where
          arm : (z : Abs I) → IsArm d c (abs.Addrs s) (abs.Ints x) z → IsBelowAbs d.below z (abs.Addrs u)
          arm z (inl (q, e)) = subst (λ (y : Abs I). IsBelowAbs d.below y (abs.Addrs u)) (sym e) (k q)
          arm z (inr (q, e)) = absurd (h.above (abs.Ints x) (inr (q, refl)))

      by_arm : MayBe d true c ⊎ (MayBe d true c → ⊥) → All P r
      by_arm (inl q) = subst (All P) (sets_same s r (h.above (abs.Addrs s) (inl (q, refl))) (below_all s (λ i. within_itself s))) f
      by_arm (inr no_first) = none_all P keep r (λ u. below_all u (λ i. absurd (no_first i)))

-- ---- types

address_points : (p : Program) (u : PlaceType) (t : ValueType) (a : Address) → address_of u ≡ Some t → Fits p u a → Points p t a
address_points p (DevicePlace constant i) t a e h = absurd h
address_points p (ObjectPlace c v s) t a e h = subst (λ (x : ValueType). Points p x a) (same_Some (ToObject c v s) t e) h
address_points p (FunctionPlace sig) t a e h = subst (λ (x : ValueType). Points p x a) (same_Some (ToFunction sig) t e) h

if_object : (b : Bool) (c v : Bool) (t : CType) (u : PlaceType) → (if b then None else Some (ObjectPlace c v t)) ≡ Some u → ObjectPlace c v t ≡ u
if_object true c v t u e = absurd (cc)
if_object false c v t u e = same_Some (ObjectPlace c v t) u e

target_fits : (p : Program) (t : ValueType) (u : PlaceType) (a : Address) → pointed_to t ≡ Some u → Points p t a → Fits p u a
target_fits p NoValue u a e h = absurd (cc)
target_fits p (Integer i) u a e h = absurd (cc)
target_fits p (ToObject c v t) u a e h = subst (λ (x : PlaceType). Fits p x a) (if_object (is_void t) c v t u e) h
target_fits p (ToFunction sig) u a e h = subst (λ (x : PlaceType). Fits p x a) (same_Some (FunctionPlace sig) u e) h

common_points : (p : Program) (r a b : ValueType) (x : Address) → TakesBoth r a b → (Points p a x → Points p r x) × (Points p b x → Points p r x)
common_points p r a b x (inl e) = (λ h. subst (λ (t : ValueType). Points p t x) (sym e) tt, λ h. subst (λ (t : ValueType). Points p t x) (sym e) tt)
common_points p r a b x (inr k) = (wider_points p r a x k.0, wider_points p r b x k.1)

read_scalar : (l : CType) (z : PlaceType) (t : ValueType) → object_place l ≡ z → read_from z ≡ Some t → scalar_value l ≡ Some t
read_scalar l z t e h = subst (λ (x : PlaceType). read_from x ≡ Some t) (sym e) h

element_taken : (b : Bool) (x : Option PlaceType) (w : PlaceType) → (if b then x else None) ≡ Some w → x ≡ Some w
element_taken true x w e = e
element_taken false x w e = absurd (cc)

whole_fits : (p : Program) (o : Root) (l : CType) → place_in p o [] ≡ Some (object_place l) → Fits p (object_place l) (object_address o [])
whole_fits p o l e = whole_leads p (ToObject (is_const l) (is_volatile l) l) o [] 0 1 (object_place l) e refl (object_itself (is_const l) (is_volatile l) l)

only_all : (P : Address → Type 0) → IsKept P → (a : Address) (s : Addrs) → IsOnly a s → P a → All P s
only_all P keep a s h k = set_all P keep (λ b. b ≡ a) s h (λ b e. subst P (sym e) k)

nothing_all : (P : Address → Type 0) → IsKept P → (s : Addrs) → IsNone s → All P s
nothing_all P keep s h = set_all P keep (λ b. ⊥) s h (λ b w. absurd w)

module _ {I : Type 0} (d : Domain I) (p : Program) (id : ℕ) (f : Func) (register : ℕ → Option (Abs I)) (own : slice_get p.funcs id ≡ Some f) (points : RegistersPoint p f register) where
  abbrev Valued : Expr → Abs I → Type 0
  Valued e y = IsVal d p id f register e y

  abbrev Placed : PlaceOf → Addrs → Type 0
  Placed a s = Designates d p id f register a s

  -- a set of addresses that fit a type
  abbrev pub PointsAll : ValueType → Abs I → Type 0
  PointsAll t (abs.Ints x) = Unit {0}
  PointsAll t (abs.Addrs s) = All (Points p t) s

  abbrev pub FitsAll : PlaceType → Addrs → Type 0
  FitsAll u s = All (Fits p u) s

  ints_point : (t : ValueType) (y : Abs I) (x : I) → y ≡ abs.Ints x → PointsAll t y
  ints_point t y x e = subst (PointsAll t) (sym e) tt

  addrs_point : (t : ValueType) (y : Abs I) (s : Addrs) → y ≡ abs.Addrs s → All (Points p t) s → PointsAll t y
  addrs_point t y s e h = subst (PointsAll t) (sym e) h

  wider_all : (to from : ValueType) (y : Abs I) → is_assignable to from ≡ true → PointsAll from y → PointsAll to y
  wider_all to from (abs.Ints x) h k = tt
  wider_all to from (abs.Addrs s) h k = λ m c. wider_points p to from m h (k m c)

  -- ---- registers

  register_points : (t : ValueType) (r : ℕ) (local : Named) (y : Abs I) → slice_get f.locals r ≡ Some local → scalar_value local.1 ≡ Some t → register r ≡ Some y → PointsAll t y
  register_points t r local (abs.Ints x) h k e = tt
  register_points t r local (abs.Addrs s) h k e = λ m c. may_points p t m (points r local t s h k e m c)

  load_points : (e : Expr) (a : PlaceOf) (r : ℕ) (t : ValueType) (y : Abs I) → out-Expr e ≡ one.Load a → (place_effects_of f a).register ≡ Some r → register r ≡ Some y → type_of p f.locals e ≡ Some t → PointsAll t y
  load_points e a r t y h k l typed =
      let w = by_place p f a r (out-Place a) refl k (sym (ap (λ (z : PlaceEffects). z.register) (place_effects_at f a (out-Place a) refl)) ∙ k) in
      let v = one_there (option_map (λ (n : Named). object_place n.1) (slice_get f.locals w.local)) read_from t (register_type p f e a w.local t h w.is_local typed) in
      let u = mapped (λ (n : Named). object_place n.1) (slice_get f.locals w.local) v.0 v.1 in
      register_points t w.local u.0 y u.1 (read_scalar u.0.1 v.0 t u.2 v.2) (subst (λ (n : ℕ). register n ≡ Some y) (same_Some r w.local (sym k ∙ w.known)) l)

  -- ---- choices

  choice_points : (c x u y : Abs I) (a b t : ValueType) → TakesBoth t a b → PointsAll a x → PointsAll b u → IsUnion d x (IsArm d c x u) y → PointsAll t y
  choice_points c (abs.Ints x) u (abs.Ints y) a b t takes h k l = tt
  choice_points c (abs.Ints x) u (abs.Addrs r) a b t takes h k l = absurd (l.alike)
  choice_points c (abs.Addrs s) u (abs.Ints y) a b t takes h k l = tt
  choice_points c (abs.Addrs s) (abs.Addrs q) (abs.Addrs r) a b t takes h k l =
      arms_all d (Points p t) (points_kept p t) (points_surely p t) c s q r (λ m i. (common_points p t a b m takes).0 (h m i)) (λ m i. (common_points p t a b m takes).1 (k m i)) l
  choice_points c (abs.Addrs s) (abs.Ints x) (abs.Addrs r) a b t takes h k l =
      first_all d (Points p t) (points_kept p t) (points_surely p t) c s r x (λ m i. (common_points p t a b m takes).0 (h m i)) l

  mutual
    pub value_points : (e : Expr) (y : Abs I) → Valued e y → (t : ValueType) → type_of p f.locals e ≡ Some t → PointsAll t y
    value_points e y (OfConst n i x h k l) t typed = ints_point t y x l
    value_points e y (OfNull i s h k l) t typed = addrs_point t y s l (only_all (Points p t) (points_kept p t) address.Null s k (null_points p t))
    value_points e y (OfFunction g s h k l) t typed = addrs_point t y s l (only_all (Points p t) (points_kept p t) (address.Func g) s k (function_points p t g))
    value_points e y (OfRegister a r h k l) t typed = load_points e a r t y h k l typed
    value_points e y (OfAddress a s h k l) t typed =
        let w = one_there (place_type p f.locals a) address_of t (typed_as p f e (one.AddrOf a) t h typed) in
        addrs_point t y s l (λ m c. address_points p w.0 t m w.2 (place_fits a s k w.0 w.1 m c))
    value_points e y (OfUn q i a x z h k g m l) t typed = ints_point t y z l
    value_points e y (OfBin q i a b x w z h k j g m l) t typed = ints_point t y z l
    value_points e y (OfConv i a x z h k m l) t typed = ints_point t y z l
    value_points e y (OfQualify to a h k) t typed =
        let w = qualified_assigned p f e a to t h typed in
        wider_all t w.0 y w.2 (value_points a y k w.0 w.1)
    value_points e y (OfMove a b back s r x h k j m l) t typed =
        let w = two_there (type_of p f.locals a) (type_of p f.locals b) (moved_type p.structures) t (two_type p f (kind_two.Movement back) e a b t h typed) in
        let v = when_there (points_to_object p.structures w.0 && is_integer w.1) w.0 t w.4 in
        let g = value_points a (abs.Addrs s) k w.0 w.2 in
        addrs_point t y r l (moved_all (Points p t) (points_kept p t) (moved_points p t) (offsets back (d.has x)) s r (subst (λ (z : ValueType). All (Points p z) s) v.1 g) m)
    value_points e y (OfGap a b s q x h k j m l) t typed = ints_point t y x l
    value_points e y (OfCompare q a b s r x h k j m l) t typed = ints_point t y x l
    value_points e y (OfBoth a b x w z h k j m l) t typed = ints_point t y z l
    value_points e y (OfEither a b x w z h k j m l) t typed = ints_point t y z l
    value_points e y (OfChoose c a b x u w h k i j m) t typed =
        let n = one_there (type_of p f.locals c) (λ z. of_two (type_of p f.locals a) (type_of p f.locals b) (choice_type p.target z)) t (typed_as p f e (one.Choose c a b) t h typed) in
        let v = two_there (type_of p f.locals a) (type_of p f.locals b) (choice_type p.target n.0) t n.2 in
        let q = when_there (is_scalar n.0) (common_type p.target v.0 v.1) t v.4 in
        choice_points x u w y v.0 v.1 t (subst (λ (z : ValueType). TakesBoth z v.0 v.1) q.1 (common p.target v.0 v.1)) (value_points a u i v.0 v.2) (value_points b w j v.1 v.3) m

    pub place_fits : (a : PlaceOf) (s : Addrs) → Placed a s → (u : PlaceType) → place_type p f.locals a ≡ Some u → FitsAll u s
    place_fits a s (AtLocal r h k) u typed =
        let w = mapped (λ (n : Named). object_place n.1) (slice_get f.locals r) u (place_typed_as p f a (one.Local r) u h typed) in
        only_all (Fits p u) (fits_kept p u) (object_address (root.Auto 0 id r) []) s k
        (subst (λ (z : PlaceType). Fits p z (object_address (root.Auto 0 id r) [])) w.2 (whole_fits p (root.Auto 0 id r) w.0.1
        (ap (λ (z : Option Func). of_one (local_type r z) (λ (q : PlaceType). Some q)) own ∙ ap (λ (z : Option Named). of_one (option_map (λ (n : Named). object_place n.1) z) (λ (q : PlaceType). Some q)) w.1)))
    place_fits a s (AtStatic i h k) u typed =
        let w = mapped (λ (o : Object). object_place o.ctype) (slice_get p.objects i) u (place_typed_as p f a (one.Static i) u h typed) in
        only_all (Fits p u) (fits_kept p u) (object_address (root.Static i) []) s k
        (subst (λ (z : PlaceType). Fits p z (object_address (root.Static i) [])) w.2 (whole_fits p (root.Static i) w.0.ctype
        (ap (λ (z : Option Object). of_one (option_map (λ (o : Object). object_place o.ctype) z) (λ (q : PlaceType). Some q)) w.1)))
    place_fits a s (AtDevice n h k) u typed = nothing_all (Fits p u) (fits_kept p u) s k
    place_fits a s (AtElement b i t r x h k l m g) u typed =
        let w = two_there (place_type p f.locals b) (type_of p f.locals i) subscript_type u (place_typed_as p f a (one.Element b i) u h typed) in
        let e = element_taken (is_integer w.1) (element_of w.0) u w.4 in
        let same : w.0 ≡ t = same_Some w.0 t (sym w.2 ∙ k) in
        stepped_all (Fits p t) (Fits p u) (fits_kept p u) (IsElement p t (d.has x)) (λ q c n o. element_fits p t u o.0 q c n (subst (λ (z : PlaceType). element_of z ≡ Some u) same e) o.2)
        (element_object p t (d.has x)) r s (place_fits b r l t k) g
    place_fits a s (AtMember b m t r h k l g) u typed =
        let w = one_there (place_type p f.locals b) (member_of p.structures m) u (place_typed_as p f a (one.Member b m) u h typed) in
        let same : w.0 ≡ t = same_Some w.0 t (sym w.1 ∙ k) in
        stepped_all (Fits p t) (Fits p u) (fits_kept p u) (λ q c. member_address p t m q ≡ Some c) (λ q c n o. member_fits p t u m q c n (subst (λ (z : PlaceType). member_of p.structures m z ≡ Some u) same w.2) o)
        (member_object p t m) r s (place_fits b r l t k) g
    place_fits a s (AtTarget e h k) u typed =
        let w = one_there (type_of p f.locals e) pointed_to u (place_typed_as p f a (one.Deref e) u h typed) in
        λ m c. target_fits p w.0 u m w.2 (value_points e (abs.Addrs s) k w.0 w.1 m c)

  pub leads_somewhere : LeadSomewhere d p id f register
  leads_somewhere a t s typed h b c = real_fits p t b (place_fits a s h t typed b c)
