-- What an expression may give is of its type, and the addresses of a place are those of a place of its type. By induction over how both come about.
use Rattle.std.proofs.Common.{◌≡◌, inl, inr, ℕ, ℤ, Bool, true, false, true≢false, ◌&&◌, List, [], ◌∷◌, ◌++◌, Contains, Option, Some, None, refl, ap, sym, ◌∙◌, subst, slice_get}
use Rattle.std.specs.Prelude.{option_map, option_and_then, if◌then◌else◌}
use Rattle.std.proofs.lemmas.Option.{same_Some}
use Rattle.cc_state_reads.specs.CcEval.Context.{local_type, named_by}
use Rattle.cc_state_reads.specs.CcLattice.Domains.{type_given, type_given_of_one}
use Rattle.cc_program.proofs.CcNum.ResultLaws.{value_from_test}
use Rattle.cc_program.specs.CcNum.declared.int_type.IntType.{IntType}
use Rattle.cc_program.specs.CcNum.declared.int_type.IntType.TheVariants as int
use Rattle.cc_program.specs.CcNum.declared.op.BinOp.{BinOp}
use Rattle.cc_program.specs.CcNum.declared.op.UnOp.{UnOp}
use Rattle.cc_program.specs.CcNum.Integers.{is_value_of, IsValueOf}
use Rattle.cc_state_reads.specs.CcPlaces.declared.abs.Abs.{Abs}
use Rattle.cc_state_reads.specs.CcPlaces.declared.abs.Abs.TheVariants as abs
use Rattle.cc_state_reads.specs.CcPlaces.declared.addrs.Addrs.{Addrs}
use Rattle.cc_state_reads.specs.CcPlaces.Kept.{starred, member_for, is_object}
use Rattle.cc_state_reads.specs.CcPlaces.laws.KeptLaws.{object_starred}
use Rattle.cc_state_reads.specs.CcPlaces.laws.SetLaws.{has_same}
use Rattle.cc_state_reads.specs.CcPlaces.Moves.{HasMoved}
use Rattle.cc_state_reads.specs.CcPlaces.Sets.{HasAddress, IsSetOf}
use Rattle.cc_program.specs.declared.expr.Expr.{Expr, out-Expr}
use Rattle.cc_program.specs.declared.expr.Expr.TheOpen as one
use Rattle.cc_program.specs.declared.expr.Place.{Place, out-Place}
use Rattle.cc_program.specs.declared.func.Func.{Func}
use Rattle.cc_program.specs.declared.object.Object.{Object}
use Rattle.cc_program.specs.declared.program.Program.{Program}
use Rattle.cc_program.specs.declared.types.CType.{CType}
use Rattle.cc_program.specs.declared.value.Address.{Address}
use Rattle.cc_program.specs.declared.value.Address.TheVariants as address
use Rattle.cc_program.specs.declared.value.Part.{Part}
use Rattle.cc_program.specs.declared.value.Part.TheVariants as part
use Rattle.cc_program.specs.declared.value.Root.{Root}
use Rattle.cc_program.specs.declared.value.Root.TheVariants as root
use Rattle.cc_program.specs.Qualifiers.{is_const, is_volatile}
use Rattle.cc_state.specs.Shape.{MayPoint, IsSetIn}
use Rattle.cc_state_reads.specs.CcStateFacts.declared.facts.Key.{Key}
use Rattle.cc_state_reads.specs.CcStateFacts.declared.facts.Key.TheVariants as key
use Rattle.cc_state_reads.specs.CcStateKeys.Addressed.{in_place, taken_in}
use Rattle.cc_state_reads.specs.CcStateKeys.Keys.{structure_of, cell_key}
use Rattle.cc_state_reads.specs.CcStateKeys.Lists.{only}
use Rattle.cc_state_reads.specs.CcStateOperators.Addresses.{object_address, IsOnly, IsNone, member_address, element_in, IsElement, HasStepped}
use Rattle.cc_state_reads.specs.CcStateOperators.declared.operators.OneOperand.TheVariants as kind_one
use Rattle.cc_state_reads.specs.CcStateOperators.declared.operators.TwoOperands.TheVariants as kind_two
use Rattle.cc_state_reads.specs.CcStateOperators.Domains.{Domain, AllOf, IsHull}
use Rattle.cc_state_reads.specs.CcStateOperators.Results.{is_told, offsets, Together, IsZeroOrOne, IsComparison, IsGap, ByBoth, ByEither}
use Rattle.cc_state_reads.proofs.CcStateValues.Parts.{place_effects_at, typed_as, place_typed_as, one_type, two_type, qualified_assigned, by_place, register_type}
use Rattle.cc_state_reads.proofs.CcStateValues.Rules.{one_there, two_there, when_there, IsPointer, pointer_scalar, object_pointer, assigned_scalar, pointed_pointer, address_pointer, are_integers, is_one_integer, null_pointer, function_pointer}
use Rattle.cc_state_reads.specs.CcStateValues.Values.{IsVal, OfConst, OfNull, OfFunction, OfRegister, OfAddress, OfUn, OfBin, OfConv, OfQualify, OfMove, OfGap, OfCompare, OfBoth, OfEither, OfChoose, Designates, AtLocal, AtStatic, AtDevice, AtElement, AtMember, AtTarget}
use Rattle.cc_state_values_fit.proofs.Names.{as_whole, PlaceStands, place_kept, point_kept, point_moved}
use Rattle.cc_state_values_fit.proofs.Results.{IsTruth, binary_same, unary_same, truth_in, compared_together, zero_or_one, both_truth, either_truth, gap_together}
use Rattle.cc_state_values_fit.proofs.Sets.{IsTyping, ints_set, addrs_set, points_of, wider_set, hull_in, arms_in}
use Rattle.cc_state_values_fit.proofs.Stepping.{own_key, member_stands, element_stands, address_points, target_stands}
use Rattle.cc_state_values_fit.proofs.Taken.{first_addressed, second_addressed, own_addressed, taken_as, place_taken_as, own_as, own_member}
use Rattle.cc_state_values_fit.specs.Fit.{HasWholes, AreAddressed, RegistersFit, AllMayPoint}
use Rattle.cc_state_values_grow.proofs.Fitting.{IsKept}
use Rattle.cc_state_values_grow.proofs.Joins.{All, set_all, places_all}
use Rattle.cc_flow_sound.proofs.CcStates.GivenLemmas.{TakesBoth, common}
use Rattle.cc_flow_sound.proofs.CcStates.Options.{mapped}
use Rattle.cc_flow_sound.specs.CcStates.Typed.{place_in}
use Rattle.cc_state_reads.proofs.CcSyntax.AlikeLemmas.{alike_itself, implies_itself, assignable_object, function_itself}
use Rattle.cc_state_reads.specs.CcSyntax.Effects.{PlaceEffects, place_effects_of}
use Rattle.cc_state_reads.specs.CcSyntax.Expressions.{of_one, of_two}
use Rattle.cc_state_reads.specs.CcSyntax.Initial.{bound_of, names}
use Rattle.cc_state_reads.specs.CcSyntax.Operators.{unary_result, binary_result, function_type, common_type, choice_type, moved_type, points_to_object, is_integer, subscript_type, difference_type}
use Rattle.cc_state_reads.specs.CcSyntax.Programs.{type_of, place_type}
use Rattle.cc_state_reads.specs.CcSyntax.Types.{Named}
use Rattle.cc_state_reads.specs.CcSyntax.Values.{ValueType, NoValue, Integer, ToObject, ToFunction, PlaceType, object_place, read_from, address_of, pointed_to, element_of, member_of, is_scalar, is_assignable, is_assignable_some, scalar_value}
use Rattle.cc_state_reads.specs.CcValues.Values.{index_in, gap, comparison, moved_address}

-- ---- what is stepped to is an object

member_object : (p : Program) (t : PlaceType) (m : ℕ) (a b : Address) → member_address p t m a ≡ Some b → is_object b ≡ true
member_object p t m a b e =
    let w = mapped (λ (o : Root × List Part). object_address o.0 (o.1 ++ part.Member m ∷ [])) (named_by p t a) b e in
    ap is_object (sym w.2)

element_object : (p : Program) (t : PlaceType) (subscripts : ℤ → Type 0) (a b : Address) → IsElement p t subscripts a b → is_object b ≡ true
element_object p t subscripts a b (i, h, e) = by_name (named_by p t a) e
  where
    at_index : (o : Root × List Part) (bound : Option ℕ) → element_in bound i o ≡ Some b → is_object b ≡ true
    at_index o None f = absurd (cc)
    at_index o (Some count) f = let w = mapped (λ (k : ℕ). address.At o.0 o.1 k count) (index_in i count) b f in ap is_object (sym w.2)

    by_name : (x : Option (Root × List Part)) → option_and_then (element_in (bound_of t) i) x ≡ Some b → is_object b ≡ true
    by_name None f = absurd (cc)
    by_name (Some o) f = at_index o (bound_of t) f

-- starred alike, both are objects or neither is
object_alike : (a b : Address) → starred a ≡ starred b → is_object a ≡ is_object b
object_alike a b e = sym (object_starred a) ∙ ap is_object e ∙ object_starred b

stepped_all : (P Q : Address → Type 0) → IsKept Q → (step : Address → Address → Type 0) → ((a b : Address) → P a → step a b → Q b) → ((a b : Address) → step a b → is_object b ≡ true) → (s r : Addrs) →
    All P s → IsSetOf (HasStepped step s s.is_exact) r → All Q r
stepped_all P Q keep step f object s r g h = by_form s.is_exact h
  where
    by_form : (e : Bool) → IsSetOf (HasStepped step s e) r → All Q r
    by_form true k = set_all Q keep (HasStepped step s true) r k (λ b w. f w.0 b (g w.0 w.1) w.2)
    by_form false k = places_all Q keep (HasStepped step s false) r k
        (λ a b w e. (w.0, w.1, w.2, w.3, sym e ∙ w.4))
        (λ b w. object_alike b w.1 w.4 ∙ object w.0 w.1 w.3)
        (λ b w. subst Q (sym w.4) (keep.stars w.1 (f w.0 w.1 (g w.0 w.2) w.3)))

moved_all : (P : Address → Type 0) → IsKept P → ((n : ℤ) (a b : Address) → P a → moved_address false n a ≡ Some b → P b) → (by : ℤ → Type 0) (s r : Addrs) → All P s → IsSetOf (HasMoved by s s.is_exact) r → All P r
moved_all P keep f by s r g h = by_form s.is_exact refl h
  where
    alike_in : s.is_exact ≡ false → (a b : Address) → starred a ≡ starred b → HasAddress s a → HasAddress s b
    alike_in q a b e k = has_same s a b (subst (λ (x : Bool). member_for x a ≡ member_for x b) (sym q) e) k

    starred_in : s.is_exact ≡ false → (b : Address) → HasAddress s b → Contains s.members (starred b)
    starred_in q b k = subst (λ (x : Bool). Contains s.members (member_for x b)) q k

    by_form : (e : Bool) → s.is_exact ≡ e → IsSetOf (HasMoved by s e) r → All P r
    by_form true q k = set_all P keep (HasMoved by s true) r k (λ b w. f w.2.0 w.0 b (g w.0 w.1) w.2.2)
    by_form false q k = places_all P keep (HasMoved by s false) r k
        (λ a b w e. (alike_in q a b e w.0, sym (object_alike a b e) ∙ w.1))
        (λ b w. w.1)
        (λ b w. g (starred b) (starred_in q b w.0))

only_all : (P : Address → Type 0) → IsKept P → (a : Address) (s : Addrs) → IsOnly a s → P a → All P s
only_all P keep a s h k = set_all P keep (λ b. b ≡ a) s h (λ b e. subst P (sym e) k)

nothing_all : (P : Address → Type 0) → IsKept P → (s : Addrs) → IsNone s → All P s
nothing_all P keep s h = set_all P keep (λ b. ⊥) s h (λ b w. absurd w)

-- ---- types

element_taken : (b : Bool) (x : Option PlaceType) (w : PlaceType) → (if b then x else None) ≡ Some w → x ≡ Some w
element_taken true x w e = e
element_taken false x w e = absurd (cc)

read_scalar : (l : CType) (z : PlaceType) (t : ValueType) → object_place l ≡ z → read_from z ≡ Some t → scalar_value l ≡ Some t
read_scalar l z t e h = subst (λ (x : PlaceType). read_from x ≡ Some t) (sym e) h

-- a function of a type may be pointed to by its type
function_may : (f : Option Func) (t : ValueType) → function_type f ≡ Some t → is_assignable_some (Some t) (function_type f) ≡ true
function_may None t e = absurd (cc)
function_may (Some f) t e =
    let w = when_there _ (ToFunction f.sig) t e in
    subst (λ (x : Option ValueType). is_assignable_some (Some t) x ≡ true) (sym e) (subst (λ (x : ValueType). is_assignable x x ≡ true) w.1 (function_itself f.sig))

first_of_both : (t a b : ValueType) → is_scalar t ≡ true → TakesBoth t a b → (is_assignable t a ≡ true) × (is_assignable t b ≡ true)
first_of_both t a b scalar (inl e) = absurd (let k : is_scalar NoValue ≡ true = subst (λ (x : ValueType). is_scalar x ≡ true) e scalar in true≢false (sym k))
first_of_both t a b scalar (inr k) = (k.0, k.1)

moved_first : (a b : Bool) → (a && b) ≡ true → a ≡ true
moved_first true b h = refl
moved_first false b h = h

module _ (p : Program) where
  whole_stands : (o : Root) (l : CType) (own : Key) → place_in p o [] ≡ Some (object_place l) → cell_key p o [] ≡ own → PlaceStands p (object_place l) (Some own) (object_address o [])
  whole_stands o l own e k = (
    subst (λ (x : Option PlaceType). names (ToObject (is_const l) (is_volatile l) l) [] 0 1 x ≡ true) (sym e)
        (as_whole (ToObject (is_const l) (is_volatile l) l) [] 0 1 (object_place l) refl refl refl
        (assignable_object (is_const l) (is_volatile l) l (is_const l) (is_volatile l) l (alike_itself l) (implies_itself (is_const l)) (implies_itself (is_volatile l)))),
    k,
  )

module _ {I : Type 0} (d : Domain I) (typing : IsTyping d) (p : Program) (wholes : HasWholes d p.target) (id : ℕ) (f : Func) (register : ℕ → Option (Abs I)) (own : slice_get p.funcs id ≡ Some f) (fits : RegistersFit d p f register) where
  abbrev Valued : Expr → Abs I → Type 0
  Valued e y = IsVal d p id f register e y

  abbrev Placed : Place → Addrs → Type 0
  Placed a s = Designates d p id f register a s

  abbrev Own : Place → Option Key
  Own a = (in_place p id f a).own

  -- ---- registers

  load_fits : (e : Expr) (a : Place) (r : ℕ) (t : ValueType) (y : Abs I) → out-Expr e ≡ one.Load a → (place_effects_of f a).register ≡ Some r → register r ≡ Some y → type_of p f.locals e ≡ Some t → IsSetIn p d t y
  load_fits e a r t y h k l typed =
      let w = by_place p f a r (out-Place a) refl k (sym (ap (λ (z : PlaceEffects). z.register) (place_effects_at f a (out-Place a) refl)) ∙ k) in
      let v = one_there (option_map (λ (n : Named). object_place n.1) (slice_get f.locals w.local)) read_from t (register_type p f e a w.local t h w.is_local typed) in
      let u = mapped (λ (n : Named). object_place n.1) (slice_get f.locals w.local) v.0 v.1 in
      fits w.local u.0 t y u.1 (read_scalar u.0.1 v.0 t u.2 v.2) (subst (λ (n : ℕ). register n ≡ Some y) (same_Some r w.local (sym k ∙ w.known)) l)

  -- ---- numbers

  operator_fits : (q : BinOp) (i : IntType) (a b : Expr) (e : Expr) (t : ValueType) (x w z : I) (y : Abs I) → out-Expr e ≡ one.Bin q i a b → type_of p f.locals e ≡ Some t → AllOf d (type_given q i) p.target z → y ≡ abs.Ints z → IsSetIn p d t y
  operator_fits q i a b e t x w z y h typed all same =
      let v = two_there (type_of p f.locals a) (type_of p f.locals b) _ t (two_type p f (kind_two.Operator q i) e a b t h typed) in
      let whole = (are_integers p.target q i v.0 v.1 t v.4).whole in
      ints_set d p t (binary_result q i) y z (sym whole) same (subst (λ (u : IntType). AllOf d u p.target z) (binary_same q i) all)

  one_operator_fits : (q : UnOp) (i : IntType) (a e : Expr) (t : ValueType) (z : I) (y : Abs I) → out-Expr e ≡ one.Un q i a → type_of p f.locals e ≡ Some t → AllOf d (type_given_of_one q i) p.target z → y ≡ abs.Ints z → IsSetIn p d t y
  one_operator_fits q i a e t z y h typed all same =
      let v = one_there (type_of p f.locals a) _ t (one_type p f (kind_one.Operator q i) e a t h typed) in
      let whole = (is_one_integer p.target q i v.0 t v.2).whole in
      ints_set d p t (unary_result q i) y z (sym whole) same (subst (λ (u : IntType). AllOf d u p.target z) (unary_same q i) all)

  truths_fit : (image : ℤ → Type 0) (x : I) → ((n : ℤ) → image n → IsTruth n) → IsHull d image x → AllOf d int.Int p.target x
  truths_fit image x h hull = hull_in d p typing wholes int.Int image x hull (λ n k. truth_in int.Int p.target n (h n k))

  comparison_fits : (q : BinOp) (s r : Addrs) (told : Bool) (x : I) → IsComparison d q s r told x → AllOf d int.Int p.target x
  comparison_fits q s r true x h = truths_fit (Together d (comparison q) s r) x (compared_together d q s r) h
  comparison_fits q s r false x h = truths_fit (IsZeroOrOne d) x (zero_or_one d) h

  gap_fits : (s r : Addrs) (told : Bool) (x : I) → IsGap d p.target s r told x → AllOf d (difference_type p.target) p.target x
  gap_fits s r true x h = hull_in d p typing wholes (difference_type p.target) (Together d (gap p.target) s r) x h (gap_together d p.target s r)
  gap_fits s r false x h = λ n m. (h n).1 m

  mutual
    pub value_fits : (e : Expr) (y : Abs I) → Valued e y → (t : ValueType) → type_of p f.locals e ≡ Some t → is_scalar t ≡ true → AreAddressed p (taken_in p id f e) → IsSetIn p d t y
    value_fits e y (OfConst n i x h k l) t typed scalar taken =
        let w = when_there (is_value_of i p.target n) (Integer i) t (typed_as p f e (one.Const n i) t h typed) in
        ints_set d p t i y x w.1 l (hull_in d p typing wholes i (λ m. m ≡ n) x k (λ m q. subst (IsValueOf i p.target) (sym q) (value_from_test i p.target n w.0)))
    value_fits e y (OfNull i s h k l) t typed scalar taken =
        addrs_set d p t y s (null_pointer p i t (typed_as p f e (one.Null i) t h typed)) l (only_all (MayPoint p t) (point_kept p t) address.Null s k tt)
    value_fits e y (OfFunction g s h k l) t typed scalar taken =
        let of_type : function_type (slice_get p.funcs g) ≡ Some t = typed_as p f e (one.FuncAddr g) t h typed in
        addrs_set d p t y s (function_pointer (slice_get p.funcs g) t of_type) l (only_all (MayPoint p t) (point_kept p t) (address.Func g) s k (function_may (slice_get p.funcs g) t of_type))
    value_fits e y (OfRegister a r h k l) t typed scalar taken = load_fits e a r t y h k l typed
    value_fits e y (OfAddress a s h k l) t typed scalar taken =
        let w = one_there (place_type p f.locals a) address_of t (typed_as p f e (one.AddrOf a) t h typed) in
        let keys = taken_as p id f e (one.AddrOf a) h taken in
        let inner = place_fits a s k w.0 w.1 (second_addressed p (only (Own a)) (in_place p id f a).taken keys) in
        addrs_set d p t y s (address_pointer w.0 t w.2) l (λ m c. address_points p w.0 t (Own a) m w.2 (own_addressed p (Own a) (first_addressed p (only (Own a)) (in_place p id f a).taken keys)) (inner m c))
    value_fits e y (OfUn q i a x z h k g m l) t typed scalar taken = one_operator_fits q i a e t z y h typed (typing.op_one_typed q x z i p.target g m) l
    value_fits e y (OfBin q i a b x w z h k j g m l) t typed scalar taken = operator_fits q i a b e t x w z y h typed (typing.op_typed q x w z i p.target g m) l
    value_fits e y (OfConv i a x z h k m l) t typed scalar taken =
        let v = one_there (type_of p f.locals a) _ t (one_type p f (kind_one.Conversion i) e a t h typed) in
        ints_set d p t i y z (when_there _ (Integer i) t v.2).1 l (typing.to_typed x z i p.target m)
    value_fits e y (OfQualify to a h k) t typed scalar taken =
        let w = qualified_assigned p f e a to t h typed in
        wider_set d p t w.0 y w.2 (value_fits a y k w.0 w.1 (assigned_scalar t w.0 w.2) (taken_as p id f e (one.Qualify to a) h taken))
    value_fits e y (OfMove a b back s r x h k j m l) t typed scalar taken =
        let w = two_there (type_of p f.locals a) (type_of p f.locals b) (moved_type p.structures) t (two_type p f (kind_two.Movement back) e a b t h typed) in
        let v = when_there (points_to_object p.structures w.0 && is_integer w.1) w.0 t w.4 in
        let typed_a : type_of p f.locals a ≡ Some t = w.2 ∙ ap Some v.1 in
        let is = subst IsPointer v.1 (object_pointer p.structures w.0 (moved_first (points_to_object p.structures w.0) (is_integer w.1) v.0)) in
        let g = points_of d p t s (value_fits a (abs.Addrs s) k t typed_a scalar (first_addressed p (taken_in p id f a) (taken_in p id f b) (taken_as p id f e (one.Move a b back) h taken))) in
        addrs_set d p t y r is l (moved_all (MayPoint p t) (point_kept p t) (point_moved p t) (offsets back (d.has x)) s r g m)
    value_fits e y (OfGap a b s q x h k j m l) t typed scalar taken =
        let w = two_there (type_of p f.locals a) (type_of p f.locals b) _ t (two_type p f kind_two.Difference e a b t h typed) in
        ints_set d p t (difference_type p.target) y x (when_there _ (Integer (difference_type p.target)) t w.4).1 l (gap_fits s q (is_told s && is_told q) x m)
    value_fits e y (OfCompare q a b s r x h k j m l) t typed scalar taken =
        let w = two_there (type_of p f.locals a) (type_of p f.locals b) _ t (two_type p f (kind_two.Comparison q) e a b t h typed) in
        ints_set d p t int.Int y x (when_there _ (Integer int.Int) t w.4).1 l (comparison_fits q s r (is_told s && is_told r) x m)
    value_fits e y (OfBoth a b x w z h k j m l) t typed scalar taken =
        let v = two_there (type_of p f.locals a) (type_of p f.locals b) _ t (two_type p f kind_two.Both e a b t h typed) in
        ints_set d p t int.Int y z (when_there _ (Integer int.Int) t v.4).1 l (truths_fit (ByBoth d x w) z (both_truth d x w) m)
    value_fits e y (OfEither a b x w z h k j m l) t typed scalar taken =
        let v = two_there (type_of p f.locals a) (type_of p f.locals b) _ t (two_type p f kind_two.Either e a b t h typed) in
        ints_set d p t int.Int y z (when_there _ (Integer int.Int) t v.4).1 l (truths_fit (ByEither d x w) z (either_truth d x w) m)
    value_fits e y (OfChoose c a b x u w h k i j m) t typed scalar taken =
        let n = one_there (type_of p f.locals c) (λ z. of_two (type_of p f.locals a) (type_of p f.locals b) (choice_type p.target z)) t (typed_as p f e (one.Choose c a b) t h typed) in
        let v = two_there (type_of p f.locals a) (type_of p f.locals b) (choice_type p.target n.0) t n.2 in
        let q = when_there (is_scalar n.0) (common_type p.target v.0 v.1) t v.4 in
        let both = first_of_both t v.0 v.1 scalar (subst (λ (z : ValueType). TakesBoth z v.0 v.1) q.1 (common p.target v.0 v.1)) in
        let keys = second_addressed p (taken_in p id f c) (taken_in p id f a ++ taken_in p id f b) (taken_as p id f e (one.Choose c a b) h taken) in
        arms_in d p typing wholes t scalar x u w y
        (wider_set d p t v.0 u both.0 (value_fits a u i v.0 v.2 (assigned_scalar t v.0 both.0) (first_addressed p (taken_in p id f a) (taken_in p id f b) keys)))
        (wider_set d p t v.1 w both.1 (value_fits b w j v.1 v.3 (assigned_scalar t v.1 both.1) (second_addressed p (taken_in p id f a) (taken_in p id f b) keys))) m

    pub place_fits : (a : Place) (s : Addrs) → Placed a s → (u : PlaceType) → place_type p f.locals a ≡ Some u → AreAddressed p (in_place p id f a).taken → All (PlaceStands p u (Own a)) s
    place_fits a s (AtLocal r h k) u typed taken =
        let w = mapped (λ (n : Named). object_place n.1) (slice_get f.locals r) u (place_typed_as p f a (one.Local r) u h typed) in
        subst (λ (z : Option Key). All (PlaceStands p u z) s) (sym (own_as p id f a (one.Local r) h))
        (only_all (PlaceStands p u (Some (key.Local id r))) (place_kept p u (Some (key.Local id r))) (object_address (root.Auto 0 id r) []) s k
        (subst (λ (z : PlaceType). PlaceStands p z (Some (key.Local id r)) (object_address (root.Auto 0 id r) [])) w.2 (whole_stands p (root.Auto 0 id r) w.0.1 (key.Local id r)
        (ap (λ (z : Option Func). of_one (local_type r z) (λ (q : PlaceType). Some q)) own ∙ ap (λ (z : Option Named). of_one (option_map (λ (n : Named). object_place n.1) z) (λ (q : PlaceType). Some q)) w.1)
        (own_key p (root.Auto 0 id r)))))
    place_fits a s (AtStatic i h k) u typed taken =
        let w = mapped (λ (o : Object). object_place o.ctype) (slice_get p.objects i) u (place_typed_as p f a (one.Static i) u h typed) in
        subst (λ (z : Option Key). All (PlaceStands p u z) s) (sym (own_as p id f a (one.Static i) h))
        (only_all (PlaceStands p u (Some (key.Object i))) (place_kept p u (Some (key.Object i))) (object_address (root.Static i) []) s k
        (subst (λ (z : PlaceType). PlaceStands p z (Some (key.Object i)) (object_address (root.Static i) [])) w.2 (whole_stands p (root.Static i) w.0.ctype (key.Object i)
        (ap (λ (z : Option Object). of_one (option_map (λ (o : Object). object_place o.ctype) z) (λ (q : PlaceType). Some q)) w.1)
        (own_key p (root.Static i)))))
    place_fits a s (AtDevice n h k) u typed taken = nothing_all (PlaceStands p u (Own a)) (place_kept p u (Own a)) s k
    place_fits a s (AtElement b i t r x h k l m g) u typed taken =
        let w = two_there (place_type p f.locals b) (type_of p f.locals i) subscript_type u (place_typed_as p f a (one.Element b i) u h typed) in
        let e = element_taken (is_integer w.1) (element_of w.0) u w.4 in
        let same : w.0 ≡ t = same_Some w.0 t (sym w.2 ∙ k) in
        let keys = first_addressed p (in_place p id f b).taken (taken_in p id f i) (place_taken_as p id f a (one.Element b i) h taken) in
        subst (λ (z : Option Key). All (PlaceStands p u z) s) (sym (own_as p id f a (one.Element b i) h))
        (stepped_all (PlaceStands p t (Own b)) (PlaceStands p u (Own b)) (place_kept p u (Own b)) (IsElement p t (d.has x))
        (λ q c n o. element_stands p t u o.0 q c (Own b) n (subst (λ (z : PlaceType). element_of z ≡ Some u) same e) o.2)
        (element_object p t (d.has x)) r s (place_fits b r l t k keys) g)
    place_fits a s (AtMember b m t r h k l g) u typed taken =
        let w = one_there (place_type p f.locals b) (member_of p.structures m) u (place_typed_as p f a (one.Member b m) u h typed) in
        let same : w.0 ≡ t = same_Some w.0 t (sym w.1 ∙ k) in
        let keys = place_taken_as p id f a (one.Member b m) h taken in
        let its : Option Key = option_map (λ n. key.Member n m) (structure_of t) in
        subst (λ (z : Option Key). All (PlaceStands p u z) s) (sym (own_member p id f a b m t h k))
        (stepped_all (PlaceStands p t (Own b)) (PlaceStands p u its) (place_kept p u its) (λ q c. member_address p t m q ≡ Some c)
        (λ q c n o. member_stands p t u m q c (Own b) n (subst (λ (z : PlaceType). member_of p.structures m z ≡ Some u) same w.2) o)
        (member_object p t m) r s (place_fits b r l t k keys) g)
    place_fits a s (AtTarget e h k) u typed taken =
        let w = one_there (type_of p f.locals e) pointed_to u (place_typed_as p f a (one.Deref e) u h typed) in
        let set = value_fits e (abs.Addrs s) k w.0 w.1 (pointer_scalar w.0 (pointed_pointer w.0 u w.2)) (place_taken_as p id f a (one.Deref e) h taken) in
        subst (λ (z : Option Key). All (PlaceStands p u z) s) (sym (own_as p id f a (one.Deref e) h))
        (λ m c. target_stands p w.0 u m w.2 (points_of d p w.0 s set m c))

  pub pointers_fit : (a : Place) (s : Addrs) → Placed a s → (u : PlaceType) (t : ValueType) → place_type p f.locals a ≡ Some u → address_of u ≡ Some t → AreAddressed p (in_place p id f a).taken → AreAddressed p (only (Own a)) → AllMayPoint p t s
  pointers_fit a s h u t typed e taken keys = λ m c. address_points p u t (Own a) m e (own_addressed p (Own a) keys) (place_fits a s h u typed taken m c)
