-- Types that agree: what is read, and where a place leads, is the same, and so is what the rules of types make of them.
use Rattle.std.proofs.Common.{◌≡◌, ℕ, ℤ, Bool, true, false, ◌&&◌, List, Option, Some, None, refl, ap, sym, ◌∙◌, subst}
use Rattle.std.specs.Prelude.{nat_lt, option_map, option_and_then, if◌then◌else◌}
use Rattle.cc_program.specs.CcNum.declared.int_type.IntType.{IntType}
use Rattle.cc_program.specs.CcNum.declared.int_type.IntType.TheVariants as int
use Rattle.cc_program.specs.CcNum.declared.op.BinOp.{BinOp}
use Rattle.cc_program.specs.CcNum.declared.target.Target.{Target}
use Rattle.cc_program.specs.declared.expr.Expr.TheOpen as one
use Rattle.cc_program.specs.declared.program.Program.{Program}
use Rattle.cc_program.specs.declared.types.CType.{CType, fold_out-CType}
use Rattle.cc_program.specs.declared.types.Shape.{Shape, fold-Shape, fold_out-Shape, map-Shape, out-Shape}
use Rattle.cc_program.specs.declared.types.Shape.TheOpen as shape
use Rattle.cc_program.specs.declared.types.Sig.{Sig, fold-Sig}
use Rattle.cc_program.specs.declared.types.Structure.{Structure}
use Rattle.cc_program.specs.declared.value.Address.{Address}
use Rattle.cc_program.specs.declared.value.Address.TheVariants as address
use Rattle.cc_program.specs.declared.value.Value.{Value}
use Rattle.cc_states.specs.CcSyntax.Expressions.{of_two, expr_step, place_step, pointer_type}
use Rattle.cc_states.specs.CcSyntax.Initial.{bound_of}
use Rattle.cc_program.specs.CcNum.Results.{is_shift}
use Rattle.cc_states.specs.CcSyntax.Operators.{when, when_assignable, is_integer, is_of, is_promoted_value, second_fits, is_comparison, moved_type, gap_type, comparison_type, difference_type, subscript_type}
use Rattle.cc_states.specs.CcSyntax.SameTypes.{alike, is_void_shape}
use Rattle.cc_states.specs.CcSyntax.Types.{Named, complete_shape, is_complete}
use Rattle.cc_states.specs.CcSyntax.Values.{ValueType, NoValue, Integer, ToObject, ToFunction, PlaceType, DevicePlace, ObjectPlace, FunctionPlace, read_from, is_assignable, implies, is_void, element_of, element_shape, member_shape}
use Rattle.cc_states.specs.CcSyntax.Views.{View}
use Rattle.cc_states.proofs.CcSyntax.SameLemmas.{Alike, SameShape, Arrays}
use Rattle.cc_states.proofs.CcSyntax.AlikeLemmas.{shares, tested, alike_mirrored, alike_joined, alike-scalar, alike-bound}
use Rattle.cc_states.specs.CcEval.Context.{Context, are_alike, named_by, path_to, designated, cell_of, cell_at, reached, element, element_in, member, is_seen}
use Rattle.cc_states.specs.CcEval.Eval.{element_at}
use Rattle.cc_states.specs.CcEval.declared.spots.Spot.{Spot}
use Rattle.cc_states.specs.CcEval.declared.spots.Spot.TheVariants as spot
use Rattle.cc_states.specs.CcValues.Values.{integer}
use Rattle.cc_lower_expressions_follows.specs.Agreement.{TypesAgree, EqualTypes, Pointers, PlacesAgree, EqualPlaces, Objects}

pub equal_types : {a b : Option ValueType} → a ≡ b → TypesAgree a b
equal_types {a} e = subst (λ (t : Option ValueType). TypesAgree a t) e (EqualTypes a)

pub types_between : {a b c d : Option ValueType} → a ≡ b → TypesAgree b c → c ≡ d → TypesAgree a d
types_between {a} {b} {c} {d} e h f = subst (λ (t : Option ValueType). TypesAgree t d) (sym e) (subst (λ (t : Option ValueType). TypesAgree b t) f h)

pub equal_places : {a b : Option PlaceType} → a ≡ b → PlacesAgree a b
equal_places {a} e = subst (λ (t : Option PlaceType). PlacesAgree a t) e (EqualPlaces a)

pub places_between : {a b c d : Option PlaceType} → a ≡ b → PlacesAgree b c → c ≡ d → PlacesAgree a d
places_between {a} {b} {c} {d} e h f = subst (λ (t : Option PlaceType). PlacesAgree t d) (sym e) (subst (λ (t : Option PlaceType). PlacesAgree b t) f h)

by_integer : (o x : Option ValueType) → TypesAgree o x → (i : IntType) → x ≡ Some (Integer i) → o ≡ Some (Integer i)
by_integer _ _ (EqualTypes t) i e = e
by_integer _ _ (Pointers c v t u h) i e = absurd (cc)

-- what agrees with an integer type is that
pub integer_agrees : (o : Option ValueType) (i : IntType) → TypesAgree o (Some (Integer i)) → o ≡ Some (Integer i)
integer_agrees o i h = by_integer o (Some (Integer i)) h i refl

by_integral : (o u : Option ValueType) → TypesAgree o u → (x : ValueType) → u ≡ Some x → is_integer x ≡ true → o ≡ u
by_integral _ _ (EqualTypes t) x e k = refl
by_integral _ _ (Pointers c v t u h) x e k =
    let f : ToObject c v u ≡ x = cc in
    let g : false ≡ true = ap is_integer f ∙ k in
    absurd (cc)

pub integral_agrees : (o u : Option ValueType) (x : ValueType) → TypesAgree o u → u ≡ Some x → is_integer x ≡ true → o ≡ u
integral_agrees o u x h e k = by_integral o u h x e k

pub of_integer : (t : IntType) (x : ValueType) → is_of t x ≡ true → is_integer x ≡ true
of_integer t NoValue h = absurd (cc)
of_integer t (Integer s) h = refl
of_integer t (ToObject c v u) h = absurd (cc)
of_integer t (ToFunction sig) h = absurd (cc)

promoted_integer : (target : Target) (x : ValueType) → is_promoted_value target x ≡ true → is_integer x ≡ true
promoted_integer target NoValue h = absurd (cc)
promoted_integer target (Integer s) h = refl
promoted_integer target (ToObject c v u) h = absurd (cc)
promoted_integer target (ToFunction sig) h = absurd (cc)

second_by : (b : Bool) (target : Target) (t : IntType) (x : ValueType) → (if b then is_promoted_value target x else is_of t x) ≡ true → is_integer x ≡ true
second_by true target t x h = promoted_integer target x h
second_by false target t x h = of_integer t x h

pub second_integer : (target : Target) (o : BinOp) (t : IntType) (x : ValueType) → second_fits target o t x ≡ true → is_integer x ≡ true
second_integer target o t x h = second_by (is_shift o) target t x h

-- ---- what two types share that are alike

same_truth : (a b : Bool) → (a ≡ true → b ≡ true) → (b ≡ true → a ≡ true) → a ≡ b
same_truth true b f g = sym (f refl)
same_truth false true f g = g refl
same_truth false false f g = refl

alike_first : (x t u : CType) → alike t u ≡ true → alike t x ≡ alike u x
alike_first x t u h = same_truth (alike t x) (alike u x) (λ k. alike_joined u t x (alike_mirrored t u h) k) (λ k. alike_joined t u x h k)

alike_second : (x t u : CType) → alike t u ≡ true → alike x t ≡ alike x u
alike_second x t u h = same_truth (alike x t) (alike x u) (λ k. alike_joined x t u k h) (λ k. alike_joined x u t k (alike_mirrored t u h))

void_shares : (t u : CType) → Alike t u → is_void t ≡ is_void u
void_shares _ _ (SameShape t u e) = ap is_void_shape e
void_shares _ _ (Arrays t u of other n e f h) = ap is_void_shape e ∙ sym (ap is_void_shape f)

module _ (structures : List Structure) where
  abbrev parts : shape.Shape-F Shape CType Sig → shape.Shape-F Bool Bool (Unit {0})
  parts x = map-Shape Shape CType Sig Bool Bool (Unit {0}) (fold-Shape Bool Bool (Unit {0}) (complete_shape structures) (λ t. t.shape) (λ s. tt)) (is_complete structures)
      (fold-Sig Bool Bool (Unit {0}) (complete_shape structures) (λ t. t.shape) (λ s. tt)) x

  complete-opens : (t : CType) → is_complete structures t ≡ complete_shape structures (parts (out-Shape t.shape))
  unfolding is_complete
  complete-opens t =
      fold_out-CType Bool Bool (Unit {0}) (complete_shape structures) (λ t. t.shape) (λ s. tt) t
      ∙ fold_out-Shape Bool Bool (Unit {0}) (complete_shape structures) (λ t. t.shape) (λ s. tt) t.shape

  complete_shares : (t u : CType) → Alike t u → is_complete structures t ≡ is_complete structures u
  complete_shares _ _ (SameShape t u e) = complete-opens t ∙ ap (λ x. complete_shape structures (parts x)) e ∙ sym (complete-opens u)
  complete_shares _ _ (Arrays t u of other n e f h) =
      complete-opens t ∙ ap (λ x. complete_shape structures (parts x)) e
      ∙ ap (λ (b : Bool). nat_lt 0 n && b) (complete_shares of other h)
      ∙ sym (complete-opens u ∙ ap (λ x. complete_shape structures (parts x)) f)

  complete_same : (t u : CType) → alike t u ≡ true → is_complete structures t ≡ is_complete structures u
  complete_same t u h = complete_shares t u (shares t u h)

  member_shares : (c v : Bool) (m : ℕ) (t u : CType) → Alike t u → member_shape structures c v m (out-Shape t.shape) ≡ member_shape structures c v m (out-Shape u.shape)
  member_shares c v m _ _ (SameShape t u e) = ap (member_shape structures c v m) e
  member_shares c v m _ _ (Arrays t u of other n e f h) = ap (member_shape structures c v m) e ∙ sym (ap (member_shape structures c v m) f)

-- ---- what is read, and where a place leads

pub read_agrees : (t u : Option PlaceType) → PlacesAgree t u → option_and_then read_from t ≡ option_and_then read_from u
read_agrees _ _ (EqualPlaces t) = refl
read_agrees _ _ (Objects c v t u h) = alike-scalar t u h

pub seen_agrees : (t u : Option PlaceType) → PlacesAgree t u → is_seen t ≡ is_seen u
seen_agrees _ _ (EqualPlaces t) = refl
seen_agrees _ _ (Objects c v t u h) = refl

module _ (p : Program) (c v : Bool) (t u : CType) (h : alike t u ≡ true) where
  elements_agree : (x : Option PlaceType) → are_alike x (ObjectPlace c v t) ≡ are_alike x (ObjectPlace c v u)
  elements_agree None = refl
  elements_agree (Some (DevicePlace d i)) = refl
  elements_agree (Some (ObjectPlace d w x)) = alike_second x t u h
  elements_agree (Some (FunctionPlace sig)) = refl

  named_agrees : (a : Address) → named_by p (ObjectPlace c v t) a ≡ named_by p (ObjectPlace c v u) a
  named_agrees address.Null = refl
  named_agrees (address.Func f) = refl
  named_agrees (address.At object path index count) = ap (λ (b : Bool). if nat_lt index count then Some (object, path_to b path index) else None) (elements_agree _)

  designated_agrees : (s : Spot) → designated p (ObjectPlace c v t) s ≡ designated p (ObjectPlace c v u) s
  designated_agrees (spot.Device d) = refl
  designated_agrees (spot.Object object path) = refl
  designated_agrees (spot.Address a) = named_agrees a

  cell_agrees : (s : Spot) → cell_at p (ObjectPlace c v t) s ≡ cell_at p (ObjectPlace c v u) s
  cell_agrees (spot.Device d) = refl
  cell_agrees (spot.Object object path) = refl
  cell_agrees (spot.Address a) = ap (option_map cell_of) (named_agrees a)

  element_agrees : (n : ℤ) (s : Spot) → element p n (ObjectPlace c v t) s ≡ element p n (ObjectPlace c v u) s
  element_agrees n s =
      ap (λ (b : Option ℕ). option_and_then (element_in b n) (designated p (ObjectPlace c v t) s)) (alike-bound t u h) ∙
      ap (option_and_then (element_in (bound_of (ObjectPlace c v u)) n)) (designated_agrees s)

  numbered_agrees : (s : Spot) (n : Option ℤ) → option_and_then (λ n. element p n (ObjectPlace c v t) s) n ≡ option_and_then (λ n. element p n (ObjectPlace c v u) s) n
  numbered_agrees s None = refl
  numbered_agrees s (Some n) = element_agrees n s

  member_at_agrees : (m : ℕ) (s : Spot) → member p m (ObjectPlace c v t) s ≡ member p m (ObjectPlace c v u) s
  member_at_agrees m s = rw (designated_agrees s) refl

pub reached_agrees : (p : Program) (t u : Option PlaceType) → PlacesAgree t u → (s : Option Spot) → reached p t s ≡ reached p u s
reached_agrees p _ _ (EqualPlaces t) s = refl
reached_agrees p _ _ (Objects c v t u h) None = refl
reached_agrees p _ _ (Objects c v t u h) (Some s) = cell_agrees p c v t u h s

pub element_at_agrees : (c : Context) (t u : Option PlaceType) → PlacesAgree t u → (s : Option Spot) (v : Option Value) → element_at c t s v ≡ element_at c u s v
element_at_agrees c _ _ (EqualPlaces t) s v = refl
element_at_agrees c _ _ (Objects d w t u h) None v = refl
element_at_agrees c _ _ (Objects d w t u h) (Some s) v = numbered_agrees c.program d w t u h s (integer v)

pub member_agrees : (p : Program) (m : ℕ) (t u : Option PlaceType) → PlacesAgree t u → (s : Option Spot) → of_two t s (member p m) ≡ of_two u s (member p m)
member_agrees p m _ _ (EqualPlaces t) s = refl
member_agrees p m _ _ (Objects c v t u h) None = refl
member_agrees p m _ _ (Objects c v t u h) (Some s) = member_at_agrees p c v t u h m s

-- ---- what a rule makes of two types, where what agrees stands first or second

module _ {B C : Type 0} (f : ValueType → B → Option C) (law : (c v : Bool) (t u : CType) → alike t u ≡ true → (y : B) → f (ToObject c v t) y ≡ f (ToObject c v u) y) where
  first_agrees : (a b : Option ValueType) → TypesAgree a b → (i : Option B) → of_two a i f ≡ of_two b i f
  first_agrees _ _ (EqualTypes t) i = refl
  first_agrees _ _ (Pointers c v t u h) None = refl
  first_agrees _ _ (Pointers c v t u h) (Some y) = law c v t u h y

module _ {A C : Type 0} (f : A → ValueType → Option C) (law : (c v : Bool) (t u : CType) → alike t u ≡ true → (x : A) → f x (ToObject c v t) ≡ f x (ToObject c v u)) where
  second_agrees : (i j : Option ValueType) → TypesAgree i j → (a : Option A) → of_two a i f ≡ of_two a j f
  second_agrees _ _ (EqualTypes t) a = refl
  second_agrees _ _ (Pointers c v t u h) None = refl
  second_agrees _ _ (Pointers c v t u h) (Some x) = law c v t u h x

module _ (structures : List Structure) where
  gap_first : (target : Target) (c v : Bool) (t u : CType) → alike t u ≡ true → (y : ValueType) → gap_type structures target (ToObject c v t) y ≡ gap_type structures target (ToObject c v u) y
  gap_first target c v t u h NoValue = refl
  gap_first target c v t u h (Integer i) = refl
  gap_first target c v t u h (ToObject d w x) =
      ap (λ (b : Bool). when (b && is_complete structures t) (Integer (difference_type target))) (alike_first x t u h) ∙
      ap (λ (b : Bool). when (alike u x && b) (Integer (difference_type target))) (complete_same structures t u h)
  gap_first target c v t u h (ToFunction sig) = refl

  gap_second : (target : Target) (c v : Bool) (t u : CType) → alike t u ≡ true → (x : ValueType) → gap_type structures target x (ToObject c v t) ≡ gap_type structures target x (ToObject c v u)
  gap_second target c v t u h NoValue = refl
  gap_second target c v t u h (Integer i) = refl
  gap_second target c v t u h (ToObject d w x) = ap (λ (b : Bool). when (b && is_complete structures x) (Integer (difference_type target))) (alike_second x t u h)
  gap_second target c v t u h (ToFunction sig) = refl

  -- a pointer that is moved
  moved_by : (b d : Bool) (c v : Bool) (t u : CType) → alike t u ≡ true → b ≡ d → TypesAgree (when b (ToObject c v t)) (when d (ToObject c v u))
  moved_by true d c v t u h e = subst (λ (x : Bool). TypesAgree (Some (ToObject c v t)) (when x (ToObject c v u))) e (Pointers c v t u h)
  moved_by false d c v t u h e = subst (λ (x : Bool). TypesAgree None (when x (ToObject c v u))) e (EqualTypes None)

  moved_first : (a b : Option ValueType) → TypesAgree a b → (i : Option ValueType) → TypesAgree (of_two a i (moved_type structures)) (of_two b i (moved_type structures))
  moved_first _ _ (EqualTypes t) i = EqualTypes (of_two t i (moved_type structures))
  moved_first _ _ (Pointers c v t u h) None = EqualTypes None
  moved_first _ _ (Pointers c v t u h) (Some y) =
      moved_by (is_complete structures t && is_integer y) (is_complete structures u && is_integer y) c v t u h (ap (λ (b : Bool). b && is_integer y) (complete_same structures t u h))

compare_first : (o : BinOp) (c v : Bool) (t u : CType) → alike t u ≡ true → (y : ValueType) → comparison_type o (ToObject c v t) y ≡ comparison_type o (ToObject c v u) y
compare_first o c v t u h NoValue = refl
compare_first o c v t u h (Integer i) = refl
compare_first o c v t u h (ToObject d w x) = ap (λ (b : Bool). when (is_comparison o && b) (Integer int.Int)) (alike_first x t u h)
compare_first o c v t u h (ToFunction sig) = refl

compare_second : (o : BinOp) (c v : Bool) (t u : CType) → alike t u ≡ true → (x : ValueType) → comparison_type o x (ToObject c v t) ≡ comparison_type o x (ToObject c v u)
compare_second o c v t u h NoValue = refl
compare_second o c v t u h (Integer i) = refl
compare_second o c v t u h (ToObject d w x) = ap (λ (b : Bool). when (is_comparison o && b) (Integer int.Int)) (alike_second x t u h)
compare_second o c v t u h (ToFunction sig) = refl

assignable_same : (to : ValueType) (c v : Bool) (t u : CType) → alike t u ≡ true → is_assignable to (ToObject c v t) ≡ is_assignable to (ToObject c v u)
assignable_same NoValue c v t u h = refl
assignable_same (Integer i) c v t u h = refl
assignable_same (ToObject d w x) c v t u h = ap (λ (b : Bool). b && (implies c d && implies v w)) (alike_second x t u h)
assignable_same (ToFunction sig) c v t u h = refl

qualified_same : (to : Option ValueType) (c v : Bool) (t u : CType) → alike t u ≡ true → when_assignable to (ToObject c v t) ≡ when_assignable to (ToObject c v u)
qualified_same None c v t u h = refl
qualified_same (Some to) c v t u h = ap (λ (b : Bool). when b to) (assignable_same to c v t u h)

element_shares : (c v : Bool) (t u : CType) → Alike t u → PlacesAgree (element_shape c v (out-Shape t.shape)) (element_shape c v (out-Shape u.shape))
element_shares c v _ _ (SameShape t u e) = equal_places (ap (element_shape c v) e)
element_shares c v _ _ (Arrays t u of other n e f h) = places_between (ap (element_shape c v) e) (Objects c v of other (tested of other h)) (sym (ap (element_shape c v) f))

element_by : (b : Bool) (c v : Bool) (t u : CType) → Alike t u → PlacesAgree (if b then element_of (ObjectPlace c v t) else None) (if b then element_of (ObjectPlace c v u) else None)
element_by true c v t u h = element_shares c v t u h
element_by false c v t u h = EqualPlaces None

subscript_first : (a b : Option PlaceType) → PlacesAgree a b → (i : Option ValueType) → PlacesAgree (of_two a i subscript_type) (of_two b i subscript_type)
subscript_first _ _ (EqualPlaces t) i = EqualPlaces (of_two t i subscript_type)
subscript_first _ _ (Objects c v t u h) None = EqualPlaces None
subscript_first _ _ (Objects c v t u h) (Some y) = element_by (is_integer y) c v t u (shares t u h)

pointed_by : (b d : Bool) (c v : Bool) (t u : CType) → alike t u ≡ true → b ≡ d → PlacesAgree (if b then None else Some (ObjectPlace c v t)) (if d then None else Some (ObjectPlace c v u))
pointed_by true d c v t u h e = subst (λ (x : Bool). PlacesAgree None (if x then None else Some (ObjectPlace c v u))) e (EqualPlaces None)
pointed_by false d c v t u h e = subst (λ (x : Bool). PlacesAgree (Some (ObjectPlace c v t)) (if x then None else Some (ObjectPlace c v u))) e (Objects c v t u h)

-- ---- the rules of types

module _ (p : View) (locals : List Named) where
  pub address_types : (a b : Option PlaceType) → PlacesAgree a b → TypesAgree (expr_step p locals (one.AddrOf a)) (expr_step p locals (one.AddrOf b))
  address_types _ _ (EqualPlaces t) = EqualTypes (expr_step p locals (one.AddrOf t))
  address_types _ _ (Objects c v t u h) = Pointers c v t u h

  pub qualify_types : (to : CType) (a b : Option ValueType) → TypesAgree a b → expr_step p locals (one.Qualify to a) ≡ expr_step p locals (one.Qualify to b)
  qualify_types to _ _ (EqualTypes t) = refl
  qualify_types to _ _ (Pointers c v t u h) = qualified_same (pointer_type p to) c v t u h

  pub move_types : (back : Bool) (a b i j : Option ValueType) → TypesAgree a b → TypesAgree i j → TypesAgree (expr_step p locals (one.Move a i back)) (expr_step p locals (one.Move b j back))
  move_types back a b i j h k =
      subst (λ (t : Option ValueType). TypesAgree (of_two a i (moved_type p.structures)) t) (second_agrees (moved_type p.structures) (λ c v t u e x. refl) i j k b) (moved_first p.structures a b h i)

  pub gap_types : (a b i j : Option ValueType) → TypesAgree a b → TypesAgree i j → expr_step p locals (one.Gap a i) ≡ expr_step p locals (one.Gap b j)
  gap_types a b i j h k =
      first_agrees (gap_type p.structures p.target) (gap_first p.structures p.target) a b h i ∙ second_agrees (gap_type p.structures p.target) (gap_second p.structures p.target) i j k b

  pub compare_types : (o : BinOp) (a b i j : Option ValueType) → TypesAgree a b → TypesAgree i j → expr_step p locals (one.Compare o a i) ≡ expr_step p locals (one.Compare o b j)
  compare_types o a b i j h k = first_agrees (comparison_type o) (compare_first o) a b h i ∙ second_agrees (comparison_type o) (compare_second o) i j k b

  pub element_places : (a b : Option PlaceType) (i j : Option ValueType) → PlacesAgree a b → TypesAgree i j → PlacesAgree (place_step p locals (one.Element a i)) (place_step p locals (one.Element b j))
  element_places a b i j h k = subst (λ (t : Option PlaceType). PlacesAgree (of_two a i subscript_type) t) (second_agrees subscript_type (λ c v t u e x. refl) i j k b) (subscript_first a b h i)

  pub member_places : (m : ℕ) (a b : Option PlaceType) → PlacesAgree a b → place_step p locals (one.Member a m) ≡ place_step p locals (one.Member b m)
  member_places m _ _ (EqualPlaces t) = refl
  member_places m _ _ (Objects c v t u h) = member_shares p.structures c v m t u (shares t u h)

  pub deref_places : (a b : Option ValueType) → TypesAgree a b → PlacesAgree (place_step p locals (one.Deref a)) (place_step p locals (one.Deref b))
  deref_places _ _ (EqualTypes t) = EqualPlaces (place_step p locals (one.Deref t))
  deref_places _ _ (Pointers c v t u h) = pointed_by (is_void t) (is_void u) c v t u h (void_shares t u (shares t u h))
