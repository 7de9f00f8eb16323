-- An expression that is typed over locals as they are declared is typed over those of the function, which may lack qualifiers.
use Rattle.std.proofs.Common.{◌≡◌, ℕ, List, [], ◌∷◌, map, Option, Some, None, slice_get, option_map, refl, ap, sym, ◌∙◌, subst}
use Rattle.std.proofs.lemmas.Option.{same_Some}
use Rattle.cc_operands.specs.CcSyntax.Views.{View}
use Rattle.cc_operand_types.proofs.Rolls.{expr-roll, place-roll}
use Rattle.cc_program.specs.Qualifiers.{is_const, is_volatile}
use Rattle.cc_program.specs.declared.expr.Expr.{Expr, roll-Expr, map-Expr}
use Rattle.cc_program.specs.declared.expr.Expr.TheOpen as one
use Rattle.cc_program.specs.declared.expr.Place.{Place, roll-Place, map-Place}
use Rattle.cc_program.proofs.Each.{Each}
use Rattle.cc_program.proofs.ExprInduction.{Parts, PlaceParts, by_expr, by_place}
use Rattle.cc_operands.specs.CcSyntax.Expressions.{of_one, of_two, type_of, place_type, expr_step, place_step, pointer_type}
use Rattle.cc_operands.specs.CcSyntax.Operators.{unary_type, binary_type, conversion_type, when_assignable, moved_type, gap_type, comparison_type, logical_type, choice_type, assignment_type, change_type, after_type, call_type, subscript_type}
use Rattle.cc_operands.specs.CcSyntax.Types.{Named}
use Rattle.cc_operands.specs.CcSyntax.Values.{ValueType, PlaceType, read_from, written_to, address_of, pointed_to, member_of, object_place}
use Rattle.cc_operand_types.specs.Reduced.{Reduced, ReducedPlace, Objects, ReducedType, ReducedLocals}
use Rattle.cc_operand_types.proofs.Follows.{Gives, Follows, one_follows, two_follows, gives_from}
use Rattle.cc_operand_types.proofs.ReducedPlaces.{place_itself, read_reduced, written_reduced, address_reduced, pointed_reduced, member_reduced}
use Rattle.cc_operand_types.proofs.Rules.{unary_follows, binary_follows, conversion_follows, qualified_follows, moved_follows, gap_follows, comparison_follows, logical_follows, choice_follows, assignment_follows, change_follows, subscript_follows, save_follows, restore_follows, call_follows, AllFollow, NoneLeft, More}
use Rattle.cc_operand_types.proofs.Values.{reduced_itself}

-- of what is read, and of what is written to
pub read_follows : (o p : Option PlaceType) → Follows ReducedPlace o p → Follows Reduced (of_one o read_from) (of_one p read_from)
read_follows o p f = one_follows ReducedPlace Reduced o p read_from read_from f (λ a b k t e. (t, read_reduced b a k t e, reduced_itself t))

-- a value of just this type is taken
abbrev pub Same : ValueType → ValueType → Type 0
Same u t = u ≡ t

pub written_follows : (o p : Option PlaceType) → Follows ReducedPlace o p → Follows Same (of_one o written_to) (of_one p written_to)
written_follows o p f = one_follows ReducedPlace Same o p written_to written_to f (λ a b k t e. (t, written_reduced b a k t e, refl))

module _ (p : View) (locals declared : List Named) (reduced : ReducedLocals locals declared) where
  abbrev old : Expr → Option ValueType
  old e = type_of p declared e

  abbrev new : Expr → Option ValueType
  new e = type_of p locals e

  abbrev old_place : Place → Option PlaceType
  old_place a = place_type p declared a

  abbrev new_place : Place → Option PlaceType
  new_place a = place_type p locals a

  abbrev pub Typed : Expr → Type 0
  Typed e = Follows Reduced (old e) (new e)

  abbrev pub PlaceTyped : Place → Type 0
  PlaceTyped a = Follows ReducedPlace (old_place a) (new_place a)

  arguments : (es : List Expr) → Each Typed es → AllFollow (map old es) (map new es)
  arguments [] h = NoneLeft
  arguments (e ∷ es) h = More (old e) (new e) (map old es) (map new es) h.0 (arguments es h.1)

  assigned_with : (to u : ValueType) (t t' : ValueType) → Same u to → Reduced t' t → (r : ValueType) → assignment_type to t ≡ Some r → Gives Reduced (assignment_type u t') r
  assigned_with to u t t' s k r e = subst (λ (z : ValueType). Gives Reduced (assignment_type z t') r) (sym s) (assignment_follows p.structures p.target to t t' k r e)

  level : (x : one.Expr-F Expr Place) → Parts Typed PlaceTyped x →
      Follows Reduced (expr_step p declared (map-Expr Expr Place (Option ValueType) (Option PlaceType) old old_place x)) (expr_step p locals (map-Expr Expr Place (Option ValueType) (Option PlaceType) new new_place x))
  level (one.Const n i) h = λ r e. (r, e, reduced_itself r)
  level (one.Null t) h = λ r e. (r, e, reduced_itself r)
  level (one.FuncAddr f) h = λ r e. (r, e, reduced_itself r)
  level (one.Load a) h = read_follows (old_place a) (new_place a) h
  level (one.AddrOf a) h = one_follows ReducedPlace Reduced (old_place a) (new_place a) address_of address_of h (λ b c k t e. address_reduced c b k t e)
  level (one.Un o i a) h = one_follows Reduced Reduced (old a) (new a) (unary_type p.target o i) (unary_type p.target o i) h (λ t u k. unary_follows p.structures p.target o i t u k)
  level (one.Bin o i a b) h = two_follows Reduced Reduced Reduced (old a) (new a) (old b) (new b) (binary_type p.target o i) (binary_type p.target o i) h.0 h.1 (λ t u x y k l. binary_follows p.structures p.target o i t u x y k l)
  level (one.Conv i a) h = one_follows Reduced Reduced (old a) (new a) (conversion_type i) (conversion_type i) h (λ t u k. conversion_follows p.structures p.target i t u k)
  level (one.Qualify t a) h = one_follows Reduced Reduced (old a) (new a) (when_assignable (pointer_type p t)) (when_assignable (pointer_type p t)) h (λ x u k. qualified_follows p.structures p.target (pointer_type p t) x u k)
  level (one.Move a b back) h = two_follows Reduced Reduced Reduced (old a) (new a) (old b) (new b) (moved_type p.structures) (moved_type p.structures) h.0 h.1 (λ t u x y k l. moved_follows p.structures p.target t u x y k l)
  level (one.Gap a b) h = two_follows Reduced Reduced Reduced (old a) (new a) (old b) (new b) (gap_type p.structures p.target) (gap_type p.structures p.target) h.0 h.1 (λ t u x y k l. gap_follows p.structures p.target t u x y k l)
  level (one.Compare o a b) h = two_follows Reduced Reduced Reduced (old a) (new a) (old b) (new b) (comparison_type o) (comparison_type o) h.0 h.1 (λ t u x y k l. comparison_follows p.structures p.target o t u x y k l)
  level (one.Both a b) h = two_follows Reduced Reduced Reduced (old a) (new a) (old b) (new b) logical_type logical_type h.0 h.1 (λ t u x y k l. logical_follows p.structures p.target t u x y k l)
  level (one.Either a b) h = two_follows Reduced Reduced Reduced (old a) (new a) (old b) (new b) logical_type logical_type h.0 h.1 (λ t u x y k l. logical_follows p.structures p.target t u x y k l)
  level (one.Choose c a b) h = one_follows Reduced Reduced (old c) (new c) (λ s. of_two (old a) (old b) (choice_type p.target s)) (λ s. of_two (new a) (new b) (choice_type p.target s)) h.0
      (λ s q g. two_follows Reduced Reduced Reduced (old a) (new a) (old b) (new b) (choice_type p.target s) (choice_type p.target q) h.1 h.2 (λ t u x y k l. choice_follows p.structures p.target s q t u x y g k l))
  level (one.Assign a b) h = two_follows Same Reduced Reduced (of_one (old_place a) written_to) (of_one (new_place a) written_to) (old b) (new b) assignment_type assignment_type (written_follows (old_place a) (new_place a) h.0) h.1
      (λ to u t t' s k. assigned_with to u t t' s k)
  level (one.Change a o i b) h = two_follows Same Reduced Reduced (of_one (old_place a) written_to) (of_one (new_place a) written_to) (old b) (new b) (change_type p.structures p.target o i) (change_type p.structures p.target o i) (written_follows (old_place a) (new_place a) h.0) h.1
      (λ to u t t' s k r e. subst (λ (z : ValueType). Gives Reduced (change_type p.structures p.target o i z t') r) (sym s) (change_follows p.structures p.target o i to t t' k r e))
  level (one.After a down) h = one_follows Same Reduced (of_one (old_place a) written_to) (of_one (new_place a) written_to) (after_type p.structures) (after_type p.structures) (written_follows (old_place a) (new_place a) h)
      (λ to u s r e. (r, ap (after_type p.structures) s ∙ e, reduced_itself r))
  level (one.Call f args) h = one_follows Reduced Reduced (old f) (new f) (λ t. call_type t (map old args)) (λ t. call_type t (map new args)) h.0 (λ t u k. call_follows t u (map old args) (map new args) k (arguments args h.1))
  level (one.Intr i None) h = λ r e. save_follows i r e
  level (one.Intr i (Some a)) h = λ r e. restore_follows i (old a) (new a) h r e
  level (one.Seq a b) h = two_follows Reduced Reduced Reduced (old a) (new a) (old b) (new b) (λ t u. Some u) (λ t u. Some u) h.0 h.1 (λ t u x y k l r e. (y, refl, subst (λ (z : ValueType). Reduced y z) (same_Some x r e) l))

  object_reduced : (l d : Named) → ReducedType l.1 d.1 → (r : PlaceType) → Some (object_place d.1) ≡ Some r → Gives ReducedPlace (Some (object_place l.1)) r
  object_reduced l d h r e = (
    object_place l.1,
    refl,
    subst (λ (z : PlaceType). ReducedPlace (object_place l.1) z) (same_Some (object_place d.1) r e) (Objects (is_const l.1) (is_volatile l.1) l.1 (is_const d.1) (is_volatile d.1) d.1 h.one h.constant h.volatile),
  )

  local_by : (r : ℕ) (o : Option Named) → slice_get declared r ≡ o → (a : PlaceType) → option_map (λ (d : Named). object_place d.1) o ≡ Some a → Gives ReducedPlace (option_map (λ (l : Named). object_place l.1) (slice_get locals r)) a
  local_by r None f a e = absurd (cc)
  local_by r (Some d) f a e =
      let l = reduced r d f in
      gives_from ReducedPlace (Some (object_place l.0.1)) (option_map (λ (l : Named). object_place l.1) (slice_get locals r)) a (sym (ap (option_map (λ (l : Named). object_place l.1)) l.1)) (object_reduced l.0 d l.2 a e)

  place_level : (x : one.Place-F Expr Place) → PlaceParts Typed PlaceTyped x →
      Follows ReducedPlace (place_step p declared (map-Place Expr Place (Option ValueType) (Option PlaceType) old old_place x)) (place_step p locals (map-Place Expr Place (Option ValueType) (Option PlaceType) new new_place x))
  place_level (one.Local r) h = λ a e. local_by r (slice_get declared r) refl a e
  place_level (one.Static i) h = λ a e. (a, e, place_itself a)
  place_level (one.Device d) h = λ a e. (a, e, place_itself a)
  place_level (one.Element a i) h = two_follows ReducedPlace Reduced ReducedPlace (old_place a) (new_place a) (old i) (new i) subscript_type subscript_type h.0 h.1 (λ b c t u k l. subscript_follows p.structures p.target b c t u k l)
  place_level (one.Member a m) h = one_follows ReducedPlace ReducedPlace (old_place a) (new_place a) (member_of p.structures m) (member_of p.structures m) h (λ b c k r e. member_reduced p.structures m c b k r e)
  place_level (one.Deref a) h = one_follows Reduced ReducedPlace (old a) (new a) pointed_to pointed_to h (λ t u k r e. pointed_reduced u t k r e)

  made : (x : one.Expr-F Expr Place) → Parts Typed PlaceTyped x → Typed (roll-Expr x)
  made x h r e = gives_from Reduced (expr_step p locals (map-Expr Expr Place (Option ValueType) (Option PlaceType) new new_place x)) (new (roll-Expr x)) r (sym (expr-roll p locals (roll-Expr x) x refl)) (level x h r (sym (expr-roll p declared (roll-Expr x) x refl) ∙ e))

  made_place : (x : one.Place-F Expr Place) → PlaceParts Typed PlaceTyped x → PlaceTyped (roll-Place x)
  made_place x h r e = gives_from ReducedPlace (place_step p locals (map-Place Expr Place (Option ValueType) (Option PlaceType) new new_place x)) (new_place (roll-Place x)) r (sym (place-roll p locals (roll-Place x) x refl)) (place_level x h r (sym (place-roll p declared (roll-Place x) x refl) ∙ e))

  pub reduced_typed : (e : Expr) → Typed e
  reduced_typed = by_expr Typed PlaceTyped made made_place

  pub reduced_place : (a : Place) → PlaceTyped a
  reduced_place = by_place Typed PlaceTyped made made_place
