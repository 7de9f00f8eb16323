-- Typing is kept by other numbers: an expression that is typed over a view is so, by the numbers, over another that has what it mentions.
use Rattle.std.proofs.Common.{◌≡◌, ℕ, Bool, true, List, [], ◌∷◌, ◌++◌, map, Option, Some, None, slice_get, option_map, refl, ap, sym, ◌∙◌, subst}
use Rattle.std.proofs.lemmas.Option.{same_Some}
use Rattle.cc_program.specs.CcNum.declared.target.Target.{Target}
use Rattle.cc_operands.specs.CcSyntax.Views.{View, kind_in}
use Rattle.cc_operand_types.proofs.Rolls.{expr-roll, place-roll}
use Rattle.cc_program.specs.declared.expr.Expr.{Expr, roll-Expr, map-Expr, fold-roll-Expr}
use Rattle.cc_program.specs.declared.expr.Expr.TheOpen as one
use Rattle.cc_program.specs.declared.expr.Expr.TheVariants.{rolls-Const, rolls-Null, rolls-FuncAddr, rolls-Load, rolls-AddrOf, rolls-Un, rolls-Bin, rolls-Conv, rolls-Qualify, rolls-Move, rolls-Gap, rolls-Compare, rolls-Both, rolls-Either, rolls-Choose, rolls-Assign, rolls-Change, rolls-After, rolls-Call, rolls-Intr, rolls-Seq}
use Rattle.cc_program.specs.declared.expr.Place.{Place, Local, Static, Element, Member, Deref, roll-Place, map-Place, fold-roll-Place}
use Rattle.cc_program.specs.declared.expr.Place.TheVariants.{rolls-Local, rolls-Static, rolls-Element, rolls-Member, rolls-Deref}
use Rattle.cc_program.specs.declared.types.CType.{CType}
use Rattle.cc_program.proofs.Each.{Each}
use Rattle.cc_program.proofs.ExprInduction.{Parts, PlaceParts, by_expr, by_place}
use Rattle.cc_structures.proofs.WordLaws.{number_by}
use Rattle.cc_operands.specs.CcSyntax.Expressions.{of_one, of_two, type_of, place_type, expr_step, place_step, pointer_type}
use Rattle.cc_operands.specs.CcSyntax.Kinds.{Kind, is_plain_scalar, kind_of}
use Rattle.cc_operands.specs.CcSyntax.Operators.{constant_type, unary_type, binary_type, conversion_type, when_assignable, moved_type, gap_type, comparison_type, logical_type, choice_type, assignment_type, change_type, after_type, call_type, subscript_type}
use Rattle.cc_operands.specs.CcSyntax.Types.{Named, has_members}
use Rattle.cc_operands.specs.CcSyntax.Values.{ValueType, PlaceType, read_from, written_to, address_of, pointed_to, member_of, object_place}
use Rattle.cc_unit.specs.Mentioned as mentioned
use Rattle.cc_unit.specs.Mentioned.{in_expr, in_place, all_of}
use Rattle.cc_unit.specs.Renumbered as renumbered
use Rattle.cc_unit.specs.Renumbered.{expr_renumbered, place_renumbered, type_renumbered, func_by, object_by, device_by}
use Rattle.cc_unit.specs.declared.ids.Ids.{Ids}
use Rattle.cc_operand_types.proofs.Follows.{Gives, Follows, one_follows, two_follows, gives_from}
use Rattle.cc_operand_types.proofs.ReducedPlaces.{place_itself}
use Rattle.cc_operand_types.proofs.Rules.{AllFollow, NoneLeft, More}
use Rattle.cc_operand_types.proofs.Values.{reduced_itself}
use Rattle.cc_relocated_units.specs.Renumbering.{Renumbers, RenumberedLocals, value_renumbered, place_type_renumbered}
use Rattle.cc_relocated_units.proofs.KindsKept.{kind_kept, test_kept}
use Rattle.cc_relocated_units.proofs.Places.{members_kept}
use Rattle.cc_relocated_units.proofs.Rules as rule
use Rattle.cc_relocated_units.proofs.Rules.{Numbered, NumberedPlace, Exactly}
use Rattle.cc_relocated_units.proofs.Types.{object_kept}

-- ---- what is mentioned in two parts

module _ (M : ℕ → Type 0) where
  pub front_each : (a b : List ℕ) → Each M (a ++ b) → Each M a
  front_each [] b h = tt
  front_each (x ∷ a) b h = (h.0, front_each a b h.1)

  pub back_each : (a b : List ℕ) → Each M (a ++ b) → Each M b
  back_each [] b h = h
  back_each (x ∷ a) b h = back_each a b h.1

module _ (v w : View) (ids : Ids) (among : ℕ → Bool) (renumbers : Renumbers v w ids among) (before after : List Named) (locals : RenumberedLocals ids.structures before after) where
  abbrev numbers : List ℕ
  numbers = ids.structures

  abbrev M : ℕ → Type 0
  M i = among i ≡ true

  abbrev R : ValueType → ValueType → Type 0
  R u t = Numbered numbers u t

  abbrev P : PlaceType → PlaceType → Type 0
  P b a = NumberedPlace numbers b a

  abbrev old : Expr → Option ValueType
  old e = type_of v before e

  abbrev new : Expr → Option ValueType
  new e = type_of w after (expr_renumbered ids e)

  abbrev old_place : Place → Option PlaceType
  old_place a = place_type v before a

  abbrev new_place : Place → Option PlaceType
  new_place a = place_type w after (place_renumbered ids a)

  abbrev pub Typed : Expr → Type 0
  Typed e = Each M (in_expr e) → Follows R (old e) (new e)

  abbrev pub PlaceTyped : Place → Type 0
  PlaceTyped a = Each M (in_place a) → Follows P (old_place a) (new_place a)

  -- ---- what is renumbered, one level down

  abbrev level_of : one.Expr-F Expr Place → one.Expr-F (Option ValueType) (Option PlaceType)
  level_of (one.Null t) = one.Null (type_renumbered numbers t)
  level_of (one.FuncAddr f) = one.FuncAddr (func_by (slice_get ids.names f))
  level_of (one.Qualify t a) = one.Qualify (type_renumbered numbers t) (new a)
  level_of x = map-Expr Expr Place (Option ValueType) (Option PlaceType) new new_place x

  abbrev mapped : one.Expr-F Expr Place → one.Expr-F Expr Place
  mapped x = map-Expr Expr Place Expr Place (expr_renumbered ids) (place_renumbered ids) x

  renumbered-roll : (x : one.Expr-F Expr Place) → expr_renumbered ids (roll-Expr x) ≡ renumbered.expr_step ids (mapped x)
  unfolding expr_renumbered place_renumbered
  renumbered-roll x = fold-roll-Expr Expr Place (renumbered.expr_step ids) (renumbered.place_step ids) x

  place_renumbered-roll : (x : one.Place-F Expr Place) → place_renumbered ids (roll-Place x) ≡ renumbered.place_step ids (map-Place Expr Place Expr Place (expr_renumbered ids) (place_renumbered ids) x)
  unfolding expr_renumbered place_renumbered
  place_renumbered-roll x = fold-roll-Place Expr Place (renumbered.expr_step ids) (renumbered.place_step ids) x

  mentioned-roll : (x : one.Expr-F Expr Place) → in_expr (roll-Expr x) ≡ mentioned.expr_step (map-Expr Expr Place (List ℕ) (List ℕ) in_expr in_place x)
  unfolding in_expr in_place
  mentioned-roll x = fold-roll-Expr (List ℕ) (List ℕ) mentioned.expr_step mentioned.place_step x

  place_mentioned-roll : (x : one.Place-F Expr Place) → in_place (roll-Place x) ≡ mentioned.place_step (map-Place Expr Place (List ℕ) (List ℕ) in_expr in_place x)
  unfolding in_expr in_place
  place_mentioned-roll x = fold-roll-Place (List ℕ) (List ℕ) mentioned.expr_step mentioned.place_step x

  abbrev typed_level : one.Expr-F Expr Place → Option ValueType
  typed_level y = expr_step w after (map-Expr Expr Place (Option ValueType) (Option PlaceType) (type_of w after) (place_type w after) y)

  at : (e : Expr) (y : one.Expr-F Expr Place) → roll-Expr y ≡ e → type_of w after e ≡ typed_level y
  at e y h = expr-roll w after e y h

  arguments_new : (es : List Expr) → map (type_of w after) (map (expr_renumbered ids) es) ≡ map new es
  arguments_new [] = refl
  arguments_new (e ∷ es) = ap (λ (ts : List (Option ValueType)). new e ∷ ts) (arguments_new es)

  level_new : (x : one.Expr-F Expr Place) → type_of w after (renumbered.expr_step ids (mapped x)) ≡ expr_step w after (level_of x)
  level_new (one.Const n t) = at (renumbered.expr_step ids (mapped (one.Const n t))) (one.Const n t) (rolls-Const n t)
  level_new (one.Null t) = at (renumbered.expr_step ids (mapped (one.Null t))) (one.Null (type_renumbered numbers t)) (rolls-Null (type_renumbered numbers t))
  level_new (one.FuncAddr f) = at (renumbered.expr_step ids (mapped (one.FuncAddr f))) (one.FuncAddr (func_by (slice_get ids.names f))) (rolls-FuncAddr (func_by (slice_get ids.names f)))
  level_new (one.Load a) = at (renumbered.expr_step ids (mapped (one.Load a))) (mapped (one.Load a)) (rolls-Load (place_renumbered ids a))
  level_new (one.AddrOf a) = at (renumbered.expr_step ids (mapped (one.AddrOf a))) (mapped (one.AddrOf a)) (rolls-AddrOf (place_renumbered ids a))
  level_new (one.Un o t a) = at (renumbered.expr_step ids (mapped (one.Un o t a))) (mapped (one.Un o t a)) (rolls-Un o t (expr_renumbered ids a))
  level_new (one.Bin o t a b) = at (renumbered.expr_step ids (mapped (one.Bin o t a b))) (mapped (one.Bin o t a b)) (rolls-Bin o t (expr_renumbered ids a) (expr_renumbered ids b))
  level_new (one.Conv t a) = at (renumbered.expr_step ids (mapped (one.Conv t a))) (mapped (one.Conv t a)) (rolls-Conv t (expr_renumbered ids a))
  level_new (one.Qualify t a) = at (renumbered.expr_step ids (mapped (one.Qualify t a))) (one.Qualify (type_renumbered numbers t) (expr_renumbered ids a)) (rolls-Qualify (type_renumbered numbers t) (expr_renumbered ids a))
  level_new (one.Move a b back) = at (renumbered.expr_step ids (mapped (one.Move a b back))) (mapped (one.Move a b back)) (rolls-Move (expr_renumbered ids a) (expr_renumbered ids b) back)
  level_new (one.Gap a b) = at (renumbered.expr_step ids (mapped (one.Gap a b))) (mapped (one.Gap a b)) (rolls-Gap (expr_renumbered ids a) (expr_renumbered ids b))
  level_new (one.Compare o a b) = at (renumbered.expr_step ids (mapped (one.Compare o a b))) (mapped (one.Compare o a b)) (rolls-Compare o (expr_renumbered ids a) (expr_renumbered ids b))
  level_new (one.Both a b) = at (renumbered.expr_step ids (mapped (one.Both a b))) (mapped (one.Both a b)) (rolls-Both (expr_renumbered ids a) (expr_renumbered ids b))
  level_new (one.Either a b) = at (renumbered.expr_step ids (mapped (one.Either a b))) (mapped (one.Either a b)) (rolls-Either (expr_renumbered ids a) (expr_renumbered ids b))
  level_new (one.Choose c a b) = at (renumbered.expr_step ids (mapped (one.Choose c a b))) (mapped (one.Choose c a b)) (rolls-Choose (expr_renumbered ids c) (expr_renumbered ids a) (expr_renumbered ids b))
  level_new (one.Assign a b) = at (renumbered.expr_step ids (mapped (one.Assign a b))) (mapped (one.Assign a b)) (rolls-Assign (place_renumbered ids a) (expr_renumbered ids b))
  level_new (one.Change a o t b) = at (renumbered.expr_step ids (mapped (one.Change a o t b))) (mapped (one.Change a o t b)) (rolls-Change (place_renumbered ids a) o t (expr_renumbered ids b))
  level_new (one.After a down) = at (renumbered.expr_step ids (mapped (one.After a down))) (mapped (one.After a down)) (rolls-After (place_renumbered ids a) down)
  level_new (one.Call f args) = at (renumbered.expr_step ids (mapped (one.Call f args))) (mapped (one.Call f args)) (rolls-Call (expr_renumbered ids f) (map (expr_renumbered ids) args))
      ∙ ap (λ (ts : List (Option ValueType)). expr_step w after (one.Call (new f) ts)) (arguments_new args)
  level_new (one.Intr i None) = at (renumbered.expr_step ids (mapped (one.Intr i None))) (mapped (one.Intr i None)) (rolls-Intr i None)
  level_new (one.Intr i (Some a)) = at (renumbered.expr_step ids (mapped (one.Intr i (Some a)))) (mapped (one.Intr i (Some a))) (rolls-Intr i (Some (expr_renumbered ids a)))
  level_new (one.Seq a b) = at (renumbered.expr_step ids (mapped (one.Seq a b))) (mapped (one.Seq a b)) (rolls-Seq (expr_renumbered ids a) (expr_renumbered ids b))

  -- ---- rules over the two views

  pub members : (k : ℕ) → has_members (slice_get v.structures k) ≡ true → has_members (slice_get w.structures (number_by numbers k)) ≡ true
  members k h = members_kept numbers v.structures w.structures renumbers.structures k h

  -- a rule that asks for the target is that of the second view
  by_target : (o : Target → Option ValueType) (r : ValueType) → Gives R (o v.target) r → Gives R (o w.target) r
  by_target o r g = subst (λ (x : Target). Gives R (o x) r) (sym renumbers.target) g

  scalar_kept : (t : CType) → is_plain_scalar (kind_in v t) ≡ true → is_plain_scalar (kind_in w (type_renumbered numbers t)) ≡ true
  scalar_kept t h = subst (λ (x : Target). is_plain_scalar (kind_of x w.extents (type_renumbered numbers t)) ≡ true) (sym renumbers.target) (test_kept v.target numbers v.extents w.extents renumbers.extents is_plain_scalar refl t h)

  pointer_kept : (t : CType) (s : ValueType) → pointer_type v t ≡ Some s → pointer_type w (type_renumbered numbers t) ≡ Some (value_renumbered numbers s)
  pointer_kept t s e = rule.pointer_exact numbers v.target v.structures w.structures members (is_plain_scalar (kind_in v t)) (is_plain_scalar (kind_in w (type_renumbered numbers t))) t s (scalar_kept t) e

  arguments : (es : List Expr) → Each Typed es → Each M (all_of (map in_expr es)) → AllFollow (map (option_map (value_renumbered numbers)) (map old es)) (map new es)
  arguments [] h m = NoneLeft
  arguments (e ∷ es) h m = More (option_map (value_renumbered numbers) (old e)) (new e) (map (option_map (value_renumbered numbers)) (map old es)) (map new es)
      (rule.mapped_follows numbers v.target v.structures w.structures members (old e) (new e) (h.0 (front_each M (in_expr e) (all_of (map in_expr es)) m)))
      (arguments es h.1 (back_each M (in_expr e) (all_of (map in_expr es)) m))

  written : (a : Place) → Follows P (old_place a) (new_place a) → Follows (Exactly numbers) (of_one (old_place a) written_to) (of_one (new_place a) written_to)
  written a f = one_follows P (Exactly numbers) (old_place a) (new_place a) written_to written_to f (λ b c k t e. rule.written_numbered numbers b c k t e)

  -- two operands
  two : (a b : Expr) (f g : ValueType → ValueType → Option ValueType) → Typed a → Typed b → Each M (in_expr a ++ in_expr b) →
      ((t u x y : ValueType) → R u t → R y x → (r : ValueType) → f t x ≡ Some r → Gives R (g u y) r) → Follows R (of_two (old a) (old b) f) (of_two (new a) (new b) g)
  two a b f g h k m rules = two_follows R R R (old a) (new a) (old b) (new b) f g (h (front_each M (in_expr a) (in_expr b) m)) (k (back_each M (in_expr a) (in_expr b) m)) (λ t u x y i j r e. rules t u x y i j r e)

  level : (x : one.Expr-F Expr Place) → Parts Typed PlaceTyped x → Each M (mentioned.expr_step (map-Expr Expr Place (List ℕ) (List ℕ) in_expr in_place x)) →
      Follows R (expr_step v before (map-Expr Expr Place (Option ValueType) (Option PlaceType) old old_place x)) (expr_step w after (level_of x))
  level (one.Const n i) h m = λ r e. by_target (λ x. constant_type x n i) r (rule.constant_numbered numbers v.target v.structures w.structures members n i r e)
  level (one.Null t) h m = λ r e. (value_renumbered numbers r, rule.null_exact numbers v.target v.structures w.structures members (is_plain_scalar (kind_in v t)) (is_plain_scalar (kind_in w (type_renumbered numbers t))) t r (scalar_kept t) e, reduced_itself (value_renumbered numbers r))
  level (one.FuncAddr f) h m = λ r e. (value_renumbered numbers r, renumbers.functions f r m.0 e, reduced_itself (value_renumbered numbers r))
  level (one.Load a) h m = one_follows P R (old_place a) (new_place a) read_from read_from (h m) (λ b c k t e. rule.read_numbered numbers b c k t e)
  level (one.AddrOf a) h m = one_follows P R (old_place a) (new_place a) address_of address_of (h m) (λ b c k t e. rule.address_numbered numbers b c k t e)
  level (one.Un o i a) h m = one_follows R R (old a) (new a) (unary_type v.target o i) (unary_type w.target o i) (h m) (λ t u k r e. by_target (λ x. unary_type x o i u) r (rule.unary_numbered numbers v.target v.structures w.structures members o i t u k r e))
  level (one.Bin o i a b) h m = two a b (binary_type v.target o i) (binary_type w.target o i) h.0 h.1 m
      (λ t u x y k l r e. by_target (λ z. binary_type z o i u y) r (rule.binary_numbered numbers v.target v.structures w.structures members o i t u x y k l r e))
  level (one.Conv i a) h m = one_follows R R (old a) (new a) (conversion_type i) (conversion_type i) (h m) (λ t u k r e. rule.conversion_numbered numbers v.target v.structures w.structures members i t u k r e)
  level (one.Qualify t a) h m = one_follows R R (old a) (new a) (when_assignable (pointer_type v t)) (when_assignable (pointer_type w (type_renumbered numbers t))) (h m)
      (λ x u k r e. rule.qualified_numbered numbers v.target v.structures w.structures members (pointer_type v t) (pointer_type w (type_renumbered numbers t)) x u (pointer_kept t) k r e)
  level (one.Move a b back) h m = two a b (moved_type v.structures) (moved_type w.structures) h.0 h.1 m (λ t u x y k l r e. rule.moved_numbered numbers v.target v.structures w.structures members t u x y k l r e)
  level (one.Gap a b) h m = two a b (gap_type v.structures v.target) (gap_type w.structures w.target) h.0 h.1 m
      (λ t u x y k l r e. by_target (λ z. gap_type w.structures z u y) r (rule.gap_numbered numbers v.target v.structures w.structures members t u x y k l r e))
  level (one.Compare o a b) h m = two a b (comparison_type o) (comparison_type o) h.0 h.1 m (λ t u x y k l r e. rule.comparison_numbered numbers v.target v.structures w.structures members o t u x y k l r e)
  level (one.Both a b) h m = two a b logical_type logical_type h.0 h.1 m (λ t u x y k l r e. rule.logical_numbered numbers v.target v.structures w.structures members t u x y k l r e)
  level (one.Either a b) h m = two a b logical_type logical_type h.0 h.1 m (λ t u x y k l r e. rule.logical_numbered numbers v.target v.structures w.structures members t u x y k l r e)
  level (one.Choose c a b) h m = one_follows R R (old c) (new c) (λ s. of_two (old a) (old b) (choice_type v.target s)) (λ s. of_two (new a) (new b) (choice_type w.target s)) (h.0 (front_each M (in_expr c) (in_expr a ++ in_expr b) m))
      (λ s q g. two a b (choice_type v.target s) (choice_type w.target q) h.1 h.2 (back_each M (in_expr c) (in_expr a ++ in_expr b) m)
      (λ t u x y k l r e. by_target (λ z. choice_type z q u y) r (rule.choice_numbered numbers v.target v.structures w.structures members s q t u x y g k l r e)))
  level (one.Assign a b) h m = two_follows (Exactly numbers) R R (of_one (old_place a) written_to) (of_one (new_place a) written_to) (old b) (new b) assignment_type assignment_type
      (written a (h.0 (front_each M (in_place a) (in_expr b) m))) (h.1 (back_each M (in_place a) (in_expr b) m))
      (λ to u t t' s k r e. subst (λ (z : ValueType). Gives R (assignment_type z t') r) (sym s) (rule.assignment_numbered numbers v.target v.structures w.structures members to t t' k r e))
  level (one.Change a o i b) h m = two_follows (Exactly numbers) R R (of_one (old_place a) written_to) (of_one (new_place a) written_to) (old b) (new b) (change_type v.structures v.target o i) (change_type w.structures w.target o i)
      (written a (h.0 (front_each M (in_place a) (in_expr b) m))) (h.1 (back_each M (in_place a) (in_expr b) m))
      (λ to u t t' s k r e. by_target (λ z. change_type w.structures z o i u t') r (subst (λ (z : ValueType). Gives R (change_type w.structures v.target o i z t') r) (sym s) (rule.change_numbered numbers v.target v.structures w.structures members o i to t t' k r e)))
  level (one.After a down) h m = one_follows (Exactly numbers) R (of_one (old_place a) written_to) (of_one (new_place a) written_to) (after_type v.structures) (after_type w.structures) (written a (h m))
      (λ to u s r e. subst (λ (z : ValueType). Gives R (after_type w.structures z) r) (sym s) (rule.after_numbered numbers v.target v.structures w.structures members to r e))
  level (one.Call f args) h m = one_follows R R (old f) (new f) (λ t. call_type t (map old args)) (λ t. call_type t (map new args)) (h.0 (front_each M (in_expr f) (all_of (map in_expr args)) m))
      (λ t u k r e. rule.call_numbered numbers v.target v.structures w.structures members t u (map old args) (map new args) k (arguments args h.1 (back_each M (in_expr f) (all_of (map in_expr args)) m)) r e)
  level (one.Intr i None) h m = λ r e. rule.save_numbered numbers v.target v.structures w.structures members i r e
  level (one.Intr i (Some a)) h m = λ r e. rule.restore_numbered numbers v.target v.structures w.structures members i (old a) (new a) (h m) r e
  level (one.Seq a b) h m = two a b (λ t u. Some u) (λ t u. Some u) h.0 h.1 m (λ t u x y k l r e. (y, refl, subst (λ (z : ValueType). R y z) (same_Some x r e) l))

  -- ---- places

  local_by : (r : ℕ) (o : Option Named) → slice_get before r ≡ o → (a : PlaceType) → option_map (λ (l : Named). object_place l.1) o ≡ Some a → Gives P (option_map (λ (l : Named). object_place l.1) (slice_get after r)) a
  local_by r None f a e = absurd (cc)
  local_by r (Some l) f a e =
      let n = locals r l f in (
        place_type_renumbered numbers a,
        ap (option_map (λ (l : Named). object_place l.1)) n.1 ∙ (ap (λ (t : CType). Some (object_place t)) n.2 ∙ (ap (λ (b : PlaceType). Some b) (object_kept numbers l.1) ∙ ap (option_map (place_type_renumbered numbers)) e)),
        place_itself (place_type_renumbered numbers a),
      )

  place_at : (a : Place) (y : one.Place-F Expr Place) → roll-Place y ≡ a → place_type w after a ≡ place_step w after (map-Place Expr Place (Option ValueType) (Option PlaceType) (type_of w after) (place_type w after) y)
  place_at a y h = place-roll w after a y h

  abbrev placed : one.Place-F Expr Place → Place
  placed x = renumbered.place_step ids (map-Place Expr Place Expr Place (expr_renumbered ids) (place_renumbered ids) x)

  place_level : (x : one.Place-F Expr Place) → PlaceParts Typed PlaceTyped x → Each M (mentioned.place_step (map-Place Expr Place (List ℕ) (List ℕ) in_expr in_place x)) →
      Follows P (place_step v before (map-Place Expr Place (Option ValueType) (Option PlaceType) old old_place x)) (place_type w after (placed x))
  place_level (one.Local r) h m = λ a e. gives_from P (option_map (λ (l : Named). object_place l.1) (slice_get after r)) (place_type w after (Local r)) a (sym (place_at (Local r) (one.Local r) (rolls-Local r))) (local_by r (slice_get before r) refl a e)
  place_level (one.Static i) h m = λ a e. (
    place_type_renumbered numbers a,
    place_at (Static (object_by (slice_get ids.names i))) (one.Static (object_by (slice_get ids.names i))) (rolls-Static (object_by (slice_get ids.names i))) ∙ renumbers.statics i a m.0 e,
    place_itself (place_type_renumbered numbers a),
  )
  place_level (one.Device d) h m = λ a e. renumbers.devices d a m.0 e after
  place_level (one.Element a i) h m = λ r e. gives_from P (of_two (new_place a) (new i) subscript_type) (place_type w after (Element (place_renumbered ids a) (expr_renumbered ids i))) r
      (sym (place_at (Element (place_renumbered ids a) (expr_renumbered ids i)) (one.Element (place_renumbered ids a) (expr_renumbered ids i)) (rolls-Element (place_renumbered ids a) (expr_renumbered ids i))))
      (two_follows P R P (old_place a) (new_place a) (old i) (new i) subscript_type subscript_type (h.0 (front_each M (in_place a) (in_expr i) m)) (h.1 (back_each M (in_place a) (in_expr i) m))
      (λ b c t u k l q d. rule.subscript_numbered numbers v.target v.structures w.structures members b c t u k l q d) r e)
  place_level (one.Member a n) h m = λ r e. gives_from P (of_one (new_place a) (member_of w.structures n)) (place_type w after (Member (place_renumbered ids a) n)) r
      (sym (place_at (Member (place_renumbered ids a) n) (one.Member (place_renumbered ids a) n) (rolls-Member (place_renumbered ids a) n)))
      (one_follows P P (old_place a) (new_place a) (member_of v.structures n) (member_of w.structures n) (h m) (λ b c k q d. rule.member_numbered numbers v.structures w.structures renumbers.structures n b c k q d) r e)
  place_level (one.Deref a) h m = λ r e. gives_from P (of_one (new a) pointed_to) (place_type w after (Deref (expr_renumbered ids a))) r
      (sym (place_at (Deref (expr_renumbered ids a)) (one.Deref (expr_renumbered ids a)) (rolls-Deref (expr_renumbered ids a))))
      (one_follows R P (old a) (new a) pointed_to pointed_to (h m) (λ t u k q d. rule.pointed_numbered numbers t u k q d) r e)

  -- ---- all

  made : (x : one.Expr-F Expr Place) → Parts Typed PlaceTyped x → Typed (roll-Expr x)
  made x h m r e = gives_from R (expr_step w after (level_of x)) (new (roll-Expr x)) r (sym (ap (type_of w after) (renumbered-roll x) ∙ level_new x))
      (level x h (subst (λ (l : List ℕ). Each M l) (mentioned-roll x) m) r (sym (expr-roll v before (roll-Expr x) x refl) ∙ e))

  made_place : (x : one.Place-F Expr Place) → PlaceParts Typed PlaceTyped x → PlaceTyped (roll-Place x)
  made_place x h m r e = gives_from P (place_type w after (placed x)) (new_place (roll-Place x)) r (sym (ap (place_type w after) (place_renumbered-roll x)))
      (place_level x h (subst (λ (l : List ℕ). Each M l) (place_mentioned-roll x) m) r (sym (place-roll v before (roll-Place x) x refl) ∙ e))

  pub numbered_typed : (e : Expr) → Typed e
  numbered_typed = by_expr Typed PlaceTyped made made_place

  pub numbered_place : (a : Place) → PlaceTyped a
  numbered_place = by_place Typed PlaceTyped made made_place

pub kind_numbered : (v w : View) (ids : Ids) (among : ℕ → Bool) → Renumbers v w ids among → (t : CType) (k : Kind) → kind_in v t ≡ Some k → kind_in w (type_renumbered ids.structures t) ≡ Some k
kind_numbered v w ids among renumbers t k h =
    subst (λ (x : Target). kind_of x w.extents (type_renumbered ids.structures t) ≡ Some k) (sym renumbers.target) (kind_kept v.target ids.structures v.extents w.extents renumbers.extents t k h)
