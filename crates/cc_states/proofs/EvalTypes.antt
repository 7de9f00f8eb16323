-- What an expression gives has its type, and each step that it asks for can be done: by induction over expressions and places.
use Rattle.std.proofs.Common.{inl, ◌≡◌, ℕ, ℤ, pos, Bool, true, false, not, List, [], ◌∷◌, ◌++◌, map, Option, Some, None, refl, ap, sym, ◌∙◌, subst}
use Rattle.std.proofs.lemmas.Option.{same_Some}
use Rattle.std.specs.Prelude.{option_map, option_and_then, slice_get, if◌then◌else◌}
use Rattle.cc_program.specs.CcNum.declared.int_type.IntType.{IntType}
use Rattle.cc_program.specs.CcNum.declared.int_type.IntType.TheVariants as int
use Rattle.cc_program.specs.CcNum.declared.op.BinOp.{BinOp}
use Rattle.cc_program.specs.declared.expr.Expr.{Expr, roll-Expr}
use Rattle.cc_program.specs.declared.expr.Expr.TheOpen as one
use Rattle.cc_program.specs.declared.expr.Intr.TheVariants as intr
use Rattle.cc_program.specs.declared.expr.Place.{Place as PlaceOf, out-Place, roll-Place, roll-out-Place, map-Place}
use Rattle.cc_program.specs.declared.func.Func.{Func}
use Rattle.cc_program.specs.declared.object.Device.{Device}
use Rattle.cc_program.specs.declared.types.CType.{CType}
use Rattle.cc_program.specs.declared.types.Shape.{Shape, out-Shape}
use Rattle.cc_program.specs.declared.types.Shape.TheOpen as shape
use Rattle.cc_program.specs.declared.types.Sig.{Sig, out-Sig}
use Rattle.cc_program.specs.declared.types.Structure.{Structure}
use Rattle.cc_program.specs.declared.value.Address.{Address}
use Rattle.cc_program.specs.declared.value.Address.TheVariants as address
use Rattle.cc_program.specs.declared.value.Part.{Part}
use Rattle.cc_program.specs.declared.value.Part.TheVariants as part
use Rattle.cc_program.specs.declared.value.Root.{Root}
use Rattle.cc_program.specs.declared.value.Root.TheVariants as root
use Rattle.cc_program.specs.declared.value.Value.{Value}
use Rattle.cc_program.specs.declared.value.Value.TheVariants.{Int, Place}
use Rattle.cc_program.proofs.Each.{Each}
use Rattle.cc_program.proofs.ExprInduction.{Parts, PlaceParts, by_expr, by_place}
use Rattle.cc_steps.specs.CcEval.declared.action.Action.{Action}
use Rattle.cc_steps.specs.CcEval.declared.action.Action.TheVariants as action
use Rattle.cc_steps.specs.CcEval.declared.mark.Mark.{Mark}
use Rattle.cc_steps.specs.CcEval.declared.spots.Spot.{Spot}
use Rattle.cc_steps.specs.CcEval.declared.spots.Spot.TheVariants as spot
use Rattle.cc_steps.specs.CcEval.Context.{Context, local_type, designated, element, element_in, reached, is_seen, member}
use Rattle.cc_steps.specs.CcEval.Eval.{Meaning, Designation, place_meaning, meaning, designation, opened, place_opened, manner, from_one, both_values, from_two, place_and_value, choice, as_condition, each, assigned_by, all_good, called_with, restored, sequence, changed, sum_or_difference, one_more_type, address_of as address_of_spot, element_at, value_type, fetched, stored, changed_back, changed_with, stepped_back, stepped_with}
use Rattle.cc_steps.specs.CcEval.Marks.{Works}
use Rattle.cc_steps.specs.CcEval.Progress.{Known, Get, known, ask, bind, needs, given}
use Rattle.cc_steps.proofs.CcEval.Links.{level, place_level}
use Rattle.cc_steps.proofs.CcEval.Works.{works_known, works_ask, works_bind, works_needs, works_and, works_as, works_choice, gives_made}
use Rattle.cc_steps.specs.CcSyntax.Effects.{Registers, also}
use Rattle.cc_steps.specs.CcSyntax.Expressions.{of_one, of_two}
use Rattle.cc_steps.specs.CcSyntax.Initial.{bound_of}
use Rattle.cc_steps.specs.CcSyntax.Operators as rule
use Rattle.cc_steps.specs.CcSyntax.Operators.{when, constant_type, function_type, common_type, change_type, after_type, call_type, is_promoted, is_integer, is_of}
use Rattle.cc_steps.specs.CcSyntax.Programs.{null_type, pointer_type, qualified_type}
use Rattle.cc_steps.specs.CcSyntax.Registers.{is_addressed}
use Rattle.cc_steps.specs.CcSyntax.Values.{ValueType, NoValue, Integer, ToObject, ToFunction, PlaceType, DevicePlace, pointer_shape, pointer_to, member_of, scalar_value, result_value, object_place, read_from, written_to, address_of, pointed_to, element_of, is_assignable, is_assignable_some, are_assignable}
use Rattle.cc_steps.proofs.CcSyntax.Prefixes.{both_true}
use Rattle.cc_steps.specs.CcValues.Values.{integer, element_at as element_at_address, address_in, truth, of_truth, unary, binary, conversion, movement, gap, comparison}
use Rattle.cc_states.specs.Answers.{IsActivation, IsMarkOf, IsStep, TakesAddressesOf, PlaceTakesAddressesOf}
use Rattle.cc_states.specs.Typed.{is_register_in, IsInMemory, MayHave, MayLead}
use Rattle.cc_steps.proofs.CcSyntax.AlikeLemmas.{function_itself}
use Rattle.cc_states.proofs.Options.{with_one, with_two, when_true, when_is, mapped}
use Rattle.cc_states.proofs.SpotLemmas.{may_lead_member, may_lead_element}
use Rattle.cc_states.proofs.TypedLemmas.{may_widen, promoted_value, has_unary, has_binary, has_conversion, has_truth, has_movement, has_gap, has_comparison}
use Rattle.cc_states.proofs.AddressLemmas.{TakesOwn, expr_takes, IfTaken, PlaceIfTaken, parts_at, place_parts_at, rolled_takes, rolled_place_takes, local_taken}
use Rattle.cc_states.proofs.MemoryLemmas.{addressed_in_memory}
use Rattle.cc_states.proofs.ReachLemmas.{SpotReached, address_spot, cell_reached, member_reached, element_reached}
use Rattle.cc_states.proofs.GivenLemmas.{read_as_written, changed_type, TakesBoth, common, common_left, common_right, given_has, reached_cell, has_good, has_changed, InMemory, may_be_addressed, points, whole_object, MayBeArguments, good_arguments, is_call, call_gives, callee_typed}

module _ (c : Context) (openings : List ℕ) (here : IsActivation c openings) where
  abbrev pub Mark-of : Action → Mark → Type 0
  Mark-of action m = IsMarkOf c.program openings action m

  abbrev pub Step-of : Action → Type 0
  Step-of action = IsStep c.program openings c.number action

  abbrev pub Works-in : {A : Type 0} → (A → Type 0) → Get A → Type 0
  Works-in P g = Works Mark-of Step-of P g

  abbrev pub Value-of : ValueType → Option Value → Type 0
  Value-of t v = MayHave c.program openings t v

  abbrev pub Spot-of : PlaceType → Option Spot → Type 0
  Spot-of u s = MayLead c.program openings u s × SpotReached c.program c.number s

  -- an expression, or a place, whatever stands behind it
  abbrev pub Typed : Meaning → Type 0
  Typed a = (t : ValueType) → a.ctype ≡ Some t → (later : Registers) → Works-in (Value-of t) (a.next later)

  abbrev pub PlaceTyped : Designation → Type 0
  PlaceTyped a = (u : PlaceType) → a.ctype ≡ Some u → (later : Registers) → Works-in (Spot-of u) (a.leads later)

  -- ---- a lemma for each way to work operands

  pub typed_one : {A : Type 0} (P : A → Type 0) (f : Option Value → A) (a : Meaning) (t : ValueType) → Typed a → a.ctype ≡ Some t → ((v : Option Value) → Value-of t v → P (f v)) → (later : Registers) → Works-in P (from_one f a later)
  typed_one P f a t h e k later = works_bind Mark-of Step-of (Value-of t) P (a.next later) (λ v. known (f v)) (h t e later) (λ v m. works_known Mark-of Step-of P (f v) (k v m))

  abbrev pub Both-of : ValueType → ValueType → Option Value × Option Value → Type 0
  Both-of t u q = Value-of t q.0 × Value-of u q.1

  pub typed_both : (a b : Meaning) (t u : ValueType) → Typed a → Typed b → a.ctype ≡ Some t → b.ctype ≡ Some u → (later : Registers) → Works-in (Both-of t u) (both_values a b later)
  typed_both a b t u h k e f later =
      works_bind Mark-of Step-of (Value-of t) (Both-of t u) (a.next (also b.effects.assigned later)) (λ v. bind (b.next later) (λ w. known (v, w))) (h t e (also b.effects.assigned later))
      (λ v m. works_bind Mark-of Step-of (Value-of u) (Both-of t u) (b.next later) (λ w. known (v, w)) (k u f later) (λ w n. works_known Mark-of Step-of (Both-of t u) (v, w) (m, n)))

  pub typed_two : {A : Type 0} (P : A → Type 0) (f : Option Value → Option Value → A) (a b : Meaning) (t u : ValueType) → Typed a → Typed b → a.ctype ≡ Some t → b.ctype ≡ Some u →
      ((v w : Option Value) → Value-of t v → Value-of u w → P (f v w)) → (later : Registers) → Works-in P (from_two f a b later)
  typed_two P f a b t u h k e g j later =
      works_bind Mark-of Step-of (Both-of t u) P (both_values a b later) (λ q. known (f q.0 q.1)) (typed_both a b t u h k e g later) (λ q m. works_known Mark-of Step-of P (f q.0 q.1) (j q.0 q.1 m.0 m.1))

  abbrev pub Place-and : PlaceType → ValueType → Option Spot × Option Value → Type 0
  Place-and u t q = Spot-of u q.0 × Value-of t q.1

  pub typed_place_and_value : (a : Designation) (e : Meaning) (u : PlaceType) (t : ValueType) → PlaceTyped a → Typed e → a.ctype ≡ Some u → e.ctype ≡ Some t → (later : Registers) → Works-in (Place-and u t) (place_and_value a e later)
  typed_place_and_value a e u t h k f g later =
      works_bind Mark-of Step-of (Spot-of u) (Place-and u t) (a.leads (also e.effects.assigned later)) (λ s. bind (e.next later) (λ v. known (s, v))) (h u f (also e.effects.assigned later))
      (λ s m. works_bind Mark-of Step-of (Value-of t) (Place-and u t) (e.next later) (λ v. known (s, v)) (k t g later) (λ v n. works_known Mark-of Step-of (Place-and u t) (s, v) (m, n)))

  -- ---- accesses

  pub typed_fetched : (a : Designation) (u : PlaceType) (w : ValueType) → a.ctype ≡ Some u → read_from u ≡ Some w → (later : Registers) (s : Option Spot) → Spot-of u s → Works-in (Value-of w) (fetched c a later s)
  typed_fetched a u w e k later s h =
      works_needs Mark-of Step-of (Value-of w) (reached c.program a.ctype s) (λ cell. ask (action.Read cell (manner a later)) given)
      (λ cell f.
      let at = reached_cell c.program openings u w s cell h.0 k (ap (λ x. reached c.program x s) (sym e) ∙ f) in
      let own = cell_reached c.program c.number openings u s cell h.0 h.1 (ap (λ x. reached c.program x s) (sym e) ∙ f) in
      works_ask Mark-of Step-of (Value-of w) (action.Read cell (manner a later)) given ((w, at.0, at.1), own)
      (given_has c.program openings w (action.Read cell (manner a later)) (λ t g. same_Some t w (sym g ∙ at.0))))

  pub typed_stored : (a : Designation) (u : PlaceType) (w r : ValueType) → a.ctype ≡ Some u → read_from u ≡ Some w → (s : Option Spot) (v answer : Option Value) → Spot-of u s → Value-of w v → Value-of r answer →
      Works-in (Value-of r) (stored c a s v answer)
  typed_stored a u w r e k s v answer h m n =
      works_needs Mark-of Step-of (Value-of r) (reached c.program a.ctype s) (λ cell. needs v (λ x. ask (action.Write cell (is_seen a.ctype) x) (λ m. answer)))
      (λ cell f.
      let at = reached_cell c.program openings u w s cell h.0 k (ap (λ x. reached c.program x s) (sym e) ∙ f) in
      let own = cell_reached c.program c.number openings u s cell h.0 h.1 (ap (λ x. reached c.program x s) (sym e) ∙ f) in
      works_needs Mark-of Step-of (Value-of r) v (λ x. ask (action.Write cell (is_seen a.ctype) x) (λ m. answer))
      (λ x g. works_ask Mark-of Step-of (Value-of r) (action.Write cell (is_seen a.ctype) x) (λ m. answer) ((w, at.0, at.1, has_good c.program openings w v x m g), own) (λ m i. n)))

  -- the type that is read where a place leads
  pub value_type_is : (a : Designation) (u : PlaceType) (w : ValueType) → a.ctype ≡ Some u → read_from u ≡ Some w → value_type c a ≡ Some w
  value_type_is a u w e k = ap (option_and_then read_from) e ∙ k

  pub changed_has : (a : Designation) (u : PlaceType) (w : ValueType) → a.ctype ≡ Some u → read_from u ≡ Some w → (o : BinOp) (t : IntType) (x y : Option Value) → Value-of w x →
      Value-of w (changed c.program.target o t (value_type c a) x y)
  changed_has a u w e k o t x y h =
      subst (λ (z : Option ValueType). Value-of w (changed c.program.target o t z x y)) (sym (value_type_is a u w e k)) (has_changed c.program openings o t w x y h)

  pub typed_changed : (a : Designation) (u : PlaceType) (w t' : ValueType) → a.ctype ≡ Some u → read_from u ≡ Some w → (o : BinOp) (t : IntType) (later : Registers) (q : Option Spot × Option Value) → Place-and u t' q →
      Works-in (Value-of w) (changed_with c a o t later q)
  typed_changed a u w t' e k o t later q h =
      works_bind Mark-of Step-of (Value-of w) (Value-of w) (fetched c a later q.0) (changed_back c a o t q.0 q.1) (typed_fetched a u w e k later q.0 h.0)
      (λ v m. typed_stored a u w w e k q.0 (changed c.program.target o t (value_type c a) v q.1) (changed c.program.target o t (value_type c a) v q.1) h.0
      (changed_has a u w e k o t v q.1 m) (changed_has a u w e k o t v q.1 m))

  pub typed_stepped : (a : Designation) (u : PlaceType) (w : ValueType) → a.ctype ≡ Some u → read_from u ≡ Some w → (down : Bool) (later : Registers) (s : Option Spot) → Spot-of u s → Works-in (Value-of w) (stepped_with c a down later s)
  typed_stepped a u w e k down later s h =
      works_bind Mark-of Step-of (Value-of w) (Value-of w) (fetched c a later s) (stepped_back c a down s) (typed_fetched a u w e k later s h)
      (λ v m. typed_stored a u w w e k s (changed c.program.target (sum_or_difference down) (one_more_type c.program.target (value_type c a)) (value_type c a) v (Some (Int (pos 1)))) v h
      (changed_has a u w e k (sum_or_difference down) (one_more_type c.program.target (value_type c a)) v (Some (Int (pos 1))) m) m)

  -- ---- branches

  pub typed_choice : (t r : ValueType) (pure : Bool) (condition these those : Get (Option Value)) → Works-in (Value-of t) condition → Works-in (Value-of r) these → Works-in (Value-of r) those →
      Works-in (Value-of r) (choice pure condition these those)
  typed_choice t r pure condition these those g h k = works_choice Mark-of Step-of (Value-of t) (Value-of r) pure condition these those (λ b. (tt, tt)) tt g h k

  pub typed_condition : (b : Meaning) (t : ValueType) → Typed b → b.ctype ≡ Some t → (later : Registers) → Works-in (Value-of (Integer int.Int)) (as_condition b later)
  typed_condition b t h e later =
      works_bind Mark-of Step-of (Value-of t) (Value-of (Integer int.Int)) (b.next later) (λ v. known (of_truth (truth v))) (h t e later)
      (λ v m. works_known Mark-of Step-of (Value-of (Integer int.Int)) (of_truth (truth v)) (has_truth c.program openings v))

  pub widened_arm : (a r : ValueType) (g : Get (Option Value)) → ((v : Option Value) → Value-of a v → Value-of r v) → Works-in (Value-of a) g → Works-in (Value-of r) g
  widened_arm a r g k w = works_as Mark-of Step-of (Value-of a) (Value-of r) g k w

  -- ---- calls

  abbrev pub At : Expr → Type 0
  At e = Typed (meaning c e)

  abbrev pub PlaceAt : PlaceOf → Type 0
  PlaceAt a = PlaceTyped (designation c a)

  abbrev pub Arguments : List CType → List (Option Value) → Type 0
  Arguments ts vs = MayBeArguments c.program openings ts vs

  pub assigned_argument : (C : Type 0) (to from : Option ValueType) → is_assignable_some to from ≡ true → ((t u : ValueType) → to ≡ Some t → from ≡ Some u → is_assignable t u ≡ true → C) → C
  assigned_argument C None from h k = absurd (cc)
  assigned_argument C (Some t) None h k = absurd (cc)
  assigned_argument C (Some t) (Some u) h k = k t u refl refl h

  pub typed_each : (ts : List CType) (args : List Expr) → Each At args → are_assignable ts (map (λ (a : Meaning). a.ctype) (map (meaning c) args)) ≡ true → (later : Registers) →
      Works-in (Arguments ts) (each (map (meaning c) args) later)
  typed_each [] [] h e later = works_known Mark-of Step-of (Arguments []) [] tt
  typed_each [] (a ∷ args) h e later = absurd (cc)
  typed_each (t ∷ ts) [] h e later = absurd (cc)
  typed_each (t ∷ ts) (a ∷ args) h e later =
      let all = both_true (is_assignable_some (scalar_value t) (meaning c a).ctype) (are_assignable ts (map (λ (a : Meaning). a.ctype) (map (meaning c) args))) e in
      assigned_argument (Works-in (Arguments (t ∷ ts)) (each (map (meaning c) (a ∷ args)) later)) (scalar_value t) (meaning c a).ctype all.0
      (λ to from f g k. works_bind Mark-of Step-of (Value-of from) (Arguments (t ∷ ts)) ((meaning c a).next (also (assigned_by (map (meaning c) args)) later)) (λ v. bind (each (map (meaning c) args) later) (λ vs. known (v ∷ vs)))
      (h.0 from g (also (assigned_by (map (meaning c) args)) later))
      (λ v m. works_bind Mark-of Step-of (Arguments ts) (Arguments (t ∷ ts)) (each (map (meaning c) args) later) (λ vs. known (v ∷ vs)) (typed_each ts args h.1 all.1 later)
      (λ vs n. works_known Mark-of Step-of (Arguments (t ∷ ts)) (v ∷ vs) ((to, f, may_widen c.program openings to from v k m), n))))

  pub typed_called : (sig : Sig) (w : ValueType) (args : List Expr) → Each At args → are_assignable (out-Sig sig).params (map (λ (a : Meaning). a.ctype) (map (meaning c) args)) ≡ true → result_value (out-Sig sig).result ≡ Some w →
      (later : Registers) (v : Option Value) → Value-of (ToFunction sig) v → Works-in (Value-of w) (called_with (map (meaning c) args) later v)
  typed_called sig w args h e r later v m =
      works_bind Mark-of Step-of (Arguments (out-Sig sig).params) (Value-of w) (each (map (meaning c) args) later) (λ vs. needs (address_in v) (λ callee. needs (all_good vs) (λ good. ask (action.Call callee good) given)))
      (typed_each (out-Sig sig).params args h e later)
      (λ vs n. works_needs Mark-of Step-of (Value-of w) (address_in v) (λ callee. needs (all_good vs) (λ good. ask (action.Call callee good) given))
      (λ callee f. works_needs Mark-of Step-of (Value-of w) (all_good vs) (λ good. ask (action.Call callee good) given)
      (λ good g.
      let at = callee_typed c.program openings sig v callee m f in
      works_ask Mark-of Step-of (Value-of w) (action.Call callee good) given (is_call c.program openings sig callee good at (good_arguments c.program openings (out-Sig sig).params vs good n g), tt)
      (given_has c.program openings w (action.Call callee good) (call_gives c.program openings sig callee good w at r)))))

  -- ---- one level

  -- what is given has the type r, which the rule gives as t
  pub as_type : (r t : ValueType) (g : Get (Option Value)) → r ≡ t → Works-in (Value-of r) g → Works-in (Value-of t) g
  as_type r t g e h = subst (λ (x : ValueType). Works-in (Value-of x) g) e h

  pub flags : (on : Bool) (t : ValueType) → NoValue ≡ t → Works-in (Value-of t) (ask (action.Flag on) given)
  flags on t e = as_type NoValue t (ask (action.Flag on) given) e
      (works_ask Mark-of Step-of (Value-of NoValue) (action.Flag on) given (tt, tt) (given_has c.program openings NoValue (action.Flag on) (λ u f. same_Some u NoValue (sym f))))

  pub saves : (t : ValueType) → Integer int.UChar ≡ t → Works-in (Value-of t) (ask action.Save given)
  saves t e = as_type (Integer int.UChar) t (ask action.Save given) e
      (works_ask Mark-of Step-of (Value-of (Integer int.UChar)) action.Save given (tt, tt) (given_has c.program openings (Integer int.UChar) action.Save (λ u f. same_Some u (Integer int.UChar) (sym f))))

  pub restores : (a : Meaning) (u t : ValueType) → Typed a → a.ctype ≡ Some u → NoValue ≡ t → (later : Registers) → Works-in (Value-of t) (restored (Some a) later)
  restores a u t h f e later =
      works_bind Mark-of Step-of (Value-of u) (Value-of t) (a.next later) (λ v. needs (truth v) (λ b. ask (action.Flag b) given)) (h u f later)
      (λ v m. works_needs Mark-of Step-of (Value-of t) (truth v) (λ b. ask (action.Flag b) given) (λ b g. flags b t e))

  pub restored_rule : (C : Type 0) (a : Option ValueType) (t : ValueType) → rule.intrinsic_type intr.Restore (Some a) ≡ Some t → ((u : ValueType) → a ≡ Some u → NoValue ≡ t → C) → C
  restored_rule C None t e k = absurd (cc)
  restored_rule C (Some u) t e k = k u refl (when_is (is_of int.UChar u) NoValue t e)

  pub typed_assigned : (a : Designation) (e : Meaning) (t : ValueType) → PlaceTyped a → Typed e → of_two (of_one a.ctype written_to) e.ctype rule.assignment_type ≡ Some t → (later : Registers) →
      Works-in (Value-of t) (bind (place_and_value a e later) (λ q. stored c a q.0 q.1 q.1))
  typed_assigned a e t h k f later =
      with_two (Works-in (Value-of t) (bind (place_and_value a e later) (λ q. stored c a q.0 q.1 q.1))) (of_one a.ctype written_to) e.ctype rule.assignment_type t f
      (λ w v g j i. with_one (Works-in (Value-of t) (bind (place_and_value a e later) (λ q. stored c a q.0 q.1 q.1))) a.ctype written_to w g
      (λ u x y. as_type w t (bind (place_and_value a e later) (λ q. stored c a q.0 q.1 q.1)) (when_is (is_assignable w v) w t i)
      (works_bind Mark-of Step-of (Place-and u v) (Value-of w) (place_and_value a e later) (λ q. stored c a q.0 q.1 q.1) (typed_place_and_value a e u v h k x j later)
      (λ q m. typed_stored a u w w x (read_as_written u w y) q.0 q.1 q.1 m.0 (may_widen c.program openings w v q.1 (when_true (is_assignable w v) w t i) m.1) (may_widen c.program openings w v q.1 (when_true (is_assignable w v) w t i) m.1)))))

  pub typed_change : (a : Designation) (o : BinOp) (s : IntType) (e : Meaning) (t : ValueType) → PlaceTyped a → Typed e → of_two (of_one a.ctype written_to) e.ctype (change_type c.program.structures c.program.target o s) ≡ Some t →
      (later : Registers) → Works-in (Value-of t) (bind (place_and_value a e later) (changed_with c a o s later))
  typed_change a o s e t h k f later =
      with_two (Works-in (Value-of t) (bind (place_and_value a e later) (changed_with c a o s later))) (of_one a.ctype written_to) e.ctype (change_type c.program.structures c.program.target o s) t f
      (λ w v g j i. with_one (Works-in (Value-of t) (bind (place_and_value a e later) (changed_with c a o s later))) a.ctype written_to w g
      (λ u x y. as_type w t (bind (place_and_value a e later) (changed_with c a o s later)) (changed_type c.program.structures c.program.target o s w v t i)
      (works_bind Mark-of Step-of (Place-and u v) (Value-of w) (place_and_value a e later) (changed_with c a o s later) (typed_place_and_value a e u v h k x j later)
      (λ q m. typed_changed a u w v x (read_as_written u w y) o s later q m))))

  pub typed_after : (a : Designation) (down : Bool) (t : ValueType) → PlaceTyped a → of_one (of_one a.ctype written_to) (after_type c.program.structures) ≡ Some t → (later : Registers) →
      Works-in (Value-of t) (bind (a.leads later) (stepped_with c a down later))
  typed_after a down t h f later =
      with_one (Works-in (Value-of t) (bind (a.leads later) (stepped_with c a down later))) (of_one a.ctype written_to) (after_type c.program.structures) t f
      (λ w g i. with_one (Works-in (Value-of t) (bind (a.leads later) (stepped_with c a down later))) a.ctype written_to w g
      (λ u x y. as_type w t (bind (a.leads later) (stepped_with c a down later)) (when_is _ w t i)
      (works_bind Mark-of Step-of (Spot-of u) (Value-of w) (a.leads later) (stepped_with c a down later) (h u x later)
      (λ s m. typed_stepped a u w x (read_as_written u w y) down later s m))))

  pub typed_load : (a : Designation) (t : ValueType) → PlaceTyped a → of_one a.ctype read_from ≡ Some t → (later : Registers) → Works-in (Value-of t) (bind (a.leads later) (fetched c a later))
  typed_load a t h f later =
      with_one (Works-in (Value-of t) (bind (a.leads later) (fetched c a later))) a.ctype read_from t f
      (λ u x y. works_bind Mark-of Step-of (Spot-of u) (Value-of t) (a.leads later) (fetched c a later) (h u x later) (λ s m. typed_fetched a u t x y later s m))

  -- to what a place leads whose address is taken
  abbrev pub In-memory : Option Spot → Type 0
  In-memory s = InMemory c.program openings s

  abbrev pub Memory-spot : PlaceType → Option Spot → Type 0
  Memory-spot u s = Spot-of u s × In-memory s

  pub typed_address : (a : Designation) (t : ValueType) → PlaceTyped a → ((later : Registers) (ms rest : List Mark) (s : Option Spot) → a.leads later ms ≡ Known s rest → In-memory s) → of_one a.ctype address_of ≡ Some t → (later : Registers) →
      Works-in (Value-of t) (bind (a.leads later) (λ s. known (address_of_spot s)))
  typed_address a t h k f later =
      with_one (Works-in (Value-of t) (bind (a.leads later) (λ s. known (address_of_spot s)))) a.ctype address_of t f
      (λ u x y. works_bind Mark-of Step-of (Memory-spot u) (Value-of t) (a.leads later) (λ s. known (address_of_spot s)) (works_and Mark-of Step-of (Spot-of u) In-memory (a.leads later) (h u x later) (k later))
      (λ s m. works_known Mark-of Step-of (Value-of t) (address_of_spot s) (may_be_addressed c.program openings u t s m.0.0 m.1 y)))

  -- the value of an operator over one operand
  pub typed_unary : (t r : ValueType) (f : Option Value → Option Value) (a : Meaning) (g : ValueType → Option ValueType) → Typed a → of_one a.ctype g ≡ Some t →
      ((u : ValueType) → g u ≡ Some t → (v : Option Value) → Value-of u v → Value-of t (f v)) → (later : Registers) → Works-in (Value-of t) (from_one f a later)
  typed_unary t r f a g h e k later = with_one (Works-in (Value-of t) (from_one f a later)) a.ctype g t e (λ u x y. typed_one (Value-of t) f a u h x (k u y) later)

  pub typed_binary : (t : ValueType) (f : Option Value → Option Value → Option Value) (a b : Meaning) (g : ValueType → ValueType → Option ValueType) → Typed a → Typed b → of_two a.ctype b.ctype g ≡ Some t →
      ((u w : ValueType) → g u w ≡ Some t → (x y : Option Value) → Value-of u x → Value-of w y → Value-of t (f x y)) → (later : Registers) → Works-in (Value-of t) (from_two f a b later)
  typed_binary t f a b g h k e j later = with_two (Works-in (Value-of t) (from_two f a b later)) a.ctype b.ctype g t e (λ u w x y z. typed_two (Value-of t) f a b u w h k x y (j u w z) later)

  -- a value of the type that a rule gives
  pub value_as : (r t : ValueType) (v : Option Value) → r ≡ t → Value-of r v → Value-of t v
  value_as r t v e h = subst (λ (x : ValueType). Value-of x v) e h

  pub moved_has : (structures : List Structure) (u w t : ValueType) (back : Bool) (x y : Option Value) → rule.moved_type structures u w ≡ Some t → Value-of u x → Value-of t (movement back x y)
  moved_has structures NoValue w t back x y e h = absurd (cc)
  moved_has structures (Integer s) w t back x y e h = absurd (cc)
  moved_has structures (ToFunction sig) w t back x y e h = absurd (cc)
  moved_has structures (ToObject constant volatile to) w t back x y e h =
      value_as (ToObject constant volatile to) t (movement back x y) (when_is _ (ToObject constant volatile to) t e) (has_movement c.program openings constant volatile to back x y h)

  pub assignable_as : (to : Option ValueType) (u t : ValueType) (v : Option Value) → rule.when_assignable to u ≡ Some t → Value-of u v → Value-of t v
  assignable_as None u t v e h = absurd (cc)
  assignable_as (Some to) u t v e h = value_as to t v (when_is (is_assignable to u) to t e) (may_widen c.program openings to u v (when_true (is_assignable to u) to t e) h)

  pub both_level : (pure : Bool) (a b : Meaning) (t : ValueType) → Typed a → Typed b → of_two a.ctype b.ctype rule.logical_type ≡ Some t → (later : Registers) →
      Works-in (Value-of t) (choice pure (a.next (also b.effects.assigned later)) (as_condition b later) (known (Some (Int (pos 0)))))
  both_level pure a b t h k e later =
      with_two (Works-in (Value-of t) (choice pure (a.next (also b.effects.assigned later)) (as_condition b later) (known (Some (Int (pos 0)))))) a.ctype b.ctype rule.logical_type t e
      (λ u w x y z. as_type (Integer int.Int) t (choice pure (a.next (also b.effects.assigned later)) (as_condition b later) (known (Some (Int (pos 0))))) (when_is _ (Integer int.Int) t z)
      (typed_choice u (Integer int.Int) pure (a.next (also b.effects.assigned later)) (as_condition b later) (known (Some (Int (pos 0)))) (h u x (also b.effects.assigned later)) (typed_condition b w k y later)
      (works_known Mark-of Step-of (Value-of (Integer int.Int)) (Some (Int (pos 0))) (promoted_value int.Int c.program.target false))))

  pub either_level : (pure : Bool) (a b : Meaning) (t : ValueType) → Typed a → Typed b → of_two a.ctype b.ctype rule.logical_type ≡ Some t → (later : Registers) →
      Works-in (Value-of t) (choice pure (a.next (also b.effects.assigned later)) (known (Some (Int (pos 1)))) (as_condition b later))
  either_level pure a b t h k e later =
      with_two (Works-in (Value-of t) (choice pure (a.next (also b.effects.assigned later)) (known (Some (Int (pos 1)))) (as_condition b later))) a.ctype b.ctype rule.logical_type t e
      (λ u w x y z. as_type (Integer int.Int) t (choice pure (a.next (also b.effects.assigned later)) (known (Some (Int (pos 1)))) (as_condition b later)) (when_is _ (Integer int.Int) t z)
      (typed_choice u (Integer int.Int) pure (a.next (also b.effects.assigned later)) (known (Some (Int (pos 1)))) (as_condition b later) (h u x (also b.effects.assigned later))
      (works_known Mark-of Step-of (Value-of (Integer int.Int)) (Some (Int (pos 1))) (promoted_value int.Int c.program.target true)) (typed_condition b w k y later)))

  pub chosen_level : (pure : Bool) (d a b : Meaning) (t : ValueType) → Typed d → Typed a → Typed b → of_one d.ctype (λ d. of_two a.ctype b.ctype (rule.choice_type c.program.target d)) ≡ Some t → (later : Registers) →
      Works-in (Value-of t) (choice pure (d.next (also a.effects.assigned (also b.effects.assigned later))) (a.next (also b.effects.assigned later)) (b.next later))
  chosen_level pure d a b t g h k e later =
      with_one (Works-in (Value-of t) (choice pure (d.next (also a.effects.assigned (also b.effects.assigned later))) (a.next (also b.effects.assigned later)) (b.next later)))
      d.ctype (λ d. of_two a.ctype b.ctype (rule.choice_type c.program.target d)) t e
      (λ i f j. with_two (Works-in (Value-of t) (choice pure (d.next (also a.effects.assigned (also b.effects.assigned later))) (a.next (also b.effects.assigned later)) (b.next later)))
      a.ctype b.ctype (rule.choice_type c.program.target i) t j
      (λ u w x y z.
      let r : common_type c.program.target u w ≡ t = when_is _ (common_type c.program.target u w) t z in
      let takes : TakesBoth t u w = subst (λ (q : ValueType). TakesBoth q u w) r (common c.program.target u w) in
      typed_choice i t pure (d.next (also a.effects.assigned (also b.effects.assigned later))) (a.next (also b.effects.assigned later)) (b.next later)
      (g i f (also a.effects.assigned (also b.effects.assigned later)))
      (widened_arm u t (a.next (also b.effects.assigned later)) (common_left c.program openings t u w takes) (h u x (also b.effects.assigned later)))
      (widened_arm w t (b.next later) (common_right c.program openings t u w takes) (k w y later))))

  pub sequence_level : (a b : Meaning) (t : ValueType) → Typed a → Typed b → of_two a.ctype b.ctype (λ a b. Some b) ≡ Some t → (later : Registers) → Works-in (Value-of t) (sequence a b later)
  sequence_level a b t h k e later =
      with_two (Works-in (Value-of t) (sequence a b later)) a.ctype b.ctype (λ a b. Some b) t e
      (λ u w x y z. works_bind Mark-of Step-of (Value-of u) (Value-of t) (a.next (also b.effects.assigned later)) (λ v. needs v (λ i. b.next later)) (h u x (also b.effects.assigned later))
      (λ v m. works_needs Mark-of Step-of (Value-of t) v (λ i. b.next later) (λ i j. as_type w t (b.next later) (same_Some w t z) (k w y later))))

  abbrev pub types_of : List Expr → List (Option ValueType)
  types_of args = map (λ (a : Meaning). a.ctype) (map (meaning c) args)

  abbrev pub call_of : Meaning → List Expr → Registers → Get (Option Value)
  call_of f args later = bind (f.next (also (assigned_by (map (meaning c) args)) later)) (called_with (map (meaning c) args) later)

  pub call_by : (f : Meaning) (args : List Expr) (t : ValueType) (sig : Sig) (b : Bool) → Typed f → Each At args → f.ctype ≡ Some (ToFunction sig) → are_assignable (out-Sig sig).params (types_of args) ≡ b →
      (if b then result_value (out-Sig sig).result else None) ≡ Some t → (later : Registers) → Works-in (Value-of t) (call_of f args later)
  call_by f args t sig true h k e a r later =
      works_bind Mark-of Step-of (Value-of (ToFunction sig)) (Value-of t) (f.next (also (assigned_by (map (meaning c) args)) later)) (called_with (map (meaning c) args) later)
      (h (ToFunction sig) e (also (assigned_by (map (meaning c) args)) later)) (λ v m. typed_called sig t args k a r later v m)
  call_by f args t sig false h k e a r later = absurd (cc)

  pub call_typed : (f : Meaning) (args : List Expr) (t u : ValueType) → Typed f → Each At args → f.ctype ≡ Some u → call_type u (types_of args) ≡ Some t → (later : Registers) → Works-in (Value-of t) (call_of f args later)
  call_typed f args t NoValue h k e r later = absurd (cc)
  call_typed f args t (Integer s) h k e r later = absurd (cc)
  call_typed f args t (ToObject constant volatile to) h k e r later = absurd (cc)
  call_typed f args t (ToFunction sig) h k e r later = call_by f args t sig (are_assignable (out-Sig sig).params (types_of args)) h k e refl r later

  pub call_level : (f : Meaning) (args : List Expr) (t : ValueType) → Typed f → Each At args → of_one f.ctype (λ f. call_type f (types_of args)) ≡ Some t → (later : Registers) → Works-in (Value-of t) (call_of f args later)
  call_level f args t h k e later =
      with_one (Works-in (Value-of t) (call_of f args later)) f.ctype (λ f. call_type f (types_of args)) t e (λ u x y. call_typed f args t u h k x y later)

  -- a null has a pointer type
  pub null_in : (to : CType) (x : shape.Shape-F Shape CType Sig) → Value-of (pointer_shape to x) (Some (Place address.Null))
  null_in to shape.Void = tt
  null_in to (shape.Int i) = tt
  null_in to (shape.Pointer of) = tt
  null_in to (shape.Array of n) = tt
  null_in to (shape.Struct i) = tt
  null_in to (shape.Func sig) = tt

  pub null_pointer : (to : CType) (t : ValueType) → pointer_to to ≡ t → Value-of t (Some (Place address.Null))
  null_pointer to t e = subst (λ (x : ValueType). Value-of x (Some (Place address.Null))) e (null_in to (out-Shape to.shape))

  pub pointer_null : (b : Bool) (x : shape.Shape-F Shape CType Sig) (t : ValueType) → rule.pointer_in b x ≡ Some t → Value-of t (Some (Place address.Null))
  pointer_null b (shape.Pointer to) t e = null_pointer to t (when_is b (pointer_to to) t e)
  pointer_null b shape.Void t e = absurd (cc)
  pointer_null b (shape.Int i) t e = absurd (cc)
  pointer_null b (shape.Array of n) t e = absurd (cc)
  pointer_null b (shape.Struct i) t e = absurd (cc)
  pointer_null b (shape.Func sig) t e = absurd (cc)

  pub void_null : (b : Bool) (x : shape.Shape-F Shape CType Sig) (t : ValueType) → rule.void_pointer_in b x ≡ Some t → Value-of t (Some (Place address.Null))
  void_null b (shape.Pointer to) t e = null_pointer to t (when_is _ (pointer_to to) t e)
  void_null b shape.Void t e = absurd (cc)
  void_null b (shape.Int i) t e = absurd (cc)
  void_null b (shape.Array of n) t e = absurd (cc)
  void_null b (shape.Struct i) t e = absurd (cc)
  void_null b (shape.Func sig) t e = absurd (cc)

  pub first_null : (a b : Option ValueType) (t : ValueType) → rule.first_of a b ≡ Some t → (a ≡ Some t → Value-of t (Some (Place address.Null))) → (b ≡ Some t → Value-of t (Some (Place address.Null))) → Value-of t (Some (Place address.Null))
  first_null None b t e h k = k e
  first_null (Some a) b t e h k = h e

  pub null_has : (u : CType) (t : ValueType) → null_type c.program u ≡ Some t → Value-of t (Some (Place address.Null))
  null_has u t e = first_null (rule.void_pointer_in (rule.is_unqualified u) (out-Shape u.shape)) (pointer_type c.program u) t e
      (λ h. void_null (rule.is_unqualified u) (out-Shape u.shape) t h) (λ h. pointer_null _ (out-Shape u.shape) t h)

  pub function_at : (f : ℕ) (t : ValueType) (x : Option Func) → slice_get c.program.funcs f ≡ x → function_type x ≡ Some t → Value-of t (Some (Place (address.Func f)))
  function_at f t None g e = absurd (cc)
  function_at f t (Some func) g e =
      let k : ToFunction func.sig ≡ t = when_is (not (rule.is_handler func)) (ToFunction func.sig) t e in
      value_as (ToFunction func.sig) t (Some (Place (address.Func f))) k
      (ap (λ (y : Option Func). is_assignable_some (Some (ToFunction func.sig)) (function_type y)) g ∙ ap (λ (y : Option ValueType). is_assignable_some (Some (ToFunction func.sig)) y) (e ∙ ap (λ (y : ValueType). Some y) (sym k)) ∙ function_itself func.sig)

  pub function_has : (f : ℕ) (t : ValueType) → function_type (slice_get c.program.funcs f) ≡ Some t → Value-of t (Some (Place (address.Func f)))
  function_has f t e = function_at f t (slice_get c.program.funcs f) refl e

  -- ---- a whole object whose address is taken

  -- of a place that is a local, that is taken in the function
  abbrev pub OwnTaken : one.Place-F Meaning Designation → Type 0
  OwnTaken (one.Local r) = is_addressed c.func r ≡ true
  OwnTaken (one.Static i) = Unit {0}
  OwnTaken (one.Device d) = Unit {0}
  OwnTaken (one.Element a i) = Unit {0}
  OwnTaken (one.Member a m) = Unit {0}
  OwnTaken (one.Deref e) = Unit {0}

  pub root_of : (s : Option Spot) (object other : Root) (ms rest : List Mark) → Known (Some (spot.Object object [])) ms ≡ Known s rest → s ≡ Some (spot.Object other []) → object ≡ other
  root_of s object other ms rest e f = cc

  pub no_object : (x : Option Address) → In-memory (option_map spot.Address x)
  no_object None object e = absurd (cc)
  no_object (Some a) object e = absurd (cc)

  pub no_element : (bound : Option ℕ) (n : ℤ) (x : Option (Root × List Part)) → In-memory (option_and_then (element_in bound n) x)
  no_element bound n None object e = absurd (cc)
  no_element None n (Some o) object e = absurd (cc)
  no_element (Some count) n (Some o) object e = no_object (element_at_address o.0 o.1 n count) object e

  pub element_apart : (t : Option PlaceType) (s : Option Spot) (v : Option Value) → In-memory (element_at c t s v)
  element_apart None s v object e = absurd (cc)
  element_apart (Some t) None v object e = absurd (cc)
  element_apart (Some t) (Some s) v object e = by_number (integer v) object e
    where
      by_number : (n : Option ℤ) → In-memory (option_and_then (λ n. element c.program n t s) n)
      by_number None object e = absurd (cc)
      by_number (Some n) object e = no_element (bound_of t) n (designated c.program t s) object e

  pub longer : (path : List Part) (step : Part) → path ++ step ∷ [] ≡ [] → ⊥
  longer [] step e = absurd (cc)
  longer (x ∷ path) step e = absurd (cc)

  pub no_member : (m : ℕ) (x : Option (Root × List Part)) → In-memory (option_map (λ o. spot.Object o.0 (o.1 ++ part.Member m ∷ [])) x)
  no_member m None object e = absurd (cc)
  no_member m (Some o) object e = let same : o.1 ++ part.Member m ∷ [] ≡ [] = cc in absurd (longer o.1 (part.Member m) same)

  pub member_apart : (m : ℕ) (t : Option PlaceType) (s : Option Spot) → In-memory (of_two t s (member c.program m))
  member_apart m None s object e = absurd (cc)
  member_apart m (Some t) None object e = absurd (cc)
  member_apart m (Some t) (Some s) object e = no_member m (designated c.program t s) object e

  pub leads_in_memory : (x : one.Place-F Meaning Designation) → OwnTaken x → (later : Registers) (ms rest : List Mark) (s : Option Spot) → (place_meaning c x).leads later ms ≡ Known s rest → In-memory s
  leads_in_memory (one.Local r) own later ms rest s e object f =
      subst (IsInMemory c.program) (root_of s (root.Auto c.number c.id r) object ms rest e f) (ap (λ (g : Option Func). is_register_in g r) here.function ∙ addressed_in_memory c.program c.func r own)
  leads_in_memory (one.Static i) own later ms rest s e object f = subst (IsInMemory c.program) (root_of s (root.Static i) object ms rest e f) tt
  leads_in_memory (one.Device d) own later ms rest s e object f = absurd (cc)
  leads_in_memory (one.Element a i) own later ms rest s e object f = gives_made In-memory (place_and_value a i later) (λ q. element_at c a.ctype q.0 q.1) (λ q. element_apart a.ctype q.0 q.1) ms rest s e object f
  leads_in_memory (one.Member a m) own later ms rest s e object f = gives_made In-memory (a.leads later) (λ s. of_two a.ctype s (member c.program m)) (λ s. member_apart m a.ctype s) ms rest s e object f
  leads_in_memory (one.Deref a) own later ms rest s e object f = gives_made In-memory (a.next later) (λ v. option_map spot.Address (address_in v)) (λ v. no_object (address_in v)) ms rest s e object f

  -- an address that an expression takes
  abbrev pub AddressTaken : one.Expr-F Expr PlaceOf → Type 0
  AddressTaken x = (a : PlaceOf) → x ≡ one.AddrOf a → (r : ℕ) → out-Place a ≡ one.Local r → is_addressed c.func r ≡ true

  pub own_taken : (a : PlaceOf) (x : one.Place-F Expr PlaceOf) → out-Place a ≡ x → ((r : ℕ) → out-Place a ≡ one.Local r → is_addressed c.func r ≡ true) → OwnTaken (map-Place Expr PlaceOf Meaning Designation (meaning c) (designation c) x)
  own_taken a (one.Local r) e h = h r e
  own_taken a (one.Static i) e h = tt
  own_taken a (one.Device d) e h = tt
  own_taken a (one.Element b i) e h = tt
  own_taken a (one.Member b m) e h = tt
  own_taken a (one.Deref b) e h = tt

  pub place_in_memory : (a : PlaceOf) → ((r : ℕ) → out-Place a ≡ one.Local r → is_addressed c.func r ≡ true) → (later : Registers) (ms rest : List Mark) (s : Option Spot) → (designation c a).leads later ms ≡ Known s rest → In-memory s
  place_in_memory a h later ms rest s e =
      leads_in_memory (map-Place Expr PlaceOf Meaning Designation (meaning c) (designation c) (out-Place a)) (own_taken a (out-Place a) refl h) later ms rest s (ap (λ (d : Designation). d.leads later ms) (sym (place_level c (out-Place a)) ∙ ap (designation c) (roll-out-Place a)) ∙ e)

  pub typed_level : (x : one.Expr-F Expr PlaceOf) → Parts At PlaceAt x → AddressTaken x → Typed (opened c x)
  typed_level (one.Const n i) h k t e later =
      works_known Mark-of Step-of (Value-of t) (Some (Int n)) (value_as (Integer i) t (Some (Int n)) (when_is _ (Integer i) t e) (when_true _ (Integer i) t e))
  typed_level (one.Null u) h k t e later = works_known Mark-of Step-of (Value-of t) (Some (Place address.Null)) (null_has u t e)
  typed_level (one.FuncAddr f) h k t e later = works_known Mark-of Step-of (Value-of t) (Some (Place (address.Func f))) (function_has f t e)
  typed_level (one.Load a) h k t e later = typed_load (designation c a) t h e later
  typed_level (one.AddrOf a) h k t e later = typed_address (designation c a) t h (place_in_memory a (k a refl)) e later
  typed_level (one.Un o i a) h k t e later =
      typed_unary t t (unary o i c.program.target) (meaning c a) (rule.unary_type c.program.target o i) h e
      (λ u f v m. value_as (Integer (rule.unary_result o i)) t (unary o i c.program.target v) (when_is _ (Integer (rule.unary_result o i)) t f) (has_unary c.program openings o i v)) later
  typed_level (one.Bin o i a b) h k t e later =
      typed_binary t (binary o i c.program.target) (meaning c a) (meaning c b) (rule.binary_type c.program.target o i) h.0 h.1 e
      (λ u w f v y m n. value_as (Integer (rule.binary_result o i)) t (binary o i c.program.target v y) (when_is _ (Integer (rule.binary_result o i)) t f) (has_binary c.program openings o i v y)) later
  typed_level (one.Conv i a) h k t e later =
      typed_unary t t (conversion i c.program.target) (meaning c a) (rule.conversion_type i) h e
      (λ u f v m. value_as (Integer i) t (conversion i c.program.target v) (when_is _ (Integer i) t f) (has_conversion c.program openings i v)) later
  typed_level (one.Qualify to a) h k t e later =
      typed_unary t t (λ v. v) (meaning c a) (qualified_type c.program to) h e (λ u f v m. assignable_as (pointer_type c.program to) u t v f m) later
  typed_level (one.Move a b back) h k t e later =
      typed_binary t (movement back) (meaning c a) (meaning c b) (rule.moved_type c.program.structures) h.0 h.1 e (λ u w f v y m n. moved_has c.program.structures u w t back v y f m) later
  typed_level (one.Gap a b) h k t e later =
      typed_binary t (gap c.program.target) (meaning c a) (meaning c b) (rule.gap_type c.program.structures c.program.target) h.0 h.1 e
      (λ u w f v y m n. value_as (Integer (rule.difference_type c.program.target)) t (gap c.program.target v y) (when_is _ (Integer (rule.difference_type c.program.target)) t f) (has_gap c.program openings v y)) later
  typed_level (one.Compare o a b) h k t e later =
      typed_binary t (comparison o) (meaning c a) (meaning c b) (rule.comparison_type o) h.0 h.1 e
      (λ u w f v y m n. value_as (Integer int.Int) t (comparison o v y) (when_is _ (Integer int.Int) t f) (has_comparison c.program openings o v y)) later
  typed_level (one.Both a b) h k t e later = both_level _ (meaning c a) (meaning c b) t h.0 h.1 e later
  typed_level (one.Either a b) h k t e later = either_level _ (meaning c a) (meaning c b) t h.0 h.1 e later
  typed_level (one.Choose d a b) h k t e later = chosen_level _ (meaning c d) (meaning c a) (meaning c b) t h.0 h.1 h.2 e later
  typed_level (one.Assign a e) h k t f later = typed_assigned (designation c a) (meaning c e) t h.0 h.1 f later
  typed_level (one.Change a o i e) h k t f later = typed_change (designation c a) o i (meaning c e) t h.0 h.1 f later
  typed_level (one.After a down) h k t e later = typed_after (designation c a) down t h e later
  typed_level (one.Call f args) h k t e later = call_level (meaning c f) args t h.0 h.1 e later
  typed_level (one.Intr intr.Off None) h k t e later = flags false t (same_Some NoValue t e)
  typed_level (one.Intr intr.Off (Some a)) h k t e later = absurd (cc)
  typed_level (one.Intr intr.On None) h k t e later = flags true t (same_Some NoValue t e)
  typed_level (one.Intr intr.On (Some a)) h k t e later = absurd (cc)
  typed_level (one.Intr intr.Save None) h k t e later = saves t (same_Some (Integer int.UChar) t e)
  typed_level (one.Intr intr.Save (Some a)) h k t e later = absurd (cc)
  typed_level (one.Intr intr.Restore None) h k t e later = absurd (cc)
  typed_level (one.Intr intr.Restore (Some a)) h k t e later =
      restored_rule (Works-in (Value-of t) (restored (Some (meaning c a)) later)) (meaning c a).ctype t e (λ u x y. restores (meaning c a) u t h x y later)
  typed_level (one.Seq a b) h k t e later = sequence_level (meaning c a) (meaning c b) t h.0 h.1 e later

  -- ---- places

  pub device_typed : (d : ℕ) (u : PlaceType) (x : Option Device) → slice_get c.program.devices d ≡ x → option_map (λ d. DevicePlace d.constant d.int) x ≡ Some u → Spot-of u (Some (spot.Device d))
  device_typed d u None f e = absurd (cc)
  device_typed d u (Some device) f e =
      subst (λ (y : PlaceType). Spot-of y (Some (spot.Device d))) (same_Some (DevicePlace device.constant device.int) u e) (ap (option_map (λ (d : Device). d.int)) f, tt)

  pub static_typed : (i : ℕ) (u : PlaceType) → option_map (λ o. object_place o.ctype) (slice_get c.program.objects i) ≡ Some u → Spot-of u (Some (spot.Object (root.Static i) []))
  static_typed i u e =
      let o = mapped (λ o. object_place o.ctype) (slice_get c.program.objects i) u e in
      subst (λ (y : PlaceType). Spot-of y (Some (spot.Object (root.Static i) []))) o.2 (whole_object c.program openings (root.Static i) o.0.ctype tt (e ∙ ap (λ (y : PlaceType). Some y) (sym o.2)), tt)

  pub local_typed : (r : ℕ) (u : PlaceType) → option_map (λ l. object_place l.1) (slice_get c.func.locals r) ≡ Some u → Spot-of u (Some (spot.Object (root.Auto c.number c.id r) []))
  local_typed r u e =
      let l = mapped (λ l. object_place l.1) (slice_get c.func.locals r) u e in
      subst (λ (y : PlaceType). Spot-of y (Some (spot.Object (root.Auto c.number c.id r) []))) l.2
      (whole_object c.program openings (root.Auto c.number c.id r) l.0.1 here.number (ap (local_type r) here.function ∙ e ∙ ap (λ (y : PlaceType). Some y) (sym l.2)), inl refl)

  pub subscript_by : (a : PlaceType) (u : PlaceType) (b : Bool) → (if b then element_of a else None) ≡ Some u → element_of a ≡ Some u
  subscript_by a u true e = e
  subscript_by a u false e = absurd (cc)

  pub element_typed : (a : Designation) (i : Meaning) (u : PlaceType) → PlaceTyped a → Typed i → of_two a.ctype i.ctype rule.subscript_type ≡ Some u → (later : Registers) →
      Works-in (Spot-of u) (bind (place_and_value a i later) (λ q. known (element_at c a.ctype q.0 q.1)))
  element_typed a i u h k e later =
      with_two (Works-in (Spot-of u) (bind (place_and_value a i later) (λ q. known (element_at c a.ctype q.0 q.1)))) a.ctype i.ctype rule.subscript_type u e
      (λ w t x y z. works_bind Mark-of Step-of (Place-and w t) (Spot-of u) (place_and_value a i later) (λ q. known (element_at c a.ctype q.0 q.1)) (typed_place_and_value a i w t h k x y later)
      (λ q m. works_known Mark-of Step-of (Spot-of u) (element_at c a.ctype q.0 q.1)
      (subst (λ (v : Option PlaceType). Spot-of u (element_at c v q.0 q.1)) (sym x) (may_lead_element c.program openings w u q.0 q.1 m.0.0 (subscript_by w u (is_integer t) z), element_reached c (Some w) q.0 q.1))))

  pub member_typed : (a : Designation) (m : ℕ) (u : PlaceType) → PlaceTyped a → of_one a.ctype (member_of c.program.structures m) ≡ Some u → (later : Registers) →
      Works-in (Spot-of u) (bind (a.leads later) (λ s. known (of_two a.ctype s (member c.program m))))
  member_typed a m u h e later =
      with_one (Works-in (Spot-of u) (bind (a.leads later) (λ s. known (of_two a.ctype s (member c.program m))))) a.ctype (member_of c.program.structures m) u e
      (λ w x y. works_bind Mark-of Step-of (Spot-of w) (Spot-of u) (a.leads later) (λ s. known (of_two a.ctype s (member c.program m))) (h w x later)
      (λ s n. works_known Mark-of Step-of (Spot-of u) (of_two a.ctype s (member c.program m))
      (subst (λ (v : Option PlaceType). Spot-of u (of_two v s (member c.program m))) (sym x) (may_lead_member c.program openings w u m s n.0 y, member_reached c.program c.number openings w m s n.0 n.1))))

  pub pointed_typed : (e : Meaning) (u : PlaceType) → Typed e → of_one e.ctype pointed_to ≡ Some u → (later : Registers) → Works-in (Spot-of u) (from_one (λ v. option_map spot.Address (address_in v)) e later)
  pointed_typed e u h f later =
      with_one (Works-in (Spot-of u) (from_one (λ v. option_map spot.Address (address_in v)) e later)) e.ctype pointed_to u f
      (λ t x y. typed_one (Spot-of u) (λ v. option_map spot.Address (address_in v)) e t h x (λ v m. (points c.program openings t u v m y, address_spot c.program c.number (address_in v))) later)

  pub place_typed_level : (x : one.Place-F Expr PlaceOf) → PlaceParts At PlaceAt x → PlaceTyped (place_opened c x)
  place_typed_level (one.Local r) h u e later = works_known Mark-of Step-of (Spot-of u) (Some (spot.Object (root.Auto c.number c.id r) [])) (local_typed r u e)
  place_typed_level (one.Static i) h u e later = works_known Mark-of Step-of (Spot-of u) (Some (spot.Object (root.Static i) [])) (static_typed i u e)
  place_typed_level (one.Device d) h u e later = works_known Mark-of Step-of (Spot-of u) (Some (spot.Device d)) (device_typed d u (slice_get c.program.devices d) refl e)
  place_typed_level (one.Element a i) h u e later = element_typed (designation c a) (meaning c i) u h.0 h.1 e later
  place_typed_level (one.Member a m) h u e later = member_typed (designation c a) m u h e later
  place_typed_level (one.Deref e) h u f later = pointed_typed (meaning c e) u h f later

  abbrev pub Claim : Expr → Type 0
  Claim e = IfTaken c.func At PlaceAt e

  abbrev pub PlaceClaim : PlaceOf → Type 0
  PlaceClaim a = PlaceIfTaken c.func At PlaceAt a

  pub made : (x : one.Expr-F Expr PlaceOf) → Parts Claim PlaceClaim x → Claim (roll-Expr x)
  made x h k =
      let own = rolled_takes c.func At PlaceAt x k in
      subst Typed (sym (level c x)) (typed_level x (parts_at c.func At PlaceAt x h own) (λ a e r f. local_taken c.func At PlaceAt a r f (subst (λ (y : one.Expr-F Expr PlaceOf). TakesOwn c.func At PlaceAt (expr_takes c.func At PlaceAt y)) e own)))

  pub place_made : (x : one.Place-F Expr PlaceOf) → PlaceParts Claim PlaceClaim x → PlaceClaim (roll-Place x)
  place_made x h k = subst PlaceTyped (sym (place_level c x)) (place_typed_level x (place_parts_at c.func At PlaceAt x h (rolled_place_takes c.func At PlaceAt x k)))

  pub meaning_typed : (e : Expr) → TakesAddressesOf c.func e → Typed (meaning c e)
  meaning_typed = by_expr Claim PlaceClaim made place_made

  pub designation_typed : (a : PlaceOf) → PlaceTakesAddressesOf c.func a → PlaceTyped (designation c a)
  designation_typed = by_place Claim PlaceClaim made place_made
