-- What stands in the sets of registers is no address of a tracked object, so places lead to tracked objects by their names alone.
use Rattle.std.proofs.Common.{◌≡◌, ◌<◌, ◌^◌, ℕ, Bool, true, false, List, [], ◌∷◌, map, Contains, Option, Some, None, refl, ap, sym, ◌∙◌, subst, slice_get}
use Rattle.std.specs.Prelude.{is_some, option_map, option_and_then}
use Rattle.std.proofs.lemmas.Bool.{or_left}
use Rattle.std.proofs.lemmas.Option.{same_Some}
use Rattle.cc_state_values_sound.proofs.CcEval.Links.{place_type_linked, place_effects_linked}
use Rattle.cc_state_values_sound.specs.CcEval.Context.{Context, object_type}
use Rattle.cc_rules.specs.CcFlow.declared.types.Point.{Point}
use Rattle.cc_rules.specs.CcFlow.Points.{count_of, flow_of}
use Rattle.cc_state_values_sound.specs.CcPlaces.declared.abs.Abs.{Abs}
use Rattle.cc_state_values_sound.specs.CcPlaces.declared.abs.Abs.TheVariants as abs
use Rattle.cc_state_values_sound.specs.CcPlaces.declared.addrs.Addrs.{Addrs}
use Rattle.cc_state_values_sound.specs.CcPlaces.Kept.{starred_part, member_for}
use Rattle.cc_program.specs.declared.expr.Place.{Place as PlaceOf}
use Rattle.cc_program.specs.declared.func.Func.{Func}
use Rattle.cc_program.specs.declared.object.Object.{Object}
use Rattle.cc_program.specs.declared.program.Program.{Program}
use Rattle.cc_program.specs.declared.types.CType.{CType}
use Rattle.cc_program.specs.declared.value.Address.{Address}
use Rattle.cc_program.specs.declared.value.Address.TheVariants as address
use Rattle.cc_program.specs.declared.value.Part.{Part}
use Rattle.cc_program.specs.declared.value.Root.{Root}
use Rattle.cc_program.specs.declared.value.Root.TheVariants as root
use Rattle.cc_program.specs.declared.value.Value.{Value}
use Rattle.cc_program.specs.declared.value.Value.TheVariants.{Int, Place}
use Rattle.cc_proof_covers.specs.Rules.{IsHere}
use Rattle.cc_proof_rules.proofs.Apart.{IsFree, Clean, place_apart}
use Rattle.cc_proof_rules.proofs.Keys.{key_end}
use Rattle.cc_proof_rules.proofs.Leads.{AreApart, typed_marks}
use Rattle.cc_proof_rules.proofs.Marks.{opened}
use Rattle.cc_proof_rules.proofs.Numbered.{register_numbered, register_below, tracked_scalar}
use Rattle.cc_proof_rules.proofs.Operands.{its_point}
use Rattle.cc_proof_rules.proofs.TakenKeys.{untaken}
use Rattle.cc_proof_rules.specs.Operands.{root_static}
use Rattle.cc_state.specs.Shape.{object_ctype, is_scalar_type, IsSlot, MayPoint, HoldsPointers, IsSetIn, IsPointFact, HaveShape}
use Rattle.cc_state.specs.View.{view}
use Rattle.cc_rules.specs.CcStateFacts.declared.facts.Facts.{Facts}
use Rattle.cc_rules.specs.CcStateFacts.declared.facts.Key.{Key}
use Rattle.cc_rules.specs.CcStateFacts.declared.facts.Key.TheVariants as key
use Rattle.cc_rules.specs.CcStateFacts.declared.facts.PointFact.{PointFact}
use Rattle.cc_rules.specs.CcStateFacts.Facts.{fact_at, local_at, local_of}
use Rattle.cc_rules.specs.CcStateKeys.Addressed.{in_place, IsAddressed}
use Rattle.cc_rules.specs.CcStateKeys.Keys.{cell_key}
use Rattle.cc_rules.specs.CcStateKeys.Tracked.{tracked_number}
use Rattle.cc_state_values_sound.specs.CcStateOperators.Domains.{Domain}
use Rattle.cc_rules.specs.CcStateReads.Reads.{registers_at}
use Rattle.cc_state_values_sound.proofs.Choices.{GivesAll}
use Rattle.cc_state_values_sound.specs.Steps.{MayGive}
use Rattle.cc_state_values_sound.specs.CcStates.Answers.{PlaceTakesAddressesOf}
use Rattle.cc_state_values_sound.specs.CcStates.States.{context_in}
use Rattle.cc_state_values_sound.proofs.CcSteps.ScalarPlaces.{scalar_flat}
use Rattle.cc_state_values_sound.specs.CcSteps.State.{Active, Memory}
use Rattle.cc_state_values_sound.specs.CcSyntax.Effects.{Registers, no_one, PlaceEffects, place_effects_of}
use Rattle.cc_state_values_sound.specs.CcSyntax.Expressions.{of_one}
use Rattle.cc_state_values_sound.specs.CcSyntax.Initial.{place_at, names}
use Rattle.cc_state_values_sound.specs.CcSyntax.Normal.{IsNormal}
use Rattle.cc_state_values_sound.specs.CcSyntax.Registers.{is_register}
use Rattle.cc_state_values_sound.specs.CcSyntax.Values.{ValueType, NoValue, Integer, ToObject, ToFunction, PlaceType, object_place, scalar_value}

-- ---- addresses that may stand in sets

module _ (p : Program) where
  named_some : (to : ValueType) (path : List Part) (index count : ℕ) (x : Option PlaceType) → names to path index count x ≡ true → (a : PlaceType) × (x ≡ Some a)
  named_some to path index count None h = absurd (cc)
  named_some to path index count (Some a) h = (a, refl)

  -- a scalar has no parts
  no_parts : (t : CType) → is_some (scalar_value t) ≡ true → (path : List Part) (a : PlaceType) → place_at p.structures path (object_place t) ≡ Some a → path ≡ []
  no_parts t scalar [] a h = refl
  no_parts t scalar (step ∷ path) a h =
      absurd (let z : None ≡ Some a = sym (ap (λ (x : Option PlaceType). of_one x (place_at p.structures path)) ((scalar_flat p.structures t scalar).parts step)) ∙ h in cc)

  static_free : (to : ValueType) (i : ℕ) (path : List Part) (index count : ℕ) → MayPoint p to (address.At (root.Static i) path index count) → (number : ℕ) → tracked_number p i ≡ Some number → ⊥
  static_free to i path index count may number k =
      let o = tracked_scalar p i number k in
      let there : object_type p (root.Static i) ≡ Some (object_place o.object.ctype) = ap (option_map (λ (x : Object). object_place x.ctype)) o.there in
      let a = named_some to path index count (of_one (object_type p (root.Static i)) (place_at p.structures path)) may.0 in
      let empty : path ≡ [] = no_parts o.object.ctype o.scalar path a.0 (ap (λ (x : Option PlaceType). of_one x (place_at p.structures path)) (sym there) ∙ a.1) in
      let key_is : cell_key p (root.Static i) path ≡ key.Object i = ap (cell_key p (root.Static i)) empty ∙ key_end p.structures (object_type p (root.Static i)) (key.Object i) in
      let slot : IsSlot p (key.Object i) = (o.object.ctype, ap object_ctype o.there, or_left (is_scalar_type o.object.ctype) _ o.scalar) in
      untaken p i number k (subst (IsAddressed p) key_is (may.1 (subst (IsSlot p) (sym key_is) slot)))

  one_static : (object : Root) (i : ℕ) → root_static object ≡ Some i → object ≡ root.Static i
  one_static (root.Static j) i e = ap (λ (z : ℕ). root.Static z) (same_Some j i e)
  one_static (root.Auto number g r) i e = absurd (cc)

  at_free : (exact : Bool) (to : ValueType) (object : Root) (path : List Part) (index count : ℕ) → MayPoint p to (member_for exact (address.At object path index count)) → (i number : ℕ) → object ≡ root.Static i → tracked_number p i ≡ Some number → ⊥
  at_free true to object path index count may i number e k =
      static_free to i path index count (subst (λ (o : Root). MayPoint p to (member_for true (address.At o path index count))) e may) number k
  at_free false to object path index count may i number e k =
      static_free to i (map starred_part path) 0 count (subst (λ (o : Root). MayPoint p to (member_for false (address.At o path index count))) e may) number k

  member_free : (exact : Bool) (to : ValueType) (a : Address) → MayPoint p to (member_for exact a) → IsFree p a
  member_free exact to address.Null may i number e k = absurd (cc)
  member_free exact to (address.Func g) may i number e k = absurd (cc)
  member_free exact to (address.At object path index count) may i number e k = at_free exact to object path index count may i number (one_static object i e) k

  holds_free : (t : ValueType) (s : Addrs) → HoldsPointers p t s → (a : Address) → Contains s.members (member_for s.is_exact a) → IsFree p a
  holds_free NoValue s h a c = absurd h
  holds_free (Integer t) s h a c = absurd h
  holds_free (ToObject constant volatile to) s h a c = member_free s.is_exact (ToObject constant volatile to) a (h (member_for s.is_exact a) c)
  holds_free (ToFunction sig) s h a c = member_free s.is_exact (ToFunction sig) a (h (member_for s.is_exact a) c)

  pub set_clean : {I : Type 0} (d : Domain I) (t : ValueType) (y : Abs I) → IsSetIn p d t y → (v : Option Value) → MayGive d.has y v → Clean p v
  set_clean d t y h None k = tt
  set_clean d t y h (Some (Int n)) k = tt
  set_clean d t (abs.Ints x) h (Some (Place a)) k = absurd k
  set_clean d t (abs.Addrs s) h (Some (Place a)) k = holds_free t s h a k

-- ---- at a point

module _ {I : Type 0} (d : Domain I) (all : GivesAll d) (p : Program) (normal : IsNormal p) (few : count_of p < 2 ^ 32) (facts : Facts I) (shape : HaveShape d p facts) (n : ℕ) (q : Point) (f : Func) (fact : PointFact I)
    (numbered : slice_get (flow_of p).points n ≡ Some q) (function : slice_get p.funcs q.func ≡ Some f) (there : fact_at facts n ≡ Some fact) where
  listed : (o : Option (Option (PointFact I))) → slice_get facts.at n ≡ o → option_and_then (λ (x : Option (PointFact I)). x) o ≡ Some fact → slice_get facts.at n ≡ Some (Some fact)
  listed None e h = absurd (cc)
  listed (Some x) e h = e ∙ ap Some h

  its_shape : IsPointFact d p f fact
  its_shape = shape.point_facts n fact q f (listed (slice_get facts.at n) refl there) numbered function

  abbrev register : ℕ → Option (Abs I)
  register = registers_at facts f n

  abbrev IsSetOf-register : ℕ → Type 0
  IsSetOf-register r = (t : ValueType) × (y : Abs I) × (register r ≡ Some y) × IsSetIn p d t y

  register_set : (r : ℕ) → is_register f r ≡ true → IsSetOf-register r
  register_set r h =
      let number = register_numbered f r h in
      let set = its_shape.locals.there number.0 (register_below f r number.0 number.1) in
      (set.0, set.1, ap (option_and_then (local_at facts n)) number.1 ∙ ap (option_and_then (λ (x : PointFact I). local_of x number.0)) there ∙ set.2.1, set.2.2)

  sets_there : (r : ℕ) → is_register f r ≡ true → (y : Abs I) × (register r ≡ Some y)
  sets_there r h = let w = register_set r h in (w.1, w.2)

  sets_clean : (r : ℕ) (y : Abs I) → is_register f r ≡ true → register r ≡ Some y → (v : Option Value) → MayGive d.has y v → Clean p v
  sets_clean r y h e v k =
      let w = register_set r h in
      set_clean p d w.0 y (subst (IsSetIn p d w.0) (same_Some w.1 y (sym w.2 ∙ e)) w.3) v k

  module _ (m : Memory) (a : Active) (own : a.func ≡ q.func) (here : IsHere p (view d p facts) m a f n) (b : PlaceOf) (pure : (place_effects_of f b).pure no_one ≡ true) (register_none : (place_effects_of f b).register ≡ None) (taken : PlaceTakesAddressesOf f b)
      (text : (k : Key) → Contains (in_place p q.func f b).taken k → IsAddressed p k) (later : Registers) where
    abbrev c : Context
    c = context_in p a f

    own_text : (k : Key) → Contains (in_place p a.func f b).taken k → IsAddressed p k
    own_text = subst (λ (i : ℕ). (k : Key) → Contains (in_place p i f b).taken k → IsAddressed p k) (sym own) text

    pub kept_apart : AreApart d all p normal few facts n q f numbered function m a own here b pure register_none taken later
    kept_apart ms rest spot answers known u typed i number e k =
        ((place_apart d all c here.openings (opened d all p facts n f (its_point d all p normal few facts n q f numbered function) m a here) register sets_there sets_clean b no_one (ap (λ (z : PlaceEffects). z.pure no_one) (place_effects_linked c b) ∙ pure) own_text u
        (place_type_linked c b ∙ typed) later).known ms rest spot (typed_marks d all p normal few facts n q f numbered function m a own here b pure register_none taken later ms rest spot answers known) known).1 i number e k
