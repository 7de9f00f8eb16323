-- What rules of types, marks, accesses and calls give, each in its type.
use Rattle.std.proofs.Common.{◌≡◌, ℕ, Bool, true, false, not, ◌&&◌, ◌||◌, ◌⊎◌, inl, inr, List, [], ◌∷◌, Option, Some, None, refl, ap, sym, ◌∙◌, subst}
use Rattle.std.proofs.lemmas.Option.{same_Some}
use Rattle.std.specs.Prelude.{option_map, slice_get, nat_eq, nat_le, if◌then◌else◌}
use Rattle.cc_program.specs.CcNum.declared.int_type.IntType.{IntType}
use Rattle.cc_program.specs.CcNum.declared.op.BinOp.{BinOp}
use Rattle.cc_program.specs.CcNum.declared.target.Target.{Target}
use Rattle.cc_program.specs.Qualifiers.{is_const, is_volatile}
use Rattle.cc_program.specs.declared.func.Func.{Func}
use Rattle.cc_program.specs.declared.program.Program.{Program}
use Rattle.cc_program.specs.declared.types.CType.{CType}
use Rattle.cc_program.specs.declared.types.Sig.{Sig, out-Sig}
use Rattle.cc_program.specs.declared.types.Structure.{Structure}
use Rattle.cc_program.specs.declared.value.Address.{Address}
use Rattle.cc_program.specs.declared.value.Address.TheVariants as address
use Rattle.cc_program.specs.declared.value.Cell.{Cell}
use Rattle.cc_program.specs.declared.value.Part.{Part}
use Rattle.cc_program.specs.declared.value.Root.{Root}
use Rattle.cc_program.specs.declared.value.Value.{Value}
use Rattle.cc_program.specs.declared.value.Value.TheVariants.{Int, Place}
use Rattle.cc_steps.specs.CcEval.declared.action.Action.{Action}
use Rattle.cc_steps.specs.CcEval.declared.action.Action.TheVariants as action
use Rattle.cc_steps.specs.CcEval.declared.mark.Mark.{Mark}
use Rattle.cc_steps.specs.CcEval.declared.mark.Mark.TheVariants.{Gave, Did, Chose}
use Rattle.cc_steps.specs.CcEval.declared.spots.Spot.{Spot}
use Rattle.cc_steps.specs.CcEval.declared.spots.Spot.TheVariants as spot
use Rattle.cc_steps.specs.CcEval.Context.{object_type, reached}
use Rattle.cc_steps.specs.CcEval.Eval.{in_front, all_good, is_back, changed, address_of as address_of_spot}
use Rattle.cc_steps.specs.CcEval.Progress.{given}
use Rattle.cc_steps.specs.CcSyntax.Expressions.{of_one}
use Rattle.cc_steps.specs.CcSyntax.Initial.{leads_to_element, names, names_element, names_whole}
use Rattle.cc_steps.specs.CcSyntax.Operators as rule
use Rattle.cc_steps.specs.CcSyntax.Operators.{when, constant_type, function_type, common_type, change_type, after_type, call_type, is_promoted, is_integer, is_of}
use Rattle.cc_steps.specs.CcSyntax.SameTypes.{same_int, same_sig, alike}
use Rattle.cc_steps.specs.CcSyntax.Values.{ValueType, NoValue, Integer, ToObject, ToFunction, PlaceType, DevicePlace, ObjectPlace, FunctionPlace, scalar_value, result_value, object_place, is_void, read_from, written_to, address_of, pointed_to, implies, is_assignable, is_assignable_some}
use Rattle.cc_steps.proofs.CcSyntax.Prefixes.{both_true}
use Rattle.cc_steps.specs.CcValues.Values.{address_in, binary, conversion}
use Rattle.cc_states.specs.Answers.{IsCall, IsMarkOf, given_type, result_in}
use Rattle.cc_states.specs.Typed.{IsOpened, IsInMemory, place_in, IsAddress, HasType, MayHave, IsSpot, MayLead, cell_type, IsThere, AreArguments}
use Rattle.cc_steps.proofs.CcSyntax.AlikeLemmas.{alike_itself, implies_itself, assignable_object, function_itself}
use Rattle.cc_states.proofs.Options.{when_is, right_true}
use Rattle.cc_steps.proofs.CcSyntax.SameLemmas.{and_true, int_itself, sig_compared}
use Rattle.cc_states.proofs.MemoryLemmas.{part_in_memory}
use Rattle.cc_states.proofs.SpotLemmas.{cell_there}
use Rattle.cc_states.proofs.PlaceLemmas.{CanPoint, real}
use Rattle.cc_states.proofs.TypedLemmas.{may_widen, has_conversion, has_movement}

-- an object takes what is read from it
pub read_as_written : (u : PlaceType) (w : ValueType) → written_to u ≡ Some w → read_from u ≡ Some w
read_as_written (DevicePlace true t) w h = absurd (cc)
read_as_written (DevicePlace false t) w h = h
read_as_written (ObjectPlace true volatile t) w h = absurd (cc)
read_as_written (ObjectPlace false volatile t) w h = h
read_as_written (FunctionPlace sig) w h = absurd (cc)

pub changed_type : (structures : List Structure) (target : Target) (o : BinOp) (t : IntType) (to e r : ValueType) → change_type structures target o t to e ≡ Some r → to ≡ r
changed_type structures target o t NoValue e r h = absurd (cc)
changed_type structures target o t (Integer s) e r h = when_is _ (Integer s) r h
changed_type structures target o t (ToObject c v u) e r h = when_is _ (ToObject c v u) r h
changed_type structures target o t (ToFunction sig) e r h = absurd (cc)

-- the common type of two arms is void, or takes the value of both
abbrev pub TakesBoth : ValueType → ValueType → ValueType → Type 0
TakesBoth r a b = (r ≡ NoValue) ⊎ ((is_assignable r a ≡ true) × (is_assignable r b ≡ true))

pub widens_or : (a b : Bool) → implies a (a || b) ≡ true
widens_or true b = refl
widens_or false b = refl

pub widens_or_right : (a b : Bool) → implies b (a || b) ≡ true
widens_or_right true true = refl
widens_or_right true false = refl
widens_or_right false true = refl
widens_or_right false false = refl

pub common_integers : (target : Target) (s t : IntType) (b : Bool) → same_int s t && is_promoted target s ≡ b → TakesBoth (if b then Integer s else NoValue) (Integer s) (Integer t)
common_integers target s t true h = inr (int_itself s, (both_true (same_int s t) (is_promoted target s) h).0)
common_integers target s t false h = inl refl

pub common_objects : (c v : Bool) (t : CType) (c' v' : Bool) (u : CType) (b : Bool) → alike t u && not (is_void t) ≡ b →
    TakesBoth (if b then ToObject (c || c') (v || v') t else NoValue) (ToObject c v t) (ToObject c' v' u)
common_objects c v t c' v' u true h = inr (
  assignable_object (c || c') (v || v') t c v t (alike_itself t) (widens_or c c') (widens_or v v'),
  assignable_object (c || c') (v || v') t c' v' u (both_true (alike t u) (not (is_void t)) h).0 (widens_or_right c c') (widens_or_right v v'),
)
common_objects c v t c' v' u false h = inl refl

pub common_functions : (s t : Sig) (b : Bool) → same_sig s t ≡ b → TakesBoth (if b then ToFunction s else NoValue) (ToFunction s) (ToFunction t)
common_functions s t true h = inr (function_itself s, h)
common_functions s t false h = inl refl

pub common : (target : Target) (a b : ValueType) → TakesBoth (common_type target a b) a b
common target NoValue b = inl refl
common target (Integer s) NoValue = inl refl
common target (Integer s) (Integer t) = common_integers target s t (same_int s t && is_promoted target s) refl
common target (Integer s) (ToObject c v t) = inl refl
common target (Integer s) (ToFunction sig) = inl refl
common target (ToObject c v t) NoValue = inl refl
common target (ToObject c v t) (Integer s) = inl refl
common target (ToObject c v t) (ToObject c' v' u) = common_objects c v t c' v' u (alike t u && not (is_void t)) refl
common target (ToObject c v t) (ToFunction sig) = inl refl
common target (ToFunction s) NoValue = inl refl
common target (ToFunction s) (Integer t) = inl refl
common target (ToFunction s) (ToObject c v t) = inl refl
common target (ToFunction s) (ToFunction t) = common_functions s t (same_sig s t) refl

module _ (p : Program) (openings : List ℕ) where
  abbrev pub Has : ValueType → Option Value → Type 0
  Has t v = MayHave p openings t v

  abbrev pub Leads : PlaceType → Option Spot → Type 0
  Leads u s = MayLead p openings u s

  pub void_has : (v : Option Value) → Has NoValue v
  void_has None = tt
  void_has (Some v) = tt

  pub common_left : (r a b : ValueType) → TakesBoth r a b → (v : Option Value) → Has a v → Has r v
  common_left r a b (inl e) v h = subst (λ (x : ValueType). Has x v) (sym e) (void_has v)
  common_left r a b (inr k) v h = may_widen p openings r a v k.0 h

  pub common_right : (r a b : ValueType) → TakesBoth r a b → (v : Option Value) → Has b v → Has r v
  common_right r a b (inl e) v h = subst (λ (x : ValueType). Has x v) (sym e) (void_has v)
  common_right r a b (inr k) v h = may_widen p openings r b v k.1 h

  -- ---- what marks give

  -- what a step gives is of this type, if it gives anything
  abbrev pub Gives : ValueType → Action → Type 0
  Gives w a = (t : ValueType) → given_type p a ≡ Some t → t ≡ w

  pub given_has : (w : ValueType) (a : Action) → Gives w a → (m : Mark) → IsMarkOf p openings a m → Has w (given m)
  given_has w a g (Gave None) h = tt
  given_has w a g (Gave (Some v)) h = subst (λ (t : ValueType). HasType p openings t v) (g h.0 h.1) h.2
  given_has w a g Did h = subst (λ (t : ValueType). Has t (given Did)) (g NoValue h) tt
  given_has w a g (Chose b) h = tt

  -- ---- reads and writes

  pub reached_cell : (u : PlaceType) (w : ValueType) (s : Option Spot) (at : Cell) → Leads u s → read_from u ≡ Some w → reached p (Some u) s ≡ Some at → (cell_type p at ≡ Some w) × IsThere openings at
  reached_cell u w None at h k e = absurd (cc)
  reached_cell u w (Some s) at h k e = cell_there p openings u w s at h k e

  pub has_good : (w : ValueType) (v : Option Value) (x : Value) → Has w v → v ≡ Some x → HasType p openings w x
  has_good w None x h e = absurd (cc)
  has_good w (Some y) x h e = subst (HasType p openings w) (same_Some y x e) h

  -- `a op b` in the type of what is read
  pub has_changed : (o : BinOp) (t : IntType) (w : ValueType) (x y : Option Value) → Has w x → Has w (changed p.target o t (Some w) x y)
  has_changed o t NoValue x y h = tt
  has_changed o t (Integer s) x y h = has_conversion p openings s (binary o t p.target (conversion t p.target x) y)
  has_changed o t (ToObject c v u) x y h = has_movement p openings c v u (is_back o) x y h
  has_changed o t (ToFunction sig) x y h = tt

  -- ---- addresses

  pub whole_named : (c v : Bool) (t : CType) (path : List Part) (x : Option PlaceType) → leads_to_element path ≡ false → CanPoint c v t x → (y : PlaceType) → x ≡ Some y → names_whole (ToObject c v t) path 0 1 y ≡ true
  whole_named c v t path x l h y e =
      and_true (not (leads_to_element path)) (nat_eq 1 1 && (nat_le 0 1 && is_assignable_some (Some (ToObject c v t)) (address_of y))) (ap not l)
      (and_true (nat_eq 1 1) (nat_le 0 1 && is_assignable_some (Some (ToObject c v t)) (address_of y)) refl
      (and_true (nat_le 0 1) (is_assignable_some (Some (ToObject c v t)) (address_of y)) refl (subst (CanPoint c v t) e h)))

  in_memory : (object : Root) (path : List Part) (a : PlaceType) → place_in p object path ≡ Some a → (path ≡ [] → IsInMemory p object) → IsInMemory p object
  in_memory object [] a e k = k refl
  in_memory object (step ∷ path) a e k = part_in_memory p object (step ∷ path) a e (λ whole scalar. absurd (cc))

  -- a place that is a whole object is in memory
  abbrev pub InMemory : Option Spot → Type 0
  InMemory s = (object : Root) → s ≡ Some (spot.Object object []) → IsInMemory p object

  pub object_address : (c v : Bool) (t : CType) (object : Root) (path : List Part) → IsSpot p openings (ObjectPlace c v t) (spot.Object object path) → (path ≡ [] → IsInMemory p object) → IsAddress p openings (ToObject c v t) (address.At object path 0 1)
  object_address c v t object path h k =
      let r = real c v t (place_in p object path) h.2 in (
        h.0,
        ap (names (ToObject c v t) path 0 1) r.is
            ∙ right_true (names_element (ToObject c v t) 0 1 (ObjectPlace r.const r.volat r.to)) (names_whole (ToObject c v t) path 0 1 (ObjectPlace r.const r.volat r.to))
            (whole_named c v t path (place_in p object path) h.1 h.2 (ObjectPlace r.const r.volat r.to) r.is),
        in_memory object path (ObjectPlace r.const r.volat r.to) r.is k,
      )

  pub addressed : (u : PlaceType) (w : ValueType) (s : Spot) → IsSpot p openings u s → InMemory (Some s) → address_of u ≡ Some w → Has w (address_of_spot (Some s))
  addressed (DevicePlace constant t) w s h k e = absurd (cc)
  addressed (ObjectPlace c v t) w (spot.Device d) h k e = tt
  addressed (ObjectPlace c v t) w (spot.Object object path) h k e =
      subst (λ (x : ValueType). HasType p openings x (Place (address.At object path 0 1))) (same_Some (ToObject c v t) w e) (object_address c v t object path h (λ whole. k object (ap (λ (l : List Part). Some (spot.Object object l)) whole)))
  addressed (ObjectPlace c v t) w (spot.Address a) h k e = subst (λ (x : ValueType). HasType p openings x (Place a)) (same_Some (ToObject c v t) w e) h
  addressed (FunctionPlace sig) w (spot.Device d) h k e = tt
  addressed (FunctionPlace sig) w (spot.Object object path) h k e = absurd h
  addressed (FunctionPlace sig) w (spot.Address a) h k e = subst (λ (x : ValueType). HasType p openings x (Place a)) (same_Some (ToFunction sig) w e) h

  pub may_be_addressed : (u : PlaceType) (w : ValueType) (s : Option Spot) → Leads u s → InMemory s → address_of u ≡ Some w → Has w (address_of_spot s)
  may_be_addressed u w None h k e = tt
  may_be_addressed u w (Some s) h k e = addressed u w s h k e

  pub pointed_object : (c v : Bool) (t : CType) (u : PlaceType) (b : Bool) (x : Option Value) → Has (ToObject c v t) x → (if b then None else Some (ObjectPlace c v t)) ≡ Some u → Leads u (option_map spot.Address (address_in x))
  pointed_object c v t u true x h e = absurd (cc)
  pointed_object c v t u false None h e = tt
  pointed_object c v t u false (Some (Int n)) h e = tt
  pointed_object c v t u false (Some (Place a)) h e = subst (λ (y : PlaceType). IsSpot p openings y (spot.Address a)) (same_Some (ObjectPlace c v t) u e) h

  pub pointed_function : (sig : Sig) (u : PlaceType) (x : Option Value) → Has (ToFunction sig) x → Some (FunctionPlace sig) ≡ Some u → Leads u (option_map spot.Address (address_in x))
  pointed_function sig u None h e = tt
  pointed_function sig u (Some (Int n)) h e = tt
  pointed_function sig u (Some (Place a)) h e = subst (λ (y : PlaceType). IsSpot p openings y (spot.Address a)) (same_Some (FunctionPlace sig) u e) h

  pub points : (t : ValueType) (u : PlaceType) (x : Option Value) → Has t x → pointed_to t ≡ Some u → Leads u (option_map spot.Address (address_in x))
  points NoValue u x h e = absurd (cc)
  points (Integer t) u x h e = absurd (cc)
  points (ToObject c v t) u x h e = pointed_object c v t u (is_void t) x h e
  points (ToFunction sig) u x h e = pointed_function sig u x h e

  -- ---- named objects

  pub whole_object : (object : Root) (t : CType) → IsOpened openings object → object_type p object ≡ Some (object_place t) → Leads (object_place t) (Some (spot.Object object []))
  whole_object object t h e = (
    h,
    refl,
    subst (CanPoint (is_const t) (is_volatile t) t) (sym (ap (λ (x : Option PlaceType). of_one x (λ a. Some a)) e))
        (assignable_object (is_const t) (is_volatile t) t (is_const t) (is_volatile t) t (alike_itself t) (implies_itself (is_const t)) (implies_itself (is_volatile t))),
  )

  -- ---- calls

  abbrev pub MayBeArguments : List CType → List (Option Value) → Type 0
  MayBeArguments [] [] = Unit {0}
  MayBeArguments [] (v ∷ vs) = ⊥
  MayBeArguments (t ∷ ts) [] = ⊥
  MayBeArguments (t ∷ ts) (v ∷ vs) = ((u : ValueType) × (scalar_value t ≡ Some u) × Has u v) × MayBeArguments ts vs

  pub in_front_by : (t : CType) (ts : List CType) (v : Value) (rest : Option (List Value)) (good : List Value) → ((u : ValueType) × (scalar_value t ≡ Some u) × HasType p openings u v) →
      ((vs : List Value) → rest ≡ Some vs → AreArguments p openings ts vs) → in_front v rest ≡ Some good → AreArguments p openings (t ∷ ts) good
  in_front_by t ts v None good h k e = absurd (cc)
  in_front_by t ts v (Some vs) good h k e = subst (AreArguments p openings (t ∷ ts)) (same_Some (v ∷ vs) good e) (h, k vs refl)

  pub good_arguments : (ts : List CType) (vs : List (Option Value)) (good : List Value) → MayBeArguments ts vs → all_good vs ≡ Some good → AreArguments p openings ts good
  good_arguments [] [] good h e = subst (AreArguments p openings []) (same_Some [] good e) tt
  good_arguments [] (v ∷ vs) good h e = absurd h
  good_arguments (t ∷ ts) [] good h e = absurd h
  good_arguments (t ∷ ts) (None ∷ vs) good h e = absurd (cc)
  good_arguments (t ∷ ts) (Some v ∷ vs) good h e = in_front_by t ts v (all_good vs) good h.0 (λ rest f. good_arguments ts vs rest h.1 f) e

  -- the function that is called
  pub function_by : (sig : Sig) (f : Func) (b : Bool) → is_assignable_some (Some (ToFunction sig)) (when b (ToFunction f.sig)) ≡ true → f.sig ≡ sig
  function_by sig f true h = sym ((sig_compared sig).same f.sig h)
  function_by sig f false h = absurd (cc)

  pub function_found : (sig : Sig) (f : Option Func) → is_assignable_some (Some (ToFunction sig)) (function_type f) ≡ true → (func : Func) × (f ≡ Some func) × (func.sig ≡ sig)
  function_found sig None h = absurd (cc)
  function_found sig (Some f) h = (f, refl, function_by sig f (not (rule.is_handler f)) h)

  pub is_call : (sig : Sig) (callee : Address) (good : List Value) → IsAddress p openings (ToFunction sig) callee → AreArguments p openings (out-Sig sig).params good → IsCall p openings callee good
  is_call sig address.Null good h k = tt
  is_call sig (address.Func f) good h k =
      let found = function_found sig (slice_get p.funcs f) h in
      (found.0, found.1, subst (λ (s : Sig). AreArguments p openings (out-Sig s).params good) (sym found.2) k)
  is_call sig (address.At object path index count) good h k = tt

  pub call_gives : (sig : Sig) (callee : Address) (good : List Value) (w : ValueType) → IsAddress p openings (ToFunction sig) callee → result_value (out-Sig sig).result ≡ Some w → Gives w (action.Call callee good)
  call_gives sig address.Null good w h k t e = absurd (cc)
  call_gives sig (address.Func f) good w h k t e =
      let found = function_found sig (slice_get p.funcs f) h in
      same_Some t w (sym (sym (ap result_in found.1) ∙ e) ∙ ap (λ (s : Sig). result_value (out-Sig s).result) found.2 ∙ k)
  call_gives sig (address.At object path index count) good w h k t e = absurd (cc)

  pub callee_typed : (sig : Sig) (v : Option Value) (callee : Address) → Has (ToFunction sig) v → address_in v ≡ Some callee → IsAddress p openings (ToFunction sig) callee
  callee_typed sig None callee h e = absurd (cc)
  callee_typed sig (Some (Int n)) callee h e = absurd h
  callee_typed sig (Some (Place a)) callee h e = subst (IsAddress p openings (ToFunction sig)) (same_Some a callee e) h
