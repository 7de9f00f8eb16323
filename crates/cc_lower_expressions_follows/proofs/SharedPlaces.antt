-- A place that is no register leads to no register of the activation: by name it leads to what is none, a part of something is none, and
-- pointers lead to what is in memory.
use Rattle.std.proofs.Common.{◌≡◌, ◌<◌, ◌≤◌, ◌∷◌, ◌++◌, ◌||◌, ◌&&◌, not, ℕ, ℤ, Bool, true, false, List, [], length, Option, Some, None, refl, ap, sym, ◌∙◌, subst, arith, if◌then◌else◌}
use Rattle.std.proofs.lemmas.Bool.Decides.{nat_tests}
use Rattle.std.proofs.lemmas.Option.{same_Some, slice_get_within}
use Rattle.std.specs.Prelude.{nat_le, nat_lt, option_map, option_and_then, slice_get}
use Rattle.cc_program.specs.declared.expr.Expr.{Expr}
use Rattle.cc_program.specs.declared.expr.Place.{Place, out-Place, roll-out-Place, map-Place}
use Rattle.cc_program.specs.declared.expr.Expr.TheOpen as one
use Rattle.cc_program.specs.declared.func.Func.{Func}
use Rattle.cc_program.specs.declared.value.Address.{Address}
use Rattle.cc_program.specs.declared.value.Address.TheVariants as address
use Rattle.cc_program.specs.declared.value.Cell.{Cell}
use Rattle.cc_program.specs.declared.value.Cell.TheVariants as cell
use Rattle.cc_program.specs.declared.value.Part.{Part}
use Rattle.cc_program.specs.declared.value.Part.TheVariants as part
use Rattle.cc_program.specs.declared.value.Root.{Root}
use Rattle.cc_program.specs.declared.value.Root.TheVariants as root
use Rattle.cc_program.specs.declared.value.Value.{Value}
use Rattle.cc_states.specs.CcSyntax.Effects.{Registers}
use Rattle.cc_states.specs.CcSyntax.Expressions.{of_one, of_two}
use Rattle.cc_states.specs.CcSyntax.Initial.{place_at, bound_of, names}
use Rattle.cc_states.specs.CcSyntax.Registers.{may_be_register, is_register, is_addressed}
use Rattle.cc_states.specs.CcSyntax.Types.{Named}
use Rattle.cc_states.specs.CcSyntax.Values.{ValueType, ToObject, ToFunction, PlaceType, DevicePlace, ObjectPlace, FunctionPlace, object_place, address_of, is_assignable_some}
use Rattle.cc_states.specs.CcEval.Context.{Context, local_type, object_type, has_elements, path_to, named_by, designated, cell_of, cell_at, reached, element, element_in, member}
use Rattle.cc_states.specs.CcEval.declared.mark.Mark.{Mark}
use Rattle.cc_states.specs.CcEval.declared.spots.Spot.{Spot}
use Rattle.cc_states.specs.CcEval.declared.spots.Spot.TheVariants as spot
use Rattle.cc_states.specs.CcEval.Eval.{Meaning, Designation, meaning, designation, place_meaning, place_and_value, element_at}
use Rattle.cc_states.specs.CcEval.Progress.{Known}
use Rattle.cc_states.proofs.CcEval.Links.{place_level}
use Rattle.cc_states.specs.CcValues.Values.{integer, address_in}
use Rattle.cc_states.specs.Answers.{IsActivation, PlaceTakesAddressesOf}
use Rattle.cc_states.specs.Typed.{is_register_in, IsInMemory, IsOpened, IsAddress, IsSpot, place_in}
use Rattle.cc_states.proofs.EvalTypes.{designation_typed}
use Rattle.cc_states.proofs.MemoryLemmas.{part_in_memory}
use Rattle.cc_states.proofs.Options.{with_one, mapped}
use Rattle.cc_states.proofs.CcEval.Works.{gives_made}
use Rattle.cc_lower_expressions_follows.specs.Trees.{Setting, context_p, is_own, IsSharedRoot, IsSharedCell}
use Rattle.cc_lower_expressions_follows.specs.Claims.{IsApart}
use Rattle.cc_lower_expressions_follows.proofs.Answered.{AllAnswers}
use Rattle.cc_lower_expressions_follows.proofs.Typing.{IsTyped}

same_known : {A : Type 0} (v w : A) (ms ns : List Mark) → Known v ms ≡ Known w ns → v ≡ w
same_known v w ms ns h = cc

longer : (path : List Part) (step : Part) → path ++ step ∷ [] ≡ [] → ⊥
longer [] step e = absurd (cc)
longer (x ∷ path) step e = absurd (cc)

no_part : (step : Part) (path : List Part) → step ∷ path ≡ [] → ⊥
no_part step path e = absurd (cc)

may_be : (a b : Bool) → a && b ≡ true → a ≡ true
may_be true b h = refl
may_be false b h = absurd (cc)

local_there : (l : Option Named) → may_be_register l ≡ true → (x : Named) × (l ≡ Some x)
local_there None h = absurd (cc)
local_there (Some l) h = (l, refl)

-- a register is a local
pub register_within : (f : Func) (i : ℕ) → is_register f i ≡ true → i < length f.locals
unfolding is_register
register_within f i h =
    let l = local_there (slice_get f.locals i) (may_be (may_be_register (slice_get f.locals i)) (not (is_addressed f i)) h) in slice_get_within f.locals i l.0 l.1

module _ (w : Setting) (here : IsActivation (context_p w) w.openings) (within : length w.from.locals ≤ w.base) where
  abbrev cp : Context
  cp = context_p w

  -- ---- what is named without a part is no register

  abbrev IsFree : Root → Type 0
  IsFree object = (local : ℕ) → object ≡ root.Auto w.number w.id local → is_register w.from local ≡ false

  abbrev Free : Option Spot → Type 0
  Free s = (object : Root) → s ≡ Some (spot.Object object []) → IsFree object

  free_address : (x : Option Address) → Free (option_map spot.Address x)
  free_address None object e = absurd (cc)
  free_address (Some a) object e = absurd (cc)

  free_element_in : (bound : Option ℕ) (n : ℤ) (x : Option (Root × List Part)) → Free (option_and_then (element_in bound n) x)
  free_element_in bound n None object e = absurd (cc)
  free_element_in None n (Some o) object e = absurd (cc)
  free_element_in (Some count) n (Some o) object e = free_address _ object e

  free_element : (t : Option PlaceType) (s : Option Spot) (v : Option Value) → Free (element_at cp t s v)
  free_element None s v object e = absurd (cc)
  free_element (Some t) None v object e = absurd (cc)
  free_element (Some t) (Some s) v object e = by_number (integer v) object e
    where
      by_number : (n : Option ℤ) → Free (option_and_then (λ n. element w.p n t s) n)
      by_number None object e = absurd (cc)
      by_number (Some n) object e = free_element_in (bound_of t) n (designated w.p t s) object e

  free_designated : (m : ℕ) (x : Option (Root × List Part)) → Free (option_map (λ o. spot.Object o.0 (o.1 ++ part.Member m ∷ [])) x)
  free_designated m None object e = absurd (cc)
  free_designated m (Some o) object e = let same : o.1 ++ part.Member m ∷ [] ≡ [] = cc in absurd (longer o.1 (part.Member m) same)

  free_member : (m : ℕ) (t : Option PlaceType) (s : Option Spot) → Free (of_two t s (member w.p m))
  free_member m None s object e = absurd (cc)
  free_member m (Some t) None object e = absurd (cc)
  free_member m (Some t) (Some s) object e = free_designated m (designated w.p t s) object e

  object_of : (s : Option Spot) (x y : Root) (ms rest : List Mark) → Known (Some (spot.Object x [])) ms ≡ Known s rest → s ≡ Some (spot.Object y []) → y ≡ x
  object_of s x y ms rest e f = let g : Some (spot.Object x []) ≡ s = same_known (Some (spot.Object x [])) s ms rest e in let k : Some (spot.Object x []) ≡ Some (spot.Object y []) = g ∙ f in cc

  local_of : (r i : ℕ) (object : Root) → object ≡ root.Auto w.number w.id r → object ≡ root.Auto w.number w.id i → r ≡ i
  local_of r i object e f = let k : root.Auto w.number w.id r ≡ root.Auto w.number w.id i = sym e ∙ f in cc

  not_register : (r : ℕ) (b : Bool) → is_register w.from r ≡ b → (if b then Some r else None) ≡ None → is_register w.from r ≡ false
  not_register r true e h = absurd (cc)
  not_register r false e h = e

  free_level : (x : one.Place-F Meaning Designation) → (place_meaning cp x).effects.register ≡ None → (later : Registers) (ms rest : List Mark) (s : Option Spot) → (place_meaning cp x).leads later ms ≡ Known s rest → Free s
  free_level (one.Local r) none later ms rest s e object f local g =
      subst (λ (i : ℕ). is_register w.from i ≡ false) (local_of r local object (object_of s (root.Auto w.number w.id r) object ms rest e f) g) (not_register r (is_register w.from r) refl none)
  free_level (one.Static i) none later ms rest s e object f local g =
      let k : root.Static i ≡ root.Auto w.number w.id local = sym (object_of s (root.Static i) object ms rest e f) ∙ g in absurd (cc)
  free_level (one.Device d) none later ms rest s e object f local g =
      let k : Some (spot.Device d) ≡ s = same_known (Some (spot.Device d)) s ms rest e in let h : Some (spot.Device d) ≡ Some (spot.Object object []) = k ∙ f in absurd (cc)
  free_level (one.Element a i) none later ms rest s e object f local g = gives_made Free (place_and_value a i later) (λ q. element_at cp a.ctype q.0 q.1) (λ q. free_element a.ctype q.0 q.1) ms rest s e object f local g
  free_level (one.Member a m) none later ms rest s e object f local g = gives_made Free (a.leads later) (λ s. of_two a.ctype s (member w.p m)) (λ s. free_member m a.ctype s) ms rest s e object f local g
  free_level (one.Deref a) none later ms rest s e object f local g = gives_made Free (a.next later) (λ v. option_map spot.Address (address_in v)) (λ v. free_address (address_in v)) ms rest s e object f local g

  -- ---- an object of the activation that is no register is none of its own locals behind those of its function, either

  opened_is : (number func : ℕ) → IsOpened w.openings (root.Auto number func 0) → number ≡ w.number → func ≡ w.id
  opened_is number func o e =
      let k : Some func ≡ Some w.id = sym o ∙ ap (slice_get w.openings) e ∙ here.number in same_Some func w.id k

  inside : (local : ℕ) (l : Named) → slice_get w.from.locals local ≡ Some l → nat_le w.base local ≡ false
  inside local l e = let k = slice_get_within w.from.locals local l e in grind (arith, nat_tests, within)

  -- the local is there
  there : (local : ℕ) (path : List Part) (u : PlaceType) → place_in w.p (root.Auto w.number w.id local) path ≡ Some u → nat_le w.base local ≡ false
  there local path u e =
      with_one (nat_le w.base local ≡ false) (object_type w.p (root.Auto w.number w.id local)) (place_at w.p.structures path) u e
      (λ t f g.
      let l = mapped (λ l. object_place l.1) (slice_get w.from.locals local) t (sym (ap (local_type local) here.function) ∙ f) in
      inside local l.0 l.1)

  neither : (a b : Bool) → a ≡ false → b ≡ false → a || b ≡ false
  neither a b e f = rw (e, f) refl

  shared_auto : (number func local : ℕ) (path : List Part) (u : PlaceType) → IsOpened w.openings (root.Auto number func local) → place_in w.p (root.Auto number func local) path ≡ Some u → IsFree (root.Auto number func local) →
      number ≡ w.number → is_own w.from w.base local ≡ false
  shared_auto number func local path u o e f n =
      let k = opened_is number func o n in
      let same : root.Auto number func local ≡ root.Auto w.number w.id local = ap (λ (i : ℕ). root.Auto i func local) n ∙ ap (λ (i : ℕ). root.Auto w.number i local) k in
      neither (is_register w.from local) (nat_le w.base local) (f local same) (there local path u (ap (λ (x : Root). place_in w.p x path) (sym same) ∙ e))

  shared_root : (object : Root) (path : List Part) (u : PlaceType) → IsOpened w.openings object → place_in w.p object path ≡ Some u → IsFree object → IsSharedRoot w object
  shared_root (root.Static i) path u o e f = tt
  shared_root (root.Auto number func local) path u o e f = shared_auto number func local path u o e f

  -- what is in memory is no register
  memory_free : (object : Root) → IsInMemory w.p object → IsFree object
  memory_free object h local e =
      ap (λ (g : Option Func). is_register_in g local) (sym here.function) ∙ subst (IsInMemory w.p) e h

  -- ---- where a place leads

  assigned_there : (to : ValueType) (x : Option PlaceType) → is_assignable_some (Some to) (of_one x address_of) ≡ true → (u : PlaceType) × (x ≡ Some u)
  assigned_there to None h = absurd (cc)
  assigned_there to (Some u) h = (u, refl)

  named_there : (to : ValueType) (path : List Part) (index count : ℕ) (x : Option PlaceType) → names to path index count x ≡ true → (u : PlaceType) × (x ≡ Some u)
  named_there to path index count None h = absurd (cc)
  named_there to path index count (Some u) h = (u, refl)

  -- by name
  free_object : (object : Root) (path : List Part) (u : PlaceType) → place_in w.p object path ≡ Some u → Free (Some (spot.Object object path)) → IsFree object
  free_object object [] u e f = f object refl
  free_object object (step ∷ path) u e f = memory_free object (part_in_memory w.p object (step ∷ path) u e (λ k h. no_part step path k))

  object_shared : (t : PlaceType) (object : Root) (path : List Part) → IsSpot w.p w.openings t (spot.Object object path) → Free (Some (spot.Object object path)) → IsSharedRoot w object
  object_shared (DevicePlace c i) object path h f = absurd h
  object_shared (ObjectPlace c v t) object path h f =
      let u = assigned_there (ToObject c v t) (place_in w.p object path) h.2 in shared_root object path u.0 h.0 u.1 (free_object object path u.0 u.1 f)
  object_shared (FunctionPlace sig) object path h f = absurd h

  -- by a pointer
  address_shared : (to : ValueType) (t : PlaceType) (a : Address) (o : Root × List Part) → IsAddress w.p w.openings to a → named_by w.p t a ≡ Some o → IsSharedRoot w o.0
  address_shared to t address.Null o h e = absurd (cc)
  address_shared to t (address.Func f) o h e = absurd (cc)
  address_shared to t (address.At object path index count) o h e = by_count (nat_lt index count) e
    where
      shared : IsSharedRoot w object
      shared = let u = named_there to path index count (place_in w.p object path) h.1 in shared_root object path u.0 h.0 u.1 (memory_free object h.2)

      by_count : (b : Bool) → (if b then Some (object, path_to (has_elements w.p t object path) path index) else None) ≡ Some o → IsSharedRoot w o.0
      by_count true e = subst (λ (x : Root × List Part). IsSharedRoot w x.0) (same_Some (object, path_to (has_elements w.p t object path) path index) o e) shared
      by_count false e = absurd (cc)

  pointed_shared : (t : PlaceType) (a : Address) (o : Root × List Part) → IsSpot w.p w.openings t (spot.Address a) → named_by w.p t a ≡ Some o → IsSharedRoot w o.0
  pointed_shared (DevicePlace c i) a o h e = absurd h
  pointed_shared (ObjectPlace c v t) a o h e = address_shared (ToObject c v t) (ObjectPlace c v t) a o h e
  pointed_shared (FunctionPlace sig) a o h e = address_shared (ToFunction sig) (FunctionPlace sig) a o h e

  cell_shared : (t : PlaceType) (s : Spot) (c : Cell) → IsSpot w.p w.openings t s → Free (Some s) → cell_at w.p t s ≡ Some c → IsSharedCell w c
  cell_shared t (spot.Device d) c h f e = subst (IsSharedCell w) (same_Some (cell.Device d) c e) tt
  cell_shared t (spot.Object object path) c h f e = subst (IsSharedCell w) (same_Some (cell.At object path) c e) (object_shared t object path h f)
  cell_shared t (spot.Address a) c h f e =
      let o = mapped cell_of (named_by w.p t a) c e in subst (IsSharedCell w) o.2 (pointed_shared t a o.0 h o.1)

  level_of : (a : Place) → designation cp a ≡ place_meaning cp (map-Place Expr Place Meaning Designation (meaning cp) (designation cp) (out-Place a))
  level_of a = ap (designation cp) (sym (roll-out-Place a)) ∙ place_level cp (out-Place a)

  leads_free : (a : Place) → (designation cp a).effects.register ≡ None → (later : Registers) (ms rest : List Mark) (s : Option Spot) → (designation cp a).leads later ms ≡ Known s rest → Free s
  leads_free a none later ms rest s e =
      free_level (map-Place Expr Place Meaning Designation (meaning cp) (designation cp) (out-Place a)) (ap (λ (d : Designation). d.effects.register) (sym (level_of a)) ∙ none) later ms rest s
      (ap (λ (d : Designation). d.leads later ms) (sym (level_of a)) ∙ e)

  -- a place that is no register leads to no register of the activation
  pub shared_place : (a : Place) → PlaceTakesAddressesOf w.from a → IsTyped (designation cp a).ctype → (designation cp a).effects.register ≡ None → (later : Registers) →
      AllAnswers w.p w.openings (IsApart w (designation cp a)) ((designation cp a).leads later)
  shared_place a own ty none later ms rest None answers e c f = by_type (designation cp a).ctype f
    where
      by_type : (t : Option PlaceType) → reached w.p t None ≡ Some c → IsSharedCell w c
      by_type None f = absurd (cc)
      by_type (Some t) f = absurd (cc)
  shared_place a own ty none later ms rest (Some s) answers e c f =
      let place = ((designation_typed cp w.openings here a own ty.0 ty.1 later).known ms rest (Some s) answers e).1 in
      cell_shared ty.0 s c place.0 (leads_free a none later ms rest (Some s) e) (sym (ap (λ (t : Option PlaceType). reached w.p t (Some s)) ty.1) ∙ f)
