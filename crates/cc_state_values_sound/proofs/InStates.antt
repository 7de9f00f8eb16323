-- In an activation that was opened in a run of a sound program, where each mark has the type of the step: places lead to objects of their
-- types, so where they lead is fit.
use Rattle.std.proofs.Common.{◌≡◌, ℕ, Bool, true, false, List, [], ◌∷◌, Option, Some, None, refl, ap, sym, ◌∙◌, subst}
use Rattle.std.specs.Prelude.{is_some, option_and_then}
use Rattle.cc_state_values.specs.CcEval.declared.action.Action.{Action}
use Rattle.cc_state_values.specs.CcEval.declared.mark.Mark.{Mark}
use Rattle.cc_state_values.specs.CcEval.declared.spots.Spot.{Spot}
use Rattle.cc_state_values.specs.CcEval.declared.spots.Spot.TheVariants as spot
use Rattle.cc_state_values.specs.CcEval.Context.{Context, object_type, are_alike, has_elements}
use Rattle.cc_state_values.specs.CcEval.Eval.{meaning, designation}
use Rattle.cc_state_values.specs.CcEval.Marks.{AnswerSteps, Works}
use Rattle.cc_state_values.specs.CcEval.Progress.{Known}
use Rattle.cc_state_values.specs.CcPlaces.declared.abs.Abs.{Abs}
use Rattle.cc_state_values.specs.CcPlaces.declared.addrs.Addrs.{Addrs}
use Rattle.cc_program.proofs.Each.{Each}
use Rattle.cc_program.proofs.ExprInduction.{Parts, PlaceParts}
use Rattle.cc_program.specs.declared.expr.Expr.{Expr, out-Expr, roll-out-Expr}
use Rattle.cc_program.specs.declared.expr.Expr.TheOpen as one
use Rattle.cc_program.specs.declared.expr.Place.{Place as PlaceOf, out-Place, roll-out-Place}
use Rattle.cc_program.specs.declared.func.Func.{Func}
use Rattle.cc_program.specs.declared.program.Program.{Program}
use Rattle.cc_program.specs.declared.types.CType.{CType}
use Rattle.cc_program.specs.declared.value.Address.{Address}
use Rattle.cc_program.specs.declared.value.Address.TheVariants as address
use Rattle.cc_program.specs.declared.value.Part.{Part}
use Rattle.cc_program.specs.declared.value.Root.{Root}
use Rattle.cc_state_values.specs.CcStateOperators.Domains.{Domain}
use Rattle.cc_state_values.specs.Values.{IsVal, Designates}
use Rattle.cc_state_values_sound.proofs.Choices.{GivesAll}
use Rattle.cc_state_values_sound.proofs.Given.{value_gives, place_leads}
use Rattle.cc_state_values_sound.specs.Steps.{MayGive, IsOwnStep, Reads, Branches, LeadsInto, leads_anywhere, IsReal, IsFit, MayFit}
use Rattle.cc_state_values_sound.specs.Typed.{IsTypedAnswer}
use Rattle.cc_states.specs.Answers.{IsActivation, TakesAddressesOf, PlaceTakesAddressesOf}
use Rattle.cc_states.specs.Typed.{place_in, IsAddress, MayLead}
use Rattle.cc_states.proofs.AddressLemmas.{IfTaken, PlaceIfTaken, parts_at, place_parts_at, rolled_takes, rolled_place_takes}
use Rattle.cc_states.proofs.EvalTypes.{designation_typed}
use Rattle.cc_states.proofs.Options.{one_as_then}
use Rattle.cc_states.proofs.PlaceLemmas.{CanPoint, not_whole}
use Rattle.cc_state_values.specs.CcSyntax.Effects.{Registers}
use Rattle.cc_state_values.specs.CcSyntax.Initial.{place_at, names}
use Rattle.cc_state_values.specs.CcSyntax.Values.{ValueType, ToObject, ToFunction, PlaceType, DevicePlace, ObjectPlace, FunctionPlace, element_of}

-- ---- where places lead is fit

module _ (p : Program) (openings : List ℕ) where
  anywhere : (o : Root) (path : List Part) (a : PlaceType) → place_in p o path ≡ Some a → leads_anywhere p o path ≡ true
  anywhere o path a h = ap is_some (sym (one_as_then (object_type p o) (place_at p.structures path)) ∙ h)

  named_there : (to : ValueType) (o : Root) (path : List Part) (index count : ℕ) (x : Option PlaceType) → place_in p o path ≡ x → names to path index count x ≡ true → leads_anywhere p o path ≡ true
  named_there to o path index count None e h = absurd (cc)
  named_there to o path index count (Some a) e h = anywhere o path a e

  real_address : (to : ValueType) (a : Address) → IsAddress p openings to a → IsReal p a
  real_address to address.Null h = tt
  real_address to (address.Func f) h = tt
  real_address to (address.At o path index count) h = named_there to o path index count (place_in p o path) refl h.1

  pub no_elements : (c v : Bool) (t : CType) (o : Root) (path : List Part) (a : PlaceType) → place_in p o path ≡ Some a → CanPoint c v t (Some a) → has_elements p (ObjectPlace c v t) o path ≡ false
  no_elements c v t o path a e h =
      ap (λ x. are_alike (option_and_then element_of x) (ObjectPlace c v t)) (sym (one_as_then (object_type p o) (place_at p.structures path)) ∙ e) ∙ by_test (are_alike (element_of a) (ObjectPlace c v t)) refl
    where
      by_test : (b : Bool) → are_alike (element_of a) (ObjectPlace c v t) ≡ b → are_alike (element_of a) (ObjectPlace c v t) ≡ false
      by_test true k = absurd (not_whole c v t a h k)
      by_test false k = k

  fit_object : (c v : Bool) (t : CType) (o : Root) (path : List Part) (x : Option PlaceType) → place_in p o path ≡ x → CanPoint c v t x → IsFit p (ObjectPlace c v t) (spot.Object o path)
  fit_object c v t o path None e h = absurd (cc)
  fit_object c v t o path (Some a) e h = (anywhere o path a e, no_elements c v t o path a e h)

  may_fit : (u : PlaceType) (there : Option Spot) → MayLead p openings u there → MayFit p (Some u) there
  may_fit u None h = tt
  may_fit (DevicePlace constant t) (Some (spot.Device d)) h = tt
  may_fit (DevicePlace constant t) (Some (spot.Object o path)) h = absurd h
  may_fit (DevicePlace constant t) (Some (spot.Address a)) h = absurd h
  may_fit (ObjectPlace c v t) (Some (spot.Device d)) h = tt
  may_fit (ObjectPlace c v t) (Some (spot.Object o path)) h = fit_object c v t o path (place_in p o path) refl h.2
  may_fit (ObjectPlace c v t) (Some (spot.Address a)) h = real_address (ToObject c v t) a h
  may_fit (FunctionPlace sig) (Some (spot.Device d)) h = tt
  may_fit (FunctionPlace sig) (Some (spot.Object o path)) h = absurd h
  may_fit (FunctionPlace sig) (Some (spot.Address a)) h = real_address (ToFunction sig) a h

-- ---- what an expression takes the addresses of its parts take

module _ (f : Func) where
  abbrev Itself : Expr → Type 0
  Itself = IfTaken f (TakesAddressesOf f) (PlaceTakesAddressesOf f)

  abbrev PlaceItself : PlaceOf → Type 0
  PlaceItself = PlaceIfTaken f (TakesAddressesOf f) (PlaceTakesAddressesOf f)

  each_itself : (args : List Expr) → Each Itself args
  each_itself [] = tt
  each_itself (a ∷ args) = (λ k. k, each_itself args)

  itself : (x : one.Expr-F Expr PlaceOf) → Parts Itself PlaceItself x
  itself (one.Const n t) = tt
  itself (one.Null t) = tt
  itself (one.FuncAddr g) = tt
  itself (one.Load a) = λ k. k
  itself (one.AddrOf a) = λ k. k
  itself (one.Un o t a) = λ k. k
  itself (one.Bin o t a b) = (λ k. k, λ k. k)
  itself (one.Conv t a) = λ k. k
  itself (one.Qualify t a) = λ k. k
  itself (one.Move a b back) = (λ k. k, λ k. k)
  itself (one.Gap a b) = (λ k. k, λ k. k)
  itself (one.Compare o a b) = (λ k. k, λ k. k)
  itself (one.Both a b) = (λ k. k, λ k. k)
  itself (one.Either a b) = (λ k. k, λ k. k)
  itself (one.Choose d a b) = (λ k. k, λ k. k, λ k. k)
  itself (one.Assign a e) = (λ k. k, λ k. k)
  itself (one.Change a o t e) = (λ k. k, λ k. k)
  itself (one.After a down) = λ k. k
  itself (one.Call g args) = (λ k. k, each_itself args)
  itself (one.Intr i None) = tt
  itself (one.Intr i (Some a)) = λ k. k
  itself (one.Seq a b) = (λ k. k, λ k. k)

  place_itself : (x : one.Place-F Expr PlaceOf) → PlaceParts Itself PlaceItself x
  place_itself (one.Local r) = tt
  place_itself (one.Static i) = tt
  place_itself (one.Device d) = tt
  place_itself (one.Element a i) = (λ k. k, λ k. k)
  place_itself (one.Member a m) = λ k. k
  place_itself (one.Deref e) = λ k. k

  parts_take : (e : Expr) → TakesAddressesOf f e → Parts (TakesAddressesOf f) (PlaceTakesAddressesOf f) (out-Expr e)
  parts_take e h =
      parts_at f (TakesAddressesOf f) (PlaceTakesAddressesOf f) (out-Expr e) (itself (out-Expr e))
      (rolled_takes f (TakesAddressesOf f) (PlaceTakesAddressesOf f) (out-Expr e) (subst (TakesAddressesOf f) (sym (roll-out-Expr e)) h))

  place_parts_take : (a : PlaceOf) → PlaceTakesAddressesOf f a → PlaceParts (TakesAddressesOf f) (PlaceTakesAddressesOf f) (out-Place a)
  place_parts_take a h =
      place_parts_at f (TakesAddressesOf f) (PlaceTakesAddressesOf f) (out-Place a) (place_itself (out-Place a))
      (rolled_place_takes f (TakesAddressesOf f) (PlaceTakesAddressesOf f) (out-Place a) (subst (PlaceTakesAddressesOf f) (sym (roll-out-Place a)) h))

-- ---- expressions and places in a run

module _ {I : Type 0} (d : Domain I) (all : GivesAll d) (c : Context) (openings : List ℕ) (here : IsActivation c openings) (register : ℕ → Option (Abs I)) where
  abbrev IsIt : Action → Mark → Type 0
  IsIt = IsTypedAnswer d.has c openings register

  fits : (a : PlaceOf) → PlaceTakesAddressesOf c.func a → (later : Registers) (ms rest : List Mark) (there : Option Spot) → AnswerSteps IsIt ((designation c a).leads later) ms → (designation c a).leads later ms ≡ Known there rest →
      MayFit c.program (designation c a).ctype there
  fits a taken later ms rest there answers e = by_type (designation c a).ctype refl
    where
      unknown : (there : Option Spot) → MayFit c.program None there
      unknown None = tt
      unknown (Some s) = tt

      by_type : (t : Option PlaceType) → (designation c a).ctype ≡ t → MayFit c.program t there
      by_type None k = unknown there
      by_type (Some u) k =
          let w = (designation_typed c openings here a taken u k later).known ms rest there (λ front back m asked split g. (answers front back m asked split g).typed) e in
          may_fit c.program openings u there w.1.0

  pub value_in_states : (e : Expr) → TakesAddressesOf c.func e → (y : Abs I) → IsVal d c.program c.id c.func register e y → (later : Registers) → Works IsIt (IsOwnStep c) (MayGive d.has y) ((meaning c e).next later)
  value_in_states e taken y h later =
      value_gives d all c register IsIt (IsOwnStep c) (λ r how k. Reads r how k refl) (λ r how x m k l answer. answer.in_sets.reads r how x refl l) (λ b. Branches b refl) (λ b m answer. answer.in_sets.branches b refl)
      (TakesAddressesOf c.func) (PlaceTakesAddressesOf c.func) (parts_take c.func) (place_parts_take c.func) fits e y h taken later

  pub place_in_states : (a : PlaceOf) → PlaceTakesAddressesOf c.func a → (s : Addrs) → Designates d c.program c.id c.func register a s → (later : Registers) → Works IsIt (IsOwnStep c) (LeadsInto s) ((designation c a).leads later)
  place_in_states a taken s h later =
      place_leads d all c register IsIt (IsOwnStep c) (λ r how k. Reads r how k refl) (λ r how x m k l answer. answer.in_sets.reads r how x refl l) (λ b. Branches b refl) (λ b m answer. answer.in_sets.branches b refl)
      (TakesAddressesOf c.func) (PlaceTakesAddressesOf c.func) (parts_take c.func) (place_parts_take c.func) fits a s h taken later
