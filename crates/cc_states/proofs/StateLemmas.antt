-- In a state of a sound program what the next step needs is there.
use Rattle.std.proofs.Common.{◌≡◌, ℕ, suc, Bool, true, false, List, [], ◌∷◌, length, Option, Some, None, refl, ap, sym, ◌∙◌, subst}
use Rattle.std.proofs.lemmas.Bool.{eqb-true}
use Rattle.std.proofs.lemmas.List.Elements.{All-nil, All-cons}
use Rattle.std.proofs.lemmas.Option.{same_Some}
use Rattle.std.specs.List.{All}
use Rattle.std.specs.Prelude.{option_map, option_and_then, slice_get, if◌then◌else◌, ◌==◌}
use Rattle.cc_program.specs.declared.expr.Expr.{Expr}
use Rattle.cc_program.specs.declared.func.Func.{Func}
use Rattle.cc_program.specs.declared.object.Device.{Device}
use Rattle.cc_program.specs.declared.object.Object.{Object}
use Rattle.cc_program.specs.declared.program.Program.{Program}
use Rattle.cc_program.specs.declared.types.CType.{CType}
use Rattle.cc_program.specs.declared.types.Sig.{out-Sig}
use Rattle.cc_program.specs.declared.value.Address.{Address}
use Rattle.cc_program.specs.declared.value.Address.TheVariants as address
use Rattle.cc_program.specs.declared.value.Cell.{Cell}
use Rattle.cc_program.specs.declared.value.Cell.TheVariants as cell
use Rattle.cc_program.specs.declared.value.Part.{Part}
use Rattle.cc_program.specs.declared.value.Root.TheVariants as root
use Rattle.cc_program.specs.declared.value.Value.{Value}
use Rattle.cc_steps.specs.CcCells.Cells.{scalar_in}
use Rattle.cc_steps.specs.CcCells.Scalars.{position}
use Rattle.cc_steps.specs.CcEval.declared.action.Action.{Action}
use Rattle.cc_steps.specs.CcEval.declared.action.Action.TheVariants.{Read, Write, Choose, Call, Flag, Save}
use Rattle.cc_steps.specs.CcEval.Context.{local_type, object_type}
use Rattle.cc_steps.specs.CcEval.Eval.{next_of}
use Rattle.cc_steps.specs.CcEval.Progress.{Waits}
use Rattle.cc_steps.proofs.CcEval.Links.{type_linked}
use Rattle.cc_steps.specs.Access.{is_open}
use Rattle.cc_steps.specs.State.{Active, State}
use Rattle.cc_steps.specs.Step.{progress_in, progress_of, cell_position}
use Rattle.cc_steps.specs.CcSyntax.Effects.{no_one}
use Rattle.cc_steps.specs.CcSyntax.Expressions.{of_one}
use Rattle.cc_steps.specs.CcSyntax.Programs.{type_of}
use Rattle.cc_steps.specs.CcSyntax.Initial.{place_at}
use Rattle.cc_steps.specs.CcSyntax.Operators.{is_handler}
use Rattle.cc_steps.specs.CcSyntax.Sound.{any_names, IsTypedProgram, IsFuncBy}
use Rattle.cc_steps.specs.CcSyntax.Types.{Named}
use Rattle.cc_steps.specs.CcSyntax.Values.{ValueType, Integer, PlaceType, object_place, read_from}
use Rattle.cc_steps.proofs.CcSyntax.Parts.{all_at}
use Rattle.cc_states.specs.Answers.{AreReached, IsAction, IsCall, IsMarkOf}
use Rattle.cc_states.specs.States.{AreWritten, AreStatics, expression_of, AreMarks, context_in, IsActive, AreActive, IsState, local_scalar, IsCellThere, IsCalleeThere, IsPossible}
use Rattle.cc_states.specs.Typed.{HasType, MayHave, cell_type, IsThere, AreArguments}
use Rattle.cc_states.proofs.AddressLemmas.{expression_takes}
use Rattle.cc_states.proofs.EvalTypes.{meaning_typed}
use Rattle.cc_states.proofs.Options.{mapped}
use Rattle.cc_states.proofs.SoundLemmas.{level_typed}
use Rattle.cc_steps.proofs.CcEval.Works.{answers_of}

-- ---- what is asked for can be done

module _ (p : Program) (openings : List ℕ) where
  asked_by : (a : Active) (h : IsActive p openings a) (action : Action) (x : Option Expr) → expression_of a ≡ x → AreMarks (context_in p a h.func) openings x a.marks →
      progress_in p a.number a.func a.marks (Some h.func) x ≡ Waits action → IsAction p openings action × AreReached p a.number action
  asked_by a h action None e m w = absurd (cc)
  asked_by a h action (Some e') e m w =
      let t = level_typed p h.func a.here a.around h.control e' e in
      (meaning_typed (context_in p a h.func) openings (record { function = h.function; number = h.number }) e' (expression_takes h.func a e' h.inside e) t.0 (type_linked (context_in p a h.func) e' ∙ t.1) no_one).waits a.marks action (answers_of (IsMarkOf p openings) (next_of (context_in p a h.func) e') a.marks m) w

  pub asked : (a : Active) → IsActive p openings a → (action : Action) → progress_of p a (expression_of a) ≡ Waits action → IsAction p openings action
  asked a h action w =
      (asked_by a h action (expression_of a) refl h.marks (ap (λ (f : Option Func). progress_in p a.number a.func a.marks f (expression_of a)) (sym h.function) ∙ w)).0

  pub reaches : (a : Active) → IsActive p openings a → (action : Action) → progress_of p a (expression_of a) ≡ Waits action → AreReached p a.number action
  reaches a h action w =
      (asked_by a h action (expression_of a) refl h.marks (ap (λ (f : Option Func). progress_in p a.number a.func a.marks f (expression_of a)) (sym h.function) ∙ w)).1

  -- ---- cells

  pub nothing_there : {C : Type 0} (w : ValueType) (x : Option ValueType) → x ≡ None → x ≡ Some w → C
  nothing_there w x h k = absurd (cc)

  pub static_there : (statics : List (List Value)) (i : ℕ) (path : List Part) (w : ValueType) (x : Option Object) → AreStatics p openings statics → slice_get p.objects i ≡ x → cell_type p (cell.At (root.Static i) path) ≡ Some w →
      (v : Value) × (scalar_in statics i (cell_position p (root.Static i) path) ≡ Some v) × HasType p openings w v
  static_there statics i path w None h e k =
      nothing_there w _ (ap (λ (y : Option Object). of_one (of_one (option_map (λ (o : Object). object_place o.ctype) y) (place_at p.structures path)) read_from) e) k
  static_there statics i path w (Some o) h e k =
      let place : object_type p (root.Static i) ≡ Some (object_place o.ctype) = ap (option_map (λ (o : Object). object_place o.ctype)) e in
      let values = h.1 i o e in
      let v = values.2.typed path w (ap (λ (y : Option PlaceType). of_one (of_one y (place_at p.structures path)) read_from) (sym place) ∙ k) in
      (v.0, ap (option_and_then (λ scalars. slice_get scalars (cell_position p (root.Static i) path))) values.1 ∙ ap (λ (y : Option PlaceType). slice_get values.0 (position p.structures path y)) place ∙ v.1, v.2)

  pub local_in : (a : Active) (h : IsActive p openings a) (number local : ℕ) (path : List Part) (w : ValueType) (x : Option Named) → slice_get h.func.locals local ≡ x → cell_type p (cell.At (root.Auto number a.func local) path) ≡ Some w →
      (v : Option Value) × (scalar_in a.locals local (cell_position p (root.Auto number a.func local) path) ≡ Some v) × MayHave p openings w v
  local_in a h number local path w None e k =
      nothing_there w _ (ap (λ (y : Option Func). of_one (of_one (local_type local y) (place_at p.structures path)) read_from) h.function
      ∙ ap (λ (y : Option Named). of_one (of_one (option_map (λ (l : Named). object_place l.1) y) (place_at p.structures path)) read_from) e) k
  local_in a h number local path w (Some l) e k =
      let place : object_type p (root.Auto number a.func local) ≡ Some (object_place l.1) = ap (local_type local) h.function ∙ ap (option_map (λ (l : Named). object_place l.1)) e in
      let values = h.locals.1 local l e in
      let v = values.2.typed path w (ap (λ (y : Option PlaceType). of_one (of_one y (place_at p.structures path)) read_from) (sym place) ∙ k) in
      (v.0, ap (option_and_then (λ scalars. slice_get scalars (cell_position p (root.Auto number a.func local) path))) values.1 ∙ ap (λ (y : Option PlaceType). slice_get values.0 (position p.structures path y)) place ∙ v.1, v.2)

  pub same_opening : (number func other : ℕ) → slice_get openings number ≡ Some func → slice_get openings number ≡ Some other → func ≡ other
  same_opening number func other h k = same_Some func other (sym h ∙ k)

  abbrev LocalThere : List Active → ℕ → ℕ → ℕ → Type 0
  LocalThere stack number local k = (v : Option Value) × (local_scalar stack number local k ≡ Some v)

  local_here : (a : Active) (h : IsActive p openings a) (below : List Active) (number func local : ℕ) (path : List Part) (w : ValueType) (b : Bool) → a.number == number ≡ b → slice_get openings number ≡ Some func →
      cell_type p (cell.At (root.Auto number func local) path) ≡ Some w → (if b then true else is_open below number) ≡ true → (is_open below number ≡ true → LocalThere below number local (cell_position p (root.Auto number func local) path)) →
      (v : Option Value) × ((if b then scalar_in a.locals local (cell_position p (root.Auto number func local) path) else local_scalar below number local (cell_position p (root.Auto number func local) path)) ≡ Some v)
  local_here a h below number func local path w true e o k is_there next =
      let same : a.func ≡ func = same_opening number a.func func (subst (λ (n : ℕ). slice_get openings n ≡ Some a.func) (eqb-true a.number number e) h.number) o in
      subst (λ (f : ℕ). (v : Option Value) × (scalar_in a.locals local (cell_position p (root.Auto number f local) path) ≡ Some v)) same
      (let v = local_in a h number local path w (slice_get h.func.locals local) refl (subst (λ (f : ℕ). cell_type p (cell.At (root.Auto number f local) path) ≡ Some w) (sym same) k) in (v.0, v.1))
  local_here a h below number func local path w false e o k is_there next = next is_there

  pub local_there : (stack : List Active) → AreActive p openings stack → (number func local : ℕ) (path : List Part) (w : ValueType) → slice_get openings number ≡ Some func → cell_type p (cell.At (root.Auto number func local) path) ≡ Some w →
      is_open stack number ≡ true → LocalThere stack number local (cell_position p (root.Auto number func local) path)
  local_there [] h number func local path w o k e = absurd (cc)
  local_there (a ∷ below) h number func local path w o k e =
      local_here a h.0 below number func local path w (a.number == number) refl o k e (λ is_there. local_there below h.1 number func local path w o k is_there)

  device_there : (d : ℕ) (w : ValueType) → option_map (λ (d : Device). Integer d.int) (slice_get p.devices d) ≡ Some w → (device : Device) × (slice_get p.devices d ≡ Some device)
  device_there d w h = let m = mapped (λ (d : Device). Integer d.int) (slice_get p.devices d) w h in (m.0, m.1)

  cell_there : (s : State) (at : Cell) (w : ValueType) → AreStatics p openings s.memory.statics → AreActive p openings s.stack → cell_type p at ≡ Some w → IsThere openings at → IsCellThere p s at
  cell_there s (cell.Device d) w h k e t = device_there d w e
  cell_there s (cell.At (root.Static i) path) w h k e t = let v = static_there s.memory.statics i path w (slice_get p.objects i) h refl e in (v.0, v.1)
  cell_there s (cell.At (root.Auto number func local) path) w h k e t = λ is_there. local_there s.stack k number func local path w t e is_there

  -- ---- calls

  as_many : (params : List CType) (args : List Value) → AreArguments p openings params args → length args ≡ length params
  as_many [] [] h = refl
  as_many [] (v ∷ vs) h = absurd h
  as_many (t ∷ ts) [] h = absurd h
  as_many (t ∷ ts) (v ∷ vs) h = ap suc (as_many ts vs h.1)

  callee_there : IsTypedProgram p → (callee : Address) (args : List Value) → IsCall p openings callee args → IsCalleeThere p callee args
  callee_there sound address.Null args h = tt
  callee_there sound (address.Func f) args h =
      (h.0, h.1, as_many (out-Sig h.0.sig).params args h.2 ∙ sym (eqb-true h.0.params (length (out-Sig h.0.sig).params) (all_at (IsFuncBy p any_names) p.funcs f h.0 h.1 sound.funcs).count))
  callee_there sound (address.At object path index count) args h = tt

  pub possible : IsTypedProgram p → (s : State) → AreStatics p openings s.memory.statics → AreActive p openings s.stack → (action : Action) → IsAction p openings action → IsPossible p s action
  possible sound s h k (Read at manner) i = cell_there s at i.0 h k i.1 i.2
  possible sound s h k (Write at is_event v) i = cell_there s at i.0 h k i.1 i.2
  possible sound s h k (Choose b) i = tt
  possible sound s h k (Call callee args) i = callee_there sound callee args i
  possible sound s h k (Flag on) i = tt
  possible sound s h k Save i = tt

module _ (p : Program) (openings : List ℕ) where
  abbrev FunctionThere : Active → Type 0
  FunctionThere a = (f : Func) × (slice_get p.funcs a.func ≡ Some f)

  pub functions_there : (stack : List Active) → AreActive p openings stack → All FunctionThere stack
  functions_there [] h = All-nil FunctionThere
  functions_there (a ∷ below) h = All-cons FunctionThere a below (h.0.func, h.0.function) (functions_there below h.1)

  -- what the entry of a handler opened
  abbrev pub IsEntry : Active → Type 0
  IsEntry a = a.handler ≡ true → (f : Func) × (slice_get p.funcs a.func ≡ Some f) × (is_handler f ≡ true)

  pub entries_there : (stack : List Active) → AreActive p openings stack → All IsEntry stack
  entries_there [] h = All-nil IsEntry
  entries_there (a ∷ below) h = All-cons IsEntry a below (λ entered. (h.0.func, h.0.function, h.0.entry entered)) (entries_there below h.1)

  abbrev pub HasParameters : Active → Type 0
  HasParameters a = (f : Func) × (slice_get p.funcs a.func ≡ Some f) × AreWritten f.params a.locals

  pub parameters_there : (stack : List Active) → AreActive p openings stack → All HasParameters stack
  parameters_there [] h = All-nil HasParameters
  parameters_there (a ∷ below) h = All-cons HasParameters a below (h.0.func, h.0.function, h.0.parameters) (parameters_there below h.1)

module _ (p : Program) (sound : IsTypedProgram p) (s : State) (h : IsState p s) (a : Active) (below : List Active) (top : s.stack ≡ a ∷ below) where
  on_top : IsActive p h.0 a
  on_top = (subst (AreActive p h.0) top h.1.stack).0

  pub step_possible : (action : Action) → progress_of p a (expression_of a) ≡ Waits action → IsPossible p s action
  step_possible action w = possible p h.0 sound s h.1.statics h.1.stack action (asked p h.0 a on_top action w)

  pub expression_typed : (e : Expr) → expression_of a ≡ Some e → (f : Func) × (t : ValueType) × (slice_get p.funcs a.func ≡ Some f) × (type_of p f.locals e ≡ Some t)
  expression_typed e k =
      let t = level_typed p on_top.func a.here a.around on_top.control e k in
      (on_top.func, t.0, on_top.function, t.1)
