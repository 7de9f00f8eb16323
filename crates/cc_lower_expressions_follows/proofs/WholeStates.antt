-- What states of the source say: registers have their types, and so have the marks that steps leave and the arguments that are passed.
use Rattle.std.proofs.Common.{◌≡◌, ◌&&◌, ℕ, zero, suc, ℤ, Bool, true, false, not, List, [], ◌∷◌, ◌++◌, length, replicate, Option, Some, None, option_map, option_and_then, refl, ap, sym, ◌∙◌, subst, if◌then◌else◌}
use Rattle.std.specs.Prelude.{slice_get, is_some}
use Rattle.std.proofs.lemmas.Bool.{lt-ltb}
use Rattle.std.proofs.lemmas.List.{length-replicate}
use Rattle.std.proofs.lemmas.Option.{same_Some}
use Rattle.cc_states.specs.CcCells.Cells.{scalar_in}
use Rattle.cc_states.specs.CcCells.Scalars.{zeros}
use Rattle.cc_program.specs.declared.func.Func.{Func}
use Rattle.cc_program.specs.declared.program.Program.{Program}
use Rattle.cc_program.specs.declared.types.Shape.{out-Shape}
use Rattle.cc_program.specs.declared.types.Sig.{out-Sig}
use Rattle.cc_program.specs.declared.value.Value.{Value}
use Rattle.cc_states.specs.CcEval.Context.{local_type}
use Rattle.cc_states.specs.CcSteps.State.{Active, Memory, State, locals_with}
use Rattle.cc_states.specs.CcSteps.Turn.{start, turn}
use Rattle.cc_states.specs.CcSyntax.Expressions.{of_one}
use Rattle.cc_states.specs.CcSyntax.Initial.{place_at}
use Rattle.cc_states.specs.CcSyntax.Registers.{is_register, may_be_register, is_addressed}
use Rattle.cc_states.specs.CcSyntax.Sound.{IsTypedProgram}
use Rattle.cc_states.specs.CcSyntax.Types.{Named}
use Rattle.cc_states.specs.CcSyntax.Values.{ValueType, scalar_value, object_place, read_from}
use Rattle.cc_states.specs.States.{AreLocals, IsState}
use Rattle.cc_states.specs.Typed.{MayHave, AreArguments, cell_type}
use Rattle.cc_states.proofs.KeepLemmas.{get_last, arguments_more}
use Rattle.cc_states.proofs.LocalLemmas.{one_scalar, as_many, none_given, given}
use Rattle.cc_states.proofs.TurnLemmas.{order_of, function_sound, turn_state}
use Rattle.cc_states.proofs.StartLemmas.{start_state}
use Rattle.cc_meaning_simulations.specs.Bodies.{all_extended, extended}
use Rattle.cc_meaning_simulations.specs.LocalSteps.{Locals}
use Rattle.cc_meaning_simulations.specs.StepSimulations.{going}
use Rattle.cc_meaning_simulations.proofs.MoreLocals.{locals_begin}
use Rattle.cc_lower_expressions.specs.Programs.{lowered_body, temporaries}
use Rattle.cc_lower_expressions_follows.specs.Trees.{Setting, register_cell}
use Rattle.cc_lower_expressions_follows.specs.Registered.{flat, regs_in}
use Rattle.cc_lower_expressions_follows.specs.WholeFits.{setting_of, OpensWith}
use Rattle.cc_lower_expressions_follows.specs.WholeLists.{AreSame}
use Rattle.cc_lower_expressions_follows.specs.WholePlaces.{AllThere, opened_at}
use Rattle.cc_lower_expressions_follows.specs.WholeTrees.{AreTyped}
use Rattle.cc_lower_expressions_follows.proofs.WholePrograms.{SameRegisters}

both_left : (a b : Bool) → (a && b) ≡ true → a ≡ true
both_left true b h = refl
both_left false b h = absurd (cc)

has_value : {A : Type 0} (o : Option A) → is_some o ≡ true → (a : A) × (o ≡ Some a)
has_value None h = absurd (cc)
has_value (Some a) h = (a, refl)

-- a register is a local of a scalar type
pub record IsScalar (f : Func) (i : ℕ) : Type 0 where
  pub local : Named
  pub there : slice_get f.locals i ≡ Some local
  pub ctype : ValueType
  pub scalar : scalar_value local.1 ≡ Some ctype

register_by : (f : Func) (i : ℕ) (o : Option Named) → slice_get f.locals i ≡ o → may_be_register o ≡ true → IsScalar f i
register_by f i None e h = absurd (cc)
register_by f i (Some l) e h = let t = has_value (scalar_value l.1) (both_left (is_some (scalar_value l.1)) (not l.1.volatile) h) in record { local = l; there = e; ctype = t.0; scalar = t.1 }

pub register_scalar : (f : Func) (i : ℕ) → is_register f i ≡ true → IsScalar f i
unfolding is_register
register_scalar f i h = register_by f i (slice_get f.locals i) refl (both_left (may_be_register (slice_get f.locals i)) (not (is_addressed f i)) h)

module _ (P : Program) (sound : IsTypedProgram P) where
  abbrev Q : Program
  Q = all_extended (temporaries P) (lowered_body P) P

  abbrev new_of : Func → Func
  new_of f = extended (temporaries P) (lowered_body P) f

  -- ---- registers have their types

  module _ (openings : List ℕ) (number id : ℕ) (f : Func) (there : slice_get P.funcs id ≡ Some f) where
    abbrev w : Setting
    w = opened_at (setting_of P number id f) openings

    its_type : (i : ℕ) (x : IsScalar f i) → cell_type P (register_cell w i) ≡ Some x.ctype
    its_type i x =
        ap (λ (g : Option Func). of_one (of_one (local_type i g) (place_at P.structures [])) read_from) there ∙
        ap (λ (l : Option Named). of_one (of_one (option_map (λ (l : Named). object_place l.1) l) (place_at P.structures [])) read_from) x.there ∙ x.scalar

    module _ (locals : Locals) (typed : AreLocals P openings f locals) where
      scalar_there : (i : ℕ) (x : IsScalar f i) → (v : Option Value) × (scalar_in locals i 0 ≡ Some v) × MayHave P openings x.ctype v
      scalar_there i x =
          let values = typed.1 i x.local x.there in
          let v = values.2.typed [] x.ctype x.scalar in
          (v.0, ap (option_and_then (λ scalars. slice_get scalars 0)) values.1 ∙ v.1, v.2)

      pub all_there : AllThere f locals
      all_there i h = let v = scalar_there i (register_scalar f i h) in (v.0, v.1)

      pub registers_typed : AreTyped w (regs_in f locals)
      registers_typed i v h e =
          let x = register_scalar f i h in
          let y = scalar_there i x in
          let same : y.0 ≡ Some v = sym (ap (λ (b : Bool). if b then flat (scalar_in locals i 0) else None) h ∙ ap flat y.1) ∙ e in
          (x.ctype, its_type i x, subst (MayHave P openings x.ctype) same y.2)

  -- ---- a function is opened

  abbrev unwritten : Option Value
  unwritten = None

  no_first : (n : ℕ) → 1 ≡ n → slice_get (replicate n unwritten) 0 ≡ Some unwritten
  no_first n e = subst (λ (k : ℕ). slice_get (replicate k unwritten) 0 ≡ Some unwritten) e refl

  -- each scalar local has its scalar
  first_there : (args : List Value) (locals : List Named) (i : ℕ) (l : Named) (r : ValueType) → slice_get locals i ≡ Some l → scalar_value l.1 ≡ Some r → (v : Option Value) × (scalar_in (locals_with Q args locals) i 0 ≡ Some v)
  first_there args [] i l r e h = absurd (cc)
  first_there [] (x ∷ locals) zero l r e h =
      let same : x ≡ l = same_Some x l e in
      (None, no_first (length (zeros P.structures x.1)) (one_scalar P [] (order_of P sound) x.1 r (out-Shape x.1.shape) refl (ap (λ (y : Named). scalar_value y.1) same ∙ h)))
  first_there (v ∷ args) (x ∷ locals) zero l r e h = (Some v, refl)
  first_there [] (x ∷ locals) (suc i) l r e h = first_there [] locals i l r e h
  first_there (v ∷ args) (x ∷ locals) (suc i) l r e h = first_there args locals i l r e h

  module _ (same : SameRegisters P) (openings : List ℕ) (number id : ℕ) (args : List Value) (opened : slice_get openings number ≡ Some id) where
    opens_by : ((f : Func) → slice_get P.funcs id ≡ Some f → AreLocals P openings f (locals_with P args f.locals)) → OpensWith P number id args
    opens_by typed f there =
        let locals = locals_with P args f.locals in (
          openings,
          opened,
          registers_typed openings number id f there locals (typed f there),
          record { same = same_there; has_p = all_there openings number id f there locals (typed f there); has_q = has_there },
        )
      where
        same_there : AreSame (setting_of P number id f) (regs_in f (locals_with P args f.locals)) (regs_in (new_of f) (locals_with Q args (new_of f).locals))
        same_there i b =
            ap (λ (o : Option (List (Option Value))). if is_register f i then flat (option_and_then (λ scalars. slice_get scalars 0) o) else None)
            (sym (locals_begin (temporaries P) (lowered_body P) P P Q refl args f.locals (temporaries P f) i (lt-ltb i (length f.locals) b))) ∙
            ap (λ (r : Bool). if r then flat (scalar_in (locals_with Q args (new_of f).locals) i 0) else None) (sym (same id f there i b))

        has_there : AllThere (new_of f) (locals_with Q args (new_of f).locals)
        has_there i h = let x = register_scalar (new_of f) i h in first_there args (new_of f).locals i x.local x.ctype x.there x.scalar

  -- one that nothing is passed to
  pub nothing_passed : SameRegisters P → (number id : ℕ) → OpensWith P number id []
  nothing_passed same number id =
      let openings : List ℕ = replicate number id ++ id ∷ [] in
      opens_by same openings number id [] (get_last (replicate number id) id number (length-replicate number id))
      (λ f there. (as_many P openings (order_of P sound) [] f.locals, none_given P openings (order_of P sound) f.locals))

  -- and one that takes its arguments
  pub arguments_passed : SameRegisters P → (openings : List ℕ) (number id : ℕ) (args : List Value) → length openings ≡ number → ((f : Func) → slice_get P.funcs id ≡ Some f → AreArguments P openings (out-Sig f.sig).params args) → OpensWith P number id args
  arguments_passed same openings number id args count typed =
      let all : List ℕ = openings ++ id ∷ [] in
      opens_by same all number id args (get_last openings id number count)
      (λ f there. (
        as_many P all (order_of P sound) args f.locals,
        given P all (order_of P sound) (out-Sig f.sig).params f.locals args (function_sound P sound id f there).first (arguments_more P openings (id ∷ []) (out-Sig f.sig).params args (typed f there)),
      ))

  -- ---- in states

  pub running_typed : (m : Memory) (b : Active) (below : List Active) (opened : ℕ) → IsState P (going m (b ∷ below) opened) → (f : Func) → slice_get P.funcs b.func ≡ Some f →
      (openings : List ℕ) × (slice_get openings b.number ≡ Some b.func) × AreTyped (opened_at (setting_of P b.number b.func f) openings) (regs_in f b.locals)
  running_typed m b below opened h f there =
      let a = h.1.stack.0 in
      let same : a.func ≡ f = same_Some a.func f (sym a.function ∙ there) in
      (h.0, a.number, registers_typed h.0 b.number b.func f there b.locals (subst (λ (g : Func). AreLocals P h.0 g b.locals) same a.locals))

  pub states_kept : (t : State) → IsState P t → (arrival : Option ℕ) → IsState P (turn P t arrival)
  states_kept t h arrival = turn_state P sound t h arrival

  pub states_begin : (inputs : List ℤ) → IsState P (start P inputs)
  states_begin inputs = start_state P sound inputs
