-- Each statement in normal form at a point that is reached has there what it asks; tests by what else is known of them.
use Rattle.std.proofs.Common.{◌≡◌, inl, inr, ◌<◌, ◌^◌, ℕ, ℤ, Bool, true, false, true≢false, not, ◌&&◌, ◌||◌, List, [], ◌∷◌, Contains, Option, Some, None, zero, suc, refl, sym, ap, subst, ◌∙◌, slice_get}
use Rattle.std.specs.Prelude.{is_some, if◌then◌else◌}
use Rattle.std.specs.List.{list_all}
use Rattle.std.proofs.lemmas.List.Elements.{Contains-append_left, Contains-append_right}
use Rattle.std.proofs.lemmas.Option.{same_Some}
use Rattle.cc_state_values_sound.specs.CcControl.declared.phase.Phase.{Phase}
use Rattle.cc_state_values_sound.specs.CcControl.declared.phase.Phase.TheVariants.{First}
use Rattle.cc_state_values_sound.proofs.CcEval.Links.{pure_linked, register_linked}
use Rattle.cc_state_values_sound.proofs.CcEval.Opened.{meaning_at}
use Rattle.cc_state_values_sound.specs.CcEval.Context.{Context, reached}
use Rattle.cc_state_values_sound.specs.CcEval.declared.spots.Spot.{Spot}
use Rattle.cc_state_values_sound.specs.CcEval.Eval.{Meaning, opened}
use Rattle.cc_rules.specs.CcFlow.declared.next.Site.{Site}
use Rattle.cc_rules.specs.CcFlow.declared.types.Point.{Point}
use Rattle.cc_rules.specs.CcFlow.Points.{count_of, flow_of}
use Rattle.cc_rules.proofs.CcFlowSound.Opened.{NormalAt}
use Rattle.cc_rules.specs.CcFlowSound.Sites.{nexts}
use Rattle.cc_rules.specs.CcFlowSound.Statements.{statement_at}
use Rattle.cc_program.proofs.Each.{Each}
use Rattle.cc_program.specs.declared.expr.Expr.TheOpen as one
use Rattle.cc_program.specs.declared.expr.Expr.{Expr, out-Expr}
use Rattle.cc_program.specs.declared.expr.Intr.TheVariants as intr
use Rattle.cc_program.specs.declared.expr.Intr.{Intr}
use Rattle.cc_program.specs.declared.expr.Place.{Place}
use Rattle.cc_program.specs.declared.func.Func.{Func}
use Rattle.cc_program.specs.declared.program.Program.{Program}
use Rattle.cc_program.specs.declared.stmt.Case.{Case}
use Rattle.cc_program.specs.declared.stmt.Stmt.TheOpen as is
use Rattle.cc_program.specs.declared.stmt.Stmt.{Stmt, out-Stmt}
use Rattle.cc_program.specs.declared.value.Cell.TheVariants as cell
use Rattle.cc_program.specs.declared.value.Cell.{Cell}
use Rattle.cc_program.specs.declared.value.Root.TheVariants as root
use Rattle.cc_program.specs.declared.value.Value.{Value}
use Rattle.cc_proof_covers.specs.Invariant.{exit_of}
use Rattle.cc_proof_covers.specs.Rules.{KeepsFlag, IsHere}
use Rattle.cc_proof_covers.specs.Views.{View}
use Rattle.cc_proof_forms.specs.Sets.{OperandSets, sets_of}
use Rattle.cc_proof_forms.specs.StatementRules.{IsOperand, Leads, IsCellOf, WasReadIn, IsReadWhole, WriteRule, AreCallRules, RegisterRule, GetsOperand, GetsRead, GetsResult, GetsFlag, ExpressionRule, ToRegister, ToPlace, Calls, TurnsOff, TurnsOn, Restores, Saves, StatementRule, AtExpression, AtJump, AtReturn, AtEnd}
use Rattle.cc_proof_rules.proofs.Calls.{call_rule}
use Rattle.cc_proof_rules.proofs.CallTypes.{IsTypedCall, call_typed, assigned_typed as value_typed}
use Rattle.cc_proof_rules.proofs.Cells.{reached_is}
use Rattle.cc_proof_rules.proofs.Leads.{place_works}
use Rattle.cc_proof_rules.proofs.Lists.{in_first}
use Rattle.cc_proof_rules.proofs.Numbered.{some_is}
use Rattle.cc_proof_rules.proofs.Operands.{taken_in as taken_where, operand_at}
use Rattle.cc_proof_rules.proofs.PlaceReads.{WasIn, IsReadWholly, read_wholly, reads_flow, reads_flag, reads_value, reads_same}
use Rattle.cc_proof_rules.proofs.Shapes.{kept_apart}
use Rattle.cc_proof_rules.proofs.Sound.{its_normal, gives_none, expression_typed, assigned_typed, assignment_typed, loaded_typed, off_alone, on_alone, save_alone, restore_operand, saved_alone}
use Rattle.cc_proof_rules.proofs.Statements.{jump_passes, return_passes, turns, restores, saves_alone, saves_to, sets_flow, sets_flag, sets_value, sets_drop, returns_value}
use Rattle.cc_proof_rules.proofs.Apart.{assigned_keys, loaded_keys}
use Rattle.cc_proof_rules.proofs.TakenKeys.{expression_taken}
use Rattle.cc_proof_rules.proofs.Taken.{assigned_taken, loaded_taken, called_taken, operand_taken}
use Rattle.cc_proof_rules.proofs.PlaceWrites.{writes_flag, device_flows, static_flows, static_value, static_tracked, local_flows, local_other, local_value}
use Rattle.cc_proof_rules.specs.Operands.{Holds, LeadsAt}
use Rattle.cc_rules.specs.Rules.{act_at, IsSolution}
use Rattle.cc_rules.specs.CcRulesFlows.Acts.{Act, act_of}
use Rattle.cc_rules.specs.CcRulesFlows.Acts as act
use Rattle.cc_state.specs.Shape.{HaveShape}
use Rattle.cc_state.specs.View.{view}
use Rattle.cc_rules.specs.CcStateFacts.declared.facts.Facts.{Facts}
use Rattle.cc_rules.specs.CcStateFacts.declared.facts.PointFact.{PointFact}
use Rattle.cc_rules.specs.CcStateFacts.Facts.{fact_at}
use Rattle.cc_rules.specs.CcStateFacts.declared.facts.Key.{Key}
use Rattle.cc_rules.specs.CcStateKeys.Addressed.{in_place, taken_in, IsAddressed}
use Rattle.cc_state_values_sound.specs.CcStateOperators.Domains.{Domain}
use Rattle.cc_state_values_sound.proofs.Choices.{GivesAll}
use Rattle.cc_state_values_sound.proofs.CcStates.GivenLemmas.{read_as_written}
use Rattle.cc_state_values_sound.proofs.CcStates.Options.{either_true}
use Rattle.cc_state_values_sound.proofs.CcStates.TurnLemmas.{order_of}
use Rattle.cc_state_values_sound.specs.CcStates.Answers.{TakesAddressesOf, PlaceTakesAddressesOf}
use Rattle.cc_state_values_sound.specs.CcSteps.State.{Active, Memory}
use Rattle.cc_state_values_sound.specs.CcSteps.Step.{worked, is_return}
use Rattle.cc_state_values_sound.proofs.CcSyntax.NameRules.{sound-typed}
use Rattle.cc_state_values_sound.proofs.CcSyntax.Prefixes.{both_true}
use Rattle.cc_state_values_sound.specs.CcSyntax.Effects.{no_one, is_soft, effects_of, place_effects_of}
use Rattle.cc_state_values_sound.specs.CcSyntax.Folding.{is_folded, is_folded_place}
use Rattle.cc_state_values_sound.specs.CcSyntax.Forms.{form_of, form_at}
use Rattle.cc_state_values_sound.specs.CcSyntax.Normal.{IsNormal, is_operand, is_register_place, is_other_place, is_callee, is_call, is_place_read, is_expression_statement}
use Rattle.cc_state_values_sound.specs.CcSyntax.Programs.{type_of, place_type}
use Rattle.cc_state_values_sound.specs.CcSyntax.Types.{IsInOrder}
use Rattle.cc_state_values_sound.specs.CcSyntax.Values.{ValueType, NoValue, PlaceType, read_from}

yes_no : {C : Type 0} (b : Bool) → b ≡ true → b ≡ false → C
yes_no b h k = absurd (true≢false (sym h ∙ k))

register_of : (o : Option ℕ) → is_some o ≡ true → (r : ℕ) × (o ≡ Some r)
register_of None h = absurd (cc)
register_of (Some r) h = (r, refl)

no_register_of : (o : Option ℕ) → not (is_some o) ≡ true → o ≡ None
no_register_of None h = refl
no_register_of (Some r) h = absurd (cc)

module _ {I : Type 0} (d : Domain I) (all : GivesAll d) (p : Program) (normal : IsNormal p) (few : count_of p < 2 ^ 32) (facts : Facts I) (solution : IsSolution d p facts) (shape : HaveShape d p facts) (passes : ℕ → ℤ → Type 0) (passes_with : ℕ → ℕ → Value → ℤ → Type 0)
    (n : ℕ) (q : Point) (f : Func) (fact : PointFact I) (numbered : slice_get (flow_of p).points n ≡ Some q) (function : slice_get p.funcs q.func ≡ Some f) (there : fact_at facts n ≡ Some fact) (s : Stmt) (stands : statement_at f.body q.path ≡ Some s) where
  abbrev v : View
  v = view d p facts

  abbrev o : OperandSets
  o = sets_of (Holds d p facts) (LeadsAt d p facts) passes passes_with

  -- what its full expression takes is taken in the function
  abbrev IsTaken : Expr → Type 0
  IsTaken e = (m : Memory) (a : Active) → a.func ≡ q.func → IsHere p v m a f n → TakesAddressesOf f e

  abbrev IsTakenPlace : Place → Type 0
  IsTakenPlace a = (m : Memory) (b : Active) → b.func ≡ q.func → IsHere p v m b f n → PlaceTakesAddressesOf f a

  full_taken : (e : Expr) → ((phase : Phase) → worked (out-Stmt s) phase ≡ Some e) → IsTaken e
  full_taken e works m a own here = taken_where d all p normal few facts n q f numbered function m a own here s stands e works

  -- an operand
  abbrev Operand : Expr → Type 0
  Operand e = IsOperand p v o q.func f n e

  pub pure_operand : (e : Expr) → (effects_of f e).pure no_one ≡ true → IsTaken e → Operand e
  pure_operand e pure taken = operand_at d all p normal few facts n q f numbered function e pure taken

  pub its_operand : (e : Expr) → is_operand p.target f e ≡ true → IsTaken e → Operand e
  its_operand e h taken = pure_operand e (both_true ((effects_of f e).pure no_one) (is_folded p.target e) h).0 taken

  -- what is called: a function or a register
  c : Context
  c = record { program = p; number = 0; id = q.func; func = f }

  callee_by : (x : one.Expr-F Expr Place) → is_callee p.target f (form_at x) ≡ true → (opened c x).effects.pure no_one ≡ true
  unfolding c
  callee_by (one.FuncAddr g) h = refl
  callee_by (one.Load a) h =
      let r = register_of (place_effects_of f a).register h in
      ap (λ (z : Option ℕ). is_soft z no_one) (register_linked c a ∙ r.1)
  callee_by (one.Const z t) h = absurd (cc)
  callee_by (one.Null t) h = absurd (cc)
  callee_by (one.AddrOf a) h = absurd (cc)
  callee_by (one.Un z t a) h = absurd (cc)
  callee_by (one.Bin z t a b) h = absurd (cc)
  callee_by (one.Conv t a) h = absurd (cc)
  callee_by (one.Qualify t a) h = absurd (cc)
  callee_by (one.Move a b back) h = absurd (cc)
  callee_by (one.Gap a b) h = absurd (cc)
  callee_by (one.Compare z a b) h = absurd (cc)
  callee_by (one.Both a b) h = absurd (cc)
  callee_by (one.Either a b) h = absurd (cc)
  callee_by (one.Choose z a b) h = absurd (cc)
  callee_by (one.Assign a e) h = absurd (cc)
  callee_by (one.Change a z t e) h = absurd (cc)
  callee_by (one.After a down) h = absurd (cc)
  callee_by (one.Call g args) h = absurd (cc)
  callee_by (one.Intr i a) h = absurd (cc)
  callee_by (one.Seq a b) h = absurd (cc)

  pub callee_operand : (g : Expr) → is_callee p.target f (form_of g) ≡ true → IsTaken g → Operand g
  unfolding c
  callee_operand g h taken =
      pure_operand g (sym (pure_linked c g no_one) ∙ ap (λ (m : Meaning). m.effects.pure no_one) (meaning_at c g (out-Expr g) refl) ∙ callee_by (out-Expr g) h) taken

  operand_in : (args : List Expr) → list_all (is_operand p.target f) args ≡ true → (i : ℕ) (arg : Expr) → slice_get args i ≡ Some arg → is_operand p.target f arg ≡ true
  operand_in [] h i arg e = absurd (cc)
  operand_in (x ∷ args) h zero arg e = ap (is_operand p.target f) (sym (same_Some x arg e)) ∙ (both_true (is_operand p.target f x) (list_all (is_operand p.target f) args) h).0
  operand_in (x ∷ args) h (suc i) arg e = operand_in args (both_true (is_operand p.target f x) (list_all (is_operand p.target f) args) h).1 i arg e

  taken_at : (args : List Expr) → Each (TakesAddressesOf f) args → (i : ℕ) (arg : Expr) → slice_get args i ≡ Some arg → TakesAddressesOf f arg
  taken_at [] h i arg e = absurd (cc)
  taken_at (x ∷ args) h zero arg e = subst (TakesAddressesOf f) (same_Some x arg e) h.0
  taken_at (x ∷ args) h (suc i) arg e = taken_at args h.1 i arg e

  -- a pure expression is no call and no intrinsic, and where it is the read of a place that is a register
  abbrev IsPlain : one.Expr-F Expr Place → Type 0
  IsPlain x = (r : ℕ) (e : Expr) → act.gets f r e x ≡ act.Sets r e

  loads_plain : (a : Place) (w : Option ℕ) → is_soft w no_one ≡ true → (r : ℕ) (e : Expr) → act.loads r e a w ≡ act.Sets r e
  loads_plain a None h r e = absurd (cc)
  loads_plain a (Some z) h r e = refl

  plain_by : (x : one.Expr-F Expr Place) → (opened c x).effects.pure no_one ≡ true → IsPlain x
  unfolding c
  plain_by (one.Load a) h r e = loads_plain a (place_effects_of f a).register (ap (λ (z : Option ℕ). is_soft z no_one) (sym (register_linked c a)) ∙ h) r e
  plain_by (one.Call g args) h r e = absurd (cc)
  plain_by (one.Intr i a) h r e = absurd (cc)
  plain_by (one.FuncAddr g) h r e = refl
  plain_by (one.Const z t) h r e = refl
  plain_by (one.Null t) h r e = refl
  plain_by (one.AddrOf a) h r e = refl
  plain_by (one.Un z t a) h r e = refl
  plain_by (one.Bin z t a b) h r e = refl
  plain_by (one.Conv t a) h r e = refl
  plain_by (one.Qualify t a) h r e = refl
  plain_by (one.Move a b back) h r e = refl
  plain_by (one.Gap a b) h r e = refl
  plain_by (one.Compare z a b) h r e = refl
  plain_by (one.Both a b) h r e = refl
  plain_by (one.Either a b) h r e = refl
  plain_by (one.Choose z a b) h r e = refl
  plain_by (one.Assign a x) h r e = refl
  plain_by (one.Change a z t x) h r e = refl
  plain_by (one.After a down) h r e = refl
  plain_by (one.Seq a b) h r e = refl

  plain_operand : (e : Expr) → is_operand p.target f e ≡ true → IsPlain (out-Expr e)
  unfolding c
  plain_operand e h =
      plain_by (out-Expr e) (sym (ap (λ (m : Meaning). m.effects.pure no_one) (meaning_at c e (out-Expr e) refl)) ∙ pure_linked c e no_one ∙ (both_true ((effects_of f e).pure no_one) (is_folded p.target e) h).0)

  -- ---- full expressions, which go on to the point k

  module _ (k : ℕ) (next : Contains q.next k) (e : Expr) (is_do : out-Stmt s ≡ is.Do e) where
    abbrev Taken : IsTaken e
    Taken = full_taken e (λ phase. ap (λ z. worked z phase) is_do)

    acts_as : (x : one.Expr-F Expr Place) → out-Expr e ≡ x → act_of f s ≡ act.does f x
    acts_as x i = ap (act.acts f) is_do ∙ ap (act.does f) i

    abbrev IsText : Place → Type 0
    IsText b = (z : Key) → Contains (in_place p q.func f b).taken z → IsAddressed p z

    place_leads : (b : Place) → is_other_place p.target f b ≡ true → IsTakenPlace b → IsText b → Leads p v o q.func f n b
    place_leads b h taken text m a own here later =
        let w = both_true (not (is_register_place p.target f b)) ((place_effects_of f b).pure no_one && is_folded_place p.target b) h in
        let pure = (both_true ((place_effects_of f b).pure no_one) (is_folded_place p.target b) w.1).0 in
        let register = no_register_of (place_effects_of f b).register w.0 in
        let its = taken m a own here in
        place_works d all p normal few facts n q f numbered function m a own here b pure register its later (kept_apart d all p normal few facts shape n q f fact numbered function there m a own here b pure register its text later)

    text_of : (z : Key) → Contains (taken_in p q.func f e) z → IsAddressed p z
    text_of z h = expression_taken p q.func f function q.path s stands e z (ap (λ x. worked x First) is_do) h

    -- ---- calls

    calls : (result : Option ℕ) (g : Expr) (args : List Expr) → act_of f s ≡ act.Calls result g args → (u : ValueType) → IsTypedCall p f g args u → is_callee p.target f (form_of g) ≡ true → ((r : ℕ) → result ≡ Some r → u ≡ NoValue → ⊥) →
        AreCallRules p v o q.func f n k g args result
    calls result g args acts u call named gives h callee is may =
        call_rule d all p facts normal shape solution n q f fact numbered function there g args result (ap (λ (x : Option Stmt). act_at x f) stands ∙ acts) h callee is may u call named k next gives

    its_type : (u : ValueType) × (type_of p f.locals e ≡ Some u)
    its_type = some_is (type_of p f.locals e) (expression_typed p normal q.func f function q.path s stands e is_do)

    -- ---- assignments

    module _ (t : Place) (x : Expr) (assigns : out-Expr e ≡ one.Assign t x) where
      value_taken : IsTaken x
      value_taken m a own here = (assigned_taken f e t x assigns (Taken m a own here)).1

      place_text : IsText t
      place_text z h = text_of z (subst (λ (l : List Key). Contains l z) (sym (assigned_keys p q.func f e t x assigns)) (Contains-append_left (in_place p q.func f t).taken (taken_in p q.func f x) z h))

      value_text : (z : Key) → Contains (taken_in p q.func f x) z → IsAddressed p z
      value_text z h = text_of z (subst (λ (l : List Key). Contains l z) (sym (assigned_keys p q.func f e t x assigns)) (Contains-append_right (in_place p q.func f t).taken (taken_in p q.func f x) z h))

      place_taken : IsTakenPlace t
      place_taken m a own here = (assigned_taken f e t x assigns (Taken m a own here)).0

      module _ (r : ℕ) (register : (place_effects_of f t).register ≡ Some r) where
        gets_act : (y : one.Expr-F Expr Place) → out-Expr x ≡ y → act_of f s ≡ act.gets f r x y
        gets_act y i = acts_as (one.Assign t x) assigns ∙ ap (λ (z : Option ℕ). act.assigns f z t x) register ∙ ap (act.gets f r x) i

        gets_operand : is_operand p.target f x ≡ true → RegisterRule p v o q.func f n k t r x
        gets_operand h =
            let acts : act_of f s ≡ act.Sets r x = gets_act (out-Expr x) refl ∙ plain_operand x h r x in
            GetsOperand (its_operand x h value_taken)
            (λ w holds. record {
              flows = sets_flow d all p facts solution shape n q f fact numbered function there s stands k next r x acts;
              keeps = sets_flag d all p facts solution shape n q f fact numbered function there s stands k next r x acts;
              value = sets_value d all p facts solution shape n q f fact numbered function there s stands k next r x acts w holds;
            })
            (sets_drop d all p facts solution shape n q f fact numbered function there s stands k next r x acts)

        was_in : (to : Cell) (w : Value) → WasReadIn p v o q.func f n to w → WasIn d all p facts solution shape n q f fact numbered function there s stands to w
        was_in (cell.Device j) w h = h
        was_in (cell.At (root.Static i) path) w h = h
        was_in (cell.At (root.Auto number g z) path) w h = h

        typed_cell : (b : Place) → out-Expr x ≡ one.Load b → (to : Cell) → IsCellOf p v o q.func f n b to → (u : PlaceType) × (y : ValueType) × (place_type p f.locals b ≡ Some u) × (read_from u ≡ Some y)
        typed_cell b loads to at =
            let w = reached_is p (place_type p f.locals b) at.0 to at.2 in
            let typed = assignment_typed p normal q.func f function q.path s stands e t x is_do assigns in
            (w.type, typed.2, w.is_type, loaded_typed p normal q.func f function q.path s stands x b typed.2 w.type loads typed.5 w.is_type)

        wholly : (to : Cell) → IsReadWholly d all p facts solution shape n q f fact numbered function there s stands to → IsReadWhole p v o q.func f n to
        wholly (cell.Device j) h = h
        wholly (cell.At (root.Static i) path) h = h
        wholly (cell.At (root.Auto number g z) path) h = h

        read_whole : (b : Place) (to : Cell) → IsCellOf p v o q.func f n b to → (u : PlaceType) (y : ValueType) → place_type p f.locals b ≡ Some u → read_from u ≡ Some y → IsReadWhole p v o q.func f n to
        read_whole b to at u y typed reads = wholly to (read_wholly d all p facts solution shape n q f fact numbered function there s stands b at.0 at.1 to at.2 u y typed reads)

        gets_read : (b : Place) → out-Expr x ≡ one.Load b → is_other_place p.target f b ≡ true → RegisterRule p v o q.func f n k t r x
        gets_read b loads h =
            let none : (place_effects_of f b).register ≡ None = no_register_of (place_effects_of f b).register (both_true (not (is_register_place p.target f b)) ((place_effects_of f b).pure no_one && is_folded_place p.target b) h).0 in
            let acts : act_of f s ≡ act.Reads r b = gets_act (one.Load b) loads ∙ ap (act.loads r x b) none in
            GetsRead b loads (place_leads b h (λ m a own here. loaded_taken f x b loads (value_taken m a own here)) (λ z g. value_text z (subst (λ (l : List Key). Contains l z) (sym (loaded_keys p q.func f x b loads)) g)))
            (λ to there_is. let u = typed_cell b loads to there_is in read_whole b to there_is u.0 u.1 u.2 u.3)
            (λ to w there_is read.
            let u = typed_cell b loads to there_is in
            record {
              flows = reads_flow d all p facts solution shape n q f fact numbered function there s stands k next r b acts;
              keeps = reads_flag d all p facts solution shape n q f fact numbered function there s stands k next r b acts;
              value = reads_value d all p facts solution shape n q f fact numbered function there s stands k next r b acts there_is.0 there_is.1 to there_is.2 u.0 u.1 u.2 u.3 w (was_in to w read);
            })
            (λ to i there_is same. reads_same d all p facts solution shape n q f fact numbered function there s stands k next r b acts there_is.0 there_is.1 to there_is.2 i same)

        -- `r = irq_save()` and `r = g(..)`
        gets_call : (y : one.Expr-F Expr Place) → out-Expr x ≡ y → is_call p.target f (form_at y) ≡ true → RegisterRule p v o q.func f n k t r x
        gets_call (one.Call g args) i h =
            let w = both_true (is_callee p.target f (form_of g)) (list_all (is_operand p.target f) args) h in
            let typed = assigned_typed p normal q.func f function q.path s stands e t x is_do assigns in
            GetsResult g args i (callee_operand g w.0 (λ m a own here. (called_taken f x g args i (value_taken m a own here)).0))
            (λ j arg is. its_operand arg (operand_in args w.1 j arg is) (λ m a own here. taken_at args (called_taken f x g args i (value_taken m a own here)).1 j arg is))
            typed.0 typed.1
            (let has = value_typed p f e x t assigns its_type.0 its_type.1 in
            calls (Some r) g args (gets_act (one.Call g args) i) has.0 (call_typed p f x g args i has.0 has.1) w.0 (λ z is. has.2))
        gets_call (one.Intr i a) is h =
            let w = saved_alone p normal q.func f function q.path s stands e t x is_do assigns i a is in
            let typed = assigned_typed p normal q.func f function q.path s stands e t x is_do assigns in
            let acts : act_of f s ≡ act.Saves (Some r) = gets_act (one.Intr i a) is ∙ ap (λ (z : Intr). act.intrinsic (Some r) z a) w.0 in
            GetsFlag (is ∙ ap (λ (z : Intr). one.Intr z a) w.0 ∙ ap (λ (z : Option Expr). one.Intr intr.Save z) w.1) typed.0 typed.1
            (saves_to d all p facts solution shape n q f fact numbered function there s stands k next r acts)
        gets_call (one.FuncAddr g) i h = absurd (cc)
        gets_call (one.Load a) i h = absurd (cc)
        gets_call (one.Const z u) i h = absurd (cc)
        gets_call (one.Null u) i h = absurd (cc)
        gets_call (one.AddrOf a) i h = absurd (cc)
        gets_call (one.Un z u a) i h = absurd (cc)
        gets_call (one.Bin z u a b) i h = absurd (cc)
        gets_call (one.Conv u a) i h = absurd (cc)
        gets_call (one.Qualify u a) i h = absurd (cc)
        gets_call (one.Move a b back) i h = absurd (cc)
        gets_call (one.Gap a b) i h = absurd (cc)
        gets_call (one.Compare z a b) i h = absurd (cc)
        gets_call (one.Both a b) i h = absurd (cc)
        gets_call (one.Either a b) i h = absurd (cc)
        gets_call (one.Choose z a b) i h = absurd (cc)
        gets_call (one.Assign a y) i h = absurd (cc)
        gets_call (one.Change a z u y) i h = absurd (cc)
        gets_call (one.After a down) i h = absurd (cc)
        gets_call (one.Seq a b) i h = absurd (cc)

        gets_place : (y : one.Expr-F Expr Place) → out-Expr x ≡ y → is_place_read p.target f (form_at y) ≡ true → RegisterRule p v o q.func f n k t r x
        gets_place (one.Load a) i h = gets_read a i h
        gets_place (one.Call g args) i h = absurd (cc)
        gets_place (one.Intr z a) i h = absurd (cc)
        gets_place (one.FuncAddr g) i h = absurd (cc)
        gets_place (one.Const z u) i h = absurd (cc)
        gets_place (one.Null u) i h = absurd (cc)
        gets_place (one.AddrOf a) i h = absurd (cc)
        gets_place (one.Un z u a) i h = absurd (cc)
        gets_place (one.Bin z u a b) i h = absurd (cc)
        gets_place (one.Conv u a) i h = absurd (cc)
        gets_place (one.Qualify u a) i h = absurd (cc)
        gets_place (one.Move a b back) i h = absurd (cc)
        gets_place (one.Gap a b) i h = absurd (cc)
        gets_place (one.Compare z a b) i h = absurd (cc)
        gets_place (one.Both a b) i h = absurd (cc)
        gets_place (one.Either a b) i h = absurd (cc)
        gets_place (one.Choose z a b) i h = absurd (cc)
        gets_place (one.Assign a y) i h = absurd (cc)
        gets_place (one.Change a z u y) i h = absurd (cc)
        gets_place (one.After a down) i h = absurd (cc)
        gets_place (one.Seq a b) i h = absurd (cc)

        register_rule : (is_operand p.target f x || (is_place_read p.target f (form_of x) || is_call p.target f (form_of x))) ≡ true → RegisterRule p v o q.func f n k t r x
        register_rule h = elim (either_true (is_operand p.target f x) (is_place_read p.target f (form_of x) || is_call p.target f (form_of x)) h) [
          | inl operand ↦ gets_operand operand
          | inr other ↦ elim (either_true (is_place_read p.target f (form_of x)) (is_call p.target f (form_of x)) other) [ inl read ↦ gets_place (out-Expr x) refl read | inr call ↦ gets_call (out-Expr x) refl call ]
        ]

      -- a place that is no register
      module _ (other : is_other_place p.target f t ≡ true) where
        none_there : (place_effects_of f t).register ≡ None
        none_there = no_register_of (place_effects_of f t).register (both_true (not (is_register_place p.target f t)) ((place_effects_of f t).pure no_one && is_folded_place p.target t) other).0

        writes_act : act_of f s ≡ act.Writes t x
        writes_act = acts_as (one.Assign t x) assigns ∙ ap (λ (z : Option ℕ). act.assigns f z t x) none_there

        order : IsInOrder p.structures
        order = order_of p (sound-typed p normal.sound)

        write_rule : (to : Cell) (w : Value) → IsCellOf p v o q.func f n t to → o.holds n x w → WriteRule p v o q.func f n k to w
        write_rule to w at holds =
            let typed = assignment_typed p normal q.func f function q.path s stands e t x is_do assigns in
            let reads = read_as_written typed.0 typed.1 typed.4 in
            by at.0 at.1 at.2 typed.0 typed.1 typed.3 reads to refl
          where
            keeps : KeepsFlag p v n k
            keeps = writes_flag d all p order facts solution shape n q f fact numbered function there s stands k next t x writes_act

            by : (spot : Option Spot) (leads : LeadsAt d p facts n t spot) (reaches : reached p (place_type p f.locals t) spot ≡ Some to) (u : PlaceType) (y : ValueType) → place_type p f.locals t ≡ Some u → read_from u ≡ Some y → (z : Cell) → to ≡ z → WriteRule p v o q.func f n k z w
            by spot leads reaches u y typed reads (cell.Device j) is = record {
              flows = device_flows d all p order facts solution shape n q f fact numbered function there s stands k next t x writes_act spot leads to reaches u y typed reads j is;
              keeps = keeps;
            }
            by spot leads reaches u y typed reads (cell.At (root.Static i) path) is = record {
              writes = record { flows = static_flows d all p order facts solution shape n q f fact numbered function there s stands k next t x writes_act spot leads to reaches u y typed reads i path is; keeps = keeps };
              value = static_value d all p order facts solution shape n q f fact numbered function there s stands k next t x writes_act spot leads to reaches u y typed reads i path is w holds;
              tracked = static_tracked d all p order facts solution shape n q f fact numbered function there s stands k next t x writes_act spot leads to reaches u y typed reads i path is w holds;
            }
            by spot leads reaches u y typed reads (cell.At (root.Auto number g r) path) is = record {
              writes = record { flows = local_flows d all p order facts solution shape n q f fact numbered function there s stands k next t x writes_act spot leads to reaches u y typed reads number g r path is; keeps = keeps };
              other = local_other d all p order facts solution shape n q f fact numbered function there s stands k next t x writes_act spot leads to reaches u y typed reads number g r path is;
              value = local_value d all p order facts solution shape n q f fact numbered function there s stands k next t x writes_act spot leads to reaches u y typed reads number g r path is w holds;
            }

      assign_by : (b : Bool) → is_register_place p.target f t ≡ b → (if b then is_operand p.target f x || (is_place_read p.target f (form_of x) || is_call p.target f (form_of x)) else is_other_place p.target f t && is_operand p.target f x) ≡ true →
          ExpressionRule p v o q.func f n k e
      assign_by true is h = let r = register_of (place_effects_of f t).register is in ToRegister t x r.0 assigns r.1 (register_rule r.0 r.1 h)
      assign_by false is h =
          let w = both_true (is_other_place p.target f t) (is_operand p.target f x) h in
          ToPlace t x assigns (place_leads t w.0 place_taken place_text) (its_operand x w.1 value_taken) (λ to y at holds. write_rule w.0 to y at holds)

    -- ---- intrinsics and calls alone

    intrinsic_rule : (i : Intr) (a : Option Expr) → out-Expr e ≡ one.Intr i a → is_call p.target f (form_at (one.Intr i a)) ≡ true → ExpressionRule p v o q.func f n k e
    intrinsic_rule intr.Off a is h =
        let none = off_alone p normal q.func f function q.path s stands e a is_do is in
        let w = turns d all p facts solution shape n q f fact numbered function there s stands k next false (acts_as (one.Intr intr.Off a) is) in
        TurnsOff (is ∙ ap (λ (z : Option Expr). one.Intr intr.Off z) none) w.0 w.1
    intrinsic_rule intr.On a is h =
        let none = on_alone p normal q.func f function q.path s stands e a is_do is in
        let w = turns d all p facts solution shape n q f fact numbered function there s stands k next true (acts_as (one.Intr intr.On a) is) in
        TurnsOn (is ∙ ap (λ (z : Option Expr). one.Intr intr.On z) none) w.0 w.1
    intrinsic_rule intr.Save a is h =
        let none = save_alone p normal q.func f function q.path s stands e a is_do is in
        Saves (is ∙ ap (λ (z : Option Expr). one.Intr intr.Save z) none) (saves_alone d all p facts solution shape n q f fact numbered function there s stands k next (acts_as (one.Intr intr.Save a) is))
    intrinsic_rule intr.Restore None is h = absurd (let w = restore_operand p normal q.func f function q.path s stands e None is_do is in let z = w.1 in cc)
    intrinsic_rule intr.Restore (Some x) is h =
        Restores x is (its_operand x h (λ m a own here. operand_taken f e intr.Restore x is (Taken m a own here)))
        (λ w b holds t. restores d all p facts solution shape n q f fact numbered function there s stands k next x (acts_as (one.Intr intr.Restore (Some x)) is) w b holds t)

    expression_by : (y : one.Expr-F Expr Place) → out-Expr e ≡ y → is_expression_statement p.target f (form_at y) ≡ true → ExpressionRule p v o q.func f n k e
    expression_by (one.Assign t x) i h = assign_by t x i (is_register_place p.target f t) refl h
    expression_by (one.Call g args) i h =
        let w = both_true (is_callee p.target f (form_of g)) (list_all (is_operand p.target f) args) h in
        Calls g args i (callee_operand g w.0 (λ m a own here. (called_taken f e g args i (Taken m a own here)).0))
        (λ j arg is. its_operand arg (operand_in args w.1 j arg is) (λ m a own here. taken_at args (called_taken f e g args i (Taken m a own here)).1 j arg is))
        (calls None g args (acts_as (one.Call g args) i) its_type.0 (call_typed p f e g args i its_type.0 its_type.1) w.0 (λ r is. absurd (cc)))
    expression_by (one.Intr i a) is h = intrinsic_rule i a is h
    expression_by (one.FuncAddr g) i h = absurd (cc)
    expression_by (one.Load a) i h = absurd (cc)
    expression_by (one.Const z u) i h = absurd (cc)
    expression_by (one.Null u) i h = absurd (cc)
    expression_by (one.AddrOf a) i h = absurd (cc)
    expression_by (one.Un z u a) i h = absurd (cc)
    expression_by (one.Bin z u a b) i h = absurd (cc)
    expression_by (one.Conv u a) i h = absurd (cc)
    expression_by (one.Qualify u a) i h = absurd (cc)
    expression_by (one.Move a b back) i h = absurd (cc)
    expression_by (one.Gap a b) i h = absurd (cc)
    expression_by (one.Compare z a b) i h = absurd (cc)
    expression_by (one.Both a b) i h = absurd (cc)
    expression_by (one.Either a b) i h = absurd (cc)
    expression_by (one.Choose z a b) i h = absurd (cc)
    expression_by (one.Change a z u y) i h = absurd (cc)
    expression_by (one.After a down) i h = absurd (cc)
    expression_by (one.Seq a b) i h = absurd (cc)

    pub expression_rule : ExpressionRule p v o q.func f n k e
    expression_rule = expression_by (out-Expr e) refl (subst (λ (z : is.Stmt-F Stmt Case). NormalAt p.target f z) is_do (its_normal p normal q.func f function q.path s stands))

  -- ---- statements

  module _ (site : Site) (nexts_are : nexts (out-Stmt s) site ≡ q.next)
      (exit_is : site.exit ≡ exit_of p q.func f) (tests : (e : Expr) (these those : List Stmt) → out-Stmt s ≡ is.If e these those → StatementRule p v o q.func f n s site) (chooses : (e : Expr) (cases : List Case) → out-Stmt s ≡ is.Switch e cases → StatementRule p v o q.func f n s site) where
    is_next : (x : is.Stmt-F Stmt Case) → out-Stmt s ≡ x → (j : ℕ) → Contains (nexts x site) j → Contains q.next j
    is_next x i j h = subst (λ (l : List ℕ). Contains l j) (ap (λ (z : is.Stmt-F Stmt Case). nexts z site) (sym i) ∙ nexts_are) h

    jumps : (x : is.Stmt-F Stmt Case) → out-Stmt s ≡ x → is_return x ≡ false → ((e : Expr) → x ≡ is.Do e → ⊥) → act.acts f x ≡ act.Passes → StatementRule p v o q.func f n s site
    jumps x i stays none acts =
        AtJump (ap is_return i ∙ stays) (λ e h. none e (sym i ∙ h))
        (λ j h. jump_passes d all p facts solution shape n q f fact numbered function there s stands j (subst (λ (l : List ℕ). Contains l j) nexts_are h) (ap (act.acts f) i ∙ acts))

    exit_next : (e : Option Expr) → out-Stmt s ≡ is.Return e → Contains q.next (exit_of p q.func f)
    exit_next e i = subst (Contains q.next) exit_is (is_next (is.Return e) i site.exit (in_first site.exit []))

    rule_by : (x : is.Stmt-F Stmt Case) → out-Stmt s ≡ x → NormalAt p.target f x → StatementRule p v o q.func f n s site
    rule_by (is.Do e) i t =
        let next = is_next (is.Do e) i site.behind (in_first site.behind []) in
        AtExpression e i (expression_rule site.behind next e i)
    rule_by (is.If e these those) i t = tests e these those i
    rule_by (is.While e body) i t = jumps (is.While e body) i refl (λ z h. cc) refl
    rule_by (is.DoWhile body e) i t = absurd (cc)
    rule_by (is.For first test again body) i t = absurd (cc)
    rule_by (is.Switch e cases) i t = chooses e cases i
    rule_by is.Break i t = jumps is.Break i refl (λ z h. cc) refl
    rule_by is.Continue i t = jumps is.Continue i refl (λ z h. cc) refl
    rule_by (is.Return (Some e)) i t =
        let flow = return_passes d all p facts solution shape n q f fact numbered function there s stands (exit_of p q.func f) (exit_next (Some e) i) (Some e) (ap (act.acts f) i) in
        AtReturn e i (its_operand e t (full_taken e (λ phase. ap (λ z. worked z phase) i)))
        (λ w h. returns_value d all p facts solution shape n q f fact numbered function there s stands e (ap (act.acts f) i) w h) flow.0 flow.1
    rule_by (is.Return None) i t =
        let flow = return_passes d all p facts solution shape n q f fact numbered function there s stands (exit_of p q.func f) (exit_next None i) None (ap (act.acts f) i) in
        AtEnd i (gives_none p normal q.func f function q.path s stands i) flow.0 flow.1
    rule_by is.Empty i t = absurd (cc)
    rule_by (is.Block body) i t = absurd (cc)

    pub statement_rule : StatementRule p v o q.func f n s site
    statement_rule = rule_by (out-Stmt s) refl (its_normal p normal q.func f function q.path s stands)
