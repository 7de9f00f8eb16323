-- Statements that read and write no place but registers: at their points facts have what they ask.
use Rattle.std.proofs.Common.{◌≡◌, inl, inr, ℕ, Bool, true, false, not, ◌||◌, true≢false, List, [], map, Contains, Option, Some, None, refl, sym, ap, subst, ◌∙◌, slice_get}
use Rattle.std.specs.Prelude.{if◌then◌else◌}
use Rattle.std.proofs.lemmas.List.Elements.{All-contains}
use Rattle.std.proofs.lemmas.Option.{same_Some}
use Rattle.cc_rules.specs.CcFlow.declared.types.Point.{Point}
use Rattle.cc_rules.specs.CcFlow.Points.{flow_of}
use Rattle.cc_rules.specs.CcFlowSound.Statements.{statement_at}
use Rattle.cc_program.specs.CcNum.Results.{one_if}
use Rattle.cc_state_values_sound.specs.CcPlaces.declared.abs.Abs.{Abs}
use Rattle.cc_state_values_sound.specs.CcPlaces.declared.abs.Abs.TheVariants as abs
use Rattle.cc_state_values_sound.specs.CcPlaces.Abstract.{HasValue}
use Rattle.cc_program.specs.declared.expr.Expr.{Expr}
use Rattle.cc_program.specs.declared.func.Func.{Func}
use Rattle.cc_program.specs.declared.program.Program.{Program}
use Rattle.cc_program.specs.declared.stmt.Stmt.{Stmt}
use Rattle.cc_program.specs.declared.value.Value.TheVariants.{Int}
use Rattle.cc_program.specs.declared.value.Value.{Value}
use Rattle.cc_proof_covers.specs.Rules.{Flows, KeepsFlag}
use Rattle.cc_proof_covers.specs.Views.{View}
use Rattle.cc_proof_forms.specs.CallRules.{SaveRule}
use Rattle.cc_proof_rules.proofs.Arrivals.{has_more, known_flag, flows_of, keeps_flag, keeps_all, keeps_flags, with_flags_keeps, with_local_keeps, with_local_has, with_local_pair}
use Rattle.cc_proof_rules.proofs.Asked.{FlowOf, flow_of_act, ReturnOf, return_of_act}
use Rattle.cc_proof_rules.proofs.Lists.{in_first}
use Rattle.cc_proof_rules.proofs.Asks.{Comes, known_point, flow_met, return_met, to_all_arrives, fact_flag}
use Rattle.cc_proof_rules.specs.Arrivals.{flag_in, HasFlag, IsKnown, IsPairIn, Arrives, Keeps, KeepsFlags}
use Rattle.cc_proof_rules.specs.Operands.{Holds}
use Rattle.cc_rules.specs.Rules.{act_at, IsSolution}
use Rattle.cc_rules.specs.CcRulesFlows.Acts.{Act, Sets, Saves, Turns, Restores, Returns, Passes, act_of}
use Rattle.cc_rules.specs.CcRulesFlows.Flows.{FlagValue}
use Rattle.cc_rules.specs.CcRulesFlows.Nexts.{IsPoint, statement_of}
use Rattle.cc_rules.specs.CcRulesNeeds.Flowing.{Flowing, of_fact, with_local, with_flags}
use Rattle.cc_rules.specs.CcRulesNeeds.Needs.{Needs, Has as HasPart, HasAll}
use Rattle.cc_rules.specs.CcRulesNeeds.declared.needs.Part.{Part}
use Rattle.cc_rules.specs.CcRulesNeeds.declared.needs.Part.TheVariants.{Values}
use Rattle.cc_rules.specs.CcRulesNeeds.declared.needs.Slot.{Slot}
use Rattle.cc_rules.specs.CcRulesNeeds.declared.needs.Slot.TheVariants.{Result}
use Rattle.cc_state.specs.Shape.{HaveShape}
use Rattle.cc_state.specs.View.{view}
use Rattle.cc_rules.specs.CcStateFacts.declared.facts.Facts.{Facts}
use Rattle.cc_rules.specs.CcStateFacts.declared.facts.PointFact.{PointFact}
use Rattle.cc_rules.specs.CcStateFacts.Facts.{fact_at}
use Rattle.cc_rules.specs.CcStateKeys.Tracked.{register_number}
use Rattle.cc_state_values_sound.specs.CcStateOperators.Domains.{Domain, MayBe}
use Rattle.cc_rules.specs.CcStateReads.Reads.{registers_at}
use Rattle.cc_state_values_sound.specs.CcStateValues.Values.{IsVal}
use Rattle.cc_state_values_sound.proofs.Choices.{GivesAll}
use Rattle.cc_state_values_sound.specs.CcValues.Values.{is_true, truth}

-- a value that is known to be one of the two truths
truth_is : (w : Value) (b : Bool) → truth (Some w) ≡ Some b → is_true w ≡ b
truth_is w b h = same_Some (is_true w) b h

module _ {I : Type 0} (d : Domain I) (all : GivesAll d) (p : Program) (facts : Facts I) (solution : IsSolution d p facts) (shape : HaveShape d p facts) (n : ℕ) (q : Point) (f : Func) (fact : PointFact I)
    (numbered : slice_get (flow_of p).points n ≡ Some q) (function : slice_get p.funcs q.func ≡ Some f) (there : fact_at facts n ≡ Some fact) (s : Stmt) (stands : statement_at f.body q.path ≡ Some s) where
  abbrev v : View
  v = view d p facts

  abbrev here : Flowing I
  here = of_fact fact

  pub known : IsKnown d p facts n f fact
  known = known_point d all p facts solution n q f fact numbered function there

  pub here_flag : HasFlag here
  here_flag = fact_flag d all p facts solution shape n q f fact numbered function there

  pub own_point : IsPoint p n q.func f q
  own_point = record { numbered = numbered; own = refl; function = function }

  -- an operand's value is in each of its sets
  pub held : (e : Expr) (w : Value) (y : Abs I) → Holds d p facts n e w → IsVal d p q.func f (registers_at facts f n) e y → HasValue d.has y w
  held e w y h val = h q.func f q own_point y val

  -- ---- what flows, by what the statement does

  module _ (act : Act) (acts : act_of f s ≡ act) where
    abbrev pub the_act : act_at (statement_of f q) f ≡ act
    the_act = ap (λ (o : Option Stmt). act_at o f) stands ∙ acts

    -- what flows to the next points, and that it comes there
    abbrev pub IsFlow : Type 0
    IsFlow = (ns : Needs I) × (flows : List (ℕ × Flowing I)) × FlowOf d p q.func f facts q n fact act flows × Comes d all p facts solution n q f fact numbered function there q.next flows ns × HasAll d.below ns facts

    pub flowing : IsFlow
    flowing =
        let m = flow_met d all p facts solution n q f fact numbered function there in (
          m.0,
          m.1.0,
          subst (λ (z : Act). FlowOf d p q.func f facts q n fact z m.1.0) the_act (flow_of_act d p q.func f facts q n fact (act_at (statement_of f q) f) m.1.0 m.1.1),
          m.1.2,
          m.2,
        )

    pub arriving : (w : IsFlow) (k : ℕ) → Contains q.next k → (flow : Flowing I) → HasFlag flow → w.1 ≡ map (λ k. (k, flow)) q.next → Arrives d p facts k f flow
    arriving w k next flow flag is = to_all_arrives d all p facts solution n q f fact numbered function there k next flow flag w.1 w.0 w.3 w.4 is

  -- ---- the same as here

  module _ (k : ℕ) (flow : Flowing I) (arrived : Arrives d p facts k f flow) where
    pub flows_same : (register object : Option ℕ) → Keeps d p facts f fact register object flow → Flows p v n k register object
    flows_same register object keeps = flows_of d all p facts n k f fact known flow arrived register object keeps

    pub flag_same : KeepsFlags d p facts fact flow → KeepsFlag p v n k
    flag_same keeps = keeps_flag d all p facts n k f fact known flow arrived keeps

  module _ (k : ℕ) (next : Contains q.next k) where
    -- a statement that does nothing to memory
    pub passes_on : (act : Act) → act_of f s ≡ act → ((flows : List (ℕ × Flowing I)) → FlowOf d p q.func f facts q n fact act flows → flows ≡ map (λ k. (k, here)) q.next) → Flows p v n k None None × KeepsFlag p v n k
    passes_on act acts same =
        let w = flowing act acts in
        let arrived = arriving act acts w k next here here_flag (same w.1 w.2) in
        (flows_same k here arrived None None (keeps_all d all p facts f fact), flag_same k here arrived (keeps_flags d all p facts f fact))

    pub jump_passes : act_of f s ≡ Passes → Flows p v n k None None × KeepsFlag p v n k
    jump_passes acts = passes_on Passes acts (λ flows is. is)

    pub return_passes : (e : Option Expr) → act_of f s ≡ Returns e → Flows p v n k None None × KeepsFlag p v n k
    return_passes e acts = passes_on (Returns e) acts (λ flows is. is)

    -- ---- the flag

    turned_flag : (on : Bool) → HasFlag (with_flags (not on) on here)
    turned_flag true = inr refl
    turned_flag false = inl refl

    turned_is : (on : Bool) → flag_in (with_flags (not on) on here) on ≡ true
    turned_is true = refl
    turned_is false = refl

    pub turns : (on : Bool) → act_of f s ≡ Turns on → Flows p v n k None None × v.may_be k on
    turns on acts =
        let w = flowing (Turns on) acts in
        let flow = with_flags (not on) on here in
        let arrived = arriving (Turns on) acts w k next flow (turned_flag on) w.2 in (
          flows_same k flow arrived None None (with_flags_keeps d all p facts f fact (not on) on None None here (keeps_all d all p facts f fact)),
          arrived.flags on (turned_is on),
        )

    -- restored to a value that it may have
    told : (b off on : Bool) → (b ≡ false → off ≡ true) → (b ≡ true → on ≡ true) → ((off || on) ≡ true) × HasFlag (with_flags off on here) × (flag_in (with_flags off on here) b ≡ true)
    told true off on h k = (or_right off on (k refl), inr (k refl), k refl)
      where
        or_right : (a b : Bool) → b ≡ true → (a || b) ≡ true
        or_right true b e = refl
        or_right false b e = e
    told false off on h k = (or_left off on (h refl), inl (h refl), h refl)
      where
        or_left : (a b : Bool) → a ≡ true → (a || b) ≡ true
        or_left true b e = refl
        or_left false b e = absurd (true≢false (sym e))

    pub restores : (x : Expr) → act_of f s ≡ Restores x → (w : Value) (b : Bool) → Holds d p facts n x w → truth (Some w) ≡ Some b → Flows p v n k None None × v.may_be k b
    restores x acts w b h t =
        let g = flowing (Restores x) acts in
        let y = g.2.0 in
        let off = g.2.1 in
        let on = g.2.2 in
        let value = held x w y h g.2.3 in
        let may : MayBe d b y = (w, value, truth_is w b t) in
        let flag = told b off on (λ e. g.2.4.1 (subst (λ (z : Bool). MayBe d z y) e may)) (λ e. g.2.5.1 (subst (λ (z : Bool). MayBe d z y) e may)) in
        let flow = with_flags off on here in
        let is : g.1 ≡ map (λ k. (k, flow)) q.next = g.2.6 ∙ ap (λ (z : Bool). if z then map (λ (j : ℕ). (j, flow)) q.next else []) flag.0 in
        let arrived = arriving (Restores x) acts g k next flow flag.1 is in (
          flows_same k flow arrived None None (with_flags_keeps d all p facts f fact off on None None here (keeps_all d all p facts f fact)),
          arrived.flags b flag.2,
        )

    -- saved without a register
    pub saves_alone : act_of f s ≡ Saves None → SaveRule p v n k None
    saves_alone acts =
        let w = flowing (Saves None) acts in
        let flow = with_flags true false here in
        let arrived = arriving (Saves None) acts w k next flow (inl refl) w.2 in
        record {
          flows = flows_same k flow arrived None None (with_flags_keeps d all p facts f fact true false None None here (keeps_all d all p facts f fact));
          off = arrived.flags false refl;
          gives = λ b may r e. none_some r e;
          pairs = λ r i e h. none_some r e;
        }
      where
        none_some : {C : Type 0} (r : ℕ) → None ≡ Some r → C
        none_some r e = absurd (cc)

    -- saved to one
    module _ (r : ℕ) (acts : act_of f s ≡ Saves (Some r)) where
      abbrev saved : IsFlow (Saves (Some r)) acts
      saved = flowing (Saves (Some r)) acts

      flag_value : (b : Bool) → v.may_be n b → FlagValue d p q.func f facts q n fact (one_if b)
      flag_value b may = by b (known_flag d all p facts n f fact known b may)
        where
          by : (b : Bool) → flag_in here b ≡ true → FlagValue d p q.func f facts q n fact (one_if b)
          by true e = inr (e, refl)
          by false e = inl (e, refl)

      pub saves_to : SaveRule p v n k (Some r)
      saves_to =
          let number = saved.2.0 in
          let x = saved.2.1 in
          let reg = saved.2.2 in
          let set : Abs I = abs.Ints x in
          let flow = with_flags true false (with_local number set here) in
          let arrived = arriving (Saves (Some r)) acts saved k next flow (inl refl) saved.2.4 in
          record {
            flows = flows_same k flow arrived (Some r) None (with_flags_keeps d all p facts f fact true false (Some r) None (with_local number set here) (with_local_keeps d all p facts f fact r number reg set));
            off = arrived.flags false refl;
            gives = λ b may z e. arrived.locals z number (Int (one_if b)) (ap (register_number f) (sym (same_Some r z e)) ∙ reg) (with_local_has d all p facts f fact r number reg set (Int (one_if b)) (saved.2.3.has_all (one_if b) (flag_value b may)));
            pairs = λ z i e h. with_local_pair d all p facts f fact r number reg set i (subst (λ (j : ℕ). IsPairIn d p facts f flow j i) (sym (same_Some r z e)) (arrived.pairs z i h));
          }

    -- ---- a register gets an operand

    module _ (r : ℕ) (x : Expr) (acts : act_of f s ≡ Sets r x) where
      abbrev got : IsFlow (Sets r x) acts
      got = flowing (Sets r x) acts

      abbrev set_flow : Flowing I
      set_flow = with_local got.2.0 got.2.1 here

      set_arrived : Arrives d p facts k f set_flow
      set_arrived = arriving (Sets r x) acts got k next set_flow here_flag got.2.4

      pub sets_flow : Flows p v n k (Some r) None
      sets_flow = flows_same k set_flow set_arrived (Some r) None (with_local_keeps d all p facts f fact r got.2.0 got.2.2 got.2.1)

      pub sets_flag : KeepsFlag p v n k
      sets_flag = flag_same k set_flow set_arrived (record { off = λ e. e; on = λ e. e })

      pub sets_value : (w : Value) → Holds d p facts n x w → v.local k r w
      sets_value w h = set_arrived.locals r got.2.0 w got.2.2 (with_local_has d all p facts f fact r got.2.0 got.2.2 got.2.1 w (held x w got.2.1 h got.2.3))

      pub sets_drop : (i : ℕ) → v.same k r i → ⊥
      sets_drop i h = with_local_pair d all p facts f fact r got.2.0 got.2.2 got.2.1 i (set_arrived.pairs r i h)

  -- ---- returns

  pub returns_value : (e : Expr) → act_of f s ≡ Returns (Some e) → (w : Value) → Holds d p facts n e w → v.result q.func w
  returns_value e acts w h =
      let m = return_met d all p facts solution n q f fact numbered function there in
      let g = subst (λ (z : Act). ReturnOf d p q.func f facts q n fact z m.0) (the_act (Returns (Some e)) acts) (return_of_act d p q.func f facts q n fact (act_at (statement_of f q) f) m.0 m.1) in
      let need : Slot × Part I = (Result q.func, Values (Some g.0)) in
      let has : HasPart d.below facts need = All-contains (HasPart d.below facts) m.0 need m.2 (subst (λ (z : Needs I). Contains z need) (sym g.2) (in_first need [])) in
      inl (has_more d all p facts (Some g.0) (slice_get facts.results q.func) w has (g.0, refl, held e w g.0 h g.1))
