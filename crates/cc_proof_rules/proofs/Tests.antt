-- The outcome of a test in a run is one that it may have, also with any register at what that holds; and where it leads facts have what it
-- leaves.
use Rattle.std.proofs.Common.{◌≡◌, ◌⊎◌, inl, inr, ℕ, ℤ, Bool, true, false, true≢false, List, ◌∷◌, Contains, Option, Some, None, slice_get, refl, ap, sym, ◌∙◌, subst}
use Rattle.std.specs.Prelude.{◌==◌, option_and_then, if◌then◌else◌}
use Rattle.std.proofs.lemmas.Bool.{eqb-true, eq-eqb}
use Rattle.std.proofs.lemmas.Option.{same_Some}
use Rattle.cc_state_values_sound.specs.CcCells.Cells.{scalar_in}
use Rattle.cc_state_values_sound.proofs.CcEval.Works.{answers_of}
use Rattle.cc_state_values_sound.specs.CcEval.Context.{Context}
use Rattle.cc_state_values_sound.specs.CcEval.declared.action.Action.{Action}
use Rattle.cc_state_values_sound.specs.CcEval.declared.action.Action.TheVariants as action
use Rattle.cc_state_values_sound.specs.CcEval.declared.action.Manner.{Manner}
use Rattle.cc_state_values_sound.specs.CcEval.declared.mark.Mark.{Mark}
use Rattle.cc_state_values_sound.specs.CcEval.declared.spots.Spot.{Spot}
use Rattle.cc_state_values_sound.specs.CcEval.Eval.{meaning, next_of}
use Rattle.cc_state_values_sound.specs.CcEval.Marks.{AnswerSteps, Works}
use Rattle.cc_state_values_sound.specs.CcEval.Progress.{Known, given}
use Rattle.cc_rules.specs.CcFlow.declared.next.Site.{Site}
use Rattle.cc_rules.specs.CcFlow.declared.types.Point.{Point}
use Rattle.cc_rules.specs.CcFlow.Points.{flow_of, size_of}
use Rattle.cc_rules.proofs.CcFlowSound.Opened.{form_size, size_at}
use Rattle.cc_rules.specs.CcFlowSound.Sites.{arm_point, nexts}
use Rattle.cc_program.specs.CcNum.declared.op.BinOp.{BinOp}
use Rattle.cc_program.specs.CcNum.declared.int_type.IntType.{IntType}
use Rattle.cc_program.specs.CcNum.Results.{one_if}
use Rattle.cc_state_values_sound.specs.CcPlaces.Abstract.{HasValue}
use Rattle.cc_state_values_sound.specs.CcPlaces.declared.abs.Abs.{Abs}
use Rattle.cc_state_values_sound.specs.CcPlaces.declared.abs.Abs.TheVariants as abs
use Rattle.cc_program.specs.declared.expr.Expr.{Expr, out-Expr, roll-Expr, roll-out-Expr}
use Rattle.cc_program.specs.declared.expr.Expr.TheOpen as one
use Rattle.cc_program.specs.declared.expr.Place.{Place as PlaceOf}
use Rattle.cc_program.specs.declared.func.Func.{Func}
use Rattle.cc_program.specs.declared.program.Program.{Program}
use Rattle.cc_program.specs.declared.stmt.Case.{Case}
use Rattle.cc_program.specs.declared.stmt.Stmt.TheOpen as is
use Rattle.cc_program.specs.declared.stmt.Stmt.{Stmt, out-Stmt}
use Rattle.cc_program.specs.declared.value.Value.{Value}
use Rattle.cc_program.specs.declared.value.Value.TheVariants.{Int}
use Rattle.cc_proof_covers.specs.Invariant.{IsCurrent}
use Rattle.cc_proof_covers.specs.Rules.{IsHere}
use Rattle.cc_proof_covers.specs.Views.{View}
use Rattle.cc_proof_forms.specs.Branches.{switch_point, LeadsOut}
use Rattle.cc_proof_forms.specs.Refined.{AtMember, MayLead, Refines}
use Rattle.cc_proof_forms.specs.Sets.{OperandSets, sets_of}
use Rattle.cc_proof_forms.specs.StatementRules.{StatementRule, AtIf, AtSwitch}
use Rattle.cc_proof_rules.proofs.Arrivals.{known_local}
use Rattle.cc_proof_rules.proofs.Registers.{register_is}
use Rattle.cc_proof_rules.proofs.SidePoints.{IsOut, if_nexts, side_found, arm_next, switch_nexts, choice_found, choice_next}
use Rattle.cc_proof_rules.proofs.Sides.{side_refines}
use Rattle.cc_proof_rules.proofs.Staying.{KeepsMembers, AnyStep, stays_left}
use Rattle.cc_proof_rules.proofs.Switched.{chosen_integer, number_passes}
use Rattle.cc_proof_rules.specs.Arrivals.{IsKnown}
use Rattle.cc_proof_rules.specs.Outcomes.{test_of, IsTestIn, IsTestAt, PassesAt, PassesWith}
use Rattle.cc_rules.specs.Rules.{act_at, IsSolution}
use Rattle.cc_rules.specs.CcRulesFlows.Acts.{acts}
use Rattle.cc_rules.specs.CcRulesFlows.Flows.{tests_of}
use Rattle.cc_rules.specs.CcRulesFlows.Nexts.{statement_of, sides, choices}
use Rattle.cc_rules.specs.CcRulesFlows.Tests.{Test, Is, Passes, MayPass, with_member, IsLeft}
use Rattle.cc_state.specs.Shape.{HaveShape}
use Rattle.cc_state.specs.View.{view}
use Rattle.cc_rules.specs.CcStateFacts.declared.facts.Facts.{Facts}
use Rattle.cc_rules.specs.CcStateFacts.declared.facts.PointFact.{PointFact}
use Rattle.cc_rules.specs.CcStateFacts.Facts.{fact_at, local_at, local_of}
use Rattle.cc_rules.specs.CcStateKeys.Tracked.{register_number}
use Rattle.cc_state_values_sound.specs.CcStateOperators.Domains.{Domain}
use Rattle.cc_rules.specs.CcStateReads.Reads.{registers_at}
use Rattle.cc_state_values_sound.specs.CcStateValues.Values.{IsVal}
use Rattle.cc_state_values_sound.proofs.Choices.{GivesAll}
use Rattle.cc_state_values_sound.proofs.InStates.{value_in_states}
use Rattle.cc_state_values_sound.specs.Steps.{MayGive, own_cell}
use Rattle.cc_state_values_sound.specs.Typed.{IsTypedAnswer}
use Rattle.cc_state_values_sound.proofs.CcStates.AddressLemmas.{expression_takes, parts_at, rolled_takes}
use Rattle.cc_state_values_sound.specs.CcStates.Answers.{IsActivation, IsMarkOf, AreItsMarks, TakesAddressesOf, PlaceTakesAddressesOf}
use Rattle.cc_state_values_sound.specs.CcStates.Inside.{AreInside}
use Rattle.cc_state_values_sound.specs.CcStates.States.{expression_of, worked_at, context_in, AreMarks}
use Rattle.cc_state_values_sound.specs.CcSteps.State.{Active, Memory}
use Rattle.cc_state_values_sound.specs.CcSteps.Step.{worked, progress_at, progress_in, progress_of, number_in}
use Rattle.cc_state_values_sound.specs.CcSyntax.Effects.{Registers, no_one}
use Rattle.cc_state_values_sound.specs.CcSyntax.Registers.{is_register}
use Rattle.cc_state_values_sound.specs.CcValues.Values.{is_true}

-- ---- addresses that operands take

two_taken : (f : Func) (e a b : Expr) (o : BinOp) (t : IntType) → out-Expr e ≡ one.Bin o t a b → TakesAddressesOf f e → TakesAddressesOf f a × TakesAddressesOf f b
two_taken f e a b o t i h =
    parts_at f (TakesAddressesOf f) (PlaceTakesAddressesOf f) (one.Bin o t a b) (λ k. k, λ k. k)
    (rolled_takes f (TakesAddressesOf f) (PlaceTakesAddressesOf f) (one.Bin o t a b) (subst (TakesAddressesOf f) (sym (roll-out-Expr e) ∙ ap roll-Expr i) h))

same_truth : (a b : Bool) → one_if a ≡ one_if b → a ≡ b
same_truth true true e = refl
same_truth true false e = absurd (cc)
same_truth false true e = absurd (cc)
same_truth false false e = refl

module _ {I : Type 0} (d : Domain I) (all : GivesAll d) (keeps : KeepsMembers d) (p : Program) (facts : Facts I) where
  abbrev v : View
  v = view d p facts

  -- ---- a test whose value is known, in a run

  module _ (n : ℕ) (f : Func) (m : Memory) (a : Active) (here : IsHere p v m a f n) (fact : PointFact I) (known : IsKnown d p facts n f fact) (e : Expr) (works : expression_of a ≡ Some e) (w : Value) (ms : List Mark)
      (gives : progress_of p a (expression_of a) ≡ Known (Some w) ms) where
    abbrev c : Context
    c = context_in p a f

    abbrev sets : ℕ → Option (Abs I)
    sets = registers_at facts f n

    same_func : here.active.func ≡ f
    same_func = same_Some here.active.func f (sym here.active.function ∙ here.function)

    taken : TakesAddressesOf f e
    taken = expression_takes f a e (subst (λ (g : Func). AreInside g.body (a.here ∷ a.around)) same_func here.active.inside) works

    activation : IsActivation c here.openings
    activation = record { function = here.function; number = here.active.number }

    progress_e : (ns : List Mark) → progress_at p a.number a.func ns (expression_of a) ≡ next_of c e ns
    progress_e ns = ap (progress_at p a.number a.func ns) works ∙ ap (λ (g : Option Func). progress_in p a.number a.func ns g (Some e)) here.function

    -- each mark has the type of its step, and is what was read
    abbrev IsMark : Action → Mark → Type 0
    IsMark asked mark = IsMarkOf p here.openings asked mark × IsCurrent p v m a f n asked mark

    typed_marks : AreItsMarks p here.openings (next_of c e) a.marks
    typed_marks =
        subst (λ (g : Func). AreMarks (context_in p a g) here.openings (Some e) a.marks) same_func
        (subst (λ (o : Option Expr). AreMarks (context_in p a here.active.func) here.openings o a.marks) works here.active.marks)

    answers : AnswerSteps IsMark (next_of c e) a.marks
    answers front back mark asked split waits = (
      answers_of (IsMarkOf p here.openings) (next_of c e) a.marks typed_marks front back mark asked split waits,
      answers_of (IsCurrent p v m a f n) (next_of c e) a.marks (λ front back mark split. let h = here.memory.marks refl front back mark split in (h.0, sym (progress_e front) ∙ h.1, h.2)) front back mark asked split waits,
    )

    told : (P : Option Value → Type 0) → ((later : Registers) → Works IsMark AnyStep P ((meaning c e).next later)) → P (Some w)
    told P h = ((h no_one).known a.marks ms (Some w) answers (sym (progress_e a.marks) ∙ gives)).1

    -- a read of a register gives what it holds
    reads_own : (r : ℕ) → is_register f r ≡ true → (how : Manner) (mark : Mark) → IsMark (action.Read (own_cell c r) how) mark → (u : Value) → given mark ≡ Some u → scalar_in a.locals r 0 ≡ Some (Some u)
    reads_own r own how mark h u g = let k = h.1 in (k.2 u (sym (ap given k.1) ∙ g)).0 refl own

    -- ---- with sets of registers that have what those hold

    module _ (register : ℕ → Option (Abs I)) (fits : (q : ℕ) (y : Abs I) → register q ≡ Some y → (is_register f q ≡ true) × ((u : Value) → scalar_in a.locals q 0 ≡ Some (Some u) → HasValue d.has y u)) where
      typed_answer : (asked : Action) (mark : Mark) → IsMark asked mark → IsTypedAnswer d.has c here.openings register asked mark
      typed_answer asked mark h = record {
        typed = h.0;
        in_sets = record {
          reads = λ q how y is at. read_in q how y (subst (λ (x : Action). IsMark x mark) is h) at (given mark) refl;
          branches = λ b is. (subst (λ (x : Action). IsMark x mark) is h).1;
        };
      }
        where
          read_in : (q : ℕ) (how : Manner) (y : Abs I) → IsMark (action.Read (own_cell c q) how) mark → register q ≡ Some y → (o : Option Value) → given mark ≡ o → MayGive d.has y o
          read_in q how y k at None g = tt
          read_in q how y k at (Some u) g = let s = fits q y at in s.1 u (reads_own q s.0 how mark k u g)

      value_given : (k : Expr) → TakesAddressesOf f k → (y : Abs I) → IsVal d p a.func f register k y → (later : Registers) → Works IsMark AnyStep (MayGive d.has y) ((meaning c k).next later)
      value_given k takes y val later =
          let works_it = value_in_states d all c here.openings activation register k takes y val later in
          record {
            known = λ ns rest o marks g. works_it.known ns rest o (λ front back mark asked split waits. typed_answer asked mark (marks front back mark asked split waits)) g;
            waits = λ ns asked marks g. tt;
          }

    -- the sets of the point
    set_of : (q : ℕ) (y : Abs I) (u : Value) → sets q ≡ Some y → v.local n q u → HasValue d.has y u
    set_of q y u at h =
        let k = known_local d all p facts n f fact known q u h in
        let is : sets q ≡ local_of fact k.0 = ap (option_and_then (local_at facts n)) k.1 ∙ ap (option_and_then (λ (x : PointFact I). local_of x k.0)) known.there in
        subst (λ (z : Abs I). HasValue d.has z u) (same_Some k.2.0 y (sym k.2.1 ∙ sym is ∙ at)) k.2.2

    register_in : (q : ℕ) (y : Abs I) → sets q ≡ Some y → is_register f q ≡ true
    register_in q y at = by (register_number f q) refl at
      where
        by : (o : Option ℕ) → register_number f q ≡ o → option_and_then (local_at facts n) o ≡ Some y → is_register f q ≡ true
        by None g h = absurd (cc)
        by (Some number) g h = register_is f q number g

    sets_fit : (q : ℕ) (y : Abs I) → sets q ≡ Some y → (is_register f q ≡ true) × ((u : Value) → scalar_in a.locals q 0 ≡ Some (Some u) → HasValue d.has y u)
    sets_fit q y at = let own = register_in q y at in (own, λ u h. set_of q y u at (here.registers q u own h))

    may_pass : (test : Test) → Passes test w → MayPass d p a.func f sets e test
    may_pass test passed y val = (w, told (MayGive d.has y) (value_given sets sets_fit e taken y val), passed)

    -- ---- with a register at what it holds

    module _ (r : ℕ) (x : Value) (own : is_register f r ≡ true) (at : (q : ℕ) (u : Value) → is_register f q ≡ true → scalar_in a.locals q 0 ≡ Some (Some u) → AtMember v n r x q u) where
      it_holds : (u : Value) → scalar_in a.locals r 0 ≡ Some (Some u) → u ≡ x
      it_holds u h = by (at r u own h)
        where
          by : AtMember v n r x r u → u ≡ x
          by (inl k) = k.1
          by (inr k) = absurd (k.0 refl)

      module _ (z : ℤ) (is : x ≡ Int z) (single : I) (has : d.has single z) (test : Test) where
        abbrev member_sets : ℕ → Option (Abs I)
        member_sets = with_member d p a.func f sets e test r single

        in_member : (q : ℕ) (y : Abs I) (b : Bool) → (q == r) ≡ b → (if b then Some (abs.Ints single) else sets q) ≡ Some y → (is_register f q ≡ true) × ((u : Value) → scalar_in a.locals q 0 ≡ Some (Some u) → HasValue d.has y u)
        in_member q y true g h =
            let same : q ≡ r = eqb-true q r g in (
              ap (is_register f) same ∙ own,
              λ u k.
                  (let value : u ≡ Int z = it_holds u (subst (λ (s : ℕ). scalar_in a.locals s 0 ≡ Some (Some u)) same k) ∙ is in
                  subst (λ (s : Abs I). HasValue d.has s u) (same_Some (abs.Ints single) y h) (subst (λ (s : Value). HasValue d.has (abs.Ints single) s) (sym value) has)),
            )
        in_member q y false g h =
            let own_q = register_in q y h in
            (own_q, λ u k. by u (at q u own_q k))
          where
            by : (u : Value) → AtMember v n r x q u → HasValue d.has y u
            by u (inl k) = absurd (true≢false (sym (eq-eqb q r k.0) ∙ g))
            by u (inr k) = set_of q y u h k.1

        member_value : (y : Abs I) → IsVal d p a.func f member_sets e y → HasValue d.has y w
        member_value y val = told (MayGive d.has y) (value_given member_sets (λ q u h. in_member q u (q == r) refl h) e taken y val)

      left_with : (test : Test) → Passes test w → (y u : Abs I) → IsLeft d p a.func f sets e test r y u → HasValue d.has y x → HasValue d.has u x
      left_with test passed y u left h =
          stays_left d keeps c IsMark sets r x (λ how mark k u g. it_holds u (reads_own r own how mark k u g)) e test w told passed
          (λ z is single has o t b k i part which s val later. value_given (member_sets z is single has test) (λ q u h. in_member z is single has test q u (q == r) refl h) part (by o t b k i part which) s val later)
          (λ z is single has s val. member_value z is single has test s val) y u left h
        where
          by : (o : BinOp) (t : IntType) (b k : Expr) → out-Expr e ≡ one.Bin o t b k → (part : Expr) → (part ≡ b) ⊎ (part ≡ k) → TakesAddressesOf f part
          by o t b k i part (inl same) = subst (TakesAddressesOf f) (sym same) (two_taken f e b k o t i taken).0
          by o t b k i part (inr same) = subst (TakesAddressesOf f) (sym same) (two_taken f e b k o t i taken).1

  -- ---- at a statement

  module _ (n : ℕ) (q : Point) (f : Func) (numbered : slice_get (flow_of p).points n ≡ Some q) (function : slice_get p.funcs q.func ≡ Some f) (s : Stmt) (there : statement_of f q ≡ Some s) (fact : PointFact I) (fact_there : fact_at facts n ≡ Some fact) where
    known_here : IsKnown d p facts n f fact
    known_here = record { function = (q, numbered, function); there = fact_there }

    -- what is tested there
    record IsTested (z : ℤ) (id : ℕ) (g : Func) (e : Expr) (test : Test) : Type 0 where
      pub id_is : q.func ≡ id
      pub func_is : f ≡ g
      pub tests : IsTestIn (out-Stmt s) z e test

    tested : (z : ℤ) (id : ℕ) (g : Func) (e : Expr) (test : Test) → IsTestAt p n z id g e test → IsTested z id g e test
    tested z id g e test h =
        let point : q ≡ h.point = same_Some q h.point (sym numbered ∙ h.is_point.numbered) in
        let id_is : q.func ≡ id = ap (λ (x : Point). x.func) point ∙ h.is_point.own in
        let func_is : f ≡ g = same_Some f g (sym function ∙ ap (slice_get p.funcs) id_is ∙ h.is_point.function) in
        let statement : s ≡ h.statement = same_Some s h.statement (sym there ∙ ap (λ (x : Func). statement_of x q) func_is ∙ ap (statement_of g) point ∙ h.there) in
        record { id_is = id_is; func_is = func_is; tests = subst (λ (x : Stmt). IsTestIn (out-Stmt x) z e test) (sym statement) h.tests }

    test_at : (z : ℤ) (e : Expr) (test : Test) → IsTestIn (out-Stmt s) z e test → IsTestAt p n z q.func f e test
    test_at z e test h = record { point = q; is_point = record { numbered = numbered; own = refl; function = function }; statement = s; there = there; tests = h }

    module _ (m : Memory) (a : Active) (own : a.func ≡ q.func) (here : IsHere p v m a f n) (rest : List Stmt) (first : a.here.rest ≡ s ∷ rest) (w : Value) (ms : List Mark) (gives : progress_of p a (expression_of a) ≡ Known (Some w) ms)
        (e : Expr) (works : worked (out-Stmt s) a.here.phase ≡ Some e) (z : ℤ) (each : (x : Expr) (test : Test) → IsTestIn (out-Stmt s) z x test → (e ≡ x) × Passes test w) where
      works_e : expression_of a ≡ Some e
      works_e = ap (worked_at a.here) first ∙ works

      outcome_passes : PassesAt d p facts n z
      outcome_passes id g x test h =
          let t = tested z id g x test h in
          let u = each x test t.tests in
          subst (λ (i : ℕ). MayPass d p i g (registers_at facts g n) x test) (own ∙ t.id_is)
          (subst (λ (k : Func). MayPass d p a.func k (registers_at facts k n) x test) t.func_is
          (subst (λ (k : Expr). MayPass d p a.func f (registers_at facts f n) k test) u.0 (may_pass n f m a here fact known_here e works_e w ms gives test u.1)))

      outcome_with : (r : ℕ) (x : Value) → ((i : ℕ) (u : Value) → is_register f i ≡ true → scalar_in a.locals i 0 ≡ Some (Some u) → AtMember v n r x i u) → PassesWith d p facts n r x z
      outcome_with r x at id g k test h =
          let t = tested z id g k test h in
          let u = each k test t.tests in
          subst (λ (i : ℕ). is_register g r ≡ true → (y l : Abs I) → IsLeft d p i g (registers_at facts g n) k test r y l → HasValue d.has y x → HasValue d.has l x) (own ∙ t.id_is)
          (subst (λ (j : Func). is_register j r ≡ true → (y l : Abs I) → IsLeft d p a.func j (registers_at facts j n) k test r y l → HasValue d.has y x → HasValue d.has l x) t.func_is
          (subst (λ (j : Expr). is_register f r ≡ true → (y l : Abs I) → IsLeft d p a.func f (registers_at facts f n) j test r y l → HasValue d.has y x → HasValue d.has l x) u.0
          (λ is_own. left_with n f m a here fact known_here e works_e w ms gives r x is_own at test u.1)))

    -- ---- the rules of statements that test

    module _ (shape : HaveShape d p facts) (solution : IsSolution d p facts) (holds : ℕ → Expr → Value → Type 0) (leads : ℕ → PlaceOf → Option Spot → Type 0) (site : Site) (number : site.number ≡ n) (next : nexts (out-Stmt s) site ≡ q.next)
        (out : LeadsOut s site) where
      abbrev o : OperandSets
      o = sets_of holds leads (PassesAt d p facts) (PassesWith d p facts)

      out_by : (k : ℕ) → size_of s ≡ k → IsOut site.number k site.behind
      out_by k e = subst (λ (j : ℕ). IsOut site.number j site.behind) e out

      module _ (e : Expr) (these those : List Stmt) (i : out-Stmt s ≡ is.If e these those) where
        if_each : (w : Value) (x : Expr) (test : Test) → IsTestIn (out-Stmt s) (one_if (is_true w)) x test → (e ≡ x) × Passes test w
        if_each w x test h = by (subst (λ y. IsTestIn y (one_if (is_true w)) x test) i h)
          where
            by : IsTestIn (is.If e these those) (one_if (is_true w)) x test → (e ≡ x) × Passes test w
            by (b, is, same, t) = (sym same, subst (λ (k : Test). Passes k w) (sym t) (same_truth (is_true w) b is))

        if_next : if_nexts these those site ≡ q.next
        if_next = ap (λ y. nexts y site) (sym i) ∙ next

        if_refines : (b : Bool) → MayLead v f n (PassesAt d p facts n) (PassesWith d p facts n) (one_if b) → Refines v f n (PassesAt d p facts n) (PassesWith d p facts n) (one_if b) (arm_point b these those site)
        if_refines b leads_there =
            side_refines d all p facts shape solution n q f fact numbered function fact_there (one_if b) e (Is b) (test_at (one_if b) e (Is b) (subst (λ y. IsTestIn y (one_if b) e (Is b)) (sym i) (b, refl, refl, refl)))
            (sides n these those q.next) (ap (λ (x : Option Stmt). tests_of n q.next (act_at x f)) there ∙ ap (λ y. tests_of n q.next (acts f y)) i) (arm_point b these those site)
            (subst (λ (l : List ℕ). Contains {X = Test × ℕ} (sides n these those l) (Is b, arm_point b these those site)) if_next
            (subst (λ (k : ℕ). Contains {X = Test × ℕ} (sides k these those (if_nexts these those site)) (Is b, arm_point b these those site)) number (side_found these those site b (out_by (form_size (is.If e these those)) (size_at s ∙ ap form_size i)))))
            (subst (λ (l : List ℕ). Contains l (arm_point b these those site)) if_next (arm_next these those site b)) leads_there

        pub if_rule : StatementRule p v o q.func f n s site
        if_rule =
            AtIf e these those i
            (λ m a own here rest first w ms gives.
            (let works = ap (λ y. worked y a.here.phase) i in (
              outcome_passes m a own here rest first w ms gives e works (one_if (is_true w)) (if_each w),
              outcome_with m a own here rest first w ms gives e works (one_if (is_true w)) (if_each w),
            )))
            if_refines

      module _ (e : Expr) (cases : List Case) (i : out-Stmt s ≡ is.Switch e cases) where
        switch_each : (w : Value) (z : ℤ) → w ≡ Int z → (x : Expr) (test : Test) → IsTestIn (out-Stmt s) (number_in w) x test → (e ≡ x) × Passes test w
        switch_each w z equal x test h =
            let k : IsTestIn (is.Switch e cases) (number_in w) x test = subst (λ y. IsTestIn y (number_in w) x test) i h in (
              sym k.0,
              subst (λ (t : Test). Passes t w) (sym k.1)
                  (subst (λ (u : Value). Passes (test_of (number_in u) cases) u) (sym equal) (number_passes z cases)),
            )

        switch_next : switch_nexts cases site ≡ q.next
        switch_next = ap (λ y. nexts y site) (sym i) ∙ next

        switch_refines : (z : ℤ) → MayLead v f n (PassesAt d p facts n) (PassesWith d p facts n) z → Refines v f n (PassesAt d p facts n) (PassesWith d p facts n) z (switch_point z cases site)
        switch_refines z leads_there =
            side_refines d all p facts shape solution n q f fact numbered function fact_there z e (test_of z cases) (test_at z e (test_of z cases) (subst (λ y. IsTestIn y z e (test_of z cases)) (sym i) (refl, refl)))
            (choices n cases q.next) (ap (λ (x : Option Stmt). tests_of n q.next (act_at x f)) there ∙ ap (λ y. tests_of n q.next (acts f y)) i) (switch_point z cases site)
            (subst (λ (l : List ℕ). Contains {X = Test × ℕ} (choices n cases l) (test_of z cases, switch_point z cases site)) switch_next
            (subst (λ (k : ℕ). Contains {X = Test × ℕ} (choices k cases (switch_nexts cases site)) (test_of z cases, switch_point z cases site)) number (choice_found z cases site (out_by (form_size (is.Switch e cases)) (size_at s ∙ ap form_size i)))))
            (subst (λ (l : List ℕ). Contains l (switch_point z cases site)) switch_next (choice_next z cases site)) leads_there

        pub switch_rule : StatementRule p v o q.func f n s site
        switch_rule =
            AtSwitch e cases i
            (λ m a own here rest first w ms gives.
            (let works = ap (λ y. worked y a.here.phase) i in
            let chosen = chosen_integer p here.openings a here.active s rest first e cases w ms i gives in (
              outcome_passes m a own here rest first w ms gives e works (number_in w) (switch_each w chosen.0 chosen.1),
              outcome_with m a own here rest first w ms gives e works (number_in w) (switch_each w chosen.0 chosen.1),
            )))
            switch_refines
