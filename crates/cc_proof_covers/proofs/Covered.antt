-- What turns keep lies in what facts say.
use Rattle.std.proofs.Common.{◌≡◌, ◌<◌, ◌^◌, ℕ, Bool, true, false, List, [], ◌∷◌, ◌++◌, Option, Some, None, refl, ap, sym, ◌∙◌, subst, slice_get}
use Rattle.std.specs.Prelude.{if◌then◌else◌}
use Rattle.std.specs.List.{Contains}
use Rattle.cc_flow_sound.specs.CcControl.Control.{Control, behind}
use Rattle.cc_flow_sound.proofs.CcEval.Works.{same_action}
use Rattle.cc_flow_sound.specs.CcEval.declared.action.Action.TheVariants.{Read}
use Rattle.cc_flow_sound.specs.CcEval.declared.action.Action.{Action}
use Rattle.cc_flow_sound.specs.CcEval.declared.mark.Mark.TheVariants.{Gave, Did}
use Rattle.cc_flow_sound.specs.CcEval.declared.mark.Mark.{Mark}
use Rattle.cc_flow_sound.specs.CcFlow.Points.{count_of}
use Rattle.cc_flow_sound.proofs.Apart.{one_point}
use Rattle.cc_flow_sound.proofs.Numbered.{at_statement, at_point}
use Rattle.cc_flow_sound.proofs.Opened.{all_normal, NormalAt}
use Rattle.cc_flow_sound.proofs.Starts.{is_here}
use Rattle.cc_flow_sound.specs.Moves.{IsAt}
use Rattle.cc_flow_sound.specs.Sites.{own_site, nexts}
use Rattle.cc_program.specs.declared.expr.Expr.{Expr}
use Rattle.cc_program.specs.declared.func.Func.{Func}
use Rattle.cc_program.specs.declared.program.Program.{Program}
use Rattle.cc_program.specs.declared.stmt.Case.{Case}
use Rattle.cc_program.specs.declared.stmt.Stmt.TheOpen as is
use Rattle.cc_program.specs.declared.stmt.Stmt.{Stmt, out-Stmt}
use Rattle.cc_program.specs.declared.value.Value.{Value}
use Rattle.cc_proof_covers.proofs.Results.{pending_some, pending_none}
use Rattle.cc_proof_covers.proofs.Statements.{AtStatement, at_statement_of, own, is_normal, marked_is, left_at}
use Rattle.cc_proof_covers.proofs.Steps.{reads_of}
use Rattle.cc_proof_covers.specs.Covers.{Role, Running, Interrupted, Waiting, under, StandsAtPoint, AreRegistersIn, WasIn, AreOperandsIn, MemoryLies, ActivationLies, StackLies, Lies}
use Rattle.cc_proof_covers.specs.Invariant.{IsAtPoint, IsPending, CountsAt, IsReadIn, AreReadIn, MemoryFits, ActivationFits, StackFits, Fits}
use Rattle.cc_proof_covers.specs.Pending.{has_result, written_next, pending, value_in}
use Rattle.cc_proof_covers.specs.Views.{View}
use Rattle.cc_flow_sound.specs.CcStates.States.{expression_of, worked_at, IsActive, AreActive}
use Rattle.cc_flow_sound.specs.CcSteps.State.{Active, Memory, State}
use Rattle.cc_flow_sound.specs.CcSteps.Step.{progress_at, progress_of, is_known, with_mark, goes_to, settled_in, marked}

not_empty : (ms : List Mark) (m : Mark) → ms ++ m ∷ [] ≡ [] → ⊥
not_empty [] m h = cc
not_empty (x ∷ ms) m h = cc

given_same : (o : Option Value) (x : Value) → Gave (Some x) ≡ Gave o → o ≡ Some x
given_same o x h = cc

module _ (p : Program) (few : count_of p < 2 ^ 32) (normal : (g : ℕ) (f : Func) → slice_get p.funcs g ≡ Some f → all_normal p.target f f.body ≡ true) where
  -- ---- where an activation stands

  module _ (openings : List ℕ) (a : Active) (active : IsActive p openings a) (f : Func) (function : slice_get p.funcs a.func ≡ Some f) where
    module _ (s : Stmt) (rest : List Stmt) (here : a.here.rest ≡ s ∷ rest) where
      at : AtStatement p a f
      at = at_statement_of p normal openings a active f function s rest here

      module _ (n : ℕ) (there : IsAtPoint p f (marked p a Did) n) (done : (marked p a Did).marks ≡ []) where
        -- the statement is done, so it was left
        stays : {C : Type 0} (y : is.Stmt-F Stmt Case) → out-Stmt at.statement ≡ y → settled_in p y (with_mark a Did) ≡ with_mark a Did → C
        stays y i same = absurd (not_empty a.marks Did (sym (ap (λ (b : Active). b.marks) (marked_is p a f at Did y i ∙ same)) ∙ done))

        abbrev Next : Type 0
        Next = (m : ℕ) × (here_at : IsAt p (a.func, (a.here, a.around)) m) × Contains here_at.point.next n

        left : (e : Expr) → out-Stmt at.statement ≡ is.Do e → marked p a Did ≡ goes_to p (with_mark a Did) (behind a.here a.around) → Next
        left e is_do is =
            let b = goes_to p (with_mark a Did) (behind a.here a.around) in
            let to : Control = (b.here, b.around) in
            let k = (own p a f at).behind in
            let at_n : IsAt p (a.func, to) n = at_point p a.func f function few to n (subst (λ (d : Active). IsAtPoint p f d n) is there) in
            let at_own : IsAt p (a.func, to) k = at_point p a.func f function few to k (subst (λ (d : Active). IsAtPoint p f d k) is (left_at p a f at e is_do Did is).0) in
            let same : n ≡ k = one_point p (a.func, to) n k at_n at_own in
            let from = at_statement p a.func f function few (a.here, a.around) at.statement at.rest at.site at.here at.stands in (
              at.site.number,
              from.point_at,
              subst (λ (ns : List ℕ). Contains ns n) (sym from.next_is)
                  (subst (λ y. Contains (nexts y (own_site at.statement at.rest at.site)) n) (sym is_do) (subst (Contains (k ∷ [])) (sym same) (is_here k []))),
            )

        by_form : (y : is.Stmt-F Stmt Case) → out-Stmt at.statement ≡ y → NormalAt p.target f y → Next
        by_form (is.Do e) i m = by (is_known (progress_of p (with_mark a Did) (Some e))) refl
          where
            by : (c : Bool) → is_known (progress_of p (with_mark a Did) (Some e)) ≡ c → Next
            by true k = left e i (marked_is p a f at Did (is.Do e) i ∙ ap (λ (c : Bool). if c then goes_to p (with_mark a Did) (behind a.here a.around) else with_mark a Did) k)
            by false k = stays (is.Do e) i (ap (λ (c : Bool). if c then goes_to p (with_mark a Did) (behind a.here a.around) else with_mark a Did) k)
        by_form (is.If e these those) i m = stays (is.If e these those) i refl
        by_form (is.While e body) i m = stays (is.While e body) i refl
        by_form (is.DoWhile body e) i m = stays (is.DoWhile body e) i refl
        by_form (is.For first test again body) i m = absurd (cc)
        by_form (is.Switch e cases) i m = stays (is.Switch e cases) i refl
        by_form is.Break i m = stays is.Break i refl
        by_form is.Continue i m = stays is.Continue i refl
        by_form (is.Return e) i m = stays (is.Return e) i refl
        by_form is.Empty i m = stays is.Empty i refl
        by_form (is.Block body) i m = stays (is.Block body) i refl

        next_point : Next
        next_point = by_form (out-Stmt at.statement) refl (is_normal p a f at)

    nothing_given : a.here.rest ≡ [] → has_result (expression_of a) ≡ true → ⊥
    nothing_given e h = let g : false ≡ true = sym (ap (λ (l : List Stmt). has_result (worked_at a.here l)) e) ∙ h in cc

    pending_at : (n r : ℕ) (x : Value) → IsPending p f a n r x → StandsAtPoint p a (Some (r, x)) n
    pending_at n r x h = by a.here.rest refl
      where
        by : (list : List Stmt) → a.here.rest ≡ list → StandsAtPoint p a (Some (r, x)) n
        by [] e = absurd (nothing_given e h.given)
        by (s ∷ rest) e = next_point s rest e n h.ends.0 h.ends.1

    pub stands_at : (n : ℕ) (result : Option (ℕ × Value)) → CountsAt p f a n result → StandsAtPoint p a result n
    stands_at n None h = at_point p a.func f function few (a.here, a.around) n h
    stands_at n (Some result) h = pending_at n result.0 result.1 h

    module _ (v : View) where
      none_by : (n : ℕ) (list : List Stmt) → a.here.rest ≡ list → AreReadIn p v a f n → pending p a ≡ None
      none_by n [] e read = ap (λ (b : Bool). if b then written_next (progress_of p a (expression_of a)) else None) (ap (λ (l : List Stmt). has_result (worked_at a.here l)) e)
      none_by n (s ∷ rest) e read = let at = at_statement_of p normal openings a active f function s rest e in pending_none p v a f n at (is_normal p a f at) read

      pub none_pending : (n : ℕ) → AreReadIn p v a f n → pending p a ≡ None
      none_pending n read = none_by n a.here.rest refl read

  -- ---- part by part

  module _ (v : View) where
    operands_in : (a : Active) (f : Func) (n : ℕ) → AreReadIn p v a f n → AreOperandsIn p v a f n
    operands_in a f n h front back x at manner split waits =
        let w = h front back (Gave (Some x)) split in
        let same : w.0 ≡ Read at manner = same_action (progress_at p a.number a.func front (expression_of a)) w.0 (Read at manner) w.1 waits in
        was_in (subst (λ (z : Action). IsReadIn p v a f n z (Gave (Some x))) same w.2)
      where
        was_in : IsReadIn p v a f n (Read at manner) (Gave (Some x)) → WasIn p v a f n at x
        was_in k = k.2 x (given_same k.0 x k.1)

    read_in : (role : Role) (m : Memory) (a : Active) (f : Func) (n : ℕ) → AreRegistersIn p v f n (value_in None a) → MemoryFits p v role m a f n None → AreReadIn p v a f n
    read_in Running m a f n registers h = reads_of p v m a f n registers (h.marks refl)
    read_in Interrupted m a f n registers h = reads_of p v m a f n registers (h.marks refl)
    read_in (Waiting g) m a f n registers h = h.2

    memory_lies : (role : Role) (m : Memory) (a : Active) (f : Func) (n : ℕ) (result : Option (ℕ × Value)) → MemoryFits p v role m a f n result → MemoryLies p v role m a n result
    memory_lies Running m a f n result h = record { flag_in = h.flag; cells = h.cells; pairs = h.sames }
    memory_lies Interrupted m a f n result h = record { flag_in = h.flag; cells = h.cells; pairs = h.sames }
    memory_lies (Waiting g) m a f n result h = tt

    -- a result is not written yet exactly where the activation tells so, and then nothing is said of operands
    record IsTold (role : Role) (m : Memory) (a : Active) (f : Func) (n : ℕ) (result : Option (ℕ × Value)) : Type 0 where
      told : pending p a ≡ result
      operands : result ≡ None → AreOperandsIn p v a f n

    told_by : (openings : List ℕ) (role : Role) (m : Memory) (a : Active) (f : Func) (n : ℕ) (result : Option (ℕ × Value)) → IsActive p openings a → slice_get p.funcs a.func ≡ Some f → CountsAt p f a n result →
        AreRegistersIn p v f n (value_in result a) → MemoryFits p v role m a f n result → IsTold role m a f n result
    told_by openings role m a f n None active function counts registers h =
        let read = read_in role m a f n registers h in
        record { told = none_pending openings a active f function v n read; operands = λ e. operands_in a f n read }
    told_by openings role m a f n (Some result) active function counts registers h =
        record { told = pending_some p v a f n result.0 result.1 counts; operands = λ e. absurd (cc) }

    activation_lies : (openings : List ℕ) (role : Role) (m : Memory) (a : Active) (below : List Active) → IsActive p openings a → ActivationFits p v role m a below → ActivationLies p v role m a below
    activation_lies openings role m a below active h =
        let t = told_by openings role m a h.func h.point h.result active h.function h.counts h.registers h.memory in
        record {
          func = h.func;
          function = h.function;
          locals = h.others;
          from = h.runs.from;
          level = h.runs.level;
          point = h.point;
          at = subst (λ (o : Option (ℕ × Value)). StandsAtPoint p a o h.point) (sym t.told) (stands_at openings a active h.func h.function h.point h.result h.counts);
          reached = h.reached;
          registers = subst (λ (o : Option (ℕ × Value)). AreRegistersIn p v h.func h.point (value_in o a)) (sym t.told) h.registers;
          operands = λ e. t.operands (sym t.told ∙ e);
          memory = subst (MemoryLies p v role m a h.point) (sym t.told) (memory_lies role m a h.func h.point h.result h.memory);
        }

    stack_lies : (openings : List ℕ) (role : Role) (m : Memory) (stack : List Active) → AreActive p openings stack → StackFits p v role m stack → StackLies p v role m stack
    stack_lies openings role m [] active h = tt
    stack_lies openings role m (a ∷ below) active h = (activation_lies openings role m a below active.0 h.0, stack_lies openings (under a) m below active.1 h.1)

    pub fits_lies : (openings : List ℕ) (s : State) → AreActive p openings s.stack → Fits p v s → Lies p v s
    fits_lies openings s active h = record { statics = h.statics; stack = stack_lies openings Running s.memory s.stack active h.stack }
