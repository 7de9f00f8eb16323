-- Each turn keeps the facts, whoever arrives: returns, tests and jumps, the end of a function, a result that is written, and the entry of
-- a handler.
use Rattle.std.proofs.Common.{arith, ◌≡◌, ◌⊎◌, inl, inr, ◌<◌, ℕ, zero, suc, ℤ, length, replicate, Bool, true, false, ◌&&◌, ◌||◌, List, [], ◌∷◌, max, nat_eq, nat_lt, Option, Some, None, refl, ap, sym, ◌∙◌, subst, slice_get}
use Rattle.std.proofs.lemmas.Bool.{eqb-true, eq-eqb, ltb-true}
use Rattle.std.proofs.lemmas.Option.{same_Some}
use Rattle.std.specs.Prelude.{if◌then◌else◌, ◌==◌, option_map}
use Rattle.cc_flow_sound.specs.CcCells.Cells.{scalar_in}
use Rattle.cc_flow_sound.specs.CcCells.Scalars.{zeros}
use Rattle.cc_flow_sound.specs.CcEval.Progress.{Progress, Known, Waits, Traps, no_value}
use Rattle.cc_flow_sound.specs.CcEval.declared.action.Action.TheVariants.{Write}
use Rattle.cc_flow_sound.specs.CcEval.declared.action.Action.{Action}
use Rattle.cc_flow_sound.specs.CcEval.declared.mark.Mark.TheVariants.{Gave, Did}
use Rattle.cc_flow_sound.specs.CcEval.declared.mark.Mark.{Mark}
use Rattle.cc_flow_sound.proofs.CcFlow.Tests.{zero_of}
use Rattle.cc_flow_sound.proofs.Opened.{all_normal}
use Rattle.cc_flow_sound.proofs.Places.{end_at}
use Rattle.cc_flow_sound.specs.Moves.{entry}
use Rattle.cc_flow_sound.specs.Sites.{base_of}
use Rattle.cc_program.specs.declared.func.Func.{Func}
use Rattle.cc_program.specs.declared.program.Program.{Program}
use Rattle.cc_program.specs.declared.stmt.Case.{Case}
use Rattle.cc_program.specs.declared.stmt.Stmt.TheOpen as is
use Rattle.cc_program.specs.declared.stmt.Stmt.{Stmt, out-Stmt}
use Rattle.cc_program.specs.declared.value.Cell.TheVariants as cell
use Rattle.cc_program.specs.declared.value.Root.TheVariants as root
use Rattle.cc_program.specs.declared.value.Value.{Value}
use Rattle.cc_proof_covers.proofs.Actions.{action_keeps}
use Rattle.cc_proof_covers.proofs.Below.{all_same, ready_same, under_below}
use Rattle.cc_proof_covers.proofs.Marks.{marked_locals}
use Rattle.cc_proof_covers.proofs.Steps.{entry_there, stopped_keeps, no_marks, others_again, fits_by, fit_pending, none_some, register_keeps, fit_at}
use Rattle.cc_proof_covers.specs.Covers.{Running, AreLocalsIn, AreRegistersIn, Interrupted, Waiting, under}
use Rattle.cc_proof_covers.specs.Invariant.{Awaits, ActivationFits, MayInterrupt, CountsAt, IsPending, IsAtPoint, exit_of, StackFits, RunsAbove, Resumes, Fits, IsReady, FlowsBack}
use Rattle.cc_proof_covers.specs.Pending.{value_in}
use Rattle.cc_proof_covers.specs.Rules.{Goes, IsHere, Enters, IsClosed}
use Rattle.cc_proof_covers.specs.Views.{View}
use Rattle.cc_flow_sound.proofs.CcStates.Options.{either_true}
use Rattle.cc_flow_sound.proofs.CcStates.StartLemmas.{start_state}
use Rattle.cc_flow_sound.proofs.CcStates.TurnLemmas.{turn_state}
use Rattle.cc_flow_sound.specs.CcStates.States.{expression_of, worked_at, AreActive, IsState}
use Rattle.cc_flow_sound.proofs.CcSteps.MarkLemmas.{marked_call, gone}
use Rattle.cc_flow_sound.specs.CcSteps.Runs.{Arrivals, run}
use Rattle.cc_flow_sound.specs.CcSteps.State.{Active, State, locals_with}
use Rattle.cc_flow_sound.specs.CcSteps.Step.{stopped, with_stack, with_flag, with_event, worked, progress_in, progress_at, progress_of, with_mark, marked, perform, activation, next_place, is_return, gives_nothing, return_mark, goes_to, returned, stepped, active_step, proceed}
use Rattle.cc_flow_sound.specs.CcSteps.Turn.{is_going, only_handler, level_of, running_level, may_enter, entered, turn_by, turn, start, first_of_stack}
use Rattle.cc_flow_sound.specs.CcSteps.declared.event.End.TheVariants.{Trap}
use Rattle.cc_flow_sound.specs.CcSteps.declared.event.Event.TheVariants.{Enter}
use Rattle.cc_flow_sound.proofs.CcSyntax.Prefixes.{both_true}
use Rattle.cc_flow_sound.specs.CcSyntax.Operators.{is_handler}
use Rattle.cc_flow_sound.specs.CcSyntax.Registers.{is_register}
use Rattle.cc_flow_sound.specs.CcSyntax.Sound.{IsTypedProgram}
use Rattle.cc_flow_sound.specs.CcSyntax.Types.{Named}

known_waits : (w : Option Value) (ms : List Mark) (action : Action) → Known w ms ≡ Waits action → ⊥
known_waits w ms action e = cc

-- of locals of which none is a parameter nothing is written
none_there : (n k : ℕ) (x : Value) → slice_get (replicate n None) k ≡ Some (Some x) → ⊥
none_there zero k x e = cc
none_there (suc n) zero x e = cc
none_there (suc n) (suc k) x e = none_there n k x e

pub nothing_written : (p : Program) (locals : List Named) (r k : ℕ) (x : Value) → scalar_in (locals_with p [] locals) r k ≡ Some (Some x) → ⊥
nothing_written p [] r k x e = cc
nothing_written p (l ∷ locals) zero k x e = none_there (length (zeros p.structures l.1)) k x e
nothing_written p (l ∷ locals) (suc r) k x e = nothing_written p locals r k x e

module _ (p : Program) (v : View) (closed : IsClosed p v) (normal : (g : ℕ) (f : Func) → slice_get p.funcs g ≡ Some f → all_normal p.target f f.body ≡ true) where
  -- ---- returns

  module _ (s : State) (fits : Fits p v s) (a : Active) (f : Func) (function : slice_get p.funcs a.func ≡ Some f) (reached : v.reached (exit_of p a.func f)) (flag : v.may_be (exit_of p a.func f) s.memory.flag)
      (cells : (i : ℕ) (x : Value) → v.tracked i ≡ true → scalar_in s.memory.statics i 0 ≡ Some x → v.cell (exit_of p a.func f) i x) (w : Value) (result : gives_nothing (Some f) ≡ false → v.result a.func w) where
    -- to a caller that waits for it
    module _ (b : Active) (rest : List Active) (h : ActivationFits p v (Waiting a.func) s.memory b rest) where
      abbrev waits : Awaits p v b h.func h.point a.func
      waits = h.memory.1

      abbrev mark : Mark
      mark = return_mark p a.func w

      same_exit : exit_of p a.func f ≡ exit_of p a.func waits.function
      same_exit = ap (exit_of p a.func) (same_Some f waits.function (sym function ∙ waits.there))

      exit_reached : v.reached (exit_of p a.func waits.function)
      exit_reached = subst v.reached same_exit reached

      abbrev back : FlowsBack p v h.func h.point waits.next a.func (exit_of p a.func waits.function) waits.result
      back = waits.back exit_reached

      back_flag : v.may_be waits.next s.memory.flag
      back_flag = back.flags s.memory.flag (subst (λ (e : ℕ). v.may_be e s.memory.flag) same_exit flag)

      back_cells : (i : ℕ) (x : Value) → v.tracked i ≡ true → scalar_in s.memory.statics i 0 ≡ Some x → v.cell waits.next i x
      back_cells i x t e = back.cells i x (subst (λ (z : ℕ). v.cell z i x) same_exit (cells i x t e))

      -- what it had in its registers
      its : (r : ℕ) (x : Value) → is_register h.func r ≡ true → scalar_in b.locals r 0 ≡ Some (Some x) → v.local h.point r x
      its r x reg e = h.registers r x reg (ap (λ (o : Option (ℕ × Value)). value_in o b r) h.memory.0 ∙ e)

      gave : (r : ℕ) → waits.result ≡ Some r → mark ≡ Gave (Some w)
      gave r e =
          let n : gives_nothing (slice_get p.funcs a.func) ≡ false = ap gives_nothing waits.there ∙ waits.gives r e in
          ap (λ (c : Bool). if c then Did else Gave (Some w)) n

      given : (r : ℕ) → waits.result ≡ Some r → v.local waits.next r w
      given r e = back.given r w e (result (ap (λ (g : Func). gives_nothing (Some g)) (same_Some f waits.function (sym function ∙ waits.there)) ∙ waits.gives r e))

      back_fit : (o : Option ℕ) → waits.result ≡ o → Resumes p v h.func b waits.next o mark → ActivationFits p v Running s.memory (marked p b mark) rest
      back_fit None e c =
          let l = marked_locals p b mark in
          fit_at p v s.memory b (marked p b mark) rest h.func waits.next (marked_call p b mark) h.function h.runs c.0 c.1 (back.reached)
          (λ r x reg g. back.locals r x (λ q. none_some r (sym e ∙ q)) (its r x reg (ap (λ (ls : List (List (Option Value))). scalar_in ls r 0) (sym l) ∙ g))) back_flag back_cells
          (λ r i x q g. absurd (back.sames r i q)) (others_again p v b (marked p b mark) h.func (marked_call p b mark) l h.others)
      back_fit (Some r) e c =
          let k = c w (gave r e) in
          subst (λ (d : Active). ActivationFits p v Running s.memory d rest) (sym k.1)
          (fit_pending p v s.memory b (with_mark b mark) rest h.func waits.next r w (record { number = refl; func = refl; handler = refl }) h.function h.runs k.0 (back.reached) (given r e)
          (λ q x apart reg g. back.locals q x (λ o. apart (same_Some r q (sym e ∙ o))) (its q x reg g)) back_flag back_cells (λ i o. back.sames r i o) (λ q i x apart o g. absurd (back.sames q i o)) h.others)

      caller_keeps : StackFits p v (under b) s.memory rest → Fits p v (with_stack s (marked p b mark ∷ rest))
      caller_keeps l =
          let c = marked_call p b mark in
          fits_by p v (with_stack s (marked p b mark ∷ rest)) (marked p b mark) rest refl fits.statics (back_fit waits.result refl (waits.resumes w))
          (subst (λ (d : Bool). StackFits p v (if d then Interrupted else Waiting (marked p b mark).func) s.memory rest) (sym c.handler) (subst (λ (g : ℕ). StackFits p v (if b.handler then Interrupted else Waiting g) s.memory rest) (sym c.func) l))

    -- to what a handler has interrupted
    handler_keeps : (b : Active) (rest : List Active) → ActivationFits p v Interrupted s.memory b rest → StackFits p v (under b) s.memory rest → Fits p v (with_flag (with_stack s (b ∷ rest)) true)
    handler_keeps b rest h l =
        let t = with_flag (with_stack s (b ∷ rest)) true in
        fits_by p v t b rest refl fits.statics
        (record {
          func = h.func;
          function = h.function;
          runs = h.runs;
          point = h.point;
          result = h.result;
          counts = h.counts;
          reached = h.reached;
          registers = h.registers;
          others = h.others;
          memory = ready_same p v closed s.memory t.memory refl b h.func h.point true true h.result h.memory.flag h.memory;
        })
        (all_same p v closed s.memory t.memory refl (under b) (under_below b.handler b.func) rest l)

    returned_by : (c : Bool) (b : Active) (rest : List Active) → StackFits p v (if c then Interrupted else Waiting a.func) s.memory (b ∷ rest) → Fits p v (if c then with_flag (with_stack s (b ∷ rest)) true else with_stack s (marked p b (return_mark p a.func w) ∷ rest))
    returned_by true b rest l = handler_keeps b rest l.0 l.1
    returned_by false b rest l = caller_keeps b rest l.0 l.1

    pub returned_keeps : (below : List Active) → StackFits p v (under a) s.memory below → Fits p v (returned p s a below w)
    returned_keeps [] l = record { statics = fits.statics; stack = tt }
    returned_keeps (b ∷ rest) l = returned_by a.handler b rest l

  -- ---- the running activation

  module _ (s : State) (fits : Fits p v s) (a : Active) (below : List Active) (top : s.stack ≡ a ∷ below) (l : StackFits p v (under a) s.memory below) where
    same_waits : (q : Progress (Option Value)) (x y : Action) → q ≡ Waits x → q ≡ Waits y → x ≡ y
    same_waits q x y h k = cc

    -- at its point
    module _ (f : Func) (n : ℕ) (function : slice_get p.funcs a.func ≡ Some f) (runs : RunsAbove p v a.handler a.func below) (there : IsAtPoint p f a n) (reached : v.reached n) (registers : AreRegistersIn p v f n (value_in None a)) (held : AreLocalsIn p v f a) (openings : List ℕ) (active : AreActive p openings (a ∷ below))
        (ready : IsReady p v s.memory s.memory.flag a f n None) where
      here_now : IsHere p v s.memory a f n
      here_now = record { openings = openings; active = active.0; function = function; there = there; reached = reached; registers = registers; others = held; memory = ready }

      gone_keeps : (x : is.Stmt-F Stmt Case) (w : Value) → Goes p v s.memory a f n x w → Fits p v (with_stack s (goes_to p a (next_place x a w) ∷ below))
      gone_keeps x w g =
          let b = goes_to p a (next_place x a w) in
          fits_by p v (with_stack s (b ∷ below)) b below refl fits.statics
          (fit_at p v s.memory a b below f g.next (gone p a (next_place x a w)) function runs g.there refl g.reached g.registers (g.keeps s.memory.flag ready.flag) g.cells (λ r i y o e. ready.sames r i y (g.sames r i o) e) (others_again p v a b f (gone p a (next_place x a w)) refl held)) l

      done_by : (st : Stmt) (rest : List Stmt) (w : Value) (ms : List Mark) → a.here.rest ≡ st ∷ rest → progress_of p a (expression_of a) ≡ Known (Some w) ms → (c : Bool) → is_return (out-Stmt st) ≡ c →
          Fits p v (if c then returned p s a below w else with_stack s (goes_to p a (next_place (out-Stmt st) a w) ∷ below))
      done_by st rest w ms here e true r =
          let g = closed.leaves s.memory a f n here_now st rest w ms here e r in
          returned_keeps s fits a f function g.flows.reached (g.keeps s.memory.flag ready.flag) (λ i x t q. g.flows.cells i x (none_some i) (ready.cells i x t q)) w g.result below l
      done_by st rest w ms here e false r = gone_keeps (out-Stmt st) w (closed.goes s.memory a f n here_now st rest w ms here e r)

      stepped_by : (st : Stmt) (rest : List Stmt) → a.here.rest ≡ st ∷ rest → (q : Progress (Option Value)) → progress_of p a (expression_of a) ≡ q → Fits p v (stepped p (out-Stmt st) s a below q)
      stepped_by st rest here (Waits action) e = action_keeps p v closed normal s fits a below top l f n function runs there reached registers held ready openings active action e
      stepped_by st rest here (Traps ms) e = stopped_keeps p v s Trap fits
      stepped_by st rest here (Known None ms) e = stopped_keeps p v s Trap fits
      stepped_by st rest here (Known (Some w) ms) e = done_by st rest w ms here e (is_return (out-Stmt st)) refl

      falls_by : a.here.rest ≡ [] → (c : Bool) → gives_nothing (slice_get p.funcs a.func) || (a.func == p.main) ≡ c → Fits p v (if c then returned p s a below no_value else stopped s Trap)
      falls_by e false c = stopped_keeps p v s Trap fits
      falls_by e true c =
          let g : n ≡ exit_of p a.func f = end_at p.target f (base_of p a.func f) f.body a.here a.around n there e in
          returned_keeps s fits a f function (subst v.reached g reached) (subst (λ (k : ℕ). v.may_be k s.memory.flag) g ready.flag) (λ i x t q. subst (λ (k : ℕ). v.cell k i x) g (ready.cells i x t q)) no_value
          (λ z. by z (either_true (gives_nothing (slice_get p.funcs a.func)) (a.func == p.main) c)) below l
        where
          by : gives_nothing (Some f) ≡ false → (gives_nothing (slice_get p.funcs a.func) ≡ true) ⊎ ((a.func == p.main) ≡ true) → v.result a.func no_value
          by z (inl y) = absurd (let y' : gives_nothing (Some f) ≡ true = ap gives_nothing (sym function) ∙ y in cc)
          by z (inr m) = closed.falls a f n function there reached e z (eqb-true a.func p.main m)

      at_keeps : (list : List Stmt) → a.here.rest ≡ list → Fits p v (active_step p list s a below)
      at_keeps [] e = falls_by e (gives_nothing (slice_get p.funcs a.func) || (a.func == p.main)) refl
      at_keeps (st ∷ rest) e = stepped_by st rest e (progress_of p a (worked (out-Stmt st) a.here.phase)) (ap (λ (li : List Stmt). progress_of p a (worked_at a.here li)) e)

    -- with a result that has still to be written
    module _ (f : Func) (n r : ℕ) (x : Value) (function : slice_get p.funcs a.func ≡ Some f) (runs : RunsAbove p v a.handler a.func below) (there : IsPending p f a n r x) (reached : v.reached n) (registers : AreRegistersIn p v f n (value_in (Some (r, x)) a)) (held : AreLocalsIn p v f a)
        (ready : IsReady p v s.memory s.memory.flag a f n (Some (r, x))) where
      value_other : (q : ℕ) (y : Value) → (r ≡ q → ⊥) → scalar_in a.locals q 0 ≡ Some (Some y) → value_in (Some (r, x)) a q ≡ Some (Some y)
      value_other q y apart e = by (q == r) refl
        where
          by : (c : Bool) → q == r ≡ c → (if c then Some (Some x) else scalar_in a.locals q 0) ≡ Some (Some y)
          by true c = absurd (apart (sym (eqb-true q r c)))
          by false c = e

      value_own : value_in (Some (r, x)) a r ≡ Some (Some x)
      value_own = ap (λ (c : Bool). if c then Some (Some x) else scalar_in a.locals r 0) (eqb-same r)
        where
          eqb-same : (z : ℕ) → (z == z) ≡ true
          eqb-same z = eq-eqb z z refl

      written_keeps : Fits p v (perform p s (Write (cell.At (root.Auto a.number a.func r) []) there.event x))
      written_keeps =
          register_keeps p v closed normal s fits a below top l f n r x function runs there.ends reached there.register held (registers r x there.register value_own) (λ q y apart reg e. registers q y reg (value_other q y apart e)) ready.flag ready.cells
          (λ i o. ready.sames r i x o value_own) (λ q i y apart o e. ready.sames q i y o (value_other q y apart e)) a.number a.func [] there.event refl refl

      waits_by : (st : Stmt) (q : Progress (Option Value)) → progress_of p a (expression_of a) ≡ q → Fits p v (stepped p (out-Stmt st) s a below q)
      waits_by st (Waits action) e =
          subst (λ (z : Action). Fits p v (perform p s z)) (same_waits (progress_of p a (expression_of a)) (Write (cell.At (root.Auto a.number a.func r) []) there.event x) action there.waits e) written_keeps
      waits_by st (Traps ms) e = stopped_keeps p v s Trap fits
      waits_by st (Known None ms) e = stopped_keeps p v s Trap fits
      waits_by st (Known (Some w) ms) e = absurd (let g = there.waits in cc)

      nothing_waits : a.here.rest ≡ [] → ⊥
      nothing_waits h =
          let w : progress_at p a.number a.func a.marks None ≡ Waits (Write (cell.At (root.Auto a.number a.func r) []) there.event x) = ap (λ (li : List Stmt). progress_of p a (worked_at a.here li)) (sym h) ∙ there.waits in
          let g : Known (Some no_value) a.marks ≡ Waits (Write (cell.At (root.Auto a.number a.func r) []) there.event x) = ap (λ (z : Option Func). progress_in p a.number a.func a.marks z None) (sym function) ∙ w in
          known_waits (Some no_value) a.marks (Write (cell.At (root.Auto a.number a.func r) []) there.event x) g

      behind_keeps : (list : List Stmt) → a.here.rest ≡ list → Fits p v (active_step p list s a below)
      behind_keeps [] e = absurd (nothing_waits e)
      behind_keeps (st ∷ rest) e = waits_by st (progress_of p a (worked (out-Stmt st) a.here.phase)) (ap (λ (li : List Stmt). progress_of p a (worked_at a.here li)) e)

    step_by : (openings : List ℕ) → AreActive p openings (a ∷ below) → (h : ActivationFits p v Running s.memory a below) (o : Option (ℕ × Value)) → h.result ≡ o → Fits p v (active_step p a.here.rest s a below)
    step_by openings active h None e =
        at_keeps h.func h.point h.function h.runs (subst (CountsAt p h.func a h.point) e h.counts) h.reached (subst (λ (w : Option (ℕ × Value)). AreRegistersIn p v h.func h.point (value_in w a)) e h.registers) h.others openings active
        (subst (IsReady p v s.memory s.memory.flag a h.func h.point) e h.memory) a.here.rest refl
    step_by openings active h (Some o) e =
        behind_keeps h.func h.point o.0 o.1 h.function h.runs (subst (CountsAt p h.func a h.point) e h.counts) h.reached (subst (λ (w : Option (ℕ × Value)). AreRegistersIn p v h.func h.point (value_in w a)) e h.registers) h.others
        (subst (IsReady p v s.memory s.memory.flag a h.func h.point) e h.memory) a.here.rest refl

  pub proceed_keeps : (openings : List ℕ) (s : State) (stack : List Active) → s.stack ≡ stack → AreActive p openings stack → Fits p v s → Fits p v (proceed p s stack)
  proceed_keeps openings s [] e active fits = stopped_keeps p v s Trap fits
  proceed_keeps openings s (a ∷ below) e active fits =
      let all : StackFits p v Running s.memory (a ∷ below) = subst (StackFits p v Running s.memory) e fits.stack in
      let t = with_stack s (a ∷ below) in
      step_by t (record { statics = fits.statics; stack = all }) a below refl all.1 openings active all.0 all.0.result refl

  -- ---- the entry of a handler

  -- what enters may do so above the running level
  module _ (s : State) (fits : Fits p v s) (h : ℕ) (f : Func) (function : slice_get p.funcs h ≡ Some f) (handler : is_handler f ≡ true) (on : s.memory.flag ≡ true) (above : (level_of p h ≡ 0) ⊎ (running_level p s.stack < level_of p h))
      (a : Active) (below : List Active) (top : s.stack ≡ a ∷ below) where
    abbrev all : StackFits p v Running s.memory (a ∷ below)
    all = subst (StackFits p v Running s.memory) top fits.stack

    abbrev here : ActivationFits p v Running s.memory a below
    here = all.0

    abbrev off : State
    off = with_event true (with_flag s false) (Enter h)

    level_here : (level_of p h ≡ 0) ⊎ (running_level p (a ∷ below) < level_of p h)
    level_here = subst (λ (st : List Active). (level_of p h ≡ 0) ⊎ (running_level p st < level_of p h)) top above

    is_above : (level_of p h ≡ 0) ⊎ (running_level p (a ∷ below) < level_of p h) → MayInterrupt p v a.func (level_of p h)
    is_above (inl e) = inl e
    is_above (inr e) = inr (running_level p (a ∷ below), here.runs.level, e)

    may : v.may_be here.point true
    may = subst (v.may_be here.point) on here.memory.flag

    abbrev rule : Enters p v a.func here.point h (level_of p h)
    rule = closed.handlers a here.func here.point (record { result = here.result; function = here.function; counts = here.counts; reached = here.reached; on = may }) h f function handler (is_above level_here)

    max_level : (n m : ℕ) → ((n ≡ 0) ⊎ (m < n)) → (n ≡ 0 → v.runs_at h m) → ((n ≡ 0 → ⊥) → v.runs_at h n) → v.runs_at h (max n m)
    max_level n m (inl e) k l = subst (v.runs_at h) (omega (arith, e)) (k e)
    max_level n m (inr e) k l = subst (v.runs_at h) (omega (arith, e)) (l (λ z. absurd (omega (arith, e, z))))

    abbrev new : Active
    new = activation p s.opened h true [] f

    entered_stack : StackFits p v Interrupted off.memory (a ∷ below)
    entered_stack = (
      record {
        func = here.func;
        function = here.function;
        runs = here.runs;
        point = here.point;
        result = here.result;
        counts = here.counts;
        reached = here.reached;
        registers = here.registers;
        others = here.others;
        memory = ready_same p v closed s.memory off.memory refl a here.func here.point s.memory.flag true here.result may here.memory;
      },
      all_same p v closed s.memory off.memory refl (under a) (under_below a.handler a.func) below all.1,
    )

    pub entered_keeps : Fits p v (entered p s (h, f))
    entered_keeps =
        fits_by p v (entered p s (h, f)) new (a ∷ below) (ap (λ (st : List Active). new ∷ st) top) fits.statics
        (record {
          func = f;
          function = function;
          runs = record {
            from = (rule.by_handler, rule.from);
            level = max_level (level_of p h) (running_level p (a ∷ below)) level_here (λ e. rule.below e (running_level p (a ∷ below)) here.runs.level) rule.level;
            enters = λ e. level_here;
          };
          point = entry p h;
          result = None;
          counts = entry_there p v closed normal s.opened h true [] f function;
          reached = rule.opens.reached;
          registers = λ r x reg e. absurd (nothing_written p f.locals r 0 x e);
          others = λ r k x o e. absurd (nothing_written p f.locals r k x e);
          memory = record {
            flag = rule.opens.flags false refl;
            cells = λ i x t e. rule.opens.cells i x (here.memory.cells i x t e);
            sames = λ r i x o e. absurd (rule.opens.sames r i o);
            marks = λ q. no_marks p v off.memory new f (entry p h) refl;
          };
        }) entered_stack

  -- ---- turns

  may_parts : (s : State) (h : ℕ) → may_enter p s h ≡ true → (s.memory.flag ≡ true) × ((level_of p h ≡ 0) ⊎ (running_level p s.stack < level_of p h))
  may_parts s h e =
      let both = both_true s.memory.flag (nat_eq (level_of p h) 0 || nat_lt (running_level p s.stack) (level_of p h)) e in
      (both.0, by (either_true (nat_eq (level_of p h) 0) (nat_lt (running_level p s.stack) (level_of p h)) both.1))
    where
      by : (nat_eq (level_of p h) 0 ≡ true) ⊎ (nat_lt (running_level p s.stack) (level_of p h) ≡ true) → (level_of p h ≡ 0) ⊎ (running_level p s.stack < level_of p h)
      by (inl z) = inl (zero_of (level_of p h) z)
      by (inr z) = inr (ltb-true (running_level p s.stack) (level_of p h) z)

  going_or_not : (s : State) (b : Bool) → IsState p s → Fits p v s → Fits p v (if b then proceed p s s.stack else s)
  going_or_not s true is fits = proceed_keeps is.0 s s.stack refl is.1.stack fits
  going_or_not s false is fits = fits

  handler_turn : (s : State) → Fits p v s → IsState p s → (h : ℕ) → (is_going s.end && may_enter p s h) ≡ true → (x : Option Func) → slice_get p.funcs h ≡ x → Fits p v (turn_by p s (option_map (λ f. (h, f)) (only_handler x)))
  handler_turn s fits t h e None g = going_or_not s (is_going s.end) t fits
  handler_turn s fits t h e (Some f) g = by (is_handler f) refl
    where
      by : (b : Bool) → is_handler f ≡ b → Fits p v (turn_by p s (option_map (λ f. (h, f)) (if b then Some f else None)))
      by false k = going_or_not s (is_going s.end) t fits
      by true k =
          let both = both_true (is_going s.end) (may_enter p s h) e in
          let on = may_parts s h both.1 in
          let first = t.1.running both.0 in
          entered_keeps s fits h f g k on.0 on.1 first.0 first.1 first.2

  turn_by_test : (s : State) → Fits p v s → IsState p s → (h : ℕ) (b : Bool) → (is_going s.end && may_enter p s h) ≡ b → Fits p v (turn_by p s (if b then option_map (λ f. (h, f)) (only_handler (slice_get p.funcs h)) else None))
  turn_by_test s fits t h true e = handler_turn s fits t h e (slice_get p.funcs h) refl
  turn_by_test s fits t h false e = going_or_not s (is_going s.end) t fits

  -- each turn keeps the facts, whoever arrives
  pub turn_keeps : (s : State) → Fits p v s → IsState p s → (arrival : Option ℕ) → Fits p v (turn p s arrival)
  turn_keeps s fits t None = going_or_not s (is_going s.end) t fits
  turn_keeps s fits t (Some h) = turn_by_test s fits t h (is_going s.end && may_enter p s h) refl

  -- ---- runs

  start_top : (x : Option Func) → slice_get p.funcs p.main ≡ x → (inputs : List ℤ) → StackFits p v Running (start p inputs).memory (first_of_stack p x)
  start_top None e inputs = tt
  start_top (Some f) e inputs =
      let g = closed.main f e in
      let b = activation p 0 p.main false [] f in (
        record {
          func = f;
          function = e;
          runs = record { from = g.by_main; level = g.level; enters = λ h. absurd (cc) };
          point = entry p p.main;
          result = None;
          counts = entry_there p v closed normal 0 p.main false [] f e;
          reached = g.reached;
          registers = λ r x reg h. absurd (nothing_written p f.locals r 0 x h);
          others = λ r k x o h. absurd (nothing_written p f.locals r k x h);
          memory = record {
            flag = g.off;
            cells = g.cells;
            sames = λ r i x o h. absurd (g.sames r i o);
            marks = λ q. no_marks p v (start p inputs).memory b f (entry p p.main) refl;
          };
        },
        tt,
      )

  pub start_fits : (inputs : List ℤ) → Fits p v (start p inputs)
  start_fits inputs = record { statics = closed.initial; stack = start_top (slice_get p.funcs p.main) refl inputs }

  run_from : IsTypedProgram p → (arrivals : Arrivals) (s : State) → IsState p s → Fits p v s → IsState p (run p s arrivals) × Fits p v (run p s arrivals)
  run_from typed [] s is fits = (is, fits)
  run_from typed (a ∷ arrivals) s is fits = run_from typed arrivals (turn p s a) (turn_state p typed s is a) (turn_keeps s fits is a)

  -- in every run, whoever arrives
  pub run_fits : IsTypedProgram p → (inputs : List ℤ) (arrivals : Arrivals) → IsState p (run p (start p inputs) arrivals) × Fits p v (run p (start p inputs) arrivals)
  run_fits typed inputs arrivals = run_from typed arrivals (start p inputs) (start_state p typed inputs) (start_fits inputs)
