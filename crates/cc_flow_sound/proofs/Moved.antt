-- Each turn of a normal program moves activations so.
use Rattle.std.proofs.Common.{◌≡◌, ◌<◌, ◌^◌, inl, inr, ℕ, zero, suc, ℤ, pos, Bool, true, false, ◌&&◌, ◌||◌, List, [], ◌∷◌, Option, Some, None, refl, ap, sym, ◌∙◌, subst, slice_get}
use Rattle.std.specs.Prelude.{if◌then◌else◌, ◌==◌, option_map, negsuc}
use Rattle.std.specs.Ordering.{int_eq}
use Rattle.std.specs.List.{Contains}
use Rattle.cc_program.specs.CcNum.declared.int_type.IntType.{IntType}
use Rattle.cc_program.specs.CcNum.declared.int_type.IntType.TheVariants as int
use Rattle.cc_program.specs.CcNum.Integers.{converted}
use Rattle.cc_program.specs.CcNum.Results.{one_if}
use Rattle.cc_program.specs.declared.expr.Expr.{Expr, out-Expr}
use Rattle.cc_program.specs.declared.expr.Expr.TheOpen as one
use Rattle.cc_program.specs.declared.expr.Place.{Place as PlaceOf}
use Rattle.cc_program.specs.declared.func.Func.{Func}
use Rattle.cc_program.specs.declared.object.Device.{Device}
use Rattle.cc_program.specs.declared.program.Program.{Program}
use Rattle.cc_program.specs.declared.stmt.Case.{Case}
use Rattle.cc_program.specs.declared.stmt.Stmt.{Stmt, out-Stmt}
use Rattle.cc_program.specs.declared.stmt.Stmt.TheOpen as is
use Rattle.cc_program.specs.declared.value.Address.{Address}
use Rattle.cc_program.specs.declared.value.Address.TheVariants as address
use Rattle.cc_program.specs.declared.value.Cell.{Cell}
use Rattle.cc_program.specs.declared.value.Cell.TheVariants as cell
use Rattle.cc_program.specs.declared.value.Root.TheVariants as root
use Rattle.cc_program.specs.declared.value.Value.{Value}
use Rattle.cc_program.specs.declared.value.Value.TheVariants.{Int}
use Rattle.cc_states.specs.CcCells.Cells.{with_scalar}
use Rattle.cc_states.specs.CcControl.Control.{Control, level, close, behind}
use Rattle.cc_states.specs.CcControl.declared.phase.Phase.TheVariants.{First}
use Rattle.cc_states.specs.CcEval.declared.action.Action.{Action}
use Rattle.cc_states.specs.CcEval.declared.action.Action.TheVariants.{Read, Write, Choose, Call, Flag, Save}
use Rattle.cc_states.specs.CcEval.declared.action.Manner.{Manner}
use Rattle.cc_states.specs.CcEval.declared.mark.Mark.{Mark}
use Rattle.cc_states.specs.CcEval.declared.mark.Mark.TheVariants.{Gave, Did, Chose}
use Rattle.cc_states.specs.CcEval.Context.{Context}
use Rattle.cc_states.specs.CcEval.Eval.{Meaning}
use Rattle.cc_states.proofs.CcEval.Opened.{meaning_at}
use Rattle.cc_states.specs.CcEval.Progress.{Progress, Known, Waits, Traps, no_value}
use Rattle.cc_flow.specs.declared.next.Site.{Site}
use Rattle.cc_flow.specs.Points.{count_of}
use Rattle.cc_states.specs.CcSteps.declared.content.Content.{Content}
use Rattle.cc_states.specs.CcSteps.declared.content.Content.TheVariants.{Gone, Unwritten, Holds}
use Rattle.cc_states.specs.CcSteps.declared.event.Event.{Event}
use Rattle.cc_states.specs.CcSteps.declared.event.Event.TheVariants as event
use Rattle.cc_states.specs.CcSteps.declared.event.Event.TheVariants.{Enter}
use Rattle.cc_states.specs.CcSteps.declared.event.End.TheVariants.{Trap, Starved}
use Rattle.cc_states.specs.CcSteps.Access.{with_locals, is_open, with_local}
use Rattle.cc_states.specs.CcSteps.State.{Active, State, locals_with}
use Rattle.cc_states.specs.CcSteps.Step.{stopped, with_stack, with_flag, with_statics, with_inputs, with_event, content_at, worked, progress_in, progress_of, is_known, with_mark, goes_to, settled_in, settled, marked, on_top, did, cell_position, has_read, input_read, read, has_written, write, activation, opened, opened_if, call, perform, next_place, is_return, return_mark, gives_nothing, returned, stepped, active_step, proceed}
use Rattle.cc_states.specs.CcSteps.Turn.{is_going, only_handler, may_enter, entered, turn_by, turn}
use Rattle.cc_states.specs.States.{expression_of, worked_at, IsActive, AreActive, IsState}
use Rattle.cc_states.proofs.CcSteps.MarkLemmas.{marked_call, marked_with}
use Rattle.cc_states.proofs.ControlLemmas.{may_break_there, may_continue_there}
use Rattle.cc_states.specs.CcSyntax.Forms.{form_of, form_at}
use Rattle.cc_states.specs.CcSyntax.Normal.{is_one}
use Rattle.cc_states.specs.CcSyntax.SameTypes.{same_int}
use Rattle.cc_states.specs.CcSyntax.Operators.{is_handler}
use Rattle.cc_states.proofs.CcSyntax.Prefixes.{both_true}
use Rattle.cc_states.specs.CcValues.Values.{is_true}
use Rattle.cc_flow_sound.specs.Sites.{own_site, nexts, StandsAt, base_of, number_at, IsPoint}
use Rattle.cc_flow_sound.proofs.Opened.{all_normal, NormalAt, normal_level, normal_head}
use Rattle.cc_flow_sound.proofs.Places.{AreNormal, sited, normal_inside, body_at, behind_at}
use Rattle.cc_flow_sound.proofs.Starts.{is_here}
use Rattle.cc_flow_sound.proofs.Goes.{next_at, goes_at}
use Rattle.cc_flow_sound.proofs.Numbered.{at_statement, at_point, entered_at}
use Rattle.cc_flow_sound.specs.Moves.{Standing, standing, standings, entry, IsAt, IsNext, StaysOrGoes, IsMove, Goes, Opens, Backs, Ends, Stands}

-- ---- the test of `while (1)`

abbrev IsOne : one.Expr-F Expr PlaceOf → Type 0
IsOne x = (n : ℤ) × (t : IntType) × (x ≡ one.Const n t) × (int_eq n (pos 1) ≡ true)

one_form : (x : one.Expr-F Expr PlaceOf) → is_one (form_at x) ≡ true → IsOne x
one_form (one.Const n t) h = (n, t, refl, (both_true (int_eq n (pos 1)) (same_int t int.Int) h).0)
one_form _ h = absurd (cc)

one_is_true : (n : ℤ) → int_eq n (pos 1) ≡ true → is_true (Int n) ≡ true
one_is_true (pos zero) h = absurd (cc)
one_is_true (pos (suc n)) h = refl
one_is_true (negsuc n) h = refl

known_same : (q : Progress (Option Value)) (w u : Value) (ms ns : List Mark) → q ≡ Known (Some w) ms → q ≡ Known (Some u) ns → w ≡ u
known_same q w u ms ns h k = cc

module _ (p : Program) (few : count_of p < 2 ^ 32) (normal : (g : ℕ) (f : Func) → slice_get p.funcs g ≡ Some f → all_normal p.target f f.body ≡ true) where
  taken_test : (a : Active) (f : Func) (e : Expr) (w : Value) (ms : List Mark) → slice_get p.funcs a.func ≡ Some f → is_one (form_of e) ≡ true → progress_of p a (Some e) ≡ Known (Some w) ms → is_true w ≡ true
  taken_test a f e w ms function h k =
      let c : Context = record { program = p; number = a.number; id = a.func; func = f } in
      let o = one_form (out-Expr e) h in
      let known : progress_of p a (Some e) ≡ Known (Some (Int o.0)) a.marks =
      ap (λ (g : Option Func). progress_in p a.number a.func a.marks g (Some e)) function ∙ ap (λ (m : Meaning). m.next (λ r. false) a.marks) (meaning_at c e (one.Const o.0 o.1) o.2) in
      ap is_true (known_same (progress_of p a (Some e)) w (Int o.0) ms a.marks k known) ∙ one_is_true o.0 o.3

  -- ---- an activation of a state

  module _ (openings : List ℕ) (a : Active) (h : IsActive p openings a) where
    abbrev f : Func
    f = h.func

    abbrev base : Site
    base = base_of p a.func f

    whole : all_normal p.target f f.body ≡ true
    whole = normal a.func f h.function

    levels_normal : AreNormal p.target f base f.body (a.here ∷ a.around)
    levels_normal = normal_inside p.target f base f.body whole (a.here ∷ a.around) h.inside

    abbrev Next : Control → Type 0
    Next to = IsNext p (standing a) (a.func, to)

    module _ (s : Stmt) (rest : List Stmt) (here : a.here.rest ≡ s ∷ rest) where
      place : (site : Site) × StandsAt base f.body a.around (s ∷ rest) a.here.position site
      place =
          let i = sited p.target f base f.body whole a.around a.here.rest a.here.position h.inside.0 h.inside.1 in
          (i.0, subst (λ (l : List Stmt). StandsAt base f.body a.around l a.here.position i.0) here i.1)

      abbrev own : Site
      own = own_site s rest place.0

      first_normal : NormalAt p.target f (out-Stmt s)
      first_normal = normal_level p.target f s (normal_head p.target f s rest (ap (all_normal p.target f) (sym here) ∙ levels_normal.0)).0

      next_by : (to : Control) (k : ℕ) → IsPoint base f.body to k → Contains (nexts (out-Stmt s) own) k → Next to
      next_by to k r c =
          let from = at_statement p a.func f h.function few (a.here, a.around) s rest place.0 here place.1 in
          record { from = place.0.number; here = from.point_at; next = k; is_next = subst (λ (ns : List ℕ). Contains ns k) (sym from.next_is) c; there = at_point p a.func f h.function few to k r }

      -- it is behind the statement
      left : (e : Expr) → out-Stmt s ≡ is.Do e → (b : Active) → Next ((goes_to p b (behind a.here a.around)).here, (goes_to p b (behind a.here a.around)).around)
      left e is_do b =
          next_by ((goes_to p b (behind a.here a.around)).here, (goes_to p b (behind a.here a.around)).around) own.behind
          (goes_at p.target f base f.body p b (behind a.here a.around) own.behind (behind_at p.target f base f.body a.here a.around s rest place.0 here place.1 levels_normal))
          (subst (λ x. Contains (nexts x own) own.behind) (sym is_do) (is_here own.behind []))

      -- where it goes once the value of its expression is known
      pub gone : (w : Value) (ms : List Mark) → progress_of p a (expression_of a) ≡ Known (Some w) ms → is_return (out-Stmt s) ≡ false →
          Next ((goes_to p a (next_place (out-Stmt s) a w)).here, (goes_to p a (next_place (out-Stmt s) a w)).around)
      gone w ms k r =
          let n = next_at p.target f base f.body a s rest place.0 here place.1 levels_normal w (may_break_there p f a s rest here h.control) (may_continue_there p f a s rest here h.control) taken stays in
          next_by ((goes_to p a (next_place (out-Stmt s) a w)).here, (goes_to p a (next_place (out-Stmt s) a w)).around) n.0 (goes_at p.target f base f.body p a (next_place (out-Stmt s) a w) n.0 n.1) n.2
        where
          taken : (e : Expr) (list : List Stmt) → out-Stmt s ≡ is.While e list → is_true w ≡ true
          taken e list i =
              let n : NormalAt p.target f (is.While e list) = subst (NormalAt p.target f) i first_normal in
              let x : expression_of a ≡ Some e = ap (worked_at a.here) here ∙ ap (λ y. worked y a.here.phase) i in
              taken_test a f e w ms h.function (both_true (is_one (form_of e)) (all_normal p.target f list) n).0 (ap (progress_of p a) (sym x) ∙ k)

          returns : (e : Option Expr) → is_return (is.Return e) ≡ false → ⊥
          returns e t = cc

          stays : (e : Option Expr) → out-Stmt s ≡ is.Return e → ⊥
          stays e i = let t : is_return (is.Return e) ≡ false = ap is_return (sym i) ∙ r in returns e t

    -- one more mark
    abbrev after : Active → Standing
    after b = (a.func, (b.here, b.around))

    settled_by : (s : Stmt) (rest : List Stmt) → a.here.rest ≡ s ∷ rest → (m : Mark) → (x : is.Stmt-F Stmt Case) → out-Stmt s ≡ x → StaysOrGoes p (standing a) (after (settled_in p x (with_mark a m)))
    settled_by s rest here m (is.Do e) i = by (is_known (progress_of p (with_mark a m) (Some e)))
      where
        by : (b : Bool) → StaysOrGoes p (standing a) (after (if b then goes_to p (with_mark a m) (behind a.here a.around) else with_mark a m))
        by true = inr (left s rest here e i (with_mark a m))
        by false = inl refl
    settled_by s rest here m (is.For start test again body) i = absurd (let n : NormalAt p.target f (is.For start test again body) = subst (NormalAt p.target f) i (first_normal s rest here) in cc)
    settled_by s rest here m (is.If e these those) i = inl refl
    settled_by s rest here m (is.While e body) i = inl refl
    settled_by s rest here m (is.DoWhile body e) i = inl refl
    settled_by s rest here m (is.Switch e cases) i = inl refl
    settled_by s rest here m is.Break i = inl refl
    settled_by s rest here m is.Continue i = inl refl
    settled_by s rest here m (is.Return e) i = inl refl
    settled_by s rest here m is.Empty i = inl refl
    settled_by s rest here m (is.Block body) i = inl refl

    list_by : (list : List Stmt) → a.here.rest ≡ list → (m : Mark) → StaysOrGoes p (standing a) (after (settled p list (with_mark a m)))
    list_by [] e m = inl refl
    list_by (s ∷ rest) e m = settled_by s rest e m (out-Stmt s) refl

    pub marked_moves : (m : Mark) → StaysOrGoes p (standing a) (after (marked p a m))
    marked_moves m = list_by a.here.rest refl m

    pub written_moves : (m : Mark) (locals : List (List (Option Value))) → StaysOrGoes p (standing a) (after (marked p (with_locals a locals) m))
    written_moves m locals = subst (λ (b : Active). StaysOrGoes p (standing a) (after b)) (sym (marked_with p a m locals)) (marked_moves m)

  -- ---- stacks

  local_spots : (stack : List Active) (number local k : ℕ) (w : Value) → standings (with_local stack number local k w) ≡ standings stack
  local_spots [] number local k w = refl
  local_spots (a ∷ below) number local k w = by (a.number == number) (local_spots below number local k w)
    where
      by : (b : Bool) → standings (with_local below number local k w) ≡ standings below → standings (if b then with_locals a (with_scalar a.locals local k (Some w)) ∷ below else a ∷ with_local below number local k w) ≡ standings (a ∷ below)
      by true h = refl
      by false h = ap (λ (x : List Standing). standing a ∷ x) h

  -- the stack with other locals
  record Kept (a : Active) (below stack : List Active) : Type 0 where
    locals : List (List (Option Value))
    rest : List Active
    is : stack ≡ with_locals a locals ∷ rest
    same : standings rest ≡ standings below

  kept_same : (a : Active) (below stack : List Active) → stack ≡ a ∷ below → Kept a below stack
  kept_same a below stack e = record { locals = a.locals; rest = below; is = e; same = refl }

  kept_local : (a : Active) (below stack : List Active) (number local k : ℕ) (w : Value) → stack ≡ a ∷ below → Kept a below (with_local stack number local k w)
  kept_local a below stack number local k w e = subst (λ (st : List Active). Kept a below (with_local st number local k w)) (sym e) (by (a.number == number))
    where
      by : (b : Bool) → Kept a below (if b then with_locals a (with_scalar a.locals local k (Some w)) ∷ below else a ∷ with_local below number local k w)
      by true = record { locals = with_scalar a.locals local k (Some w); rest = below; is = refl; same = refl }
      by false = record { locals = a.locals; rest = with_local below number local k w; is = refl; same = local_spots below number local k w }

  -- a function is entered at its entry
  pub entered_by : (g : ℕ) (f : Func) → slice_get p.funcs g ≡ Some f → (a : Active) → IsAt p (g, ((goes_to p a (close f.body 0 [])).here, (goes_to p a (close f.body 0 [])).around)) (entry p g)
  entered_by g f e a =
      let base = base_of p g f in
      let at : Control = ((goes_to p a (close f.body 0 [])).here, (goes_to p a (close f.body 0 [])).around) in
      subst (IsAt p (g, at)) (entered_at p g f e)
      (at_point p g f e few at (number_at f.body base) (goes_at p.target f base f.body p a (close f.body 0 []) (number_at f.body base) (body_at p.target f base f.body (normal g f e))))

  abbrev Moves : List Active → List Active → Type 0
  Moves xs ys = IsMove p (standings xs) (standings ys)

  module _ (s : State) (openings : List ℕ) (a : Active) (below : List Active) (top : s.stack ≡ a ∷ below) (h : IsActive p openings a) where
    did_moves : (t : State) (m : Mark) → Kept a below t.stack → Moves (a ∷ below) (did p t m).stack
    did_moves t m k =
        let c = with_locals a k.locals in
        Goes (standing a) (a.func, ((marked p c m).here, (marked p c m).around)) (standings below) refl
        (ap (λ (st : List Active). standings (on_top p st m)) k.is ∙ ap (λ (g : ℕ). (g, ((marked p c m).here, (marked p c m).around)) ∷ standings k.rest) (marked_call p c m).func
        ∙ ap (λ (x : List Standing). (a.func, ((marked p c m).here, (marked p c m).around)) ∷ x) k.same)
        (written_moves openings a h m k.locals)

    stands_still : (t : State) → t.stack ≡ s.stack → Moves (a ∷ below) t.stack
    stands_still t e = Stands (ap standings (e ∙ top))

    plain : (t : State) (m : Mark) → t.stack ≡ s.stack → Moves (a ∷ below) (did p t m).stack
    plain t m e = did_moves t m (kept_same a below t.stack (e ∙ top))

    event_stack : (b : Bool) (t : State) (e : Event) → (with_event b t e).stack ≡ t.stack
    event_stack false t e = refl
    event_stack true t e = refl

    read_moves : (at : Cell) (manner : Manner) → Moves (a ∷ below) (read p s at manner).stack
    read_moves (cell.Device d) manner = by (slice_get p.devices d) s.memory.inputs
      where
        by : (x : Option Device) (inputs : List ℤ) → Moves (a ∷ below) (input_read p s d x inputs).stack
        by None inputs = stands_still (stopped s Trap) refl
        by (Some device) [] = stands_still (stopped s Starved) refl
        by (Some device) (z ∷ inputs) =
            plain (with_event true (with_inputs s inputs) (event.Read (cell.Device d) (Int (converted z device.int p.target)))) (Gave (Some (Int (converted z device.int p.target)))) refl
    read_moves (cell.At object path) manner = by (content_at s object (cell_position p object path))
      where
        bad : (b : Bool) → Moves (a ∷ below) (if b then did p s (Gave None) else stopped s Trap).stack
        bad true = plain s (Gave None) refl
        bad false = stands_still (stopped s Trap) refl

        by : (x : Content) → Moves (a ∷ below) (has_read p s (cell.At object path) manner x).stack
        by Gone = stands_still (stopped s Trap) refl
        by Unwritten = bad manner.may_be_bad
        by (Holds w) = plain (with_event manner.is_event s (event.Read (cell.At object path) w)) (Gave (Some w)) (event_stack manner.is_event s (event.Read (cell.At object path) w))

    write_moves : (at : Cell) (is_event : Bool) (w : Value) → Moves (a ∷ below) (write p s at is_event w).stack
    write_moves (cell.Device d) is_event w = plain (with_event true s (event.Write (cell.Device d) w)) Did refl
    write_moves (cell.At (root.Static i) path) is_event w =
        plain (with_event is_event (with_statics s (with_scalar s.memory.statics i (cell_position p (root.Static i) path) w)) (event.Write (cell.At (root.Static i) path) w)) Did
        (event_stack is_event (with_statics s (with_scalar s.memory.statics i (cell_position p (root.Static i) path) w)) (event.Write (cell.At (root.Static i) path) w))
    write_moves (cell.At (root.Auto number id r) path) is_event w = by (is_open s.stack number)
      where
        at : Cell
        at = cell.At (root.Auto number id r) path

        t : State
        t = with_stack s (with_local s.stack number r (cell_position p (root.Auto number id r) path) w)

        by : (b : Bool) → Moves (a ∷ below) (has_written p (cell.At (root.Auto number id r) path) is_event w s (if b then Some (with_stack s (with_local s.stack number r (cell_position p (root.Auto number id r) path) w)) else None)).stack
        by true =
            let t = with_stack s (with_local s.stack number r (cell_position p (root.Auto number id r) path) w) in
            did_moves (with_event is_event t (event.Write (cell.At (root.Auto number id r) path) w)) Did
            (subst (Kept a below) (sym (event_stack is_event t (event.Write (cell.At (root.Auto number id r) path) w))) (kept_local a below s.stack number r (cell_position p (root.Auto number id r) path) w top))
        by false = stands_still (stopped s Trap) refl

    opened_moves : (g : ℕ) (handler : Bool) (args : List Value) (f : Func) → slice_get p.funcs g ≡ Some f → (t : State) → t.stack ≡ s.stack → Moves (a ∷ below) (opened p t g handler args f).stack
    opened_moves g handler args f e t st =
        let b = activation p t.opened g handler args f in
        Opens g f (b.here, b.around) e (ap (λ (x : List Active). standing b ∷ standings x) (st ∙ top))
        (entered_by g f e (record { number = t.opened; func = g; handler = handler; locals = locals_with p args f.locals; here = level [] 0 First; around = []; marks = [] }))

    call_moves : (callee : Address) (args : List Value) → Moves (a ∷ below) (call p s callee args).stack
    call_moves address.Null args = stands_still (stopped s Trap) refl
    call_moves (address.At object path index count) args = stands_still (stopped s Trap) refl
    call_moves (address.Func g) args = by (slice_get p.funcs g) refl
      where
        by : (x : Option Func) → slice_get p.funcs g ≡ x → Moves (a ∷ below) (opened_if p s g args x).stack
        by None e = stands_still (stopped s Trap) refl
        by (Some f) e = opened_moves g false args f e s refl

    perform_moves : (action : Action) → Moves (a ∷ below) (perform p s action).stack
    perform_moves (Read at manner) = read_moves at manner
    perform_moves (Write at is_event w) = write_moves at is_event w
    perform_moves (Choose b) = plain s (Chose b) refl
    perform_moves (Call callee args) = call_moves callee args
    perform_moves (Flag on) = plain (with_flag s on) Did refl
    perform_moves Save = plain (with_flag s false) (Gave (Some (Int (one_if s.memory.flag)))) refl

    -- ---- returns

    back_moves : (w : Value) (b : Active) (rest : List Active) → below ≡ b ∷ rest → IsActive p openings b → (c : Bool) →
        Moves (a ∷ b ∷ rest) (if c then with_flag (with_stack s (b ∷ rest)) true else with_stack s (marked p b (return_mark p a.func w) ∷ rest)).stack
    back_moves w b rest e i true = Backs (standing a) (standing b) (standing b) (standings rest) refl refl (inl refl)
    back_moves w b rest e i false =
        let c = marked p b (return_mark p a.func w) in
        Backs (standing a) (standing b) (b.func, (c.here, c.around)) (standings rest) refl (ap (λ (g : ℕ). (g, (c.here, c.around)) ∷ standings rest) (marked_call p b (return_mark p a.func w)).func) (marked_moves openings b i (return_mark p a.func w))

    returned_by : (w : Value) (list : List Active) → below ≡ list → AreActive p openings list → Moves (a ∷ list) (returned p s a list w).stack
    returned_by w [] e l = Ends (standing a) refl refl
    returned_by w (b ∷ rest) e l = back_moves w b rest e l.0 a.handler

    module _ (l : AreActive p openings below) where
      returned_moves : (w : Value) → Moves (a ∷ below) (returned p s a below w).stack
      returned_moves w = returned_by w below refl l

      fallen_by : (b : Bool) → Moves (a ∷ below) (if b then returned p s a below no_value else stopped s Trap).stack
      fallen_by true = returned_moves no_value
      fallen_by false = stands_still (stopped s Trap) refl

      done_by : (st : Stmt) (rest : List Stmt) (w : Value) (ms : List Mark) → a.here.rest ≡ st ∷ rest → progress_of p a (expression_of a) ≡ Known (Some w) ms → (b : Bool) → is_return (out-Stmt st) ≡ b →
          Moves (a ∷ below) (if b then returned p s a below w else with_stack s (goes_to p a (next_place (out-Stmt st) a w) ∷ below)).stack
      done_by st rest w ms here k true r = returned_moves w
      done_by st rest w ms here k false r =
          let c = goes_to p a (next_place (out-Stmt st) a w) in
          Goes (standing a) (a.func, (c.here, c.around)) (standings below) refl refl (inr (gone openings a h st rest here w ms k r))

      stepped_by : (st : Stmt) (rest : List Stmt) → a.here.rest ≡ st ∷ rest → (q : Progress (Option Value)) → progress_of p a (expression_of a) ≡ q → Moves (a ∷ below) (stepped p (out-Stmt st) s a below q).stack
      stepped_by st rest here (Waits action) k = perform_moves action
      stepped_by st rest here (Traps ms) k = stands_still (stopped s Trap) refl
      stepped_by st rest here (Known None ms) k = stands_still (stopped s Trap) refl
      stepped_by st rest here (Known (Some w) ms) k = done_by st rest w ms here k (is_return (out-Stmt st)) refl

      step_moves : (list : List Stmt) → a.here.rest ≡ list → Moves (a ∷ below) (active_step p list s a below).stack
      step_moves [] e = fallen_by (gives_nothing (slice_get p.funcs a.func) || (a.func == p.main))
      step_moves (st ∷ rest) e = stepped_by st rest e (progress_of p a (worked (out-Stmt st) a.here.phase)) (ap (λ (li : List Stmt). progress_of p a (worked_at a.here li)) e)

  -- ---- turns

  module _ (openings : List ℕ) where
    proceeds : (s : State) (stack : List Active) → s.stack ≡ stack → AreActive p openings stack → Moves stack (proceed p s stack).stack
    proceeds s [] e h = Stands (ap standings e)
    proceeds s (a ∷ below) e h = step_moves (with_stack s (a ∷ below)) openings a below refl h.0 h.1 a.here.rest refl

    going : (s : State) (b : Bool) → AreActive p openings s.stack → Moves s.stack (if b then proceed p s s.stack else s).stack
    going s true h = proceeds s s.stack refl h
    going s false h = Stands refl

    enters : (s : State) (g : ℕ) (f : Func) → slice_get p.funcs g ≡ Some f → Moves s.stack (entered p s (g, f)).stack
    enters s g f e =
        let t = with_event true (with_flag s false) (Enter g) in
        let b = activation p s.opened g true [] f in
        Opens g f (b.here, b.around) e refl
        (entered_by g f e (record { number = s.opened; func = g; handler = true; locals = locals_with p [] f.locals; here = level [] 0 First; around = []; marks = [] }))

    handler_by : (s : State) (g : ℕ) → AreActive p openings s.stack → (x : Option Func) → slice_get p.funcs g ≡ x → Moves s.stack (turn_by p s (option_map (λ f. (g, f)) (only_handler x))).stack
    handler_by s g h None e = going s (is_going s.end) h
    handler_by s g h (Some f) e = by (is_handler f)
      where
        by : (b : Bool) → Moves s.stack (turn_by p s (option_map (λ f. (g, f)) (if b then Some f else None))).stack
        by true = enters s g f e
        by false = going s (is_going s.end) h

    arrival_by : (s : State) (g : ℕ) → AreActive p openings s.stack → (b : Bool) → Moves s.stack (turn_by p s (if b then option_map (λ f. (g, f)) (only_handler (slice_get p.funcs g)) else None)).stack
    arrival_by s g h true = handler_by s g h (slice_get p.funcs g) refl
    arrival_by s g h false = going s (is_going s.end) h

    turned : (s : State) → AreActive p openings s.stack → (arrival : Option ℕ) → Moves s.stack (turn p s arrival).stack
    turned s h None = going s (is_going s.end) h
    turned s h (Some g) = arrival_by s g h (is_going s.end && may_enter p s g)

  -- each turn leaves the running activation at its point, takes it to a next one, to a callee's or a handler's entry, or back
  pub turn_moves : (s : State) → IsState p s → (arrival : Option ℕ) → IsMove p (standings s.stack) (standings (turn p s arrival).stack)
  turn_moves s h arrival = turned h.0 s h.1.stack arrival
