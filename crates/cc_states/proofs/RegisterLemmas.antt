-- A turn changes no register of an activation below the running one.
use Rattle.std.proofs.Common.{arith, ◌≡◌, ◌∙◌, ◌<◌, ◌==◌, ◌∷◌, ◌||◌, inl, inr, ℕ, zero, suc, ℤ, Bool, true, false, List, [], Option, Some, None, refl, ap, sym, subst, if◌then◌else◌}
use Rattle.std.proofs.lemmas.Bool.{eq-eqb, eqb-true}
use Rattle.std.proofs.lemmas.Option.{same_Some, slice_get_within}
use Rattle.std.specs.Prelude.{option_and_then, slice_get}
use Rattle.cc_steps.specs.CcCells.Cells.{scalar_in, with_scalar}
use Rattle.cc_steps.specs.CcControl.Control.{behind}
use Rattle.cc_steps.specs.CcEval.declared.action.Action.{Action}
use Rattle.cc_steps.specs.CcEval.declared.action.Action.TheVariants.{Read, Write, Choose, Call, Flag, Save}
use Rattle.cc_steps.specs.CcEval.declared.action.Manner.{Manner}
use Rattle.cc_steps.specs.CcEval.declared.mark.Mark.{Mark}
use Rattle.cc_steps.specs.CcEval.declared.mark.Mark.TheVariants.{Gave, Did, Chose}
use Rattle.cc_steps.specs.CcEval.Progress.{Progress, Known, Waits, Traps, no_value}
use Rattle.cc_program.specs.declared.func.Func.{Func}
use Rattle.cc_program.specs.declared.object.Device.{Device}
use Rattle.cc_program.specs.declared.program.Program.{Program}
use Rattle.cc_program.specs.declared.stmt.Case.{Case}
use Rattle.cc_program.specs.declared.stmt.Stmt.{Stmt, out-Stmt}
use Rattle.cc_program.specs.declared.stmt.Stmt.TheOpen as is
use Rattle.cc_program.specs.declared.value.Address.TheVariants as address
use Rattle.cc_program.specs.declared.value.Cell.{Cell}
use Rattle.cc_program.specs.declared.value.Cell.TheVariants as cell
use Rattle.cc_program.specs.declared.value.Root.TheVariants as root
use Rattle.cc_program.specs.declared.value.Value.{Value}
use Rattle.cc_steps.specs.declared.content.Content.{Content}
use Rattle.cc_steps.specs.declared.content.Content.TheVariants.{Gone, Unwritten, Holds}
use Rattle.cc_steps.specs.declared.event.End.TheVariants.{Trap}
use Rattle.cc_steps.specs.declared.event.Event.{Event}
use Rattle.cc_steps.specs.declared.event.Event.TheVariants as event
use Rattle.cc_steps.specs.Access.{is_open, with_local, with_locals}
use Rattle.cc_steps.specs.State.{Active, State}
use Rattle.cc_steps.specs.Step.{stopped, with_stack, with_flag, with_statics, with_event, content_at, is_known, at_test, moved, with_mark, worked, next_place, is_return, progress_of, passes, goes_to, settled_in, settled, marked, on_top, did, cell_position, gives_nothing, has_read, input_read, has_written, activation, opened_if, return_mark, returned, perform, stepped, active_step, proceed}
use Rattle.cc_steps.specs.Turn.{is_going, entering, turn, turn_by}
use Rattle.cc_states.specs.Answers.{IsAction, AreReached}
use Rattle.cc_states.specs.States.{worked_at, expression_of, IsActive, AreActive, AreInOrder, IsState, local_scalar, KeepsRegisters}
use Rattle.cc_states.specs.Typed.{is_register_in}
use Rattle.cc_steps.proofs.MarkLemmas.{marked_call}
use Rattle.cc_steps.proofs.CellsApart.{elsewhere}
use Rattle.cc_states.proofs.StateLemmas.{asked, reaches, same_opening}

module _ (p : Program) where
  -- ---- a mark keeps locals

  either_locals : (b : Bool) (a x y : Active) → x.locals ≡ a.locals → y.locals ≡ a.locals → (if b then x else y).locals ≡ a.locals
  either_locals true a x y h k = h
  either_locals false a x y h k = k

  settled_locals_in : (x : is.Stmt-F Stmt Case) (a : Active) → (settled_in p x a).locals ≡ a.locals
  settled_locals_in (is.Do e) a = either_locals (is_known (progress_of p a (Some e))) a (goes_to p a (behind a.here a.around)) a refl refl
  settled_locals_in (is.For start test again body) a = either_locals (passes p a.number a.func a.marks a.here) a (moved a (at_test a.here, a.around)) a refl refl
  settled_locals_in _ a = refl

  settled_locals : (l : List Stmt) (a : Active) → (settled p l a).locals ≡ a.locals
  settled_locals [] a = refl
  settled_locals (s ∷ l) a = settled_locals_in (out-Stmt s) a

  marked_locals : (a : Active) (m : Mark) → (marked p a m).locals ≡ a.locals
  marked_locals a m = settled_locals a.here.rest (with_mark a m)

  -- ---- what a scalar of a local holds, by the number of the activation

  module _ (n local position : ℕ) where
    abbrev scalar : List Active → Option (Option Value)
    scalar stack = local_scalar stack n local position

    head_apart : (a : Active) (below : List Active) → (a.number ≡ n → ⊥) → scalar (a ∷ below) ≡ scalar below
    head_apart a below h = by_number (a.number == n) refl
      where
        by_number : (b : Bool) → a.number == n ≡ b → (if b then scalar_in a.locals local position else scalar below) ≡ scalar below
        by_number true e = absurd (h (eqb-true a.number n e))
        by_number false e = refl

    head_same : (a b : Active) (below : List Active) → a.number ≡ b.number → a.locals ≡ b.locals → scalar (a ∷ below) ≡ scalar (b ∷ below)
    head_same a b below e f = λ i. if e i == n then scalar_in (f i) local position else scalar below

    marked_head : (a : Active) (m : Mark) (below : List Active) → scalar (marked p a m ∷ below) ≡ scalar (a ∷ below)
    marked_head a m below = head_same (marked p a m) a below ((marked_call p a m).number) (marked_locals a m)

    on_top_same : (stack : List Active) (m : Mark) → scalar (on_top p stack m) ≡ scalar stack
    on_top_same [] m = refl
    on_top_same (a ∷ below) m = marked_head a m below

    did_same : (s : State) (m : Mark) → scalar (did p s m).stack ≡ scalar s.stack
    did_same s m = on_top_same s.stack m

    event_same : (b : Bool) (s : State) (e : Event) → scalar (with_event b s e).stack ≡ scalar s.stack
    event_same true s e = refl
    event_same false s e = refl

    -- a write elsewhere
    write_same : (stack : List Active) (number l k : ℕ) (v : Value) → (number ≡ n → l ≡ local → ⊥) → scalar (with_local stack number l k v) ≡ scalar stack
    write_same [] number l k v h = refl
    write_same (a ∷ below) number l k v h = by_number (a.number == number) refl (write_same below number l k v h)
      where
        here : a.number ≡ number → (b : Bool) → a.number == n ≡ b → (if b then scalar_in (with_scalar a.locals l k (Some v)) local position else scalar below) ≡ (if b then scalar_in a.locals local position else scalar below)
        here e true f = ap (option_and_then (λ scalars. slice_get scalars position)) (elsewhere a.locals l local k (Some v) (λ g. h (sym e ∙ eqb-true a.number n f) g))
        here e false f = refl

        by_number : (b : Bool) → a.number == number ≡ b → scalar (with_local below number l k v) ≡ scalar below →
            scalar (if b then with_locals a (with_scalar a.locals l k (Some v)) ∷ below else a ∷ with_local below number l k v) ≡ scalar (a ∷ below)
        by_number true e next = here (eqb-true a.number number e) (a.number == n) refl
        by_number false e next = ap (λ (x : Option (Option Value)). if a.number == n then scalar_in a.locals local position else x) next

    -- ---- steps that do not touch it

    read_same : (s : State) (at : Cell) (manner : Manner) (c : Content) → scalar (has_read p s at manner c).stack ≡ scalar s.stack
    read_same s at manner Gone = refl
    read_same s at manner Unwritten = by_bad manner.may_be_bad
      where
        by_bad : (b : Bool) → scalar (if b then did p s (Gave None) else stopped s Trap).stack ≡ scalar s.stack
        by_bad true = did_same s (Gave None)
        by_bad false = refl
    read_same s at manner (Holds v) = did_same (with_event manner.is_event s (event.Read at v)) (Gave (Some v)) ∙ event_same manner.is_event s (event.Read at v)

    input_same : (s : State) (d : ℕ) (device : Option Device) (inputs : List ℤ) → scalar (input_read p s d device inputs).stack ≡ scalar s.stack
    input_same s d None inputs = refl
    input_same s d (Some device) [] = refl
    input_same s d (Some device) (x ∷ inputs) = on_top_same s.stack _

    open_written : (s : State) (at : Cell) (is_event : Bool) (v : Value) (b : Bool) (number l k : ℕ) → (number ≡ n → l ≡ local → ⊥) →
        scalar (has_written p at is_event v s (if b then Some (with_stack s (with_local s.stack number l k v)) else None)).stack ≡ scalar s.stack
    open_written s at is_event v true number l k h =
        did_same (with_event is_event (with_stack s (with_local s.stack number l k v)) (event.Write at v)) Did ∙ event_same is_event (with_stack s (with_local s.stack number l k v)) (event.Write at v) ∙ write_same s.stack number l k v h
    open_written s at is_event v false number l k h = refl

    call_same : (s : State) (f : ℕ) (args : List Value) (g : Option Func) → (s.opened ≡ n → ⊥) → scalar (opened_if p s f args g).stack ≡ scalar s.stack
    call_same s f args None h = refl
    call_same s f args (Some g) h = head_apart (activation p s.opened f false args g) s.stack h

    -- what an action writes is no register that another activation has
    abbrev Spares : Action → Type 0
    Spares (Write (cell.At (root.Auto number func l) path) is_event v) = number ≡ n → l ≡ local → ⊥
    Spares _ = Unit {0}

    perform_same : (s : State) (action : Action) → (s.opened ≡ n → ⊥) → Spares action → scalar (perform p s action).stack ≡ scalar s.stack
    perform_same s (Read (cell.Device d) manner) o h = input_same s d (slice_get p.devices d) s.memory.inputs
    perform_same s (Read (cell.At object path) manner) o h = read_same s (cell.At object path) manner (content_at s object (cell_position p object path))
    perform_same s (Write (cell.Device d) is_event v) o h = on_top_same s.stack Did
    perform_same s (Write (cell.At (root.Static i) path) is_event v) o h =
        let t : State = with_statics s (with_scalar s.memory.statics i (cell_position p (root.Static i) path) v) in
        did_same (with_event is_event t (event.Write (cell.At (root.Static i) path) v)) Did ∙ event_same is_event t (event.Write (cell.At (root.Static i) path) v)
    perform_same s (Write (cell.At (root.Auto number func l) path) is_event v) o h =
        open_written s (cell.At (root.Auto number func l) path) is_event v (is_open s.stack number) number l (cell_position p (root.Auto number func l) path) h
    perform_same s (Choose b) o h = did_same s (Chose b)
    perform_same s (Call address.Null args) o h = refl
    perform_same s (Call (address.Func f) args) o h = call_same s f args (slice_get p.funcs f) o
    perform_same s (Call (address.At object path index count) args) o h = refl
    perform_same s (Flag on) o h = on_top_same s.stack Did
    perform_same s Save o h = on_top_same s.stack _

    return_same : (s : State) (a : Active) (below : List Active) (v : Value) (i : ℕ) (b : Active) → slice_get below i ≡ Some b → scalar (returned p s a below v).stack ≡ scalar below
    return_same s a [] v i b h = absurd (cc)
    return_same s a (c ∷ rest) v i b h = by_handler a.handler
      where
        by_handler : (x : Bool) → scalar (if x then with_flag (with_stack s (c ∷ rest)) true else with_stack s (marked p c (return_mark p a.func v) ∷ rest)).stack ≡ scalar (c ∷ rest)
        by_handler true = refl
        by_handler false = marked_head c (return_mark p a.func v) rest

  -- ---- the order of activations

  below_less : (a : Active) (below : List Active) (i : ℕ) (b : Active) → AreInOrder (a ∷ below) → slice_get below i ≡ Some b → b.number < a.number
  below_less a [] i b h e = absurd (cc)
  below_less a (c ∷ below) zero b h e = subst (λ (x : Active). x.number < a.number) (same_Some c b e) h.0
  below_less a (c ∷ below) (suc i) b h e = let l = below_less c below i b h.1 e in omega (arith, l, h.0)

  own_scalar : (stack : List Active) (i : ℕ) (b : Active) → AreInOrder stack → slice_get stack i ≡ Some b → (local position : ℕ) → local_scalar stack b.number local position ≡ scalar_in b.locals local position
  own_scalar [] i b h e local position = absurd (cc)
  own_scalar (a ∷ below) zero b h e local position =
      let same = same_Some a b e in
      ap (λ (x : Active). if x.number == b.number then scalar_in x.locals local position else local_scalar below b.number local position) same
      ∙ ap (λ (c : Bool). if c then scalar_in b.locals local position else local_scalar below b.number local position) (eq-eqb b.number b.number refl)
  own_scalar (a ∷ below) (suc i) b h e local position =
      let l = below_less a below i b h e in
      head_apart b.number local position a below (λ f. absurd (omega (arith, l, f))) ∙ own_scalar below i b (in_order a below h) e local position
    where
      in_order : (a : Active) (below : List Active) → AreInOrder (a ∷ below) → AreInOrder below
      in_order a [] h = tt
      in_order a (c ∷ below) h = h.1

  active_at : (openings : List ℕ) (stack : List Active) (i : ℕ) (b : Active) → AreActive p openings stack → slice_get stack i ≡ Some b → IsActive p openings b
  active_at openings [] i b h e = absurd (cc)
  active_at openings (a ∷ below) zero b h e = subst (IsActive p openings) (same_Some a b e) h.0
  active_at openings (a ∷ below) (suc i) b h e = active_at openings below i b h.1 e

  -- ---- turns

  module _ (s : State) (h : IsState p s) (a : Active) (below : List Active) (top : s.stack ≡ a ∷ below) (b : Active) (i : ℕ) (there : slice_get below i ≡ Some b)
      (local : ℕ) (register : is_register_in (slice_get p.funcs b.func) local ≡ true) (position : ℕ) where
    abbrev holds : List Active → Option (Option Value)
    holds stack = local_scalar stack b.number local position

    running : AreActive p h.0 (a ∷ below)
    running = subst (AreActive p h.0) top h.1.stack

    own : IsActive p h.0 b
    own = active_at h.0 below i b running.1 there

    less : b.number < a.number
    less = below_less a below i b (subst AreInOrder top h.1.order) there

    apart : a.number ≡ b.number → ⊥
    apart e = absurd (omega (arith, less, e))

    opened_apart : s.opened ≡ b.number → ⊥
    opened_apart e = let l = slice_get_within h.0 b.number b.func own.number in let c = h.1.count in absurd (omega (arith, l, c, e))

    top_same : holds (a ∷ below) ≡ holds below
    top_same = head_apart b.number local position a below apart

    abbrev here : State
    here = with_stack s (a ∷ below)

    spares : (action : Action) → IsAction p h.0 action → AreReached p a.number action → Spares b.number local position action
    spares (Write (cell.At (root.Auto number func l) path) is_event v) k (inl e) = λ f g. apart (sym e ∙ f)
    spares (Write (cell.At (root.Auto number func l) path) is_event v) k (inr e) = λ f g.
        let same : b.func ≡ func = same_opening p h.0 b.number b.func func own.number (ap (slice_get h.0) (sym f) ∙ k.2) in
        let no : true ≡ false =
        sym register ∙ ap (λ (x : ℕ). is_register_in (slice_get p.funcs x) local) same ∙ ap (is_register_in (slice_get p.funcs func)) (sym g) ∙ e in
        absurd (cc)
    spares (Write (cell.At (root.Static j) path) is_event v) k e = tt
    spares (Write (cell.Device d) is_event v) k e = tt
    spares (Read at manner) k e = tt
    spares (Choose c) k e = tt
    spares (Call callee args) k e = tt
    spares (Flag on) k e = tt
    spares Save k e = tt

    done_same : (r : Bool) (c : Active) (v : Value) → c.number ≡ a.number → holds (if r then returned p here a below v else with_stack here (c ∷ below)).stack ≡ holds below
    done_same true c v e = return_same b.number local position here a below v i b there
    done_same false c v e = head_apart b.number local position c below (λ f. apart (sym e ∙ f))

    stepped_same : (x : is.Stmt-F Stmt Case) (r : Progress (Option Value)) → ((action : Action) → r ≡ Waits action → progress_of p a (expression_of a) ≡ Waits action) → holds (stepped p x here a below r).stack ≡ holds below
    stepped_same x (Waits action) w =
        perform_same b.number local position here action opened_apart (spares action (asked p h.0 a running.0 action (w action refl)) (reaches p h.0 a running.0 action (w action refl))) ∙ top_same
    stepped_same x (Traps ms) w = top_same
    stepped_same x (Known None ms) w = top_same
    stepped_same x (Known (Some v) ms) w = done_same (is_return x) (goes_to p a (next_place x a v)) v refl

    fallen_same : (c : Bool) → holds (if c then returned p here a below no_value else stopped here Trap).stack ≡ holds below
    fallen_same true = return_same b.number local position here a below no_value i b there
    fallen_same false = top_same

    list_same : (l : List Stmt) → a.here.rest ≡ l → holds (active_step p l here a below).stack ≡ holds below
    list_same [] e = fallen_same (gives_nothing (slice_get p.funcs a.func) || (a.func == p.main))
    list_same (x ∷ rest) e = stepped_same (out-Stmt x) (progress_of p a (worked (out-Stmt x) a.here.phase)) (λ action w. ap (progress_of p a) (ap (worked_at a.here) e) ∙ w)

    step_same : (g : Bool) → holds (if g then proceed p s s.stack else s).stack ≡ holds below
    step_same true = ap (λ (stack : List Active). holds (proceed p s stack).stack) top ∙ list_same a.here.rest refl
    step_same false = ap holds top ∙ top_same

    entering_same : (x : Option (ℕ × Func)) → holds (turn_by p s x).stack ≡ holds below
    entering_same None = step_same (is_going s.end)
    entering_same (Some e) = head_apart b.number local position (activation p s.opened e.0 true [] e.1) s.stack opened_apart ∙ ap holds top ∙ top_same

    in_below : AreInOrder below
    in_below = by_list below (subst AreInOrder top h.1.order)
      where
        by_list : (l : List Active) → AreInOrder (a ∷ l) → AreInOrder l
        by_list [] k = tt
        by_list (c ∷ l) k = k.1

    register_same : (arrival : Option ℕ) → holds (turn p s arrival).stack ≡ scalar_in b.locals local position
    register_same arrival = entering_same (entering p s arrival) ∙ own_scalar below i b in_below there local position

  pub registers_kept : (s : State) → IsState p s → (a : Active) (below : List Active) → s.stack ≡ a ∷ below → (b : Active) (i : ℕ) → slice_get below i ≡ Some b → (arrival : Option ℕ) → KeepsRegisters p (turn p s arrival).stack b
  registers_kept s h a below top b i there arrival local register position = register_same s h a below top b i there local register position arrival
