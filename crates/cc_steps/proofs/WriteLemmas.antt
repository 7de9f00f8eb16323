-- Where the running activation goes on does not depend on what its locals hold, so a mark and a write commute.
use Rattle.std.proofs.Common.{◌≡◌, ◌==◌, ℕ, Bool, true, false, if◌then◌else◌, List, [], ◌∷◌, Some, None, refl, ap, sym, ◌∙◌}
use Rattle.cc_control.specs.Control.{behind}
use Rattle.cc_eval.specs.declared.mark.Mark.{Mark}
use Rattle.cc_eval.specs.declared.mark.Mark.TheVariants.{Did}
use Rattle.cc_program.specs.declared.program.Program.{Program}
use Rattle.cc_program.specs.declared.stmt.Case.{Case}
use Rattle.cc_program.specs.declared.stmt.Stmt.{Stmt, out-Stmt}
use Rattle.cc_program.specs.declared.stmt.Stmt.TheOpen as is
use Rattle.cc_program.specs.declared.value.Cell.{Cell}
use Rattle.cc_program.specs.declared.value.Root.TheVariants as root
use Rattle.cc_program.specs.declared.value.Value.{Value}
use Rattle.cc_cells.specs.Cells.{with_scalar}
use Rattle.cc_steps.specs.Access.{is_open, with_local, with_locals}
use Rattle.cc_steps.specs.State.{Active, State}
use Rattle.cc_steps.specs.declared.event.Event.{Event}
use Rattle.cc_steps.specs.declared.event.Event.TheVariants as event
use Rattle.cc_steps.specs.Step.{with_stack, with_statics, with_event, did, written, has_written, is_known, passes, progress_of, goes_to, moved, at_test, settled_in, settled, with_mark, marked, on_top}
use Rattle.std.specs.Prelude.{Option}

module _ (p : Program) where
  either_way : (b : Bool) (x y : Active) (locals : List (List (Option Value))) → (if b then with_locals x locals else with_locals y locals) ≡ with_locals (if b then x else y) locals
  either_way true x y locals = refl
  either_way false x y locals = refl

  settled_in-locals : (x : is.Stmt-F Stmt Case) (a : Active) (locals : List (List (Option Value))) → settled_in p x (with_locals a locals) ≡ with_locals (settled_in p x a) locals
  settled_in-locals (is.Do e) a locals = either_way (is_known (progress_of p a (Some e))) (goes_to p a (behind a.here a.around)) a locals
  settled_in-locals (is.If e these those) a locals = refl
  settled_in-locals (is.While e body) a locals = refl
  settled_in-locals (is.DoWhile body e) a locals = refl
  settled_in-locals (is.For first test again body) a locals = either_way (passes p a.number a.func a.marks a.here) (moved a (at_test a.here, a.around)) a locals
  settled_in-locals (is.Switch e cases) a locals = refl
  settled_in-locals is.Break a locals = refl
  settled_in-locals is.Continue a locals = refl
  settled_in-locals (is.Return e) a locals = refl
  settled_in-locals is.Empty a locals = refl
  settled_in-locals (is.Block body) a locals = refl

  settled-locals : (rest : List Stmt) (a : Active) (locals : List (List (Option Value))) → settled p rest (with_locals a locals) ≡ with_locals (settled p rest a) locals
  settled-locals [] a locals = refl
  settled-locals (s ∷ rest) a locals = settled_in-locals (out-Stmt s) a locals

  marked-locals : (a : Active) (locals : List (List (Option Value))) (m : Mark) → marked p (with_locals a locals) m ≡ with_locals (marked p a m) locals
  marked-locals a locals m = settled-locals a.here.rest (with_mark a m) locals

  -- what a mark keeps
  same_number : (b : Bool) (x y : Active) → x.number ≡ y.number → (if b then x else y).number ≡ y.number
  same_number true x y h = h
  same_number false x y h = refl

  same_cells : (b : Bool) (x y : Active) → x.locals ≡ y.locals → (if b then x else y).locals ≡ y.locals
  same_cells true x y h = h
  same_cells false x y h = refl

  settled_in-number : (x : is.Stmt-F Stmt Case) (a : Active) → (settled_in p x a).number ≡ a.number
  settled_in-number (is.Do e) a = same_number (is_known (progress_of p a (Some e))) (goes_to p a (behind a.here a.around)) a refl
  settled_in-number (is.If e these those) a = refl
  settled_in-number (is.While e body) a = refl
  settled_in-number (is.DoWhile body e) a = refl
  settled_in-number (is.For first test again body) a = same_number (passes p a.number a.func a.marks a.here) (moved a (at_test a.here, a.around)) a refl
  settled_in-number (is.Switch e cases) a = refl
  settled_in-number is.Break a = refl
  settled_in-number is.Continue a = refl
  settled_in-number (is.Return e) a = refl
  settled_in-number is.Empty a = refl
  settled_in-number (is.Block body) a = refl

  settled_in-cells : (x : is.Stmt-F Stmt Case) (a : Active) → (settled_in p x a).locals ≡ a.locals
  settled_in-cells (is.Do e) a = same_cells (is_known (progress_of p a (Some e))) (goes_to p a (behind a.here a.around)) a refl
  settled_in-cells (is.If e these those) a = refl
  settled_in-cells (is.While e body) a = refl
  settled_in-cells (is.DoWhile body e) a = refl
  settled_in-cells (is.For first test again body) a = same_cells (passes p a.number a.func a.marks a.here) (moved a (at_test a.here, a.around)) a refl
  settled_in-cells (is.Switch e cases) a = refl
  settled_in-cells is.Break a = refl
  settled_in-cells is.Continue a = refl
  settled_in-cells (is.Return e) a = refl
  settled_in-cells is.Empty a = refl
  settled_in-cells (is.Block body) a = refl

  settled-number : (rest : List Stmt) (a : Active) → (settled p rest a).number ≡ a.number
  settled-number [] a = refl
  settled-number (s ∷ rest) a = settled_in-number (out-Stmt s) a

  settled-cells : (rest : List Stmt) (a : Active) → (settled p rest a).locals ≡ a.locals
  settled-cells [] a = refl
  settled-cells (s ∷ rest) a = settled_in-cells (out-Stmt s) a

  -- of the first of a stack, where it is the one that is written, or is not
  top : (b : Bool) (a : Active) (below : List Active) (number local n : ℕ) (v : Value) (m : Mark) →
      on_top p (if b then with_locals a (with_scalar a.locals local n (Some v)) ∷ below else a ∷ with_local below number local n v) m
      ≡ (if b then with_locals (marked p a m) (with_scalar a.locals local n (Some v)) ∷ below else marked p a m ∷ with_local below number local n v)
  top true a below number local n v m = ap (λ (x : Active). x ∷ below) (marked-locals a (with_scalar a.locals local n (Some v)) m)
  top false a below number local n v m = refl

  pub top-local : (stack : List Active) (number local n : ℕ) (v : Value) (m : Mark) → on_top p (with_local stack number local n v) m ≡ with_local (on_top p stack m) number local n v
  top-local [] number local n v m = refl
  top-local (a ∷ below) number local n v m =
      top (a.number == number) a below number local n v m
      ∙ ap (λ (k : ℕ). if k == number then with_locals (marked p a m) (with_scalar a.locals local n (Some v)) ∷ below else marked p a m ∷ with_local below number local n v) (sym (settled-number a.here.rest (with_mark a m)))
      ∙ ap (λ cells. if (marked p a m).number == number then with_locals (marked p a m) (with_scalar cells local n (Some v)) ∷ below else marked p a m ∷ with_local below number local n v) (sym (settled-cells a.here.rest (with_mark a m)))

  -- of the whole state: an event or none is noted, the mark is made, and the cell is written
  pub event-static : (b : Bool) (s : State) (i n : ℕ) (v : Value) (e : Event) (m : Mark) →
      did p (with_event b (with_statics s (with_scalar s.memory.statics i n v)) e) m
      ≡ with_statics (did p (with_event b s e) m) (with_scalar (did p (with_event b s e) m).memory.statics i n v)
  event-static true s i n v e m = refl
  event-static false s i n v e m = refl

  pub event-local : (b : Bool) (s : State) (number local n : ℕ) (v : Value) (e : Event) (m : Mark) →
      did p (with_event b (with_stack s (with_local s.stack number local n v)) e) m
      ≡ with_stack (did p (with_event b s e) m) (with_local (did p (with_event b s e) m).stack number local n v)
  event-local true s number local n v e m = ap (λ (stack : List Active). with_stack (with_event true s e) stack) (top-local s.stack number local n v m)
  event-local false s number local n v e m = ap (λ (stack : List Active). with_stack s stack) (top-local s.stack number local n v m)

  -- what a write comes to, from what its mark came to
  pub static-written : (to : Cell) (b : Bool) (s t : State) (i n : ℕ) (v : Value) → t ≡ did p (with_event b s (event.Write to v)) Did →
      with_statics t (with_scalar t.memory.statics i n v) ≡ has_written p to b v s (written s (root.Static i) n v)
  static-written to b s t i n v h =
      ap (λ (t : State). with_statics t (with_scalar t.memory.statics i n v)) h ∙ sym (event-static b s i n v (event.Write to v) Did)

  in_stack : (to : Cell) (b : Bool) (s : State) (x : Bool) (stack : List Active) (v : Value) → x ≡ true →
      has_written p to b v s (if x then Some (with_stack s stack) else None) ≡ did p (with_event b (with_stack s stack) (event.Write to v)) Did
  in_stack to b s true stack v h = refl
  in_stack to b s false stack v h = absurd (cc)

  pub local-written : (to : Cell) (b : Bool) (s t : State) (number func local n : ℕ) (v : Value) → is_open s.stack number ≡ true → t ≡ did p (with_event b s (event.Write to v)) Did →
      with_stack t (with_local t.stack number local n v) ≡ has_written p to b v s (written s (root.Auto number func local) n v)
  local-written to b s t number func local n v o h =
      ap (λ (t : State). with_stack t (with_local t.stack number local n v)) h ∙
      sym (in_stack to b s (is_open s.stack number) (with_local s.stack number local n v) v o ∙ event-local b s number local n v (event.Write to v) Did)

pub ruleset of_static_writes = (static-written)

pub ruleset of_writes = (local-written)
