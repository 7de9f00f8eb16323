-- What a mark makes of an activation: it goes on in its function, in the same call; a write of its locals and a mark come in either order.
use Rattle.std.proofs.Common.{◌≡◌, Bool, true, false, List, [], ◌∷◌, Option, Some, refl}
use Rattle.std.specs.Prelude.{if◌then◌else◌}
use Rattle.cc_program.specs.declared.program.Program.{Program}
use Rattle.cc_program.specs.declared.stmt.Case.{Case}
use Rattle.cc_program.specs.declared.stmt.Stmt.{Stmt, out-Stmt}
use Rattle.cc_program.specs.declared.stmt.Stmt.TheOpen as is
use Rattle.cc_program.specs.declared.value.Value.{Value}
use Rattle.cc_control.specs.Control.{Control, behind}
use Rattle.cc_eval.specs.declared.mark.Mark.{Mark}
use Rattle.cc_steps.specs.Access.{with_locals}
use Rattle.cc_steps.specs.State.{Active, IsSameCall}
use Rattle.cc_steps.specs.Step.{moved, at_test, with_mark, progress_of, is_known, passes, goes_to, settled_in, settled, marked}

abbrev Locals : Type 0
Locals = List (List (Option Value))

module _ (p : Program) where
  either_with : (b : Bool) (these those : Active) (l : Locals) → (if b then with_locals these l else with_locals those l) ≡ with_locals (if b then these else those) l
  either_with true these those l = refl
  either_with false these those l = refl

  settled_with : (x : is.Stmt-F Stmt Case) (a : Active) (l : Locals) → settled_in p x (with_locals a l) ≡ with_locals (settled_in p x a) l
  settled_with (is.Do e) a l = either_with (is_known (progress_of p a (Some e))) (goes_to p a (behind a.here a.around)) a l
  settled_with (is.If e these those) a l = refl
  settled_with (is.While e body) a l = refl
  settled_with (is.DoWhile body e) a l = refl
  settled_with (is.For first test again body) a l = either_with (passes p a.number a.func a.marks a.here) (moved a (at_test a.here, a.around)) a l
  settled_with (is.Switch e cases) a l = refl
  settled_with is.Break a l = refl
  settled_with is.Continue a l = refl
  settled_with (is.Return e) a l = refl
  settled_with is.Empty a l = refl
  settled_with (is.Block body) a l = refl

  list_with : (list : List Stmt) (a : Active) (l : Locals) → settled p list (with_locals a l) ≡ with_locals (settled p list a) l
  list_with [] a l = refl
  list_with (s ∷ rest) a l = settled_with (out-Stmt s) a l

  pub marked_with : (a : Active) (m : Mark) (l : Locals) → marked p (with_locals a l) m ≡ with_locals (marked p a m) l
  marked_with a m l = list_with a.here.rest (with_mark a m) l

  -- ---- the call

  either_call : (c : Bool) (a these those : Active) → IsSameCall these a → IsSameCall those a → IsSameCall (if c then these else those) a
  either_call true a these those h k = h
  either_call false a these those h k = k

  pub itself : (a : Active) → IsSameCall a a
  itself a = record { number = refl; func = refl; handler = refl }

  pub gone : (a : Active) (at : Control) → IsSameCall (goes_to p a at) a
  gone a at = record { number = refl; func = refl; handler = refl }

  settled_call : (x : is.Stmt-F Stmt Case) (a b : Active) → IsSameCall b a → IsSameCall (settled_in p x b) a
  settled_call (is.Do e) a b h = either_call (is_known (progress_of p b (Some e))) a (goes_to p b (behind b.here b.around)) b (record { number = h.number; func = h.func; handler = h.handler }) h
  settled_call (is.If e these those) a b h = h
  settled_call (is.While e body) a b h = h
  settled_call (is.DoWhile body e) a b h = h
  settled_call (is.For first test again body) a b h = either_call (passes p b.number b.func b.marks b.here) a (moved b (at_test b.here, b.around)) b (record { number = h.number; func = h.func; handler = h.handler }) h
  settled_call (is.Switch e cases) a b h = h
  settled_call is.Break a b h = h
  settled_call is.Continue a b h = h
  settled_call (is.Return e) a b h = h
  settled_call is.Empty a b h = h
  settled_call (is.Block body) a b h = h

  settled_list : (list : List Stmt) (a b : Active) → IsSameCall b a → IsSameCall (settled p list b) a
  settled_list [] a b h = h
  settled_list (s ∷ rest) a b h = settled_call (out-Stmt s) a b h

  pub marked_call : (a : Active) (m : Mark) → IsSameCall (marked p a m) a
  marked_call a m = settled_list a.here.rest a (with_mark a m) (record { number = refl; func = refl; handler = refl })
