-- An activation with one more mark keeps its locals.
use Rattle.std.proofs.Common.{◌≡◌, Bool, true, false, List, [], ◌∷◌, Option, Some, refl}
use Rattle.std.specs.Prelude.{if◌then◌else◌}
use Rattle.cc_flow_sound.specs.CcControl.Control.{behind}
use Rattle.cc_flow_sound.specs.CcEval.declared.mark.Mark.{Mark}
use Rattle.cc_program.specs.declared.program.Program.{Program}
use Rattle.cc_program.specs.declared.stmt.Case.{Case}
use Rattle.cc_program.specs.declared.stmt.Stmt.{Stmt, out-Stmt}
use Rattle.cc_program.specs.declared.stmt.Stmt.TheOpen as is
use Rattle.cc_program.specs.declared.value.Value.{Value}
use Rattle.cc_flow_sound.specs.CcSteps.State.{Active}
use Rattle.cc_flow_sound.specs.CcSteps.Step.{moved, at_test, with_mark, progress_of, is_known, passes, goes_to, settled_in, settled, marked}

abbrev Locals : Type 0
Locals = List (List (Option Value))

module _ (p : Program) where
  either_locals : (b : Bool) (these those : Active) (l : Locals) → these.locals ≡ l → those.locals ≡ l → (if b then these else those).locals ≡ l
  either_locals true these those l h k = h
  either_locals false these those l h k = k

  settled_locals : (x : is.Stmt-F Stmt Case) (a : Active) → (settled_in p x a).locals ≡ a.locals
  settled_locals (is.Do e) a = either_locals (is_known (progress_of p a (Some e))) (goes_to p a (behind a.here a.around)) a a.locals refl refl
  settled_locals (is.If e these those) a = refl
  settled_locals (is.While e body) a = refl
  settled_locals (is.DoWhile body e) a = refl
  settled_locals (is.For first test again body) a = either_locals (passes p a.number a.func a.marks a.here) (moved a (at_test a.here, a.around)) a a.locals refl refl
  settled_locals (is.Switch e cases) a = refl
  settled_locals is.Break a = refl
  settled_locals is.Continue a = refl
  settled_locals (is.Return e) a = refl
  settled_locals is.Empty a = refl
  settled_locals (is.Block body) a = refl

  list_locals : (list : List Stmt) (a : Active) → (settled p list a).locals ≡ a.locals
  list_locals [] a = refl
  list_locals (s ∷ rest) a = settled_locals (out-Stmt s) a

  pub marked_locals : (a : Active) (m : Mark) → (marked p a m).locals ≡ a.locals
  marked_locals a m = list_locals a.here.rest (with_mark a m)
