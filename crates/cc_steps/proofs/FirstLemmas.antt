-- What is said of the first statement that is left, by the statement itself.
use Rattle.std.proofs.Common.{◌≡◌, List, [], ◌∷◌, Some, None, refl, ap, sym}
use Rattle.cc_control.specs.View.{first_of}
use Rattle.cc_control.specs.declared.phase.Phase.{Phase}
use Rattle.cc_program.specs.declared.program.Program.{Program}
use Rattle.cc_program.specs.declared.stmt.Stmt.{Stmt, out-Stmt}
use Rattle.cc_steps.specs.State.{Active}
use Rattle.cc_steps.specs.Step.{passed, passed_first, settled, settled_in}

some_same : {A : Type 0} → {x y : A} → Some x ≡ Some y → x ≡ y
some_same h = cc

pub passed-none : (rest : List Stmt) (phase : Phase) → None ≡ first_of rest → passed_first rest phase ≡ None
passed-none [] phase h = refl
passed-none (s ∷ rest) phase h = absurd (cc)

pub passed-some : (rest : List Stmt) (phase : Phase) (s : Stmt) → Some s ≡ first_of rest → passed_first rest phase ≡ passed (out-Stmt s) phase
passed-some [] phase s h = absurd (cc)
passed-some (t ∷ rest) phase s h = ap (λ s. passed (out-Stmt s) phase) (sym (some_same h))

pub settled-none : (p : Program) (rest : List Stmt) (a : Active) → None ≡ first_of rest → settled p rest a ≡ a
settled-none p [] a h = refl
settled-none p (s ∷ rest) a h = absurd (cc)

pub settled-some : (p : Program) (rest : List Stmt) (a : Active) (s : Stmt) → Some s ≡ first_of rest → settled p rest a ≡ settled_in p (out-Stmt s) a
settled-some p [] a s h = absurd (cc)
settled-some p (t ∷ rest) a s h = ap (λ s. settled_in p (out-Stmt s) a) (sym (some_same h))

pub ruleset of_passed = (passed-none, passed-some)

pub ruleset of_settled = (settled-none, settled-some)
