-- Control without positions is what control is, positions apart.
use Rattle.std.proofs.Common.{◌≡◌, ◌∙◌, ◌∷◌, ◌+◌, if◌then◌else◌, ℕ, Bool, true, false, List, [], map, Option, Some, None, refl, ap, sym}
use Rattle.cc_program.specs.declared.stmt.Case.{Case}
use Rattle.cc_program.specs.declared.stmt.Stmt.{Stmt, out-Stmt, roll-Stmt, out-roll-Stmt}
use Rattle.cc_program.specs.declared.stmt.Stmt.TheOpen as is
use Rattle.cc_program.specs.declared.value.Value.{Value}
use Rattle.cc_program.proofs.Each.{Each}
use Rattle.cc_program.proofs.StmtInduction.{StmtParts, by_stmt}
use Rattle.cc_steps.specs.CcControl.Control.{Level, Control, level, counted, is_loop, is_left_by_break, behind_body, opening, first_phase, begun, behind_first, first_is, around_list, close, behind, broken, continued, arm}
use Rattle.cc_steps.proofs.CcControl.Begun.{begun_stands, begun_enters}
use Rattle.cc_steps.specs.State.{Active}
use Rattle.cc_steps.specs.Step.{in_case, looped, is_passed, next_place, number_in}
use Rattle.cc_steps.specs.CcValues.Values.{is_true}
use Rattle.cc_meaning_simulations.specs.Continuations.{Continuation, Remainder, at_zero, begin_with, break_out, continuation_of, continue_on, found_case, in_arm, in_cases, in_loop, next_continuation, past, remainder, remainder_of, remainders, resume}

remainders-at_zero : (around : List Remainder) → remainders (map at_zero around) ≡ around
remainders-at_zero [] = refl
remainders-at_zero (at ∷ around) = ap (λ (l : List Remainder). at ∷ l) (remainders-at_zero around)

pub begin_stands : (s : Stmt) (rest : List Stmt) (around : List Remainder) → opening (out-Stmt s) ≡ [] → begin_with s rest around ≡ (remainder (s ∷ rest) (first_phase (out-Stmt s)), around)
begin_stands s rest around h =
    ap continuation_of (begun_stands s 0 rest (map at_zero around) h) ∙ ap (λ (l : List Remainder). (remainder (s ∷ rest) (first_phase (out-Stmt s)), l)) (remainders-at_zero around)

pub begin_enters : (s t : Stmt) (rest ts : List Stmt) (around : List Remainder) → opening (out-Stmt s) ≡ t ∷ ts → begin_with s rest around ≡ begin_with t ts (remainder (s ∷ rest) (behind_body (out-Stmt s)) ∷ around)
begin_enters s t rest ts around h = ap continuation_of (begun_enters s t 0 rest ts (map at_zero around) h)

-- ---- they are those of control

abbrev BegunContinues : Stmt → Type 0
BegunContinues s = (n : ℕ) (rest : List Stmt) (around : List Level) → continuation_of (begun s n rest around) ≡ begin_with s rest (remainders around)

-- by the statements that a statement begins with
opening_parts : (At : Stmt → Type 0) (x : is.Stmt-F Stmt Case) → StmtParts At (λ c. Unit {0}) x → Each At (opening x)
opening_parts At (is.DoWhile a e) h = h
opening_parts At (is.Block a) h = h
opening_parts At (is.Do e) h = tt
opening_parts At (is.If e a b) h = tt
opening_parts At (is.While e a) h = tt
opening_parts At (is.For first test again a) h = tt
opening_parts At (is.Switch e cases) h = tt
opening_parts At is.Break h = tt
opening_parts At is.Continue h = tt
opening_parts At (is.Return e) h = tt
opening_parts At is.Empty h = tt

pub by_opening : (At : Stmt → Type 0) → ((s : Stmt) (os : List Stmt) → opening (out-Stmt s) ≡ os → Each At os → At s) → (s : Stmt) → At s
by_opening At made s = by_stmt At (λ c. Unit {0}) (λ x h. made (roll-Stmt x) (opening x) (ap opening (out-roll-Stmt x)) (opening_parts At x h)) (λ x h. tt) s

begun-by : (s : Stmt) (os : List Stmt) → opening (out-Stmt s) ≡ os → Each BegunContinues os → BegunContinues s
begun-by s [] h k n rest around = ap continuation_of (begun_stands s n rest around h) ∙ sym (begin_stands s rest (remainders around) h)
begun-by s (t ∷ ts) h k n rest around =
    ap continuation_of (begun_enters s t n rest ts around h) ∙ k.0 0 ts (level (s ∷ rest) n (behind_body (out-Stmt s)) ∷ around) ∙ sym (begin_enters s t rest ts (remainders around) h)

pub begun-continuation : (s : Stmt) (n : ℕ) (rest : List Stmt) (around : List Level) → continuation_of (begun s n rest around) ≡ begin_with s rest (remainders around)
begun-continuation s = by_opening BegunContinues begun-by s

either-continuation : (b : Bool) (c d : Control) (x y : Continuation) → continuation_of c ≡ x → continuation_of d ≡ y → continuation_of (if b then c else d) ≡ (if b then x else y)
either-continuation true c d x y h k = h
either-continuation false c d x y h k = k

pub close-continuation : (l : List Stmt) (n : ℕ) (around : List Level) → continuation_of (close l n around) ≡ resume l (remainders around)
close-continuation (s ∷ rest) n around = begun-continuation s n rest around
close-continuation [] n [] = refl
close-continuation [] n (at ∷ around) =
    either-continuation (first_is is_loop at.rest) (at, around) (close (behind_first at.rest) (counted (at.position + 1)) around) _ _ refl (close-continuation (behind_first at.rest) (counted (at.position + 1)) around)

pub behind-continuation : (at : Level) (around : List Level) → continuation_of (behind at around) ≡ past (remainder_of at) (remainders around)
behind-continuation at around = close-continuation (behind_first at.rest) (counted (at.position + 1)) around

pub broken-continuation : (around : List Level) → continuation_of (broken around) ≡ break_out (remainders around)
broken-continuation [] = refl
broken-continuation (at ∷ around) = either-continuation (first_is is_left_by_break at.rest) (behind at around) (broken around) _ _ (behind-continuation at around) (broken-continuation around)

pub continued-continuation : (around : List Level) → continuation_of (continued around) ≡ continue_on (remainders around)
continued-continuation [] = refl
continued-continuation (at ∷ around) = either-continuation (first_is is_loop at.rest) (at, around) (continued around) _ _ refl (continued-continuation around)

arm-continuation : (b : Bool) (these those : List Stmt) (around : List Level) → continuation_of (arm b these those around) ≡ in_arm b these those (remainders around)
arm-continuation true these those around = close-continuation these 0 around
arm-continuation false these those around = close-continuation those _ around

looped-continuation : (b : Bool) (body : List Stmt) (a : Active) → continuation_of (looped b body a) ≡ in_loop b body (remainder_of a.here) (remainders a.around)
looped-continuation true body a = close-continuation body 0 (around_list a.here ∷ a.around)
looped-continuation false body a = behind-continuation a.here a.around

in_case-continuation : (x : Option (ℕ × List Stmt)) (a : Active) → continuation_of (in_case a x) ≡ in_cases x (remainder_of a.here) (remainders a.around)
in_case-continuation None a = behind-continuation a.here a.around
in_case-continuation (Some x) a = close-continuation x.1 (counted x.0) (around_list a.here ∷ a.around)

pub next-continuation : (x : is.Stmt-F Stmt Case) (a : Active) (v : Value) → continuation_of (next_place x a v) ≡ next_continuation x (remainder_of a.here) (remainders a.around) v
next-continuation (is.Do e) a v = behind-continuation a.here a.around
next-continuation (is.If e these those) a v = arm-continuation (is_true v) these those (around_list a.here ∷ a.around)
next-continuation (is.While e body) a v = looped-continuation (is_true v) body a
next-continuation (is.DoWhile body e) a v = looped-continuation (is_true v) body a
next-continuation (is.For first test again body) a v = looped-continuation (is_passed test v) body a
next-continuation (is.Switch e cases) a v = in_case-continuation (found_case (number_in v) cases) a
next-continuation is.Break a v = broken-continuation a.around
next-continuation is.Continue a v = continued-continuation a.around
next-continuation (is.Return e) a v = behind-continuation a.here a.around
next-continuation is.Empty a v = behind-continuation a.here a.around
next-continuation (is.Block body) a v = behind-continuation a.here a.around
