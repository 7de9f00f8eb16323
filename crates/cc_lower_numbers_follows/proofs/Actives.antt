-- Activations by other numbers: they stand at the same places, have done the same, and go on to the same places.
use Rattle.std.proofs.Common.{◌≡◌, ◌∙◌, ◌∷◌, ℕ, ℤ, Bool, true, false, List, [], map, Option, Some, None, option_map, slice_get, refl, ap, sym, if◌then◌else◌}
use Rattle.std.specs.Option.{option_or}
use Rattle.std.specs.List.{list_any}
use Rattle.std.proofs.lemmas.List.{map-append}
use Rattle.cc_program.specs.declared.expr.Expr.{Expr}
use Rattle.cc_program.specs.declared.func.Func.{Func}
use Rattle.cc_program.specs.declared.object.Device.{Device}
use Rattle.cc_program.specs.declared.program.Program.{Program}
use Rattle.cc_program.specs.declared.stmt.Case.{Case}
use Rattle.cc_program.specs.declared.stmt.Stmt.{Stmt, out-Stmt}
use Rattle.cc_program.specs.declared.stmt.Stmt.TheOpen as is
use Rattle.cc_program.specs.declared.value.Value.{Value}
use Rattle.cc_program.specs.declared.value.Value.TheVariants.{Int, Place}
use Rattle.cc_states.specs.CcControl.Control.{Level, Control, arm, around_list, behind, close, counted, from_label, is_label, is_default}
use Rattle.cc_states.specs.CcEval.declared.mark.Mark.{Mark}
use Rattle.cc_states.specs.CcEval.Progress.{Progress, Known, Waits, Traps}
use Rattle.cc_states.specs.CcSteps.State.{Active}
use Rattle.cc_states.specs.CcSteps.Step.{is_known, is_passed, number_in, at_test, moved, with_mark, in_case, switched, looped, next_place, progress_in, progress_at, is_past, passes, begun_at, goes_to, progress_of, settled_in, settled, marked}
use Rattle.cc_states.specs.CcValues.Values.{is_true}
use Rattle.cc_lower_numbers_follows.specs.Renaming.{Renaming, value_renamed, mark_renamed, AreFuncsRenamed, IsRenamed}
use Rattle.cc_lower_numbers_follows.proofs.Controls.{expr_there, list_there, case_there, layer_there, out_there, level_there, levels_there, control_there, around_same, close_same, behind_level_same, broken_same, continued_same, arm_same, found_there, found_same, passed_there, passed_first_same}
use Rattle.cc_lower_numbers_follows.proofs.Gets.{marks_renamed, progress_renamed}
use Rattle.cc_lower_numbers_follows.proofs.Meanings.{next_of_same}
use Rattle.cc_lower_numbers_follows.proofs.Places.{Q}
use Rattle.cc_lower_numbers_follows.proofs.Values.{may_renamed, is_true_kept}

module _ (r : Renaming) (devices : List Device) (funcs : List Func) (P : Program) (renamed : IsRenamed r devices funcs P) where
  abbrev pub there : Program
  there = Q r devices funcs P renamed

  abbrev may : Option Value → Option Value
  may v = may_renamed r v

  -- an activation by other numbers, with these locals
  abbrev pub active_renamed : List (List (Option Value)) → Active → Active
  active_renamed ls b = record {
    number = b.number;
    func = b.func;
    handler = b.handler;
    locals = ls;
    here = level_there (r.local b.func) r.device b.here;
    around = levels_there (r.local b.func) r.device b.around;
    marks = marks_renamed r b.marks;
  }

  -- ---- full expressions

  progress_by : (number id : ℕ) (ms : List Mark) (e : Option Expr) (x y : Option Func) → AreFuncsRenamed (r.local id) r.device x y →
      progress_in there number id (marks_renamed r ms) x (option_map (expr_there (r.local id) r.device) e) ≡ progress_renamed r may (progress_in P number id ms y e)
  progress_by number id ms e None None a = refl
  progress_by number id ms None (Some g) (Some f) a = refl
  progress_by number id ms (Some e) (Some g) (Some f) a = next_of_same r devices funcs P renamed number id g f a e ms
  progress_by number id ms e None (Some f) a = absurd a
  progress_by number id ms e (Some g) None a = absurd a

  pub progress_same : (number id : ℕ) (ms : List Mark) (e : Option Expr) →
      progress_at there number id (marks_renamed r ms) (option_map (expr_there (r.local id) r.device) e) ≡ progress_renamed r may (progress_at P number id ms e)
  progress_same number id ms e = progress_by number id ms e (slice_get funcs id) (slice_get P.funcs id) (renamed.funcs_there id)

  known_kept : (q : Progress (Option Value)) → is_known (progress_renamed r may q) ≡ is_known q
  known_kept (Known (Some v) ms) = refl
  known_kept (Known None ms) = refl
  known_kept (Waits action) = refl
  known_kept (Traps ms) = refl

  past_same : (number id : ℕ) (ms : List Mark) (x : Option (Option Expr)) → is_past there number id (marks_renamed r ms) (passed_there (r.local id) r.device x) ≡ is_past P number id ms x
  past_same number id ms None = refl
  past_same number id ms (Some e) = ap is_known (progress_same number id ms e) ∙ known_kept (progress_at P number id ms e)

  passes_same : (number id : ℕ) (ms : List Mark) (at : Level) → passes there number id (marks_renamed r ms) (level_there (r.local id) r.device at) ≡ passes P number id ms at
  passes_same number id ms at =
      ap (is_past there number id (marks_renamed r ms)) (passed_first_same (r.local id) r.device at.rest at.phase) ∙ past_same number id ms _

  begun_if : (id : ℕ) (b : Bool) (at : Control) →
      (let c = control_there (r.local id) r.device at in if b then (at_test c.0, c.1) else c) ≡ control_there (r.local id) r.device (if b then (at_test at.0, at.1) else at)
  begun_if id true at = refl
  begun_if id false at = refl

  begun_at_same : (number id : ℕ) (at : Control) → begun_at there number id (control_there (r.local id) r.device at) ≡ control_there (r.local id) r.device (begun_at P number id at)
  begun_at_same number id at =
      ap (λ (b : Bool). let c = control_there (r.local id) r.device at in if b then (at_test c.0, c.1) else c) (passes_same number id [] at.0) ∙ begun_if id (passes P number id [] at.0) at

  pub goes_to_same : (ls : List (List (Option Value))) (b : Active) (at : Control) → goes_to there (active_renamed ls b) (control_there (r.local b.func) r.device at) ≡ active_renamed ls (goes_to P b at)
  goes_to_same ls b at = ap (moved (active_renamed ls b)) (begun_at_same b.number b.func at)

  -- ---- marks

  active_if : (b : Bool) (ls : List (List (Option Value))) (w x : Active) (y z : Active) → w ≡ active_renamed ls y → x ≡ active_renamed ls z → (if b then w else x) ≡ active_renamed ls (if b then y else z)
  active_if true ls w x y z h k = h
  active_if false ls w x y z h k = k

  behind_there : (ls : List (List (Option Value))) (b : Active) → goes_to there (active_renamed ls b) (behind (active_renamed ls b).here (active_renamed ls b).around) ≡ active_renamed ls (goes_to P b (behind b.here b.around))
  behind_there ls b = ap (goes_to there (active_renamed ls b)) (behind_level_same (r.local b.func) r.device b.here b.around) ∙ goes_to_same ls b (behind b.here b.around)

  settled_in_same : (ls : List (List (Option Value))) (b : Active) (x : is.Stmt-F Stmt Case) → settled_in there (layer_there (r.local b.func) r.device x) (active_renamed ls b) ≡ active_renamed ls (settled_in P x b)
  settled_in_same ls b (is.Do e) =
      ap (λ (k : Bool). if k then goes_to there (active_renamed ls b) (behind (active_renamed ls b).here (active_renamed ls b).around) else active_renamed ls b)
      (ap is_known (progress_same b.number b.func b.marks (Some e)) ∙ known_kept (progress_of P b (Some e)))
      ∙ active_if (is_known (progress_of P b (Some e))) ls _ _ _ _ (behind_there ls b) refl
  settled_in_same ls b (is.If e these those) = refl
  settled_in_same ls b (is.While e body) = refl
  settled_in_same ls b (is.DoWhile body e) = refl
  settled_in_same ls b (is.For first test again body) =
      ap (λ (k : Bool). if k then moved (active_renamed ls b) (at_test (active_renamed ls b).here, (active_renamed ls b).around) else active_renamed ls b) (passes_same b.number b.func b.marks b.here)
      ∙ active_if (passes P b.number b.func b.marks b.here) ls _ _ (moved b (at_test b.here, b.around)) b refl refl
  settled_in_same ls b (is.Switch e cases) = refl
  settled_in_same ls b is.Break = refl
  settled_in_same ls b is.Continue = refl
  settled_in_same ls b (is.Return e) = refl
  settled_in_same ls b is.Empty = refl
  settled_in_same ls b (is.Block body) = refl

  settled_same : (ls : List (List (Option Value))) (b : Active) (l : List Stmt) → settled there (list_there (r.local b.func) r.device l) (active_renamed ls b) ≡ active_renamed ls (settled P l b)
  settled_same ls b [] = refl
  settled_same ls b (s ∷ l) = ap (λ (x : is.Stmt-F Stmt Case). settled_in there x (active_renamed ls b)) (out_there (r.local b.func) r.device s) ∙ settled_in_same ls b (out-Stmt s)

  abbrev with_marks : Active → List Mark → Active
  with_marks a ms = record { number = a.number; func = a.func; handler = a.handler; locals = a.locals; here = a.here; around = a.around; marks = ms }

  pub marked_same : (ls : List (List (Option Value))) (b : Active) (m : Mark) → marked there (active_renamed ls b) (mark_renamed r m) ≡ active_renamed ls (marked P b m)
  marked_same ls b m =
      ap (λ (ms : List Mark). settled there (list_there (r.local b.func) r.device b.here.rest) (with_marks (active_renamed ls b) ms)) (sym (map-append (mark_renamed r) b.marks (m ∷ [])))
      ∙ settled_same ls (with_mark b m) b.here.rest

  -- ---- where a statement goes on

  looped_same : (ls : List (List (Option Value))) (b : Active) (k : Bool) (body : List Stmt) → looped k (list_there (r.local b.func) r.device body) (active_renamed ls b) ≡ control_there (r.local b.func) r.device (looped k body b)
  looped_same ls b true body =
      ap (λ (l : Level). close (list_there (r.local b.func) r.device body) 0 (l ∷ levels_there (r.local b.func) r.device b.around)) (around_same (r.local b.func) r.device b.here)
      ∙ close_same (r.local b.func) r.device body 0 (around_list b.here ∷ b.around)
  looped_same ls b false body = behind_level_same (r.local b.func) r.device b.here b.around

  number_kept : (v : Value) → number_in (value_renamed r v) ≡ number_in v
  number_kept (Int n) = refl
  number_kept (Place a) = refl

  pub number_in_kept : (v : Value) → number_in (value_renamed r v) ≡ number_in v
  number_in_kept = number_kept

  passed_kept : (id : ℕ) (test : Option Expr) (v : Value) → is_passed (option_map (expr_there (r.local id) r.device) test) (value_renamed r v) ≡ is_passed test v
  passed_kept id None v = refl
  passed_kept id (Some e) v = is_true_kept r v

  in_case_same : (ls : List (List (Option Value))) (b : Active) (x : Option (ℕ × List Stmt)) → in_case (active_renamed ls b) (found_there (r.local b.func) r.device x) ≡ control_there (r.local b.func) r.device (in_case b x)
  in_case_same ls b None = behind_level_same (r.local b.func) r.device b.here b.around
  in_case_same ls b (Some x) =
      ap (λ (l : Level). close (list_there (r.local b.func) r.device x.1) (counted x.0) (l ∷ levels_there (r.local b.func) r.device b.around)) (around_same (r.local b.func) r.device b.here)
      ∙ close_same (r.local b.func) r.device x.1 (counted x.0) (around_list b.here ∷ b.around)

  switched_same : (ls : List (List (Option Value))) (b : Active) (n : ℤ) (cases : List Case) → switched (active_renamed ls b) n (map (case_there (r.local b.func) r.device) cases) ≡ control_there (r.local b.func) r.device (switched b n cases)
  switched_same ls b n cases = ap (in_case (active_renamed ls b)) (found_same (r.local b.func) r.device n cases) ∙ in_case_same ls b (option_or (from_label (list_any (is_label n)) 0 cases) (from_label (list_any is_default) 0 cases))

  pub next_place_same : (ls : List (List (Option Value))) (b : Active) (x : is.Stmt-F Stmt Case) (v : Value) →
      next_place (layer_there (r.local b.func) r.device x) (active_renamed ls b) (value_renamed r v) ≡ control_there (r.local b.func) r.device (next_place x b v)
  next_place_same ls b (is.Do e) v = behind_level_same (r.local b.func) r.device b.here b.around
  next_place_same ls b (is.If e these those) v =
      (λ i. next_arm (is_true_kept r v i) (around_same (r.local b.func) r.device b.here i)) ∙ arm_same (r.local b.func) r.device (is_true v) these those (around_list b.here ∷ b.around)
    where
      next_arm : Bool → Level → Control
      next_arm k l = arm k (list_there (r.local b.func) r.device these) (list_there (r.local b.func) r.device those) (l ∷ levels_there (r.local b.func) r.device b.around)
  next_place_same ls b (is.While e body) v = ap (λ (k : Bool). looped k (list_there (r.local b.func) r.device body) (active_renamed ls b)) (is_true_kept r v) ∙ looped_same ls b (is_true v) body
  next_place_same ls b (is.DoWhile body e) v = ap (λ (k : Bool). looped k (list_there (r.local b.func) r.device body) (active_renamed ls b)) (is_true_kept r v) ∙ looped_same ls b (is_true v) body
  next_place_same ls b (is.For first test again body) v =
      ap (λ (k : Bool). looped k (list_there (r.local b.func) r.device body) (active_renamed ls b)) (passed_kept b.func test v) ∙ looped_same ls b (is_passed test v) body
  next_place_same ls b (is.Switch e cases) v =
      ap (λ (n : ℤ). switched (active_renamed ls b) n (map (case_there (r.local b.func) r.device) cases)) (number_kept v) ∙ switched_same ls b (number_in v) cases
  next_place_same ls b is.Break v = broken_same (r.local b.func) r.device b.around
  next_place_same ls b is.Continue v = continued_same (r.local b.func) r.device b.around
  next_place_same ls b (is.Return e) v = behind_level_same (r.local b.func) r.device b.here b.around
  next_place_same ls b is.Empty v = behind_level_same (r.local b.func) r.device b.here b.around
  next_place_same ls b (is.Block body) v = behind_level_same (r.local b.func) r.device b.here b.around
