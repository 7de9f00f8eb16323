-- Activations by other numbers of static objects: they stand at the same places, have done the same, and go on to the same places.
use Rattle.std.proofs.Common.{◌≡◌, ◌∙◌, ◌∷◌, ℕ, ℤ, Bool, true, false, List, [], map, Option, Some, None, option_map, slice_get, refl, ap, sym, if◌then◌else◌}
use Rattle.std.specs.Option.{option_or}
use Rattle.std.specs.List.{list_any}
use Rattle.std.proofs.lemmas.List.{map-append}
use Rattle.std.proofs.lemmas.Option.{slice_get-map}
use Rattle.cc_program.specs.declared.expr.Expr.{Expr}
use Rattle.cc_program.specs.declared.func.Func.{Func}
use Rattle.cc_program.specs.declared.object.Object.{Object}
use Rattle.cc_program.specs.declared.program.Program.{Program}
use Rattle.cc_program.specs.declared.stmt.Case.{Case}
use Rattle.cc_program.specs.declared.stmt.Stmt.{Stmt, out-Stmt}
use Rattle.cc_program.specs.declared.stmt.Stmt.TheOpen as is
use Rattle.cc_program.specs.declared.value.Value.{Value}
use Rattle.cc_program.specs.declared.value.Value.TheVariants.{Int, Place}
use Rattle.cc_states.specs.CcControl.Control.{Level, Control, arm, around_list, behind, close, counted, from_label, is_label, is_default}
use Rattle.cc_states.specs.CcEval.declared.mark.Mark.{Mark}
use Rattle.cc_states.specs.CcEval.Progress.{Progress, Known, Waits, Traps}
use Rattle.cc_states.specs.CcSteps.State.{Active}
use Rattle.cc_states.specs.CcSyntax.Effects.{no_one}
use Rattle.cc_states.specs.CcSteps.Step.{is_known, is_passed, number_in, at_test, moved, with_mark, in_case, switched, looped, next_place, progress_in, progress_at, is_past, passes, begun_at, goes_to, progress_of, settled_in, settled, marked}
use Rattle.cc_states.specs.CcValues.Values.{is_true}
use Rattle.cc_rewrite_renamed.specs.Objects.{expr_renamed, func_renamed}
use Rattle.cc_rewrite_renamed.specs.Renaming.{value_renamed, mark_renamed, marks_renamed, may_renamed, progress_renamed, AreRenamed}
use Rattle.cc_rewrite_renamed.proofs.Laws.{does_same}
use Rattle.cc_rewrite_renamed.proofs.Places.{Q}
use Rattle.cc_rewrite_renamed.proofs.Values.{is_true_kept}
use Rattle.cc_rewrite_orders_follows.proofs.Controls.{list_there, case_there, layer_there, out_there, level_there, levels_there, control_there, around_same, close_same, behind_level_same, broken_same, continued_same, arm_same, found_there, found_same, passed_there, passed_first_same}

module _ (r : ℕ → ℕ) (objects : List Object) (P : Program) (renamed : AreRenamed r objects P) where
  abbrev pub there : Program
  there = Q r objects P renamed

  abbrev may : Option Value → Option Value
  may v = may_renamed r v

  -- an activation by other numbers
  abbrev pub act : Active → Active
  act b = record {
    number = b.number;
    func = b.func;
    handler = b.handler;
    locals = map (map may) b.locals;
    here = level_there (expr_renamed r) b.here;
    around = levels_there (expr_renamed r) b.around;
    marks = marks_renamed r b.marks;
  }

  -- ---- full expressions

  progress_by : (number id : ℕ) (ms : List Mark) (e : Option Expr) (f : Option Func) →
      progress_in there number id (marks_renamed r ms) (option_map (func_renamed r) f) (option_map (expr_renamed r) e) ≡ progress_renamed r may (progress_in P number id ms f e)
  progress_by number id ms e None = refl
  progress_by number id ms None (Some f) = refl
  progress_by number id ms (Some e) (Some f) = does_same r objects P renamed number id f e no_one ms

  pub progress_same : (number id : ℕ) (ms : List Mark) (e : Option Expr) →
      progress_at there number id (marks_renamed r ms) (option_map (expr_renamed r) e) ≡ progress_renamed r may (progress_at P number id ms e)
  progress_same number id ms e =
      ap (λ f. progress_in there number id (marks_renamed r ms) f (option_map (expr_renamed r) e)) (slice_get-map (func_renamed r) P.funcs id) ∙ progress_by number id ms e (slice_get P.funcs id)

  known_kept : (q : Progress (Option Value)) → is_known (progress_renamed r may q) ≡ is_known q
  known_kept (Known (Some v) ms) = refl
  known_kept (Known None ms) = refl
  known_kept (Waits action) = refl
  known_kept (Traps ms) = refl

  past_same : (number id : ℕ) (ms : List Mark) (x : Option (Option Expr)) → is_past there number id (marks_renamed r ms) (passed_there (expr_renamed r) x) ≡ is_past P number id ms x
  past_same number id ms None = refl
  past_same number id ms (Some e) = ap is_known (progress_same number id ms e) ∙ known_kept (progress_at P number id ms e)

  passes_same : (number id : ℕ) (ms : List Mark) (at : Level) → passes there number id (marks_renamed r ms) (level_there (expr_renamed r) at) ≡ passes P number id ms at
  passes_same number id ms at =
      ap (is_past there number id (marks_renamed r ms)) (passed_first_same (expr_renamed r) at.rest at.phase) ∙ past_same number id ms _

  begun_if : (b : Bool) (at : Control) →
      (let c = control_there (expr_renamed r) at in if b then (at_test c.0, c.1) else c) ≡ control_there (expr_renamed r) (if b then (at_test at.0, at.1) else at)
  begun_if true at = refl
  begun_if false at = refl

  begun_at_same : (number id : ℕ) (at : Control) → begun_at there number id (control_there (expr_renamed r) at) ≡ control_there (expr_renamed r) (begun_at P number id at)
  begun_at_same number id at =
      ap (λ (b : Bool). let c = control_there (expr_renamed r) at in if b then (at_test c.0, c.1) else c) (passes_same number id [] at.0) ∙ begun_if (passes P number id [] at.0) at

  pub goes_to_same : (b : Active) (at : Control) → goes_to there (act b) (control_there (expr_renamed r) at) ≡ act (goes_to P b at)
  goes_to_same b at = ap (moved (act b)) (begun_at_same b.number b.func at)

  -- ---- marks

  active_if : (b : Bool) (w x : Active) (y z : Active) → w ≡ act y → x ≡ act z → (if b then w else x) ≡ act (if b then y else z)
  active_if true w x y z h k = h
  active_if false w x y z h k = k

  behind_there : (b : Active) → goes_to there (act b) (behind (act b).here (act b).around) ≡ act (goes_to P b (behind b.here b.around))
  behind_there b = ap (goes_to there (act b)) (behind_level_same (expr_renamed r) b.here b.around) ∙ goes_to_same b (behind b.here b.around)

  settled_in_same : (b : Active) (x : is.Stmt-F Stmt Case) → settled_in there (layer_there (expr_renamed r) x) (act b) ≡ act (settled_in P x b)
  settled_in_same b (is.Do e) =
      ap (λ (k : Bool). if k then goes_to there (act b) (behind (act b).here (act b).around) else act b)
      (ap is_known (progress_same b.number b.func b.marks (Some e)) ∙ known_kept (progress_of P b (Some e)))
      ∙ active_if (is_known (progress_of P b (Some e))) _ _ _ _ (behind_there b) refl
  settled_in_same b (is.If e these those) = refl
  settled_in_same b (is.While e body) = refl
  settled_in_same b (is.DoWhile body e) = refl
  settled_in_same b (is.For first test again body) =
      ap (λ (k : Bool). if k then moved (act b) (at_test (act b).here, (act b).around) else act b) (passes_same b.number b.func b.marks b.here)
      ∙ active_if (passes P b.number b.func b.marks b.here) _ _ (moved b (at_test b.here, b.around)) b refl refl
  settled_in_same b (is.Switch e cases) = refl
  settled_in_same b is.Break = refl
  settled_in_same b is.Continue = refl
  settled_in_same b (is.Return e) = refl
  settled_in_same b is.Empty = refl
  settled_in_same b (is.Block body) = refl

  settled_same : (b : Active) (l : List Stmt) → settled there (list_there (expr_renamed r) l) (act b) ≡ act (settled P l b)
  settled_same b [] = refl
  settled_same b (s ∷ l) = ap (λ (x : is.Stmt-F Stmt Case). settled_in there x (act b)) (out_there (expr_renamed r) s) ∙ settled_in_same b (out-Stmt s)

  abbrev with_marks : Active → List Mark → Active
  with_marks a ms = record { number = a.number; func = a.func; handler = a.handler; locals = a.locals; here = a.here; around = a.around; marks = ms }

  pub marked_same : (b : Active) (m : Mark) → marked there (act b) (mark_renamed r m) ≡ act (marked P b m)
  marked_same b m =
      ap (λ (ms : List Mark). settled there (list_there (expr_renamed r) b.here.rest) (with_marks (act b) ms)) (sym (map-append (mark_renamed r) b.marks (m ∷ [])))
      ∙ settled_same (with_mark b m) b.here.rest

  -- ---- where a statement goes on

  looped_same : (b : Active) (k : Bool) (body : List Stmt) → looped k (list_there (expr_renamed r) body) (act b) ≡ control_there (expr_renamed r) (looped k body b)
  looped_same b true body =
      ap (λ (l : Level). close (list_there (expr_renamed r) body) 0 (l ∷ levels_there (expr_renamed r) b.around)) (around_same (expr_renamed r) b.here)
      ∙ close_same (expr_renamed r) body 0 (around_list b.here ∷ b.around)
  looped_same b false body = behind_level_same (expr_renamed r) b.here b.around

  number_kept : (v : Value) → number_in (value_renamed r v) ≡ number_in v
  number_kept (Int n) = refl
  number_kept (Place a) = refl

  pub number_in_kept : (v : Value) → number_in (value_renamed r v) ≡ number_in v
  number_in_kept = number_kept

  passed_kept : (test : Option Expr) (v : Value) → is_passed (option_map (expr_renamed r) test) (value_renamed r v) ≡ is_passed test v
  passed_kept None v = refl
  passed_kept (Some e) v = is_true_kept r v

  in_case_same : (b : Active) (x : Option (ℕ × List Stmt)) → in_case (act b) (found_there (expr_renamed r) x) ≡ control_there (expr_renamed r) (in_case b x)
  in_case_same b None = behind_level_same (expr_renamed r) b.here b.around
  in_case_same b (Some x) =
      ap (λ (l : Level). close (list_there (expr_renamed r) x.1) (counted x.0) (l ∷ levels_there (expr_renamed r) b.around)) (around_same (expr_renamed r) b.here)
      ∙ close_same (expr_renamed r) x.1 (counted x.0) (around_list b.here ∷ b.around)

  switched_same : (b : Active) (n : ℤ) (cases : List Case) → switched (act b) n (map (case_there (expr_renamed r)) cases) ≡ control_there (expr_renamed r) (switched b n cases)
  switched_same b n cases = ap (in_case (act b)) (found_same (expr_renamed r) n cases) ∙ in_case_same b (option_or (from_label (list_any (is_label n)) 0 cases) (from_label (list_any is_default) 0 cases))

  pub next_place_same : (b : Active) (x : is.Stmt-F Stmt Case) (v : Value) →
      next_place (layer_there (expr_renamed r) x) (act b) (value_renamed r v) ≡ control_there (expr_renamed r) (next_place x b v)
  next_place_same b (is.Do e) v = behind_level_same (expr_renamed r) b.here b.around
  next_place_same b (is.If e these those) v =
      (λ i. next_arm (is_true_kept r v i) (around_same (expr_renamed r) b.here i)) ∙ arm_same (expr_renamed r) (is_true v) these those (around_list b.here ∷ b.around)
    where
      next_arm : Bool → Level → Control
      next_arm k l = arm k (list_there (expr_renamed r) these) (list_there (expr_renamed r) those) (l ∷ levels_there (expr_renamed r) b.around)
  next_place_same b (is.While e body) v = ap (λ (k : Bool). looped k (list_there (expr_renamed r) body) (act b)) (is_true_kept r v) ∙ looped_same b (is_true v) body
  next_place_same b (is.DoWhile body e) v = ap (λ (k : Bool). looped k (list_there (expr_renamed r) body) (act b)) (is_true_kept r v) ∙ looped_same b (is_true v) body
  next_place_same b (is.For first test again body) v =
      ap (λ (k : Bool). looped k (list_there (expr_renamed r) body) (act b)) (passed_kept test v) ∙ looped_same b (is_passed test v) body
  next_place_same b (is.Switch e cases) v =
      ap (λ (n : ℤ). switched (act b) n (map (case_there (expr_renamed r)) cases)) (number_kept v) ∙ switched_same b (number_in v) cases
  next_place_same b is.Break v = broken_same (expr_renamed r) b.around
  next_place_same b is.Continue v = continued_same (expr_renamed r) b.around
  next_place_same b (is.Return e) v = behind_level_same (expr_renamed r) b.here b.around
  next_place_same b is.Empty v = behind_level_same (expr_renamed r) b.here b.around
  next_place_same b (is.Block body) v = behind_level_same (expr_renamed r) b.here b.around
