-- Where an activation stands among statements by other numbers: in the same lists, at the same places.
use Rattle.std.proofs.Common.{◌≡◌, ◌∙◌, ◌∷◌, ◌++◌, ◌+◌, ℕ, ℤ, Bool, true, false, List, [], length, map, Option, Some, None, option_map, refl, ap, sym, if◌then◌else◌}
use Rattle.std.specs.List.{list_any}
use Rattle.std.specs.Option.{option_or}
use Rattle.std.proofs.lemmas.List.{length-map, map-append}
use Rattle.cc_program.specs.declared.expr.Expr.{Expr}
use Rattle.cc_program.specs.declared.stmt.Case.{Case, out-Case, roll-Case, map-Case, fold_out-Case, out-roll-Case}
use Rattle.cc_program.specs.declared.stmt.Stmt.{Stmt, out-Stmt, roll-Stmt, map-Stmt, fold_out-Stmt, out-roll-Stmt}
use Rattle.cc_program.specs.declared.stmt.Stmt.TheOpen as is
use Rattle.cc_program.proofs.Each.{Each}
use Rattle.cc_program.proofs.StmtInduction.{StmtParts, by_stmt}
use Rattle.cc_states.specs.CcControl.declared.phase.Phase.{Phase}
use Rattle.cc_states.specs.CcControl.declared.phase.Phase.TheVariants.{First, Test, Again}
use Rattle.cc_states.specs.CcControl.Control.{Level, Control, level, counted, is_loop, is_left_by_break, behind_body, opening, first_phase, begun, behind_first, first_is, coming, around_list, close, behind, broken, continued, arm, bodies, from_label, is_label, is_default}
use Rattle.cc_states.proofs.CcControl.Begun.{begun_stands, begun_enters}
use Rattle.cc_states.specs.CcSteps.Step.{worked, passed_at, passed, passed_first}
use Rattle.cc_lower_numbers.specs.Renamed.{expr_renamed, stmt_with, stmt_step, stmt_renamed, case_renamed}

module _ (local device : ℕ → ℕ) where
  abbrev pub expr_there : Expr → Expr
  expr_there e = expr_renamed local device e

  abbrev pub stmt_there : Stmt → Stmt
  stmt_there s = stmt_renamed local device s

  abbrev pub case_there : Case → Case
  case_there c = case_renamed local device c

  abbrev pub list_there : List Stmt → List Stmt
  list_there l = map stmt_there l

  abbrev pub layer_there : is.Stmt-F Stmt Case → is.Stmt-F Stmt Case
  layer_there x = stmt_with local device (map-Stmt Stmt Case Stmt Case stmt_there case_there x)

  pub out_there : (s : Stmt) → out-Stmt (stmt_there s) ≡ layer_there (out-Stmt s)
  unfolding stmt_renamed case_renamed
  out_there s = ap out-Stmt (fold_out-Stmt Stmt Case (stmt_step local device) roll-Case s) ∙ out-roll-Stmt (layer_there (out-Stmt s))

  out_case_there : (c : Case) → out-Case (case_there c) ≡ map-Case Stmt Case Stmt Case stmt_there case_there (out-Case c)
  unfolding stmt_renamed case_renamed
  out_case_there c = ap out-Case (fold_out-Case Stmt Case (stmt_step local device) roll-Case c) ∙ out-roll-Case (map-Case Stmt Case Stmt Case stmt_there case_there (out-Case c))

  abbrev pub level_there : Level → Level
  level_there at = level (list_there at.rest) at.position at.phase

  abbrev pub levels_there : List Level → List Level
  levels_there around = map level_there around

  abbrev pub control_there : Control → Control
  control_there at = (level_there at.0, levels_there at.1)

  -- ---- statements, layer by layer

  loop_same : (x : is.Stmt-F Stmt Case) → is_loop (layer_there x) ≡ is_loop x
  loop_same (is.Do e) = refl
  loop_same (is.If e a b) = refl
  loop_same (is.While e a) = refl
  loop_same (is.DoWhile a e) = refl
  loop_same (is.For first test again a) = refl
  loop_same (is.Switch e cases) = refl
  loop_same is.Break = refl
  loop_same is.Continue = refl
  loop_same (is.Return e) = refl
  loop_same is.Empty = refl
  loop_same (is.Block a) = refl

  break_same : (x : is.Stmt-F Stmt Case) → is_left_by_break (layer_there x) ≡ is_left_by_break x
  break_same (is.Do e) = refl
  break_same (is.If e a b) = refl
  break_same (is.While e a) = refl
  break_same (is.DoWhile a e) = refl
  break_same (is.For first test again a) = refl
  break_same (is.Switch e cases) = refl
  break_same is.Break = refl
  break_same is.Continue = refl
  break_same (is.Return e) = refl
  break_same is.Empty = refl
  break_same (is.Block a) = refl

  behind_same : (x : is.Stmt-F Stmt Case) → behind_body (layer_there x) ≡ behind_body x
  behind_same (is.Do e) = refl
  behind_same (is.If e a b) = refl
  behind_same (is.While e a) = refl
  behind_same (is.DoWhile a e) = refl
  behind_same (is.For first test None a) = refl
  behind_same (is.For first test (Some again) a) = refl
  behind_same (is.Switch e cases) = refl
  behind_same is.Break = refl
  behind_same is.Continue = refl
  behind_same (is.Return e) = refl
  behind_same is.Empty = refl
  behind_same (is.Block a) = refl

  phase_same : (x : is.Stmt-F Stmt Case) → first_phase (layer_there x) ≡ first_phase x
  phase_same (is.Do e) = refl
  phase_same (is.If e a b) = refl
  phase_same (is.While e a) = refl
  phase_same (is.DoWhile a e) = refl
  phase_same (is.For None test again a) = refl
  phase_same (is.For (Some e) test again a) = refl
  phase_same (is.Switch e cases) = refl
  phase_same is.Break = refl
  phase_same is.Continue = refl
  phase_same (is.Return e) = refl
  phase_same is.Empty = refl
  phase_same (is.Block a) = refl

  opening_same : (x : is.Stmt-F Stmt Case) → opening (layer_there x) ≡ list_there (opening x)
  opening_same (is.Do e) = refl
  opening_same (is.If e a b) = refl
  opening_same (is.While e a) = refl
  opening_same (is.DoWhile a e) = refl
  opening_same (is.For first test again a) = refl
  opening_same (is.Switch e cases) = refl
  opening_same is.Break = refl
  opening_same is.Continue = refl
  opening_same (is.Return e) = refl
  opening_same is.Empty = refl
  opening_same (is.Block a) = refl

  first_same : (property : is.Stmt-F Stmt Case → Bool) → ((x : is.Stmt-F Stmt Case) → property (layer_there x) ≡ property x) → (l : List Stmt) → first_is property (list_there l) ≡ first_is property l
  first_same property h [] = refl
  first_same property h (s ∷ l) = ap property (out_there s) ∙ h (out-Stmt s)

  coming_same : (l : List Stmt) → coming (list_there l) ≡ coming l
  coming_same [] = refl
  coming_same (s ∷ l) = ap behind_body (out_there s) ∙ behind_same (out-Stmt s)

  pub around_same : (at : Level) → around_list (level_there at) ≡ level_there (around_list at)
  around_same at = ap (level (list_there at.rest) at.position) (coming_same at.rest)

  rest_same : (l : List Stmt) → behind_first (list_there l) ≡ list_there (behind_first l)
  rest_same [] = refl
  rest_same (s ∷ l) = refl

  -- ---- where a statement begins

  abbrev BeginsSame : Stmt → Type 0
  BeginsSame s = (n : ℕ) (rest : List Stmt) (around : List Level) → begun (stmt_there s) n (list_there rest) (levels_there around) ≡ control_there (begun s n rest around)

  abbrev CaseBegins : Case → Type 0
  CaseBegins c = Unit {0}

  opened_begins : (x : is.Stmt-F Stmt Case) → StmtParts BeginsSame CaseBegins x → Each BeginsSame (opening x)
  opened_begins (is.Do e) h = tt
  opened_begins (is.If e a b) h = tt
  opened_begins (is.While e a) h = tt
  opened_begins (is.DoWhile a e) h = h
  opened_begins (is.For first test again a) h = tt
  opened_begins (is.Switch e cases) h = tt
  opened_begins is.Break h = tt
  opened_begins is.Continue h = tt
  opened_begins (is.Return e) h = tt
  opened_begins is.Empty h = tt
  opened_begins (is.Block a) h = h

  opening_there : (s : Stmt) → opening (out-Stmt (stmt_there s)) ≡ list_there (opening (out-Stmt s))
  opening_there s = ap opening (out_there s) ∙ opening_same (out-Stmt s)

  stands_same : (s : Stmt) (n : ℕ) (rest : List Stmt) (around : List Level) → opening (out-Stmt s) ≡ [] → begun (stmt_there s) n (list_there rest) (levels_there around) ≡ control_there (begun s n rest around)
  stands_same s n rest around h =
      begun_stands (stmt_there s) n (list_there rest) (levels_there around) (opening_there s ∙ ap list_there h)
      ∙ ap (λ (p : Phase). (level (list_there (s ∷ rest)) n p, levels_there around)) (ap first_phase (out_there s) ∙ phase_same (out-Stmt s))
      ∙ ap control_there (sym (begun_stands s n rest around h))

  enters_same : (s t : Stmt) (ts : List Stmt) → opening (out-Stmt s) ≡ t ∷ ts → BeginsSame t → BeginsSame s
  enters_same s t ts h k n rest around =
      begun_enters (stmt_there s) (stmt_there t) n (list_there rest) (list_there ts) (levels_there around) (opening_there s ∙ ap list_there h)
      ∙ ap (λ (p : Phase). begun (stmt_there t) 0 (list_there ts) (level (list_there (s ∷ rest)) n p ∷ levels_there around)) (ap behind_body (out_there s) ∙ behind_same (out-Stmt s))
      ∙ k 0 ts (level (s ∷ rest) n (behind_body (out-Stmt s)) ∷ around)
      ∙ ap control_there (sym (begun_enters s t n rest ts around h))

  begins_by : (s : Stmt) (l : List Stmt) → opening (out-Stmt s) ≡ l → Each BeginsSame l → BeginsSame s
  begins_by s [] h k = λ n rest around. stands_same s n rest around h
  begins_by s (t ∷ ts) h k = enters_same s t ts h k.0

  begins_made : (x : is.Stmt-F Stmt Case) → StmtParts BeginsSame CaseBegins x → BeginsSame (roll-Stmt x)
  begins_made x h = begins_by (roll-Stmt x) (opening x) (ap opening (out-roll-Stmt x)) (opened_begins x h)

  pub begun_same : (s : Stmt) → BeginsSame s
  begun_same s = by_stmt BeginsSame CaseBegins begins_made (λ x h. tt) s

  -- ---- going on

  pub close_same : (l : List Stmt) (n : ℕ) (around : List Level) → close (list_there l) n (levels_there around) ≡ control_there (close l n around)
  close_same (s ∷ l) n around = begun_same s n l around
  close_same [] n [] = refl
  close_same [] n (at ∷ around) = ap (λ (b : Bool). if b then (level_there at, levels_there around) else further) (first_same is_loop loop_same at.rest) ∙ by (first_is is_loop at.rest) (close_same (behind_first at.rest) (counted (at.position + 1)) around)
    where
      further : Control
      further = close (behind_first (list_there at.rest)) (counted (at.position + 1)) (levels_there around)

      by : (b : Bool) → close (list_there (behind_first at.rest)) (counted (at.position + 1)) (levels_there around) ≡ control_there (close (behind_first at.rest) (counted (at.position + 1)) around) →
          (if b then (level_there at, levels_there around) else further) ≡ control_there (if b then (at, around) else close (behind_first at.rest) (counted (at.position + 1)) around)
      by true h = refl
      by false h = ap (λ (l : List Stmt). close l (counted (at.position + 1)) (levels_there around)) (rest_same at.rest) ∙ h

  pub behind_level_same : (at : Level) (around : List Level) → behind (level_there at) (levels_there around) ≡ control_there (behind at around)
  behind_level_same at around =
      ap (λ (l : List Stmt). close l (counted (at.position + 1)) (levels_there around)) (rest_same at.rest) ∙ close_same (behind_first at.rest) (counted (at.position + 1)) around

  control_if : (b : Bool) (x y : Control) (z w : Control) → x ≡ control_there z → y ≡ control_there w → (if b then x else y) ≡ control_there (if b then z else w)
  control_if true x y z w h k = h
  control_if false x y z w h k = k

  pub broken_same : (around : List Level) → broken (levels_there around) ≡ control_there (broken around)
  broken_same [] = refl
  broken_same (at ∷ around) =
      ap (λ (b : Bool). if b then behind (level_there at) (levels_there around) else broken (levels_there around)) (first_same is_left_by_break break_same at.rest)
      ∙ control_if (first_is is_left_by_break at.rest) _ _ _ _ (behind_level_same at around) (broken_same around)

  pub continued_same : (around : List Level) → continued (levels_there around) ≡ control_there (continued around)
  continued_same [] = refl
  continued_same (at ∷ around) =
      ap (λ (b : Bool). if b then (level_there at, levels_there around) else continued (levels_there around)) (first_same is_loop loop_same at.rest)
      ∙ control_if (first_is is_loop at.rest) _ _ _ _ refl (continued_same around)

  pub arm_same : (b : Bool) (these those : List Stmt) (around : List Level) → arm b (list_there these) (list_there those) (levels_there around) ≡ control_there (arm b these those around)
  arm_same true these those around = close_same these 0 around
  arm_same false these those around =
      ap (λ (n : ℕ). close (list_there those) (counted n) (levels_there around)) (length-map these stmt_there) ∙ close_same those (counted (length these)) around

  -- ---- cases

  bodies_same : (cases : List Case) → bodies (map case_there cases) ≡ list_there (bodies cases)
  bodies_same [] = refl
  bodies_same (c ∷ cases) =
      (λ i. (out_case_there c i).body ++ bodies_same cases i) ∙ sym (map-append stmt_there (out-Case c).body (bodies cases))

  abbrev pub found_there : Option (ℕ × List Stmt) → Option (ℕ × List Stmt)
  found_there x = option_map (λ y. (y.0, list_there y.1)) x

  label_if : (b : Bool) (n : ℕ) (l : List Stmt) (x y : Option (ℕ × List Stmt)) → x ≡ found_there y → (if b then Some (n, list_there l) else x) ≡ found_there (if b then Some (n, l) else y)
  label_if true n l x y h = refl
  label_if false n l x y h = h

  pub from_label_same : (has : List (Option ℤ) → Bool) (n : ℕ) (cases : List Case) → from_label has n (map case_there cases) ≡ found_there (from_label has n cases)
  from_label_same has n [] = refl
  from_label_same has n (c ∷ cases) =
      (λ i. if has (out_case_there c i).labels then Some (n, bodies_same (c ∷ cases) i) else from_label has (n + length (out_case_there c i).body) (map case_there cases))
      ∙ ap (λ (k : ℕ). if has (out-Case c).labels then Some (n, list_there (bodies (c ∷ cases))) else from_label has (n + k) (map case_there cases)) (length-map (out-Case c).body stmt_there)
      ∙ label_if (has (out-Case c).labels) n (bodies (c ∷ cases)) (from_label has (n + length (out-Case c).body) (map case_there cases)) (from_label has (n + length (out-Case c).body) cases) (from_label_same has (n + length (out-Case c).body) cases)

  found_or : (x y : Option (ℕ × List Stmt)) → option_or (found_there x) (found_there y) ≡ found_there (option_or x y)
  found_or None y = refl
  found_or (Some x) y = refl

  pub found_same : (v : ℤ) (cases : List Case) → option_or (from_label (list_any (is_label v)) 0 (map case_there cases)) (from_label (list_any is_default) 0 (map case_there cases)) ≡
      found_there (option_or (from_label (list_any (is_label v)) 0 cases) (from_label (list_any is_default) 0 cases))
  found_same v cases =
      (λ i. option_or (from_label_same (list_any (is_label v)) 0 cases i) (from_label_same (list_any is_default) 0 cases i))
      ∙ found_or (from_label (list_any (is_label v)) 0 cases) (from_label (list_any is_default) 0 cases)

  -- ---- full expressions

  pub worked_same : (x : is.Stmt-F Stmt Case) (phase : Phase) → worked (layer_there x) phase ≡ option_map expr_there (worked x phase)
  worked_same (is.Do e) phase = refl
  worked_same (is.If e a b) phase = refl
  worked_same (is.While e a) phase = refl
  worked_same (is.DoWhile a e) phase = refl
  worked_same (is.For first test again a) First = refl
  worked_same (is.For first test again a) Test = refl
  worked_same (is.For first test again a) Again = refl
  worked_same (is.Switch e cases) phase = refl
  worked_same is.Break phase = refl
  worked_same is.Continue phase = refl
  worked_same (is.Return e) phase = refl
  worked_same is.Empty phase = refl
  worked_same (is.Block a) phase = refl

  abbrev pub passed_there : Option (Option Expr) → Option (Option Expr)
  passed_there x = option_map (option_map expr_there) x

  passed_phase : (phase : Phase) (first again : Option Expr) → passed_at phase (option_map expr_there first) (option_map expr_there again) ≡ passed_there (passed_at phase first again)
  passed_phase First first again = refl
  passed_phase Test first again = refl
  passed_phase Again first again = refl

  passed_same : (x : is.Stmt-F Stmt Case) (phase : Phase) → passed (layer_there x) phase ≡ passed_there (passed x phase)
  passed_same (is.Do e) phase = refl
  passed_same (is.If e a b) phase = refl
  passed_same (is.While e a) phase = refl
  passed_same (is.DoWhile a e) phase = refl
  passed_same (is.For first test again a) phase = passed_phase phase first again
  passed_same (is.Switch e cases) phase = refl
  passed_same is.Break phase = refl
  passed_same is.Continue phase = refl
  passed_same (is.Return e) phase = refl
  passed_same is.Empty phase = refl
  passed_same (is.Block a) phase = refl

  pub passed_first_same : (l : List Stmt) (phase : Phase) → passed_first (list_there l) phase ≡ passed_there (passed_first l phase)
  passed_first_same [] phase = refl
  passed_first_same (s ∷ l) phase = ap (λ (x : is.Stmt-F Stmt Case). passed x phase) (out_there s) ∙ passed_same (out-Stmt s) phase
