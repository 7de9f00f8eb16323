-- A text by other numbers of static objects has the devices that it had, in their order.
use Rattle.std.proofs.Common.{◌≡◌, ◌∙◌, ◌∷◌, ◌++◌, ℕ, List, [], map, refl, ap, sym}
use Rattle.std.specs.List.{flat_map}
use Rattle.cc_program.specs.declared.expr.Expr.{Expr}
use Rattle.cc_program.specs.declared.expr.Expr.TheOpen as one
use Rattle.cc_program.specs.declared.expr.Place.{Place, out-Place, map-Place}
use Rattle.cc_program.specs.declared.func.Func.{Func}
use Rattle.cc_program.specs.declared.stmt.Case.{Case, roll-Case, fold-Case, map-Case, fold-roll-Case}
use Rattle.cc_program.specs.declared.stmt.Stmt.{Stmt, roll-Stmt, map-Stmt, fold-roll-Stmt}
use Rattle.cc_program.specs.declared.stmt.Stmt.TheOpen as is
use Rattle.cc_program.proofs.Each.{Each}
use Rattle.cc_program.proofs.StmtInduction.{StmtParts, CaseParts, by_stmt}
use Rattle.cc_eval.specs.CcSyntax.Forms.{Form, ConstantForm, FunctionForm, LoadForm, AssignForm, CallForm, IntrinsicForm, OtherForm, form_of}
use Rattle.cc_eval.specs.CcSyntax.Normal.{device_in, device_read, devices_accessed, devices_step, devices_of, devices_in}
use Rattle.cc_rewrite_renamed.specs.Objects.{place_with, expr_renamed, place_renamed, func_renamed}
use Rattle.cc_rewrite_renamed.specs.Statements.{stmt_with, stmt_by, case_by, stmt_step as renamed_stmt_step}
use Rattle.cc_rewrite_orders_sound.proofs.Forms.{form_with, form_same, place_out}

module _ (r : ℕ → ℕ) where
  device_at : (x : one.Place-F Expr Place) → device_in (place_with r (map-Place Expr Place Expr Place (expr_renamed r) (place_renamed r) x)) ≡ device_in x
  device_at (one.Local n) = refl
  device_at (one.Static i) = refl
  device_at (one.Device d) = refl
  device_at (one.Element a i) = refl
  device_at (one.Member a m) = refl
  device_at (one.Deref e) = refl

  place_same : (a : Place) → device_in (out-Place (place_renamed r a)) ≡ device_in (out-Place a)
  place_same a = ap device_in (place_out r a) ∙ device_at (out-Place a)

  read_with : (x : Form) → device_read (form_with r x) ≡ device_read x
  read_with (ConstantForm n t) = refl
  read_with FunctionForm = refl
  read_with (LoadForm a) = place_same a
  read_with (AssignForm a e) = refl
  read_with (CallForm g args) = refl
  read_with (IntrinsicForm a) = refl
  read_with OtherForm = refl

  read_same : (e : Expr) → device_read (form_of (expr_renamed r e)) ≡ device_read (form_of e)
  read_same e = ap device_read (form_same r e) ∙ read_with (form_of e)

  accessed_with : (x : Form) → devices_accessed (form_with r x) ≡ devices_accessed x
  accessed_with (ConstantForm n t) = refl
  accessed_with FunctionForm = refl
  accessed_with (LoadForm a) = refl
  accessed_with (AssignForm a e) = λ i. place_same a i ++ read_same e i
  accessed_with (CallForm g args) = refl
  accessed_with (IntrinsicForm a) = refl
  accessed_with OtherForm = refl

  accessed_same : (e : Expr) → devices_accessed (form_of (expr_renamed r e)) ≡ devices_accessed (form_of e)
  accessed_same e = ap devices_accessed (form_same r e) ∙ accessed_with (form_of e)

  -- ---- statements

  abbrev at_stmt : Stmt → Stmt
  at_stmt s = stmt_by (expr_renamed r) s

  abbrev at_case : Case → Case
  at_case c = case_by (expr_renamed r) c

  abbrev of_case : Case → List ℕ
  of_case c = fold-Case (List ℕ) (List ℕ) devices_step (λ c. flat_map (λ ds. ds) c.body) c

  abbrev StmtSame : Stmt → Type 0
  StmtSame s = devices_of (at_stmt s) ≡ devices_of s

  abbrev CaseSame : Case → Type 0
  CaseSame c = of_case (at_case c) ≡ of_case c

  list_same : (l : List Stmt) → Each StmtSame l → map devices_of (map at_stmt l) ≡ map devices_of l
  list_same [] h = refl
  list_same (s ∷ l) h = λ i. h.0 i ∷ list_same l h.1 i

  cases_same : (l : List Case) → Each CaseSame l → map of_case (map at_case l) ≡ map of_case l
  cases_same [] h = refl
  cases_same (c ∷ l) h = λ i. h.0 i ∷ cases_same l h.1 i

  abbrev level : is.Stmt-F Stmt Case → List ℕ
  level x = devices_step (map-Stmt Stmt Case (List ℕ) (List ℕ) devices_of of_case x)

  abbrev renamed_level : is.Stmt-F Stmt Case → is.Stmt-F Stmt Case
  renamed_level x = stmt_with (expr_renamed r) (map-Stmt Stmt Case Stmt Case at_stmt at_case x)

  abbrev all : List (List ℕ) → List ℕ
  all dss = flat_map (λ ds. ds) dss

  level_same : (x : is.Stmt-F Stmt Case) → StmtParts StmtSame CaseSame x → level (renamed_level x) ≡ level x
  level_same (is.Do e) h = accessed_same e
  level_same (is.If e a b) h = λ i. all (list_same a h.0 i) ++ all (list_same b h.1 i)
  level_same (is.While e a) h = ap all (list_same a h)
  level_same (is.DoWhile a e) h = ap all (list_same a h)
  level_same (is.For first test again a) h = ap all (list_same a h)
  level_same (is.Switch e cases) h = ap all (cases_same cases h)
  level_same is.Break h = refl
  level_same is.Continue h = refl
  level_same (is.Return e) h = refl
  level_same is.Empty h = refl
  level_same (is.Block a) h = ap all (list_same a h)

  stmt_made : (x : is.Stmt-F Stmt Case) → StmtParts StmtSame CaseSame x → StmtSame (roll-Stmt x)
  unfolding stmt_by case_by
  stmt_made x h =
      ap devices_of (fold-roll-Stmt Stmt Case (renamed_stmt_step (expr_renamed r)) roll-Case x) ∙ fold-roll-Stmt (List ℕ) (List ℕ) devices_step (λ c. flat_map (λ ds. ds) c.body) (renamed_level x) ∙ level_same x h
      ∙ sym (fold-roll-Stmt (List ℕ) (List ℕ) devices_step (λ c. flat_map (λ ds. ds) c.body) x)

  case_made : (x : is.Case-F Stmt Case) → CaseParts StmtSame CaseSame x → CaseSame (roll-Case x)
  unfolding stmt_by case_by
  case_made x h =
      ap of_case (fold-roll-Case Stmt Case (renamed_stmt_step (expr_renamed r)) roll-Case x)
      ∙ fold-roll-Case (List ℕ) (List ℕ) devices_step (λ c. flat_map (λ ds. ds) c.body) (map-Case Stmt Case Stmt Case at_stmt at_case x) ∙ ap all (list_same x.body h)
      ∙ sym (fold-roll-Case (List ℕ) (List ℕ) devices_step (λ c. flat_map (λ ds. ds) c.body) x)

  stmt_same : (s : Stmt) → StmtSame s
  stmt_same s = by_stmt StmtSame CaseSame stmt_made case_made s

  body_same : (l : List Stmt) → devices_in (map at_stmt l) ≡ devices_in l
  body_same [] = refl
  body_same (s ∷ l) = λ i. stmt_same s i ++ body_same l i

  pub text_same : (fs : List Func) → flat_map (λ (f : Func). devices_in f.body) (map (func_renamed r) fs) ≡ flat_map (λ (f : Func). devices_in f.body) fs
  text_same [] = refl
  text_same (f ∷ fs) = λ i. body_same f.body i ++ text_same fs i
