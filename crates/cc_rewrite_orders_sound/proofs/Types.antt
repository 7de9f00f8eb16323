-- Statements with other expressions that have the types of the old ones are sound where they were.
use Rattle.std.proofs.Common.{◌≡◌, ◌∙◌, ◌&&◌, ◌∷◌, Bool, true, false, List, [], map, Option, Some, None, option_map, is_some, refl, ap, sym}
use Rattle.std.specs.List.{list_all, flat_map}
use Rattle.cc_program.specs.CcNum.declared.target.Target.{Target}
use Rattle.cc_program.specs.declared.expr.Expr.{Expr}
use Rattle.cc_program.specs.declared.stmt.Case.{Case, roll-Case, fold-Case, map-Case, fold-roll-Case}
use Rattle.cc_program.specs.declared.stmt.Stmt.{Stmt, roll-Stmt, map-Stmt, fold-roll-Stmt}
use Rattle.cc_program.specs.declared.stmt.Stmt.TheOpen as is
use Rattle.cc_program.specs.declared.types.CType.{CType}
use Rattle.cc_program.proofs.Each.{Each}
use Rattle.cc_program.proofs.StmtInduction.{StmtParts, CaseParts, by_stmt}
use Rattle.cc_eval.specs.CcSyntax.Statements.{SoundWhere, Labelled, is_condition, has_label, labels_fit, are_apart, is_typed, is_optional_condition, returns, sound_case, sound_step, is_sound_stmt, is_sound_body}
use Rattle.cc_eval.specs.CcSyntax.Values.{ValueType, is_assignable_some, scalar_value}
use Rattle.cc_rewrite_renamed.specs.Statements.{stmt_with, stmt_by, case_by, stmt_step as renamed_stmt_step}

module _ (target : Target) (result : CType) (new_type old_type : Expr → Option ValueType) (change : Expr → Expr) (same : (e : Expr) → new_type (change e) ≡ old_type e) where
  abbrev new_sound : Stmt → SoundWhere
  new_sound s = is_sound_stmt target new_type result s

  abbrev old_sound : Stmt → SoundWhere
  old_sound s = is_sound_stmt target old_type result s

  abbrev new_case : Case → Labelled
  new_case c = fold-Case SoundWhere Labelled (sound_step target new_type result) sound_case c

  abbrev old_case : Case → Labelled
  old_case c = fold-Case SoundWhere Labelled (sound_step target old_type result) sound_case c

  typed_same : (e : Option Expr) → is_typed target new_type result (option_map change e) ≡ is_typed target old_type result e
  typed_same None = refl
  typed_same (Some e) = ap is_some (same e)

  condition_same : (e : Option Expr) → is_optional_condition target new_type result (option_map change e) ≡ is_optional_condition target old_type result e
  condition_same None = refl
  condition_same (Some e) = ap is_condition (same e)

  returns_same : (e : Option Expr) → returns target new_type result (option_map change e) ≡ returns target old_type result e
  returns_same None = refl
  returns_same (Some e) = ap (is_assignable_some (scalar_value result)) (same e)

  abbrev StmtSame : Stmt → Type 0
  StmtSame s = new_sound (stmt_by change s) ≡ old_sound s

  abbrev CaseSame : Case → Type 0
  CaseSame c = new_case (case_by change c) ≡ old_case c

  list_same : (l : List Stmt) → Each StmtSame l → map new_sound (map (stmt_by change) l) ≡ map old_sound l
  list_same [] h = refl
  list_same (s ∷ l) h = λ i. h.0 i ∷ list_same l h.1 i

  cases_same : (l : List Case) → Each CaseSame l → map new_case (map (case_by change) l) ≡ map old_case l
  cases_same [] h = refl
  cases_same (c ∷ l) h = λ i. h.0 i ∷ cases_same l h.1 i

  abbrev new_level : is.Stmt-F Stmt Case → SoundWhere
  new_level x = sound_step target new_type result (map-Stmt Stmt Case SoundWhere Labelled new_sound new_case x)

  abbrev old_level : is.Stmt-F Stmt Case → SoundWhere
  old_level x = sound_step target old_type result (map-Stmt Stmt Case SoundWhere Labelled old_sound old_case x)

  abbrev renamed_level : is.Stmt-F Stmt Case → is.Stmt-F Stmt Case
  renamed_level x = stmt_with change (map-Stmt Stmt Case Stmt Case (stmt_by change) (case_by change) x)

  abbrev all : Bool → Bool → List SoundWhere → Bool
  all b c l = list_all (λ (s : SoundWhere). s b c) l

  abbrev fits : Bool → List Labelled → Option ValueType → Bool
  fits c cases t =
      labels_fit target (flat_map (λ (c : Labelled). c.labels) cases) t
      && (are_apart (flat_map (λ (c : Labelled). c.labels) cases) && (list_all (λ (c : Labelled). has_label c.labels) cases && list_all (λ (k : Labelled). k.body true c) cases))

  level_same : (x : is.Stmt-F Stmt Case) → StmtParts StmtSame CaseSame x → new_level (renamed_level x) ≡ old_level x
  level_same (is.Do e) h = λ i b c. is_some (same e i)
  level_same (is.If e x y) h = λ i b c. is_condition (same e i) && (all b c (list_same x h.0 i) && all b c (list_same y h.1 i))
  level_same (is.While e x) h = λ i b c. is_condition (same e i) && all true true (list_same x h i)
  level_same (is.DoWhile x e) h = λ i b c. is_condition (same e i) && all true true (list_same x h i)
  level_same (is.For first test again x) h = λ i b c. typed_same first i && (condition_same test i && (typed_same again i && all true true (list_same x h i)))
  level_same (is.Switch e cases) h = λ i b c. fits c (cases_same cases h i) (same e i)
  level_same is.Break h = refl
  level_same is.Continue h = refl
  level_same (is.Return e) h = λ i b c. returns_same e i
  level_same is.Empty h = refl
  level_same (is.Block x) h = λ i b c. all b c (list_same x h i)

  stmt_made : (x : is.Stmt-F Stmt Case) → StmtParts StmtSame CaseSame x → StmtSame (roll-Stmt x)
  unfolding stmt_by case_by
  stmt_made x h =
      ap new_sound (fold-roll-Stmt Stmt Case (renamed_stmt_step change) roll-Case x)
      ∙ fold-roll-Stmt SoundWhere Labelled (sound_step target new_type result) sound_case (renamed_level x)
      ∙ level_same x h
      ∙ sym (fold-roll-Stmt SoundWhere Labelled (sound_step target old_type result) sound_case x)

  case_level : (x : is.Case-F Stmt Case) → CaseParts StmtSame CaseSame x →
      sound_case (map-Case Stmt Case SoundWhere Labelled new_sound new_case (map-Case Stmt Case Stmt Case (stmt_by change) (case_by change) x)) ≡ sound_case (map-Case Stmt Case SoundWhere Labelled old_sound old_case x)
  case_level x h = λ i. record { labels = x.labels; body = λ b c. all b c (list_same x.body h i) }

  case_made : (x : is.Case-F Stmt Case) → CaseParts StmtSame CaseSame x → CaseSame (roll-Case x)
  unfolding stmt_by case_by
  case_made x h =
      ap new_case (fold-roll-Case Stmt Case (renamed_stmt_step change) roll-Case x)
      ∙ fold-roll-Case SoundWhere Labelled (sound_step target new_type result) sound_case (map-Case Stmt Case Stmt Case (stmt_by change) (case_by change) x)
      ∙ case_level x h
      ∙ sym (fold-roll-Case SoundWhere Labelled (sound_step target old_type result) sound_case x)

  stmt_same : (s : Stmt) → StmtSame s
  stmt_same s = by_stmt StmtSame CaseSame stmt_made case_made s

  bodies_same : (l : List Stmt) → map new_sound (map (stmt_by change) l) ≡ map old_sound l
  bodies_same [] = refl
  bodies_same (s ∷ l) = λ i. stmt_same s i ∷ bodies_same l i

  pub body_same : (l : List Stmt) → is_sound_body target new_type result (map (stmt_by change) l) ≡ is_sound_body target old_type result l
  body_same l = ap (all false false) (bodies_same l)
