-- Whether the statements of a `switch` are in normal form, case by case.
use Rattle.std.proofs.Common.{◌≡◌, Bool, true, ◌&&◌, List, [], ◌∷◌, map, refl, ap, sym, ◌∙◌}
use Rattle.std.specs.List.{list_all}
use Rattle.cc_program.specs.CcNum.declared.target.Target.{Target}
use Rattle.cc_program.specs.declared.expr.Expr.{Expr}
use Rattle.cc_program.specs.declared.func.Func.{Func}
use Rattle.cc_program.specs.declared.stmt.Case.{Case, out-Case, fold-Case, fold_out-Case}
use Rattle.cc_program.specs.declared.stmt.Stmt.{Stmt, Switch, fold-roll-Stmt}
use Rattle.cc_program.specs.declared.stmt.Stmt.TheVariants.{rolls-Switch}
use Rattle.cc_program.specs.declared.stmt.Stmt.TheOpen as is
use Rattle.cc_syntax.specs.Normal.{is_operand, normal_step, is_normal_stmt}

module _ (target : Target) (f : Func) where
  abbrev in_case : is.Case-F Bool Bool → Bool
  in_case c = list_all (λ b. b) c.body

  abbrev pub is_normal_case : Case → Bool
  is_normal_case c = list_all (λ b. b) (map (is_normal_stmt target f) (out-Case c).body)

  abbrev tested : Case → Bool
  tested c = fold-Case Bool Bool (normal_step target f) in_case c

  all-cases : (cases : List Case) → list_all (λ b. b) (map tested cases) ≡ list_all is_normal_case cases
  all-cases [] = refl
  all-cases (c ∷ cases) = ap (λ b. b && list_all (λ b. b) (map tested cases)) (fold_out-Case Bool Bool (normal_step target f) in_case c) ∙ ap (λ b. is_normal_case c && b) (all-cases cases)

  switch-rolls : (e : Expr) (cases : List Case) → is_normal_stmt target f (Switch e cases) ≡ (is_operand target f e && list_all (λ b. b) (map tested cases))
  switch-rolls e cases = ap (is_normal_stmt target f) (sym (rolls-Switch e cases)) ∙ fold-roll-Stmt Bool Bool (normal_step target f) in_case (is.Switch e cases)

  pub switch_normal : (s : Stmt) (e : Expr) (cases : List Case) (r : Bool) → s ≡ Switch e cases → is_operand target f e ≡ true → r ≡ list_all is_normal_case cases → r ≡ is_normal_stmt target f s
  switch_normal s e cases r is pure h =
      h ∙ sym (ap (is_normal_stmt target f) is ∙ switch-rolls e cases ∙ ap (λ b. b && list_all (λ b. b) (map tested cases)) pure ∙ all-cases cases)
