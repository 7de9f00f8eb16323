-- Whether the address of a local is taken in a `switch`, case by case.
use Rattle.std.proofs.Common.{◌≡◌, ℕ, Bool, false, ◌||◌, List, [], ◌∷◌, map, refl, ap, sym, ◌∙◌}
use Rattle.std.specs.List.{list_any}
use Rattle.cc_program.specs.declared.expr.Expr.{Expr}
use Rattle.cc_program.specs.declared.stmt.Case.{Case, out-Case, fold-Case, fold_out-Case}
use Rattle.cc_program.specs.declared.stmt.Stmt.{Stmt, Switch, fold-roll-Stmt}
use Rattle.cc_program.specs.declared.stmt.Stmt.TheVariants.{rolls-Switch}
use Rattle.cc_program.specs.declared.stmt.Stmt.TheOpen as is
use Rattle.cc_syntax.specs.Registers.{is_address_taken, stmt_step, is_taken_in}

module _ (local : ℕ) where
  abbrev in_case : is.Case-F Bool Bool → Bool
  in_case c = list_any (λ b. b) c.body

  abbrev pub is_case_taken : Case → Bool
  is_case_taken c = list_any (λ b. b) (map (is_taken_in local) (out-Case c).body)

  abbrev taken : Case → Bool
  taken c = fold-Case Bool Bool (stmt_step local) in_case c

  any-cases : (cases : List Case) → list_any (λ b. b) (map taken cases) ≡ list_any is_case_taken cases
  any-cases [] = refl
  any-cases (c ∷ cases) = ap (λ b. b || list_any (λ b. b) (map taken cases)) (fold_out-Case Bool Bool (stmt_step local) in_case c) ∙ ap (λ b. is_case_taken c || b) (any-cases cases)

  switch-rolls : (e : Expr) (cases : List Case) → is_taken_in local (Switch e cases) ≡ (is_address_taken local e || list_any (λ b. b) (map taken cases))
  switch-rolls e cases = ap (is_taken_in local) (sym (rolls-Switch e cases)) ∙ fold-roll-Stmt Bool Bool (stmt_step local) in_case (is.Switch e cases)

  pub switch_taken : (s : Stmt) (e : Expr) (cases : List Case) (r : Bool) → s ≡ Switch e cases → is_address_taken local e ≡ false → r ≡ list_any is_case_taken cases → r ≡ is_taken_in local s
  switch_taken s e cases r is none h =
      h ∙ sym (ap (is_taken_in local) is ∙ switch-rolls e cases ∙ ap (λ b. b || list_any (λ b. b) (map taken cases)) none ∙ any-cases cases)
