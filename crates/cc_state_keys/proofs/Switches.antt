-- The keys whose addresses a statement takes, by what stands in it.
use Rattle.std.proofs.Common.{◌≡◌, ◌++◌, ℕ, List, [], ◌∷◌, map, Option, refl, ap, ◌∙◌}
use Rattle.std.specs.List.{flat_map}
use Rattle.cc_program.specs.declared.expr.Expr.{Expr}
use Rattle.cc_program.specs.declared.func.Func.{Func}
use Rattle.cc_program.specs.declared.program.Program.{Program}
use Rattle.cc_program.specs.declared.stmt.Case.{Case, out-Case, fold-Case, fold_out-Case}
use Rattle.cc_program.specs.declared.stmt.Stmt.{Stmt, If, While, DoWhile, For, Switch, roll-Stmt, map-Stmt, fold-roll-Stmt}
use Rattle.cc_program.specs.declared.stmt.Stmt.TheOpen as is
use Rattle.cc_state_facts.specs.declared.facts.Key.{Key}
use Rattle.cc_state_keys.specs.Addressed.{all_taken, taken_in, taken_in_optional, stmt_taken_step, taken_in_stmt}

module _ (p : Program) (id : ℕ) (f : Func) where
  abbrev in_case : is.Case-F (List Key) (List Key) → List Key
  in_case c = all_taken c.body

  abbrev case_fold : Case → List Key
  case_fold c = fold-Case (List Key) (List Key) (stmt_taken_step p id f) in_case c

  -- of a case
  abbrev pub case_keys : Case → List Key
  case_keys c = all_taken (map (taken_in_stmt p id f) (out-Case c).body)

  all-cases : (cases : List Case) → all_taken (map case_fold cases) ≡ flat_map case_keys cases
  unfolding taken_in_stmt
  all-cases [] = refl
  all-cases (c ∷ cases) = ap (λ l. l ++ all_taken (map case_fold cases)) (fold_out-Case (List Key) (List Key) (stmt_taken_step p id f) in_case c) ∙ ap (λ l. case_keys c ++ l) (all-cases cases)

  -- one level
  taken-at : (s : Stmt) (x : is.Stmt-F Stmt Case) → s ≡ roll-Stmt x → taken_in_stmt p id f s ≡ stmt_taken_step p id f (map-Stmt Stmt Case (List Key) (List Key) (taken_in_stmt p id f) case_fold x)
  unfolding taken_in_stmt
  taken-at s x h = ap (taken_in_stmt p id f) h ∙ fold-roll-Stmt (List Key) (List Key) (stmt_taken_step p id f) in_case x

  abbrev pub list_keys : List Stmt → List Key
  list_keys list = all_taken (map (taken_in_stmt p id f) list)

  pub if-is : (s : Stmt) (e : Expr) (a b : List Stmt) → s ≡ If e a b → taken_in_stmt p id f s ≡ taken_in p id f e ++ (list_keys a ++ list_keys b)
  unfolding roll-Stmt denote.Hole.Carrier.roll
  if-is s e a b h = taken-at s (is.If e a b) h

  pub while-is : (s : Stmt) (e : Expr) (a : List Stmt) → s ≡ While e a → taken_in_stmt p id f s ≡ taken_in p id f e ++ list_keys a
  unfolding roll-Stmt denote.Hole.Carrier.roll
  while-is s e a h = taken-at s (is.While e a) h

  pub do-is : (s : Stmt) (a : List Stmt) (e : Expr) → s ≡ DoWhile a e → taken_in_stmt p id f s ≡ list_keys a ++ taken_in p id f e
  unfolding roll-Stmt denote.Hole.Carrier.roll
  do-is s a e h = taken-at s (is.DoWhile a e) h

  pub for-is : (s : Stmt) (first test again : Option Expr) (a : List Stmt) → s ≡ For first test again a →
      taken_in_stmt p id f s ≡ taken_in_optional p id f first ++ (taken_in_optional p id f test ++ (taken_in_optional p id f again ++ list_keys a))
  unfolding roll-Stmt denote.Hole.Carrier.roll
  for-is s first test again a h = taken-at s (is.For first test again a) h

  pub switch-is : (s : Stmt) (e : Expr) (cases : List Case) → s ≡ Switch e cases → taken_in_stmt p id f s ≡ taken_in p id f e ++ flat_map case_keys cases
  unfolding roll-Stmt denote.Hole.Carrier.roll
  switch-is s e cases h = taken-at s (is.Switch e cases) h ∙ ap (λ l. taken_in p id f e ++ l) (all-cases cases)
