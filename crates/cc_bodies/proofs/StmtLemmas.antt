-- The lines of an `if`, a loop and a `switch`, put together from the last one to the first.
use Rattle.std.proofs.Common.{◌≡◌, ℕ, ◌+◌, List, [], ◌∷◌, map, refl, ap, sym, ◌∙◌}
use Rattle.cc_program.specs.CcNum.declared.int_type.IntType.{IntType}
use Rattle.cc_program.specs.CcWords.declared.word.Word.TheVariants as w
use Rattle.cc_program.specs.declared.expr.Expr.{Expr}
use Rattle.cc_program.specs.declared.func.Func.{Func}
use Rattle.cc_program.specs.declared.program.Program.{Program}
use Rattle.cc_program.specs.declared.stmt.Case.{Case, fold-Case, fold_out-Case}
use Rattle.cc_program.specs.declared.stmt.Stmt.{Stmt, If, While, Switch, fold-roll-Stmt}
use Rattle.cc_program.specs.declared.stmt.Stmt.TheOpen as is
use Rattle.cc_program.specs.declared.stmt.Stmt.TheVariants.{rolls-If, rolls-While, rolls-Switch}
use Rattle.cc_typed.specs.CcSyntax.Programs.{type_of}
use Rattle.cc_pieces.specs.Pieces.{Pieces}
use Rattle.cc_bodies.specs.Stmts.{StmtText, CaseText, closed, head, all_lines, else_lines, case_lines, if_lines, while_lines, switch_lines, label_type, stmt_step, case_step, stmt, case_text}

module _ (p : Program) (f : Func) where
  stmt-If : (e : Expr) (a b : List Stmt) → stmt p f (If e a b) ≡ if_lines p f e (map (stmt p f) a) (map (stmt p f) b)
  stmt-If e a b = ap (stmt p f) (sym (rolls-If e a b)) ∙ fold-roll-Stmt StmtText CaseText (stmt_step p f) (case_step p f) (is.If e a b)

  stmt-While : (e : Expr) (a : List Stmt) → stmt p f (While e a) ≡ while_lines p f e (map (stmt p f) a)
  stmt-While e a = ap (stmt p f) (sym (rolls-While e a)) ∙ fold-roll-Stmt StmtText CaseText (stmt_step p f) (case_step p f) (is.While e a)

  case-opened : (c : Case) → fold-Case StmtText CaseText (stmt_step p f) (case_step p f) c ≡ case_text p f c
  case-opened c = fold_out-Case StmtText CaseText (stmt_step p f) (case_step p f) c

  cases-opened : (cs : List Case) → map (fold-Case StmtText CaseText (stmt_step p f) (case_step p f)) cs ≡ map (case_text p f) cs
  cases-opened [] = refl
  cases-opened (c ∷ cs) = rw (case-opened c, cases-opened cs) refl

  stmt-Switch : (e : Expr) (cases : List Case) → stmt p f (Switch e cases) ≡ switch_lines p f e (map (case_text p f) cases)
  stmt-Switch e cases =
      ap (stmt p f) (sym (rolls-Switch e cases)) ∙ fold-roll-Stmt StmtText CaseText (stmt_step p f) (case_step p f) (is.Switch e cases)
      ∙ ap (switch_lines p f e) (cases-opened cases)

  pub if_at : (s : Stmt) (e worked : Expr) (a b xs ys : List Stmt) (level deep : ℕ) (ps one two three four : Pieces) → s ≡ If e a b → worked ≡ e → xs ≡ a → ys ≡ b → deep ≡ level + 1 →
      one ≡ closed level ps → two ≡ else_lines (map (stmt p f) ys) level one → three ≡ all_lines (map (stmt p f) xs) deep two → four ≡ head p f w.If worked level three → four ≡ stmt p f s level ps
  if_at s e worked a b xs ys level deep ps one two three four is same_e same_a same_b d h i j k =
      let two_is : two ≡ else_lines (map (stmt p f) b) level (closed level ps) =
      i ∙ ap (λ zs. else_lines (map (stmt p f) zs) level one) same_b ∙ ap (else_lines (map (stmt p f) b) level) h in
      let three_is : three ≡ all_lines (map (stmt p f) a) (level + 1) (else_lines (map (stmt p f) b) level (closed level ps)) =
      j ∙ ap (λ zs. all_lines (map (stmt p f) zs) deep two) same_a ∙ ap (λ n. all_lines (map (stmt p f) a) n two) d ∙ ap (all_lines (map (stmt p f) a) (level + 1)) two_is in
      k ∙ ap (λ x. head p f w.If x level three) same_e ∙ ap (head p f w.If e level) three_is ∙ ap (λ (t : StmtText). t level ps) (sym (ap (stmt p f) is ∙ stmt-If e a b))

  pub while_at : (s : Stmt) (e worked : Expr) (a xs : List Stmt) (level deep : ℕ) (ps one three four : Pieces) → s ≡ While e a → worked ≡ e → xs ≡ a → deep ≡ level + 1 →
      one ≡ closed level ps → three ≡ all_lines (map (stmt p f) xs) deep one → four ≡ head p f w.While worked level three → four ≡ stmt p f s level ps
  while_at s e worked a xs level deep ps one three four is same_e same_a d h j k =
      let three_is : three ≡ all_lines (map (stmt p f) a) (level + 1) (closed level ps) =
      j ∙ ap (λ zs. all_lines (map (stmt p f) zs) deep one) same_a ∙ ap (λ n. all_lines (map (stmt p f) a) n one) d ∙ ap (all_lines (map (stmt p f) a) (level + 1)) h in
      k ∙ ap (λ x. head p f w.While x level three) same_e ∙ ap (head p f w.While e level) three_is ∙ ap (λ (t : StmtText). t level ps) (sym (ap (stmt p f) is ∙ stmt-While e a))

  pub switch_at : (s : Stmt) (e worked typed : Expr) (cases xs : List Case) (t : IntType) (level : ℕ) (ps one three four : Pieces) → s ≡ Switch e cases → worked ≡ e → typed ≡ e → xs ≡ cases → t ≡ label_type (type_of p f.locals typed) →
      one ≡ closed level ps → three ≡ case_lines t (map (case_text p f) xs) level one → four ≡ head p f w.Switch worked level three → four ≡ stmt p f s level ps
  switch_at s e worked typed cases xs t level ps one three four is same_worked same_typed same d h j k =
      let three_is : three ≡ case_lines (label_type (type_of p f.locals e)) (map (case_text p f) cases) level (closed level ps) =
      j ∙ ap (λ zs. case_lines t (map (case_text p f) zs) level one) same ∙ ap (λ v. case_lines v (map (case_text p f) cases) level one) (d ∙ ap (λ x. label_type (type_of p f.locals x)) same_typed)
      ∙ ap (case_lines (label_type (type_of p f.locals e)) (map (case_text p f) cases) level) h in
      k ∙ ap (λ x. head p f w.Switch x level three) same_worked ∙ ap (head p f w.Switch e level) three_is ∙ ap (λ (t : StmtText). t level ps) (sym (ap (stmt p f) is ∙ stmt-Switch e cases))
