-- Each arm gives what the definition gives of its kind: the parts by the calls' clauses, the whole by `stmt_opened`.
use Rattle.std.proofs.Common.{◌∙◌, ap, sym}
use Rattle.cc_program.specs.declared.stmt.Stmt.{Do, If, While, DoWhile, For, Switch, Return, Block}
use Rattle.cc_program.specs.declared.stmt.Stmt.TheOpen as is
use Rattle.cc_program.specs.declared.stmt.Stmt.TheVariants.{rolls-Do, rolls-If, rolls-While, rolls-DoWhile, rolls-For, rolls-Switch, rolls-Return, rolls-Block, rolls-Break, rolls-Continue, rolls-Empty}
use Rattle.cc_unit.proofs.Opened.{stmt_opened}
use Rattle.cc_unit.specs.Renumbered.{expr_renumbered}
use Rattle.cc_unit.proofs.stmt.+renumber.Goals as goal

pub renumber_stmt-returns-in_ok-renumber_boxed-in-Do : goal.renumber_stmt-returns-in_ok-renumber_boxed-in-Do
renumber_stmt-returns-in_ok-renumber_boxed-in-Do t c =
    let test = c.in_ok-renumber_boxed-in-Do.ensures ∙ ap (expr_renumbered c.args.ids.now) c.get.ensures in
    (λ j. Do (test j)) ∙ stmt_opened c.args.ids.now c.args.s.now (is.Do c.in-Do.e) (c.in-Do.is ∙ sym (rolls-Do c.in-Do.e))

pub renumber_stmt-returns-in_ok-renumber_boxed-in-If : goal.renumber_stmt-returns-in_ok-renumber_boxed-in-If
renumber_stmt-returns-in_ok-renumber_boxed-in-If t c =
    let test = c.in_ok-renumber_boxed-in-If.ensures ∙ ap (expr_renumbered c.args.ids.now) c.get-in-If.ensures in
    (λ j. If (test j) (c.in_ok-these-in-If.ensures j) (c.in_ok-those-in-If.ensures j)) ∙ stmt_opened c.args.ids.now c.args.s.now (is.If c.in-If.e c.in-If.these c.in-If.those) (c.in-If.is ∙ sym (rolls-If c.in-If.e c.in-If.these c.in-If.those))

pub renumber_stmt-returns-in_ok-renumber_boxed-in-While : goal.renumber_stmt-returns-in_ok-renumber_boxed-in-While
renumber_stmt-returns-in_ok-renumber_boxed-in-While t c =
    let test = c.in_ok-renumber_boxed-in-While.ensures ∙ ap (expr_renumbered c.args.ids.now) c.get-in-While.ensures in
    (λ j. While (test j) (c.in_ok-body-in-While.ensures j)) ∙ stmt_opened c.args.ids.now c.args.s.now (is.While c.in-While.e c.in-While.body) (c.in-While.is ∙ sym (rolls-While c.in-While.e c.in-While.body))

pub renumber_stmt-returns-in_ok-renumber_boxed-in-DoWhile : goal.renumber_stmt-returns-in_ok-renumber_boxed-in-DoWhile
renumber_stmt-returns-in_ok-renumber_boxed-in-DoWhile t c =
    let test = c.in_ok-renumber_boxed-in-DoWhile.ensures ∙ ap (expr_renumbered c.args.ids.now) c.get-in-DoWhile.ensures in
    (λ j. DoWhile (c.in_ok-body-in-DoWhile.ensures j) (test j)) ∙ stmt_opened c.args.ids.now c.args.s.now (is.DoWhile c.in-DoWhile.body c.in-DoWhile.e) (c.in-DoWhile.is ∙ sym (rolls-DoWhile c.in-DoWhile.body c.in-DoWhile.e))

pub renumber_stmt-returns-in_ok-again-in-For : goal.renumber_stmt-returns-in_ok-again-in-For
renumber_stmt-returns-in_ok-again-in-For t c =
    (λ j. For (c.in_ok-first-in-For.ensures j) (c.in_ok-test-in-For.ensures j) (c.in_ok-again-in-For.ensures j) (c.in_ok-body-in-For.ensures j)) ∙ stmt_opened c.args.ids.now c.args.s.now (is.For c.in-For.first c.in-For.test c.in-For.again c.in-For.body) (c.in-For.is ∙ sym (rolls-For c.in-For.first c.in-For.test c.in-For.again c.in-For.body))

pub renumber_stmt-returns-in_ok-renumber_boxed-in-Switch : goal.renumber_stmt-returns-in_ok-renumber_boxed-in-Switch
renumber_stmt-returns-in_ok-renumber_boxed-in-Switch t c =
    let test = c.in_ok-renumber_boxed-in-Switch.ensures ∙ ap (expr_renumbered c.args.ids.now) c.get-in-Switch.ensures in
    (λ j. Switch (test j) (c.in_ok-cases-in-Switch.ensures j)) ∙ stmt_opened c.args.ids.now c.args.s.now (is.Switch c.in-Switch.e c.in-Switch.cases) (c.in-Switch.is ∙ sym (rolls-Switch c.in-Switch.e c.in-Switch.cases))

pub renumber_stmt-returns-in-Break : goal.renumber_stmt-returns-in-Break
renumber_stmt-returns-in-Break t c =
    stmt_opened c.args.ids.now c.args.s.now is.Break (c.in-Break.is ∙ sym rolls-Break)

pub renumber_stmt-returns-in-Continue : goal.renumber_stmt-returns-in-Continue
renumber_stmt-returns-in-Continue t c =
    stmt_opened c.args.ids.now c.args.s.now is.Continue (c.in-Continue.is ∙ sym rolls-Continue)

pub renumber_stmt-returns-in_ok-renumber_optional-in-Return : goal.renumber_stmt-returns-in_ok-renumber_optional-in-Return
renumber_stmt-returns-in_ok-renumber_optional-in-Return t c =
    (λ j. Return (c.in_ok-renumber_optional-in-Return.ensures j)) ∙ stmt_opened c.args.ids.now c.args.s.now (is.Return c.in-Return.e) (c.in-Return.is ∙ sym (rolls-Return c.in-Return.e))

pub renumber_stmt-returns-in-Empty : goal.renumber_stmt-returns-in-Empty
renumber_stmt-returns-in-Empty t c =
    stmt_opened c.args.ids.now c.args.s.now is.Empty (c.in-Empty.is ∙ sym rolls-Empty)

pub renumber_stmt-returns-in_ok-renumber_stmts-in-Block : goal.renumber_stmt-returns-in_ok-renumber_stmts-in-Block
renumber_stmt-returns-in_ok-renumber_stmts-in-Block t c =
    (λ j. Block (c.in_ok-renumber_stmts-in-Block.ensures j)) ∙ stmt_opened c.args.ids.now c.args.s.now (is.Block c.in-Block.body) (c.in-Block.is ∙ sym (rolls-Block c.in-Block.body))
