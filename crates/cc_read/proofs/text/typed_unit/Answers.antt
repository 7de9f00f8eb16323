use Rattle.std.proofs.lemmas.Result.{err_from_is_err_and}
use Rattle.cc_read.proofs.Causes.{by_gram, by_types}
use Rattle.cc_read.proofs.text.typed_unit.Goals as goal

pub returns-in_err-tree-clause-refused : goal.returns-in_err-tree-clause-refused
returns-in_err-tree-clause-refused c =
    let p = err_from_is_err_and c.from_residual.result c.from_residual.ensures.1 in
    rw (p.1, p.2) (by_gram c.args.target.now c.args.roles.now c.args.tokens.now c.in_err-tree.field-0.0 c.in_err-tree.ensures.refused)

pub returns-in_err-typed-clause-refused : goal.returns-in_err-typed-clause-refused
returns-in_err-typed-clause-refused c =
    let p = err_from_is_err_and c.from_residual-in_err-typed.result c.from_residual-in_err-typed.ensures.1 in
    rw (p.1, p.2) (by_types c.args.target.now c.args.roles.now c.args.tokens.now c.in_ok-tree.tree c.in_err-typed.field-0.0 c.in_ok-tree.ensures.read c.in_err-typed.ensures.broken)
