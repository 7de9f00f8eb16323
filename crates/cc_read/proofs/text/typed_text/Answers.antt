use Rattle.std.proofs.lemmas.Result.{err_from_is_err_and}
use Rattle.cc_read.proofs.Causes.{by_lex}
use Rattle.cc_read.proofs.text.typed_text.Goals as goal

pub returns-in_err-tokens-clause-refused : goal.returns-in_err-tokens-clause-refused
returns-in_err-tokens-clause-refused c =
    let p = err_from_is_err_and c.from_residual.result c.from_residual.ensures.1 in
    rw (p.1, p.2) (by_lex c.args.target.now c.args.roles.now c.args.text.now c.in_err-tokens.field-0.0 c.in_err-tokens.ensures.fault)
