use Rattle.std.proofs.Common.{rules, ◌≡◌, ◌∙◌, ap, true}
use Rattle.std.specs.List.{list_all}
use Rattle.cc_lower.proofs.Ids.{has_ids, ids_of}
use Rattle.cc_lower.proofs.passes.lower.Goals as goal
use Rattle.cc_lower_expressions.specs.Programs.{lower_expressions_program}
use Rattle.cc_lower_statements.specs.Statements.{lower_program}

pub returns-clause-ids : goal.returns-clause-ids
returns-clause-ids c =
    let few : list_all has_ids c.in_ok-p-3.p.funcs ≡ true = search rules in
    ids_of c.number_program.result c.args.p c.in_ok-p-3.p (c.in_ok-p-3.ensures.exact ∙ ap lower_expressions_program (c.in_ok-p-2.ensures.exact ∙ ap lower_program c.in_ok-p.ensures.exact)) few
