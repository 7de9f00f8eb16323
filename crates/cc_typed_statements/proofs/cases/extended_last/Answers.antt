use Rattle.std.proofs.Common.{◌∙◌, sym}
use Rattle.cc_typed_statements.specs.Labels.{with_statements}
use Rattle.cc_typed_statements.proofs.Last.{at_last-pushed}
use Rattle.cc_typed_statements.proofs.cases.extended_last.Goals as goal

pub returns-in_ok-push-in-Some : goal.returns-in_ok-push-in-Some
returns-in_ok-push-in-Some c =
    c.of-in-Some.ensures
    ∙ at_last-pushed (with_statements c.args.statements) c.args.cases c.pop.new.self.items c.push.new.self.items c.in-Some.last c.in_ok-changed-in-Some.changed (sym c.into_vec-cases.ensures ∙ c.in-Some.ensures.items) c.in_ok-changed-in-Some.ensures c.in_ok-push-in-Some.ensures.items
