-- By the expression.
use Rattle.std.proofs.Common.{◌∙◌}
use Rattle.std.specs.Option.{option_copied}
use Rattle.cc_state_reads.specs.CcEval.View.{progress_of}
use Rattle.cc_state_holds.proofs.Results.{no_result, some_result}
use Rattle.cc_state_holds.proofs.pending.pending.Goals as goal
use Rattle.cc_steps.specs.View.{active_of}

pub returns-then-not-has_result : goal.returns-then-not-has_result
returns-then-not-has_result c = no_result c.args.p.now (active_of c.args.a.now) (option_copied c.expression-e.result) c.expression-e.ensures c.if-not-has_result.ensures

pub returns : goal.returns
returns c =
    c.written_next.ensures ∙ some_result c.args.p.now (active_of c.args.a.now) (option_copied c.expression-e.result) c.marks.result.now (progress_of c.in_ok-stage.stage) c.expression-e.ensures c.if-not-has_result.ensures c.marks.ensures c.in_ok-stage.ensures
