use Rattle.std.proofs.Common.{◌++◌, [], map, cond, append-nil, sym, ap, ◌∙◌}
use Rattle.std.proofs.lemmas.Result.{on_ok_weaker}
use Rattle.cc_rules_asked.specs.CcRules.Constraints.{Back}
use Rattle.cc_rules_again.specs.Again.{number_at}
use Rattle.cc_rules_readers.specs.Points.{points_that, may_call_in}
use Rattle.cc_rules_readers.proofs.asking.put_return_readers.Goals as goal

pub returns-then-returns : goal.returns-then-returns
returns-then-returns c = on_ok_weaker c.put_callers.result (λ h. h ∙ ap (λ b. c.args.list.now.items ++ cond b (map (number_at Back) (points_that c.args.index.now.deeds (may_call_in c.args.func))) []) (sym c.if-returns.true)) c.put_callers.ensures

pub returns-else-returns : goal.returns-else-returns
returns-else-returns c = sym (append-nil c.args.list.now.items) ∙ ap (λ b. c.args.list.now.items ++ cond b (map (number_at Back) (points_that c.args.index.now.deeds (may_call_in c.args.func))) []) (sym c.if-returns.false)
