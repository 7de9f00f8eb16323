use Rattle.std.proofs.Common.{◌≡◌, ◌++◌, true, false, List, [], map, cond, append-nil, slice_get, sym, ap, ◌∙◌}
use Rattle.std.proofs.lemmas.Result.{on_ok_weaker}
use Rattle.cc_rules_asked.specs.CcRules.Constraints.{Back}
use Rattle.cc_rules_again.specs.Again.{number_at}
use Rattle.cc_rules_functions.specs.declared.functions.Function.{Function}
use Rattle.cc_rules_readers.specs.Points.{points_that, may_call_in, ends_at}
use Rattle.cc_rules_readers.proofs.points.put_behind.Goals as goal

pub returns-then-is_exit : goal.returns-then-is_exit
returns-then-is_exit c =
    let t : true ≡ ends_at c.args.point (slice_get c.args.rules.now.functions c.args.g) = c.if-is_exit.ensures ∙ ap (λ (fs : List Function). ends_at c.args.point (slice_get fs c.args.g)) c.all-functions.ensures in
    on_ok_weaker c.put_callers.result (λ h. h ∙ ap (λ b. c.args.list.now.items ++ cond b (map (number_at Back) (points_that c.args.index.now.deeds (may_call_in c.args.g))) []) t) c.put_callers.ensures

pub returns-else-is_exit : goal.returns-else-is_exit
returns-else-is_exit c =
    let t : false ≡ ends_at c.args.point (slice_get c.args.rules.now.functions c.args.g) = c.if-is_exit.ensures ∙ ap (λ (fs : List Function). ends_at c.args.point (slice_get fs c.args.g)) c.all-functions.ensures in
    sym (append-nil c.args.list.now.items) ∙ ap (λ b. c.args.list.now.items ++ cond b (map (number_at Back) (points_that c.args.index.now.deeds (may_call_in c.args.g))) []) t
