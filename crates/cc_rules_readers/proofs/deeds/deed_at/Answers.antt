use Rattle.std.proofs.Common.{◌≡◌, true, List, Bool, Some, is_some, slice_get, sym, subst, ◌∙◌}
use Rattle.cc_rules_functions.specs.declared.functions.Function.{Function}
use Rattle.cc_rules_here.proofs.Marked.{marks_kept}
use Rattle.cc_rules_readers.proofs.Doing.{function_there, marks_of_function, deed_made}
use Rattle.cc_rules_readers.proofs.deeds.deed_at.Goals as goal

pub function_at-function-requires : goal.function_at-function-requires
function_at-function-requires c =
    subst (λ (fs : List Function). is_some (slice_get fs c.args.point.now.func) ≡ true) (sym c.all-functions.ensures)
    (function_there c.args.rules.now.program.now c.requires.there.0 c.args.point.now c.requires.there.1 c.args.rules.now.functions c.requires.rules.functions)

pub marks_at-kept-requires : goal.marks_at-kept-requires
marks_at-kept-requires c =
    subst (λ (ms : List (List Bool)). is_some (slice_get ms c.args.point.now.func) ≡ true) (sym c.all-marks.ensures)
    (marks_of_function c.args.rules.now.program.now c.requires.there.0 c.args.point.now c.requires.there.1 c.args.rules.now.functions c.args.rules.now.marks c.function_at-function.result.now c.requires.rules.functions c.requires.rules.marks
    (subst (λ (fs : List Function). slice_get fs c.args.point.now.func ≡ Some c.function_at-function.result.now) c.all-functions.ensures c.function_at-function.ensures))

pub act_of-act-requires : goal.act_of-act-requires
act_of-act-requires c =
    marks_kept c.args.rules.now.program.now c.args.rules.now.marks c.args.point.now.func c.function_at-function.result.now.func.now c.marks_at-kept.result.now c.requires.rules.marks
    (let at : slice_get c.args.rules.now.functions c.args.point.now.func ≡ Some c.function_at-function.result.now =
    subst (λ (fs : List Function). slice_get fs c.args.point.now.func ≡ Some c.function_at-function.result.now) c.all-functions.ensures c.function_at-function.ensures in
    (c.requires.rules.functions.each c.args.point.now.func c.function_at-function.result.now at).func)
    (subst (λ (ms : List (List Bool)). slice_get ms c.args.point.now.func ≡ Some c.marks_at-kept.result.now) c.all-marks.ensures c.marks_at-kept.ensures)

pub returns : goal.returns
returns c =
    deed_made c.args.rules.now.program.now c.requires.there.0 c.args.point.now c.requires.there.1 c.args.rules.now.functions c.function_at-function.result.now c.all-tracked.result.now _ _ c.requires.rules.functions
    (subst (λ (fs : List Function). slice_get fs c.args.point.now.func ≡ Some c.function_at-function.result.now) c.all-functions.ensures c.function_at-function.ensures)
    (c.all-tracked.ensures ∙ c.requires.rules.tracked) c.act_of-act.ensures c.deed_of.ensures
