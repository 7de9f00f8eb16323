use Rattle.std.proofs.Common.{◌≡◌, ◌++◌, map, Some}
use Rattle.cc_eval.proofs.progress.all_good.Given as goal

abbrev pub invariant-loop-value : goal.invariant-loop-value
invariant-loop-value l =
    (goal.iterator-loop-value).can_next l.value-iterator ×
    (goal.iterator-loop-value).is_finite l.value-iterator ×
    (l.yielded ≡ map Some l.good.items) ×
    (l.fn.values ≡ map Some l.good.items ++ l.value-iterator.rest.items)
