use Rattle.std.proofs.Common.{◌≡◌, map}
use Rattle.cc_rules_again.specs.Again.{is_unstable}
use Rattle.cc_rules_asked.specs.CcRulesNeeds.Flowing.{numbers}
use Rattle.cc_rules_readers.specs.View.{named_view}
use Rattle.cc_rules_readers.proofs.stability.unstable_functions.Given as goal

abbrev pub invariant-loop-func : goal.invariant-loop-func
invariant-loop-func g l = l.unstable.items ≡ map (is_unstable l.rules.program.now l.facts (named_view l.fn.keys)) (numbers 0 l.func)
