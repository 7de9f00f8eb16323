use Rattle.std.proofs.Common.{take}
use Rattle.std.specs.List.{Contains}
use Rattle.cc_rules_tests.specs.Trials.{IsTriedAt}
use Rattle.cc_rules_tests.specs.declared.tried.Tried.{Tried}
use Rattle.cc_rules_tests.proofs.tried.tried_at.Given as goal

abbrev pub invariant-loop-tried : goal.invariant-loop-tried
invariant-loop-tried g l = (t : Tried g.row.I.Denot) → Contains (take l.tried-index l.all) t → IsTriedAt l.r l.numbers t → ⊥
