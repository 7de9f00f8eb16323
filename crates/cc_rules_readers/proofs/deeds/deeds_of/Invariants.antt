use Rattle.std.proofs.Common.{take}
use Rattle.std.specs.List.{AllZip}
use Rattle.cc_rules_readers.specs.View.{IsDeedAt}
use Rattle.cc_rules_readers.proofs.deeds.deeds_of.Given as goal

abbrev pub invariant-loop-point : goal.invariant-loop-point
invariant-loop-point l = AllZip (IsDeedAt l.rules.program.now) (take l.point-index l.point-items) l.deeds.items
