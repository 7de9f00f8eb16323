use Rattle.std.proofs.Common.{◌≡◌, false, map, take}
use Rattle.cc_print.specs.Units.{any_true, is_named_in}
use Rattle.cc_print.proofs.structures.+naming.Given as goal

abbrev pub invariant-is_named_in_any-loop-t : goal.invariant-is_named_in_any-loop-t
invariant-is_named_in_any-loop-t l = any_true (map (is_named_in l.id) (take l.t-index l.t-items)) ≡ false
