use Rattle.std.proofs.Common.{◌≡◌, ◌++◌, take}
use Rattle.std.specs.List.{flat_map}
use Rattle.cc_lower_accesses.specs.Assigned.{registers_in}
use Rattle.cc_lower_accesses.proofs.body.Body.+assigns.Given as goal

abbrev pub invariant-put_all_registers-loop-e : goal.invariant-put_all_registers-loop-e
invariant-put_all_registers-loop-e l = l.out.items ≡ l.fn.out.items ++ flat_map (registers_in l.self.func.now) (take l.e-index l.es)
