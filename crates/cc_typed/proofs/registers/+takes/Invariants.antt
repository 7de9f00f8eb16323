use Rattle.std.proofs.Common.{◌≡◌, take, map, false}
use Rattle.std.specs.List.{list_any}
use Rattle.cc_syntax.specs.Registers.{is_address_taken}
use Rattle.cc_typed.proofs.registers.+takes.Given as goal

abbrev pub invariant-any_address_taken-loop-arg : goal.invariant-any_address_taken-loop-arg
invariant-any_address_taken-loop-arg l = list_any (λ b. b) (map (is_address_taken l.local) (take l.arg-index l.arg-items)) ≡ false
