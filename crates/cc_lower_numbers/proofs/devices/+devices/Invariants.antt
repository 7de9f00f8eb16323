use Rattle.std.proofs.Common.{◌≡◌, ◌++◌, take}
use Rattle.std.specs.List.{flat_map}
use Rattle.cc_program.specs.declared.stmt.Case.{out-Case}
use Rattle.cc_syntax.specs.Normal.{devices_in}
use Rattle.cc_lower_numbers.proofs.devices.+devices.Given as goal

abbrev pub invariant-put_list-loop-s : goal.invariant-put_list-loop-s
invariant-put_list-loop-s l = l.numbers.items ≡ l.initial.numbers.items ++ devices_in (take l.s-index l.s-items)

abbrev pub invariant-put_cases-loop-case : goal.invariant-put_cases-loop-case
invariant-put_cases-loop-case l = l.numbers.items ≡ l.initial.numbers.items ++ flat_map (λ c. devices_in (out-Case c).body) (take l.case-index l.case-items)
