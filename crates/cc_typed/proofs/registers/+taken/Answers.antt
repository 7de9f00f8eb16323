use Rattle.std.proofs.Common.{rules, ◌≡◌, false}
use Rattle.cc_syntax.specs.Registers.{is_address_taken}
use Rattle.cc_typed.proofs.SwitchLemmas.{switch_taken}
use Rattle.cc_typed.proofs.registers.+taken.Goals as goal

pub is_taken_in-returns-else-is_address_taken-3 : goal.is_taken_in-returns-else-is_address_taken-3
is_taken_in-returns-else-is_address_taken-3 t c =
    let none : is_address_taken c.args.local c.in-Switch.e ≡ false = search rules in
    switch_taken c.args.local c.args.s.now c.in-Switch.e c.in-Switch.cases c.any_case_taken.result c.in-Switch.is none c.any_case_taken.ensures
