use Rattle.std.proofs.Common.{◌≡◌, ℕ, take}
use Rattle.cc_state_keys.specs.Lists.{made_from}
use Rattle.cc_state_keys.proofs.numbers.registers_by.Given as goal
use Rattle.cc_eval.specs.CcSyntax.Registers.{is_register}
use Rattle.cc_eval.specs.CcSyntax.Types.{Named}

abbrev pub invariant-loop-r : goal.invariant-loop-r
invariant-loop-r l = l.registers.items ≡ made_from (λ (r : ℕ) (local : Named). is_register l.f r) (λ (n : ℕ). n) 0 (take l.r l.f.locals)
