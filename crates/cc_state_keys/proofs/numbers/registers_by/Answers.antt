use Rattle.std.proofs.Common.{arith, ℕ, length, take_all, ap, ◌∙◌}
use Rattle.cc_state_keys.specs.Lists.{made_from}
use Rattle.cc_state_keys.proofs.Grown.{numbers_put}
use Rattle.cc_state_keys.proofs.numbers.registers_by.Goals as goal
use Rattle.cc_eval.specs.CcSyntax.Registers.{is_register}
use Rattle.cc_eval.specs.CcSyntax.Types.{Named}

pub loop-r-preserved : goal.loop-r-preserved
loop-r-preserved c =
    numbers_put (is_register c.args.f.now) (λ (n : ℕ). n) c.loop-r.registers.items c.put_if.new.items.items c.args.f.now.locals c.loop-r.r c.is_marked.result
    c.loop-r.invariant c.in_ok-put_if.ensures (c.is_marked.ensures ∙ c.requires.marks c.loop-r.r) (omega (arith, ap length c.all-r-end.ensures))

pub returns : goal.returns
returns c =
    c.loop-r.invariant
    ∙ ap (made_from (λ (r : ℕ) (local : Named). is_register c.args.f.now r) (λ (n : ℕ). n) 0) (take_all c.loop-r.r c.args.f.now.locals (omega (arith, ap length c.all-r-end.ensures)))
