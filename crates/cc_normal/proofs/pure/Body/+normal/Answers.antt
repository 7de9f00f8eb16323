use Rattle.std.proofs.Common.{rules, ◌≡◌, true}
use Rattle.cc_syntax.specs.Normal.{is_operand}
use Rattle.cc_normal.proofs.NormalLemmas.{switch_normal}
use Rattle.cc_normal.proofs.pure.Body.+normal.Goals as goal

pub is_normal-returns-then-is_operand-2 : goal.is_normal-returns-then-is_operand-2
is_normal-returns-then-is_operand-2 t c =
    let pure : is_operand c.args.self.target.now c.args.self.func.now c.in-Switch.e ≡ true = search rules in
    switch_normal c.args.self.target.now c.args.self.func.now c.args.s.now c.in-Switch.e c.in-Switch.cases c.are_normal_cases.result c.in-Switch.is pure c.are_normal_cases.ensures
