use Rattle.std.proofs.Common.{arith, ◌≡◌, ◌++◌, ◌∙◌, ap}
use Rattle.std.proofs.lemmas.Grind.{common_steps}
use Rattle.cc_lower_accesses.specs.Assigned.{among, registers_in}
use Rattle.cc_lower_accesses.proofs.AssignedLemmas.{among-with}
use Rattle.cc_lower_accesses.proofs.body.Body.with.Goals as goal

pub returns : goal.returns
returns c =
    let e : c.put_registers.new.out.items ≡ c.args.later.now ++ registers_in c.args.self.func.now c.args.e.now = grind (arith, common_steps) in
    ap among e ∙ among-with c.args.self.func.now c.args.later.now c.args.e.now
