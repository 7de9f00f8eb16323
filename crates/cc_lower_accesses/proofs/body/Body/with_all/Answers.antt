use Rattle.std.proofs.Common.{arith, ◌≡◌, ◌++◌, ◌∙◌, ap}
use Rattle.std.specs.List.{flat_map}
use Rattle.std.proofs.lemmas.Grind.{common_steps}
use Rattle.cc_lower_accesses.specs.Assigned.{among, registers_in}
use Rattle.cc_lower_accesses.proofs.AssignedLemmas.{among-with-all}
use Rattle.cc_lower_accesses.proofs.body.Body.with_all.Goals as goal

pub returns : goal.returns
returns c =
    let e : c.put_all_registers.new.out.items ≡ c.args.later.now ++ flat_map (registers_in c.args.self.func.now) c.args.es.now = grind (arith, common_steps) in
    ap among e ∙ among-with-all c.args.self.func.now c.args.later.now c.args.es.now
