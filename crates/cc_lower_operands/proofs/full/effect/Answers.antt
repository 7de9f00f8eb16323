use Rattle.cc_lower_accesses.specs.Assigned.{among}
use Rattle.cc_lower_accesses.specs.Modes.{effect_of}
use Rattle.cc_lower_operands.proofs.Steps.{locals_given, statements_given}
use Rattle.cc_lower_operands.proofs.full.effect.Goals as goal

pub returns : goal.returns
returns c =
    let make = effect_of c.args.body.program.now c.args.body.func.now c.args.e.now (among c.args.later.now) in
    record {
      locals = locals_given c.effect.result make _ _ _ _ c.effect.ensures;
      statements = statements_given c.effect.result make _ _ _ _ c.effect.ensures;
    }
