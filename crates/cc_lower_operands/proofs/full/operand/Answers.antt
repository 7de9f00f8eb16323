use Rattle.cc_lower_accesses.specs.Assigned.{among}
use Rattle.cc_lower_accesses.specs.Modes.{operand_of}
use Rattle.cc_lower_operands.proofs.Steps.{value_given, locals_given, statements_given}
use Rattle.cc_lower_operands.proofs.full.operand.Goals as goal

pub returns : goal.returns
returns c =
    let make = operand_of c.args.body.program.now c.args.body.func.now c.args.e.now (among c.args.later.now) in
    record {
      value = value_given c.operand.result make _ _ _ _ c.operand.ensures;
      locals = locals_given c.operand.result make _ _ _ _ c.operand.ensures;
      statements = statements_given c.operand.result make _ _ _ _ c.operand.ensures;
    }
