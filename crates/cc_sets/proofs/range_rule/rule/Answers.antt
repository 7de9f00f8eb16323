-- All between the ends are operands.
use Rattle.cc_sets.proofs.Bounds as at
use Rattle.cc_sets.proofs.range_rule.rule.Goals as goal

pub op-span-requires : goal.op-span-requires
op-span-requires c = at.span_operands c.args.op c.args.a c.args.b c.args.t c.args.target.now c.requires.promotion c.requires.first c.requires.second
