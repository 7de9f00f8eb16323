-- What is known of the point, and of the context.
use Rattle.std.proofs.lemmas.Result.{IfOk-weaker}
use Rattle.cc_state_reads.specs.CcStateOperators.Domains.{domain}
use Rattle.cc_state_reads.specs.CcStateValues.Values.{IsVal}
use Rattle.cc_state.proofs.Contexts.{from_context, context_sized, context_sets, context_pure}
use Rattle.cc_state.proofs.points.value_by.Goals as goal

pub func_at-func-requires-clause-there : goal.func_at-func-requires-clause-there
func_at-func-requires-clause-there g c = let (q, f, k, pure) = c.requires.pure in (f, (q, k))

pub registers-requires : goal.registers-requires
registers-requires g c = c.requires.few c.func_at-func.ensures.0 c.func_at-func.result.now c.func_at-func.ensures.1

pub value_of-value-requires-clause-sized : goal.value_of-value-requires-clause-sized
value_of-value-requires-clause-sized g c = context_sized c.args.p.now c.args.facts.now c.args.point c.func_at-func.result.now c.context_at-c.result c.context_at-c.ensures c.requires.sized

pub value_of-value-requires-clause-sets : goal.value_of-value-requires-clause-sets
value_of-value-requires-clause-sets g c = context_sets c.args.p.now c.args.facts.now c.args.point c.func_at-func.result.now c.context_at-c.result c.context_at-c.ensures (domain g.I.Concrete.Has g.I.Lattice.IsBelow g.I.IntDomain.OpGives g.I.IntDomain.OpOneGives g.I.IntDomain.ToGives g.I.IntDomain.KeepGives g.I.IntDomain.members_of) c.requires.sets

pub value_of-value-requires-clause-pure : goal.value_of-value-requires-clause-pure
value_of-value-requires-clause-pure g c = context_pure c.args.p.now c.args.facts.now c.args.point c.func_at-func.result.now c.context_at-c.result c.context_at-c.ensures c.args.e.now c.requires.pure

pub returns : goal.returns
returns g c =
    IfOk-weaker c.value_of-value.result _ _
    (λ y k. (c.context_at-c.ensures.point, c.func_at-func.result.now, c.context_at-c.ensures.there, from_context c.args.p.now c.args.facts.now c.args.point c.func_at-func.result.now c.context_at-c.result c.context_at-c.ensures (λ p id f register. IsVal (domain g.I.Concrete.Has g.I.Lattice.IsBelow g.I.IntDomain.OpGives g.I.IntDomain.OpOneGives g.I.IntDomain.ToGives g.I.IntDomain.KeepGives g.I.IntDomain.members_of) p id f register c.args.e.now y) k)) c.value_of-value.ensures.value
