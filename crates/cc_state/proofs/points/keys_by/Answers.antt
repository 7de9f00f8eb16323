-- What is known of the point, and of the context.
use Rattle.std.proofs.Common.{ap, sym, ◌∙◌}
use Rattle.std.proofs.lemmas.Result.{IfOk-weaker}
use Rattle.cc_state_reads.specs.CcStateKeys.Keys.{keys_of}
use Rattle.cc_state_reads.specs.CcStateOperators.Domains.{domain}
use Rattle.cc_state_reads.specs.Reads.{AreNamed}
use Rattle.cc_state.proofs.Contexts.{from_context, context_sized, context_sets, context_place}
use Rattle.cc_state.proofs.points.keys_by.Goals as goal

pub func_at-func-requires-clause-there : goal.func_at-func-requires-clause-there
func_at-func-requires-clause-there g c = let (q, f, k, pure) = c.requires.pure in (f, (q, k))

pub registers-requires : goal.registers-requires
registers-requires g c = c.requires.few c.func_at-func.ensures.0 c.func_at-func.result.now c.func_at-func.ensures.1

pub keys_named-keys-requires-clause-sized : goal.keys_named-keys-requires-clause-sized
keys_named-keys-requires-clause-sized g c = context_sized c.args.p.now c.args.facts.now c.args.point c.func_at-func.result.now c.context_at-c.result c.context_at-c.ensures c.requires.sized

pub keys_named-keys-requires-clause-sets : goal.keys_named-keys-requires-clause-sets
keys_named-keys-requires-clause-sets g c = context_sets c.args.p.now c.args.facts.now c.args.point c.func_at-func.result.now c.context_at-c.result c.context_at-c.ensures (domain g.I.Concrete.Has g.I.Lattice.IsBelow g.I.IntDomain.OpGives g.I.IntDomain.OpOneGives g.I.IntDomain.ToGives g.I.IntDomain.KeepGives g.I.IntDomain.members_of) c.requires.sets

pub keys_named-keys-requires-clause-pure : goal.keys_named-keys-requires-clause-pure
keys_named-keys-requires-clause-pure g c = context_place c.args.p.now c.args.facts.now c.args.point c.func_at-func.result.now c.context_at-c.result c.context_at-c.ensures c.args.place.now c.requires.pure

pub keys_named-keys-requires-clause-keys : goal.keys_named-keys-requires-clause-keys
keys_named-keys-requires-clause-keys g c = c.all.ensures ∙ (c.requires.keys ∙ ap keys_of (sym c.context_at-c.ensures.program))

pub returns : goal.returns
returns g c =
    IfOk-weaker c.keys_named-keys.result _ _
    (λ keys k. (c.context_at-c.ensures.point, c.func_at-func.result.now, c.context_at-c.ensures.there, from_context c.args.p.now c.args.facts.now c.args.point c.func_at-func.result.now c.context_at-c.result c.context_at-c.ensures (λ p id f register. AreNamed (domain g.I.Concrete.Has g.I.Lattice.IsBelow g.I.IntDomain.OpGives g.I.IntDomain.OpOneGives g.I.IntDomain.ToGives g.I.IntDomain.KeepGives g.I.IntDomain.members_of) p id f register c.args.place.now keys) k)) c.keys_named-keys.ensures
