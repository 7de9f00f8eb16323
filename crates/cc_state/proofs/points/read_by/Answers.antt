-- What is known of the point, and of the context.
use Rattle.std.proofs.Common.{ℕ, List, ◌<◌, length, ap, sym, ◌∙◌, subst}
use Rattle.std.proofs.lemmas.Result.{IfOk-weaker}
use Rattle.cc_state_reads.specs.CcStateKeys.Keys.{keys_of}
use Rattle.cc_state_reads.specs.CcStateKeys.Tracked.{tracked}
use Rattle.cc_state_reads.specs.CcStateOperators.Domains.{domain}
use Rattle.cc_state_reads.specs.Reads.{IsRead}
use Rattle.cc_state.proofs.Contexts.{from_context, context_sized, context_sets, context_kinds, read_place, context_scalar}
use Rattle.cc_state.proofs.points.read_by.Goals as goal

pub func_at-func-requires-clause-there : goal.func_at-func-requires-clause-there
func_at-func-requires-clause-there g c = let (q, f, k, pure, reads) = c.requires.read in (f, (q, k))

pub registers-requires : goal.registers-requires
registers-requires g c = c.requires.few c.func_at-func.ensures.0 c.func_at-func.result.now c.func_at-func.ensures.1

pub read_of-value-requires-clause-sized : goal.read_of-value-requires-clause-sized
read_of-value-requires-clause-sized g c = context_sized c.args.p.now c.args.facts.now c.args.point c.func_at-func.result.now c.context_at-c.result c.context_at-c.ensures c.requires.sized

pub read_of-value-requires-clause-sets : goal.read_of-value-requires-clause-sets
read_of-value-requires-clause-sets g c = context_sets c.args.p.now c.args.facts.now c.args.point c.func_at-func.result.now c.context_at-c.result c.context_at-c.ensures (domain g.I.Concrete.Has g.I.Lattice.IsBelow g.I.IntDomain.OpGives g.I.IntDomain.OpOneGives g.I.IntDomain.ToGives g.I.IntDomain.KeepGives g.I.IntDomain.members_of) c.requires.sets

pub read_of-value-requires-clause-pure : goal.read_of-value-requires-clause-pure
read_of-value-requires-clause-pure g c = read_place c.args.p.now c.args.facts.now c.args.point c.func_at-func.result.now c.context_at-c.result c.context_at-c.ensures c.args.place.now c.requires.read

pub read_of-value-requires-clause-scalar : goal.read_of-value-requires-clause-scalar
read_of-value-requires-clause-scalar g c = context_scalar c.args.p.now c.args.facts.now c.args.point c.func_at-func.result.now c.context_at-c.result c.context_at-c.ensures c.args.place.now c.requires.read

pub read_of-value-requires-clause-keys : goal.read_of-value-requires-clause-keys
read_of-value-requires-clause-keys g c = c.requires.keys ∙ ap keys_of (sym c.context_at-c.ensures.program)

pub read_of-value-requires-clause-tracked : goal.read_of-value-requires-clause-tracked
read_of-value-requires-clause-tracked g c = c.requires.tracked ∙ ap tracked (sym c.context_at-c.ensures.program)

pub read_of-value-requires-clause-reached : goal.read_of-value-requires-clause-reached
read_of-value-requires-clause-reached g c = λ cell l. c.requires.cells cell (subst (λ (xs : List ℕ). cell < length xs) c.requires.tracked l)

pub read_of-value-requires-clause-kinds : goal.read_of-value-requires-clause-kinds
read_of-value-requires-clause-kinds g c = context_kinds c.args.p.now c.args.facts.now c.args.point c.func_at-func.result.now c.context_at-c.result c.context_at-c.ensures (domain g.I.Concrete.Has g.I.Lattice.IsBelow g.I.IntDomain.OpGives g.I.IntDomain.OpOneGives g.I.IntDomain.ToGives g.I.IntDomain.KeepGives g.I.IntDomain.members_of) c.args.place.now c.requires.kinds

pub returns : goal.returns
returns g c =
    IfOk-weaker c.read_of-value.result _ _
    (λ y k. (c.context_at-c.ensures.point, c.func_at-func.result.now, c.context_at-c.ensures.there, from_context c.args.p.now c.args.facts.now c.args.point c.func_at-func.result.now c.context_at-c.result c.context_at-c.ensures (λ p id f register. IsRead (domain g.I.Concrete.Has g.I.Lattice.IsBelow g.I.IntDomain.OpGives g.I.IntDomain.OpOneGives g.I.IntDomain.ToGives g.I.IntDomain.KeepGives g.I.IntDomain.members_of) p id f register c.args.facts.now c.args.point c.args.place.now y) k)) c.read_of-value.ensures
