use Rattle.std.proofs.Common.{arith, ◌≡◌, length, ap, ◌∙◌}
use Rattle.cc_state.specs.Shape.{IsKeyType}
use Rattle.cc_state_reads.specs.CcStateKeys.Keys.{keys_of}
use Rattle.cc_state_reads.specs.CcStateOperators.Domains.{domain}
use Rattle.cc_state_shaped.proofs.Tests.{so_many}
use Rattle.cc_state_shaped.proofs.shape.have_key_sets.Goals as goal

pub returns-then-sets-all : goal.returns-then-sets-all
returns-then-sets-all g c =
    let d = domain g.I.Concrete.Has g.I.Lattice.IsBelow g.I.IntDomain.OpGives g.I.IntDomain.OpOneGives g.I.IntDomain.ToGives g.I.IntDomain.KeepGives g.I.IntDomain.members_of in
    let p = c.args.layout.now.program.now in
    let count : length c.all-sets.result.now ≡ length (keys_of p) = omega (arith, c.if-sets-all.true, ap length (c.all.ensures ∙ c.requires.keys)) in
    so_many d p (IsKeyType d p) c.args.facts.now.whole c.all-sets.result.now (length (keys_of p)) c.all-sets.ensures c.are_key_sets.result count c.are_key_sets.ensures
