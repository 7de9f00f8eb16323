-- By the ends of the set.
use Rattle.std.proofs.Common.{sym, ◌∙◌, subst}
use Rattle.std.specs.Option.{IfSome}
use Rattle.cc_rules_flows.specs.CcLattice.Domains.{AreEnds}
use Rattle.cc_rules_flows.specs.CcStateOperators.Domains.{domain}
use Rattle.cc_rules_tests.proofs.Operands.{both_ends, first_end}
use Rattle.cc_rules_tests.proofs.operand.are_values.Goals as goal

pub returns-then-contains : goal.returns-then-contains
returns-then-contains g c =
    let x = c.args.x.now in
    let low = c.in-Some.low in
    let high = c.in-Some.high in
    let e : AreEnds (g.I.Concrete.Has x) (low, high) = subst (λ b. IfSome b (AreEnds (g.I.Concrete.Has x))) (sym c.bounds.ensures ∙ c.in-Some.is) (g.met.I.IntDomain.bounds_ends x) in
    both_ends (domain g.I.Concrete.Has g.I.Lattice.IsBelow g.I.IntDomain.OpGives g.I.IntDomain.OpOneGives g.I.IntDomain.ToGives g.I.IntDomain.KeepGives g.I.IntDomain.members_of) c.args.t c.args.target.now x low high c.contains.result c.contains-then-contains.result e (g.met.I.IntDomain.in_reach x low e.low_in) (g.met.I.IntDomain.in_reach x high e.high_in) c.contains.ensures c.contains-then-contains.ensures c.if-contains.true

pub returns-else-contains : goal.returns-else-contains
returns-else-contains g c =
    let x = c.args.x.now in
    let low = c.in-Some.low in
    let high = c.in-Some.high in
    let e : AreEnds (g.I.Concrete.Has x) (low, high) = subst (λ b. IfSome b (AreEnds (g.I.Concrete.Has x))) (sym c.bounds.ensures ∙ c.in-Some.is) (g.met.I.IntDomain.bounds_ends x) in
    first_end (domain g.I.Concrete.Has g.I.Lattice.IsBelow g.I.IntDomain.OpGives g.I.IntDomain.OpOneGives g.I.IntDomain.ToGives g.I.IntDomain.KeepGives g.I.IntDomain.members_of) c.args.t c.args.target.now x low high c.contains.result e (g.met.I.IntDomain.in_reach x low e.low_in) c.contains.ensures c.if-contains.false
