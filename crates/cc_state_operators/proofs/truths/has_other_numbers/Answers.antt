-- By the ends of the set.
use Rattle.std.proofs.Common.{sym, ◌∙◌, subst}
use Rattle.std.specs.Option.{IfSome}
use Rattle.cc_lattice.specs.Domains.{AreEnds}
use Rattle.cc_state_operators.specs.Domains.{domain}
use Rattle.cc_state_operators.proofs.Exact.{ends_read}
use Rattle.cc_state_operators.proofs.Tests.{ends_true}
use Rattle.cc_state_operators.proofs.truths.has_other_numbers.Goals as goal

pub returns-in-Some : goal.returns-in-Some
returns-in-Some g c =
    let d = domain g.I.Concrete.Has g.I.Lattice.IsBelow g.I.IntDomain.OpGives g.I.IntDomain.OpOneGives g.I.IntDomain.ToGives g.I.IntDomain.KeepGives g.I.IntDomain.members_of in
    let x = c.args.numbers.now in
    let low = c.in-Some.low in
    let high = c.in-Some.high in
    let e : AreEnds (g.I.Concrete.Has x) (low, high) = subst (λ b. IfSome b (AreEnds (g.I.Concrete.Has x))) (sym c.bounds.ensures ∙ c.in-Some.is) (g.met.I.IntDomain.bounds_ends x) in
    ends_true d x low high c.leaves_zero.result e (ends_read low high c.leaves_zero.result (g.met.I.IntDomain.in_reach x low e.low_in) (g.met.I.IntDomain.in_reach x high e.high_in) c.leaves_zero.ensures)
