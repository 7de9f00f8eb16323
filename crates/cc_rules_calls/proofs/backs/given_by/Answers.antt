use Rattle.std.proofs.Common.{Some, refl, subst, sym}
use Rattle.cc_rules_calls.specs.Backs.{IsGivenHere, MayGetHere}
use Rattle.cc_rules_calls.proofs.backs.given_by.Goals as goal
use Rattle.cc_state_points.specs.CcStateOperators.Domains.{domain}

pub result_of-requires : goal.result_of-requires
result_of-requires g c =
    let gets = subst (λ register. MayGetHere (domain g.I.Concrete.Has g.I.Lattice.IsBelow g.I.IntDomain.OpGives g.I.IntDomain.OpOneGives g.I.IntDomain.ToGives g.I.IntDomain.KeepGives g.I.IntDomain.members_of) c.args.here.now register c.args.id c.args.function.now) c.in-Some.is c.requires.gets in
    record { function = c.requires.function; there = gets.1; kind = gets.2 }

pub register_of-requires : goal.register_of-requires
register_of-requires g c =
    let gets = subst (λ register. MayGetHere (domain g.I.Concrete.Has g.I.Lattice.IsBelow g.I.IntDomain.OpGives g.I.IntDomain.OpOneGives g.I.IntDomain.ToGives g.I.IntDomain.KeepGives g.I.IntDomain.members_of) c.args.here.now register c.args.id c.args.function.now) c.in-Some.is c.requires.gets in
    record { registers = c.requires.registers; few = c.requires.few; is = gets.0 }

pub returns-in_ok-set-in-Some : goal.returns-in_ok-set-in-Some
returns-in_ok-set-in-Some g c =
    subst (λ register. IsGivenHere (domain g.I.Concrete.Has g.I.Lattice.IsBelow g.I.IntDomain.OpGives g.I.IntDomain.OpOneGives g.I.IntDomain.ToGives g.I.IntDomain.KeepGives g.I.IntDomain.members_of) c.args.here.now register c.args.id c.args.function.now.func.now (Some (c.register_of.result, c.in_ok-set-in-Some.set))) (sym c.in-Some.is)
    (c.register_of.result, c.in_ok-set-in-Some.set, c.register_of.ensures.within, c.register_of.ensures.number, c.in_ok-set-in-Some.ensures, refl)
