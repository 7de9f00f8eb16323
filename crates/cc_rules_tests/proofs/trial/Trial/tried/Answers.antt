-- What was kept, or what is worked now.
use Rattle.std.proofs.Common.{subst}
use Rattle.std.specs.List.{Contains}
use Rattle.std.specs.Option.{IfSome}
use Rattle.std.proofs.lemmas.List.Elements.{All-contains}
use Rattle.cc_rules_tests.specs.Trials.{IsTried, IsTriedAt}
use Rattle.cc_rules_flows.specs.CcStateOperators.Domains.{domain}
use Rattle.cc_rules_tests.proofs.trial.Trial.tried.Goals as goal

pub returns-in-Some : goal.returns-in-Some
returns-in-Some g c =
    let d = (domain g.I.Concrete.Has g.I.Lattice.IsBelow g.I.IntDomain.OpGives g.I.IntDomain.OpOneGives g.I.IntDomain.ToGives g.I.IntDomain.KeepGives g.I.IntDomain.members_of) in
    let t = c.in-Some.tried in
    let there = subst (λ found. IfSome found (λ t. Contains c.as_slice.result.now t × IsTriedAt c.args.r c.args.numbers.now t)) c.in-Some.is c.in_ok-found.ensures.there in
    record {
      trial = c.requires.trial;
      at = there.1;
      tried = All-contains (IsTried d c.args.c.now c.args.e.now) _ t c.requires.trial.tried (subst (λ ts. Contains ts t) c.as_slice.ensures.value there.0);
    }

pub try_now-requires : goal.try_now-requires
try_now-requires g c = record { sized = c.requires.sized; sets = c.requires.sets; pure = c.requires.pure; trial = c.requires.trial; holds = c.requires.holds }
