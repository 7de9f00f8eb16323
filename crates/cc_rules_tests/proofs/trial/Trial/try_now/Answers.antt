-- What was worked is kept behind what was tried before.
use Rattle.std.proofs.Common.{All, refl, sym, subst}
use Rattle.std.proofs.lemmas.List.Elements.{All-push}
use Rattle.cc_rules_tests.specs.Trials.{AreGivenAt, IsTried, IsTriedAt}
use Rattle.cc_rules_flows.specs.CcStateOperators.Domains.{domain}
use Rattle.cc_rules_tests.proofs.trial.Trial.try_now.Goals as goal

pub values_at-requires : goal.values_at-requires
values_at-requires g c = record { sized = c.requires.sized; sets = c.requires.sets; pure = c.requires.pure; changed = c.requires.trial.changed; holds = c.requires.holds }

pub returns : goal.returns
returns g c =
    let d = (domain g.I.Concrete.Has g.I.Lattice.IsBelow g.I.IntDomain.OpGives g.I.IntDomain.OpOneGives g.I.IntDomain.ToGives g.I.IntDomain.KeepGives g.I.IntDomain.members_of) in
    let p = c.args.c.now in
    let e = c.args.e.now in
    let made = c.in_ok-tried.ensures in
    let given = subst (λ ns. AreGivenAt d p e c.args.r ns c.in_ok-values.values.items) (sym c.in_ok-numbers.ensures.items) c.in_ok-values.ensures.given in
    let tried = subst (λ t. IsTried d p e t) (sym made) given in
    let kept = subst (λ t. IsTried d p e t) (sym c.in_ok-kept.ensures) tried in
    record {
      trial = record {
        changed = c.values_at.ensures.changed;
        whole = c.requires.trial.whole;
        tried = subst (λ ts. All (IsTried d p e) ts) (sym c.in_ok-push.ensures.items) (All-push (IsTried d p e) _ c.in_ok-kept.kept c.requires.trial.tried kept);
      };
      at = subst (λ t. IsTriedAt c.args.r c.args.numbers.now t) (sym made) (record { register = refl; numbers = c.in_ok-numbers.ensures.items });
      tried = tried;
    }
