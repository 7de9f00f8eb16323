-- Nothing has been tried yet.
use Rattle.std.proofs.Common.{All, sym, subst}
use Rattle.std.proofs.lemmas.List.Elements.{All-nil}
use Rattle.cc_rules_tests.specs.Trials.{IsTried}
use Rattle.cc_rules_flows.specs.CcStateOperators.Domains.{domain}
use Rattle.cc_rules_tests.proofs.trial.Trial.new.Goals as goal

pub returns : goal.returns
returns g c =
    let d = (domain g.I.Concrete.Has g.I.Lattice.IsBelow g.I.IntDomain.OpGives g.I.IntDomain.OpOneGives g.I.IntDomain.ToGives g.I.IntDomain.KeepGives g.I.IntDomain.members_of) in
    let tried = IsTried d c.args.c.now c.args.e.now in
    record { changed = c.in_ok-changed.ensures; whole = c.in_ok-whole.ensures.value; tried = subst (λ ts. All tried ts) (sym c.new-tried.ensures.items) (All-nil tried) }
