-- By the bounds.
use Rattle.std.proofs.Common.{◌↔◌, IsTrue, is_some, ap, sym, subst, ◌∙◌}
use Rattle.cc_rules_sides.specs.Refined.{HasNumber}
use Rattle.cc_rules_sides.proofs.Emptied.{some_ends}
use Rattle.cc_rules_flows.specs.CcStateOperators.Domains.{domain}
use Rattle.cc_rules_sides.proofs.locals.has_number.Goals as goal

pub returns : goal.returns
returns g c =
    let d = (domain g.I.Concrete.Has g.I.Lattice.IsBelow g.I.IntDomain.OpGives g.I.IntDomain.OpOneGives g.I.IntDomain.ToGives g.I.IntDomain.KeepGives g.I.IntDomain.members_of) in
    let x = c.args.x.now in
    let told = some_ends d x (g.I.IntDomain.bounds_of x) (g.met.I.IntDomain.bounds_none x) (g.met.I.IntDomain.bounds_ends x) in
    subst (λ b. IsTrue b ↔ HasNumber d x) (sym (c.is_some.ensures ∙ ap is_some c.bounds.ensures)) told
