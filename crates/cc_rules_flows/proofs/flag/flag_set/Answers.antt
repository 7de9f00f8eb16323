use Rattle.std.proofs.Common.{pos, true, refl}
use Rattle.std.proofs.lemmas.Result.{IfOk-weaker}
use Rattle.cc_state_reads.specs.CcStateOperators.Domains.{domain}
use Rattle.cc_rules_flows.proofs.FlagLemmas.{as_told, both}
use Rattle.cc_rules_flows.proofs.flag.flag_set.Goals as goal

pub returns-then-on : goal.returns-then-on
returns-then-on g c =
    let d = domain g.I.Concrete.Has g.I.Lattice.IsBelow g.I.IntDomain.OpGives g.I.IntDomain.OpOneGives g.I.IntDomain.ToGives g.I.IntDomain.KeepGives g.I.IntDomain.members_of in
    let a = c.one-cleared.result in
    let b = c.one-set.result in
    IfOk-weaker c.join.result _ _
    (λ j l. as_told d c.args.off c.args.on true true j c.if-off.true c.if-on.true
    (both d a b j g.met.I.IntDomain.below_has ((c.one-cleared.ensures.has (pos 0)).1 refl) ((c.one-set.ensures.has (pos 1)).1 refl) c.one-cleared.ensures.least c.one-set.ensures.least l.left l.right
    (λ u m n. l.least u (g.met.I.IntDomain.all_alike a u) (g.met.I.IntDomain.all_alike b u) m n)))
    c.join.ensures
