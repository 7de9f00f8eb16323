-- The set of the one number.
use Rattle.std.proofs.lemmas.Result.{IfOk-weaker}
use Rattle.cc_rules_tests.proofs.Least.{hull_one, number_read}
use Rattle.cc_rules_tests.proofs.Staying.{one_held, one_int}
use Rattle.cc_rules_flows.specs.CcStateOperators.Domains.{domain}
use Rattle.cc_rules_tests.proofs.changed.Changed.value_at.Goals as goal

pub value_with-requires : goal.value_with-requires
value_with-requires g c =
    let d = (domain g.I.Concrete.Has g.I.Lattice.IsBelow g.I.IntDomain.OpGives g.I.IntDomain.OpOneGives g.I.IntDomain.ToGives g.I.IntDomain.KeepGives g.I.IntDomain.members_of) in
    let number = number_read d c.args.m.now c.one-one.result (one_int d c.args.c.now c.args.r c.args.m.now c.requires.holds) c.one-one.ensures.has c.one-one.ensures.least in
    record { sized = c.requires.sized; sets = c.requires.sets; pure = c.requires.pure; changed = c.requires.changed; holds = one_held d c.args.c.now c.args.r c.args.m.now c.one-one.result c.requires.holds number }

pub returns : goal.returns
returns g c =
    let d = (domain g.I.Concrete.Has g.I.Lattice.IsBelow g.I.IntDomain.OpGives g.I.IntDomain.OpOneGives g.I.IntDomain.ToGives g.I.IntDomain.KeepGives g.I.IntDomain.members_of) in
    let number = number_read d c.args.m.now c.one-one.result (one_int d c.args.c.now c.args.r c.args.m.now c.requires.holds) c.one-one.ensures.has c.one-one.ensures.least in
    record { changed = c.value_with.ensures.changed; given = IfOk-weaker c.value_with.result _ _ (λ y h. (c.one-one.result, hull_one d c.args.m.now c.one-one.result number, h)) c.value_with.ensures.value }
