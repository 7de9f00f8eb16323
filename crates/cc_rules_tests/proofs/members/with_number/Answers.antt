-- The number is added where the test passes with what is given at it.
use Rattle.std.proofs.Common.{◌≡◌, true}
use Rattle.std.proofs.lemmas.Result.{IfOk-weaker}
use Rattle.cc_rules_tests.specs.Tested.{test_of}
use Rattle.cc_rules_tests.proofs.Least.{number_read, order_of}
use Rattle.cc_rules_tests.proofs.Staying.{more_goes, more_stays}
use Rattle.cc_rules_flows.specs.CcStateOperators.Domains.{domain}
use Rattle.cc_rules_tests.proofs.members.with_number.Goals as goal

pub passes-requires : goal.passes-requires
passes-requires g c = c.requires.labels

pub returns-then-passes : goal.returns-then-passes
returns-then-passes g c =
    let d = (domain g.I.Concrete.Has g.I.Lattice.IsBelow g.I.IntDomain.OpGives g.I.IntDomain.OpOneGives g.I.IntDomain.ToGives g.I.IntDomain.KeepGives g.I.IntDomain.members_of) in
    let o = order_of d g.I.Lattice.AreAlike g.met.I.IntDomain.all_alike g.met.I.Lattice.below_itself g.met.I.Lattice.below_through g.met.I.IntDomain.below_has in
    let number = number_read d c.args.m.now c.one.result c.requires.number c.one.ensures.has c.one.ensures.least in
    IfOk-weaker c.join.result _ _ (λ j l. more_stays d (test_of c.args.test) g.I.Lattice.AreAlike g.met.I.IntDomain.all_alike o c.args.m.now c.args.y.now c.args.set c.one.result j number (c.passes.ensures.0 c.if-passes.true) l) c.join.ensures

pub returns-else-passes : goal.returns-else-passes
returns-else-passes g c =
    let d = (domain g.I.Concrete.Has g.I.Lattice.IsBelow g.I.IntDomain.OpGives g.I.IntDomain.OpOneGives g.I.IntDomain.ToGives g.I.IntDomain.KeepGives g.I.IntDomain.members_of) in
    let o = order_of d g.I.Lattice.AreAlike g.met.I.IntDomain.all_alike g.met.I.Lattice.below_itself g.met.I.Lattice.below_through g.met.I.IntDomain.below_has in
    more_goes d (test_of c.args.test) g.I.Lattice.AreAlike g.met.I.IntDomain.all_alike o c.args.m.now c.args.y.now c.args.set (λ s. let e : c.passes.result ≡ true = c.passes.ensures.1 s in cc)
