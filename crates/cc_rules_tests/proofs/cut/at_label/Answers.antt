-- By the set of the label alone.
use Rattle.std.proofs.Common.{refl}
use Rattle.cc_program.specs.CcNum.declared.op.BinOp.TheVariants as op
use Rattle.cc_rules_flows.specs.CcStateOperators.Domains.{domain}
use Rattle.cc_rules_tests.proofs.Least.{number_read}
use Rattle.cc_rules_tests.proofs.Least.{hull_one}
use Rattle.cc_rules_tests.proofs.cut.at_label.Goals as goal

pub returns : goal.returns
returns g c =
    let d = (domain g.I.Concrete.Has g.I.Lattice.IsBelow g.I.IntDomain.OpGives g.I.IntDomain.OpOneGives g.I.IntDomain.ToGives g.I.IntDomain.KeepGives g.I.IntDomain.members_of) in
    record {
      cut = (c.one.result, hull_one d c.args.n c.one.result (number_read d c.args.n c.one.result c.requires c.one.ensures.has c.one.ensures.least), c.keep.ensures);
      below = g.met.I.IntDomain.keep_below op.Eq c.args.x.now c.one.result c.keep.result refl c.keep.ensures;
    }
