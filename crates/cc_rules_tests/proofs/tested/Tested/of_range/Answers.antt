-- By what is tested.
use Rattle.std.proofs.Common.{◌≡◌, ap, subst, sym}
use Rattle.cc_rules_flows.specs.Tests.{Equals}
use Rattle.cc_rules_flows.specs.CcStateOperators.Domains.{domain}
use Rattle.cc_rules_tests.specs.Tested.{test_of}
use Rattle.cc_rules_tests.proofs.Following.{int_same}
use Rattle.cc_rules_tests.proofs.Numbers.{label_value}
use Rattle.cc_rules_tests.proofs.tested.Tested.of_range.Goals as goal

pub by_condition-requires : goal.by_condition-requires
by_condition-requires g c = record { tested = c.requires.tested; changed = c.requires.changed; holds = c.requires.holds; range = c.requires.range; is = ap test_of c.in-Is.is }

pub returns-in-Is : goal.returns-in-Is
returns-in-Is g c = record { changed = c.by_condition.ensures.changed; left = c.by_condition.ensures.left; below = c.by_condition.ensures.below }

pub by_label-requires : goal.by_label-requires
by_label-requires g c =
    let n = c.in-Equals.n in
    let is = ap test_of c.in-Equals.is in
    let same = int_same n (label_value (domain g.I.Concrete.Has g.I.Lattice.IsBelow g.I.IntDomain.OpGives g.I.IntDomain.OpOneGives g.I.IntDomain.ToGives g.I.IntDomain.KeepGives g.I.IntDomain.members_of) c.args.self.now c.requires.tested n is) in
    record { tested = c.requires.tested; register = c.requires.holds.1.register; range = c.requires.range; is = subst (λ z. test_of c.args.self.now.test ≡ Equals z) (sym same) is }

pub returns-in-Equals : goal.returns-in-Equals
returns-in-Equals g c = record { changed = c.requires.changed; left = c.by_label.ensures.left; below = c.by_label.ensures.below }

pub by_labels-requires : goal.by_labels-requires
by_labels-requires g c = record { tested = c.requires.tested; register = c.requires.holds.1.register; range = c.requires.range; is = ap test_of c.in-Differs.is }

pub returns-in-Differs : goal.returns-in-Differs
returns-in-Differs g c = record { changed = c.requires.changed; left = c.by_labels.ensures.left; below = c.by_labels.ensures.below }
