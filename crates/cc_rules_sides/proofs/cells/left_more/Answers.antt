-- By one register more where it equals the cell.
use Rattle.std.proofs.Common.{refl, sym, subst}
use Rattle.cc_rules_sides.specs.Refined.{IsLeftMore}
use Rattle.cc_rules_flows.specs.CcStateOperators.Domains.{domain}
use Rattle.cc_rules_flows.proofs.CcStateValues.Fits.{both_ok}
use Rattle.cc_rules_sides.proofs.cells.left_more.Goals as goal

pub left_alike-requires : goal.left_alike-requires
left_alike-requires g c = record { tested = c.requires.tested; trial = c.requires.trial; register = c.requires.register }

pub returns-then-is_equal : goal.returns-then-is_equal
returns-then-is_equal g c = record {
  trial = c.left_alike.ensures.trial;
  left = both_ok c.left_alike.result _ _ _ (λ z h k. subst (λ b. IsLeftMore (domain g.I.Concrete.Has g.I.Lattice.IsBelow g.I.IntDomain.OpGives g.I.IntDomain.OpOneGives g.I.IntDomain.ToGives g.I.IntDomain.KeepGives g.I.IntDomain.members_of) c.args.tested.now b c.args.r c.args.set z) (sym c.if-is_equal.true) (h, k)) c.left_alike.ensures.left c.left_alike.ensures.worked;
}

pub returns-else-is_equal : goal.returns-else-is_equal
returns-else-is_equal g c = record {
  trial = c.requires.trial;
  left = subst (λ b. IsLeftMore (domain g.I.Concrete.Has g.I.Lattice.IsBelow g.I.IntDomain.OpGives g.I.IntDomain.OpOneGives g.I.IntDomain.ToGives g.I.IntDomain.KeepGives g.I.IntDomain.members_of) c.args.tested.now b c.args.r c.args.set c.args.set) (sym c.if-is_equal.false) refl;
}
