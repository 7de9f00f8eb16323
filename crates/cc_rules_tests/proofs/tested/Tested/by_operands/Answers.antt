-- The left operand first, and what it leaves by the right one.
use Rattle.std.proofs.Common.{sym, subst, ◌≡◌, true}
use Rattle.std.proofs.lemmas.Result.{IfOk-weaker}
use Rattle.cc_rules_flows.specs.CcLattice.Domains.{is_comparison}
use Rattle.cc_rules_flows.specs.CcStateOperators.Domains.{domain}
use Rattle.cc_rules_tests.proofs.Numbers.{cut_copy, cut_turned, turned_compares}
use Rattle.cc_rules_tests.proofs.tested.Tested.by_operands.Goals as goal

pub copied-requires : goal.copied-requires
copied-requires g c = g.met.I.IntDomain.all_alike c.args.x.now c.args.x.now

pub cut_as-requires : goal.cut_as-requires
cut_as-requires g c = record { tested = c.requires.tested; changed = c.requires.changed; holds = c.requires.holds; number = c.requires.second; compares = c.requires.compares }

pub cut_as-requires-2 : goal.cut_as-requires-2
cut_as-requires-2 g c = record {
  tested = c.requires.tested;
  changed = c.cut_as.ensures.changed;
  holds = c.requires.holds;
  number = c.requires.first;
  compares = subst (λ o. is_comparison o ≡ true) (sym c.turned.ensures) (turned_compares c.args.op c.requires.compares);
}

pub returns-clause-changed : goal.returns-clause-changed
returns-clause-changed g c = c.cut_as-2.ensures.changed

pub returns-clause-cut : goal.returns-clause-cut
returns-clause-cut g c =
    let t = c.args.self.now in
    let x = c.args.x.now in
    let u = c.in_ok-u-2.u in
    let first = cut_copy (domain g.I.Concrete.Has g.I.Lattice.IsBelow g.I.IntDomain.OpGives g.I.IntDomain.OpOneGives g.I.IntDomain.ToGives g.I.IntDomain.KeepGives g.I.IntDomain.members_of) t c.args.r x c.in_ok-u.u u c.args.op c.args.a.now c.args.c.now c.in_ok-u.ensures c.in_ok-u-2.ensures.cut in
    IfOk-weaker c.cut_as-2.result _ _ (λ z h. (u, first, cut_turned (domain g.I.Concrete.Has g.I.Lattice.IsBelow g.I.IntDomain.OpGives g.I.IntDomain.OpOneGives g.I.IntDomain.ToGives g.I.IntDomain.KeepGives g.I.IntDomain.members_of) t c.args.r x u z _ c.turned.result c.args.c.now c.args.a.now c.turned.ensures h)) c.cut_as-2.ensures.cut

pub returns-clause-below : goal.returns-clause-below
returns-clause-below g c =
    let x = c.args.x.now in
    let u = c.in_ok-u-2.u in
    let all = g.met.I.IntDomain.all_alike in
    let first = subst (λ z. g.I.Lattice.IsBelow u z) c.in_ok-u.ensures c.in_ok-u-2.ensures.below in
    IfOk-weaker c.cut_as-2.result _ _ (λ z h. g.met.I.Lattice.below_through z u x (all z u) (all u x) (all z x) h first) c.cut_as-2.ensures.below
