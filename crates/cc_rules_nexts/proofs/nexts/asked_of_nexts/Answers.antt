use Rattle.std.proofs.Common.{arith, [], get_or, ap, subst}
use Rattle.std.proofs.lemmas.List.{take_all}
use Rattle.std.proofs.lemmas.List.Elements.{All-nil, All-same, Contains-get_or}
use Rattle.cc_rules_asked.specs.Asked.{all_needs}
use Rattle.cc_rules_nexts.specs.Told.{ComeToEachHere, IsOnward}
use Rattle.cc_rules_nexts.proofs.NextLemmas.{each_on}
use Rattle.cc_rules_asked.specs.CcStateOperators.Domains.{domain}
use Rattle.cc_rules_nexts.proofs.nexts.asked_of_nexts.Goals as goal

pub put_next-requires : goal.put_next-requires
put_next-requires g c = record { here = c.requires.here; alike = c.requires.alike }

pub loop-next-init : goal.loop-next-init
loop-next-init g c =
    let d = (domain g.I.Concrete.Has g.I.Lattice.IsBelow g.I.IntDomain.OpGives g.I.IntDomain.OpOneGives g.I.IntDomain.ToGives g.I.IntDomain.KeepGives g.I.IntDomain.members_of) in (
      λ flows t. ap (all_needs c.args.here.now.context.program.now) c.new-asked.ensures.items,
      λ kept there. All-same (IsOnward d c.args.here.now) c.new-asked.result.items [] c.new-asked.ensures.items (All-nil (IsOnward d c.args.here.now)),
    )

pub loop-next-preserved : goal.loop-next-preserved
loop-next-preserved g c = (
  λ flows t.
      each_on (domain g.I.Concrete.Has g.I.Lattice.IsBelow g.I.IntDomain.OpGives g.I.IntDomain.OpOneGives g.I.IntDomain.ToGives g.I.IntDomain.KeepGives g.I.IntDomain.members_of) c.args.here.now flows c.args.nexts.now c.loop-next.next-index 0 c.loop-next.asked.items c.put_next.new.asked.items c.loop-next-test.true (c.loop-next.invariant.0 flows t) (c.in_ok-put_next.ensures.asked flows t),
  λ kept there. c.in_ok-put_next.ensures.onward kept (there (get_or c.args.nexts.now c.loop-next.next-index 0) (Contains-get_or c.args.nexts.now c.loop-next.next-index 0 c.loop-next-test.true)) (c.loop-next.invariant.1 kept there),
)

pub returns : goal.returns
returns g c = record {
  asked = λ flows t.
      subst (λ ks. ComeToEachHere (domain g.I.Concrete.Has g.I.Lattice.IsBelow g.I.IntDomain.OpGives g.I.IntDomain.OpOneGives g.I.IntDomain.ToGives g.I.IntDomain.KeepGives g.I.IntDomain.members_of) c.args.here.now ks flows c.loop-next.asked.items) (take_all c.loop-next.next-index c.args.nexts.now (omega arith)) (c.loop-next.invariant.0 flows t);
  onward = c.loop-next.invariant.1;
}
