use Rattle.std.proofs.Common.{arith, [], get_or, slice_get, ap, subst}
use Rattle.std.proofs.lemmas.List.{take_all}
use Rattle.std.proofs.lemmas.List.Elements.{All-nil, All-same}
use Rattle.cc_rules_asked.specs.Asked.{all_needs}
use Rattle.cc_rules_calls.specs.Backs.{EachReturns, IsBehind}
use Rattle.cc_rules_calls.proofs.BackLemmas.{each_on, behind_on}
use Rattle.cc_state_points.specs.CcStateOperators.Domains.{domain}
use Rattle.cc_rules_calls.proofs.backs.asked_of_functions.Goals as goal

pub put_called_back-requires : goal.put_called_back-requires
put_called_back-requires g c = record {
  here = c.requires.here;
  functions = c.requires.functions;
  gets = c.requires.gets;
  there = c.requires.there c.loop-id.id-index 0 c.loop-id-test.true;
}

pub loop-id-init : goal.loop-id-init
loop-id-init g c =
    let d = (domain g.I.Concrete.Has g.I.Lattice.IsBelow g.I.IntDomain.OpGives g.I.IntDomain.OpOneGives g.I.IntDomain.ToGives g.I.IntDomain.KeepGives g.I.IntDomain.members_of) in (
      ap (all_needs c.args.here.now.context.program.now) c.new-asked.ensures.items,
      All-same (IsBehind d c.args.here.now) c.new-asked.result.items [] c.new-asked.ensures.items (All-nil (IsBehind d c.args.here.now)),
    )

pub loop-id-preserved : goal.loop-id-preserved
loop-id-preserved g c =
    let d = (domain g.I.Concrete.Has g.I.Lattice.IsBelow g.I.IntDomain.OpGives g.I.IntDomain.OpOneGives g.I.IntDomain.ToGives g.I.IntDomain.KeepGives g.I.IntDomain.members_of) in
    let id = get_or c.args.ids.now c.loop-id.id-index 0 in (
      each_on d c.args.here.now c.args.register c.args.ids.now c.loop-id.id-index 0 c.args.functions.now c.loop-id.asked.items c.put_called_back.new.asked.items c.requires.functions c.loop-id-test.true c.loop-id.invariant.0
          c.in_ok-put_called_back.ensures,
      behind_on d c.args.here.now c.args.register id (slice_get c.args.functions.now id) c.loop-id.asked.items c.put_called_back.new.asked.items c.loop-id.invariant.1 c.in_ok-put_called_back.ensures,
    )

pub returns : goal.returns
returns g c = record {
  each =
      subst (λ ids. EachReturns (domain g.I.Concrete.Has g.I.Lattice.IsBelow g.I.IntDomain.OpGives g.I.IntDomain.OpOneGives g.I.IntDomain.ToGives g.I.IntDomain.KeepGives g.I.IntDomain.members_of) c.args.here.now c.args.register ids c.loop-id.asked.items) (take_all c.loop-id.id-index c.args.ids.now (omega arith)) c.loop-id.invariant.0;
  behind = c.loop-id.invariant.1;
}
