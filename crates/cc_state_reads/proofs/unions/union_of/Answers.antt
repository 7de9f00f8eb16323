-- Each key adds its set; at the end these are all.
use Rattle.std.proofs.Common.{arith, ◌<◌, length, get_or}
use Rattle.cc_state_values.specs.CcPlaces.laws.ListLaws.{item_in}
use Rattle.cc_state_keys.specs.CcStateFacts.declared.facts.Key.TheVariants as key
use Rattle.cc_state_values.specs.CcStateOperators.Domains.{domain}
use Rattle.cc_state_reads.proofs.Joins.{kinds_through, union_none, union_next, union_all, item_at}
use Rattle.cc_state_values.specs.CcPlaces.laws.AbstractLaws.{kind_back}
use Rattle.cc_state_reads.proofs.unions.union_of.Goals as goal

pub loop-key-init : goal.loop-key-init
loop-key-init g c = union_none (domain g.I.Concrete.Has g.I.Lattice.IsBelow g.I.IntDomain.OpGives g.I.IntDomain.OpOneGives g.I.IntDomain.ToGives g.I.IntDomain.KeepGives g.I.IntDomain.members_of) g.I.Lattice.AreAlike g.met.I.IntDomain.all_alike g.met.I.Lattice.below_through c.args.p.now c.args.facts.now c.args.none c.requires.least

pub with_whole-requires-clause-set : goal.with_whole-requires-clause-set
with_whole-requires-clause-set g c =
    let l : c.loop-key.key-index < length c.args.named.now = c.loop-key-test.true in
    let x = get_or c.args.named.now c.loop-key.key-index (key.Object 0) in
    let s = c.requires.sets x (item_in c.args.named.now c.loop-key.key-index x l (item_at c.args.named.now c.loop-key.key-index (key.Object 0) l)) in
    (s.0, s.1, kinds_through c.loop-key.union c.args.none s.0 (kind_back c.args.none c.loop-key.union c.loop-key.invariant.alike) s.2)

pub loop-key-preserved : goal.loop-key-preserved
loop-key-preserved g c =
    let l : c.loop-key.key-index < length c.args.named.now = c.loop-key-test.true in
    let x = get_or c.args.named.now c.loop-key.key-index (key.Object 0) in
    union_next (domain g.I.Concrete.Has g.I.Lattice.IsBelow g.I.IntDomain.OpGives g.I.IntDomain.OpOneGives g.I.IntDomain.ToGives g.I.IntDomain.KeepGives g.I.IntDomain.members_of) g.I.Lattice.AreAlike g.met.I.IntDomain.all_alike g.met.I.Lattice.below_through c.args.p.now c.args.facts.now c.args.none c.args.named.now c.loop-key.key-index x c.loop-key.union c.in_ok-union.union
    l (item_at c.args.named.now c.loop-key.key-index (key.Object 0) l) c.in_ok-union.ensures c.loop-key.invariant

pub returns : goal.returns
returns g c =
    union_all (domain g.I.Concrete.Has g.I.Lattice.IsBelow g.I.IntDomain.OpGives g.I.IntDomain.OpOneGives g.I.IntDomain.ToGives g.I.IntDomain.KeepGives g.I.IntDomain.members_of) g.I.Lattice.AreAlike g.met.I.IntDomain.all_alike g.met.I.Lattice.below_through c.args.p.now c.args.facts.now c.args.none c.args.named.now c.loop-key.key-index c.loop-key.union
    (omega (arith, c.loop-key-test.false)) c.loop-key.invariant
