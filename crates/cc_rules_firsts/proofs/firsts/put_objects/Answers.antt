use Rattle.std.proofs.Common.{arith, Some, sym, ◌∙◌, ap}
use Rattle.cc_rules_firsts.proofs.Among.{IsInFirst, none_in_first, in_first, in_all, in_split, in_before, in_here, among_in}
use Rattle.cc_rules_firsts.proofs.ByKey.{at_place, none_put, may_get, less_gets, same_put, then_put}
use Rattle.cc_rules_firsts.proofs.firsts.put_objects.Goals as goal
use Rattle.cc_rules_firsts.specs.Firsts.{IsAmong, IsFirstIn}

pub bounds-values-i : goal.bounds-values-i
bounds-values-i g c = omega (arith, c.loop-i-test.true, c.requires.count)

pub put_object-requires : goal.put_object-requires
put_object-requires g c =
    let here = at_place c.args.keys.now c.loop-i.i c.index-keys-i.result c.loop-i-test.true c.index-keys-i.is ∙ ap Some (sym c.all.ensures) in
    let there = at_place c.args.values.now c.loop-i.i c.index-values-i.result (omega (arith, c.loop-i-test.true, c.requires.count)) c.index-values-i.is ∙ ap Some (sym c.all-in-loop-i.ensures) in
    record {
      keys = c.requires.keys;
      sets = c.loop-i.invariant.count ∙ c.requires.sets;
      fits = less_gets c.args.all.now g.I.Concrete.Has g.I.Lattice.IsBelow (IsFirstIn c.args.keys.now c.args.values.now) _ c.loop-i.sets (among_in c.args.keys.now c.args.values.now c.loop-i.i _ _ here there)
          (may_get c.args.all.now g.I.Concrete.Has g.I.Lattice.IsBelow (IsFirstIn c.args.keys.now c.args.values.now) (IsInFirst c.args.keys.now c.args.values.now c.loop-i.i) c.args.sets.now c.loop-i.sets c.requires.fits c.loop-i.invariant);
    }

pub loop-i-init : goal.loop-i-init
loop-i-init g c =
    none_put c.args.all.now g.I.Concrete.Has g.I.Lattice.IsBelow (λ x. g.met.I.Lattice.below_itself x (g.met.I.IntDomain.all_alike x x)) c.args.sets.now _ (λ m k v at. none_in_first c.args.keys.now c.args.values.now k v)

pub loop-i-preserved : goal.loop-i-preserved
loop-i-preserved g c =
    let here = at_place c.args.keys.now c.loop-i.i c.index-keys-i.result c.loop-i-test.true c.index-keys-i.is ∙ ap Some (sym c.all.ensures) in
    let there = at_place c.args.values.now c.loop-i.i c.index-values-i.result (omega (arith, c.loop-i-test.true, c.requires.count)) c.index-values-i.is ∙ ap Some (sym c.all-in-loop-i.ensures) in
    then_put c.args.all.now g.I.Concrete.Has g.I.Lattice.IsBelow g.met.I.IntDomain.below_has (λ x y z. g.met.I.Lattice.below_through x y z (g.met.I.IntDomain.all_alike x y) (g.met.I.IntDomain.all_alike y z) (g.met.I.IntDomain.all_alike x z))
    c.args.sets.now c.loop-i.sets c.put_object.new.sets
    (IsInFirst c.args.keys.now c.args.values.now c.loop-i.i) (IsAmong c.all.result.now c.all-in-loop-i.result.now) _
    (in_split c.args.keys.now c.args.values.now c.loop-i.i _ _ here there) (in_before c.args.keys.now c.args.values.now c.loop-i.i _ _ here there) (in_here c.args.keys.now c.args.values.now c.loop-i.i _ _ here there) c.loop-i.invariant c.in_ok-put_object.ensures

pub returns : goal.returns
returns g c =
    same_put c.args.all.now g.I.Concrete.Has g.I.Lattice.IsBelow c.args.sets.now c.loop-i.sets (IsInFirst c.args.keys.now c.args.values.now c.loop-i.i) _
    (in_first c.args.keys.now c.args.values.now c.loop-i.i c.loop-i-test.false) (in_all c.args.keys.now c.args.values.now c.loop-i.i) c.loop-i.invariant
