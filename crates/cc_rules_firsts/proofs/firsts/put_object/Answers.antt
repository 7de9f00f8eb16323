use Rattle.std.proofs.Common.{get_or, slice_get, sym, ◌∙◌}
use Rattle.std.proofs.lemmas.Option.{slice_get-get_or}
use Rattle.cc_rules_firsts.proofs.Among.{IsAmongFirst, none_among, among_split, among_before, among_here, own_among, among_first, among_all}
use Rattle.cc_rules_firsts.proofs.ByKey.{none_put, may_get, less_gets, same_put, then_put}
use Rattle.cc_rules_firsts.proofs.firsts.put_object.Goals as goal
use Rattle.cc_rules_firsts.specs.Firsts.{IsAmong, IsOwn}
use Rattle.cc_rules_asked.specs.CcStateFacts.declared.facts.Key.TheVariants as key

pub put_scalar-requires : goal.put_scalar-requires
put_scalar-requires g c =
    let own = get_or c.args.keys.now c.loop-n.n (key.Object 0) in
    let here = slice_get-get_or c.args.keys.now c.loop-n.n (key.Object 0) c.loop-n-test.true in
    record {
      keys = c.requires.keys;
      sets = c.loop-n.invariant.count ∙ c.requires.sets;
      fits = less_gets c.args.all.now g.I.Concrete.Has g.I.Lattice.IsBelow (IsAmong c.args.keys.now c.args.values.now) _ c.loop-n.sets (λ k v h. own_among c.args.keys.now c.args.values.now c.loop-n.n own here k v (h.0, sym c.at.ensures ∙ h.1))
          (may_get c.args.all.now g.I.Concrete.Has g.I.Lattice.IsBelow (IsAmong c.args.keys.now c.args.values.now) (IsAmongFirst c.args.keys.now c.args.values.now c.loop-n.n) c.args.sets.now c.loop-n.sets c.requires.fits c.loop-n.invariant);
    }

pub loop-n-init : goal.loop-n-init
loop-n-init g c =
    none_put c.args.all.now g.I.Concrete.Has g.I.Lattice.IsBelow (λ x. g.met.I.Lattice.below_itself x (g.met.I.IntDomain.all_alike x x)) c.args.sets.now _ (λ m k v at. none_among c.args.keys.now c.args.values.now k v)

pub loop-n-preserved : goal.loop-n-preserved
loop-n-preserved g c =
    let own = get_or c.args.keys.now c.loop-n.n (key.Object 0) in
    let here = slice_get-get_or c.args.keys.now c.loop-n.n (key.Object 0) c.loop-n-test.true in
    then_put c.args.all.now g.I.Concrete.Has g.I.Lattice.IsBelow g.met.I.IntDomain.below_has (λ x y z. g.met.I.Lattice.below_through x y z (g.met.I.IntDomain.all_alike x y) (g.met.I.IntDomain.all_alike y z) (g.met.I.IntDomain.all_alike x z))
    c.args.sets.now c.loop-n.sets c.put_scalar.new.sets
    (IsAmongFirst c.args.keys.now c.args.values.now c.loop-n.n) (IsOwn own (slice_get c.args.values.now c.loop-n.n)) _
    (among_split c.args.keys.now c.args.values.now c.loop-n.n own here) (among_before c.args.keys.now c.args.values.now c.loop-n.n own here) (among_here c.args.keys.now c.args.values.now c.loop-n.n own here) c.loop-n.invariant
    (same_put c.args.all.now g.I.Concrete.Has g.I.Lattice.IsBelow c.loop-n.sets c.put_scalar.new.sets _ (IsOwn own (slice_get c.args.values.now c.loop-n.n)) (λ k v h. (h.0, c.at.ensures ∙ h.1)) (λ k v h. (h.0, sym c.at.ensures ∙ h.1)) c.in_ok-put_scalar.ensures)

pub returns : goal.returns
returns g c =
    same_put c.args.all.now g.I.Concrete.Has g.I.Lattice.IsBelow c.args.sets.now c.loop-n.sets (IsAmongFirst c.args.keys.now c.args.values.now c.loop-n.n) _
    (among_first c.args.keys.now c.args.values.now c.loop-n.n c.loop-n-test.false) (among_all c.args.keys.now c.args.values.now c.loop-n.n) c.loop-n.invariant
