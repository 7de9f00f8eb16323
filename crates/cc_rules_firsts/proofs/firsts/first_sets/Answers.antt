use Rattle.std.proofs.Common.{arith, length, sym, subst, ◌∙◌}
use Rattle.std.proofs.lemmas.List.{with_items_is}
use Rattle.cc_rules_firsts.proofs.ByKey.{none_may_get, least_sets}
use Rattle.cc_rules_firsts.proofs.firsts.first_sets.Goals as goal
use Rattle.cc_rules_firsts.specs.Firsts.{AreNoneOf, AreLeastOf, IsFirstIn}

pub put_objects-requires : goal.put_objects-requires
put_objects-requires g c =
    let none = subst (AreNoneOf g.I.Lattice.IsBelow c.args.kinds.now (length c.args.kinds.now)) (sym c.deref_mut.ensures.value) c.in_ok-sets.ensures in
    record {
      keys = c.requires.keys;
      sets = none.so_many ∙ c.requires.kinds;
      count = c.requires.count;
      fits = none_may_get c.args.all.now g.I.Concrete.Has g.I.Lattice.IsBelow c.args.kinds.now c.deref_mut.result.now (IsFirstIn c.args.keys.now c.args.values.now) none c.requires.fits;
    }

pub returns : goal.returns
returns g c =
    let none = subst (AreNoneOf g.I.Lattice.IsBelow c.args.kinds.now (length c.args.kinds.now)) (sym c.deref_mut.ensures.value) c.in_ok-sets.ensures in
    let first = c.in_ok-sets.ensures.so_many in
    let many = none.so_many in
    let put = c.in_ok-put_objects.ensures in
    let kept = put.count in
    subst (AreLeastOf c.args.all.now g.I.Concrete.Has g.I.Lattice.IsBelow c.args.kinds.now (IsFirstIn c.args.keys.now c.args.values.now)) (sym (with_items_is c.in_ok-sets.sets c.put_objects.new.sets (omega (arith, first, many, kept))))
    (least_sets c.args.all.now g.I.Concrete.Has g.I.Lattice.IsBelow c.args.kinds.now c.deref_mut.result.now c.put_objects.new.sets (IsFirstIn c.args.keys.now c.args.values.now) none put)
