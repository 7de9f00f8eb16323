use Rattle.std.proofs.Common.{arith, ◌≡◌, length, None, Some, slice_get, refl, ap, sym, ◌∙◌}
use Rattle.std.proofs.lemmas.Option.{slice_get_within}
use Rattle.std.proofs.lemmas.Result.{on_ok_weaker}
use Rattle.cc_rules_firsts.proofs.ByKey.{none_put, not_own, put_own}
use Rattle.cc_rules_firsts.proofs.firsts.put_value.Goals as goal
use Rattle.cc_rules_grow.proofs.CcState.Numbered.{key_at}
use Rattle.cc_rules_asked.specs.CcStateKeys.Keys.{keys_of, key_number}

pub put_at-requires : goal.put_at-requires
put_at-requires g c =
    let number : key_number c.args.p.now c.args.own ≡ Some c.in-Some.number = sym (c.key_number.ensures c.args.p.now c.requires.keys) ∙ c.in-Some.is in
    let at = key_at c.args.p.now c.args.own c.in-Some.number number in
    record {
      there = (let l = slice_get_within (keys_of c.args.p.now) c.in-Some.number c.args.own at in omega (arith, l, c.requires.sets, ap length c.requires.keys));
      fits = λ x there. c.requires.fits c.in-Some.number c.args.own x c.args.value.now (ap (λ keys. slice_get keys c.in-Some.number) c.requires.keys ∙ at) there (refl, refl);
    }

pub returns-in-None : goal.returns-in-None
returns-in-None g c =
    let absent : key_number c.args.p.now c.args.own ≡ None = sym (c.key_number.ensures c.args.p.now c.requires.keys) ∙ c.in-None.is in
    none_put c.args.all.now g.I.Concrete.Has g.I.Lattice.IsBelow (λ x. g.met.I.Lattice.below_itself x (g.met.I.IntDomain.all_alike x x)) c.args.sets.now _
    (not_own c.args.all.now g.I.Concrete.Has g.I.Lattice.IsBelow c.args.p.now c.requires.keys c.args.own absent _)

pub returns-in-Some : goal.returns-in-Some
returns-in-Some g c =
    let number : key_number c.args.p.now c.args.own ≡ Some c.in-Some.number = sym (c.key_number.ensures c.args.p.now c.requires.keys) ∙ c.in-Some.is in
    on_ok_weaker c.put_at.result
    (put_own c.args.all.now g.I.Concrete.Has g.I.Lattice.IsBelow (λ x. g.met.I.Lattice.below_itself x (g.met.I.IntDomain.all_alike x x)) c.args.p.now c.requires.keys c.args.own c.in-Some.number number c.args.value.now c.args.sets.now c.put_at.new.sets)
    c.put_at.ensures
