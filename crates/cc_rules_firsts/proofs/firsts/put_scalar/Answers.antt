use Rattle.std.proofs.Common.{ap, sym, ◌∙◌}
use Rattle.std.specs.Option.{option_copied}
use Rattle.std.proofs.lemmas.Option.{none-some}
use Rattle.std.proofs.lemmas.Result.{on_ok_weaker}
use Rattle.cc_rules_firsts.proofs.ByKey.{none_put, less_gets, same_put}
use Rattle.cc_rules_firsts.proofs.firsts.put_scalar.Goals as goal

pub put_value-requires : goal.put_value-requires
put_value-requires g c = record {
  keys = c.requires.keys;
  sets = c.requires.sets;
  fits = less_gets c.args.all.now g.I.Concrete.Has g.I.Lattice.IsBelow _ _ c.args.sets.now (λ k v h. (h.0, ap option_copied c.in-Some.is ∙ h.1)) c.requires.fits;
}

pub returns-in-None : goal.returns-in-None
returns-in-None g c =
    none_put c.args.all.now g.I.Concrete.Has g.I.Lattice.IsBelow (λ x. g.met.I.Lattice.below_itself x (g.met.I.IntDomain.all_alike x x)) c.args.sets.now _ (λ m k v at h. none-some v (sym (ap option_copied c.in-None.is) ∙ h.1))

pub returns-in-Some : goal.returns-in-Some
returns-in-Some g c =
    on_ok_weaker c.put_value.result
    (same_put c.args.all.now g.I.Concrete.Has g.I.Lattice.IsBelow c.args.sets.now c.put_value.new.sets _ _ (λ k v h. (h.0, sym (ap option_copied c.in-Some.is) ∙ h.1)) (λ k v h. (h.0, ap option_copied c.in-Some.is ∙ h.1)))
    c.put_value.ensures
