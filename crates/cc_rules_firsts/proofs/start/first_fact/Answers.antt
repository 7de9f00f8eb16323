use Rattle.std.proofs.Common.{List, length, map, refl, sym, subst, ◌∙◌}
use Rattle.cc_program.specs.declared.value.Value.{Value}
use Rattle.cc_rules_firsts.proofs.Starts.{have_firsts}
use Rattle.cc_rules_firsts.proofs.start.first_fact.Goals as goal
use Rattle.cc_rules_firsts.specs.Rows.{HaveFirsts, AreFirstRows}
use Rattle.cc_rules_grow.specs.CcState.Shape.{AreRows}
use Rattle.cc_rules_asked.specs.CcStateOperators.Domains.{domain}
use Rattle.cc_rules_asked.specs.CcSteps.State.{first_values}

pub first_rows-requires : goal.first_rows-requires
first_rows-requires g c =
    subst (λ (values : List (List Value)). HaveFirsts values c.args.tracked.now) (sym (c.deref.ensures.value ∙ c.in_ok-values.ensures))
    (subst (HaveFirsts (map (first_values c.args.p.now) c.args.p.now.objects)) (sym c.requires.tracked) (have_firsts c.args.p.now c.requires.normal))

pub returns : goal.returns
returns g c = record {
  firsts = record {
    off = refl;
    on = refl;
    locals = c.of.ensures ∙ c.new.ensures.items;
    rows = subst (AreFirstRows g.I.Concrete.Has g.I.Lattice.IsBelow (map (first_values c.args.p.now) c.args.p.now.objects) c.args.tracked.now) (sym c.of-2.ensures)
        (subst (λ (values : List (List Value)). AreFirstRows g.I.Concrete.Has g.I.Lattice.IsBelow values c.args.tracked.now c.in_ok-rows.rows.items) (c.deref.ensures.value ∙ c.in_ok-values.ensures) c.in_ok-rows.ensures.firsts);
    same = c.of-3.ensures ∙ c.new-2.ensures.items;
  };
  laid_out = subst (AreRows (domain g.I.Concrete.Has g.I.Lattice.IsBelow g.I.IntDomain.OpGives g.I.IntDomain.OpOneGives g.I.IntDomain.ToGives g.I.IntDomain.KeepGives g.I.IntDomain.members_of) c.args.p.now (length c.args.tracked.now)) (sym c.of-2.ensures)
      (c.in_ok-rows.ensures.laid_out c.args.p.now);
}
