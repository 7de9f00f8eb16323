-- The register that comes first has the other set.
use Rattle.std.proofs.Common.{◌∷◌, ap, sym, subst, ◌∙◌}
use Rattle.std.proofs.Math.ListN.{set}
use Rattle.std.proofs.lemmas.Result.{IfOk-weaker}
use Rattle.cc_rules_flows.specs.CcPlaces.declared.abs.Abs.TheVariants as abs
use Rattle.cc_rules_tests.proofs.Changing.{have_sets, set_there}
use Rattle.cc_rules_flows.specs.CcStateOperators.Domains.{domain}
use Rattle.cc_rules_flows.specs.CcStateValues.Typed.{HaveSets}
use Rattle.cc_rules_flows.specs.CcStateValues.Values.{IsVal}
use Rattle.cc_rules_tests.proofs.changed.Changed.value_with.Goals as goal

pub value_of-value-requires-clause-sets : goal.value_of-value-requires-clause-sets
value_of-value-requires-clause-sets g c =
    let d = (domain g.I.Concrete.Has g.I.Lattice.IsBelow g.I.IntDomain.OpGives g.I.IntDomain.OpOneGives g.I.IntDomain.ToGives g.I.IntDomain.KeepGives g.I.IntDomain.members_of) in
    let there = c.args.c.now in
    let registers = c.as_slice.ensures.value ∙ ap (λ xs. set xs 0 c.args.r) c.requires.changed.2 in
    let sets = c.as_slice-2.ensures.value ∙ (ap (λ xs. set xs 0 c.in_ok-other.other) c.requires.changed.3 ∙ ap (λ s. s ∷ there.sets.now) c.in_ok-other.ensures) in
    let same = set_there d there c.args.r c.args.set c.as_slice.result.now c.as_slice-2.result.now registers sets in
    subst (λ f. HaveSets d there.program.now there.id there.func.now f) same (have_sets d there c.args.r c.args.set c.requires.sets c.requires.holds)

pub returns : goal.returns
returns g c =
    let d = (domain g.I.Concrete.Has g.I.Lattice.IsBelow g.I.IntDomain.OpGives g.I.IntDomain.OpOneGives g.I.IntDomain.ToGives g.I.IntDomain.KeepGives g.I.IntDomain.members_of) in
    let there = c.args.c.now in
    let first = ap (λ xs. set xs 0 c.args.r) c.requires.changed.2 in
    let second = (ap (λ xs. set xs 0 c.in_ok-other.other) c.requires.changed.3 ∙ ap (λ s. s ∷ there.sets.now) c.in_ok-other.ensures) in
    let same = set_there d there c.args.r c.args.set c.as_slice.result.now c.as_slice-2.result.now (c.as_slice.ensures.value ∙ first) (c.as_slice-2.ensures.value ∙ second) in
    record {
      changed = (c.args.r, abs.Ints c.args.set, first, second);
      value = IfOk-weaker c.value_of-value.result _ _ (λ y h. subst (λ f. IsVal d there.program.now there.id there.func.now f c.args.e.now y) (sym same) h) c.value_of-value.ensures.value;
      typed = c.value_of-value.ensures.typed;
    }
