use Rattle.std.proofs.Common.{ap, sym, subst, ◌∙◌}
use Rattle.std.specs.Prelude.{option_and_then}
use Rattle.cc_program.specs.declared.expr.Expr.{Expr}
use Rattle.cc_program.specs.declared.expr.Place.{Place, out-Place}
use Rattle.cc_program.specs.declared.expr.Place.TheVariants.{outs-Element}
use Rattle.cc_slots_accesses.proofs.OutsideLemmas.{outside_is}
use Rattle.cc_slots_accesses.specs.Arrays.{array_length}
use Rattle.cc_state_keys.specs.Addressed.{in_place}
use Rattle.cc_rules_flows.specs.CcStateOperators.Domains.{domain}
use Rattle.cc_rules_flows.specs.CcStateValues.Contexts.{set_in}
use Rattle.cc_rules_flows.specs.CcStateValues.Typed.{IsPure}
use Rattle.cc_rules_flows.specs.CcStateValues.Values.{IsVal}
use Rattle.cc_rules_flows.proofs.CcStateValues.Parts.{element_parts}
use Rattle.cc_rules_flows.proofs.CcStateValues.Same.{order_of, same_value}
use Rattle.cc_slots_accesses.proofs.places.may_be_outside.Goals as goal

pub value_of-requires-clause-pure : goal.value_of-requires-clause-pure
value_of-requires-clause-pure g c =
    let x = c.args.c.now in
    subst (λ (e : Expr). IsPure x.program.now x.func.now e) (sym c.get-in-Some.ensures)
    (element_parts x.program.now x.func.now c.args.a.now c.in-Element.array c.in-Element.subscript (ap out-Place c.in-Element.is ∙ outs-Element c.in-Element.array c.in-Element.subscript) c.requires.pure).1

pub returns-in_ok-values-in-Some : goal.returns-in_ok-values-in-Some
returns-in_ok-values-in-Some g c =
    let l = g.met.I.Lattice in
    let i = g.met.I.IntDomain in
    let d = domain g.I.Concrete.Has g.I.Lattice.IsBelow g.I.IntDomain.OpGives g.I.IntDomain.OpOneGives g.I.IntDomain.ToGives g.I.IntDomain.KeepGives g.I.IntDomain.members_of in
    let ordered = order_of d g.I.Lattice.AreAlike i.all_alike l.below_itself l.below_both_ways i.op_grows i.op_one_grows i.to_grows i.members_below in
    let x = c.args.c.now in
    outside_is d x.program.now x.id x.func.now (set_in x) (same_value d ordered x.program.now x.id x.func.now (set_in x)) c.args.a.now c.in-Element.array c.in-Element.subscript c.in-Some.count c.in_ok-values-in-Some.values c.has_outside.result
    (ap out-Place c.in-Element.is ∙ outs-Element c.in-Element.array c.in-Element.subscript)
    (ap (λ (a : Place). option_and_then (array_length x.program.now) (in_place x.program.now x.id x.func.now a).own) (sym c.get.ensures) ∙ (sym c.length_in.ensures ∙ c.in-Some.is))
    (subst (λ (e : Expr). IsVal d x.program.now x.id x.func.now (set_in x) e c.in_ok-values-in-Some.values) c.get-in-Some.ensures c.in_ok-values-in-Some.ensures.value)
    c.has_outside.ensures
