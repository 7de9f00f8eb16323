use Rattle.std.proofs.Common.{◌<◌, ◌≤◌, length, refl, sym, subst, ◌∙◌}
use Rattle.cc_rules_flows.specs.CcFlow.declared.types.Flow.{Flow}
use Rattle.cc_rules_functions.specs.Ends.{end_at}
use Rattle.cc_rules_functions.proofs.Ends.{some, few}
use Rattle.cc_rules_functions.proofs.Gets.{function_by}
use Rattle.cc_rules_functions.proofs.functions.function_of.Goals as goal

pub exit_of-requires : goal.exit_of-requires
exit_of-requires c = record {
  some = subst (λ (flow : Flow). 0 < end_at (length flow.points) flow.first c.args.id) (sym c.requires.flow) (some c.args.p.now c.args.id c.args.f.now c.requires.there);
  few = subst (λ (flow : Flow). end_at (length flow.points) flow.first c.args.id ≤ 65536) (sym c.requires.flow) (few c.args.p.now c.args.id c.args.f.now c.requires.there c.requires.few);
}

pub returns : goal.returns
returns c =
    function_by c.args.p.now c.args.id c.args.f.now c.args.flow.now c.requires.there c.requires.flow _ c.requires.few_locals refl c.entry_of.ensures c.exit_of.ensures (c.of.ensures ∙ c.in_ok-registers.ensures) c.gives_zero.ensures
