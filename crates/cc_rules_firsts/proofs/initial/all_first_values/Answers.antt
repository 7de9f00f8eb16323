use Rattle.std.proofs.Common.{◌≡◌, List, map, ap, ◌∙◌}
use Rattle.std.proofs.lemmas.Result.{IfOk-weaker}
use Rattle.cc_rules_asked.specs.CcCells.Scalars.{structure_zeros}
use Rattle.cc_program.specs.declared.value.Value.{Value}
use Rattle.cc_rules_firsts.proofs.initial.all_first_values.Goals as goal
use Rattle.cc_rules_asked.specs.CcSteps.Whole.{values_over}

pub returns : goal.returns
returns c =
    let zeros = c.all-structures_zeros.ensures ∙ (c.in_ok-zeros.ensures ∙ ap structure_zeros c.all-structures.ensures) in
    IfOk-weaker c.all_over.result (λ values. values.items ≡ map (values_over c.all-structures_zeros.result.now) c.all-objects.result.now) _
    (λ values e. e ∙ (ap (map (values_over c.all-structures_zeros.result.now)) c.all-objects.ensures ∙ ap (λ (zs : List (List Value)). map (values_over zs) c.args.p.now.objects) zeros)) c.all_over.ensures
