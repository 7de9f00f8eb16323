use Rattle.std.proofs.Common.{◌<◌, ◌^◌, List, length, ap, sym, subst, ◌∙◌}
use Rattle.cc_rules_calls.specs.Called.{sets_of}
use Rattle.cc_rules_calls.specs.Here.{fact_with}
use Rattle.cc_rules_calls.proofs.Parameters.{joined_parts, same_point}
use Rattle.cc_rules_calls.proofs.entries.put_entered.Goals as goal
use Rattle.cc_state_points.specs.CcStateFacts.declared.facts.Key.{Key}

pub put_parameters-requires : goal.put_parameters-requires
put_parameters-requires g c = record {
  keys = c.all.ensures ∙ c.requires.keys;
  few = subst (λ (keys : List Key). length keys < 2 ^ 32) (sym c.all.ensures) c.requires.few_keys;
  few_locals = c.requires.few_locals;
}

pub returns : goal.returns
returns g c =
    joined_parts _ _ _ _ _ _ _ _ c.in_ok-put_marks.ensures c.in_ok-push.ensures.items c.in_ok-put_parameters.ensures
    (same_point _ _ _ _ _ (ap length c.all-registers.ensures) (c.in_ok-flow.ensures ∙ ap (fact_with c.args.here.now.fact.now) (c.in_ok-locals.ensures ∙ ap (sets_of c.args.sets.now) c.all-registers.ensures)))
