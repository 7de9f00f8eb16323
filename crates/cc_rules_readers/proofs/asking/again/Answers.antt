use Rattle.std.proofs.Common.{◌++◌, ℕ, List, slice_get, sym, ap, ◌∙◌}
use Rattle.cc_rules_asked.specs.CcFlow.Points.{flow_of}
use Rattle.cc_rules_again.specs.Again.{whole_readers, again_at}
use Rattle.cc_rules_again.specs.Named.{EachKey}
use Rattle.cc_rules_numbered.specs.Numbered.{rule_view}
use Rattle.cc_rules_readers.specs.View.{by_rule, start_readers}
use Rattle.cc_rules_readers.proofs.Rules.{again_by}
use Rattle.cc_rules_readers.proofs.asking.again.Goals as goal

pub returns : goal.returns
returns g c =
    let others : List ℕ = by_rule c.args.constraint.rule (whole_readers c.args.rules.now.program.now c.args.facts.now EachKey) (start_readers c.args.rules.now.program.now c.args.constraint.point)
    (again_at c.args.rules.now.program.now c.args.facts.now (rule_view c.args.constraint.rule) c.args.constraint.point (slice_get (flow_of c.args.rules.now.program.now).points c.args.constraint.point)) in
    record {
      list =
          c.in_ok-extend_from_slice.ensures.items
          ∙ ap (λ (xs : List ℕ). c.args.list.now.items ++ xs)
          (c.deref.ensures.value ∙ (c.in_ok-put_readers.ensures ∙ (ap (λ (xs : List ℕ). xs ++ others) c.new-found.ensures.items ∙ sym (again_by c.args.rules.now.program.now c.args.facts.now c.args.constraint.rule c.args.constraint.point))));
      kept = (c.deref.result.now, c.in_ok-extend_from_slice.ensures.items);
    }
