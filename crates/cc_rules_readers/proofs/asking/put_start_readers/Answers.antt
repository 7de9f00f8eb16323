use Rattle.std.proofs.Common.{◌≡◌, ◌++◌, [], cond, append-nil, slice_get, unwrap_or, sym, ap, ◌∙◌}
use Rattle.std.specs.Prelude.{◌==◌}
use Rattle.std.proofs.lemmas.Option.{unwrap_or-slice_get}
use Rattle.std.proofs.lemmas.Result.{on_ok_weaker}
use Rattle.cc_rules_asked.specs.CcFlow.declared.types.Flow.{Flow}
use Rattle.cc_rules_asked.specs.CcFlow.Points.{flow_of}
use Rattle.cc_rules_asked.specs.CcFlowSound.Moves.{entry}
use Rattle.cc_rules_again.proofs.Lists.{is_equal}
use Rattle.cc_rules_again.specs.Again.{entry_readers}
use Rattle.cc_rules_readers.proofs.Numbers.{are_equal, not_passed}
use Rattle.cc_rules_readers.proofs.asking.put_start_readers.Goals as goal

pub put_entry_readers-requires : goal.put_entry_readers-requires
put_entry_readers-requires c = record {
  rules = c.requires.rules;
  index = c.requires.index;
  entry = c.if-point-entry.true ∙ (c.entry.ensures ∙ (ap (λ (f : Flow). unwrap_or (slice_get f.first c.args.rules.now.program.now.main) 0) c.requires.rules.flow ∙ unwrap_or-slice_get (flow_of c.args.rules.now.program.now).first c.args.rules.now.program.now.main 0));
}

pub returns-then-point-entry : goal.returns-then-point-entry
returns-then-point-entry c =
    let same : c.args.point ≡ entry c.args.rules.now.program.now c.args.rules.now.program.now.main = c.if-point-entry.true ∙ (c.entry.ensures ∙ (ap (λ (f : Flow). unwrap_or (slice_get f.first c.args.rules.now.program.now.main) 0) c.requires.rules.flow ∙ unwrap_or-slice_get (flow_of c.args.rules.now.program.now).first c.args.rules.now.program.now.main 0)) in
    on_ok_weaker c.put_entry_readers.result (λ h. h ∙ ap (λ b. c.args.list.now.items ++ cond b (entry_readers c.args.rules.now.program.now c.args.rules.now.program.now.main) []) (sym (is_equal c.args.point (entry c.args.rules.now.program.now c.args.rules.now.program.now.main) same))) c.put_entry_readers.ensures

pub returns-else-point-entry : goal.returns-else-point-entry
returns-else-point-entry c =
    let same : c.entry.result ≡ entry c.args.rules.now.program.now c.args.rules.now.program.now.main = c.entry.ensures ∙ (ap (λ (f : Flow). unwrap_or (slice_get f.first c.args.rules.now.program.now.main) 0) c.requires.rules.flow ∙ unwrap_or-slice_get (flow_of c.args.rules.now.program.now).first c.args.rules.now.program.now.main 0) in
    sym (append-nil c.args.list.now.items)
    ∙ ap (λ b. c.args.list.now.items ++ cond b (entry_readers c.args.rules.now.program.now c.args.rules.now.program.now.main) []) (sym (not_passed (c.args.point == entry c.args.rules.now.program.now c.args.rules.now.program.now.main) (λ t. c.if-point-entry.false (are_equal c.args.point (entry c.args.rules.now.program.now c.args.rules.now.program.now.main) t ∙ sym same))))
