use Rattle.std.proofs.Common.{◌++◌, ℕ, List, [], cond, append-nil, sym, ap, ◌∙◌}
use Rattle.std.specs.List.{flat_map}
use Rattle.std.proofs.lemmas.Result.{on_ok_weaker}
use Rattle.cc_rules_again.specs.Again.{point_readers}
use Rattle.cc_rules_numbered.specs.declared.constraints.Rule.TheVariants as rule
use Rattle.cc_rules_readers.specs.View.{is_some_call}
use Rattle.cc_rules_readers.proofs.Rules.{initial_again, start_again, flow_again, write_again, touch_again, call_again, back_again, return_again, handler_again, stability_again, by_its_rule}
use Rattle.cc_rules_readers.proofs.asking.put_readers_of.Goals as goal

pub returns-in-Initial : goal.returns-in-Initial
returns-in-Initial g c = by_its_rule c.args.rules.now.program.now c.args.facts.now c.args.constraint.point c.args.point.now c.args.constraint.rule rule.Initial c.args.list.now.items c.args.list.now.items [] (sym (append-nil c.args.list.now.items)) (initial_again c.args.rules.now.program.now c.args.facts.now c.args.constraint.point c.args.point.now c.args.deed.now c.requires.deed) c.in-Initial.is

pub returns-in-Start : goal.returns-in-Start
returns-in-Start g c = by_its_rule c.args.rules.now.program.now c.args.facts.now c.args.constraint.point c.args.point.now c.args.constraint.rule rule.Start c.args.list.now.items c.args.list.now.items [] (sym (append-nil c.args.list.now.items)) (start_again c.args.rules.now.program.now c.args.facts.now c.args.constraint.point c.args.point.now c.args.deed.now c.requires.deed) c.in-Start.is

pub put_next_readers-requires : goal.put_next_readers-requires
put_next_readers-requires g c = record { rules = c.requires.rules; index = c.requires.index }

pub returns-in-Flow : goal.returns-in-Flow
returns-in-Flow g c =
    on_ok_weaker c.put_next_readers.result
    (λ h. by_its_rule c.args.rules.now.program.now c.args.facts.now c.args.constraint.point c.args.point.now c.args.constraint.rule rule.Flow c.args.list.now.items _ (flat_map (point_readers c.args.rules.now.program.now) c.args.point.now.next)
    (h ∙ ap (λ (xs : List ℕ). c.args.list.now.items ++ flat_map (point_readers c.args.rules.now.program.now) xs) c.all-next.ensures) (flow_again c.args.rules.now.program.now c.args.facts.now c.args.constraint.point c.args.point.now c.args.deed.now c.requires.deed) c.in-Flow.is)
    c.put_next_readers.ensures

pub put_whole_readers-requires : goal.put_whole_readers-requires
put_whole_readers-requires g c = record { rules = c.requires.rules; index = c.requires.index }

pub returns-in-Write : goal.returns-in-Write
returns-in-Write g c =
    on_ok_weaker c.put_whole_readers.result
    (λ h. by_its_rule c.args.rules.now.program.now c.args.facts.now c.args.constraint.point c.args.point.now c.args.constraint.rule rule.Write c.args.list.now.items _ _ h (write_again c.args.rules.now.program.now c.args.facts.now c.args.constraint.point c.args.point.now c.args.deed.now c.requires.deed) c.in-Write.is)
    c.put_whole_readers.ensures

pub put_touch_readers-requires : goal.put_touch_readers-requires
put_touch_readers-requires g c = record { rules = c.requires.rules; index = c.requires.index }

pub returns-in-Touch : goal.returns-in-Touch
returns-in-Touch g c =
    on_ok_weaker c.put_touch_readers.result
    (λ h. by_its_rule c.args.rules.now.program.now c.args.facts.now c.args.constraint.point c.args.point.now c.args.constraint.rule rule.Touch c.args.list.now.items _ _ h (touch_again c.args.rules.now.program.now c.args.facts.now c.args.constraint.point c.args.point.now c.args.deed.now c.requires.deed) c.in-Touch.is)
    c.put_touch_readers.ensures

pub put_call_readers-requires : goal.put_call_readers-requires
put_call_readers-requires g c = record { rules = c.requires.rules; index = c.requires.index }

pub returns-in-Call : goal.returns-in-Call
returns-in-Call g c =
    on_ok_weaker c.put_call_readers.result
    (λ h. by_its_rule c.args.rules.now.program.now c.args.facts.now c.args.constraint.point c.args.point.now c.args.constraint.rule rule.Call c.args.list.now.items _ _ h (call_again c.args.rules.now.program.now c.args.facts.now c.args.constraint.point c.args.point.now c.args.deed.now c.requires.deed) c.in-Call.is)
    c.put_call_readers.ensures

pub put_back_readers-requires : goal.put_back_readers-requires
put_back_readers-requires g c = record { rules = c.requires.rules; index = c.requires.index }

pub returns-in-Back : goal.returns-in-Back
returns-in-Back g c =
    on_ok_weaker c.put_back_readers.result
    (λ h. by_its_rule c.args.rules.now.program.now c.args.facts.now c.args.constraint.point c.args.point.now c.args.constraint.rule rule.Back c.args.list.now.items _ (cond (is_some_call c.args.deed.now.called) (flat_map (point_readers c.args.rules.now.program.now) c.args.point.now.next) [])
    (h ∙ ap (λ (xs : List ℕ). c.args.list.now.items ++ cond (is_some_call c.args.deed.now.called) (flat_map (point_readers c.args.rules.now.program.now) xs) []) c.all-next.ensures) (back_again c.args.rules.now.program.now c.args.facts.now c.args.constraint.point c.args.point.now c.args.deed.now c.requires.deed) c.in-Back.is)
    c.put_back_readers.ensures

pub put_return_readers-requires : goal.put_return_readers-requires
put_return_readers-requires g c = c.requires.index.lists

pub returns-in-Return : goal.returns-in-Return
returns-in-Return g c =
    on_ok_weaker c.put_return_readers.result
    (λ h. by_its_rule c.args.rules.now.program.now c.args.facts.now c.args.constraint.point c.args.point.now c.args.constraint.rule rule.Return c.args.list.now.items _ _ h (return_again c.args.rules.now.program.now c.args.facts.now c.args.constraint.point c.args.point.now c.args.deed.now c.requires.deed c.args.index.now.deeds c.requires.index.deeds) c.in-Return.is)
    c.put_return_readers.ensures

pub put_handler_readers-requires : goal.put_handler_readers-requires
put_handler_readers-requires g c = record { rules = c.requires.rules; index = c.requires.index }

pub returns-in-Handler : goal.returns-in-Handler
returns-in-Handler g c =
    on_ok_weaker c.put_handler_readers.result
    (λ h. by_its_rule c.args.rules.now.program.now c.args.facts.now c.args.constraint.point c.args.point.now c.args.constraint.rule rule.Handler c.args.list.now.items _ _ h (handler_again c.args.rules.now.program.now c.args.facts.now c.args.constraint.point c.args.point.now c.args.deed.now c.requires.deed) c.in-Handler.is)
    c.put_handler_readers.ensures

pub put_point_readers-requires : goal.put_point_readers-requires
put_point_readers-requires g c = record { rules = c.requires.rules; index = c.requires.index }

pub returns-in-Stability : goal.returns-in-Stability
returns-in-Stability g c =
    on_ok_weaker c.put_point_readers.result
    (λ h. by_its_rule c.args.rules.now.program.now c.args.facts.now c.args.constraint.point c.args.point.now c.args.constraint.rule rule.Stability c.args.list.now.items _ _ h (stability_again c.args.rules.now.program.now c.args.facts.now c.args.constraint.point c.args.point.now c.args.deed.now c.requires.deed) c.in-Stability.is)
    c.put_point_readers.ensures
