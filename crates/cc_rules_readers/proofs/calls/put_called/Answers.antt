use Rattle.std.proofs.Common.{◌≡◌, ◌++◌, List, None, Some, append-nil, slice_get, refl, sym, ap, ◌∙◌}
use Rattle.std.specs.List.{flat_map}
use Rattle.std.proofs.lemmas.Result.{on_ok_weaker}
use Rattle.cc_rules_again.specs.Again.{entry_readers, whole_readers, call_readers}
use Rattle.cc_rules_again.specs.Named.{LocalsOf}
use Rattle.cc_rules_functions.specs.declared.functions.Function.{Function}
use Rattle.cc_rules_readers.specs.Points.{there_called}
use Rattle.cc_rules_readers.proofs.Rules.{put_one}
use Rattle.cc_rules_readers.proofs.calls.put_called.Goals as goal

pub returns-in-None : goal.returns-in-None
returns-in-None g c =
    let none : None ≡ slice_get c.args.rules.now.functions c.args.g = c.in-None.ensures ∙ ap (λ (fs : List Function). slice_get fs c.args.g) c.all-functions.ensures in
    sym (append-nil c.args.list.now.items) ∙ ap (λ o. c.args.list.now.items ++ flat_map (call_readers c.args.rules.now.program.now c.args.facts.now) (there_called c.args.g o)) none

pub put_entry_readers-requires : goal.put_entry_readers-requires
put_entry_readers-requires g c = record {
  rules = c.requires.rules;
  index = c.requires.index;
  entry =
      let there : slice_get c.args.rules.now.functions c.args.g ≡ Some c.in-Some.function.now = ap (λ (fs : List Function). slice_get fs c.args.g) (sym c.all-functions.ensures) ∙ sym c.in-Some.ensures in
      (c.requires.rules.functions.each c.args.g c.in-Some.function.now there).entry;
}

pub put_whole_readers-requires : goal.put_whole_readers-requires
put_whole_readers-requires g c = record { rules = c.requires.rules; index = c.requires.index }

pub returns-in_ok-put_entry_readers-in-Some : goal.returns-in_ok-put_entry_readers-in-Some
returns-in_ok-put_entry_readers-in-Some g c =
    let there : Some c.in-Some.function.now ≡ slice_get c.args.rules.now.functions c.args.g = c.in-Some.ensures ∙ ap (λ (fs : List Function). slice_get fs c.args.g) c.all-functions.ensures in
    on_ok_weaker c.put_whole_readers.result
    (λ h. put_one (call_readers c.args.rules.now.program.now c.args.facts.now) c.args.g c.args.list.now.items (entry_readers c.args.rules.now.program.now c.args.g) c.put_entry_readers.new.list.items (whole_readers c.args.rules.now.program.now c.args.facts.now (LocalsOf c.args.g)) _ c.in_ok-put_entry_readers-in-Some.ensures h refl
    ∙ ap (λ o. c.args.list.now.items ++ flat_map (call_readers c.args.rules.now.program.now c.args.facts.now) (there_called c.args.g o)) there)
    c.put_whole_readers.ensures
