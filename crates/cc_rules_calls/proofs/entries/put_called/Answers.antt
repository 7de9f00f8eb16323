use Rattle.std.proofs.Common.{◌≡◌, ◌++◌, sym, ap, ◌∙◌}
use Rattle.std.proofs.lemmas.Result.{IfOk-weaker}
use Rattle.cc_rules_calls.specs.Here.{asked_entered, asked_of_one}
use Rattle.cc_rules_calls.proofs.entries.put_called.Goals as goal

pub put_entered-requires : goal.put_entered-requires
put_entered-requires g c = record {
  keys = c.requires.keys;
  few_keys = c.requires.few_keys;
  few_locals = c.requires.few_locals;
  few_registers = (c.requires.functions.each c.args.id c.in-Some.function.now (sym c.in-Some.ensures)).few;
}

pub returns : goal.returns
returns g c =
    IfOk-weaker c.put_entered.result (λ _. c.put_entered.new.asked.items ≡ c.args.asked.now.items ++ asked_entered c.args.here.now c.args.id c.in-Some.function.now c.args.sets.now) _
    (λ _ e. e ∙ ap (λ o. c.args.asked.now.items ++ asked_of_one c.args.here.now c.args.id o c.args.sets.now) c.in-Some.ensures) c.put_entered.ensures
