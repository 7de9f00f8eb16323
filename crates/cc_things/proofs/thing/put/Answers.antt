use Rattle.std.proofs.Common.{rules, ◌≤◌, ◌∙◌, ◌++◌, ◌∷◌, [], length, ap, refl}
use Rattle.std.proofs.lemmas.Result.{on_ok_weaker}
use Rattle.cc_things.specs.View.{identity_view}
use Rattle.cc_things.proofs.Puts.{put-there, put-new}
use Rattle.cc_things.proofs.thing.put.Goals as goal

pub returns-then-number-len : goal.returns-then-number-len
returns-then-number-len c =
    on_ok_weaker c.push.result (λ h. put-there c.args.things.now.items c.args.number c.index_mut.result.now _ (identity_view c.args.identity) c.args.m (search rules) c.index_mut.ensures.value refl h) c.push.ensures

pub returns-in_ok-push : goal.returns-in_ok-push
returns-in_ok-push c =
    let high : length c.args.things.now.items ≤ c.args.number = search rules in
    on_ok_weaker c.push-else-number-len-2.result
    (λ h. put-new c.args.things.now.items c.push-else-number-len-2.new.list.items c.args.number _ (identity_view c.args.identity) c.args.m high h refl
    (c.in_ok-push.ensures ∙ ap (λ l. l ++ c.args.m ∷ []) c.new-mentions.ensures.items))
    c.push-else-number-len-2.ensures
