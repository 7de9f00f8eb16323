use Rattle.std.proofs.Common.{◌≡◌, ◌∙◌, ◌++◌, ◌∷◌, [], not, cond, ap, sym, refl}
use Rattle.std.specs.List.{list_any}
use Rattle.cc_cost.specs.Keys.{spelling}
use Rattle.cc_cost.specs.Settings.{thing_of, same_thing, has_second, second_if}
use Rattle.cc_cost.specs.Sets.{Pair, pair_thing, things_of}
use Rattle.cc_cost.specs.declared.setting.Setting.{Setting}
use Rattle.cc_cost.proofs.SetLemmas.{things-any, things-added}
use Rattle.cc_cost.proofs.names.add_thing.Goals as goal

pair_is : (p : Pair) (s : Setting) → p.0.now ≡ spelling s.key → p.1.now ≡ second_if (has_second s.key) s.second → pair_thing p ≡ thing_of s
pair_is p s h k = rw (h, k) refl

pub returns-clause-added : goal.returns-clause-added
returns-clause-added c =
    let is_it : pair_thing (c.as_bytes.result, c.second_of.result) ≡ thing_of c.args.setting.now = pair_is (c.as_bytes.result, c.second_of.result) c.args.setting.now (c.as_bytes.ensures.value ∙ c.spelling.ensures) c.second_of.ensures in
    c.in_ok-insert.ensures.added ∙ ap not (sym (things-any (c.as_bytes.result, c.second_of.result) c.args.things.now)) ∙ ap (λ t. not (list_any (same_thing t) (things_of c.args.things.now))) is_it

pub returns-clause-things : goal.returns-clause-things
returns-clause-things c =
    let is_it : pair_thing (c.as_bytes.result, c.second_of.result) ≡ thing_of c.args.setting.now = pair_is (c.as_bytes.result, c.second_of.result) c.args.setting.now (c.as_bytes.ensures.value ∙ c.spelling.ensures) c.second_of.ensures in
    things-added c.args.things.now c.insert.new.self (c.as_bytes.result, c.second_of.result) c.in_ok-insert.ensures.keys
    ∙ ap (λ b. cond b (things_of c.args.things.now ++ pair_thing (c.as_bytes.result, c.second_of.result) ∷ []) (things_of c.args.things.now)) (sym c.in_ok-insert.ensures.added)
    ∙ ap (λ t. cond c.in_ok-insert.field-0 (things_of c.args.things.now ++ t ∷ []) (things_of c.args.things.now)) is_it
