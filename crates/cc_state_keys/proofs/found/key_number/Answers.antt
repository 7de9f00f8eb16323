use Rattle.std.proofs.Common.{◌≡◌, List, Option, Some, None, ℕ, ap, sym, ◌∙◌, subst}
use Rattle.std.specs.Prelude.{position}
use Rattle.std.specs.Option.{option_copied}
use Rattle.cc_state_facts.specs.declared.facts.Key.{Key}
use Rattle.cc_state_keys.specs.Keys.{is_key}
use Rattle.cc_state_keys.specs.Order.{Ascend}
use Rattle.cc_state_keys.proofs.Orders.{keys_ascend, stands_at, stands_nowhere, stands_past}
use Rattle.cc_state_keys.proofs.found.key_number.Goals as goal

among : (r : Option ℕ) (k : Key) (keys all : List Key) → keys ≡ all → position (is_key k) keys ≡ r → r ≡ position (is_key k) all
among r k keys all e h = sym h ∙ ap (position (is_key k)) e

pub returns-in-None : goal.returns-in-None
returns-in-None c = λ p e.
    let up = subst Ascend (sym e) (keys_ascend p) in
    among None c.args.key c.args.keys.now _ e
    (stands_past c.args.keys.now c.args.key c.count_before-number.result c.count_before-number.ensures.within up (c.count_before-number.ensures.point up) (sym c.at.ensures ∙ ap option_copied c.in-None.is))

pub returns-then-is_key : goal.returns-then-is_key
returns-then-is_key c = λ p e.
    let up = subst Ascend (sym e) (keys_ascend p) in
    among (Some c.count_before-number.result) c.args.key c.args.keys.now _ e
    (stands_at c.args.keys.now c.args.key c.count_before-number.result c.count_before-number.ensures.within up (c.count_before-number.ensures.point up) c.in-Some.found.now (sym c.at.ensures ∙ ap option_copied c.in-Some.is)
    (sym c.is_key.ensures ∙ c.if-is_key.true))

pub returns-else-is_key : goal.returns-else-is_key
returns-else-is_key c = λ p e.
    let up = subst Ascend (sym e) (keys_ascend p) in
    among None c.args.key c.args.keys.now _ e
    (stands_nowhere c.args.keys.now c.args.key c.count_before-number.result c.count_before-number.ensures.within up (c.count_before-number.ensures.point up) c.in-Some.found.now (sym c.at.ensures ∙ ap option_copied c.in-Some.is)
    (sym c.is_key.ensures ∙ c.if-is_key.false))
