use Rattle.std.proofs.Common.{◌∙◌, ap, sym, Some, true≢false}
use Rattle.std.specs.Option.{option_copied}
use Rattle.cc_scopes.proofs.LinkedLemmas.{unnamed-index, index-earlier, index-gone}
use Rattle.cc_scopes.proofs.ScopeMaps.{find-entries}
use Rattle.cc_scopes.proofs.linked.forget_number.Goals as goal

pub returns-in_default : goal.returns-in_default
returns-in_default c = λ ds d is key n. unnamed-index ds d c.args.linked.now.entries is (key ∙ ap option_copied c.in_default.is)

pub returns-then-is_number_of : goal.returns-then-is_number_of
returns-then-is_number_of c = λ ds d is key n.
    let es = c.args.linked.now.entries in
    let k = c.in-Some.name.now in
    index-gone ds d es k is (key ∙ ap option_copied c.in-Some.is) c.shift_remove.new.self.entries (sym (find-entries k es) ∙ (c.is_number_of.ensures.0 c.if-is_number_of.true ∙ ap Some n))
    c.shift_remove.ensures.entries c.shift_remove.ensures.updates.1

pub returns-else-is_number_of : goal.returns-else-is_number_of
returns-else-is_number_of c = λ ds d is key n.
    let es = c.args.linked.now.entries in
    let k = c.in-Some.name.now in
    index-earlier ds d es k is (key ∙ ap option_copied c.in-Some.is)
    (λ found. true≢false (sym (c.is_number_of.ensures.1 (find-entries k es ∙ (found ∙ ap Some (sym n)))) ∙ c.if-is_number_of.false))
