use Rattle.std.proofs.Common.{◌∙◌, ap, refl}
use Rattle.std.specs.Option.{option_copied}
use Rattle.cc_scopes.proofs.LinkedLemmas.{found-by, index-unnamed, index-there, index-absent}
use Rattle.cc_scopes.proofs.linked.note_number.Goals as goal

pub returns-in_default-clause-noted : goal.returns-in_default-clause-noted
returns-in_default-clause-noted c = λ ds d is key n. index-unnamed ds d c.args.linked.now.entries is (key ∙ ap option_copied c.in_default.is)

pub returns-then-is_some-clause-noted : goal.returns-then-is_some-clause-noted
returns-then-is_some-clause-noted c = λ ds d is key n.
    let es = c.args.linked.now.entries in
    let k = c.in-Some.name.now in
    index-there ds d es k is (key ∙ ap option_copied c.in-Some.is) (found-by k k c.get.result es c.is_some.result refl c.get.ensures.value c.is_some.ensures ∙ c.if-is_some.true)

pub returns-clause-noted : goal.returns-clause-noted
returns-clause-noted c = λ ds d is key n.
    let es = c.args.linked.now.entries in
    let k = c.in-Some.name.now in
    index-absent ds d es k is (key ∙ ap option_copied c.in-Some.is) c.in_ok-key.key c.in_ok-key.ensures.items c.args.id c.insert.new.self.entries n
    (found-by k k c.get.result es c.is_some.result refl c.get.ensures.value c.is_some.ensures ∙ c.if-is_some.false) c.in_ok-insert.ensures.entries
