use Rattle.std.proofs.Common.{◌≡◌, ◌∙◌, ◌++◌, ◌∷◌, [], List, ap, sym, arith, length, get_or, take}
use Rattle.std.proofs.lemmas.Grind.{common_steps}
use Rattle.cc_scopes.specs.Linked.{linked_from, key_in}
use Rattle.cc_scopes.specs.Maps.{named_entries}
use Rattle.cc_scopes.specs.State.{find_name}
use Rattle.cc_scopes.specs.declared.unit.Declared.{Declared}
use Rattle.cc_scopes.proofs.KnownLemmas.{take-front}
use Rattle.cc_scopes.proofs.LinkedLemmas.{last-at, ok-says, err-says}
use Rattle.cc_scopes.proofs.linked.Names.add.Goals as goal

pub invariant_of-self-then-is_err : goal.invariant_of-self-then-is_err
invariant_of-self-then-is_err c =
    let all = c.args.self.now.all.items in
    let counted : c.in-Ok.id ≡ length all = grind (arith, common_steps) in
    let stay = c.truncate.ensures.items ∙ (ap (take c.in-Ok.id) c.in_ok-push.ensures.items ∙ (ap (λ n. take n (all ++ c.args.d ∷ [])) counted ∙ take-front all (c.args.d ∷ []))) in
    let same = err-says c.note_number.result (sym c.is_err.ensures.value ∙ c.if-is_err.true) c.note_number.ensures.unchanged in
    record { indexed = λ x. ap (linked_from 0 x) stay ∙ (c.args.self.now.indexed x ∙ sym (ap (λ es. find_name x (named_entries es)) same)) }

pub invariant_of-self-else-is_err : goal.invariant_of-self-else-is_err
invariant_of-self-else-is_err c =
    let all = c.args.self.now.all.items in
    let counted : c.in-Ok.id ≡ length all = grind (arith, common_steps) in
    let noted = ok-says c.note_number.result (sym c.is_err.ensures.value ∙ c.if-is_err.false) c.note_number.ensures.noted in
    let d : c.index.result.now ≡ c.args.d =
    c.index.ensures ∙ (ap (λ (l : List Declared). get_or l c.in-Ok.id c.index.result.now) c.in_ok-push.ensures.items ∙ (ap (λ n. get_or (all ++ c.args.d ∷ []) n c.index.result.now) counted ∙ last-at all c.args.d c.index.result.now)) in
    record { indexed = λ x. ap (linked_from 0 x) c.in_ok-push.ensures.items ∙ noted all c.args.d c.args.self.now.indexed (sym (ap key_in d) ∙ sym c.linked_name-name.ensures) counted x }
