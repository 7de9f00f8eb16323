use Rattle.std.proofs.Common.{◌≡◌, ◌∙◌, [], refl, sym, None, is_ok, is_some, false}
use Rattle.std.specs.Option.{option_copied}
use Rattle.cc_operands.specs.CcSyntax.declared.sizes.Layout.{Layout}
use Rattle.cc_scopes.specs.State.{name_or_none}
use Rattle.cc_scopes.specs.View.{known_of}
use Rattle.cc_scopes.specs.declared.standing.Standing.{Standing}
use Rattle.cc_program.specs.declared.types.Structure.{Structure}
use Rattle.cc_scopes.proofs.KnownLemmas.{copied_some, known-either, kept-either}
use Rattle.cc_scopes.proofs.known.Structures.add.Goals as goal

pub invariant_of-self : goal.invariant_of-self
invariant_of-self c =
    let s : Structure = record { tag = c.in_ok-tag_or_none.field-0; members = c.of.result } in
    let k : Standing = record { tagged = c.is_some.result; alias = None; complete = false } in
    let l : Layout = record { size = 0; align = 1 } in
    let is_s : s ≡ record { tag = name_or_none (option_copied c.args.tag); members = [] } = λ j. record { tag = c.in_ok-tag_or_none.ensures j; members = (c.of.ensures ∙ c.new.ensures.items) j } in
    let is_k : k ≡ record { tagged = is_some (option_copied c.args.tag); alias = None; complete = false } = λ j. record { tagged = (c.is_some.ensures ∙ sym (copied_some c.args.tag)) j; alias = None; complete = false } in
    record {
      kept = kept-either c.args.self.now.all.items c.push_each.new.first.items c.args.self.now.standings.items c.push_each.new.second.items c.args.self.now.layouts.items c.push_each.new.third.items s k l (option_copied c.args.tag) c.args.self.now.kept
          is_s is_k refl (is_ok c.push_each.result) c.push_each.ensures.first c.push_each.ensures.second c.push_each.ensures.third;
    }

pub returns-clause-known : goal.returns-clause-known
unfolding known_of
returns-clause-known c =
    let s : Structure = record { tag = c.in_ok-tag_or_none.field-0; members = c.of.result } in
    let k : Standing = record { tagged = c.is_some.result; alias = None; complete = false } in
    let l : Layout = record { size = 0; align = 1 } in
    let is_s : s ≡ record { tag = name_or_none (option_copied c.args.tag); members = [] } = λ j. record { tag = c.in_ok-tag_or_none.ensures j; members = (c.of.ensures ∙ c.new.ensures.items) j } in
    let is_k : k ≡ record { tagged = is_some (option_copied c.args.tag); alias = None; complete = false } = λ j. record { tagged = (c.is_some.ensures ∙ sym (copied_some c.args.tag)) j; alias = None; complete = false } in
    known-either c.args.self.now.all.items c.push_each.new.first.items c.args.self.now.standings.items c.push_each.new.second.items c.args.self.now.layouts.items c.push_each.new.third.items s k l (option_copied c.args.tag) c.args.self.now.kept
    is_s is_k refl c.push_each.result c.push_each.ensures.first c.push_each.ensures.second c.push_each.ensures.third
