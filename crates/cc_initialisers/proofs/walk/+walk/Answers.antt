use Rattle.std.proofs.Common.{arith, ◌≡◌, ◌++◌, OnOk, List, subst, sym, ap, map, ◌∙◌}
use Rattle.std.specs.Option.{option_copied}
use Rattle.std.specs.Prelude.{IfOk}
use Rattle.cc_initialisers.specs.Contents.{Contents}
use Rattle.cc_initialisers.specs.Initialisers.{Step, Filled, here, behind, started, elided}
use Rattle.cc_initialisers.specs.View.{part_view, content_view, steps_of}
use Rattle.cc_initialisers.proofs.Filling.{element-filled}
use Rattle.cc_initialisers.proofs.Forms.{members-braced}
use Rattle.cc_initialisers.proofs.Sizes.{nodes, part-below, inner-fewer}
use Rattle.cc_initialisers.proofs.Started.{taken-all, list-started, expression-started}
use Rattle.cc_initialisers.proofs.walk.+walk.Goals as goal

pub braced-returns-in-Members : goal.braced-returns-in-Members
braced-returns-in-Members t c =
    subst (λ (xs : List Step). OnOk c.taken-in-Members.result (steps_of c.taken-in-Members.new.out ≡ steps_of c.args.out.now ++ xs))
    (sym (members-braced c.args.object c.in-Members.field-0 c.in-Members.is (map here c.args.gs.now) c.args.place)) c.taken-in-Members.ensures

pub taken-returns : goal.taken-returns
taken-returns t c =
    let e = taken-all (steps_of c.args.out.now) (steps_of c.elided.new.out) (map here c.in_ok-rest.rest.now) (elided (content_view c.args.object) c.args.place (map here c.args.gs.now)) c.in_ok-rest.ensures.filled in
    subst (λ (xs : List Step). OnOk c.nothing_left.result (steps_of c.nothing_left.new.out ≡ xs)) e c.nothing_left.ensures

pub elements_filled-loop-missing-preserved : goal.elements_filled-loop-missing-preserved
elements_filled-loop-missing-preserved t c =
    let of = part_view c.args.of in
    let left = map here c.loop-missing.rest.now in
    let e = subst (λ (o : Contents). (steps_of c.started.new.out, map here c.in_ok-rest.rest.now) ≡ behind (steps_of c.loop-missing.out) (started o (elided o) c.args.place left)) c.content.ensures c.in_ok-rest.ensures.filled in
    record {
      filled = element-filled (started of (elided of)) c.args.place c.loop-missing.missing (steps_of c.loop-missing.out) (steps_of c.started.new.out) left (map here c.in_ok-rest.rest.now) _ c.loop-missing-test.true e c.loop-missing.invariant.filled;
      fewer = omega (arith, c.in_ok-rest.ensures.fewer, c.loop-missing.invariant.fewer);
    }

pub members_filled-started-requires : goal.members_filled-started-requires
members_filled-started-requires t c =
    let same : nodes (content_view c.content.result) ≡ nodes (part_view c.part.result) = ap nodes c.content.ensures in
    let member = ap nodes c.part.ensures in
    let below = part-below c.args.members c.loop-member.member-index c.member-item.result c.loop-member-test.true c.member-item.is in
    (omega (arith, below, same, member, c.loop-member.invariant.fewer), tt)

pub started-braced-requires : goal.started-braced-requires
started-braced-requires t c =
    let fewer = inner-fewer c.args.gs.now c.g-item.result c.in-Many.inner c.all.result.now (omega arith) c.g-item.is c.in-Many.is c.all.ensures in
    (omega (arith, fewer), tt)

pub started-returns-in_ok-braced-in-Many-clause-filled : goal.started-returns-in_ok-braced-in-Many-clause-filled
started-returns-in_ok-braced-in-Many-clause-filled t c =
    list-started (content_view c.args.object) c.args.place (sym c.is_scalar.ensures ∙ c.if-is_scalar.false) c.args.gs.now c.g-item.result c.in-Many.inner c.all.result.now
    (steps_of c.args.out.now) (steps_of c.braced.new.out) c.in-len1-up.len_at_least c.g-item.is (sym c.string_for.ensures ∙ ap option_copied c.in_default-string_for.is) c.in-Many.is c.all.ensures
    c.in_ok-braced-in-Many.ensures

pub started-returns-in-One-clause-filled : goal.started-returns-in-One-clause-filled
started-returns-in-One-clause-filled t c =
    let e = expression-started (content_view c.args.object) c.args.place (sym c.is_scalar.ensures ∙ c.if-is_scalar.false) c.args.gs.now c.g-item.result c.in-One.field-0
    c.in-len1-up.len_at_least c.g-item.is (sym c.string_for.ensures ∙ ap option_copied c.in_default-string_for.is) c.in-One.is in
    subst (λ (f : Filled). IfOk c.elided-in-One.result (λ rest. (steps_of c.elided-in-One.new.out, map here rest.now) ≡ behind (steps_of c.args.out.now) f)) (sym e) c.elided-in-One.ensures.filled
