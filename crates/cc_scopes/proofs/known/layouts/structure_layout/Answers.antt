use Rattle.std.proofs.Common.{◌≡◌, ◌∙◌, ◌+◌, length, refl, ap}
use Rattle.std.proofs.lemmas.Option.{slice_get_read}
use Rattle.std.specs.Int.{next_multiple_of}
use Rattle.cc_scopes.proofs.LayoutLemmas.{laid-more, laid-all}
use Rattle.cc_scopes.proofs.known.layouts.structure_layout.Goals as goal

pub loop-ctype-preserved : goal.loop-ctype-preserved
loop-ctype-preserved c =
    let g = slice_get_read c.args.members.now (length c.args.members.now) c.loop-ctype.ctype-index c.loop-ctype-item.result refl c.loop-ctype-test.true c.loop-ctype-item.is in
    let next = laid-more c.args.layouts.now c.args.target.now c.args.members.now c.loop-ctype.ctype-index c.loop-ctype.end c.loop-ctype.align c.loop-ctype-item.result c.type_layout_in-member.result
    g c.type_layout_in-member.ensures c.if-member.false c.loop-ctype.invariant in
    let e : c.in_ok-end.end ≡ next_multiple_of c.loop-ctype.end c.type_layout_in-member.result.align + c.type_layout_in-member.result.size =
    c.in_ok-end.ensures.1 ∙ ap (λ n. n + c.type_layout_in-member.result.size) c.in_ok-checked_next_multiple_of.ensures.1 in
    rw (e, c.max-align.ensures) next

pub returns : goal.returns
returns c =
    laid-all c.args.layouts.now c.args.target.now c.args.members.now c.loop-ctype.ctype-index c.loop-ctype.end c.loop-ctype.align c.in_ok-size.size c.loop-ctype.invariant c.loop-ctype-test.false c.in_ok-size.ensures.1
