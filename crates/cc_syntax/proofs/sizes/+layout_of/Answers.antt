use Rattle.std.proofs.Common.{arith, ◌≡◌, ◌<◌, ◌+◌, ◌^◌, List, inl, inr, length, take, sym, ap, ◌∙◌, subst}
use Rattle.std.specs.List.{All}
use Rattle.cc_program.specs.declared.types.Structure.{Structure}
use Rattle.cc_syntax.specs.Layout.{HasSize, IsSmall, structure, member_layouts}
use Rattle.cc_syntax.specs.Types.{Named}
use Rattle.cc_syntax.proofs.Measure.{arrays, in_members, arrays-Array, member_below, structure_below}
use Rattle.cc_syntax.proofs.Members.{laid_more, laid_all}
use Rattle.cc_syntax.proofs.Parts.{all_at}
use Rattle.cc_syntax.proofs.Prefixes.{take_length}
use Rattle.cc_syntax.proofs.Shapes.{sized-Array, struct_there, members_short, members_small, layout-Struct, void_has_none, function_has_none, read_at}
use Rattle.cc_syntax.proofs.sizes.+layout_of.Goals as goal

pub layout_of-layout_of-element-requires : goal.layout_of-layout_of-element-requires
layout_of-layout_of-element-requires t c =
    let s = c.args.structures.now in
    let e : c.get.result.now ≡ c.in-Array.element = c.get.ensures in
    let below = arrays-Array c.args.t.now c.in-Array.element c.in-Array.count c.in-Array.is ∙ ap (λ x. arrays x + 1) (sym e) in
    let sized = sized-Array c.args.t.now s c.args.target.now c.in-Array.element c.in-Array.count c.in-Array.is c.requires in
    (omega (arith, below), subst (λ x. HasSize x s c.args.target.now) (sym e) sized)

pub layout_of-bounds-structures-id : goal.layout_of-bounds-structures-id
layout_of-bounds-structures-id t c = struct_there c.args.t.now c.args.structures.now c.args.target.now c.in-Struct.id c.in-Struct.is c.requires

pub layout_of-slice_bounds-structure-end : goal.layout_of-slice_bounds-structure-end
layout_of-slice_bounds-structure-end t c =
    let s = c.args.structures.now in
    let g = read_at s c.in-Struct.id c.index-structures-id.result c.index-structures-id.is (struct_there c.args.t.now s c.args.target.now c.in-Struct.id c.in-Struct.is c.requires) in
    sym (take_length s c.in-Struct.id c.index-structures-id.result g)

pub layout_of-structure-requires : goal.layout_of-structure-requires
layout_of-structure-requires t c =
    let s = c.args.structures.now in
    let i = c.in-Struct.id in
    let r = c.index-structures-id.result in
    let g = read_at s i r c.index-structures-id.is (struct_there c.args.t.now s c.args.target.now i c.in-Struct.is c.requires) in
    let e : c.all.result.now ≡ r.members = c.all.ensures ∙ ap (λ (x : Structure). x.members) (sym c.index-structures-id.is) in
    let below = structure_below s i r g in
    let same = ap in_members e in (
      omega (arith, below, same),
      (
        subst (λ (ms : List Named). length ms < 2 ^ 32) (sym e) (members_short c.args.t.now s c.args.target.now i r g c.requires),
        subst (λ (ms : List Named). All (λ m. IsSmall m.1 (take i s) c.args.target.now) ms) (sym e) (members_small c.args.t.now s c.args.target.now i r c.in-Struct.is g c.requires),
      ),
    )

pub layout_of-unreachable-requires : goal.layout_of-unreachable-requires
layout_of-unreachable-requires t c =
    elim c.in-Void.is [
      | inl h ↦ void_has_none c.args.t.now c.args.structures.now c.args.target.now h c.requires
      | inr h ↦ function_has_none c.args.t.now c.args.structures.now c.args.target.now h.0 h.1 c.requires
    ]

pub layout_of-returns-in-Struct : goal.layout_of-returns-in-Struct
layout_of-returns-in-Struct t c =
    let s = c.args.structures.now in
    let i = c.in-Struct.id in
    let r = c.index-structures-id.result in
    let g = read_at s i r c.index-structures-id.is (struct_there c.args.t.now s c.args.target.now i c.in-Struct.is c.requires) in
    let e : c.all.result.now ≡ r.members = c.all.ensures ∙ ap (λ (x : Structure). x.members) (sym c.index-structures-id.is) in
    c.structure.ensures ∙ ap (λ ms. structure (member_layouts ms (take i s) c.args.target.now)) e ∙ sym (layout-Struct c.args.t.now s c.args.target.now i r c.in-Struct.is g)

pub structure-layout_of-member-requires : goal.structure-layout_of-member-requires
structure-layout_of-member-requires t c =
    let g = read_at c.args.members.now c.loop-ctype.ctype-index c.loop-ctype-item.result c.loop-ctype-item.is c.loop-ctype-test.true in
    let below = member_below c.args.members.now c.loop-ctype.ctype-index c.loop-ctype-item.result g in
    let small = all_at (λ m. IsSmall m.1 c.args.structures.now c.args.target.now) c.args.members.now c.loop-ctype.ctype-index c.loop-ctype-item.result g c.requires.small in
    (omega (arith, below), small.sized)

pub structure-overflow_add-end : goal.structure-overflow_add-end
structure-overflow_add-end t c =
    let g = read_at c.args.members.now c.loop-ctype.ctype-index c.loop-ctype-item.result c.loop-ctype-item.is c.loop-ctype-test.true in
    let small = all_at (λ m. IsSmall m.1 c.args.structures.now c.args.target.now) c.args.members.now c.loop-ctype.ctype-index c.loop-ctype-item.result g c.requires.small in
    let next = laid_more c.args.members.now c.args.structures.now c.args.target.now c.loop-ctype.ctype-index c.loop-ctype.end c.loop-ctype.align c.loop-ctype-item.result
    c.layout_of-member.result c.layout_of-member.ensures g small c.loop-ctype.invariant in
    let high = next.high in
    record { fits = omega (arith, high, c.place_behind.ensures, c.requires.short, c.loop-ctype-test.true) }

pub structure-loop-ctype-preserved : goal.structure-loop-ctype-preserved
structure-loop-ctype-preserved t c =
    let g = read_at c.args.members.now c.loop-ctype.ctype-index c.loop-ctype-item.result c.loop-ctype-item.is c.loop-ctype-test.true in
    let small = all_at (λ m. IsSmall m.1 c.args.structures.now c.args.target.now) c.args.members.now c.loop-ctype.ctype-index c.loop-ctype-item.result g c.requires.small in
    let next = laid_more c.args.members.now c.args.structures.now c.args.target.now c.loop-ctype.ctype-index c.loop-ctype.end c.loop-ctype.align c.loop-ctype-item.result
    c.layout_of-member.result c.layout_of-member.ensures g small c.loop-ctype.invariant in
    rw (c.place_behind.ensures, c.max-align.ensures) next

pub structure-returns : goal.structure-returns
structure-returns t c =
    laid_all c.args.members.now c.args.structures.now c.args.target.now c.loop-ctype.ctype-index c.loop-ctype.end c.loop-ctype.align c.aligned-size.result c.loop-ctype.invariant
    c.loop-ctype-test.false c.aligned-size.ensures
