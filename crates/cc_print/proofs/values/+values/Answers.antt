use Rattle.std.proofs.Common.{arith, ◌≡◌, ◌+◌, ◌-◌, sym, ap, ◌∙◌}
use Rattle.cc_program.specs.declared.types.Structure.{Structure}
use Rattle.cc_typed.specs.CcSyntax.Types.{Named}
use Rattle.cc_typed.proofs.CcSyntax.Measure.{arrays, in_members, arrays-Array, member_below, structure_below}
use Rattle.cc_typed.proofs.CcSyntax.Shapes.{read_at}
use Rattle.cc_pieces.specs.View.{pieces_of}
use Rattle.cc_print.specs.Values.{filled}
use Rattle.cc_print.proofs.FillerLemmas.{filler-Int, filler-Pointer, filler-past, array_at, structure_at}
use Rattle.cc_print.proofs.values.+values.Goals as goal

pub put_value-put_elements-requires : goal.put_value-put_elements-requires
put_value-put_elements-requires t c =
    let e : c.get-in-Array.result.now ≡ c.in-Array.of = c.get-in-Array.ensures in
    let below = arrays-Array c.args.t.now c.in-Array.of c.in-Array.n c.in-Array.is ∙ ap (λ x. arrays x + 1) (sym e) in
    (omega (arith, below), tt)

pub put_value-put_members-requires : goal.put_value-put_members-requires
put_value-put_members-requires t c =
    let s = c.args.structures.now in
    let i = c.in-Struct.s in
    let r = c.index-structures-s.result in
    let g = read_at s i r c.index-structures-s.is c.if-s-structures.true in
    let e : c.all-members.result.now ≡ r.members = c.all-members.ensures ∙ ap (λ (x : Structure). x.members) (sym c.index-structures-s.is) in
    let below = structure_below s i r g in
    let same = ap in_members e in
    (omega (arith, below, same), tt)

pub put_members-put_value-requires : goal.put_members-put_value-requires
put_members-put_value-requires t c =
    let below = member_below c.args.members.now (c.loop-i.i - 1) c.index-members-i.result (read_at c.args.members.now (c.loop-i.i - 1) c.index-members-i.result c.index-members-i.is (omega arith)) in
    let same = ap (λ (m : Named). arrays m.1) c.index-members-i.is in
    (omega (arith, below, same), tt)

pub put_members-put_value-requires-2 : goal.put_members-put_value-requires-2
put_members-put_value-requires-2 t c =
    let below = member_below c.args.members.now 0 c.index-members-0.result (read_at c.args.members.now 0 c.index-members-0.result c.index-members-0.is (omega arith)) in
    let same = ap (λ (m : Named). arrays m.1) c.index-members-0.is in
    (omega (arith, below, same), tt)

pub put_value-returns-in-Int : goal.put_value-returns-in-Int
put_value-returns-in-Int t c =
    rw (filler-Int c.args.source.program.now c.args.source.leaves.now c.args.structures.now c.args.t.now (filled c.args.left (pieces_of c.args.out.now.items)) c.in-Int.i c.in-Int.is) c.put_int.ensures

pub put_value-returns-in-Pointer : goal.put_value-returns-in-Pointer
put_value-returns-in-Pointer t c =
    rw (filler-Pointer c.args.source.program.now c.args.source.leaves.now c.args.structures.now c.args.t.now (filled c.args.left (pieces_of c.args.out.now.items)) c.in-Pointer.to c.in-Pointer.is, ← c.get.ensures)
    c.put_pointer.ensures

pub put_value-returns-in_ok-mark-in-Array-2 : goal.put_value-returns-in_ok-mark-in-Array-2
put_value-returns-in_ok-mark-in-Array-2 t c =
    array_at c.args.source.program.now c.args.source.leaves.now c.args.structures.now c.args.t.now c.in-Array.of _ c.in-Array.n c.args.left _ _ _ _ _ c.in-Array.is c.get-in-Array.ensures
    c.in_ok-mark-in-Array.ensures c.in_ok-left-in-Array.ensures c.in_ok-mark-in-Array-2.ensures

pub put_value-returns-in_ok-mark-in-Struct-2 : goal.put_value-returns-in_ok-mark-in-Struct-2
put_value-returns-in_ok-mark-in-Struct-2 t c =
    let r = c.index-structures-s.result in
    structure_at c.args.source.program.now c.args.source.leaves.now c.args.structures.now c.args.t.now c.in-Struct.s r c.all-members.result.now c.args.left _ _ _ _ _ c.in-Struct.is c.if-s-structures.true
    c.index-structures-s.is (c.all-members.ensures ∙ ap (λ (x : Structure). x.members) (sym c.index-structures-s.is))
    c.in_ok-mark-in-Struct.ensures c.in_ok-left-in-Struct.ensures c.in_ok-mark-in-Struct-2.ensures

pub put_value-returns-else-s-structures : goal.put_value-returns-else-s-structures
put_value-returns-else-s-structures t c =
    sym (filler-past c.args.source.program.now c.args.source.leaves.now c.args.structures.now c.args.t.now _ c.in-Struct.s c.in-Struct.is c.if-s-structures.false)
