use Rattle.std.proofs.Common.{arith, ◌≡◌, ◌<◌, ◌+◌, ◌-◌, ◌∙◌, suc, true, List, [], ◌∷◌, length, take, drop, sym, ap, subst, slice_get, Option, Some, Bor}
use Rattle.std.specs.Option.{option_copied}
use Rattle.cc_program.specs.declared.types.CType.{CType}
use Rattle.cc_program.specs.declared.types.Structure.{Structure}
use Rattle.cc_program.specs.declared.value.Leaf.{Leaf}
use Rattle.cc_typed.specs.CcSyntax.Types.{is_complete}
use Rattle.cc_typed.specs.CcSyntax.Values.{pointer_to}
use Rattle.cc_typed.specs.View.{value_view}
use Rattle.cc_typed.proofs.CcSyntax.Parts.{all_at}
use Rattle.cc_typed.proofs.CcSyntax.Measure.{arrays, in_members, arrays-Array, member_below, structure_below}
use Rattle.cc_typed.proofs.CcSyntax.Prefixes.{take_length}
use Rattle.cc_typed.proofs.CcSyntax.Shapes.{read_at}
use Rattle.cc_sound.proofs.DropLemmas.{dropped, drop_past}
use Rattle.cc_sound.proofs.LeafLemmas.{Found, SameElements, SameMembers, found_integer, found_pointer, found_array, found_structure, element_more, elements_all, member_more, members_all}
use Rattle.cc_sound.proofs.LeafSteps.{element_ready, struct_found, got_of_all, front_before, members_ready}
use Rattle.cc_sound.proofs.initial.+leaves.Goals as goal

pub behind-behind_elements-requires : goal.behind-behind_elements-requires
behind-behind_elements-requires t c =
    let e : c.get-in-Array.result.now ≡ c.in-Array.of = c.get-in-Array.ensures in
    let below = arrays-Array c.args.t.now c.in-Array.of c.in-Array.count c.in-Array.is ∙ ap (λ x. arrays x + 1) (sym e) in
    let ready = element_ready c.args.before.now c.args.t.now c.in-Array.of c.in-Array.count c.in-Array.is c.requires.complete in
    (omega (arith, below), (c.requires.order, (c.requires.before, subst (λ x. is_complete c.args.before.now x ≡ true) (sym e) ready)))

pub behind-bounds-before-id : goal.behind-bounds-before-id
behind-bounds-before-id t c = struct_found c.args.before.now c.args.t.now c.in-Struct.id c.in-Struct.is c.requires.complete

pub behind-slice_bounds-behind_members-end : goal.behind-slice_bounds-behind_members-end
behind-slice_bounds-behind_members-end t c =
    let s = c.args.before.now in
    let g = read_at s c.in-Struct.id c.index-before-id.result c.index-before-id.is (struct_found s c.args.t.now c.in-Struct.id c.in-Struct.is c.requires.complete) in
    sym (take_length s c.in-Struct.id c.index-before-id.result g)

pub behind-behind_members-requires : goal.behind-behind_members-requires
behind-behind_members-requires t c =
    let all = c.args.p.now.structures in
    let s = c.args.before.now in
    let i = c.in-Struct.id in
    let r = c.index-before-id.result in
    let g = read_at s i r c.index-before-id.is (struct_found s c.args.t.now i c.in-Struct.is c.requires.complete) in
    let e : c.all.result.now ≡ r.members = c.all.ensures ∙ ap (λ (x : Structure). x.members) (sym c.index-before-id.is) in
    let below = structure_below s i r g in
    let same = ap in_members e in
    (omega (arith, below, same), (c.requires.order, (front_before all s i r c.requires.before g, members_ready all s i r c.requires.before g c.requires.order c.all.result.now e)))

pub behind-returns-in-Int : goal.behind-returns-in-Int
behind-returns-in-Int t c = found_integer c.args.p.now c.args.t.now c.in-Int.i c.args.leaves.now _ c.in-Int.is c.behind_integer.ensures

pub behind-returns-in-Pointer : goal.behind-returns-in-Pointer
behind-returns-in-Pointer t c =
    found_pointer c.args.p.now c.args.t.now c.in-Pointer.to (value_view c.pointer_to.result) c.args.leaves.now _ c.in-Pointer.is (c.pointer_to.ensures ∙ ap pointer_to c.get.ensures) c.behind_pointer.ensures

pub behind-returns-in-Array : goal.behind-returns-in-Array
behind-returns-in-Array t c = found_array c.args.p.now c.args.t.now c.in-Array.of c.get-in-Array.result.now c.in-Array.count c.args.leaves.now _ c.in-Array.is c.get-in-Array.ensures c.behind_elements.ensures

pub behind-returns-in-Struct : goal.behind-returns-in-Struct
behind-returns-in-Struct t c =
    let all = c.args.p.now.structures in
    let s = c.args.before.now in
    let i = c.in-Struct.id in
    let r = c.index-before-id.result in
    let g = read_at s i r c.index-before-id.is (struct_found s c.args.t.now i c.in-Struct.is c.requires.complete) in
    let e : c.all.result.now ≡ r.members = c.all.ensures ∙ ap (λ (x : Structure). x.members) (sym c.index-before-id.is) in
    found_structure c.args.p.now c.args.t.now i r c.all.result.now c.args.leaves.now _ c.in-Struct.is (got_of_all all s i r c.requires.before g) e c.behind_members.ensures

pub behind_elements-loop-missing-preserved : goal.behind_elements-loop-missing-preserved
behind_elements-loop-missing-preserved t c =
    let p = c.args.p.now in
    let of = c.args.of.now in
    let left = c.loop-missing.left.now in
    let h : Found p of left (Some c.in_ok-left.left.now) = subst (λ (o : Option (Bor (List Leaf))). Found p of left (option_copied o)) c.in_ok-left.was c.behind.ensures in
    let e : c.loop-missing.missing ≡ suc (c.loop-missing.missing - 1) = omega (arith, c.loop-missing-test.true) in
    let same : SameElements p of (suc (c.loop-missing.missing - 1)) left c.args.count c.args.leaves.now = subst (λ m. SameElements p of m left c.args.count c.args.leaves.now) e c.loop-missing.invariant in
    element_more p of (c.loop-missing.missing - 1) c.args.count left c.in_ok-left.left.now c.args.leaves.now h same

pub behind_elements-returns : goal.behind_elements-returns
behind_elements-returns t c =
    let p = c.args.p.now in
    let of = c.args.of.now in
    let e : c.loop-missing.missing ≡ 0 = omega (arith, c.loop-missing-test.false) in
    let same : SameElements p of 0 c.loop-missing.left.now c.args.count c.args.leaves.now = subst (λ m. SameElements p of m c.loop-missing.left.now c.args.count c.args.leaves.now) e c.loop-missing.invariant in
    λ rest. elements_all p of c.args.count c.loop-missing.left.now c.args.leaves.now rest same

pub behind_members-behind-requires : goal.behind_members-behind-requires
behind_members-behind-requires t c =
    let ms = c.args.members.now in
    let i = c.loop-t.t-index in
    let m = c.loop-t-item.result in
    let g = read_at ms i m c.loop-t-item.is c.loop-t-test.true in
    let below = member_below ms i m g in
    (omega (arith, below), (c.requires.order, (c.requires.before, all_at (λ m. is_complete c.args.before.now m.1 ≡ true) ms i m g c.requires.complete)))

pub behind_members-loop-t-preserved : goal.behind_members-loop-t-preserved
behind_members-loop-t-preserved t c =
    let p = c.args.p.now in
    let ms = c.args.members.now in
    let i = c.loop-t.t-index in
    let m = c.loop-t-item.result in
    let left = c.loop-t.left.now in
    let g = read_at ms i m c.loop-t-item.is c.loop-t-test.true in
    let h : Found p m.1 left (Some c.in_ok-left.left.now) = subst (λ (o : Option (Bor (List Leaf))). Found p m.1 left (option_copied o)) c.in_ok-left.was c.behind.ensures in
    let same : SameMembers p (m ∷ drop (i + 1) ms) left ms c.args.leaves.now = subst (λ l. SameMembers p l left ms c.args.leaves.now) (dropped ms i m g) c.loop-t.invariant in
    member_more p m (drop (i + 1) ms) ms left c.in_ok-left.left.now c.args.leaves.now h same

pub behind_members-returns : goal.behind_members-returns
behind_members-returns t c =
    let p = c.args.p.now in
    let ms = c.args.members.now in
    let same : SameMembers p [] c.loop-t.left.now ms c.args.leaves.now = subst (λ l. SameMembers p l c.loop-t.left.now ms c.args.leaves.now) (drop_past ms c.loop-t.t-index c.loop-t-test.false) c.loop-t.invariant in
    λ rest. members_all p ms c.loop-t.left.now c.args.leaves.now rest same
