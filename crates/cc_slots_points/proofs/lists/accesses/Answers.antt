-- Normal form gives few locals, and first each list is empty.
use Rattle.std.proofs.Common.{arith, ap, sym, subst, ◌∙◌, ◌≡◌, ℕ, length, List, []}
use Rattle.std.proofs.lemmas.List.{with_items_is}
use Rattle.cc_program.specs.declared.func.Func.{Func}
use Rattle.cc_slots_accesses.specs.declared.access.Access.{Access}
use Rattle.cc_slots_accesses.specs.Puts.{of_number}
use Rattle.cc_slots_points.specs.Frames.{AreFrames, HaveFewLocals}
use Rattle.cc_slots_points.specs.Lists.{AreLists}
use Rattle.cc_slots_points.proofs.Steps.{first_lists}
use Rattle.cc_state_points.proofs.CcState.Sets.{function_few}
use Rattle.cc_state_points.specs.CcStateOperators.Domains.{domain}
use Rattle.cc_slots_points.proofs.lists.accesses.Goals as goal

pub frames-requires : goal.frames-requires
frames-requires g c = subst HaveFewLocals (sym c.all.ensures) (λ id f e. function_few c.args.p.now c.requires.normal id f e)

pub pass_all-requires-clause-frames : goal.pass_all-requires-clause-frames
pass_all-requires-clause-frames g c =
    subst (AreFrames c.args.p.now.funcs) (sym c.deref.ensures.value) (subst (λ (fs : List Func). AreFrames fs c.in_ok-frames.frames.items) c.all.ensures c.in_ok-frames.ensures)

pub pass_all-requires-clause-lists : goal.pass_all-requires-clause-lists
pass_all-requires-clause-lists g c =
    let d = domain g.I.Concrete.Has g.I.Lattice.IsBelow g.I.IntDomain.OpGives g.I.IntDomain.OpOneGives g.I.IntDomain.ToGives g.I.IntDomain.KeepGives g.I.IntDomain.members_of in
    first_lists d c.args.p.now c.args.facts.now c.deref_mut.result.now (ap length c.deref_mut.ensures.value ∙ (c.in_ok-lists.ensures.many ∙ ap length (c.all-2.ensures ∙ c.requires.shape.keys)))
    (subst (λ (ls : List (List Access)). (n : ℕ) → of_number ls n ≡ []) (sym c.deref_mut.ensures.value) c.in_ok-lists.ensures.empty)

pub returns : goal.returns
returns g c =
    let d = domain g.I.Concrete.Has g.I.Lattice.IsBelow g.I.IntDomain.OpGives g.I.IntDomain.OpOneGives g.I.IntDomain.ToGives g.I.IntDomain.KeepGives g.I.IntDomain.members_of in
    let long = ap length c.deref_mut.ensures.value in
    let kept : length c.pass_all.new.lists ≡ length c.in_ok-lists.lists.items = c.in_ok-pass_all.ensures.length_is ∙ sym (c.in_ok-lists.ensures.many ∙ ap length (c.all-2.ensures ∙ c.requires.shape.keys)) in
    subst (λ (ls : List (List Access)). AreLists d c.args.p.now c.args.facts.now ls) (sym (with_items_is c.in_ok-lists.lists c.pass_all.new.lists (omega (arith, kept)))) c.in_ok-pass_all.ensures
