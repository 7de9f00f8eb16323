-- Object by object.
use Rattle.std.proofs.Common.{arith, ◌≡◌, ℕ, List, refl, sym, ap, ◌∙◌, slice_get, subst}
use Rattle.std.specs.Borrow.{Bor}
use Rattle.std.specs.Option.{option_copied}
use Rattle.std.specs.Prelude.{Option, Vec, option_map}
use Rattle.std.specs.declared.alloc.Global.{Global}
use Rattle.cc_cells.specs.Cells.{cells_of}
use Rattle.cc_program.specs.declared.value.Value.{Value}
use Rattle.cc_state_reads.specs.CcStateFacts.declared.facts.Key.{Key}
use Rattle.cc_state_holds.proofs.Eaches.{each_more, each_all, at_place}
use Rattle.cc_state_holds.proofs.Statics.{look_up}
use Rattle.cc_state_holds.proofs.objects.are_objects_in.Goals as goal
use Rattle.cc_state_holds.specs.Parts.{IsObjectIn}
use Rattle.cc_state_reads.specs.CcStateOperators.Domains.{domain}

-- what the code finds is what the view has
h_at : (statics : List (Vec Value Global)) (i : ℕ) (o : Option (Bor (Vec Value Global))) → option_copied o ≡ slice_get statics i → slice_get (cells_of statics) i ≡ option_map (λ v. v.items) (option_copied o)
h_at statics i o e = look_up statics i ∙ ap (option_map (λ v. v.items)) (sym e)

pub loop-i-init : goal.loop-i-init
loop-i-init g c = λ n x l k. absurd (omega (arith, l))

pub loop-i-preserved : goal.loop-i-preserved
loop-i-preserved g c =
    let d = domain g.I.Concrete.Has g.I.Lattice.IsBelow g.I.IntDomain.OpGives g.I.IntDomain.OpOneGives g.I.IntDomain.ToGives g.I.IntDomain.KeepGives g.I.IntDomain.members_of in
    let xs = c.args.b.now.objects.now in
    let keys = c.keys-item.result in
    each_more (λ i (ks : List Key). IsObjectIn d c.args.b.now.program.now c.args.b.now.facts.now ks (slice_get (cells_of c.args.statics.now) i)) xs c.loop-i.i keys (at_place xs c.loop-i.i keys c.loop-i-test.true c.keys-item.is) c.loop-i.invariant
    (λ values h. subst (λ (ks : List Key). IsObjectIn d c.args.b.now.program.now c.args.b.now.facts.now ks (option_map (λ v. v.items) (option_copied c.at.result))) c.all.ensures (c.if-not-is_object_in.ensures.0 refl) values (sym (h_at c.args.statics.now c.loop-i.i c.at.result c.at.ensures) ∙ h))

pub returns-then-not-is_object_in : goal.returns-then-not-is_object_in
returns-then-not-is_object_in g c =
    let d = domain g.I.Concrete.Has g.I.Lattice.IsBelow g.I.IntDomain.OpGives g.I.IntDomain.OpOneGives g.I.IntDomain.ToGives g.I.IntDomain.KeepGives g.I.IntDomain.members_of in
    let xs = c.args.b.now.objects.now in
    let keys = c.keys-item.result in
    let held = option_map (λ v. v.items) (option_copied c.at.result) in
    let its = h_at c.args.statics.now c.loop-i.i c.at.result c.at.ensures in (
      (λ t. cc),
      (λ h. c.if-not-is_object_in.ensures.1 (subst (λ (ks : List Key). IsObjectIn d c.args.b.now.program.now c.args.b.now.facts.now ks held) (sym c.all.ensures)
          (λ values e. h c.loop-i.i keys (at_place xs c.loop-i.i keys c.loop-i-test.true c.keys-item.is) values (its ∙ e)))),
    )

pub returns : goal.returns
returns g c =
    let d = domain g.I.Concrete.Has g.I.Lattice.IsBelow g.I.IntDomain.OpGives g.I.IntDomain.OpOneGives g.I.IntDomain.ToGives g.I.IntDomain.KeepGives g.I.IntDomain.members_of in
    let xs = c.args.b.now.objects.now in
    ((λ t. each_all (λ i (ks : List Key). IsObjectIn d c.args.b.now.program.now c.args.b.now.facts.now ks (slice_get (cells_of c.args.statics.now) i)) xs c.loop-i.i (omega (arith, c.loop-i-test.false)) c.loop-i.invariant), (λ h. refl))
