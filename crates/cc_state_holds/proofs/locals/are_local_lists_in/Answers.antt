-- Local by local.
use Rattle.std.proofs.Common.{arith, ◌≡◌, ℕ, List, refl, sym, ap, ◌∙◌, slice_get, subst}
use Rattle.std.specs.Borrow.{Bor}
use Rattle.std.specs.Option.{option_copied}
use Rattle.std.specs.Prelude.{Option, Vec, option_map}
use Rattle.std.specs.declared.alloc.Global.{Global}
use Rattle.cc_cells.specs.Cells.{cells_of}
use Rattle.cc_program.specs.declared.value.Value.{Value}
use Rattle.cc_state_reads.specs.CcStateFacts.declared.facts.Key.{Key}
use Rattle.cc_state_holds.proofs.Eaches.{each_more, each_all, at_place}
use Rattle.cc_state_holds.proofs.Statics.{look_up}
use Rattle.cc_state_holds.proofs.locals.are_local_lists_in.Goals as goal
use Rattle.cc_state_holds.specs.Parts.{IsLocalIn}
use Rattle.cc_state_reads.specs.CcStateOperators.Domains.{domain}

-- what the code finds is what the view has
h_at : (locals : List (Vec (Option Value) Global)) (r : ℕ) (o : Option (Bor (Vec (Option Value) Global))) → option_copied o ≡ slice_get locals r → slice_get (cells_of locals) r ≡ option_map (λ v. v.items) (option_copied o)
h_at locals r o e = look_up locals r ∙ ap (option_map (λ v. v.items)) (sym e)

pub loop-r-init : goal.loop-r-init
loop-r-init g c = λ f e n x l k. absurd (omega (arith, l))

pub loop-r-preserved : goal.loop-r-preserved
loop-r-preserved g c = λ f e.
    (let d = domain g.I.Concrete.Has g.I.Lattice.IsBelow g.I.IntDomain.OpGives g.I.IntDomain.OpOneGives g.I.IntDomain.ToGives g.I.IntDomain.KeepGives g.I.IntDomain.members_of in
    let xs = c.args.keys.now in
    let keys = c.index-keys-r.result in
    each_more (λ r (ks : List Key). IsLocalIn d c.args.b.now.program.now c.args.b.now.facts.now f r ks (slice_get (cells_of c.args.locals.now) r)) xs c.loop-r.r keys (at_place xs c.loop-r.r keys c.loop-r-test.true c.index-keys-r.is) (c.loop-r.invariant f e)
    (λ none values h.
    subst (λ (ks : List Key). IsLocalIn d c.args.b.now.program.now c.args.b.now.facts.now f c.loop-r.r ks (option_map (λ v. v.items) (option_copied c.at.result))) c.all.ensures ((c.if-not-is_local_in.ensures f e).0 refl) none values
    (sym (h_at c.args.locals.now c.loop-r.r c.at.result c.at.ensures) ∙ h)))

pub returns-then-not-is_local_in : goal.returns-then-not-is_local_in
returns-then-not-is_local_in g c = λ f e.
    (let d = domain g.I.Concrete.Has g.I.Lattice.IsBelow g.I.IntDomain.OpGives g.I.IntDomain.OpOneGives g.I.IntDomain.ToGives g.I.IntDomain.KeepGives g.I.IntDomain.members_of in
    let xs = c.args.keys.now in
    let keys = c.index-keys-r.result in
    let held = option_map (λ v. v.items) (option_copied c.at.result) in
    let its = h_at c.args.locals.now c.loop-r.r c.at.result c.at.ensures in (
      (λ t. cc),
      (λ h. (c.if-not-is_local_in.ensures f e).1 (subst (λ (ks : List Key). IsLocalIn d c.args.b.now.program.now c.args.b.now.facts.now f c.loop-r.r ks held) (sym c.all.ensures)
          (λ none values k. h c.loop-r.r keys (at_place xs c.loop-r.r keys c.loop-r-test.true c.index-keys-r.is) none values (its ∙ k)))),
    ))

pub returns : goal.returns
returns g c = λ f e.
    (let d = domain g.I.Concrete.Has g.I.Lattice.IsBelow g.I.IntDomain.OpGives g.I.IntDomain.OpOneGives g.I.IntDomain.ToGives g.I.IntDomain.KeepGives g.I.IntDomain.members_of in
    ((λ t. each_all (λ r (ks : List Key). IsLocalIn d c.args.b.now.program.now c.args.b.now.facts.now f r ks (slice_get (cells_of c.args.locals.now) r)) c.args.keys.now c.loop-r.r (omega (arith, c.loop-r-test.false)) (c.loop-r.invariant f e)), (λ h. refl)))
