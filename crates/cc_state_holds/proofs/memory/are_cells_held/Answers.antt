-- Cell by cell.
use Rattle.std.proofs.Common.{arith, ℕ, get_or, refl, sym, ◌∙◌}
use Rattle.std.proofs.lemmas.Option.{slice_get-get_or}
use Rattle.cc_cells.specs.Cells.{cells_of, scalar_in}
use Rattle.cc_state_holds.proofs.Eaches.{each_more, each_all}
use Rattle.cc_state_holds.proofs.memory.are_cells_held.Goals as goal
use Rattle.cc_state_holds.specs.Parts.{IsCellHeld}
use Rattle.cc_state_reads.specs.CcStateOperators.Domains.{domain}

pub loop-i-init : goal.loop-i-init
loop-i-init g c = λ n x l k. absurd (omega (arith, l))

pub loop-i-preserved : goal.loop-i-preserved
loop-i-preserved g c =
    let d = domain g.I.Concrete.Has g.I.Lattice.IsBelow g.I.IntDomain.OpGives g.I.IntDomain.OpOneGives g.I.IntDomain.ToGives g.I.IntDomain.KeepGives g.I.IntDomain.members_of in
    let xs = c.args.b.now.tracked.now in
    each_more (λ (k i : ℕ). IsCellHeld d c.args.b.now.program.now c.args.fact.now i (scalar_in (cells_of c.args.statics.now) i 0)) xs c.loop-i.i-index (get_or xs c.loop-i.i-index 0)
    (slice_get-get_or xs c.loop-i.i-index 0 c.loop-i-test.true) c.loop-i.invariant (λ x h. c.if-not-is_cell_held.ensures.0 refl x (c.read_scalar.ensures 0 refl ∙ h))

pub returns-then-not-is_cell_held : goal.returns-then-not-is_cell_held
returns-then-not-is_cell_held g c =
    let xs = c.args.b.now.tracked.now in
    ((λ t. cc), (λ h. c.if-not-is_cell_held.ensures.1 (λ x k. h c.loop-i.i-index (get_or xs c.loop-i.i-index 0) (slice_get-get_or xs c.loop-i.i-index 0 c.loop-i-test.true) x (sym (c.read_scalar.ensures 0 refl) ∙ k))))

pub returns : goal.returns
returns g c =
    let d = domain g.I.Concrete.Has g.I.Lattice.IsBelow g.I.IntDomain.OpGives g.I.IntDomain.OpOneGives g.I.IntDomain.ToGives g.I.IntDomain.KeepGives g.I.IntDomain.members_of in
    let xs = c.args.b.now.tracked.now in
    ((λ t. each_all (λ (k i : ℕ). IsCellHeld d c.args.b.now.program.now c.args.fact.now i (scalar_in (cells_of c.args.statics.now) i 0)) xs c.loop-i.i-index (omega (arith, c.loop-i-test.false)) c.loop-i.invariant), (λ h. refl))
