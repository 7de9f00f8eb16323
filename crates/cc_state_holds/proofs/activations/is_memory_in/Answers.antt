-- By the flag, the cells and the pairs.
use Rattle.std.proofs.Common.{List, ℕ, subst}
use Rattle.std.specs.Option.{option_copied}
use Rattle.std.specs.Prelude.{◌↔◌, IsTrue}
use Rattle.cc_cells.specs.Cells.{cells_of}
use Rattle.cc_proof_covers.specs.Pending.{value_in}
use Rattle.cc_state_holds.proofs.Right.{other_flag, other_cells, by_pairs}
use Rattle.cc_state_holds.proofs.activations.is_memory_in.Goals as goal
use Rattle.cc_state_holds.specs.Parts.{ArePairsHeld}
use Rattle.cc_state_reads.specs.CcStateOperators.Domains.{domain}
use Rattle.cc_steps.specs.View.{active_of}

pub are_cells_held-requires : goal.are_cells_held-requires
are_cells_held-requires g c = c.requires.basis.tracked

pub are_pairs_held-requires : goal.are_pairs_held-requires
are_pairs_held-requires g c = c.requires.basis.tracked

pub returns-then-not-may_be : goal.returns-then-not-may_be
returns-then-not-may_be g c = λ m e.
    other_flag (domain g.I.Concrete.Has g.I.Lattice.IsBelow g.I.IntDomain.OpGives g.I.IntDomain.OpOneGives g.I.IntDomain.ToGives g.I.IntDomain.KeepGives g.I.IntDomain.members_of) c.args.b.now c.requires.basis c.args.place.now c.requires.place m (active_of c.args.a.now) (option_copied c.args.pending) c.args.on (cells_of c.args.statics.now) e c.if-not-may_be.ensures

pub returns-then-not-are_cells_held : goal.returns-then-not-are_cells_held
returns-then-not-are_cells_held g c = λ m e.
    other_cells (domain g.I.Concrete.Has g.I.Lattice.IsBelow g.I.IntDomain.OpGives g.I.IntDomain.OpOneGives g.I.IntDomain.ToGives g.I.IntDomain.KeepGives g.I.IntDomain.members_of) c.args.b.now c.requires.basis c.args.place.now c.requires.place m (active_of c.args.a.now) (option_copied c.args.pending) c.args.on (cells_of c.args.statics.now) e c.if-not-are_cells_held.ensures

pub returns : goal.returns
returns g c = λ m e.
    (let here = c.requires.place in
    let values = value_in (option_copied c.args.pending) (active_of c.args.a.now) in
    by_pairs (domain g.I.Concrete.Has g.I.Lattice.IsBelow g.I.IntDomain.OpGives g.I.IntDomain.OpOneGives g.I.IntDomain.ToGives g.I.IntDomain.KeepGives g.I.IntDomain.members_of) c.args.b.now c.requires.basis c.args.place.now here m (active_of c.args.a.now) (option_copied c.args.pending) c.args.on (cells_of c.args.statics.now) e c.are_pairs_held.result c.if-not-may_be.ensures c.if-not-are_cells_held.ensures
    (subst (λ (pairs : List (ℕ × ℕ)). IsTrue c.are_pairs_held.result ↔ ArePairsHeld c.args.b.now.program.now here.func pairs values (cells_of c.args.statics.now)) c.all-pairs.ensures (c.are_pairs_held.ensures here.func here.registers)))
