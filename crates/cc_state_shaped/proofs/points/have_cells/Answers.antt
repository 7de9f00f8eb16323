use Rattle.std.proofs.Common.{arith, ◌≡◌, ◌↔◌, IsTrue, List, length, ap, ◌∙◌, subst}
use Rattle.cc_state.specs.Shape.{AreSets, IsTrackedType}
use Rattle.cc_state_reads.specs.CcStateFacts.declared.facts.Row.{Row}
use Rattle.cc_state_reads.specs.CcStateFacts.Facts.{cell_of}
use Rattle.cc_state_reads.proofs.CcStateKeys.FactCounts.{few_tracked}
use Rattle.cc_state_reads.specs.CcStateKeys.Tracked.{tracked}
use Rattle.cc_state_reads.specs.CcStateOperators.Domains.{domain}
use Rattle.cc_state_shaped.proofs.Tests.{both, not_first}
use Rattle.cc_state_shaped.specs.Parts.{cell_count, AreFilled}
use Rattle.cc_state_shaped.proofs.points.have_cells.Goals as goal

pub overflow_cast-count : goal.overflow_cast-count
overflow_cast-count g c = record { fits = omega (arith, ap length c.all-count.ensures, ap length c.requires.tracked, few_tracked c.args.layout.now.program.now) }

pub returns-then-are_rows : goal.returns-then-are_rows
returns-then-are_rows g c =
    let d = domain g.I.Concrete.Has g.I.Lattice.IsBelow g.I.IntDomain.OpGives g.I.IntDomain.OpOneGives g.I.IntDomain.ToGives g.I.IntDomain.KeepGives g.I.IntDomain.members_of in
    let p = c.args.layout.now.program.now in
    let fact = c.args.fact.now in
    let rows = c.all.result.now in
    let n = length (tracked p) in
    let count : length c.all-count.result.now ≡ n = ap length (c.all-count.ensures ∙ c.requires.tracked) in
    subst (λ (ls : List (Row g.row.I.Denot)). IsTrue c.have_cell_sets.result ↔ (((cell_count ls ≡ n) × AreFilled ls) × AreSets d p n (cell_of fact) (IsTrackedType d p))) c.all.ensures
    (both c.are_rows.result c.have_cell_sets.result (subst (λ k. IsTrue c.are_rows.result ↔ ((cell_count rows ≡ k) × AreFilled rows)) count c.are_rows.ensures) c.if-are_rows.true
    (subst (λ k. IsTrue c.have_cell_sets.result ↔ AreSets d p k (cell_of fact) (IsTrackedType d p)) count c.have_cell_sets.ensures))

pub returns-else-are_rows : goal.returns-else-are_rows
returns-else-are_rows g c =
    let d = domain g.I.Concrete.Has g.I.Lattice.IsBelow g.I.IntDomain.OpGives g.I.IntDomain.OpOneGives g.I.IntDomain.ToGives g.I.IntDomain.KeepGives g.I.IntDomain.members_of in
    let p = c.args.layout.now.program.now in
    let fact = c.args.fact.now in
    let rows = c.all.result.now in
    let n = length (tracked p) in
    let count : length c.all-count.result.now ≡ n = ap length (c.all-count.ensures ∙ c.requires.tracked) in
    subst (λ (ls : List (Row g.row.I.Denot)). IsTrue c.are_rows.result ↔ (((cell_count ls ≡ n) × AreFilled ls) × AreSets d p n (cell_of fact) (IsTrackedType d p))) c.all.ensures
    (not_first c.are_rows.result (subst (λ k. IsTrue c.are_rows.result ↔ ((cell_count rows ≡ k) × AreFilled rows)) count c.are_rows.ensures) c.if-are_rows.false)
