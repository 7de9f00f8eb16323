-- What is left, and the cells so far, are as many as there have to be.
use Rattle.std.proofs.Common.{arith, ◌≡◌, ◌≤◌, ◌+◌, ℕ, take, length, get_or, ap, subst, ◌∙◌}
use Rattle.std.proofs.lemmas.List.{take_all}
use Rattle.std.proofs.lemmas.List.Sums.{sum_by_more, sum_by_more_le}
use Rattle.std.specs.List.{sum_by}
use Rattle.cc_state_reads.specs.CcStateFacts.declared.facts.Row.{Row}
use Rattle.cc_state_shaped.specs.Parts.{cells_in}
use Rattle.cc_state_shaped.proofs.Tests.{at_end}
use Rattle.cc_state_shaped.proofs.rows.have_cells.Goals as goal

pub loop-row-preserved : goal.loop-row-preserved
loop-row-preserved g c =
    let xs = c.args.rows.now in
    let n = c.loop-row.row-index in
    let row = c.row-item.result in
    let more : sum_by cells_in (take (n + 1) xs) ≡ sum_by cells_in (take n xs) + cells_in (get_or xs n row) = sum_by_more cells_in xs n row (omega (arith, c.loop-row-test.true)) in
    let same : cells_in row ≡ cells_in (get_or xs n row) = ap cells_in c.row-item.is in
    let size : length c.all-length.result.now ≡ cells_in row = ap length (c.all-length.ensures ∙ ap (λ (r : Row g.row.I.Denot). r.cells) c.get.ensures) in
    omega (arith, more, same, size)

pub returns-then-left-length : goal.returns-then-left-length
returns-then-left-length g c =
    let xs = c.args.rows.now in
    let n = c.loop-row.row-index in
    let row = c.row-item.result in
    let more : sum_by cells_in (take n xs) + cells_in (get_or xs n row) ≤ sum_by cells_in xs = sum_by_more_le cells_in xs n row (omega (arith, c.loop-row-test.true)) in
    let same : cells_in row ≡ cells_in (get_or xs n row) = ap cells_in c.row-item.is in
    let size : length c.all-length.result.now ≡ cells_in row = ap length (c.all-length.ensures ∙ ap (λ (r : Row g.row.I.Denot). r.cells) c.get.ensures) in
    ((λ e. absurd (cc)), (λ h. absurd (omega (arith, more, same, size, h))))

pub returns : goal.returns
returns g c =
    let xs = c.args.rows.now in
    let all : sum_by cells_in (take c.loop-row.row-index xs) ≡ sum_by cells_in xs = ap (sum_by cells_in) (take_all c.loop-row.row-index xs (omega (arith, c.loop-row-test.false))) in
    at_end c.loop-row.left (sum_by cells_in xs) c.args.count (subst (λ (k : ℕ). c.loop-row.left + k ≡ c.args.count) all c.loop-row.invariant)
