-- One row after the other.
use Rattle.std.proofs.Common.{◌≡◌, ◌+◌, ◌≤◌, Some, [], length, slice_get, take, arith, ap, sym, subst, ◌∙◌}
use Rattle.std.proofs.lemmas.Option.{slice_get-get_or}
use Rattle.cc_rules_sides.specs.Refined.{AreRowsLeft}
use Rattle.cc_rules_flows.specs.CcStateOperators.Domains.{domain}
use Rattle.cc_rules_sides.proofs.RowLemmas.{all_rows, more_rows, no_rows}
use Rattle.cc_rules_sides.proofs.cells.left_rows.Goals as goal

pub loop-number-init : goal.loop-number-init
loop-number-init g c =
    let d = (domain g.I.Concrete.Has g.I.Lattice.IsBelow g.I.IntDomain.OpGives g.I.IntDomain.OpOneGives g.I.IntDomain.ToGives g.I.IntDomain.KeepGives g.I.IntDomain.members_of) in
    (c.requires.trial, subst (λ xs. AreRowsLeft d c.args.tested.now c.args.fact.now [] xs) (sym c.new-left.ensures.items) (no_rows d c.args.tested.now c.args.fact.now))

pub left_row-requires : goal.left_row-requires
left_row-requires g c =
    let rows = c.all-rows.result.now in
    let i = c.loop-number.number in
    let x = c.index-rows-number.result in
    let is : slice_get c.args.fact.now.rows i ≡ Some x = subst (λ xs. slice_get xs i ≡ Some x) c.all-rows.ensures (slice_get-get_or rows i x c.loop-number-test.true ∙ ap Some (sym c.index-rows-number.is)) in
    record { tested = c.requires.tested; trial = c.loop-number.invariant.0; registers = c.requires.registers; few = c.requires.few; cells = c.requires.cells i x is }

pub loop-number-preserved : goal.loop-number-preserved
loop-number-preserved g c =
    let d = (domain g.I.Concrete.Has g.I.Lattice.IsBelow g.I.IntDomain.OpGives g.I.IntDomain.OpOneGives g.I.IntDomain.ToGives g.I.IntDomain.KeepGives g.I.IntDomain.members_of) in
    let t = c.args.tested.now in
    let fact = c.args.fact.now in
    let rows = c.all-rows.result.now in
    let i = c.loop-number.number in
    let x = c.index-rows-number.result in
    let z = c.in_ok-row.row in
    let is : slice_get fact.rows i ≡ Some x = subst (λ xs. slice_get xs i ≡ Some x) c.all-rows.ensures (slice_get-get_or rows i x c.loop-number-test.true ∙ ap Some (sym c.index-rows-number.is)) in
    (c.left_row.ensures.trial, subst (λ xs. AreRowsLeft d t fact (take (i + 1) fact.rows) xs) (sym c.in_ok-push.ensures.items) (more_rows d t fact fact.rows c.loop-number.left.items i x z is c.loop-number.invariant.1 c.in_ok-row.ensures.left))

pub returns-clause-left : goal.returns-clause-left
returns-clause-left g c =
    let fact = c.args.fact.now in
    let i = c.loop-number.number in
    let end : length fact.rows ≤ i = subst (λ xs. length xs ≤ i) c.all-rows.ensures c.loop-number-test.false in
    all_rows (domain g.I.Concrete.Has g.I.Lattice.IsBelow g.I.IntDomain.OpGives g.I.IntDomain.OpOneGives g.I.IntDomain.ToGives g.I.IntDomain.KeepGives g.I.IntDomain.members_of) c.args.tested.now fact fact.rows c.loop-number.left.items i end c.loop-number.invariant.1
