-- The row as it is where no register equals a cell, else cell by cell.
use Rattle.std.proofs.Common.{◌≡◌, false, ap, sym, subst, ◌∙◌}
use Rattle.std.proofs.lemmas.Result.{IfOk-weaker}
use Rattle.cc_rules_sides.specs.Refined.{AreCellsLeft, IsNumbered, has_pairs_in}
use Rattle.cc_rules_sides.proofs.RowLemmas.{none_in_row, same_cells}
use Rattle.cc_rules_flows.specs.CcStateFacts.declared.facts.Row.{Row}
use Rattle.cc_rules_flows.specs.CcStateOperators.Domains.{domain}
use Rattle.cc_rules_sides.proofs.cells.left_row.Goals as goal

pub returns-then-not-has_pairs_in : goal.returns-then-not-has_pairs_in
returns-then-not-has_pairs_in g c =
    let fact = c.args.fact.now in
    let row = c.args.row.now in
    let number = c.args.number in
    let none : has_pairs_in fact.same number ≡ false = ap (λ ps. has_pairs_in ps number) (sym c.all.ensures) ∙ (sym c.has_pairs_in.ensures ∙ c.if-not-has_pairs_in.true) in
    record {
      trial = c.requires.trial;
      left = IfOk-weaker c.share.result _ _ (λ made e. same_cells (domain g.I.Concrete.Has g.I.Lattice.IsBelow g.I.IntDomain.OpGives g.I.IntDomain.OpOneGives g.I.IntDomain.ToGives g.I.IntDomain.KeepGives g.I.IntDomain.members_of) c.args.tested.now fact number row.cells made.cells (λ m at l. none_in_row fact.same number at m (c.requires.cells at l).0 none) (ap (λ (x : Row g.row.I.Denot). x.cells) e)) c.share.ensures;
    }

pub left_cells-requires : goal.left_cells-requires
left_cells-requires g c = record {
  tested = c.requires.tested;
  trial = c.requires.trial;
  registers = c.requires.registers;
  few = c.requires.few;
  cells = subst (IsNumbered c.args.number) (sym (c.all-2.ensures ∙ ap (λ (x : Row g.row.I.Denot). x.cells) c.get.ensures)) c.requires.cells;
}

pub returns : goal.returns
returns g c =
    let d = (domain g.I.Concrete.Has g.I.Lattice.IsBelow g.I.IntDomain.OpGives g.I.IntDomain.OpOneGives g.I.IntDomain.ToGives g.I.IntDomain.KeepGives g.I.IntDomain.members_of) in
    let t = c.args.tested.now in
    let fact = c.args.fact.now in
    let row = c.args.row.now in
    let number = c.args.number in
    let same = c.all-2.ensures ∙ ap (λ (x : Row g.row.I.Denot). x.cells) c.get.ensures in
    let left : AreCellsLeft d t fact number row.cells c.in_ok-cells.cells.items = subst (λ xs. AreCellsLeft d t fact number xs c.in_ok-cells.cells.items) same c.in_ok-cells.ensures.left in
    record {
      trial = c.left_cells.ensures.trial;
      left = IfOk-weaker c.new.result _ _ (λ made e. subst (λ xs. AreCellsLeft d t fact number row.cells xs) (sym (ap (λ (x : Row g.row.I.Denot). x.cells) e ∙ c.of-cells.ensures)) left) c.new.ensures;
    }
