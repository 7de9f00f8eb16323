-- The keys are copied, and the parts are joined place by place.
use Rattle.std.proofs.Common.{sym, ◌∙◌}
use Rattle.cc_lattice.proofs.Joins.{tables_join}
use Rattle.cc_lattice.proofs.table.TableLattice.join.Goals as goal

pub returns : goal.returns
returns g c =
    let m = g.L.Lattice in
    tables_join m.AreAlike m.IsBelow c.args.self.now c.args.other.now (record { keys = c.of.result; parts = c.of-2.result }) c.requires
    (sym (c.of.ensures ∙ (c.in_ok-keys.ensures ∙ c.all.ensures)))
    (rw (← c.all-2.ensures, ← c.all-3.ensures, c.of-2.ensures) c.in_ok-parts.ensures)
