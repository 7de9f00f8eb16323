use Rattle.std.proofs.Common.{◌≡◌, List, ℕ, IfOk, subst}
use Rattle.cc_table.proofs.RowLemmas.{total-row}
use Rattle.cc_table.proofs.rows.total_line.Goals as goal

pub returns : goal.returns
returns c =
    let h = rw (
      c.as_slice.ensures,
      c.as_bytes.ensures.value,
      c.in_ok-before.ensures.ok,
      c.as_bytes-2.ensures.value,
      c.in_ok-after.ensures.ok,
      c.as_slice-2.ensures,
      c.as_slice-3.ensures,
      c.as_slice-4.ensures,
      c.as_slice-5.ensures,
    ) at c.line.ensures in
    subst (λ (t : List ℕ). IfOk c.line.result (λ v. v.items ≡ t)) (total-row c.args.before c.args.after c.ranges.before.fits c.ranges.after.fits) h
