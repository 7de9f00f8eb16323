use Rattle.std.proofs.Common.{◌≡◌, List, ℕ, IfOk, subst}
use Rattle.cc_table.proofs.RowLemmas.{header-row}
use Rattle.cc_table.proofs.rows.header_line.Goals as goal

pub returns : goal.returns
returns c =
    let h = rw (c.as_slice.ensures, c.as_slice-2.ensures, c.as_slice-3.ensures, c.as_slice-4.ensures, c.as_slice-5.ensures, c.as_slice-6.ensures, c.as_slice-7.ensures) at c.line.ensures in
    subst (λ (t : List ℕ). IfOk c.line.result (λ v. v.items ≡ t)) header-row h
