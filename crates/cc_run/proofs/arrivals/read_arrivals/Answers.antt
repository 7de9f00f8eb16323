-- Lines are what was read of rows.
use Rattle.std.proofs.Common.{◌≡◌, List, map, subst, IfOk, Option, Some}
use Rattle.std.specs.Prelude.{IfErr}
use Rattle.cc_program.specs.declared.func.Func.{Func}
use Rattle.cc_rows.specs.Rows.{rows_of}
use Rattle.cc_run.specs.declared.arrivals.Written.{Written}
use Rattle.cc_run.specs.Arrivals.{written_in, line_of, written_of, arrivals_from}
use Rattle.cc_run.specs.Outcomes.{TellsRow, first_none}
use Rattle.cc_run.proofs.Coming.{picked-lines}
use Rattle.cc_run.proofs.arrivals.read_arrivals.Goals as goal

pub returns-clause-list : goal.returns-clause-list
returns-clause-list c =
    let e : map written_of c.as_slice.result.now ≡ map written_in (rows_of c.args.text.now) =
    picked-lines line_of written_of (rows_of c.args.text.now) c.in_ok-lines.lines.items c.as_slice.result.now c.in_ok-lines.ensures.lines c.as_slice.ensures.value in
    subst (λ (fs : List Func). IfOk c.arrivals_in.result (λ arrivals. map Some arrivals.items ≡ arrivals_from fs 0 (map written_in (rows_of c.args.text.now)))) c.all.ensures
    (subst (λ (ws : List (Option Written)). IfOk c.arrivals_in.result (λ arrivals. map Some arrivals.items ≡ arrivals_from c.all.result.now 0 ws)) e c.arrivals_in.ensures.list)

pub returns-clause-fault : goal.returns-clause-fault
returns-clause-fault c =
    let e : map written_of c.as_slice.result.now ≡ map written_in (rows_of c.args.text.now) =
    picked-lines line_of written_of (rows_of c.args.text.now) c.in_ok-lines.lines.items c.as_slice.result.now c.in_ok-lines.ensures.lines c.as_slice.ensures.value in
    subst (λ (fs : List Func). IfErr c.arrivals_in.result (λ fault. TellsRow (first_none (arrivals_from fs 0 (map written_in (rows_of c.args.text.now)))) fault)) c.all.ensures
    (subst (λ (ws : List (Option Written)). IfErr c.arrivals_in.result (λ fault. TellsRow (first_none (arrivals_from c.all.result.now 0 ws)) fault)) e c.arrivals_in.ensures.fault)
