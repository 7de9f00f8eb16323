-- Lines are what was read of rows.
use Rattle.std.proofs.Common.{◌≡◌, ℤ, List, map, subst, IfOk, Option, Some}
use Rattle.std.specs.Prelude.{IfErr}
use Rattle.cc_rows.specs.Rows.{rows_of}
use Rattle.cc_run.specs.Inputs.{input_in, line_of, input_of}
use Rattle.cc_run.specs.Outcomes.{TellsRow, first_none}
use Rattle.cc_run.proofs.Coming.{picked-lines}
use Rattle.cc_run.proofs.inputs.read_inputs.Goals as goal

pub returns-clause-list : goal.returns-clause-list
returns-clause-list c =
    let e : map input_of c.as_slice.result.now ≡ map input_in (rows_of c.args.text.now) =
    picked-lines line_of input_of (rows_of c.args.text.now) c.in_ok-lines.lines.items c.as_slice.result.now c.in_ok-lines.ensures.lines c.as_slice.ensures.value in
    subst (λ (os : List (Option ℤ)). IfOk c.inputs_in.result (λ inputs. map Some inputs.items ≡ os)) e c.inputs_in.ensures.list

pub returns-clause-fault : goal.returns-clause-fault
returns-clause-fault c =
    let e : map input_of c.as_slice.result.now ≡ map input_in (rows_of c.args.text.now) =
    picked-lines line_of input_of (rows_of c.args.text.now) c.in_ok-lines.lines.items c.as_slice.result.now c.in_ok-lines.ensures.lines c.as_slice.ensures.value in
    subst (λ (os : List (Option ℤ)). IfErr c.inputs_in.result (λ fault. TellsRow (first_none os) fault)) e c.inputs_in.ensures.fault
