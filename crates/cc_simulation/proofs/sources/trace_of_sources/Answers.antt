use Rattle.std.proofs.Common.{◌≡◌}
use Rattle.std.proofs.lemmas.Result.{err_from_is_err_and}
use Rattle.cc_files.specs.Unread.{names_of, texts_of}
use Rattle.cc_simulation.specs.Ends.{AreRefused}
use Rattle.cc_simulation.proofs.ProgramTraces.{is-made, not-run, run-refusal}
use Rattle.cc_simulation.proofs.sources.trace_of_sources.Goals as goal

pub returns-in_err-p-clause-ends : goal.returns-in_err-p-clause-ends
returns-in_err-p-clause-ends c =
    let same : c.as_slice.result.now ≡ c.args.material.now.sources.items = c.as_slice.ensures.value in
    let p = err_from_is_err_and c.from_residual.result c.from_residual.ensures.1 in
    rw (p.1, p.2) (λ n. AreRefused c.in_err-p.field-0.0 (rw same at (c.in_err-p.ensures.refused n)))

pub returns-in_err-p-clause-refusal : goal.returns-in_err-p-clause-refusal
returns-in_err-p-clause-refusal c =
    let p = err_from_is_err_and c.from_residual.result c.from_residual.ensures.1 in
    rw (p.1, p.2) (run-refusal c.in_err-p.field-0.0 c.in_err-p.ensures.refusal)

pub returns-in_err-p-clause-no_file : goal.returns-in_err-p-clause-no_file
returns-in_err-p-clause-no_file c =
    let p = err_from_is_err_and c.from_residual.result c.from_residual.ensures.1 in
    rw (p.1, p.2) c.in_err-p.ensures.no_file

pub returns-clause-made : goal.returns-clause-made
returns-clause-made c =
    let same : c.as_slice.result.now ≡ c.args.material.now.sources.items = c.as_slice.ensures.value in
    is-made c.args.material.now.profile (texts_of c.args.material.now.sources.items) c.args.material.now.inputs.items c.args.material.now.arrivals.items
    c.in_ok-p.p (rw same at c.in_ok-p.ensures.program) c.args.steps c.trace_of_program.result c.trace_of_program.ensures.runnable c.trace_of_program.ensures.trace

pub returns-clause-ends : goal.returns-clause-ends
returns-clause-ends c =
    let same : c.as_slice.result.now ≡ c.args.material.now.sources.items = c.as_slice.ensures.value in
    not-run c.args.material.now.profile (texts_of c.args.material.now.sources.items) c.args.material.now.inputs.items c.args.material.now.arrivals.items
    c.in_ok-p.p (rw same at c.in_ok-p.ensures.program) (names_of c.args.names.now) c.trace_of_program.result c.trace_of_program.ensures.ends
