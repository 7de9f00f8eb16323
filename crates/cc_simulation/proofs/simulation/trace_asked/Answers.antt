use Rattle.std.proofs.Common.{IsTrue}
use Rattle.std.proofs.lemmas.Result.{err_from_is_err_and}
use Rattle.cc_edge.specs.Faults.{Rose}
use Rattle.cc_files.specs.Unread.{texts_of}
use Rattle.cc_simulation.specs.Asked.{asked_of}
use Rattle.cc_simulation.specs.Ends.{AtFiles}
use Rattle.cc_simulation.proofs.Reading.{asked-made, sources-end}
use Rattle.cc_simulation.proofs.simulation.trace_asked.Goals as goal

pub returns-in_err-material-clause-ends : goal.returns-in_err-material-clause-ends
returns-in_err-material-clause-ends g c =
    let p = err_from_is_err_and c.from_residual.result c.from_residual.ensures.1 in
    rw (p.1, p.2) (λ n told. AtFiles c.requires.steps c.in_err-material.field-0.0 (c.in_err-material.ensures.ends n told))

pub returns-clause-asked : goal.returns-clause-asked
returns-clause-asked g c =
    asked-made (g.F.Store.files c.args.store.now) (asked_of c.args.asked.now) c.requires.steps c.in_ok-material.material.profile c.in_ok-material.material.inputs.items c.in_ok-material.material.arrivals.items
    (texts_of c.in_ok-material.material.sources.items) (IsTrue (g.F.Store.told c.args.store.now)) c.in_ok-material.ensures.read c.trace_of_sources.result c.trace_of_sources.ensures.made

pub returns-clause-ends : goal.returns-clause-ends
returns-clause-ends g c =
    sources-end (g.F.Store.files c.args.store.now) (asked_of c.args.asked.now) c.requires.steps c.in_ok-material.material.profile c.in_ok-material.material.inputs.items c.in_ok-material.material.arrivals.items
    (texts_of c.in_ok-material.material.sources.items) (IsTrue (g.F.Store.told c.args.store.now)) c.in_ok-material.ensures.read (Rose (g.F.Store.faults c.args.store.now) (g.F.Store.faults c.read_material.new.store)) c.trace_of_sources.result
    c.trace_of_sources.ensures.ends
