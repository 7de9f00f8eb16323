use Rattle.std.proofs.Common.{◌≡◌, IsTrue, false}
use Rattle.std.proofs.lemmas.Result.{err_from_is_err_and}
use Rattle.cc_edge.specs.Faults.{Rose}
use Rattle.cc_files.specs.Unread.{texts_of}
use Rattle.cc_packing.specs.Asked.{asked_of}
use Rattle.cc_packing.specs.Ends.{AtFiles}
use Rattle.cc_packing.proofs.ProgramTexts.{pack-refusal}
use Rattle.cc_packing.proofs.Reading.{asked-made, texts-end, no-file}
use Rattle.cc_packing.proofs.packing.texts_asked.Goals as goal

pub returns-in_err-material-clause-ends : goal.returns-in_err-material-clause-ends
returns-in_err-material-clause-ends g c =
    let p = err_from_is_err_and c.from_residual.result c.from_residual.ensures.1 in
    rw (p.1, p.2) (λ n told. AtFiles c.in_err-material.field-0.0 (c.in_err-material.ensures.ends n told))

pub returns-in_err-material-clause-refusal : goal.returns-in_err-material-clause-refusal
returns-in_err-material-clause-refusal g c =
    let p = err_from_is_err_and c.from_residual.result c.from_residual.ensures.1 in
    rw (p.1, p.2) (pack-refusal c.in_err-material.field-0.0 c.in_err-material.ensures.refusal)

pub returns-in_err-material-clause-untold : goal.returns-in_err-material-clause-untold
returns-in_err-material-clause-untold g c =
    let p = err_from_is_err_and c.from_residual.result c.from_residual.ensures.1 in
    rw (p.1, p.2) c.in_err-material.ensures.untold

pub returns-clause-asked : goal.returns-clause-asked
returns-clause-asked g c =
    let same : c.as_slice.result.now ≡ c.in_ok-material.material.sources.items = c.as_slice.ensures.value in
    asked-made (g.F.Store.files c.args.store.now) (asked_of c.args.asked.now) c.in_ok-material.material.profile (texts_of c.in_ok-material.material.sources.items) (IsTrue (g.F.Store.told c.args.store.now)) c.in_ok-material.ensures.profile c.in_ok-material.ensures.sources
    c.texts_of_sources.result (rw same at c.texts_of_sources.ensures.made)

pub returns-clause-ends : goal.returns-clause-ends
returns-clause-ends g c =
    let same : c.as_slice.result.now ≡ c.in_ok-material.material.sources.items = c.as_slice.ensures.value in
    texts-end (g.F.Store.files c.args.store.now) (asked_of c.args.asked.now) c.in_ok-material.material.profile (texts_of c.in_ok-material.material.sources.items) (IsTrue (g.F.Store.told c.args.store.now)) c.in_ok-material.ensures.profile c.in_ok-material.ensures.sources
    (Rose (g.F.Store.faults c.args.store.now) (g.F.Store.faults c.read_material.new.store)) c.texts_of_sources.result (rw same at c.texts_of_sources.ensures.ends)

pub returns-clause-untold : goal.returns-clause-untold
returns-clause-untold g c =
    no-file (asked_of c.args.asked.now) (Rose (g.F.Store.faults c.args.store.now) (g.F.Store.faults c.read_material.new.store)) (g.F.Store.told c.args.store.now ≡ false) (g.F.Store.taken c.args.store.now) (g.F.Store.taken c.read_material.new.store)
    c.texts_of_sources.result c.texts_of_sources.ensures.no_file
