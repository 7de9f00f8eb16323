use Rattle.std.proofs.lemmas.Result.{err_from_is_err_and}
use Rattle.cc_files.specs.Unread.{names_of, texts_of}
use Rattle.cc_packing.specs.Ends.{AreRefused}
use Rattle.cc_packing.proofs.ProgramTexts.{are-made, not-packed, pack-refusal}
use Rattle.cc_packing.proofs.texts.texts_of_sources.Goals as goal

pub returns-in_err-p-clause-ends : goal.returns-in_err-p-clause-ends
returns-in_err-p-clause-ends c =
    let p = err_from_is_err_and c.from_residual.result c.from_residual.ensures.1 in
    rw (p.1, p.2) (λ n. AreRefused c.in_err-p.field-0.0 (c.in_err-p.ensures.refused n))

pub returns-in_err-p-clause-refusal : goal.returns-in_err-p-clause-refusal
returns-in_err-p-clause-refusal c =
    let p = err_from_is_err_and c.from_residual.result c.from_residual.ensures.1 in
    rw (p.1, p.2) (pack-refusal c.in_err-p.field-0.0 c.in_err-p.ensures.refusal)

pub returns-in_err-p-clause-no_file : goal.returns-in_err-p-clause-no_file
returns-in_err-p-clause-no_file c =
    let p = err_from_is_err_and c.from_residual.result c.from_residual.ensures.1 in
    rw (p.1, p.2) c.in_err-p.ensures.no_file

pub returns-clause-made : goal.returns-clause-made
returns-clause-made c = are-made c.args.profile.now (texts_of c.args.sources.now) c.in_ok-p.p c.in_ok-p.ensures.program c.texts_of.result c.texts_of.ensures.packable c.texts_of.ensures.packed

pub texts_of-requires-clause-folded : goal.texts_of-requires-clause-folded
texts_of-requires-clause-folded c = c.read_laws.ensures.folded (texts_of c.args.sources.now) c.args.profile.now.target c.args.profile.now.roles c.in_ok-p.p c.in_ok-p.ensures.program.reads

pub texts_of-requires-clause-accessed : goal.texts_of-requires-clause-accessed
texts_of-requires-clause-accessed c = c.read_laws-2.ensures.accessed (texts_of c.args.sources.now) c.args.profile.now.target c.args.profile.now.roles c.in_ok-p.p c.in_ok-p.ensures.program.reads

pub returns-clause-ends : goal.returns-clause-ends
returns-clause-ends c =
    not-packed c.args.profile.now (texts_of c.args.sources.now) c.in_ok-p.p c.in_ok-p.ensures.program (names_of c.args.names.now) c.texts_of.result c.texts_of.ensures.ends
