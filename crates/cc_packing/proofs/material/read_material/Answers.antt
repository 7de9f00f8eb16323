use Rattle.std.proofs.Common.{◌∙◌, ◌≤◌, IsTrue, ap, sym, subst}
use Rattle.std.proofs.lemmas.Result.{err_from_is_err_and}
use Rattle.cc_edge.specs.Faults.{Rose, raised}
use Rattle.cc_files.specs.Unread.{names_of, texts_of}
use Rattle.cc_material.proofs.Since.{first-since, within-since, raised-since, Rose-earlier}
use Rattle.cc_material.proofs.Told.{refusal-unread}
use Rattle.cc_packing.specs.Asked.{asked_of}
use Rattle.cc_packing.specs.Ends.{AtProfile, AtSources}
use Rattle.cc_packing.proofs.Reading.{profile-untold, source-untold}
use Rattle.cc_status.specs.Statuses.{for_unread}
use Rattle.cc_packing.proofs.material.read_material.Goals as goal

pub returns-in_err-profile-clause-ends : goal.returns-in_err-profile-clause-ends
returns-in_err-profile-clause-ends g c =
    let p = err_from_is_err_and c.from_residual.result c.from_residual.ensures.1 in
    rw (p.1, p.2) (λ n told. AtProfile c.in_err-profile.field-0.0 (c.in_err-profile.ensures.ends n told))

pub returns-in_err-profile-clause-refusal : goal.returns-in_err-profile-clause-refusal
returns-in_err-profile-clause-refusal g c =
    let p = err_from_is_err_and c.from_residual.result c.from_residual.ensures.1 in
    rw (p.1, p.2) c.in_err-profile.ensures.refusal

pub returns-in_err-profile-clause-untold : goal.returns-in_err-profile-clause-untold
returns-in_err-profile-clause-untold g c =
    let p = err_from_is_err_and c.from_residual.result c.from_residual.ensures.1 in
    rw (p.1, p.2) (λ untold. profile-untold (asked_of c.args.asked.now) (g.F.Store.taken c.args.store.now) (g.F.Store.taken c.profile_of.new.store) (Rose (g.F.Store.faults c.args.store.now) (g.F.Store.faults c.profile_of.new.store))
    (Rose (g.F.Store.faults c.args.store.now) (g.F.Store.faults c.profile_of.new.store)) c.in_err-profile.field-0.0 (λ r. r) (c.in_err-profile.ensures.untold untold))

pub returns-in_err-sources-clause-ends : goal.returns-in_err-sources-clause-ends
returns-in_err-sources-clause-ends g c =
    let p = err_from_is_err_and c.from_residual-in_err-sources.result c.from_residual-in_err-sources.ensures.1 in
    rw (p.1, p.2) (λ n told. AtSources c.in_ok-profile.profile c.in_err-sources.field-0.0 (c.in_ok-profile.ensures.read told)
    (first-since (g.F.Store.files c.args.store.now) (g.F.Store.files c.profile_of.new.store) (Rose (g.F.Store.faults c.profile_of.new.store) (g.F.Store.faults c.read_sources.new.store)) (Rose (g.F.Store.faults c.args.store.now) (g.F.Store.faults c.read_sources.new.store))
    (names_of c.args.asked.now.sources.now) c.in_err-sources.field-0.0 (c.in_ok-profile.ensures.stay told)
    (Rose-earlier (g.F.Store.faults c.args.store.now) (g.F.Store.faults c.profile_of.new.store) (g.F.Store.faults c.read_sources.new.store) c.in_ok-profile.ensures.later)
    (c.in_err-sources.ensures.unread (λ e. n (ap for_unread e)) (subst IsTrue (sym c.in_ok-profile.ensures.told) told))))

pub returns-in_err-sources-clause-refusal : goal.returns-in_err-sources-clause-refusal
returns-in_err-sources-clause-refusal g c =
    let p = err_from_is_err_and c.from_residual-in_err-sources.result c.from_residual-in_err-sources.ensures.1 in
    rw (p.1, p.2) (refusal-unread c.in_err-sources.field-0.0)

pub returns-in_err-sources-clause-untold : goal.returns-in_err-sources-clause-untold
returns-in_err-sources-clause-untold g c =
    let p = err_from_is_err_and c.from_residual-in_err-sources.result c.from_residual-in_err-sources.ensures.1 in
    rw (p.1, p.2) (λ untold. source-untold (asked_of c.args.asked.now) (g.F.Store.taken c.args.store.now) (g.F.Store.taken c.read_sources.new.store) (Rose (g.F.Store.faults c.profile_of.new.store) (g.F.Store.faults c.read_sources.new.store))
    (Rose (g.F.Store.faults c.args.store.now) (g.F.Store.faults c.read_sources.new.store)) (raised 1048577 (g.F.Store.taken c.profile_of.new.store) ≤ g.F.Store.taken c.read_sources.new.store) c.in_err-sources.field-0.0
    (Rose-earlier (g.F.Store.faults c.args.store.now) (g.F.Store.faults c.profile_of.new.store) (g.F.Store.faults c.read_sources.new.store) c.in_ok-profile.ensures.later)
    (raised-since 1048577 (g.F.Store.taken c.args.store.now) (g.F.Store.taken c.profile_of.new.store) (g.F.Store.taken c.read_sources.new.store) (c.in_ok-profile.ensures.grown untold))
    (c.in_err-sources.ensures.untold (c.in_ok-profile.ensures.told ∙ untold)))

pub returns-clause-sources : goal.returns-clause-sources
returns-clause-sources g c = λ told.
    within-since (g.F.Store.files c.args.store.now) (g.F.Store.files c.profile_of.new.store) 1048576 4194304 (names_of c.args.asked.now.sources.now) (texts_of c.in_ok-sources.sources.items) (c.in_ok-profile.ensures.stay told)
    (c.in_ok-sources.ensures.whole (subst IsTrue (sym c.in_ok-profile.ensures.told) told))
