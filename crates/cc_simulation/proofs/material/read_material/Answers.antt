use Rattle.std.proofs.Common.{◌≡◌, ◌∙◌, ◌≤◌, IsTrue, ap, sym, subst, arith}
use Rattle.std.proofs.lemmas.Result.{err_from_is_err_and}
use Rattle.cc_edge.specs.Faults.{Rose, raised}
use Rattle.cc_files.proofs.Within.{unread-since}
use Rattle.cc_files.specs.Unread.{names_of, texts_of}
use Rattle.cc_material.proofs.Since.{keeps-since, is-there-since, first-since, within-since, raised-since, taken-up, before-since, Rose-earlier}
use Rattle.cc_simulation.specs.Asked.{asked_of}
use Rattle.cc_simulation.specs.Ends.{AtProfile, AtInputs, AtArrivals, AtSources}
use Rattle.cc_simulation.proofs.Reading.{inputs-untold, arrivals-untold, sources-untold}
use Rattle.cc_status.specs.Statuses.{for_unread}
use Rattle.cc_simulation.proofs.material.read_material.Goals as goal

pub returns-in_err-profile-clause-ends : goal.returns-in_err-profile-clause-ends
returns-in_err-profile-clause-ends g c =
    let p = err_from_is_err_and c.from_residual.result c.from_residual.ensures.1 in
    rw (p.1, p.2) (λ n told. AtProfile c.in_err-profile.field-0.0 (c.in_err-profile.ensures.ends n told))

pub returns-in_err-inputs-clause-ends : goal.returns-in_err-inputs-clause-ends
returns-in_err-inputs-clause-ends g c =
    let p = err_from_is_err_and c.from_residual-in_err-inputs.result c.from_residual-in_err-inputs.ensures.1 in
    rw (p.1, p.2) (λ n told.
    let told_1 : IsTrue (g.F.Store.told c.profile_of.new.store) = subst IsTrue (sym c.in_ok-profile.ensures.told) told in
    let keeps_1 = c.in_ok-profile.ensures.stay told in
    AtInputs c.in_ok-profile.profile c.in_err-inputs.field-0.0 (c.in_ok-profile.ensures.read told)
    (unread-since (g.F.Store.files c.args.store.now) (g.F.Store.files c.profile_of.new.store) (Rose (g.F.Store.faults c.profile_of.new.store) (g.F.Store.faults c.read_file.new.store)) (Rose (g.F.Store.faults c.args.store.now) (g.F.Store.faults c.read_file.new.store)) 8388608 c.args.asked.now.inputs.now c.in_err-inputs.field-0.0 keeps_1 (Rose-earlier (g.F.Store.faults c.args.store.now) (g.F.Store.faults c.profile_of.new.store) (g.F.Store.faults c.read_file.new.store) c.in_ok-profile.ensures.later) (c.in_err-inputs.ensures.unread (λ e. n (ap for_unread e)) told_1)))

pub returns-in_err-inputs-clause-untold : goal.returns-in_err-inputs-clause-untold
returns-in_err-inputs-clause-untold g c =
    let p = err_from_is_err_and c.from_residual-in_err-inputs.result c.from_residual-in_err-inputs.ensures.1 in
    rw (p.1, p.2) (λ untold. inputs-untold (asked_of c.args.asked.now) (g.F.Store.taken c.args.store.now) (g.F.Store.taken c.read_file.new.store) (Rose (g.F.Store.faults c.profile_of.new.store) (g.F.Store.faults c.read_file.new.store)) (Rose (g.F.Store.faults c.args.store.now) (g.F.Store.faults c.read_file.new.store)) (Rose-earlier (g.F.Store.faults c.args.store.now) (g.F.Store.faults c.profile_of.new.store) (g.F.Store.faults c.read_file.new.store) c.in_ok-profile.ensures.later)
    ((g.F.Store.taken c.read_file.new.store) ≡ raised 8388609 (g.F.Store.taken c.profile_of.new.store)) c.in_err-inputs.field-0.0 (λ e. raised-since 8388609 (g.F.Store.taken c.args.store.now) (g.F.Store.taken c.profile_of.new.store) (g.F.Store.taken c.read_file.new.store) (c.in_ok-profile.ensures.grown untold) (omega (arith, e))) (c.in_err-inputs.ensures.untold (c.in_ok-profile.ensures.told ∙ untold)))

pub returns-in_err-arrivals-clause-ends : goal.returns-in_err-arrivals-clause-ends
returns-in_err-arrivals-clause-ends g c =
    let p = err_from_is_err_and c.from_residual-in_err-arrivals.result c.from_residual-in_err-arrivals.ensures.1 in
    rw (p.1, p.2) (λ n told.
    let told_1 : IsTrue (g.F.Store.told c.profile_of.new.store) = subst IsTrue (sym c.in_ok-profile.ensures.told) told in
    let keeps_1 = c.in_ok-profile.ensures.stay told in
    let told_2 : IsTrue (g.F.Store.told c.read_file.new.store) = subst IsTrue (sym c.in_ok-inputs.ensures.told) told_1 in
    let keeps_2 = keeps-since (g.F.Store.files c.args.store.now) (g.F.Store.files c.profile_of.new.store) (g.F.Store.files c.read_file.new.store) keeps_1 (c.in_ok-inputs.ensures.stay told_1) in
    AtArrivals c.in_ok-profile.profile c.in_ok-inputs.inputs.items c.in_err-arrivals.field-0.0 (c.in_ok-profile.ensures.read told) (is-there-since (g.F.Store.files c.args.store.now) (g.F.Store.files c.profile_of.new.store) 8388608 c.args.asked.now.inputs.now c.in_ok-inputs.inputs.items keeps_1 (c.in_ok-inputs.ensures.whole told_1) c.in_ok-inputs.ensures.short)
    (unread-since (g.F.Store.files c.args.store.now) (g.F.Store.files c.read_file.new.store) (Rose (g.F.Store.faults c.read_file.new.store) (g.F.Store.faults c.read_file-2.new.store)) (Rose (g.F.Store.faults c.args.store.now) (g.F.Store.faults c.read_file-2.new.store)) 8388608 c.args.asked.now.arrivals.now c.in_err-arrivals.field-0.0 keeps_2 (Rose-earlier (g.F.Store.faults c.args.store.now) (g.F.Store.faults c.read_file.new.store) (g.F.Store.faults c.read_file-2.new.store) (before-since (g.F.Store.faults c.args.store.now) (g.F.Store.faults c.profile_of.new.store) (g.F.Store.faults c.read_file.new.store) c.in_ok-profile.ensures.later c.in_ok-inputs.ensures.later)) (c.in_err-arrivals.ensures.unread (λ e. n (ap for_unread e)) told_2)))

pub returns-in_err-arrivals-clause-untold : goal.returns-in_err-arrivals-clause-untold
returns-in_err-arrivals-clause-untold g c =
    let p = err_from_is_err_and c.from_residual-in_err-arrivals.result c.from_residual-in_err-arrivals.ensures.1 in
    rw (p.1, p.2) (λ untold. arrivals-untold (asked_of c.args.asked.now) (g.F.Store.taken c.args.store.now) (g.F.Store.taken c.read_file-2.new.store) (Rose (g.F.Store.faults c.read_file.new.store) (g.F.Store.faults c.read_file-2.new.store)) (Rose (g.F.Store.faults c.args.store.now) (g.F.Store.faults c.read_file-2.new.store)) (Rose-earlier (g.F.Store.faults c.args.store.now) (g.F.Store.faults c.read_file.new.store) (g.F.Store.faults c.read_file-2.new.store) (before-since (g.F.Store.faults c.args.store.now) (g.F.Store.faults c.profile_of.new.store) (g.F.Store.faults c.read_file.new.store) c.in_ok-profile.ensures.later c.in_ok-inputs.ensures.later))
    ((g.F.Store.taken c.read_file-2.new.store) ≡ raised 8388609 (g.F.Store.taken c.read_file.new.store)) c.in_err-arrivals.field-0.0 (λ e. raised-since 8388609 (g.F.Store.taken c.args.store.now) (g.F.Store.taken c.read_file.new.store) (g.F.Store.taken c.read_file-2.new.store) (before-since (g.F.Store.taken c.args.store.now) (g.F.Store.taken c.profile_of.new.store) (g.F.Store.taken c.read_file.new.store) (c.in_ok-profile.ensures.grown untold) (taken-up _ (g.F.Store.taken c.profile_of.new.store) (g.F.Store.taken c.read_file.new.store) (c.in_ok-inputs.ensures.taken (c.in_ok-profile.ensures.told ∙ untold)))) (omega (arith, e))) (c.in_err-arrivals.ensures.untold ((c.in_ok-inputs.ensures.told ∙ c.in_ok-profile.ensures.told) ∙ untold)))

pub returns-in_err-sources-clause-ends : goal.returns-in_err-sources-clause-ends
returns-in_err-sources-clause-ends g c =
    let p = err_from_is_err_and c.from_residual-in_err-sources.result c.from_residual-in_err-sources.ensures.1 in
    rw (p.1, p.2) (λ n told.
    let told_1 : IsTrue (g.F.Store.told c.profile_of.new.store) = subst IsTrue (sym c.in_ok-profile.ensures.told) told in
    let keeps_1 = c.in_ok-profile.ensures.stay told in
    let told_2 : IsTrue (g.F.Store.told c.read_file.new.store) = subst IsTrue (sym c.in_ok-inputs.ensures.told) told_1 in
    let keeps_2 = keeps-since (g.F.Store.files c.args.store.now) (g.F.Store.files c.profile_of.new.store) (g.F.Store.files c.read_file.new.store) keeps_1 (c.in_ok-inputs.ensures.stay told_1) in
    let told_3 : IsTrue (g.F.Store.told c.read_file-2.new.store) = subst IsTrue (sym c.in_ok-arrivals.ensures.told) told_2 in
    let keeps_3 = keeps-since (g.F.Store.files c.args.store.now) (g.F.Store.files c.read_file.new.store) (g.F.Store.files c.read_file-2.new.store) keeps_2 (c.in_ok-arrivals.ensures.stay told_2) in
    AtSources c.in_ok-profile.profile c.in_ok-inputs.inputs.items c.in_ok-arrivals.arrivals.items c.in_err-sources.field-0.0 (c.in_ok-profile.ensures.read told) (is-there-since (g.F.Store.files c.args.store.now) (g.F.Store.files c.profile_of.new.store) 8388608 c.args.asked.now.inputs.now c.in_ok-inputs.inputs.items keeps_1 (c.in_ok-inputs.ensures.whole told_1) c.in_ok-inputs.ensures.short) (is-there-since (g.F.Store.files c.args.store.now) (g.F.Store.files c.read_file.new.store) 8388608 c.args.asked.now.arrivals.now c.in_ok-arrivals.arrivals.items keeps_2 (c.in_ok-arrivals.ensures.whole told_2) c.in_ok-arrivals.ensures.short)
    (first-since (g.F.Store.files c.args.store.now) (g.F.Store.files c.read_file-2.new.store) (Rose (g.F.Store.faults c.read_file-2.new.store) (g.F.Store.faults c.read_sources.new.store)) (Rose (g.F.Store.faults c.args.store.now) (g.F.Store.faults c.read_sources.new.store)) (names_of c.args.asked.now.sources.now) c.in_err-sources.field-0.0 keeps_3 (Rose-earlier (g.F.Store.faults c.args.store.now) (g.F.Store.faults c.read_file-2.new.store) (g.F.Store.faults c.read_sources.new.store) (before-since (g.F.Store.faults c.args.store.now) (g.F.Store.faults c.read_file.new.store) (g.F.Store.faults c.read_file-2.new.store) (before-since (g.F.Store.faults c.args.store.now) (g.F.Store.faults c.profile_of.new.store) (g.F.Store.faults c.read_file.new.store) c.in_ok-profile.ensures.later c.in_ok-inputs.ensures.later) c.in_ok-arrivals.ensures.later)) (c.in_err-sources.ensures.unread (λ e. n (ap for_unread e)) told_3)))

pub returns-in_err-sources-clause-untold : goal.returns-in_err-sources-clause-untold
returns-in_err-sources-clause-untold g c =
    let p = err_from_is_err_and c.from_residual-in_err-sources.result c.from_residual-in_err-sources.ensures.1 in
    rw (p.1, p.2) (λ untold. sources-untold (asked_of c.args.asked.now) (g.F.Store.taken c.args.store.now) (g.F.Store.taken c.read_sources.new.store) (Rose (g.F.Store.faults c.read_file-2.new.store) (g.F.Store.faults c.read_sources.new.store)) (Rose (g.F.Store.faults c.args.store.now) (g.F.Store.faults c.read_sources.new.store)) (Rose-earlier (g.F.Store.faults c.args.store.now) (g.F.Store.faults c.read_file-2.new.store) (g.F.Store.faults c.read_sources.new.store) (before-since (g.F.Store.faults c.args.store.now) (g.F.Store.faults c.read_file.new.store) (g.F.Store.faults c.read_file-2.new.store) (before-since (g.F.Store.faults c.args.store.now) (g.F.Store.faults c.profile_of.new.store) (g.F.Store.faults c.read_file.new.store) c.in_ok-profile.ensures.later c.in_ok-inputs.ensures.later) c.in_ok-arrivals.ensures.later))
    (raised 1048577 (g.F.Store.taken c.read_file-2.new.store) ≤ g.F.Store.taken c.read_sources.new.store) c.in_err-sources.field-0.0 (raised-since 1048577 (g.F.Store.taken c.args.store.now) (g.F.Store.taken c.read_file-2.new.store) (g.F.Store.taken c.read_sources.new.store) (before-since (g.F.Store.taken c.args.store.now) (g.F.Store.taken c.read_file.new.store) (g.F.Store.taken c.read_file-2.new.store) (before-since (g.F.Store.taken c.args.store.now) (g.F.Store.taken c.profile_of.new.store) (g.F.Store.taken c.read_file.new.store) (c.in_ok-profile.ensures.grown untold) (taken-up _ (g.F.Store.taken c.profile_of.new.store) (g.F.Store.taken c.read_file.new.store) (c.in_ok-inputs.ensures.taken (c.in_ok-profile.ensures.told ∙ untold)))) (taken-up _ (g.F.Store.taken c.read_file.new.store) (g.F.Store.taken c.read_file-2.new.store) (c.in_ok-arrivals.ensures.taken ((c.in_ok-inputs.ensures.told ∙ c.in_ok-profile.ensures.told) ∙ untold))))) (c.in_err-sources.ensures.untold ((c.in_ok-arrivals.ensures.told ∙ (c.in_ok-inputs.ensures.told ∙ c.in_ok-profile.ensures.told)) ∙ untold)))

pub returns-clause-read : goal.returns-clause-read
returns-clause-read g c = λ told.
    let told_1 : IsTrue (g.F.Store.told c.profile_of.new.store) = subst IsTrue (sym c.in_ok-profile.ensures.told) told in
    let keeps_1 = c.in_ok-profile.ensures.stay told in
    let told_2 : IsTrue (g.F.Store.told c.read_file.new.store) = subst IsTrue (sym c.in_ok-inputs.ensures.told) told_1 in
    let keeps_2 = keeps-since (g.F.Store.files c.args.store.now) (g.F.Store.files c.profile_of.new.store) (g.F.Store.files c.read_file.new.store) keeps_1 (c.in_ok-inputs.ensures.stay told_1) in
    let told_3 : IsTrue (g.F.Store.told c.read_file-2.new.store) = subst IsTrue (sym c.in_ok-arrivals.ensures.told) told_2 in
    let keeps_3 = keeps-since (g.F.Store.files c.args.store.now) (g.F.Store.files c.read_file.new.store) (g.F.Store.files c.read_file-2.new.store) keeps_2 (c.in_ok-arrivals.ensures.stay told_2) in
    record {
      profile_is = c.in_ok-profile.ensures.read told;
      inputs_are = is-there-since (g.F.Store.files c.args.store.now) (g.F.Store.files c.profile_of.new.store) 8388608 c.args.asked.now.inputs.now c.in_ok-inputs.inputs.items keeps_1 (c.in_ok-inputs.ensures.whole told_1) c.in_ok-inputs.ensures.short;
      arrivals_are = is-there-since (g.F.Store.files c.args.store.now) (g.F.Store.files c.read_file.new.store) 8388608 c.args.asked.now.arrivals.now c.in_ok-arrivals.arrivals.items keeps_2 (c.in_ok-arrivals.ensures.whole told_2) c.in_ok-arrivals.ensures.short;
      sources_are = within-since (g.F.Store.files c.args.store.now) (g.F.Store.files c.read_file-2.new.store) 1048576 4194304 (names_of c.args.asked.now.sources.now) (texts_of c.in_ok-sources.sources.items) keeps_3 (c.in_ok-sources.ensures.whole told_3);
    }
