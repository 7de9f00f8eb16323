use Rattle.std.proofs.Common.{◌≡◌, ◌≤◌, ℕ, length, IsTrue, false, sym, subst}
use Rattle.std.proofs.lemmas.Result.{err_from_is_err_and}
use Rattle.cc_edge.specs.Faults.{Rose, raised}
use Rattle.cc_material.proofs.Told.{profile-unread, refusal-unread, tells-one, by-file, by-row, names-none, if-ok, raised-up}
use Rattle.cc_material.proofs.profile.profile_from.Goals as goal

pub returns-in_err-text-clause-ends : goal.returns-in_err-text-clause-ends
returns-in_err-text-clause-ends g c =
    let p = err_from_is_err_and c.from_residual.result c.from_residual.ensures.1 in
    rw (p.1, p.2) (λ n told. profile-unread (g.F.Store.files c.args.store.now) (Rose (g.F.Store.faults c.args.store.now) (g.F.Store.faults c.read_file.new.store)) c.args.name.now c.in_err-text.field-0.0 (λ m. c.in_err-text.ensures.unread m told) n)

pub returns-in_err-text-clause-refusal : goal.returns-in_err-text-clause-refusal
returns-in_err-text-clause-refusal g c =
    let p = err_from_is_err_and c.from_residual.result c.from_residual.ensures.1 in
    rw (p.1, p.2) (refusal-unread c.in_err-text.field-0.0)

pub returns-in_err-text-clause-untold : goal.returns-in_err-text-clause-untold
returns-in_err-text-clause-untold g c =
    let p = err_from_is_err_and c.from_residual.result c.from_residual.ensures.1 in
    rw (p.1, p.2) (λ untold. tells-one c.args.name.now (Rose (g.F.Store.faults c.args.store.now) (g.F.Store.faults c.read_file.new.store)) (g.F.Store.taken c.read_file.new.store ≡ raised 65537 (g.F.Store.taken c.args.store.now))
    c.in_err-text.field-0.0 (c.in_err-text.ensures.untold untold))

pub returns-clause-read : goal.returns-clause-read
returns-clause-read g c =
    let bytes : c.as_slice.result.now ≡ c.in_ok-text.text.items = c.as_slice.ensures.value in
    by-file (g.F.Store.files c.args.store.now) c.args.name.now c.in_ok-text.text.items (IsTrue (g.F.Store.told c.args.store.now)) c.in_ok-text.ensures.whole c.in_ok-text.ensures.short c.profile_in.result
    (rw bytes at c.profile_in.ensures.valid) (rw bytes at c.profile_in.ensures.profile)

pub returns-clause-ends : goal.returns-clause-ends
returns-clause-ends g c =
    let bytes : c.as_slice.result.now ≡ c.in_ok-text.text.items = c.as_slice.ensures.value in
    by-row (g.F.Store.files c.args.store.now) c.args.name.now c.in_ok-text.text.items (IsTrue (g.F.Store.told c.args.store.now)) c.in_ok-text.ensures.whole c.in_ok-text.ensures.short
    (Rose (g.F.Store.faults c.args.store.now) (g.F.Store.faults c.read_file.new.store)) c.profile_in.result (rw bytes at c.profile_in.ensures.ends)

pub returns-clause-grown : goal.returns-clause-grown
returns-clause-grown g c =
    if-ok c.profile_in.result (g.F.Store.told c.args.store.now ≡ false → g.F.Store.taken c.args.store.now ≤ g.F.Store.taken c.read_file.new.store)
    (λ untold. let e = c.in_ok-text.ensures.taken untold in subst (λ (n : ℕ). g.F.Store.taken c.args.store.now ≤ n) (sym e) (raised-up (length c.in_ok-text.text.items) (g.F.Store.taken c.args.store.now)))

pub returns-clause-untold : goal.returns-clause-untold
returns-clause-untold g c =
    names-none (λ file. (file ≡ c.args.name.now) × Rose (g.F.Store.faults c.args.store.now) (g.F.Store.faults c.read_file.new.store)) (λ file. (file ≡ c.args.name.now) × (g.F.Store.taken c.read_file.new.store ≡ raised 65537 (g.F.Store.taken c.args.store.now)))
    (g.F.Store.told c.args.store.now ≡ false) c.profile_in.result c.profile_in.ensures.no_file
