use Rattle.std.proofs.Common.{◌≡◌, List, subst}
use Rattle.std.proofs.lemmas.Result.{err_from_is_err_and}
use Rattle.cc_causes.specs.declared.fault.LinkFault.{LinkFault}
use Rattle.cc_link.specs.Linked.{Links, Breaks}
use Rattle.cc_things.specs.declared.text.Text.{Text}
use Rattle.cc_read.proofs.Refused.{reads, not_linked}
use Rattle.cc_read.specs.Refusals.{AtText}
use Rattle.cc_read.specs.Texts.{bytes_of}
use Rattle.cc_read.specs.declared.refusal.ReadRefusal.TheVariants as why
use Rattle.cc_read.proofs.reading.answer.Goals as goal

pub returns-in_err-units-clause-refused : goal.returns-in_err-units-clause-refused
returns-in_err-units-clause-refused c =
    let p = err_from_is_err_and c.from_residual.result c.from_residual.ensures.1 in
    rw (p.1, p.2) (λ n. AtText c.in_err-units.field-0.0 (c.in_err-units.ensures.refused n))

pub returns-in-Ok-clause-read : goal.returns-in-Ok-clause-read
returns-in-Ok-clause-read c =
    reads c.args.target.now c.args.roles.now (bytes_of c.args.texts.now) c.in_ok-units.units.items c.in-Ok.p c.in_ok-units.ensures.typed
    (subst (λ (us : List Text). Links us c.args.target.now c.args.roles.now c.in-Ok.p) c.as_slice.ensures.value c.in-Ok.ensures.linked)

pub returns-in-Err-clause-refused : goal.returns-in-Err-clause-refused
returns-in-Err-clause-refused c =
    not_linked c.args.target.now c.args.roles.now (bytes_of c.args.texts.now) c.in_ok-units.units.items c.in-Err.why c.in_ok-units.ensures.typed c.in_ok-units.ensures.low
    (λ n. subst (λ (us : List Text). (f : LinkFault) × Breaks us c.args.roles.now f × (c.in-Err.why ≡ why.Link f)) c.as_slice.ensures.value (c.in-Err.ensures.refused n))
