-- By the kind of the cell.
use Rattle.std.proofs.Common.{sym, ◌∙◌, ap, subst}
use Rattle.std.specs.Prelude.{◌↔◌, IsTrue}
use Rattle.std.proofs.lemmas.Result.{IfOk-weaker}
use Rattle.cc_program.specs.declared.value.Cell.{Cell}
use Rattle.cc_program.specs.declared.value.Cell.TheVariants as cell
use Rattle.cc_proof_covers.specs.Covers.{WasIn}
use Rattle.cc_state.specs.View.{view}
use Rattle.cc_state_holds.proofs.operands.was_in.Goals as goal
use Rattle.cc_state_reads.specs.CcStateOperators.Domains.{domain}
use Rattle.cc_steps.specs.View.{active_of}

pub was_object_in-requires-clause-basis : goal.was_object_in-requires-clause-basis
was_object_in-requires-clause-basis g c = c.requires.basis

pub was_object_in-requires-clause-place : goal.was_object_in-requires-clause-place
was_object_in-requires-clause-place g c = c.requires.place

pub returns-in-Device : goal.returns-in-Device
returns-in-Device g c = λ f e.
    subst (λ (r : Cell). IsTrue c.is_device_value.result ↔ WasIn c.args.b.now.program.now (view (domain g.I.Concrete.Has g.I.Lattice.IsBelow g.I.IntDomain.OpGives g.I.IntDomain.OpOneGives g.I.IntDomain.ToGives g.I.IntDomain.KeepGives g.I.IntDomain.members_of) c.args.b.now.program.now c.args.b.now.facts.now) (active_of c.args.a.now) f c.args.place.now.number r c.args.value.now) (sym c.in-Device.is)
    c.is_device_value.ensures

pub returns-in-At : goal.returns-in-At
returns-in-At g c =
    IfOk-weaker c.was_object_in.result _ _
    (λ yes k f e.
    subst (λ (r : Cell). IsTrue yes ↔ WasIn c.args.b.now.program.now (view (domain g.I.Concrete.Has g.I.Lattice.IsBelow g.I.IntDomain.OpGives g.I.IntDomain.OpOneGives g.I.IntDomain.ToGives g.I.IntDomain.KeepGives g.I.IntDomain.members_of) c.args.b.now.program.now c.args.b.now.facts.now) (active_of c.args.a.now) f c.args.place.now.number r c.args.value.now) (ap (cell.At c.in-At.object) c.all.ensures ∙ sym c.in-At.is) (k f e))
    c.was_object_in.ensures
