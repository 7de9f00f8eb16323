-- A tracked cell, and a device.
use Rattle.std.proofs.Common.{ℕ, List, sym, ap, ◌∙◌}
use Rattle.std.proofs.lemmas.Result.{IfOk-weaker}
use Rattle.cc_program.specs.declared.expr.Place.{out-Place}
use Rattle.cc_state_reads.specs.Reads.{OfTracked, OfDevice, object_in}
use Rattle.cc_state_reads.proofs.Parts.{object_within, few_tracked, device_there}
use Rattle.cc_state_reads.proofs.reads.read_of.Goals as goal

pub set_of_cell-requires-clause-few : goal.set_of_cell-requires-clause-few
set_of_cell-requires-clause-few g c =
    few_tracked c.args.c.now.program.now c.args.tracked.now c.in-Some.cell c.requires.tracked (object_within c.args.tracked.now (out-Place c.args.a.now) c.in-Some.cell (sym c.object_in.ensures ∙ c.in-Some.is))

pub set_of_device-requires : goal.set_of_device-requires
set_of_device-requires g c =
    device_there c.args.c.now.program.now c.args.c.now.func.now c.args.a.now c.in-Some-device_number.n (sym c.device_number.ensures ∙ c.in-Some-device_number.is) c.requires.pure

pub returns-in-Some : goal.returns-in-Some
returns-in-Some g c =
    IfOk-weaker c.set_of_cell.result _ _
    (λ y k. OfTracked c.in-Some.cell (ap (λ (cells : List ℕ). object_in cells (out-Place c.args.a.now)) (sym c.requires.tracked) ∙ (sym c.object_in.ensures ∙ c.in-Some.is)) k) c.set_of_cell.ensures

pub returns-in-Some-device_number : goal.returns-in-Some-device_number
returns-in-Some-device_number g c = OfDevice c.in-Some-device_number.n (sym c.device_number.ensures ∙ c.in-Some-device_number.is) c.set_of_device.ensures
