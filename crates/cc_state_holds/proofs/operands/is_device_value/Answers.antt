-- By the device.
use Rattle.std.proofs.Common.{◌≡◌, ℤ, FitsSigned, List, rules, slice_get, subst, ap, ◌∙◌, to_z-of_z}
use Rattle.std.specs.Prelude.{◌↔◌, IsTrue}
use Rattle.std.specs.Int.{w128}
use Rattle.cc_program.specs.CcNum.Integers.{converted}
use Rattle.cc_program.specs.declared.object.Device.{Device}
use Rattle.cc_state_holds.proofs.Devices.{no_device, no_number, a_number}
use Rattle.cc_state_holds.proofs.operands.is_device_value.Goals as goal

pub returns-in-None : goal.returns-in-None
returns-in-None c = no_device c.args.p.now c.args.d c.args.value.now (c.in-None.ensures ∙ ap (λ (ds : List Device). slice_get ds c.args.d) c.all.ensures)

pub returns-in-Int : goal.returns-in-Int
returns-in-Int c =
    let fits : FitsSigned w128 c.in-Int.v = search rules in
    a_number c.args.p.now c.args.d c.args.value.now c.in-Some.device.now c.in-Int.v c.is_kept.result (c.in-Some.ensures ∙ ap (λ (ds : List Device). slice_get ds c.args.d) c.all.ensures) c.in-Int.is
    (subst (λ (z : ℤ). IsTrue c.is_kept.result ↔ (converted z c.in-Some.device.now.int c.args.p.now.target ≡ z)) (to_z-of_z fits) c.is_kept.ensures)

pub returns-in-Place : goal.returns-in-Place
returns-in-Place c = no_number c.args.p.now c.args.d c.args.value.now c.in-Place.field-0 c.in-Place.is
