use Rattle.std.proofs.Common.{rules, tests, ◌≡◌, ◌∙◌}
use Rattle.std.proofs.lemmas.Iterator.{YieldsList-from_slice}
use Rattle.std.proofs.lemmas.Iterator.Search.{any_from_yields_List}
use Rattle.std.specs.List.{list_any}
use Rattle.cc_sound.specs.Spaces.{is_named}
use Rattle.cc_program.specs.declared.object.Device.{Device}
use Rattle.cc_sound.proofs.NameLemmas.{any_devices}
use Rattle.cc_sound.proofs.names.has_device.Goals as goal

pub returns : goal.returns
returns c =
    let e : c.any.result ≡ list_any (λ (d : Device). is_named c.args.name.now d.name) c.args.devices.now = any_from_yields_List (λ (d : Device). is_named c.args.name.now d.name) _ _ c.any.result c.any.ensures.ran (YieldsList-from_slice c.args.devices.now cc) (λ x b q k. search (rules, tests)) in
    e ∙ any_devices c.args.name.now c.args.devices.now
