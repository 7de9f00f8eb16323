use Rattle.std.proofs.Common.{rules, tests, ◌≡◌, ◌∙◌}
use Rattle.std.proofs.lemmas.Iterator.{YieldsList-from_slice}
use Rattle.std.proofs.lemmas.Iterator.Search.{all_from_yields_List}
use Rattle.std.specs.List.{list_all}
use Rattle.cc_sound.specs.Spaces.{has_name}
use Rattle.cc_program.specs.declared.object.Device.{Device}
use Rattle.cc_sound.proofs.NameLemmas.{all_devices}
use Rattle.cc_sound.proofs.names.devices_named.Goals as goal

pub returns : goal.returns
returns c =
    let e : c.all.result ≡ list_all (λ (d : Device). has_name d.name) c.args.devices.now = all_from_yields_List (λ (d : Device). has_name d.name) _ _ c.all.result c.all.ensures.ran (YieldsList-from_slice c.args.devices.now cc) (λ x b q k. search (rules, tests)) in
    e ∙ all_devices c.args.devices.now
