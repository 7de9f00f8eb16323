use Rattle.std.proofs.Common.{◌≡◌, ◌++◌, take}
use Rattle.std.specs.List.{flat_map}
use Rattle.cc_syntax.specs.Normal.{devices_in}
use Rattle.cc_lower_numbers.proofs.devices.put_text.Given as goal

abbrev pub invariant-loop-f : goal.invariant-loop-f
invariant-loop-f l = l.numbers.items ≡ l.initial.numbers.items ++ flat_map (λ f. devices_in f.body) (take l.f-index l.f-items)
