use Rattle.std.proofs.Common.{◌≡◌, take, Some}
use Rattle.std.specs.List.{flat_map}
use Rattle.cc_syntax.specs.Normal.{next_of, devices_in}
use Rattle.cc_normal.proofs.devices.behind_all.Given as goal

abbrev pub invariant-loop-f : goal.invariant-loop-f
invariant-loop-f l = next_of l.next (flat_map (λ f. devices_in f.body) (take l.f-index l.f-items)) ≡ Some l.last
