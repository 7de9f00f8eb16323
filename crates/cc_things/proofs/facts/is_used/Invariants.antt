use Rattle.std.proofs.Common.{◌≡◌, false, take}
use Rattle.std.specs.List.{list_any}
use Rattle.cc_things.specs.View.{views_of}
use Rattle.cc_things.proofs.facts.is_used.Given as goal

abbrev pub invariant-loop-m : goal.invariant-loop-m
invariant-loop-m l = list_any (λ m. m.used) (views_of (take l.m-index l.t.mentions.items)) ≡ false
