use Rattle.std.proofs.Common.{◌≡◌, take, if◌then◌else◌}
use Rattle.std.specs.Prelude.{sum_by}
use Rattle.cc_things.specs.View.{views_of}
use Rattle.cc_things.proofs.facts.is_defined_twice.Given as goal

abbrev pub invariant-loop-m : goal.invariant-loop-m
invariant-loop-m l = sum_by (λ m. m.name.count) (views_of (take l.m-index l.t.mentions.items)) ≡ (if l.is_defined then 1 else 0)
