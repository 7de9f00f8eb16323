use Rattle.std.proofs.Common.{◌≡◌, None, map, take}
use Rattle.std.specs.Prelude.{find}
use Rattle.cc_things.specs.Things.{is_definition}
use Rattle.cc_things.specs.View.{view_of}
use Rattle.cc_definitions.proofs.facts.definition.Given as goal

abbrev pub invariant-loop-m : goal.invariant-loop-m
invariant-loop-m l = find is_definition (map view_of (take l.m-index l.m-items)) ≡ None
