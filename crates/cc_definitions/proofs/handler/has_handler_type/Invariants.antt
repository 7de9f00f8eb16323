use Rattle.std.proofs.Common.{◌≡◌, true, map, take}
use Rattle.std.specs.List.{list_all}
use Rattle.cc_program.specs.declared.types.Shape.{out-Shape}
use Rattle.cc_definitions.specs.Handlers.{takes_and_gives_nothing}
use Rattle.cc_things.specs.View.{view_of}
use Rattle.cc_definitions.proofs.handler.has_handler_type.Given as goal

abbrev pub invariant-loop-m : goal.invariant-loop-m
invariant-loop-m l = list_all (λ m. takes_and_gives_nothing (out-Shape m.name.ctype.shape)) (map view_of (take l.m-index l.m-items)) ≡ true
