use Rattle.std.proofs.Common.{◌≡◌, None, fold, map, take}
use Rattle.cc_definitions.specs.Handlers.{entry_in}
use Rattle.cc_things.specs.View.{view_of}
use Rattle.cc_unit.specs.Entries.{both_entries}
use Rattle.cc_definitions.proofs.handler.entry_given.Given as goal

abbrev pub invariant-loop-m : goal.invariant-loop-m
invariant-loop-m l = l.entry ≡ fold (λ e m. both_entries e (entry_in m.name.kind)) None (map view_of (take l.m-index l.m-items))
