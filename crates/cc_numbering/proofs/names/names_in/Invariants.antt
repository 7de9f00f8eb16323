use Rattle.std.proofs.Common.{◌≡◌, take, map}
use Rattle.cc_numbering.specs.Names.{name_in}
use Rattle.cc_numbering.proofs.names.names_in.Given as goal

abbrev pub invariant-loop-d : goal.invariant-loop-d
invariant-loop-d l = l.renumbered.items ≡ map (name_in l.ids) (take l.d-index l.names)
