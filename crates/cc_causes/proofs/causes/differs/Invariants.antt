use Rattle.std.proofs.Common.{◌≡◌, false, map, take}
use Rattle.std.specs.List.{list_any}
use Rattle.std.specs.Prelude.{not}
use Rattle.cc_structures.specs.Structures.{type_in}
use Rattle.cc_syntax.specs.SameTypes.{same_type}
use Rattle.cc_things.specs.View.{view_of}
use Rattle.cc_causes.proofs.causes.differs.Given as goal

abbrev pub invariant-loop-m : goal.invariant-loop-m
invariant-loop-m l = list_any (λ m. not (same_type l.t (type_in l.structures m.text m.name.ctype))) (map view_of (take l.m-index l.mentions)) ≡ false
