use Rattle.std.proofs.Common.{◌≡◌, drop}
use Rattle.cc_specifiers.specs.Attributes.{attributes}
use Rattle.cc_specifiers.specs.Places.{behind}
use Rattle.cc_specifiers.proofs.attribute.attributes.Given as goal

abbrev pub invariant-loop-a : goal.invariant-loop-a
invariant-loop-a l = behind l.out.items (attributes l.entities (drop l.a-index l.attrs)) ≡ attributes l.entities l.attrs
