use Rattle.std.proofs.Common.{◌≡◌, drop}
use Rattle.cc_specifiers.specs.Attributes.{attributes_in}
use Rattle.cc_specifiers.specs.Places.{ahead}
use Rattle.cc_specifiers.proofs.attribute.attributes_in.Given as goal

abbrev pub invariant-loop-word : goal.invariant-loop-word
invariant-loop-word l = ahead l.out.items (attributes_in (drop l.word-index l.words)) ≡ attributes_in l.words
