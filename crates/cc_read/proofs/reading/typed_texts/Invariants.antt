use Rattle.cc_read.proofs.TextsLeft.{TextsLeft, left_of}
use Rattle.cc_read.specs.Texts.{bytes_of}
use Rattle.cc_read.proofs.reading.typed_texts.Given as goal

abbrev pub invariant-loop-file : goal.invariant-loop-file
invariant-loop-file l = TextsLeft l.target l.roles (bytes_of l.texts) l.file (left_of l.texts l.file) l.units.items
