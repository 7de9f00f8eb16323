use Rattle.cc_linked_programs.proofs.Contents.{object_sound}
use Rattle.cc_linked_programs.proofs.content_law.object_laws.Goals as goal

pub returns : goal.returns
returns c = record { objects = λ texts target sound roles numbering firsts are none no_bad o i. let r = object_sound texts target sound roles numbering firsts are none no_bad o i in (r.object, r.initial) }
