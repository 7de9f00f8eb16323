-- The refusal for each fault of the parts. Want of memory is always a refusal of its own.
use Rattle.std.specs.Prelude.{ℕ}
use Rattle.cc_type.specs.CcLex.declared.fault.LexFault.{LexFault}
use Rattle.cc_type.specs.CcLex.declared.fault.LexFault.TheVariants as lex
use Rattle.cc_link.specs.declared.fault.LinkEnd.{LinkEnd}
use Rattle.cc_link.specs.declared.fault.LinkEnd.TheVariants as end
use Rattle.cc_read.specs.declared.refusal.ReadRefusal.{ReadRefusal}
use Rattle.cc_read.specs.declared.refusal.ReadRefusal.TheVariants as why
use Rattle.cc_tree.specs.declared.fault.GramFault.{GramFault}
use Rattle.cc_tree.specs.declared.fault.GramFault.TheVariants as gram
use Rattle.cc_type.specs.declared.fault.TypeFault.{TypeFault}
use Rattle.cc_type.specs.declared.fault.TypeFault.TheVariants as type_fault

abbrev pub for_lex : LexFault → ReadRefusal
for_lex lex.NoMemory = why.NoMemory
for_lex e = why.Lex e

abbrev pub for_gram : GramFault → ReadRefusal
for_gram gram.NoMemory = why.NoMemory
for_gram e = why.Gram e

abbrev pub for_types : TypeFault → ReadRefusal
for_types type_fault.NoMemory = why.NoMemory
for_types e = why.Types e

abbrev pub for_link : LinkEnd → ReadRefusal
for_link end.NoMemory = why.NoMemory
for_link (end.Fault f) = why.Link f
