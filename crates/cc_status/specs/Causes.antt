-- The text that tells why a source is refused: the cause in lower case, the name or the rule that it has, and its offset.
use Rattle.std.specs.Prelude.{ℕ, List, [], ◌++◌, Option, Some, None, codes}
use Rattle.std.specs.Fmt.{decimal}
use Rattle.cc_causes.specs.declared.fault.LinkFault.{LinkFault}
use Rattle.cc_causes.specs.declared.fault.LinkFault.TheVariants as link
use Rattle.cc_type.specs.CcLex.declared.fault.LexFault.{LexFault}
use Rattle.cc_type.specs.CcLex.declared.fault.LexFault.TheVariants as fault
use Rattle.cc_read.specs.declared.refusal.ReadRefusal.{ReadRefusal}
use Rattle.cc_read.specs.declared.refusal.ReadRefusal.TheVariants as why
use Rattle.cc_tree.specs.declared.fault.GramFault.{GramFault}
use Rattle.cc_tree.specs.declared.fault.GramFault.TheVariants as gram
use Rattle.cc_type.specs.declared.fault.TypeFault.{TypeFault}
use Rattle.cc_type.specs.declared.fault.TypeFault.TheVariants as type_fault

abbrev pub word_text : Option (List ℕ) → List ℕ
word_text None = []
word_text (Some word) = codes " " ++ word

abbrev pub offset_text : Option ℕ → List ℕ
offset_text None = []
offset_text (Some at) = codes " at " ++ decimal at

abbrev pub told : List ℕ → Option (List ℕ) → Option ℕ → List ℕ
told cause word at = cause ++ (word_text word ++ offset_text at)

abbrev pub lex_cause : LexFault → List ℕ
lex_cause (fault.BadByte at) = codes "badbyte"
lex_cause (fault.OpenComment at) = codes "opencomment"
lex_cause (fault.OpenText at) = codes "opentext"
lex_cause (fault.BadNumber at) = codes "badnumber"
lex_cause (fault.Directive at) = codes "directive"
lex_cause fault.NoMemory = codes "nomemory"

abbrev pub lex_offset : LexFault → Option ℕ
lex_offset (fault.BadByte at) = Some at
lex_offset (fault.OpenComment at) = Some at
lex_offset (fault.OpenText at) = Some at
lex_offset (fault.BadNumber at) = Some at
lex_offset (fault.Directive at) = Some at
lex_offset fault.NoMemory = None

abbrev pub gram_cause : GramFault → List ℕ
gram_cause (gram.Outside x at) = codes "outside"
gram_cause (gram.TooDeep at) = codes "toodeep"
gram_cause (gram.Syntax at) = codes "syntax"
gram_cause gram.NoMemory = codes "nomemory"

abbrev pub gram_word : GramFault → Option (List ℕ)
gram_word (gram.Outside x at) = Some x
gram_word (gram.TooDeep at) = None
gram_word (gram.Syntax at) = None
gram_word gram.NoMemory = None

abbrev pub gram_offset : GramFault → Option ℕ
gram_offset (gram.Outside x at) = Some at
gram_offset (gram.TooDeep at) = Some at
gram_offset (gram.Syntax at) = Some at
gram_offset gram.NoMemory = None

abbrev pub link_cause : LinkFault → List ℕ
link_cause (link.TypesDiffer x) = codes "typesdiffer"
link_cause (link.Twice x) = codes "twice"
link_cause (link.Undefined x) = codes "undefined"
link_cause link.NoMain = codes "nomain"
link_cause (link.BadHandler x) = codes "badhandler"

abbrev pub link_word : LinkFault → Option (List ℕ)
link_word (link.TypesDiffer x) = Some x
link_word (link.Twice x) = Some x
link_word (link.Undefined x) = Some x
link_word link.NoMain = None
link_word (link.BadHandler x) = Some x

abbrev pub type_cause : TypeFault → List ℕ
type_cause (type_fault.Broken rule at) = told (codes "broken") (Some (decimal rule)) (Some at)
type_cause type_fault.NoMemory = told (codes "nomemory") None None

abbrev pub cause_of : ReadRefusal → List ℕ
cause_of (why.Lex e) = told (lex_cause e) None (lex_offset e)
cause_of (why.Gram e) = told (gram_cause e) (gram_word e) (gram_offset e)
cause_of (why.Types e) = type_cause e
cause_of (why.Link e) = told (link_cause e) (link_word e) None
cause_of why.NoMemory = told (codes "nomemory") None None
