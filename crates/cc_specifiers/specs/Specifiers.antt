-- Specifiers: storage classes, qualifiers, the type that words name, and attributes (C99 6.7.1 to 6.7.3).
use Rattle.std.specs.Prelude.{ℕ, true, false, not, ◌&&◌, List, [], ◌∷◌, ◌++◌, Option, Some, None, is_some, Ok, Err, if◌then◌else◌}
use Rattle.cc_operands.specs.Qualified.{plain, qualified_by}
use Rattle.cc_operands.specs.Verdicts.{Judged, judge_then, must}
use Rattle.cc_operands.specs.declared.rule.Rule.TheVariants as rule
use Rattle.cc_program.specs.declared.types.CType.{CType}
use Rattle.cc_program.specs.declared.types.Shape.{Shape}
use Rattle.cc_specifiers.specs.Attributes.{are_meant}
use Rattle.cc_specifiers.specs.BasicTypes.{no_word, with_word, is_no_word, basic_type}
use Rattle.cc_specifiers.specs.Storage.{fits_storage}
use Rattle.cc_specifiers.specs.declared.attribute.Attribute.{Attribute}
use Rattle.cc_specifiers.specs.declared.basic.Basic.{Basic}
use Rattle.cc_specifiers.specs.declared.specifier.Base.{Base}
use Rattle.cc_specifiers.specs.declared.specifier.Base.TheVariants as base
use Rattle.cc_specifiers.specs.declared.specifier.Specified.{Specified}
use Rattle.cc_specifiers.specs.declared.specifier.Specifier.{Specifier}
use Rattle.cc_specifiers.specs.declared.specifier.Specifier.TheVariants as specifier
use Rattle.cc_specifiers.specs.declared.specifier.Specs.{Specs}
use Rattle.cc_specifiers.specs.declared.storage.Setting.{Setting}
use Rattle.cc_program.specs.CcWords.declared.word.Word.{Word}
use Rattle.cc_program.specs.CcWords.declared.word.Word.TheVariants as w

abbrev pub no_specifier : Specs
no_specifier = record { storage = None; constant = false; volatile = false; base = base.Words no_word; marks = [] }

abbrev pub with_base : Base → Specs → Specs
with_base base s = record { storage = s.storage; constant = s.constant; volatile = s.volatile; base = base; marks = s.marks }

-- a storage class stands alone (6.7.1, 2), and where it has a meaning
abbrev pub with_storage : Setting → Word → Specs → Judged Specs
with_storage setting x s =
    must (not (is_some s.storage) && fits_storage setting x) rule.StorageClass
    (Ok (record { storage = Some x; constant = s.constant; volatile = s.volatile; base = s.base; marks = s.marks }))

abbrev pub base_or_clash : Option Basic → Base
base_or_clash None = base.Clash
base_or_clash (Some b) = base.Words b

abbrev pub word_beside : Word → Base → Base
word_beside x (base.Words b) = base_or_clash (with_word x b)
word_beside x _ = base.Clash

abbrev pub type_beside : CType → Base → Base
type_beside t (base.Words b) = if is_no_word b then base.Itself t else base.Clash
type_beside t _ = base.Clash

abbrev pub said : Setting → Word → Specs → Judged Specs
said setting w.Typedef s = with_storage setting w.Typedef s
said setting w.Extern s = with_storage setting w.Extern s
said setting w.Static s = with_storage setting w.Static s
said setting w.Auto s = with_storage setting w.Auto s
said setting w.Register s = with_storage setting w.Register s
said setting w.Const s = Ok (record { storage = s.storage; constant = true; volatile = s.volatile; base = s.base; marks = s.marks })
said setting w.Volatile s = Ok (record { storage = s.storage; constant = s.constant; volatile = true; base = s.base; marks = s.marks })
said setting w.Restrict s = Ok s
said setting w.Inline s = Ok s
said setting w.Extension s = Ok s
said setting x s = Ok (with_base (word_beside x s.base) s)

abbrev pub with_mark : ℕ → List Attribute → Specs → Specs
with_mark at ms s = record { storage = s.storage; constant = s.constant; volatile = s.volatile; base = s.base; marks = s.marks ++ record { at = at; node = ms } ∷ [] }

-- each is judged where it stands
abbrev pub with_specifier : Setting → ℕ → Specifier → Specs → Judged Specs
with_specifier setting at (specifier.Word x) s = said setting x s
with_specifier setting at (specifier.Type t) s = Ok (with_base (type_beside t s.base) s)
with_specifier setting at (specifier.Attributes ms) s = must (are_meant setting.entities ms) rule.Attribute (Ok (with_mark at ms s))

-- the type that they name, qualified (6.7.3)
abbrev pub shape_or : Option Shape → Judged CType
shape_or None = Err rule.NoType
shape_or (Some shape) = Ok (plain shape)

abbrev pub based : Base → Judged CType
based (base.Words b) = shape_or (basic_type b)
based (base.Itself t) = Ok t
based base.Clash = Err rule.NoType

abbrev pub named_type : Specs → Judged CType
named_type s = judge_then (based s.base) (λ t. Ok (qualified_by s.constant s.volatile t))

-- specifiers with their type
abbrev pub specified : Specs → Judged Specified
specified s = judge_then (named_type s) (λ t. Ok (record { specs = s; ctype = t }))
