-- Keywords (C99 6.4.1) and their spellings, and the words of C and GNU C that are outside the subset.
use Rattle.std.specs.Prelude.{ℕ, Bool, List, [], ◌∷◌, ◌++◌, Option, find, codes}
use Rattle.std.specs.List.{list_any}
use Rattle.std.specs.Str.{bytes_eq}
use Rattle.cc_words.specs.declared.word.Word.{Word}
use Rattle.cc_words.specs.declared.word.Word.TheVariants as word

-- ---- keywords

-- a word, and its forms with double underscores in front, or in front and behind
abbrev pub with_underscores : List ℕ → List (List ℕ)
with_underscores w = w ∷ (codes "__" ++ w) ∷ (codes "__" ++ w ++ codes "__") ∷ []

-- how a keyword is spelled
abbrev pub spellings : Word → List (List ℕ)
spellings word.Auto = codes "auto" ∷ []
spellings word.Break = codes "break" ∷ []
spellings word.Case = codes "case" ∷ []
spellings word.Char = codes "char" ∷ []
spellings word.Const = with_underscores (codes "const")
spellings word.Continue = codes "continue" ∷ []
spellings word.Default = codes "default" ∷ []
spellings word.Do = codes "do" ∷ []
spellings word.Else = codes "else" ∷ []
spellings word.Enum = codes "enum" ∷ []
spellings word.Extern = codes "extern" ∷ []
spellings word.For = codes "for" ∷ []
spellings word.If = codes "if" ∷ []
spellings word.Inline = with_underscores (codes "inline")
spellings word.Int = codes "int" ∷ []
spellings word.Long = codes "long" ∷ []
spellings word.Register = codes "register" ∷ []
spellings word.Restrict = with_underscores (codes "restrict")
spellings word.Return = codes "return" ∷ []
spellings word.Short = codes "short" ∷ []
spellings word.Signed = with_underscores (codes "signed")
spellings word.Sizeof = codes "sizeof" ∷ []
spellings word.Static = codes "static" ∷ []
spellings word.Struct = codes "struct" ∷ []
spellings word.Switch = codes "switch" ∷ []
spellings word.Typedef = codes "typedef" ∷ []
spellings word.Unsigned = codes "unsigned" ∷ []
spellings word.Void = codes "void" ∷ []
spellings word.Volatile = with_underscores (codes "volatile")
spellings word.While = codes "while" ∷ []
spellings word.Bool = codes "_Bool" ∷ []
spellings word.Extension = codes "__extension__" ∷ []
spellings word.Attribute = codes "__attribute__" ∷ codes "__attribute" ∷ []

abbrev pub words : List Word
words = word.Auto ∷ word.Break ∷ word.Case ∷ word.Char ∷ word.Const ∷ word.Continue ∷ word.Default ∷ word.Do
    ∷ word.Else ∷ word.Enum ∷ word.Extern ∷ word.For ∷ word.If ∷ word.Inline ∷ word.Int ∷ word.Long ∷ word.Register
    ∷ word.Restrict ∷ word.Return ∷ word.Short ∷ word.Signed ∷ word.Sizeof ∷ word.Static ∷ word.Struct ∷ word.Switch
    ∷ word.Typedef ∷ word.Unsigned ∷ word.Void ∷ word.Volatile ∷ word.While ∷ word.Bool ∷ word.Extension
    ∷ word.Attribute ∷ []

abbrev pub is_spelling : Word → List ℕ → Bool
is_spelling w name = list_any (bytes_eq name) (spellings w)

-- the keyword that is spelled so
unfoldable pub word_of : List ℕ → Option Word
word_of name = find (λ w. is_spelling w name) words

-- ---- words that are outside the subset

abbrev pub outside_words : List (List ℕ)
outside_words = codes "asm" ∷ codes "__asm" ∷ codes "__asm__" ∷ codes "goto" ∷ codes "float" ∷ codes "double"
    ∷ codes "_Complex" ∷ codes "__complex__" ∷ codes "_Imaginary" ∷ codes "union" ∷ codes "typeof" ∷ codes "__typeof__"
    ∷ codes "__builtin_va_list" ∷ codes "__int128" ∷ codes "_Atomic" ∷ codes "_Generic" ∷ codes "_Static_assert"
    ∷ codes "_Alignas" ∷ []

abbrev pub is_outside : List ℕ → Bool
is_outside name = list_any (bytes_eq name) outside_words
