-- What holds of the tables of words, by evaluation.
use Rattle.std.proofs.Common.{◌≡◌, true, false, [], ◌∷◌, map, Some, refl}
use Rattle.std.specs.Prelude.{codes}
use Rattle.std.specs.List.{list_all, list_any}
use Rattle.std.specs.Option.{is_none}
use Rattle.cc_words.specs.Names.{is_identifier, is_name}
use Rattle.cc_words.specs.Words.{spellings, word_of, outside_words}
use Rattle.cc_words.specs.declared.word.Word.{Word}
use Rattle.cc_words.specs.declared.word.Word.TheVariants as word

pub keywords-own : (w : Word) → map word_of (spellings w) ≡ map (λ _. Some w) (spellings w)
unfolding word_of
keywords-own word.Auto = refl
keywords-own word.Break = refl
keywords-own word.Case = refl
keywords-own word.Char = refl
keywords-own word.Const = refl
keywords-own word.Continue = refl
keywords-own word.Default = refl
keywords-own word.Do = refl
keywords-own word.Else = refl
keywords-own word.Enum = refl
keywords-own word.Extern = refl
keywords-own word.For = refl
keywords-own word.If = refl
keywords-own word.Inline = refl
keywords-own word.Int = refl
keywords-own word.Long = refl
keywords-own word.Register = refl
keywords-own word.Restrict = refl
keywords-own word.Return = refl
keywords-own word.Short = refl
keywords-own word.Signed = refl
keywords-own word.Sizeof = refl
keywords-own word.Static = refl
keywords-own word.Struct = refl
keywords-own word.Switch = refl
keywords-own word.Typedef = refl
keywords-own word.Unsigned = refl
keywords-own word.Void = refl
keywords-own word.Volatile = refl
keywords-own word.While = refl
keywords-own word.Bool = refl
keywords-own word.Extension = refl
keywords-own word.Attribute = refl

pub outside-none : list_all (λ s. is_none (word_of s)) outside_words ≡ true
unfolding word_of
outside-none = refl

pub keyword-forms : (w : Word) → list_all is_identifier (spellings w) ≡ true
keyword-forms word.Auto = refl
keyword-forms word.Break = refl
keyword-forms word.Case = refl
keyword-forms word.Char = refl
keyword-forms word.Const = refl
keyword-forms word.Continue = refl
keyword-forms word.Default = refl
keyword-forms word.Do = refl
keyword-forms word.Else = refl
keyword-forms word.Enum = refl
keyword-forms word.Extern = refl
keyword-forms word.For = refl
keyword-forms word.If = refl
keyword-forms word.Inline = refl
keyword-forms word.Int = refl
keyword-forms word.Long = refl
keyword-forms word.Register = refl
keyword-forms word.Restrict = refl
keyword-forms word.Return = refl
keyword-forms word.Short = refl
keyword-forms word.Signed = refl
keyword-forms word.Sizeof = refl
keyword-forms word.Static = refl
keyword-forms word.Struct = refl
keyword-forms word.Switch = refl
keyword-forms word.Typedef = refl
keyword-forms word.Unsigned = refl
keyword-forms word.Void = refl
keyword-forms word.Volatile = refl
keyword-forms word.While = refl
keyword-forms word.Bool = refl
keyword-forms word.Extension = refl
keyword-forms word.Attribute = refl

pub outside-forms : list_all is_identifier outside_words ≡ true
outside-forms = refl

pub some-names : list_all is_name (codes "x" ∷ codes "_Bo0l" ∷ codes "__int" ∷ []) ≡ true
unfolding is_name word_of
some-names = refl

pub no-names : list_any is_name ([] ∷ codes "0x" ∷ codes "a-b" ∷ codes "if" ∷ codes "__const" ∷ codes "goto" ∷ []) ≡ false
unfolding is_name word_of
no-names = refl
