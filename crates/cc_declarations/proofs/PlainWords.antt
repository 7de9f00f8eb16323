-- A word that opens no structure, no enumeration and no attribute is a specifier by itself, or none.
use Rattle.std.proofs.Common.{◌≡◌, ◌≢◌, ℕ, refl}
use Rattle.cc_words.specs.declared.word.Word.{Word}
use Rattle.cc_words.specs.declared.word.Word.TheVariants as w
use Rattle.cc_tree.specs.Terms.{is_spec_word}
use Rattle.cc_tree.specs.Tokens.{Tokens}
use Rattle.cc_tree.specs.TurnTypes.{Specs, specs_word, specs_plain}

pub plain_word : (specs : Specs) (all ts : Tokens) (n : ℕ) (x : Word) → x ≢ w.Enum → x ≢ w.Struct → x ≢ w.Attribute → specs_word specs all ts n x ≡ specs_plain specs all ts n x (is_spec_word x)
plain_word specs all ts n w.Auto a b c = refl
plain_word specs all ts n w.Break a b c = refl
plain_word specs all ts n w.Case a b c = refl
plain_word specs all ts n w.Char a b c = refl
plain_word specs all ts n w.Const a b c = refl
plain_word specs all ts n w.Continue a b c = refl
plain_word specs all ts n w.Default a b c = refl
plain_word specs all ts n w.Do a b c = refl
plain_word specs all ts n w.Else a b c = refl
plain_word specs all ts n w.Enum a b c = absurd (a refl)
plain_word specs all ts n w.Extern a b c = refl
plain_word specs all ts n w.For a b c = refl
plain_word specs all ts n w.If a b c = refl
plain_word specs all ts n w.Inline a b c = refl
plain_word specs all ts n w.Int a b c = refl
plain_word specs all ts n w.Long a b c = refl
plain_word specs all ts n w.Register a b c = refl
plain_word specs all ts n w.Restrict a b c = refl
plain_word specs all ts n w.Return a b c = refl
plain_word specs all ts n w.Short a b c = refl
plain_word specs all ts n w.Signed a b c = refl
plain_word specs all ts n w.Sizeof a b c = refl
plain_word specs all ts n w.Static a b c = refl
plain_word specs all ts n w.Struct a b c = absurd (b refl)
plain_word specs all ts n w.Switch a b c = refl
plain_word specs all ts n w.Typedef a b c = refl
plain_word specs all ts n w.Unsigned a b c = refl
plain_word specs all ts n w.Void a b c = refl
plain_word specs all ts n w.Volatile a b c = refl
plain_word specs all ts n w.While a b c = refl
plain_word specs all ts n w.Bool a b c = refl
plain_word specs all ts n w.Extension a b c = refl
plain_word specs all ts n w.Attribute a b c = absurd (c refl)
