-- The numbers of a text fit.
use Rattle.std.proofs.Common.{◌≡◌, ◌<◌, ◌≤◌, ◌^◌, ℕ, Bool, true, false, List, Option, Some, None, refl, arith}
use Rattle.std.proofs.lemmas.Bool.{lt-ltb}
use Rattle.cc_type.specs.CcLex.Identifiers.{named}
use Rattle.cc_type.specs.CcLex.Numbers.{IsInteger, AnInteger, greatest}
use Rattle.cc_type.specs.CcLex.Tokens.{Spells, AName, ANumber, ACharacter, AText, AMark, TokensFrom, NoToken, Separated, Spelled, Tokens}
use Rattle.cc_type.specs.CcLex.declared.token.Kind.{Kind}
use Rattle.cc_type.specs.CcLex.declared.token.Suffix.{Suffix}
use Rattle.cc_type.specs.CcLex.declared.token.Token.{Token}
use Rattle.cc_type.proofs.CcSyntax.SameLemmas.{and_true}
use Rattle.cc_program.specs.CcWords.Words.{word_of}
use Rattle.cc_program.specs.CcWords.declared.word.Word.{Word}
use Rattle.cc_read_sound.specs.Ranges.{kind_fits, tokens_fit}

below : (decimal unsigned : Bool) (n : ℕ) → n ≤ greatest decimal unsigned → n < 2 ^ 64
below true true n h = omega arith
below true false n h = omega arith
below false true n h = omega arith
below false false n h = omega arith

integer_fits : {w : List ℕ} {n : ℕ} {s : Suffix} → IsInteger w n s → n < 2 ^ 64
integer_fits (AnInteger w s decimal unsigned n longs c d h) = below decimal unsigned n h

name_fits : (o : Option Word) (x : List ℕ) → kind_fits (named o x) ≡ true
name_fits None x = refl
name_fits (Some w) x = refl

spelling_fits : {w rest : List ℕ} {k : Kind} → Spells w rest k → kind_fits k ≡ true
spelling_fits (AName w rest i b) = name_fits (word_of w) w
spelling_fits (ANumber w rest n s p l i) = lt-ltb n (2 ^ 64) (integer_fits i)
spelling_fits (ACharacter c rest v i e) = refl
spelling_fits (AText c rest vs i b) = refl
spelling_fits (AMark m rest l n b) = refl

from_fits : {fresh : Bool} {at : ℕ} {text : List ℕ} {ts : List Token} → TokensFrom fresh at text ts → tokens_fit ts ≡ true
from_fits (NoToken fresh at) = refl
from_fits (Separated fresh after at gap rest ts s d) = from_fits d
from_fits (Spelled fresh at w rest k ts s d) = and_true (kind_fits k) (tokens_fit ts) (spelling_fits s) (from_fits d)

pub text_fits : (text : List ℕ) (ts : List Token) → Tokens text ts → tokens_fit ts ≡ true
text_fits text ts d = from_fits d
