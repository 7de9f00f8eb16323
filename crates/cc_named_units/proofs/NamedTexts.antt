-- In a text without a word that is outside the subset, identifiers may name something.
use Rattle.std.proofs.Common.{◌≡◌, ℕ, Bool, true, false, ◌&&◌, ◌||◌, List, Option, Some, None, refl}
use Rattle.std.specs.Prelude.{codes}
use Rattle.cc_type.specs.CcLex.Identifiers.{named}
use Rattle.cc_type.specs.CcLex.Tokens.{Spells, AName, ANumber, ACharacter, AText, AMark, TokensFrom, NoToken, Separated, Spelled, Tokens}
use Rattle.cc_type.specs.CcLex.declared.token.Kind.{Kind}
use Rattle.cc_type.specs.CcLex.declared.token.Token.{Token}
use Rattle.cc_type.proofs.CcSyntax.SameLemmas.{and_true}
use Rattle.cc_tree.specs.Outside.{begins_literal, first_at, first_outside, outside_word}
use Rattle.cc_tree.specs.Outside.{named as outside}
use Rattle.cc_tree.specs.Scopes.{same_name}
use Rattle.cc_tree.specs.Tokens.{Name}
use Rattle.cc_program.specs.CcWords.Names.{is_identifier, is_name}
use Rattle.cc_program.specs.CcWords.Words.{word_of, is_outside}
use Rattle.cc_program.specs.CcWords.declared.word.Word.{Word}
use Rattle.cc_named_units.specs.Names.{kind_named, tokens_named}

none_first : (o : Option Name) (n : ℕ) (other : Option (Name × ℕ)) → first_at o n other ≡ None → (o ≡ None) × (other ≡ None)
none_first None n other h = (refl, h)
none_first (Some x) n other h = absurd (cc)

first_false : (a b : Bool) (x : Name) → outside (a || b) x ≡ None → a ≡ false
first_false true b x h = absurd (cc)
first_false false b x h = refl

may_name : (x : List ℕ) → is_identifier x ≡ true → word_of x ≡ None → is_outside x ≡ false → is_name x ≡ true
unfolding is_name
may_name x i w o = rw (i, w, o) refl

named_by : (o : Option Word) (x : List ℕ) (ts : List Token) → word_of x ≡ o → is_identifier x ≡ true → outside_word (named o x) ts ≡ None → kind_named (named o x) ≡ true
named_by None x ts w i h = may_name x i w (first_false (is_outside x) (same_name x (codes "L") && begins_literal ts) x h)
named_by (Some k) x ts w i h = refl

spelling_named : {w rest : List ℕ} {k : Kind} (ts : List Token) → Spells w rest k → outside_word k ts ≡ None → kind_named k ≡ true
spelling_named ts (AName w rest i b) h = named_by (word_of w) w ts refl i h
spelling_named ts (ANumber w rest n s p l i) h = refl
spelling_named ts (ACharacter c rest v i e) h = refl
spelling_named ts (AText c rest vs i b) h = refl
spelling_named ts (AMark m rest l n b) h = refl

from_named : {fresh : Bool} {at : ℕ} {text : List ℕ} {ts : List Token} → TokensFrom fresh at text ts → first_outside ts ≡ None → tokens_named ts ≡ true
from_named (NoToken fresh at) h = refl
from_named (Separated fresh after at gap rest ts s d) h = from_named d h
from_named (Spelled fresh at w rest k ts s d) h =
    let c = none_first (outside_word k ts) at (first_outside ts) h in
    and_true (kind_named k) (tokens_named ts) (spelling_named ts s c.0) (from_named d c.1)

pub text_named : (text : List ℕ) (ts : List Token) → Tokens text ts → first_outside ts ≡ None → tokens_named ts ≡ true
text_named text ts d h = from_named d h
