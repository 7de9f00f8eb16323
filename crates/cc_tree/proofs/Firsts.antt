-- What may stand first in an expression, a declarator, a declaration and a statement, and what it is not.
use Rattle.std.proofs.Common.{◌≡◌, ℕ, Bool, true, false, List, [], ◌∷◌, Option, Some, None, is_some, not, refl, ap, sym, ◌∙◌}
use Rattle.cc_lex.specs.declared.token.Kind.{Kind}
use Rattle.cc_lex.specs.declared.token.Kind.TheVariants as kind
use Rattle.cc_lex.specs.declared.token.Mark.{Mark}
use Rattle.cc_lex.specs.declared.token.Mark.TheVariants as m
use Rattle.cc_words.specs.declared.word.Word.{Word}
use Rattle.cc_words.specs.declared.word.Word.TheVariants as w
use Rattle.cc_tree.specs.declared.at.At.{At}
use Rattle.cc_tree.specs.declared.tree.Declr as declr
use Rattle.cc_tree.specs.declared.tree.Declr.{Declr, fold-roll-Declr}
use Rattle.cc_tree.specs.declared.tree.Declr.TheOpen as one
use Rattle.cc_tree.specs.declared.tree.Declr.TheVariants as declr_rolls
use Rattle.cc_tree.specs.declared.tree.Params.{Params}
use Rattle.cc_tree.specs.declared.tree.Tree.{Tree}
use Rattle.cc_tree.specs.Operators.{operand_level}
use Rattle.cc_tree.specs.Reading.{after, same_mark}
use Rattle.cc_tree.specs.ReadTypes.{begins_specs}
use Rattle.cc_tree.specs.Scopes.{Scope, is_typedef, name_of, declr_name}
use Rattle.cc_tree.specs.Terms
use Rattle.cc_tree.specs.Tokens.{Tokens, Name, offset}
use Rattle.cc_tree.specs.TurnLines.{after_else, begins_else, behind_else, statement, statement_at, statement_word, statement_mark, expr_statement}
use Rattle.cc_tree.proofs.GoesOn.{kind_goes_on_specs, goes_on_specs}
use Rattle.cc_tree.proofs.NewNames.{name_of-Nothing, name_of-Array, name_of-Func}
use Rattle.cc_tree.proofs.ReadingBasics.{same_mark-is}

false_is_true : false ≡ true → ⊥
false_is_true h = cc

not-true : (b : Bool) → not b ≡ true → b ≡ false
not-true false h = refl
not-true true h = sym h

-- expressions

abbrev pub starts_mark : Mark → Bool
starts_mark m.LParen = true
starts_mark o = is_some (operand_level o)

abbrev pub starts_word : Word → Bool
starts_word w.Sizeof = true
starts_word w.Extension = true
starts_word _ = false

abbrev pub starts_kind : Kind → Bool
starts_kind (kind.Punct o) = starts_mark o
starts_kind (kind.Keyword x) = starts_word x
starts_kind _ = true

-- what an expression may begin with
abbrev pub starts_tree : Tokens → Bool
starts_tree [] = false
starts_tree (t ∷ ts) = starts_kind t.kind

prefix-starts : (o : Mark) (k : ℕ) → operand_level o ≡ Some k → starts_mark o ≡ true
prefix-starts m.LParen k h = refl
prefix-starts _ k h = ap is_some h

text-starts : {b : List ℕ} {ts us : Tokens} → Terms.IsTexts b ts us → starts_tree ts ≡ true
text-starts (Terms.LastText b s us) = refl
text-starts (Terms.MoreText b c s ts us h) = refl

pub tree-starts : {scope : Scope} {l : ℕ} {e : At Tree} {ts us : Tokens} → Terms.IsTree scope l e ts us → starts_tree ts ≡ true
tree-starts (Terms.AName scope l x s us h) = refl
tree-starts (Terms.ANumber scope l n f s us) = refl
tree-starts (Terms.ACharacter scope l c s us) = refl
tree-starts (Terms.AText scope l b ts us h) = text-starts h
tree-starts (Terms.InParens scope l e p q ts us h) = refl
tree-starts (Terms.ASubscript scope l a i p q ts us vs n h k) = tree-starts h
tree-starts (Terms.ACall scope l f es p q ts us vs n h k) = tree-starts h
tree-starts (Terms.ACallOfNone scope l f p q ts us n h) = tree-starts h
tree-starts (Terms.AMember scope l e x p s ts us n h) = tree-starts h
tree-starts (Terms.AnArrow scope l e x p s ts us n h) = tree-starts h
tree-starts (Terms.APostfix scope l e o p ts us n i h) = tree-starts h
tree-starts (Terms.APrefix scope l k o e p ts us n i h) = prefix-starts o k i
tree-starts (Terms.ASizeOf scope l e p ts us n h) = refl
tree-starts (Terms.ASizeOfType scope l t s p q ts us n h) = refl
tree-starts (Terms.AnExtension scope l e p ts us n h) = refl
tree-starts (Terms.ACast scope l t e p q ts us vs n h k) = refl
tree-starts (Terms.ABinary scope l k o a b p ts us vs n i h j) = tree-starts h
tree-starts (Terms.AChoice scope l c a b p q ts us vs ws n h i j) = tree-starts h
tree-starts (Terms.AnAssignment scope l o a b p ts us vs n i h j) = tree-starts h
tree-starts (Terms.AComma scope a b p ts us vs h i) = tree-starts h

-- the marks that begin no expression
abbrev pub stops : Mark → Bool
stops m.RBrace = true
stops m.LBrace = true
stops m.Semi = true
stops m.RParen = true
stops m.Comma = true
stops _ = false

stop_or_start : (o : Mark) → stops o ≡ true → starts_mark o ≡ false
stop_or_start m.RBrace h = refl
stop_or_start m.LBrace h = refl
stop_or_start m.Semi h = refl
stop_or_start m.RParen h = refl
stop_or_start m.Comma h = refl
stop_or_start _ h = absurd (false_is_true h)

mark_stops : (o n : Mark) (b : Bool) → stops o ≡ true → starts_mark n ≡ true → same_mark n o ≡ b → b ≡ false
mark_stops o n false h k e = refl
mark_stops o n true h k e =
    let i : starts_mark o ≡ true = ap starts_mark (sym (same_mark-is n o e)) ∙ k in
    let j = stop_or_start o h in cc

kind-no_mark : (o : Mark) (at len : ℕ) (k : Kind) (ts : Tokens) → stops o ≡ true → starts_kind k ≡ true → after o (record { at = at; len = len; kind = k } ∷ ts) ≡ None
unfolding after
kind-no_mark o at len (kind.Punct n) ts h k = rw (mark_stops o n (same_mark n o) h k refl) refl
kind-no_mark o at len _ ts h k = refl

pub tree-no_mark : (o : Mark) (ts : Tokens) → stops o ≡ true → starts_tree ts ≡ true → after o ts ≡ None
unfolding after
tree-no_mark o [] h k = refl
tree-no_mark o (t ∷ ts) h k = kind-no_mark o t.at t.len t.kind ts h k

word-no_else : (x : Word) (ts : Tokens) → starts_word x ≡ true → behind_else ts (begins_else (kind.Keyword x)) ≡ None
word-no_else w.Else ts h = absurd (false_is_true h)
word-no_else _ ts h = refl

kind-no_else : (k : Kind) (ts : Tokens) → starts_kind k ≡ true → behind_else ts (begins_else k) ≡ None
kind-no_else (kind.Keyword x) ts h = word-no_else x ts h
kind-no_else _ ts h = refl

pub tree-no_else : (ts : Tokens) → starts_tree ts ≡ true → after_else ts ≡ None
unfolding after_else
tree-no_else [] h = refl
tree-no_else (t ∷ ts) h = kind-no_else t.kind ts h

-- such a statement is one of an expression

mark-statement : (scope : Scope) (all ts : Tokens) (n : ℕ) (o : Mark) → starts_mark o ≡ true → statement_mark scope all ts n o ≡ expr_statement all n
mark-statement scope all ts n m.LBrace h = absurd (false_is_true h)
mark-statement scope all ts n m.Semi h = absurd (false_is_true h)
mark-statement scope all ts n _ h = refl

word-statement : (scope : Scope) (all ts : Tokens) (n : ℕ) (x : Word) → starts_word x ≡ true → statement_word scope all ts n x ≡ expr_statement all n
word-statement scope all ts n w.Sizeof h = refl
word-statement scope all ts n w.Extension h = refl
word-statement scope all ts n _ h = absurd (false_is_true h)

kind-statement : (scope : Scope) (all ts : Tokens) (n : ℕ) (k : Kind) → starts_kind k ≡ true → statement_at scope all ts n k ≡ expr_statement all n
kind-statement scope all ts n (kind.Punct o) h = mark-statement scope all ts n o h
kind-statement scope all ts n (kind.Keyword x) h = word-statement scope all ts n x h
kind-statement scope all ts n _ h = refl

pub tree-statement : (scope : Scope) (ts : Tokens) → starts_tree ts ≡ true → statement scope ts ≡ expr_statement ts (offset ts)
unfolding statement
tree-statement scope [] h = absurd (false_is_true h)
tree-statement scope (t ∷ ts) h = kind-statement scope (t ∷ ts) ts t.at t.kind h

-- specifiers

kind-no_mark_spec : (scope : Scope) (o : Mark) (at len : ℕ) (k : Kind) (ts : Tokens) → begins_specs scope (record { at = at; len = len; kind = k } ∷ ts) ≡ true → after o (record { at = at; len = len; kind = k } ∷ ts) ≡ None
unfolding after
kind-no_mark_spec scope o at len (kind.Punct n) ts h = absurd (false_is_true h)
kind-no_mark_spec scope o at len _ ts h = refl

pub specs-no_mark : (scope : Scope) (o : Mark) (ts : Tokens) → begins_specs scope ts ≡ true → after o ts ≡ None
unfolding after
specs-no_mark scope o [] h = refl
specs-no_mark scope o (t ∷ ts) h = kind-no_mark_spec scope o t.at t.len t.kind ts h

word-no_else_spec : (scope : Scope) (at len : ℕ) (x : Word) (ts : Tokens) → begins_specs scope (record { at = at; len = len; kind = kind.Keyword x } ∷ ts) ≡ true → behind_else ts (begins_else (kind.Keyword x)) ≡ None
word-no_else_spec scope at len w.Else ts h = absurd (false_is_true h)
word-no_else_spec scope at len _ ts h = refl

kind-no_else_spec : (scope : Scope) (at len : ℕ) (k : Kind) (ts : Tokens) → begins_specs scope (record { at = at; len = len; kind = k } ∷ ts) ≡ true → behind_else ts (begins_else k) ≡ None
kind-no_else_spec scope at len (kind.Keyword x) ts h = word-no_else_spec scope at len x ts h
kind-no_else_spec scope at len _ ts h = refl

pub specs-no_else : (scope : Scope) (ts : Tokens) → begins_specs scope ts ≡ true → after_else ts ≡ None
unfolding after_else
specs-no_else scope [] h = refl
specs-no_else scope (t ∷ ts) h = kind-no_else_spec scope t.at t.len t.kind ts h

-- declarators with a name

no_name : (n : Option Name) (x : Name) → n ≡ None → n ≡ Some x → ⊥
no_name n x h k = cc

abbrev pub starts_declr_kind : Scope → Kind → Bool
starts_declr_kind scope (kind.Ident x) = not (is_typedef scope x)
starts_declr_kind scope (kind.Punct m.Star) = true
starts_declr_kind scope (kind.Punct m.LParen) = true
starts_declr_kind scope (kind.Punct m.LBracket) = true
starts_declr_kind scope _ = false

abbrev pub starts_declr : Scope → Tokens → Bool
starts_declr scope [] = false
starts_declr scope (t ∷ ts) = starts_declr_kind scope t.kind

pub declr-starts : {scope : Scope} {direct : Bool} {d : At Declr} {ts us : Tokens} → Terms.IsDeclr scope direct d ts us → (x : Name) → name_of d.node ≡ Some x → starts_declr scope ts ≡ true
declr-starts (Terms.NoName scope direct ts) x h = absurd (no_name (name_of declr.Nothing) x name_of-Nothing h)
declr-starts (Terms.DeclaredName scope direct y s us h) x n = rw h refl
declr-starts (Terms.DeclrInParens scope direct d p q ts us h k) x n = refl
declr-starts (Terms.APointer scope qs d p ts us vs h k) x n = refl
declr-starts (Terms.AnArray scope direct d bound p q ts us vs h k) x n = declr-starts h x (sym (name_of-Array d (Some bound)) ∙ n)
declr-starts (Terms.AnOpenArray scope direct d p q ts us h) x n = declr-starts h x (sym (name_of-Array d None) ∙ n)
declr-starts (Terms.AFunction scope direct d ps p q ts us vs h k) x n = declr-starts h x (sym (name_of-Func d ps) ∙ n)

mark-no_spec : (scope : Scope) (o : Mark) → starts_declr_kind scope (kind.Punct o) ≡ true → kind_goes_on_specs scope (kind.Punct o) ≡ false
mark-no_spec scope m.LBrace h = absurd (false_is_true h)
mark-no_spec scope _ h = refl

kind-no_spec : (scope : Scope) (k : Kind) → starts_declr_kind scope k ≡ true → kind_goes_on_specs scope k ≡ false
kind-no_spec scope (kind.Ident x) h = not-true (is_typedef scope x) h
kind-no_spec scope (kind.Punct o) h = mark-no_spec scope o h
kind-no_spec scope _ h = absurd (false_is_true h)

pub declr-no_spec : (scope : Scope) (ts : Tokens) → starts_declr scope ts ≡ true → goes_on_specs scope ts ≡ false
declr-no_spec scope [] h = refl
declr-no_spec scope (t ∷ ts) h = kind-no_spec scope t.kind h

mark-no_semi : (scope : Scope) (o : Mark) → starts_declr_kind scope (kind.Punct o) ≡ true → same_mark o m.Semi ≡ false
unfolding same_mark
mark-no_semi scope m.Star h = refl
mark-no_semi scope m.LParen h = refl
mark-no_semi scope m.LBracket h = refl
mark-no_semi scope _ h = absurd (false_is_true h)

kind-no_semi : (scope : Scope) (at len : ℕ) (k : Kind) (ts : Tokens) → starts_declr_kind scope k ≡ true → after m.Semi (record { at = at; len = len; kind = k } ∷ ts) ≡ None
unfolding after
kind-no_semi scope at len (kind.Punct o) ts h = rw (mark-no_semi scope o h) refl
kind-no_semi scope at len _ ts h = refl

pub declr-no_semi : (scope : Scope) (ts : Tokens) → starts_declr scope ts ≡ true → after m.Semi ts ≡ None
unfolding after
declr-no_semi scope [] h = refl
declr-no_semi scope (t ∷ ts) h = kind-no_semi scope t.at t.len t.kind ts h
