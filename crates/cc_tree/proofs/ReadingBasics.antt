-- What the first steps of reading find: a mark, a name. Each is stated once as what an answer means,
-- and once as the answer that is given to what stands there. Answers are composed by one rule, `ok_bind`.
use Rattle.std.proofs.Common.{◌≡◌, ℕ, Bool, true, false, cond, List, [], ◌∷◌, Option, Some, None, Result, Ok, Err, refl, ap, slice_get, IfSome, IfOk}
use Rattle.std.proofs.lemmas.Bool.{eqb-true, eq-eqb}
use Rattle.cc_lex.specs.declared.token.Kind.{Kind}
use Rattle.cc_lex.specs.declared.token.Kind.TheVariants as kind
use Rattle.cc_lex.specs.declared.token.Mark.{Mark}
use Rattle.cc_lex.specs.declared.token.Mark.TheVariants as m
use Rattle.cc_tree.specs.declared.stop.Stop.{Stop}
use Rattle.cc_tree.specs.Reading.{◌>>=◌, or_wrong, same_mark, mark_tag, mark_of, after, after_at, eat, name, name_at}
use Rattle.cc_tree.specs.Tokens.{Tokens, Name, Span, mark, ident}

-- where a reader's answer has P, and what goes on from it has Q
pub ok_bind : {A B : Type 0} (r : Result A Stop) (f : A → Result B Stop) (P : A → Type 0) (Q : B → Type 0) → IfOk r P → ((x : A) → P x → IfOk (f x) Q) → IfOk (r >>= f) Q
ok_bind (Err e) f P Q h k = tt
ok_bind (Ok x) f P Q h k = k x h

pub ok_map : {A : Type 0} (r : Result A Stop) (P Q : A → Type 0) → IfOk r P → ((x : A) → P x → Q x) → IfOk r Q
ok_map (Err e) P Q h k = tt
ok_map (Ok x) P Q h k = k x h

pub ok_chosen : {A : Type 0} (b : Bool) (x y : Result A Stop) (Q : A → Type 0) → (b ≡ true → IfOk x Q) → (b ≡ false → IfOk y Q) → IfOk (cond b x y) Q
ok_chosen true x y Q h k = h refl
ok_chosen false x y Q h k = k refl

all_marks : List Mark
all_marks =
    m.LBracket ∷ m.RBracket ∷ m.LParen ∷ m.RParen ∷ m.LBrace ∷ m.RBrace ∷ m.Dot ∷ m.Arrow ∷ m.PlusPlus ∷ m.MinusMinus ∷ m.Amp ∷ m.Star ∷ m.Plus ∷ m.Minus ∷ m.Tilde ∷ m.Bang ∷ m.Slash ∷ m.Percent ∷ m.Shl ∷ m.Shr ∷ m.Lt ∷ m.Gt ∷ m.Le ∷ m.Ge ∷ m.EqEq ∷ m.NotEq ∷ m.Caret ∷ m.Bar ∷ m.AndAnd ∷ m.OrOr ∷ m.Question ∷ m.Colon ∷ m.Semi ∷ m.Dots ∷ m.Assign ∷ m.StarAssign ∷ m.SlashAssign ∷ m.PercentAssign ∷ m.PlusAssign ∷ m.MinusAssign ∷ m.ShlAssign ∷ m.ShrAssign ∷ m.AndAssign ∷ m.XorAssign ∷ m.OrAssign ∷ m.Comma ∷ []

in_all : (o : Mark) → slice_get all_marks (mark_tag o) ≡ Some o
unfolding all_marks
in_all m.LBracket = refl
in_all m.RBracket = refl
in_all m.LParen = refl
in_all m.RParen = refl
in_all m.LBrace = refl
in_all m.RBrace = refl
in_all m.Dot = refl
in_all m.Arrow = refl
in_all m.PlusPlus = refl
in_all m.MinusMinus = refl
in_all m.Amp = refl
in_all m.Star = refl
in_all m.Plus = refl
in_all m.Minus = refl
in_all m.Tilde = refl
in_all m.Bang = refl
in_all m.Slash = refl
in_all m.Percent = refl
in_all m.Shl = refl
in_all m.Shr = refl
in_all m.Lt = refl
in_all m.Gt = refl
in_all m.Le = refl
in_all m.Ge = refl
in_all m.EqEq = refl
in_all m.NotEq = refl
in_all m.Caret = refl
in_all m.Bar = refl
in_all m.AndAnd = refl
in_all m.OrOr = refl
in_all m.Question = refl
in_all m.Colon = refl
in_all m.Semi = refl
in_all m.Dots = refl
in_all m.Assign = refl
in_all m.StarAssign = refl
in_all m.SlashAssign = refl
in_all m.PercentAssign = refl
in_all m.PlusAssign = refl
in_all m.MinusAssign = refl
in_all m.ShlAssign = refl
in_all m.ShrAssign = refl
in_all m.AndAssign = refl
in_all m.XorAssign = refl
in_all m.OrAssign = refl
in_all m.Comma = refl

pub same_mark-is : (a b : Mark) → same_mark a b ≡ true → a ≡ b
unfolding same_mark
same_mark-is a b h = let e = ap (slice_get all_marks) (eqb-true (mark_tag a) (mark_tag b) h) in cc (in_all a, in_all b, e)

pub same_mark-self : (a : Mark) → same_mark a a ≡ true
unfolding same_mark
same_mark-self a = eq-eqb (mark_tag a) (mark_tag a) refl

-- a mark, and the tokens behind it
abbrev pub Behind : Mark → Tokens → Tokens → Type 0
Behind o ts us = (s : Span) × (ts ≡ mark o s ∷ us)

after_kind : (o : Mark) (at len : ℕ) (k : Kind) (ts : Tokens) → IfSome (after_at ts o (mark_of k)) (λ us. Behind o (record { at = at; len = len; kind = k } ∷ ts) us)
after_kind o at len (kind.Punct n) ts = chosen (same_mark n o) refl
  where
    chosen : (b : Bool) → same_mark n o ≡ b → IfSome (cond b (Some ts) None) (λ us. Behind o (mark n (at, len) ∷ ts) us)
    chosen true h = ((at, len), ap (λ (x : Mark). mark x (at, len) ∷ ts) (same_mark-is n o h))
    chosen false h = tt
after_kind o at len _ ts = tt

pub after-sound : (o : Mark) (ts : Tokens) → IfSome (after o ts) (Behind o ts)
unfolding after
after-sound o [] = tt
after-sound o (t ∷ ts) = after_kind o t.at t.len t.kind ts

pub after-complete : (o : Mark) (s : Span) (ts : Tokens) → after o (mark o s ∷ ts) ≡ Some ts
unfolding after
after-complete o s ts = rw (same_mark-self o) refl

or_wrong-sound : {A : Type 0} (ts : Tokens) (r : Option A) (P : A → Type 0) → IfSome r P → IfOk (or_wrong ts r) P
or_wrong-sound ts None P h = tt
or_wrong-sound ts (Some x) P h = h

pub eat-sound : (o : Mark) (ts : Tokens) → IfOk (eat o ts) (Behind o ts)
eat-sound o ts = or_wrong-sound ts (after o ts) (Behind o ts) (after-sound o ts)

pub eat-complete : (o : Mark) (s : Span) (ts : Tokens) → eat o (mark o s ∷ ts) ≡ Ok ts
eat-complete o s ts = rw (after-complete o s ts) refl

-- a name, and the tokens behind it
abbrev pub Named : Tokens → Name × Tokens → Type 0
Named ts r = (s : Span) × (ts ≡ ident r.0 s ∷ r.1)

name_kind : (at len : ℕ) (k : Kind) (ts : Tokens) → IfOk (name_at (record { at = at; len = len; kind = k } ∷ ts) ts k) (Named (record { at = at; len = len; kind = k } ∷ ts))
name_kind at len (kind.Ident x) ts = ((at, len), refl)
name_kind at len _ ts = tt

pub name-sound : (ts : Tokens) → IfOk (name ts) (Named ts)
unfolding name
name-sound [] = tt
name-sound (t ∷ ts) = name_kind t.at t.len t.kind ts

pub name-complete : (x : Name) (s : Span) (ts : Tokens) → name (ident x s ∷ ts) ≡ Ok (x, ts)
unfolding name
name-complete x s ts = refl
