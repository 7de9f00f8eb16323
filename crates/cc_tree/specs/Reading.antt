-- The first steps of the reader, as functions on whole lists of tokens: an executable twin of the code,
-- and no definition of the grammar. What is read is answered with the tokens behind it.
use Rattle.std.specs.Prelude.{◌≡◌, ℕ, zero, suc, Bool, true, false, List, [], ◌∷◌, Option, Some, None, Result, Ok, Err, length, nat_eq, if◌then◌else◌, is_some, ⊤}
use Rattle.std.specs.Borrow.{Bor}
use denote.Enum.Declared.{tag_of}
use Rattle.cc_lex.specs.contracts.token.Mark as mark_type
use Rattle.cc_lex.specs.declared.token.Kind.{Kind}
use Rattle.cc_lex.specs.declared.token.Kind.TheVariants as kind
use Rattle.cc_lex.specs.declared.token.Mark.{Mark}
use Rattle.cc_lex.specs.declared.token.Mark.TheVariants as m
use Rattle.cc_lex.specs.declared.token.Token.{Token}
use Rattle.cc_tree.specs.declared.stop.Stop.{Stop}
use Rattle.cc_tree.specs.declared.stop.Stop.TheVariants as stop
use Rattle.cc_tree.specs.Tokens.{Tokens, Name}

-- where the code answers want of memory, nothing is said; else it answers this
abbrev pub StopGives : {Y : Type 0} → Stop → Result Y Stop → Type 0
StopGives stop.NoMemory read = ⊤
StopGives e read = read ≡ Err e

abbrev pub Gives : {X Y : Type 0} → (X → Y) → Result X Stop → Result Y Stop → Type 0
Gives view (Ok x) read = read ≡ Ok (view x)
Gives view (Err e) read = StopGives e read

-- what was read, and the tokens behind it
abbrev pub Flat : Type 0 → Type 0
Flat A = Result (A × Tokens) Stop

infixl 10 ◌>>=◌
abbrev pub ◌>>=◌ : {A B : Type 0} → Result A Stop → (A → Result B Stop) → Result B Stop
(Err e) >>= f = Err e
(Ok x) >>= f = f x

abbrev pub wrong : {A : Type 0} → Tokens → Result A Stop
wrong ts = Err (stop.Wrong (length ts))

abbrev pub mark_tag : Mark → ℕ
mark_tag m = tag_of mark_type.the_type m

unfoldable pub same_mark : Mark → Mark → Bool
same_mark a b = nat_eq (mark_tag a) (mark_tag b)

abbrev pub mark_of : Kind → Option Mark
mark_of (kind.Punct m) = Some m
mark_of _ = None

-- the tokens behind a mark, where it stands first
abbrev pub after_at : Tokens → Mark → Option Mark → Option Tokens
after_at rest m None = None
after_at rest m (Some n) = if same_mark n m then Some rest else None

unfoldable pub after : Mark → Tokens → Option Tokens
after m [] = None
after m (t ∷ ts) = after_at ts m (mark_of t.kind)

abbrev pub or_wrong : {A : Type 0} → Tokens → Option A → Result A Stop
or_wrong ts None = wrong ts
or_wrong ts (Some x) = Ok x

abbrev pub eat : Mark → Tokens → Result Tokens Stop
eat m ts = or_wrong ts (after m ts)

abbrev pub begins_with : Mark → Tokens → Bool
begins_with m ts = is_some (after m ts)

-- the mark that stands first, with the tokens behind it
abbrev pub mark_before : Tokens → Option Mark → Option (Mark × Tokens)
mark_before ts None = None
mark_before ts (Some m) = Some (m, ts)

unfoldable pub first_mark : Tokens → Option (Mark × Tokens)
first_mark [] = None
first_mark (t ∷ ts) = mark_before ts (mark_of t.kind)

-- the name that stands first
abbrev pub name_at : Tokens → Tokens → Kind → Flat Name
name_at all rest (kind.Ident x) = Ok (x, rest)
name_at all rest _ = wrong all

unfoldable pub name : Tokens → Flat Name
name [] = wrong []
name (t ∷ ts) = name_at (t ∷ ts) ts t.kind

-- the views of the code's values
abbrev pub flat_of : {A : Type 0} → A × Bor (List Token) → A × Tokens
flat_of r = (r.0, r.1.now)

abbrev pub name_read : Bor (List ℕ) × Bor (List Token) → Name × Tokens
name_read r = (r.0.now, r.1.now)

abbrev pub rest_of : Option (Bor (List Token)) → Option Tokens
rest_of None = None
rest_of (Some r) = Some r.now

abbrev pub mark_and_rest : Option (Mark × Bor (List Token)) → Option (Mark × Tokens)
mark_and_rest None = None
mark_and_rest (Some r) = Some (r.0, r.1.now)

-- Parts that stand one behind another, as long as one begins; at most n.
abbrev pub in_front : {A : Type 0} → A → Flat (List A) → Flat (List A)
in_front x (Err e) = Err e
in_front x (Ok r) = Ok (x ∷ r.0, r.1)

abbrev pub repeated_at : {A : Type 0} → (Tokens → Flat A) → (Tokens → Flat (List A)) → Tokens → Bool → Flat (List A)
repeated_at one more ts false = Ok ([], ts)
repeated_at one more ts true = one ts >>= λ r. in_front r.0 (more r.1)

unfoldable pub repeated : {A : Type 0} → (Tokens → Bool) → (Tokens → Flat A) → ℕ → Tokens → Flat (List A)
repeated begins one zero ts = wrong ts
repeated begins one (suc n) ts = repeated_at one (repeated begins one n) ts (begins ts)

-- Parts with commas between them; at most n.
abbrev pub separated_at : {A : Type 0} → A × Tokens → (Tokens → Flat (List A)) → Option Tokens → Flat (List A)
separated_at r more None = Ok (r.0 ∷ [], r.1)
separated_at r more (Some us) = in_front r.0 (more us)

unfoldable pub separated : {A : Type 0} → (Tokens → Flat A) → ℕ → Tokens → Flat (List A)
separated one zero ts = wrong ts
separated one (suc n) ts = one ts >>= λ r. separated_at r (separated one n) (after m.Comma r.1)
