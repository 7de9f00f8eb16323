-- What is accounted for, one construct behind another, and by single changes of a state.
use Rattle.std.proofs.Common.{◌≡◌, ◌⊎◌, inl, inr, ⊎_elim, ℕ, zero, suc, Bool, true, false, true≢false, ◌||◌, List, [], ◌∷◌, ◌++◌, length, slice_get, Ok, refl, ap, sym, ◌∙◌, subst, append_assoc, append-nil}
use Rattle.std.proofs.lemmas.Bool.{or_left, or_right}
use Rattle.cc_terms.specs.CcOperands.Verdicts.{Judged}
use Rattle.cc_program.proofs.Each.{Each}
use Rattle.cc_terms.specs.CcScopes.State.{State, with_declared}
use Rattle.cc_terms.specs.CcScopes.Verdicts.{Found, whole, and_then}
use Rattle.cc_terms.specs.CcScopes.declared.unit.Declared.{Declared}
use Rattle.cc_terms.specs.CcSpecifiers.Places.{JudgedAt}
use Rattle.cc_terms.specs.InTurn.{in_turn}
use Rattle.cc_terms.specs.CcTypedTerms.Located.{located}
use Rattle.cc_accessed_terms.specs.Accounted.{is_numbered_kind, is_numbered_entry, Accounts, DeclaresNone}
use Rattle.cc_accessed_terms.proofs.Founds.{answer, answer_is, then_found, whole_found, located_found}

pub nothing_more : (a : ℕ → Bool) (i : ℕ) → false ≡ true → a i ≡ true
nothing_more a i h = absurd (true≢false (sym h))

pub accounts_itself : (accessed : ℕ → Bool) (s t : State) → t.names ≡ s.names → Accounts accessed s t
accounts_itself accessed s t e i h = inl (subst (λ (names : List Declared). is_numbered_entry (slice_get names i) ≡ true) e h)

pub accounts_more : (a b : ℕ → Bool) (s t : State) → ((i : ℕ) → a i ≡ true → b i ≡ true) → Accounts a s t → Accounts b s t
accounts_more a b s t f m i h = ⊎_elim (λ p. inl p) (λ p. inr (f i p)) (m i h)

pub accounts_through : (a b c : ℕ → Bool) (s t u : State) → ((i : ℕ) → a i ≡ true → c i ≡ true) → ((i : ℕ) → b i ≡ true → c i ≡ true) → Accounts a s t → Accounts b t u → Accounts c s u
accounts_through a b c s t u f g m n i h = ⊎_elim (λ p. accounts_more a c s t f m i p) (λ p. inr (g i p)) (n i h)

pub accounts_behind : (a : ℕ → Bool) (s t u : State) → DeclaresNone s t → Accounts a t u → Accounts a s u
accounts_behind a s t u m n = accounts_through (λ i. false) a a s t u (nothing_more a) (λ i h. h) m n

pub accounts_before : (a : ℕ → Bool) (s t u : State) → Accounts a s t → DeclaresNone t u → Accounts a s u
accounts_before a s t u m n = accounts_through a (λ i. false) a s t u (λ i h. h) (nothing_more a) m n

pub none_accounts : (a : ℕ → Bool) (s t : State) → DeclaresNone s t → Accounts a s t
none_accounts a s t m = accounts_more (λ i. false) a s t (nothing_more a) m

pub accounts_none : (a : ℕ → Bool) (s t : State) → ((i : ℕ) → a i ≡ false) → Accounts a s t → DeclaresNone s t
accounts_none a s t f m = accounts_more a (λ i. false) s t (λ i h. sym (f i) ∙ h) m

one_behind : (xs : List Declared) (d : Declared) (i : ℕ) → is_numbered_entry (slice_get (xs ++ d ∷ []) i) ≡ true → (is_numbered_entry (slice_get xs i) ≡ true) ⊎ ((i ≡ length xs) × (is_numbered_kind d.kind ≡ true))
one_behind [] d zero h = inr (refl, h)
one_behind [] d (suc i) h = absurd (true≢false (sym h))
one_behind (x ∷ xs) d zero h = inl h
one_behind (x ∷ xs) d (suc i) h = ⊎_elim (λ p. inl p) (λ p. inr (ap suc p.0, p.1)) (one_behind xs d i h)

pub more_declared : (accessed : ℕ → Bool) (d : Declared) (s : State) → (is_numbered_kind d.kind ≡ true → accessed (length s.names) ≡ true) → Accounts accessed s (with_declared d s)
more_declared accessed d s f i h = ⊎_elim (λ p. inl p) (λ p. inr (subst (λ n. accessed n ≡ true) (sym p.0) (f p.1))) (one_behind s.names d i h)

-- ---- what stands in front stays as it is, which `sizeof` goes back to

pub record Declares (accessed : ℕ → Bool) (s t : State) : Type 0 where
  pub added : List Declared
  pub names : t.names ≡ s.names ++ added
  pub accounts : Accounts accessed s t

-- no device without a name is declared
abbrev pub Nothing : State → State → Type 0
Nothing s t = Declares (λ i. false) s t

pub declares_itself : (a : ℕ → Bool) (s t : State) → t.names ≡ s.names → Declares a s t
declares_itself a s t e = record { added = []; names = e ∙ sym (append-nil s.names); accounts = accounts_itself a s t e }

pub declares_more : (a b : ℕ → Bool) (s t : State) → ((i : ℕ) → a i ≡ true → b i ≡ true) → Declares a s t → Declares b s t
declares_more a b s t f m = record { added = m.added; names = m.names; accounts = accounts_more a b s t f m.accounts }

pub declares_through : (a b c : ℕ → Bool) (s t u : State) → ((i : ℕ) → a i ≡ true → c i ≡ true) → ((i : ℕ) → b i ≡ true → c i ≡ true) → Declares a s t → Declares b t u → Declares c s u
declares_through a b c s t u f g m n = record {
  added = m.added ++ n.added;
  names = n.names ∙ ap (λ names. names ++ n.added) m.names ∙ append_assoc s.names m.added n.added;
  accounts = accounts_through a b c s t u f g m.accounts n.accounts;
}

pub declares_both : (a b : ℕ → Bool) (s t u : State) → Declares a s t → Declares b t u → Declares (λ i. a i || b i) s u
declares_both a b s t u m n = declares_through a b (λ i. a i || b i) s t u (λ i h. or_left (a i) (b i) h) (λ i h. or_right (a i) (b i) h) m n

pub declares_behind : (a : ℕ → Bool) (s t u : State) → Nothing s t → Declares a t u → Declares a s u
declares_behind a s t u m n = declares_through (λ i. false) a a s t u (nothing_more a) (λ i h. h) m n

pub nothing_through : (s t u : State) → Nothing s t → Nothing t u → Nothing s u
nothing_through s t u m n = declares_behind (λ i. false) s t u m n

pub declares_one : (a : ℕ → Bool) (d : Declared) (s : State) → (is_numbered_kind d.kind ≡ true → a (length s.names) ≡ true) → Declares a s (with_declared d s)
declares_one a d s f = record { added = d ∷ []; names = refl; accounts = more_declared a d s f }

-- ---- what is found, and declares nothing

pub unmoved : (s t : State) → t ≡ s → Nothing s t
unmoved s t e = declares_itself (λ i. false) s t (ap (λ (z : State). z.names) e)

pub chained : {A B : Type 0} (found : Found A) (next : A → State → Found B) (s : State) (r : B × State) → ((x : A × State) → found ≡ Ok x → Nothing s x.1) →
    ((x : A × State) → next x.0 x.1 ≡ Ok r → Nothing x.1 r.1) → and_then found next ≡ Ok r → Nothing s r.1
chained found next s r f g h = let x = then_found found next r h in nothing_through s x.0.1 r.1 (f x.0 x.1) (g x.0 x.2)

pub answered : {A : Type 0} (x : A) (s t : State) (r : A × State) → t.names ≡ s.names → answer x t ≡ Ok r → Nothing s r.1
answered x s t r e h = declares_itself (λ i. false) s r.1 (ap (λ (z : State). z.names) (answer_is x t r h).1 ∙ e)

pub judged : {A : Type 0} (at : ℕ) (s : State) (j : Judged A) (r : A × State) → whole at s j ≡ Ok r → Nothing s r.1
judged at s j r h = unmoved s r.1 (whole_found at s j r h).1

pub placed : {A : Type 0} (s : State) (j : JudgedAt A) (r : A × State) → located s j ≡ Ok r → Nothing s r.1
placed s j r h = unmoved s r.1 (located_found s j r h).1

-- one behind another in a list
pub in_turn_nothing : {A B : Type 0} (find : A → B → State → Found B) (Good : A → Type 0) → ((x : A) → Good x → (b : B) (s : State) (r : B × State) → find x b s ≡ Ok r → Nothing s r.1) →
    (xs : List A) → Each Good xs → (b : B) (s : State) (r : B × State) → in_turn find xs b s ≡ Ok r → Nothing s r.1
in_turn_nothing find Good f [] g b s r h = answered b s s r refl h
in_turn_nothing find Good f (x ∷ xs) g b s r h = chained (find x b s) (in_turn find xs) s r (λ y e. f x g.0 b s y e) (λ y e. in_turn_nothing find Good f xs g.1 y.0 y.1 r e) h
