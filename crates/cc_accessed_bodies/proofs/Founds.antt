-- What follows of a construct that is found, and of constructs one behind another; what any of a list accesses.
use Rattle.std.proofs.Common.{◌≡◌, ℕ, Bool, true, ◌||◌, List, [], ◌∷◌, ◌++◌, Ok, Err, refl, subst}
use Rattle.std.specs.List.{list_any}
use Rattle.std.proofs.lemmas.Bool.{or_left, or_right}
use Rattle.cc_accessed_operands.proofs.Accesses.{or_kept, no}
use Rattle.cc_accessed_terms.specs.Accounted.{Accounts}
use Rattle.cc_accessed_terms.proofs.Accounts.{accounts_itself, accounts_through}
use Rattle.cc_accessed_terms.proofs.Founds.{answer, then_found}
use Rattle.cc_type.specs.CcOperands.Verdicts.{Judged}
use Rattle.cc_program.proofs.Each.{Each}
use Rattle.cc_type.specs.CcScopes.State.{State}
use Rattle.cc_type.specs.CcScopes.Verdicts.{Found, whole}
use Rattle.cc_type.specs.CcTerms.InTurn.{in_turn}

-- ---- the end of a construct

pub ends : {A : Type 0} (P : A × State → Type 0) (x : A) (s : State) (r : A × State) → answer x s ≡ Ok r → P (x, s) → P r
ends P x s r h p = let e : (x, s) ≡ r = cc in subst P e p

pub whole_ends : {A : Type 0} (P : A × State → Type 0) (at : ℕ) (s : State) (judged : Judged A) (r : A × State) → whole at s judged ≡ Ok r → ((x : A) → judged ≡ Ok x → P (x, s)) → P r
whole_ends P at s (Ok x) r h f = ends P x s r h (f x refl)
whole_ends P at s (Err broken) r h f = absurd (cc)

-- ---- one construct behind another

pub accounts_both : (a b : ℕ → Bool) (s t u : State) → Accounts a s t → Accounts b t u → Accounts (λ i. a i || b i) s u
accounts_both a b s t u m n = accounts_through a b (λ i. a i || b i) s t u (λ i h. or_left (a i) (b i) h) (λ i h. or_right (a i) (b i) h) m n

-- ---- any of a list

pub any_front : {A : Type 0} (test : A → Bool) (xs ys : List A) → list_any test xs ≡ true → list_any test (xs ++ ys) ≡ true
any_front test [] ys h = no h
any_front test (x ∷ xs) ys h = or_kept (test x) (list_any test xs) (test x) (list_any test (xs ++ ys)) (λ k. k) (any_front test xs ys) h

pub any_behind : {A : Type 0} (test : A → Bool) (xs ys : List A) → list_any test ys ≡ true → list_any test (xs ++ ys) ≡ true
any_behind test [] ys h = h
any_behind test (x ∷ xs) ys h = or_right (test x) (list_any test (xs ++ ys)) (any_behind test xs ys h)

-- ---- constructs one behind another, of which each keeps what those before it access

pub record GoesOn {B : Type 0} (accessed : B → ℕ → Bool) (b : B) (s : State) (r : B × State) : Type 0 where
  pub kept : (i : ℕ) → accessed b i ≡ true → accessed r.0 i ≡ true
  pub accounts : Accounts (accessed r.0) s r.1

pub in_turn_goes_on : {A B : Type 0} (find : A → B → State → Found B) (accessed : B → ℕ → Bool) (Good : A → Type 0) →
    ((x : A) → Good x → (b : B) (s : State) (r : B × State) → find x b s ≡ Ok r → GoesOn accessed b s r) → (xs : List A) → Each Good xs → (b : B) (s : State) (r : B × State) → in_turn find xs b s ≡ Ok r → GoesOn accessed b s r
in_turn_goes_on find accessed Good f [] g b s r h = ends (GoesOn accessed b s) b s r h (record { kept = λ i k. k; accounts = accounts_itself (accessed b) s s refl })
in_turn_goes_on find accessed Good f (x ∷ xs) g b s r h =
    let a = then_found (find x b s) (in_turn find xs) r h in
    let first = f x g.0 b s a.0 a.1 in
    let rest = in_turn_goes_on find accessed Good f xs g.1 a.0.0 a.0.1 r a.2 in
    record {
      kept = λ i k. rest.kept i (first.kept i k);
      accounts = accounts_through (accessed a.0.0) (accessed r.0) (accessed r.0) s a.0.1 r.1 rest.kept (λ i k. k) first.accounts rest.accounts;
    }
