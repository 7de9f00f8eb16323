-- What follows of a construct that is found, whatever is known where it stands.
use Rattle.std.proofs.Common.{◌≡◌, ℕ, List, [], ◌∷◌, ◌++◌, Ok, Err, refl, ap, subst}
use Rattle.cc_terms.specs.CcOperands.Verdicts.{Judged}
use Rattle.cc_program.proofs.Each.{Each}
use Rattle.cc_terms.specs.CcScopes.State.{State}
use Rattle.cc_terms.specs.CcScopes.Verdicts.{Found, whole, and_then}
use Rattle.cc_terms.specs.InTurn.{in_turn, one_more}

abbrev pub answer : {A : Type 0} → A → State → Found A
answer x s = Ok (x, s)

abbrev this : {A : Type 0} → A × State → Found A
this x = Ok x

pub found_is : {A : Type 0} (x r : A × State) → this x ≡ Ok r → x ≡ r
found_is x r h = cc

pub answer_is : {A : Type 0} (x : A) (s : State) (r : A × State) → answer x s ≡ Ok r → x ≡ r.0
answer_is x s r h = let e : (x, s) ≡ r = cc in ap (λ y. y.0) e

pub then_found : {A B : Type 0} (found : Found A) (next : A → State → Found B) (r : B × State) → and_then found next ≡ Ok r → (x : A × State) × (found ≡ Ok x) × (next x.0 x.1 ≡ Ok r)
then_found (Ok x) next r h = (x, refl, h)
then_found (Err fault) next r h = absurd (cc)

pub whole_found : {A : Type 0} (at : ℕ) (s : State) (judged : Judged A) (r : A × State) → whole at s judged ≡ Ok r → judged ≡ Ok r.0
whole_found at s (Ok x) r h = ap Ok (answer_is x s r h)
whole_found at s (Err broken) r h = absurd (cc)

pub each_append : {A : Type 0} (P : A → Type 0) (xs ys : List A) → Each P xs → Each P ys → Each P (xs ++ ys)
each_append P [] ys h k = k
each_append P (x ∷ xs) ys h k = (h.0, each_append P xs ys h.1 k)

pub one_more_found : {A : Type 0} (P : A → Type 0) (before : List A) (found : Found A) (r : List A × State) → ((x : A × State) → found ≡ Ok x → P x.0) → Each P before → one_more before found ≡ Ok r → Each P r.0
one_more_found P before found r f h e =
    let x = then_found found (λ x s. Ok (before ++ x ∷ [], s)) r e in
    subst (Each P) (answer_is (before ++ x.0.0 ∷ []) x.0.1 r x.2) (each_append P before (x.0.0 ∷ []) h (f x.0 x.1, tt))

-- one behind another in a list
pub in_turn_found : {A B : Type 0} (find : A → B → State → Found B) (Good : A → Type 0) (P : B → Type 0) →
    ((x : A) → Good x → (b : B) (s : State) (r : B × State) → P b → find x b s ≡ Ok r → P r.0) → (xs : List A) → Each Good xs → (b : B) (s : State) (r : B × State) → P b → in_turn find xs b s ≡ Ok r → P r.0
in_turn_found find Good P f [] g b s r p h = subst P (answer_is b s r h) p
in_turn_found find Good P f (x ∷ xs) g b s r p h =
    let a = then_found (find x b s) (in_turn find xs) r h in
    in_turn_found find Good P f xs g.1 a.0.0 a.0.1 r (f x g.0 b s a.0 p a.1) a.2
