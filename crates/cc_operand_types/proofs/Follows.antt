-- What follows from what is there: for each value of an option a value of another, and the two are related.
use Rattle.std.proofs.Common.{◌≡◌, Bool, true, false, Option, Some, None, refl, ap, sym, ◌∙◌, subst}
use Rattle.std.proofs.lemmas.Option.{same_Some}
use Rattle.cc_operands.specs.CcSyntax.Expressions.{of_one, of_two}
use Rattle.cc_operands.specs.CcSyntax.Operators.{when}

-- a value that is there, and is related to this one
abbrev pub Gives : {A : Type 0} → (A → A → Type 0) → Option A → A → Type 0
Gives {A} R o t = (u : A) × (o ≡ Some u) × R u t

abbrev pub Follows : {A : Type 0} → (A → A → Type 0) → Option A → Option A → Type 0
Follows {A} R o p = (t : A) → o ≡ Some t → Gives R p t

pub gives_from : {A : Type 0} (R : A → A → Type 0) (o p : Option A) (t : A) → o ≡ p → Gives R o t → Gives R p t
gives_from {A} R o p t e g = subst (λ (q : Option A). Gives R q t) e g

pub one_follows : {A B : Type 0} (R : A → A → Type 0) (S : B → B → Type 0) (o p : Option A) (f g : A → Option B) → Follows R o p →
    ((a a' : A) → R a' a → (b : B) → f a ≡ Some b → Gives S (g a') b) → Follows S (of_one o f) (of_one p g)
one_follows R S None p f g h k b e = absurd (cc)
one_follows {A} R S (Some a) p f g h k b e = let x = h a refl in gives_from S (g x.0) (of_one p g) b (ap (λ (q : Option A). of_one q g) (sym x.1)) (k a x.0 x.2 b e)

pub two_follows : {A B C : Type 0} (R : A → A → Type 0) (S : B → B → Type 0) (T : C → C → Type 0) (o p : Option A) (q r : Option B) (f g : A → B → Option C) → Follows R o p → Follows S q r →
    ((a a' : A) (b b' : B) → R a' a → S b' b → (c : C) → f a b ≡ Some c → Gives T (g a' b') c) → Follows T (of_two o q f) (of_two p r g)
two_follows R S T None p q r f g h i k c e = absurd (cc)
two_follows R S T (Some a) p None r f g h i k c e = absurd (cc)
two_follows {A} {B} R S T (Some a) p (Some b) r f g h i k c e =
    let x = h a refl in
    let y = i b refl in
    gives_from T (g x.0 y.0) (of_two p r g) c (ap (λ (z : Option A). of_two z (Some y.0) g) (sym x.1) ∙ ap (λ (z : Option B). of_two p z g) (sym y.1)) (k a x.0 b y.0 x.2 y.2 c e)

-- what is given under a condition
pub when_follows : {A : Type 0} (R : A → A → Type 0) (b c : Bool) (x y : A) → (b ≡ true → c ≡ true) → R y x → Follows R (when b x) (when c y)
when_follows R false c x y h k t e = absurd (cc)
when_follows {A} R true c x y h k t e = (y, ap (λ (d : Bool). when d y) (h refl), subst (λ (z : A). R y z) (same_Some x t e) k)
