-- What is found is put one behind another, and into scopes.
use Rattle.std.proofs.Common.{◌≡◌, ℕ, List, [], ◌∷◌, ◌++◌, Option, Some, None, Ok, refl, ap, sym, ◌∙◌, subst, append_assoc}
use Rattle.cc_typed_bodies.specs.CcOperands.Verdicts.{Judged}
use Rattle.cc_program.proofs.Each.{Each}
use Rattle.cc_typed_bodies.specs.CcScopes.State.{State}
use Rattle.cc_typed_bodies.specs.CcScopes.Verdicts.{Found, whole, and_then, maybe_found}
use Rattle.cc_sound_terms.proofs.Founds.{answer, answer_is, then_found, whole_found}
use Rattle.cc_typed_bodies.specs.CcSyntax.Types.{Named}
use Rattle.cc_typed_bodies.specs.CcTerms.InTurn.{in_turn}
use Rattle.cc_sound_declarations.specs.Reached.{GoesOn, Reached}

module _ (Goes : State → List Named → State → List Named → Type 0) (Knows : List Named → State → State → Type 0) (Has : List Named → State → Type 0) (on : GoesOn Goes Knows Has) where
  abbrev To : (A : Type 0) → (List Named → A → Type 0) → List Named → State → A × State → Type 0
  To A T D s r = Reached Goes Knows Has A T D s r

  -- what is told of parts alone
  pub as_well : {A : Type 0} (T U : List Named → A → Type 0) (D : List Named) (s : State) (r : A × State) → ((L : List Named) → T L r.0 → U L r.0) → To A T D s r → To A U D s r
  as_well T U D s r f o = record { objects = o.objects; goes = o.goes; holds = λ L more e k. f L (o.holds L more e k) }

  pub chained : {A B : Type 0} (T : List Named → A → Type 0) (U : List Named → B → Type 0) (found : Found A) (next : A → State → Found B) (D : List Named) (s : State) (r : B × State) → Has D s →
      ((x : A × State) → found ≡ Ok x → To A T D s x) →
      ((x : A × State) (E : List Named) → found ≡ Ok x → Has E x.1 → next x.0 x.1 ≡ Ok r → To B (λ L y. T L x.0 → U L y) E x.1 r) →
      and_then found next ≡ Ok r → To B U D s r
  chained T U found next D s r d f g h =
      let x = then_found found next r h in
      let a = f x.0 x.1 in
      let b = g x.0 a.objects x.1 (on.has s x.0.1 D a.objects a.goes d) x.2 in
      let m = on.front x.0.1 r.1 a.objects b.objects b.goes in
      record {
        objects = b.objects;
        goes = on.through s x.0.1 r.1 D a.objects b.objects a.goes b.goes;
        holds = λ L more e k.
            b.holds L more e (on.second s x.0.1 r.1 D a.objects b.objects a.goes b.goes k)
            (a.holds L (m.0 ++ more) (e ∙ ap (λ (xs : List Named). xs ++ more) m.1 ∙ append_assoc a.objects m.0 more) (on.first s x.0.1 r.1 D a.objects b.objects a.goes b.goes k));
      }

  -- nothing is declared
  pub staying : {A : Type 0} (T : List Named → A → Type 0) (D : List Named) (s : State) (r : A × State) → r.1 ≡ s → ((L : List Named) → T L r.0) → To A T D s r
  staying T D s r e f = record { objects = D; goes = subst (λ (t : State). Goes s D t D) (sym e) (on.itself s D); holds = λ L more g k. f L }

  pub answered : {A : Type 0} (T : List Named → A → Type 0) (x : A) (D : List Named) (s : State) (r : A × State) → ((L : List Named) → T L x) → answer x s ≡ Ok r → To A T D s r
  answered T x D s r f h = let e = answer_is x s r h in staying T D s r e.1 (λ L. subst (T L) (sym e.0) (f L))

  pub judged : {A : Type 0} (T : List Named → A → Type 0) (at : ℕ) (j : Judged A) (D : List Named) (s : State) (r : A × State) → ((x : A) → j ≡ Ok x → (L : List Named) → T L x) → whole at s j ≡ Ok r → To A T D s r
  judged T at j D s r f h = let e = whole_found at s j r h in staying T D s r e.1 (f r.0 e.0)

  -- one behind another in a list; P is what holds of what is found so far
  pub in_turn_reached : {A B : Type 0} (find : A → B → State → Found B) (Good : A → Type 0) (P : List Named → B → Type 0) →
      ((x : A) → Good x → (b : B) (D : List Named) (s : State) (r : B × State) → Has D s → find x b s ≡ Ok r → To B (λ L c. P L b → P L c) D s r) →
      (xs : List A) → Each Good xs → (b : B) (D : List Named) (s : State) (r : B × State) → Has D s → in_turn find xs b s ≡ Ok r → To B (λ L c. P L b → P L c) D s r
  in_turn_reached find Good P f [] g b D s r d h = answered (λ L c. P L b → P L c) b D s r (λ L p. p) h
  in_turn_reached {B = B} find Good P f (x ∷ xs) g b D s r d h =
      chained (λ L c. P L b → P L c) (λ L c. P L b → P L c) (find x b s) (in_turn find xs) D s r d
      (λ y e. f x g.0 b D s y d e)
      (λ y E e i k. as_well (λ L c. P L y.0 → P L c) (λ L c. (P L b → P L y.0) → P L b → P L c) E y.1 r (λ L m n p. m (n p)) (in_turn_reached find Good P f xs g.1 y.0 E y.1 r i k)) h

  -- a part that may be missing
  pub maybe_reached : {A B : Type 0} (T : List Named → B → Type 0) (find : A → State → Found B) (Good : A → Type 0) →
      ((x : A) → Good x → (D : List Named) (s : State) (r : B × State) → Has D s → find x s ≡ Ok r → To B T D s r) →
      (o : Option A) → ((x : A) → o ≡ Some x → Good x) → (D : List Named) (s : State) (r : Option B × State) → Has D s → maybe_found find o s ≡ Ok r → To (Option B) (λ L p. (y : B) → p ≡ Some y → T L y) D s r
  maybe_reached {B = B} T find Good f None g D s r d h = answered (λ L p. (y : B) → p ≡ Some y → T L y) None D s r (λ L y e. absurd (cc)) h
  maybe_reached {B = B} T find Good f (Some x) g D s r d h =
      chained T (λ L p. (y : B) → p ≡ Some y → T L y) (find x s) (λ y s. Ok (Some y, s)) D s r d (λ y e. f x (g x refl) D s y d e)
      (λ y E e i k. answered (λ L p. T L y.0 → (z : B) → p ≡ Some z → T L z) (Some y.0) E y.1 r (λ L t z q. subst (T L) (let w : y.0 ≡ z = cc in w) t) k) h
