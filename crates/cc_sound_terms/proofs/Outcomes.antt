-- What holds of a construct that is found: its state grows, and what it gives is good where what is known behind it and in front
-- of it is. Such outcomes are put one behind another.
use Rattle.std.proofs.Common.{◌≡◌, ℕ, List, [], ◌∷◌, ◌++◌, Ok, sym, subst}
use Rattle.cc_program.proofs.Each.{Each}
use Rattle.cc_terms.specs.CcOperands.Verdicts.{Judged}
use Rattle.cc_terms.specs.CcSyntax.Views.{View}
use Rattle.cc_terms.specs.CcScopes.State.{State}
use Rattle.cc_terms.specs.CcScopes.Verdicts.{Found, whole, and_then}
use Rattle.cc_terms.specs.CcScopes.declared.designated.Designated.{Designated}
use Rattle.cc_terms.specs.InTurn.{in_turn, one_more}
use Rattle.cc_sound_terms.specs.Behind.{Adds}
use Rattle.cc_sound_terms.proofs.Behind.{adds_itself, adds_through}
use Rattle.cc_sound_terms.proofs.Founds.{answer_is, then_found, whole_found}

pub record Outcome (v : View) (New : Designated → Type 0) (K : State → State → Type 0) (A : Type 0) (T : A → Type 0) (s : State) (r : A × State) : Type 0 where
  pub grows : Adds v New s r.1
  pub holds : K s r.1 → T r.0

pub each_append : {A : Type 0} (P : A → Type 0) (xs : List A) (y : A) → Each P xs → P y → Each P (xs ++ y ∷ [])
each_append P [] y h k = (k, tt)
each_append P (x ∷ xs) y h k = (h.0, each_append P xs y h.1 k)

-- `K s t` is what is known of a construct between s and t; it holds of its first part, and of what stands behind that
module _ (v : View) (New : Designated → Type 0) (K : State → State → Type 0) (first : (s t u : State) → Adds v New s t → Adds v New t u → K s u → K s t) (second : (s t u : State) → Adds v New s t → Adds v New t u → K s u → K t u) where
  pub chained : {A B : Type 0} (T : A → Type 0) (U : B → Type 0) (found : Found A) (next : A → State → Found B) (s : State) (r : B × State) →
      ((x : A × State) → found ≡ Ok x → Outcome v New K A T s x) → ((x : A × State) → next x.0 x.1 ≡ Ok r → Outcome v New K B (λ y. T x.0 → U y) x.1 r) →
      and_then found next ≡ Ok r → Outcome v New K B U s r
  chained T U found next s r f g h =
      let x = then_found found next r h in
      let a = f x.0 x.1 in
      let b = g x.0 x.2 in
      record {
        grows = adds_through v New s x.0.1 r.1 a.grows b.grows;
        holds = λ k. b.holds (second s x.0.1 r.1 a.grows b.grows k) (a.holds (first s x.0.1 r.1 a.grows b.grows k));
      }

  -- one behind another in a list
  pub in_turn_holds : {A B : Type 0} (find : A → B → State → Found B) (Good : A → Type 0) (P : B → Type 0) →
      ((x : A) → Good x → (b : B) (s : State) (r : B × State) → find x b s ≡ Ok r → Outcome v New K B (λ c. P b → P c) s r) →
      (xs : List A) → Each Good xs → (b : B) (s : State) (r : B × State) → in_turn find xs b s ≡ Ok r → Outcome v New K B (λ c. P b → P c) s r
  in_turn_holds find Good P f [] g b s r h =
      let e = answer_is b s r h in
      record { grows = subst (λ (t : State). Adds v New s t) (sym e.1) (adds_itself v New s); holds = λ k p. subst P (sym e.0) p }
  in_turn_holds find Good P f (x ∷ xs) g b s r h =
      let a = then_found (find x b s) (in_turn find xs) r h in
      let o = f x g.0 b s a.0 a.1 in
      let rest = in_turn_holds find Good P f xs g.1 a.0.0 a.0.1 r a.2 in
      record {
        grows = adds_through v New s a.0.1 r.1 o.grows rest.grows;
        holds = λ k p. rest.holds (second s a.0.1 r.1 o.grows rest.grows k) (o.holds (first s a.0.1 r.1 o.grows rest.grows k) p);
      }

  -- nothing is declared
  pub staying : (A : Type 0) (T : A → Type 0) (s : State) (r : A × State) → r.1 ≡ s → (K s s → T r.0) → Outcome v New K A T s r
  staying A T s r e f = record { grows = subst (λ (t : State). Adds v New s t) (sym e) (adds_itself v New s); holds = λ k. f (subst (λ (t : State). K s t) e k) }

  pub whole_holds : (A : Type 0) (T : A → Type 0) (at : ℕ) (s : State) (judged : Judged A) (r : A × State) → ((x : A) → judged ≡ Ok x → K s s → T x) → whole at s judged ≡ Ok r → Outcome v New K A T s r
  whole_holds A T at s judged r f h = let e = whole_found at s judged r h in staying A T s r e.1 (f r.0 e.0)

  -- `Q` is what the one stands on
  pub one_more_given : {A : Type 0} (Q : Type 0) (P : A → Type 0) (before : List A) (found : Found A) (s : State) (r : List A × State) → ((x : A × State) → found ≡ Ok x → Outcome v New K A (λ y. Q → P y) s x) → one_more before found ≡ Ok r →
      Outcome v New K (List A) (λ xs. Q → Each P before → Each P xs) s r
  one_more_given Q P before found s r f h =
      let x = then_found found (λ x s. Ok (before ++ x ∷ [], s)) r h in
      let e = answer_is (before ++ x.0.0 ∷ []) x.0.1 r x.2 in
      let a = f x.0 x.1 in
      record {
        grows = subst (λ (t : State). Adds v New s t) (sym e.1) a.grows;
        holds = λ k q p. subst (Each P) (sym e.0) (each_append P before x.0.0 p (a.holds (subst (λ (t : State). K s t) e.1 k) q));
      }

  pub one_more_holds : {A : Type 0} (P : A → Type 0) (before : List A) (found : Found A) (s : State) (r : List A × State) → ((x : A × State) → found ≡ Ok x → Outcome v New K A P s x) → one_more before found ≡ Ok r →
      Outcome v New K (List A) (λ xs. Each P before → Each P xs) s r
  one_more_holds P before found s r f h =
      let o = one_more_given (Unit {0}) P before found s r (λ x e. let a = f x e in record { grows = a.grows; holds = λ k q. a.holds k }) h in
      record { grows = o.grows; holds = λ k p. o.holds k tt p }

  -- behind what was declared first
  pub behind : {A : Type 0} (T : A → Type 0) (s t : State) (r : A × State) → Adds v New s t → Outcome v New K A T t r → Outcome v New K A T s r
  behind T s t r g o = record { grows = adds_through v New s t r.1 g o.grows; holds = λ k. o.holds (second s t r.1 g o.grows k) }
