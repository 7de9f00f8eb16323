-- Tests of what may be there.
use Rattle.std.proofs.Common.{◌≡◌, Bool, true, false, true≢false, Option, Some, None, refl, sym, ◌∙◌, subst}
use Rattle.std.specs.Prelude.{◌↔◌, IsTrue}
use Rattle.std.proofs.lemmas.Option.{same_Some, none-some}

-- each that is there passes, by the one that is
pub held_some : {A : Type 0} (P : A → Type 0) (o : Option A) (v : A) (b : Bool) → o ≡ Some v → IsTrue b ↔ P v → IsTrue b ↔ ((x : A) → o ≡ Some x → P x)
held_some P o v b e h = ((λ t x k. subst P (same_Some v x (sym e ∙ k)) (h.0 t)), (λ g. h.1 (g v e)))

pub held_none : {A : Type 0} (P : A → Type 0) (o : Option A) → o ≡ None → IsTrue true ↔ ((x : A) → o ≡ Some x → P x)
held_none P o e = ((λ t x k. absurd (none-some x (sym e ∙ k))), (λ g. refl))

-- there is one, and it passes
pub there_some : {A : Type 0} (P : A → Type 0) (o : Option A) (v : A) (b : Bool) → o ≡ Some v → IsTrue b ↔ P v → IsTrue b ↔ ((x : A) × (o ≡ Some x) × P x)
there_some P o v b e h = ((λ t. (v, e, h.0 t)), (λ g. h.1 (subst P (same_Some g.0 v (sym g.1 ∙ e)) g.2)))

pub there_none : {A : Type 0} (P : A → Type 0) (o : Option A) → o ≡ None → IsTrue false ↔ ((x : A) × (o ≡ Some x) × P x)
there_none P o e = ((λ t. absurd (true≢false (sym t))), (λ g. absurd (none-some g.0 (sym e ∙ g.1))))
