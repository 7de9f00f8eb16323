-- What is found in a scope of its own.
use Rattle.std.proofs.Common.{◌≡◌, List, Ok, sym, subst}
use Rattle.cc_type.specs.CcScopes.State.{State, empty, entered, left}
use Rattle.cc_type.specs.CcScopes.Verdicts.{Found}
use Rattle.cc_sound_declarations.specs.Reached.{GoesOn, Reached}
use Rattle.cc_sound_terms.proofs.Founds.{answer_is, then_found}
use Rattle.cc_type.specs.CcSyntax.Types.{Named}
use Rattle.cc_type.specs.CcTypedBodies.Meanings.{scoped}

module _ (Goes : State → List Named → State → List Named → Type 0) (Knows : List Named → State → State → Type 0) (Has : List Named → State → Type 0) (on : GoesOn Goes Knows Has) where
  pub scoped_reached : {A : Type 0} (T : List Named → A → Type 0) (inner : State → Found A) (D : List Named) (s : State) (r : A × State) → Has D s →
      ((x : A × State) → Has D (entered empty s) → inner (entered empty s) ≡ Ok x → Reached Goes Knows Has A T D (entered empty s) x) → scoped inner s ≡ Ok r → Reached Goes Knows Has A T D s r
  unfolding scoped
  scoped_reached T inner D s r d f h =
      let x = then_found (inner (entered empty s)) (λ x s. Ok (x, left s)) r h in
      let e = answer_is x.0.0 (left x.0.1) r x.2 in
      let a = f x.0 (on.enters s D d) x.1 in
      record {
        objects = a.objects;
        goes = subst (λ (t : State). Goes s D t a.objects) (sym e.1) (on.leaves s x.0.1 D a.objects a.goes);
        holds = λ L more g k. subst (T L) (sym e.0) (a.holds L more g (on.inside s x.0.1 D (subst (λ (t : State). Knows D s t) e.1 k)));
      }
