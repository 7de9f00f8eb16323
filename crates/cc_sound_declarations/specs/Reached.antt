-- What is found in a function's body, from state to state: what is declared there, and what holds of it over all that the function declares (C99 6.8).
use Rattle.std.specs.Prelude.{◌≡◌, List, ◌++◌}
use Rattle.cc_typed_bodies.specs.CcScopes.State.{State, empty, entered, left}
use Rattle.cc_typed_bodies.specs.CcSyntax.Types.{Named}

-- `Goes s D t E`: from s to t, in front of which the function's automatic objects are D and behind which they are E, with their declared types; `Knows D s t`: what is known
-- of a construct between s and t; `Has D s`: D are the objects that the function has at s
module _ (Goes : State → List Named → State → List Named → Type 0) (Knows : List Named → State → State → Type 0) (Has : List Named → State → Type 0) where
  -- constructs can be put one behind another, and into a scope of their own
  pub record GoesOn : Type 0 where
    pub itself : (s : State) (D : List Named) → Goes s D s D
    pub through : (s t u : State) (D E F : List Named) → Goes s D t E → Goes t E u F → Goes s D u F
    pub front : (s t : State) (D E : List Named) → Goes s D t E → (more : List Named) × (E ≡ D ++ more)
    pub has : (s t : State) (D E : List Named) → Goes s D t E → Has D s → Has E t
    pub first : (s t u : State) (D E F : List Named) → Goes s D t E → Goes t E u F → Knows D s u → Knows D s t
    pub second : (s t u : State) (D E F : List Named) → Goes s D t E → Goes t E u F → Knows D s u → Knows E t u
    pub enters : (s : State) (D : List Named) → Has D s → Has D (entered empty s)
    pub inside : (s t : State) (D : List Named) → Knows D s (left t) → Knows D (entered empty s) t
    pub leaves : (s t : State) (D E : List Named) → Goes (entered empty s) D t E → Goes s D (left t) E

  -- T holds of what is found, over all objects of the function
  pub record Reached (A : Type 0) (T : List Named → A → Type 0) (D : List Named) (s : State) (r : A × State) : Type 0 where
    pub objects : List Named
    pub goes : Goes s D r.1 objects
    pub holds : (L more : List Named) → L ≡ objects ++ more → Knows D s r.1 → T L r.0
