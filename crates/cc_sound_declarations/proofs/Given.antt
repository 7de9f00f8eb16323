-- What is declared is put behind types that are found: what is known of them is what the rest stands on.
use Rattle.std.proofs.Common.{◌≡◌, ℕ, List, ◌∙◌, subst, sym}
use Rattle.cc_typed_bodies.specs.CcSyntax.Views.{View}
use Rattle.cc_typed_bodies.specs.CcScopes.State.{State, Name}
use Rattle.cc_sound_declarations.specs.Declaring.{AreDeclared, DeclaresGiven}
use Rattle.cc_sound_declarations.proofs.Entries.{entries_through}
use Rattle.cc_sound_declarations.proofs.Declaring.{declares_itself, declares_through, of_extends, given_from, given_less}
use Rattle.cc_sound_terms.specs.Behind.{Extends}
use Rattle.cc_sound_terms.specs.Closings.{Closings}
use Rattle.cc_sound_terms.specs.Growing.{IsConstant}
use Rattle.cc_sound_terms.specs.Typing.{KnowsTypes}
use Rattle.cc_sound_terms.proofs.Behind.{behind_through, known_first, known_second, names_through, more_through, stands_behind}
use Rattle.cc_sound_terms.proofs.Closings.{closings_through}
use Rattle.cc_sound_terms.proofs.Growth.{structures_through}
use Rattle.cc_sound_terms.proofs.Outcomes.{Outcome}
use Rattle.cc_typed_bodies.specs.CcSyntax.Types.{Named}

module _ (v : View) (defined : List Name) where
  -- where P is known of the parts, this is what is left of the whole
  abbrev pub Leaves : Type 0 → List Named → State → State → Type 0
  Leaves P D s t = (E : List Named) × DeclaresGiven v defined P s D t E

  abbrev pub Finds : (A : Type 0) → (A → Type 0) → State → A × State → Type 0
  Finds A T s r = Outcome v (IsConstant v.target) (KnowsTypes v) A T s r

  pub left_as : (P : Type 0) (D : List Named) (s t u : State) → u ≡ t → Leaves P D s t → Leaves P D s u
  left_as P D s t u e h = subst (Leaves P D s) (sym e) h

  pub nothing_left : (P : Type 0) (D : List Named) (s : State) → Leaves P D s s
  nothing_left P D s = (D, declares_itself v defined P s D)

  pub one_left : (P : Type 0) (D : List Named) (s t : State) → DeclaresGiven v defined P s D t D → Leaves P D s t
  one_left P D s t g = (D, g)

  pub then_left : (P : Type 0) (D E : List Named) (s t u : State) → DeclaresGiven v defined P s D t E → Leaves P E t u → Leaves P D s u
  then_left P D E s t u a b = (b.0, declares_through v defined P s t u D E b.0 a b.1)

  pub less : (P Q : Type 0) (D : List Named) (s t : State) → (P → KnowsTypes v s t → Q) → Closings v P s t → Leaves Q D s t → Leaves P D s t
  less P Q D s t f closings h = (h.0, given_less v defined P Q s t D h.0 f closings h.1)

  pub left_from : (P Q : Type 0) (D : List Named) (s t : State) → (P → Q) → Leaves Q D s t → Leaves P D s t
  left_from P Q D s t f h = (h.0, given_from v defined P Q s t D h.0 f h.1)

  pub same_declared : (k : ℕ) (D : List Named) (s t : State) → Extends v s t → AreDeclared k D s → AreDeclared k D t
  same_declared k D s t g d = record { enough = d.enough; locals = g.grows.locals ∙ d.locals }

  pub goes_as : (P : Type 0) (D E : List Named) (s t u : State) → u ≡ t → DeclaresGiven v defined P s D t E → DeclaresGiven v defined P s D u E
  goes_as P D E s t u e h = subst (λ (z : State). DeclaresGiven v defined P s D z E) (sym e) h

  -- what is found first, of types alone, is known of what stands behind it
  pub behind_goes : (P A : Type 0) (T : A → Type 0) (D E : List Named) (s : State) (x : A × State) (t : State) → Finds A (λ y. P → T y) s x → DeclaresGiven v defined (P × T x.0) x.1 D t E → DeclaresGiven v defined P s D t E
  behind_goes P A T D E s x t a b =
      let first : KnowsTypes v s t → KnowsTypes v s x.1 = λ k. known_first v s x.1 t b.structures k in
      let second : KnowsTypes v s t → KnowsTypes v x.1 t = λ k. known_second v s x.1 t b.structures a.grows.behind k in
      let start = of_extends v defined P s x.1 D a.grows in
      record {
        outer = b.outer ∙ start.outer;
        structures = structures_through s.structures x.1.structures t.structures start.structures b.structures;
        names = names_through s.names x.1.names t.names start.names b.names;
        entries = λ i e h. entries_through v.target defined s x.1 t i e b.names (start.entries i) h (b.entries i e h);
        ordered = λ h. b.ordered (a.grows.ordered h);
        closed = more_through v s x.1 t a.grows.front b.closed;
        closings = closings_through v P (P × T x.0) s x.1 t a.grows.grows.structures b.structures b.closed.0 b.closed.1 a.grows.ordered (λ p k. stands_behind v s x.1 a.grows.behind k) (λ p k. (p, a.holds k p)) start.closings b.closings;
        behind = λ p k. behind_through v s x.1 t b.names (a.grows.behind (first k)) (b.behind (p, a.holds (first k) p) (second k));
        front = b.front;
        locals = λ k d. b.locals k (start.locals k d);
        objects = λ p k h. b.objects (p, a.holds (first k) p) (second k) (start.objects p (first k) h);
        complete = λ p k h. b.complete (p, a.holds (first k) p) (second k) (start.complete p (first k) h);
      }

  pub behind_types : (P A : Type 0) (T : A → Type 0) (D : List Named) (s : State) (x : A × State) (t : State) → Finds A (λ y. P → T y) s x → Leaves (P × T x.0) D x.1 t → Leaves P D s t
  behind_types P A T D s x t a b = (b.0, behind_goes P A T D b.0 s x t a b.1)
