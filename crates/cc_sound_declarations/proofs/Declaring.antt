-- Declarations and statements are put one behind another, and into scopes of their own.
use Rattle.std.proofs.Common.{◌≡◌, inl, ◌≤◌, ℕ, zero, suc, List, [], ◌∷◌, ◌++◌, length, map, Some, refl, ap, sym, ◌∙◌, append_assoc, arith}
use Rattle.std.specs.Prelude.{slice_get, option_map}
use Rattle.cc_typed_bodies.specs.CcSyntax.Views.{View}
use Rattle.cc_typed_bodies.specs.CcScopes.State.{State, Name, tagged, empty, designated, entered, left, outer_scopes}
use Rattle.cc_typed_bodies.specs.CcScopes.declared.designated.Designated.{Designated}
use Rattle.cc_typed_bodies.specs.CcScopes.declared.designated.Designated.TheVariants as means
use Rattle.cc_sound_terms.specs.Behind.{Adds, Extends}
use Rattle.cc_sound_terms.specs.Closings.{Closings}
use Rattle.cc_sound_terms.specs.Growing.{IsConstant}
use Rattle.cc_sound_terms.specs.Knowing.{IsObject, ObjectsStand}
use Rattle.cc_sound_terms.specs.Typing.{KnowsTypes, Knows}
use Rattle.cc_sound_terms.proofs.Behind.{names_itself, names_through, names_more, knows_back, behind_itself, behind_through, behind_left, known_first, known_second, more_through, no_more, stands_behind}
use Rattle.cc_sound_terms.proofs.Closings.{closings_entered, closings_given, closings_itself, closings_through}
use Rattle.cc_sound_terms.proofs.Growth.{get_front, all_kept, structures_through, objects_stand, tag_through}
use Rattle.cc_typed_bodies.specs.CcSyntax.Types.{Named}
use Rattle.cc_sound_declarations.specs.Declaring.{unconst, lowered, AreDeclared, DeclaresGiven, Declares}
use Rattle.cc_sound_declarations.specs.Reached.{GoesOn}
use Rattle.cc_sound_declarations.proofs.Entries.{entries_through, entry_added}

-- ---- objects

pub append_nothing : {A : Type 0} (xs : List A) → xs ++ [] ≡ xs
append_nothing [] = refl
append_nothing (x ∷ xs) = ap (λ ys. x ∷ ys) (append_nothing xs)

map_more : (xs : List Named) (l : Named) → map unconst (xs ++ l ∷ []) ≡ map unconst xs ++ unconst l ∷ []
map_more [] l = refl
map_more (x ∷ xs) l = ap (λ ys. unconst x ∷ ys) (map_more xs l)

pub lowered_more : (k : ℕ) (ls : List Named) (l : Named) → k ≤ length ls → lowered k (ls ++ l ∷ []) ≡ lowered k ls ++ unconst l ∷ []
lowered_more zero ls l h = map_more ls l
lowered_more (suc k) [] l h = absurd (omega arith)
lowered_more (suc k) (x ∷ ls) l h = let i : k ≤ length ls = omega arith in ap (λ ys. x ∷ ys) (lowered_more k ls l i)

map_length : (xs : List Named) → length (map unconst xs) ≡ length xs
map_length [] = refl
map_length (x ∷ xs) = ap suc (map_length xs)

pub lowered_length : (k : ℕ) (ls : List Named) → length (lowered k ls) ≡ length ls
lowered_length zero ls = map_length ls
lowered_length (suc k) [] = refl
lowered_length (suc k) (x ∷ ls) = ap suc (lowered_length k ls)

map_at : (ls : List Named) (n : ℕ) (l : Named) → slice_get ls n ≡ Some l → slice_get (map unconst ls) n ≡ Some (unconst l)
map_at [] n l h = absurd (cc)
map_at (x ∷ ls) zero l h = ap (option_map unconst) h
map_at (x ∷ ls) (suc n) l h = map_at ls n l h

-- one that is no parameter
pub lowered_at : (k : ℕ) (ls : List Named) (n : ℕ) (l : Named) → k ≤ n → slice_get ls n ≡ Some l → slice_get (lowered k ls) n ≡ Some (unconst l)
lowered_at zero ls n l h e = map_at ls n l e
lowered_at (suc k) [] n l h e = absurd (cc)
lowered_at (suc k) (x ∷ ls) zero l h e = absurd (omega arith)
lowered_at (suc k) (x ∷ ls) (suc n) l h e = let i : k ≤ n = omega arith in lowered_at k ls n l i e

module _ (v : View) where
  pub object_wider : (D more L : List Named) (d : Designated) → L ≡ D ++ more → IsObject v D d → IsObject v L d
  object_wider D more L (means.Automatic n t) e h = (h.0, ap (λ (ls : List Named). slice_get ls n) e ∙ get_front D more n h.0 h.1, h.2, h.3)
  object_wider D more L (means.Enumerator n) e h = h
  object_wider D more L (means.Linked i) e h = tt
  object_wider D more L (means.TypeNamed t) e h = tt

  pub objects_wider : (D more L : List Named) (s : State) → L ≡ D ++ more → ObjectsStand v D s → ObjectsStand v L s
  objects_wider D more L s e h = λ x d f. object_wider D more L d e (h x d f)

  pub wider : (D more L : List Named) (s t : State) → L ≡ D ++ more → Knows v D s t → Knows v L s t
  wider D more L s t e k = record { types = k.types; names = k.names; objects = objects_wider D more L s e k.objects; members = k.members }

  module _ (defined : List Name) (Given : Type 0) where
    abbrev Goes : State → List Named → State → List Named → Type 0
    Goes s D t E = DeclaresGiven v defined Given s D t E

    abbrev Known : List Named → State → State → Type 0
    Known D s t = Given × Knows v D s t

    -- ---- one behind another

    pub declares_itself : (s : State) (D : List Named) → Goes s D s D
    declares_itself s D = record {
      outer = refl;
      structures = all_kept s.structures;
      names = names_itself s.names;
      entries = λ i d h. inl (d, h);
      ordered = λ h. h;
      closed = no_more v s;
      closings = closings_itself v Given s s refl;
      behind = λ p k. behind_itself v s k;
      front = ([], sym (append_nothing D));
      locals = λ k h. h;
      objects = λ p k h. h;
      complete = λ p k h. h;
    }

    pub declares_through : (s t u : State) (D E F : List Named) → Goes s D t E → Goes t E u F → Goes s D u F
    declares_through s t u D E F a b = record {
      outer = b.outer ∙ a.outer;
      structures = structures_through s.structures t.structures u.structures a.structures b.structures;
      names = names_through s.names t.names u.names a.names b.names;
      entries = λ i e h. entries_through v.target defined s t u i e b.names (a.entries i) h (b.entries i e h);
      ordered = λ h. b.ordered (a.ordered h);
      closed = more_through v s t u a.closed b.closed;
      closings = closings_through v Given Given s t u a.structures b.structures b.closed.0 b.closed.1 a.ordered (λ p k. stands_behind v s t (a.behind p) k) (λ p k. p) a.closings b.closings;
      behind = λ p k. behind_through v s t u b.names (a.behind p (known_first v s t u b.structures k)) (b.behind p (known_second v s t u b.structures (a.behind p) k));
      front = (a.front.0 ++ b.front.0, b.front.1 ∙ ap (λ (xs : List Named). xs ++ b.front.0) a.front.1 ∙ append_assoc D a.front.0 b.front.0);
      locals = λ k h. b.locals k (a.locals k h);
      objects = λ p k h. b.objects p (known_second v s t u b.structures (a.behind p) k) (a.objects p (known_first v s t u b.structures k) h);
      complete = λ p k h. b.complete p (known_second v s t u b.structures (a.behind p) k) (a.complete p (known_first v s t u b.structures k) h);
    }

    declared_same : (k : ℕ) (D : List Named) (s t : State) → t.locals ≡ s.locals → AreDeclared k D s → AreDeclared k D t
    declared_same k D s t e h = record { enough = h.enough; locals = e ∙ h.locals }

    -- what adds names that are no automatic objects
    pub of_adds : (New : Designated → Type 0) (s t : State) (D : List Named) → Adds v New s t → (ObjectsStand v D s → ObjectsStand v D t) → Goes s D t D
    of_adds New s t D g f = record {
      outer = g.grows.outer;
      structures = g.grows.structures;
      names = names_more s.names g.grows.names.0 t.names g.grows.names.1;
      entries = λ i d h. entry_added v.target defined s i d (g.added i d h);
      ordered = g.ordered;
      closed = g.front;
      closings = closings_given v (Unit {0}) Given s t (λ p k. tt) g.closings;
      behind = λ p k. g.behind k;
      front = ([], sym (append_nothing D));
      locals = λ k h. declared_same k D s t g.grows.locals h;
      objects = λ p k h. f h;
      complete = λ p k h. h;
    }

    pub of_extends : (s t : State) (D : List Named) → Extends v s t → Goes s D t D
    of_extends s t D g = of_adds (IsConstant v.target) s t D g (objects_stand v D s t g.grows)

    -- ---- what is known

    pub known_before : (s t u : State) (D E F : List Named) → Goes s D t E → Goes t E u F → Known D s u → Known D s t
    known_before s t u D E F a b k =
        (k.0, record { types = known_first v s t u b.structures k.1.types; names = knows_back v t.names u.names b.names k.1.names; objects = k.1.objects; members = k.1.members })

    pub known_behind : (s t u : State) (D E F : List Named) → Goes s D t E → Goes t E u F → Known D s u → Known E t u
    known_behind s t u D E F a b k = (
      k.0,
      record {
        types = known_second v s t u b.structures (a.behind k.0) k.1.types;
        names = k.1.names;
        objects = a.objects k.0 (known_first v s t u b.structures k.1.types) k.1.objects;
        members = k.1.members;
      },
    )

    -- ---- a scope of its own

    pub declared_inside : (k : ℕ) (s : State) (D : List Named) → AreDeclared k D s → AreDeclared k D (entered empty s)
    declared_inside k s D h = record { enough = h.enough; locals = h.locals }

    pub known_inside : (s t : State) (D : List Named) → Known D s (left t) → Known D (entered empty s) t
    known_inside s t D k = (
      k.0,
      record {
        types = record { structures = k.1.types.structures; types = k.1.types.types; tags = k.1.types.tags };
        names = k.1.names;
        objects = k.1.objects;
        members = k.1.members;
      },
    )

    pub leaves : (s t : State) (D E : List Named) → Goes (entered empty s) D t E → Goes s D (left t) E
    leaves s t D E a = record {
      outer = ap outer_scopes a.outer;
      structures = a.structures;
      names = a.names;
      entries = a.entries;
      ordered = λ h.
          let o = a.ordered (record { listed = h.listed; order = h.order; tags = h.tags }) in
          record { listed = o.listed; order = o.order; tags = λ x u f. tag_through s.structures t.structures u a.structures (h.tags x u (ap (tagged x) (sym a.outer) ∙ f)) };
      closed = a.closed;
      closings = closings_entered v Given s t a.closings;
      behind = λ p k.
          behind_left v empty s t a.outer (record { structures = k.structures; types = k.types; tags = k.tags }) (a.behind p (record { structures = k.structures; types = k.types; tags = k.tags }));
      front = a.front;
      locals = λ k h. let d = a.locals k (record { enough = h.enough; locals = h.locals }) in record { enough = d.enough; locals = d.locals };
      objects = λ p k h x d e. object_wider D a.front.0 E d a.front.1 (h x d (ap (designated x) (sym a.outer) ∙ e));
      complete = λ p k h. a.complete p (record { structures = k.structures; types = k.types; tags = k.tags }) h;
    }

    pub goes_on_given : (k : ℕ) → GoesOn Goes Known (AreDeclared k)
    goes_on_given k = record {
      itself = declares_itself;
      through = declares_through;
      front = λ s t D E a. a.front;
      has = λ s t D E a h. a.locals k h;
      first = known_before;
      second = known_behind;
      enters = λ s D h. declared_inside k s D h;
      inside = known_inside;
      leaves = leaves;
    }

  pub goes_on : (defined : List Name) (k : ℕ) → GoesOn (Declares v defined) (λ D s t. Knows v D s t) (AreDeclared k)
  goes_on defined k = record {
    itself = declares_itself defined (Unit {0});
    through = declares_through defined (Unit {0});
    front = λ s t D E a. a.front;
    has = λ s t D E a h. a.locals k h;
    first = λ s t u D E F a b w. (known_before defined (Unit {0}) s t u D E F a b (tt, w)).1;
    second = λ s t u D E F a b w. (known_behind defined (Unit {0}) s t u D E F a b (tt, w)).1;
    enters = λ s D h. declared_inside defined (Unit {0}) k s D h;
    inside = λ s t D w. (known_inside defined (Unit {0}) s t D (tt, w)).1;
    leaves = leaves defined (Unit {0});
  }

  -- what follows of what is known there need not be given; what is known of closing braces does not wait for it
  pub given_less : (defined : List Name) (P Q : Type 0) (s t : State) (D E : List Named) → (P → KnowsTypes v s t → Q) → Closings v P s t → DeclaresGiven v defined Q s D t E → DeclaresGiven v defined P s D t E
  given_less defined P Q s t D E f closings a = record {
    outer = a.outer;
    structures = a.structures;
    names = a.names;
    entries = a.entries;
    ordered = a.ordered;
    closed = a.closed;
    closings = closings;
    behind = λ p k. a.behind (f p k) k;
    front = a.front;
    locals = a.locals;
    objects = λ p k h. a.objects (f p k) k h;
    complete = λ p k h. a.complete (f p k) k h;
  }

  -- nor what follows of what is given
  pub given_from : (defined : List Name) (P Q : Type 0) (s t : State) (D E : List Named) → (P → Q) → DeclaresGiven v defined Q s D t E → DeclaresGiven v defined P s D t E
  given_from defined P Q s t D E f a = given_less defined P Q s t D E (λ p k. f p) (closings_given v Q P s t (λ p k. f p) a.closings) a
