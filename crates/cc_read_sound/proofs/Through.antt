-- What is known between two states, and first values through states between.
use Rattle.std.proofs.Common.{◌≡◌, ℕ, Bool, true, false, List, Option, Some, None, refl, ap, sym, ◌∙◌, subst}
use Rattle.std.specs.Prelude.{slice_get, option_map, if◌then◌else◌}
use Rattle.std.proofs.lemmas.Option.{slice_get-map}
use Rattle.cc_read_sound.specs.Values.{HasContent, HasContents, AreInitial}
use Rattle.cc_read_sound.specs.Initialises.{Initialises}
use Rattle.cc_program.specs.CcNum.declared.target.Target.{Target}
use Rattle.cc_standing_units.specs.Views.{view_of}
use Rattle.cc_program.specs.declared.expr.Place.{Place}
use Rattle.cc_type.specs.CcScopes.State.{State, Name, KnownStructure, members_or_none, as_structure, with_unfinished}
use Rattle.cc_sound_declarations.proofs.Declaring.{known_before, known_behind}
use Rattle.cc_sound_declarations.specs.Declaring.{DeclaresGiven, Declares}
use Rattle.cc_sound_terms.proofs.Behind.{knows_back, known_first, known_second}
use Rattle.cc_sound_terms.proofs.Growth.{objects_stand}
use Rattle.cc_sound_terms.specs.Behind.{Extends, NamesKept}
use Rattle.cc_sound_terms.specs.Growing.{StructuresKept}
use Rattle.cc_sound_terms.specs.Ordered.{HasMembers}
use Rattle.cc_sound_terms.specs.Typing.{Knows, KnowsTypes}
use Rattle.cc_type.specs.CcSyntax.Types.{Named}
use Rattle.cc_type.specs.CcSyntax.Views.{View}

-- ---- members

module _ (v : View) where
  pub contents_back : (xs ys : List KnownStructure) → StructuresKept xs ys → HasContents v ys → HasContents v xs
  contents_back xs ys kept w = λ i ms h. let l = kept i h.0 h.1 in w i ms (l.0, l.1, l.2.members ms h.2)

pub own_contents : (target : Target) (s : State) → HasContents (view_of target s) s.structures
own_contents target s = λ i ms h. (
  as_structure h.0,
  slice_get-map as_structure s.structures i ∙ ap (option_map as_structure) h.1,
  ap members_or_none h.2,
)

module _ (v : View) where
  -- ---- what is known

  -- behind something that is declared
  pub knows_over : (defined : List Name) (P : Type 0) (s t u : State) (D E : List Named) → P → DeclaresGiven v defined P s D t E → StructuresKept t.structures u.structures → Knows v D s u → Knows v E t u
  knows_over defined P s t u D E p a kept k = record {
    types = known_second v s t u kept (a.behind p) k.types;
    names = k.names;
    objects = a.objects p (known_first v s t u kept k.types) k.objects;
    members = k.members;
  }

  -- behind an expression
  pub knows_behind : (s t u : State) (D : List Named) → Extends v s t → StructuresKept t.structures u.structures → Knows v D s u → Knows v D t u
  knows_behind s t u D g kept k = record {
    types = known_second v s t u kept g.behind k.types;
    names = k.names;
    objects = objects_stand v D s t g.grows k.objects;
    members = k.members;
  }

  -- up to a state between
  pub knows_until : (s t u : State) (D : List Named) → StructuresKept t.structures u.structures → NamesKept t.names u.names → Knows v D s u → Knows v D s t
  knows_until s t u D kept names k = record { types = known_first v s t u kept k.types; names = knows_back v t.names u.names names k.names; objects = k.objects; members = k.members }

  -- the array whose initialiser is read says nothing
  pub knows_begun : (b : Bool) (a : Option Place) (s t : State) (D : List Named) → Knows v D s t → Knows v D (if b then with_unfinished a s else s) t
  knows_begun true a s t D k = record { types = record { structures = k.types.structures; types = k.types.types; tags = k.types.tags }; names = k.names; objects = k.objects; members = k.members }
  knows_begun false a s t D k = k

  pub knows_finished : (a : Option Place) (s t : State) (D : List Named) → Knows v D s (with_unfinished a t) → Knows v D s t
  knows_finished a s t D k = record { types = record { structures = k.types.structures; types = k.types.types; tags = k.types.tags }; names = k.names; objects = k.objects; members = k.members }

  -- ---- first values

  pub initialises_given : (defined : List Name) (P : Type 0) (s t u : State) (D E F : List Named) → P → DeclaresGiven v defined P s D t E → DeclaresGiven v defined P t E u F → Initialises v D s t → Initialises v E t u → Initialises v D s u
  initialises_given defined P s t u D E F p a b x y = λ k w o i.
      y (known_behind v defined P s t u D E F a b (p, k)).1 w (a.ordered o)
      (x (known_before v defined P s t u D E F a b (p, k)).1 (contents_back v t.structures u.structures b.structures w) o i)

  pub initialises_through : (defined : List Name) (s t u : State) (D E F : List Named) → Declares v defined s D t E → Declares v defined t E u F → Initialises v D s t → Initialises v E t u → Initialises v D s u
  initialises_through defined s t u D E F a b x y = initialises_given defined (Unit {0}) s t u D E F tt a b x y
