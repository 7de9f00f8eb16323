-- What a declaration or a statement leaves behind it. Beside the state of the rules stand the automatic objects of the function with their declared types: the state's
-- own list has lost their const, by which they may be initialised (C99 6.2.1, 6.2.4, 6.7.8).
use Rattle.std.specs.Prelude.{◌≡◌, ◌⊎◌, ◌≤◌, ℕ, zero, suc, true, List, [], ◌∷◌, ◌++◌, length, map, Some, slice_get}
use Rattle.cc_typed_bodies.specs.CcSyntax.Views.{View, kind_in}
use Rattle.cc_typed_bodies.specs.CcOperands.Qualified.{without_const}
use Rattle.cc_program.proofs.Each.{Each}
use Rattle.cc_typed_bodies.specs.CcScopes.State.{State, Name, outer_scopes}
use Rattle.cc_typed_bodies.specs.CcScopes.declared.unit.Declared.{Declared}
use Rattle.cc_sound_terms.specs.Behind.{HasEntry, Behind, NamesKept}
use Rattle.cc_sound_terms.specs.Closings.{Closings}
use Rattle.cc_sound_terms.specs.Growing.{StructuresKept}
use Rattle.cc_sound_terms.specs.Knowing.{ObjectsStand}
use Rattle.cc_sound_terms.specs.Ordered.{IsOrdered}
use Rattle.cc_sound_terms.specs.Typing.{KnowsTypes}
use Rattle.cc_typed_bodies.specs.CcSyntax.Kinds.{is_object_type}
use Rattle.cc_typed_bodies.specs.CcSyntax.Types.{Named}
use Rattle.cc_sound_declarations.specs.Entries.{IsEntry}

abbrev pub unconst : Named → Named
unconst l = (l.0, without_const l.1)

-- the locals of a function with so many parameters, of which these are declared: parameters as they are, and the others without const
abbrev pub lowered : ℕ → List Named → List Named
lowered zero ls = map unconst ls
lowered (suc k) [] = []
lowered (suc k) (l ∷ ls) = l ∷ lowered k ls

-- each has the type of an object
abbrev pub AreObjects : View → List Named → Type 0
AreObjects v ls = Each (λ l. is_object_type (kind_in v l.1) ≡ true) ls

pub record AreDeclared (parameters : ℕ) (objects : List Named) (s : State) : Type 0 where
  pub enough : parameters ≤ length objects
  pub locals : s.locals ≡ lowered parameters objects

-- from s, in front of which the function has these objects, to t, behind which it has those; `Given` is what is known of the construct's parts, and the names are those of the objects that the unit defines
pub record DeclaresGiven (v : View) (defined : List Name) (Given : Type 0) (s : State) (before : List Named) (t : State) (after : List Named) : Type 0 where
  pub outer : outer_scopes t.scopes ≡ outer_scopes s.scopes
  pub structures : StructuresKept s.structures t.structures
  pub names : NamesKept s.names t.names
  pub entries : (i : ℕ) (d : Declared) → slice_get t.names i ≡ Some d → HasEntry s.names i ⊎ IsEntry v.target defined d
  pub ordered : IsOrdered s → IsOrdered t
  pub closed : (more : List ℕ) × (t.completed ≡ s.completed ++ more)
  pub closings : Closings v Given s t
  pub behind : Given → KnowsTypes v s t → Behind v s t
  pub front : (more : List Named) × (after ≡ before ++ more)
  pub locals : (parameters : ℕ) → AreDeclared parameters before s → AreDeclared parameters after t
  pub objects : Given → KnowsTypes v s t → ObjectsStand v before s → ObjectsStand v after t
  pub complete : Given → KnowsTypes v s t → AreObjects v before → AreObjects v after

abbrev pub Declares : View → List Name → State → List Named → State → List Named → Type 0
Declares v defined s before t after = DeclaresGiven v defined (Unit {0}) s before t after
