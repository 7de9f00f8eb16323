-- What is known of each structure that a construct completes: the state in front of its closing brace, and its members there, over each view that knows that state (C99 6.7.2.1).
use Rattle.std.specs.Prelude.{◌≡◌, ◌⊎◌, ℕ, List, ◌∷◌, ◌++◌, map, Some, slice_get}
use Rattle.cc_terms.specs.CcScopes.State.{KnownStructure, State, layouts_of}
use Rattle.cc_sound_terms.specs.Growing.{StructuresKept}
use Rattle.cc_sound_terms.specs.Ordered.{AreComplete, HasMembers, IsOrdered}
use Rattle.cc_sound_terms.specs.Standing.{MembersKnown}
use Rattle.cc_sound_terms.specs.Typing.{KnowsTypes}
use Rattle.cc_terms.specs.CcSyntax.Layout.{structure, type_layout}
use Rattle.cc_terms.specs.CcSyntax.Types.{Named}
use Rattle.cc_terms.specs.CcSyntax.Views.{View}

module _ (v : View) (Given : Type 0) (s t : State) where
  -- between s and t this structure was closed, with these members; `Given` is what is known of the construct's parts
  pub record ClosedBy (i : ℕ) (ms : List Named) : Type 0 where
    pub before : State
    pub more : List ℕ
    pub order : t.completed ≡ before.completed ++ i ∷ more
    pub first : StructuresKept s.structures before.structures
    pub kept : StructuresKept before.structures t.structures
    pub ordered : IsOrdered s → IsOrdered before
    pub complete : AreComplete ms before
    pub laid : (k : KnownStructure) → slice_get t.structures i ≡ Some k → k.layout ≡ structure (map (λ (m : Named). type_layout v.target (layouts_of before) m.1) ms)
    pub known : Given → KnowsTypes v s before → MembersKnown v ms

  abbrev pub Closings : Type 0
  Closings = (i : ℕ) (ms : List Named) → HasMembers t.structures i ms → HasMembers s.structures i ms ⊎ ClosedBy i ms
