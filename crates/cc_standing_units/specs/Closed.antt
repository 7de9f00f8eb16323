-- Structures of a state as their closing braces left them: each has members, no two of one name, and of object types over the structures that were complete by then (C99 6.7.2.1).
use Rattle.std.specs.Prelude.{◌≡◌, ℕ, true, ◌&&◌, nat_lt, List, [], ◌∷◌, ◌++◌, length, Option, Some, None, option_map, slice_get, if◌then◌else◌}
use Rattle.cc_standing_units.specs.Laid.{AreLaid}
use Rattle.cc_program.specs.CcNum.declared.target.Target.{Target}
use Rattle.cc_standing_units.specs.Views.{has_content}
use Rattle.cc_program.proofs.Each.{Each}
use Rattle.cc_terms.specs.CcScopes.State.{KnownStructure, State}
use Rattle.cc_sound_terms.specs.Ordered.{HasMembers, is_among}
use Rattle.cc_terms.specs.CcSyntax.Kinds.{is_object_type, kind_of}
use Rattle.cc_terms.specs.CcSyntax.Names.{local_names}
use Rattle.cc_terms.specs.CcSyntax.Types.{Named}
use Rattle.cc_program.specs.CcWords.Names.{are_distinct}

module _ (target : Target) (s : State) where
  -- of the structures that there are, the bytes of those of these numbers, where they are complete
  abbrev pub extents_over : List ℕ → ℕ → Option (Option ℕ)
  extents_over front j = option_map (λ (k : KnownStructure). if is_among front j && has_content k then Some k.layout.size else None) (slice_get s.structures j)

  abbrev pub MembersOver : List ℕ → ℕ → Type 0
  MembersOver front i = (ms : List Named) → HasMembers s.structures i ms → Each (λ (m : Named). is_object_type (kind_of target (extents_over front) m.1) ≡ true) ms

  -- so of the structures of these numbers, behind those of the first
  abbrev pub AreOver : List ℕ → List ℕ → Type 0
  AreOver front [] = Unit {0}
  AreOver front (i ∷ rest) = MembersOver front i × AreOver (front ++ i ∷ []) rest

  pub record AreClosed : Type 0 where
    pub some : (i : ℕ) (ms : List Named) → HasMembers s.structures i ms → nat_lt 0 (length ms) ≡ true
    pub apart : (i : ℕ) (ms : List Named) → HasMembers s.structures i ms → are_distinct (local_names ms) ≡ true
    pub laid : AreLaid target s
    pub over : AreOver [] s.completed
