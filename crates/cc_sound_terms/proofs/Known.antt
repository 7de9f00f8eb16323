-- What is known of a construct is known of its first part, and of what stands behind that.
use Rattle.std.proofs.Common.{◌≡◌, ℕ, true, List, [], length, Option, Some, None, refl, ap, sym, ◌∙◌}
use Rattle.std.specs.Prelude.{nat_lt, slice_get, option_map}
use Rattle.std.proofs.lemmas.Option.{slice_get-map}
use Rattle.cc_terms.specs.CcSyntax.Views.{View}
use Rattle.cc_program.specs.declared.types.Structure.{Structure}
use Rattle.cc_terms.specs.CcScopes.State.{State, KnownStructure, members_or_none, as_structure, structures_of}
use Rattle.cc_terms.specs.CcScopes.declared.designated.Designated.{Designated}
use Rattle.cc_terms.specs.CcSyntax.Types.{Named}
use Rattle.cc_sound_terms.specs.Behind.{Adds, Extends}
use Rattle.cc_sound_terms.specs.Growing.{IsConstant}
use Rattle.cc_sound_terms.specs.Knowing.{KnowsStructures}
use Rattle.cc_sound_terms.specs.Typing.{KnowsTypes, Knows}
use Rattle.cc_sound_terms.proofs.Behind.{known_first, known_second}
use Rattle.cc_sound_terms.proofs.Growth.{knows_names, objects_stand}
use Rattle.cc_sound_terms.proofs.Within.{AreWithin}

module _ (v : View) where
  pub types_first : (New : Designated → Type 0) (s t u : State) → Adds v New s t → Adds v New t u → KnowsTypes v s u → KnowsTypes v s t
  types_first New s t u a b k = known_first v s t u b.grows.structures k

  pub types_second : (New : Designated → Type 0) (s t u : State) → Adds v New s t → Adds v New t u → KnowsTypes v s u → KnowsTypes v t u
  types_second New s t u a b k = known_second v s t u b.grows.structures a.behind k

  module _ (locals : List Named) where
    pub knows_first : (s t u : State) → Extends v s t → Extends v t u → Knows v locals s u → Knows v locals s t
    knows_first s t u a b k = record { types = types_first (IsConstant v.target) s t u a b k.types; names = knows_names v t.names u.names b.grows.names.0 b.grows.names.1 k.names; objects = k.objects; members = k.members }

    pub knows_second : (s t u : State) → Extends v s t → Extends v t u → Knows v locals s u → Knows v locals t u
    knows_second s t u a b k = record { types = types_second (IsConstant v.target) s t u a b k.types; names = k.names; objects = objects_stand v locals s t a.grows k.objects; members = k.members }

  -- ---- what structures contain

  same_structure : (c d : Structure) → Some c ≡ Some d → c ≡ d
  same_structure c d h = cc

  content_of : (s : State) (i : ℕ) (k : KnownStructure) (c : Structure) → KnowsStructures v s.structures → slice_get s.structures i ≡ Some k → as_structure k ≡ c → nat_lt 0 (length c.members) ≡ true →
      (m : Option (List Named)) → k.members ≡ m → (d : Structure) × (slice_get v.structures i ≡ Some d) × (d.members ≡ c.members)
  content_of s i k c w e is h None g =
      let f : [] ≡ c.members = sym (ap members_or_none g) ∙ ap (λ (x : Structure). x.members) is in
      let b : nat_lt 0 0 ≡ true = ap (λ (ms : List Named). nat_lt 0 (length ms)) f ∙ h in absurd (cc)
  content_of s i k c w e is h (Some ms) g =
      let f : ms ≡ c.members = sym (ap members_or_none g) ∙ ap (λ (x : Structure). x.members) is in
      let d = (w i k e).complete ms g (ap (λ (ms : List Named). nat_lt 0 (length ms)) f ∙ h) in
      (d.content, d.at, d.members ∙ f)

  content_within : (s : State) (i : ℕ) (o : Option KnownStructure) (c : Structure) → KnowsStructures v s.structures → slice_get s.structures i ≡ o → option_map as_structure o ≡ Some c → nat_lt 0 (length c.members) ≡ true →
      (d : Structure) × (slice_get v.structures i ≡ Some d) × (d.members ≡ c.members)
  content_within s i None c w e f h = absurd (cc)
  content_within s i (Some k) c w e f h = content_of s i k c w e (same_structure (as_structure k) c f) h k.members refl

  pub within_known : (s : State) → KnowsStructures v s.structures → AreWithin (structures_of s) v.structures
  within_known s w = λ i c e h. content_within s i (slice_get s.structures i) c w refl (sym (slice_get-map as_structure s.structures i) ∙ e) h
