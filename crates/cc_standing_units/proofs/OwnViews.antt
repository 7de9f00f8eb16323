-- A state's own view knows what the state knows, where what is declared in it stands.
use Rattle.std.proofs.Common.{◌≡◌, ◌⊎◌, inl, inr, ℕ, zero, suc, Bool, true, false, List, [], ◌∷◌, length, Option, Some, None, refl, ap, sym, ◌∙◌, subst}
use Rattle.std.specs.Prelude.{nat_lt, slice_get, option_map, option_and_then, if◌then◌else◌}
use Rattle.std.proofs.lemmas.Option.{slice_get-map}
use Rattle.cc_program.specs.CcNum.declared.target.Target.{Target}
use Rattle.cc_operand_types.specs.Typed.{is_pointed_kind, MembersStand}
use Rattle.cc_terms.specs.CcSyntax.Views.{View, kind_in}
use Rattle.cc_operand_types.proofs.Standing.{object_type}
use Rattle.cc_program.proofs.Each.{Each}
use Rattle.cc_program.specs.declared.types.CType.{CType}
use Rattle.cc_program.specs.declared.types.Shape.TheOpen as shape
use Rattle.cc_program.specs.declared.types.Structure.{Structure}
use Rattle.cc_terms.specs.CcScopes.State.{State, Name, KnownStructure, members_or_none, as_structure, at_first, designated, tagged}
use Rattle.cc_terms.specs.CcScopes.declared.designated.Designated.TheVariants as means
use Rattle.cc_terms.specs.CcScopes.declared.designated.Tagged.{Tagged}
use Rattle.cc_terms.specs.CcScopes.declared.unit.Declared.{Declared}
use Rattle.cc_sound_terms.specs.Behind.{HasEntry, KindStands, NameStands, SigStands, Behind}
use Rattle.cc_sound_terms.specs.Ordered.{HasMembers, IsOrdered}
use Rattle.cc_sound_terms.specs.Knowing.{KnowsStructure, KnowsStructures, KnowsAs, KnowsNames}
use Rattle.cc_sound_terms.specs.Standing.{MembersKnown}
use Rattle.cc_sound_terms.specs.Typing.{KnowsTypes, Knows}
use Rattle.cc_terms.specs.CcSyntax.Kinds.{is_object_type}
use Rattle.cc_terms.specs.CcSyntax.Types.{Named}
use Rattle.cc_terms.specs.CcUnit.declared.unit.UnitKind.{UnitKind}
use Rattle.cc_terms.specs.CcUnit.declared.unit.UnitKind.TheVariants as kind
use Rattle.cc_relocated_units.specs.Units.{static_as, device_as, function_as, function_shape}
use Rattle.cc_standing_units.specs.Views.{known_extent, view_of}

some_is : {A : Type 0} (a b : A) → Some a ≡ Some b → a ≡ b
some_is a b h = cc

-- ---- structures

module _ (target : Target) (s : State) where
  abbrev own : View
  own = view_of target s

  content_bytes : (k : KnownStructure) (ms : List Named) → k.members ≡ Some ms → nat_lt 0 (length ms) ≡ true → known_extent k ≡ Some k.layout.size
  content_bytes k ms e h =
      ap (λ (o : Option (List Named)). if nat_lt 0 (length (members_or_none o)) then Some k.layout.size else None) e
      ∙ ap (λ (b : Bool). if b then Some k.layout.size else None) h

  knows_structure : (i : ℕ) (k : KnownStructure) → slice_get s.structures i ≡ Some k → KnowsStructure own i k
  knows_structure i k e = record {
    extent = known_extent k;
    there = ap (option_map known_extent) e;
    complete = λ ms f h. record {
      bytes = ap (option_map known_extent) e ∙ ap Some (content_bytes k ms f h);
      content = as_structure k;
      at = slice_get-map as_structure s.structures i ∙ ap (option_map as_structure) e;
      members = ap members_or_none f;
    };
  }

  pub knows_structures : KnowsStructures own s.structures
  knows_structures = knows_structure

  -- ---- names

  abbrev NamesStand : Type 0
  NamesStand = (i : ℕ) (d : Declared) → slice_get s.names i ≡ Some d → NameStands own d

  static_known : (i : ℕ) (t : CType) (k : UnitKind) (d : Declared) → slice_get s.names i ≡ Some d → d.ctype ≡ t → d.kind ≡ k → own.statics i ≡ static_as t k
  static_known i t k d e f g =
      ap (option_and_then (λ (x : Declared). static_as x.ctype x.kind)) e ∙ ap (λ (u : CType). static_as u d.kind) f ∙ ap (static_as t) g

  device_known : (i : ℕ) (k : UnitKind) (d : Declared) → slice_get s.names i ≡ Some d → d.kind ≡ k → own.devices i ≡ device_as k
  device_known i k d e g = ap (option_and_then (λ (x : Declared). device_as x.kind)) e ∙ ap device_as g

  function_known : (i : ℕ) (t : CType) (k : UnitKind) (d : Declared) → slice_get s.names i ≡ Some d → d.ctype ≡ t → d.kind ≡ k → own.functions i ≡ function_as t k
  function_known i t k d e f g =
      ap (option_and_then (λ (x : Declared). function_as x.ctype x.kind)) e ∙ ap (λ (u : CType). function_as u d.kind) f ∙ ap (function_as t) g

  knows_as : (i : ℕ) (t : CType) (k : UnitKind) (d : Declared) → slice_get s.names i ≡ Some d → d.ctype ≡ t → d.kind ≡ k → KindStands own t k → KnowsAs own i t k
  knows_as i t (kind.Object leaves) d e f g h = (static_known i t (kind.Object leaves) d e f g, object_type (kind_in own t) h)
  knows_as i t (kind.Device x) d e f g h = device_known i (kind.Device x) d e g
  knows_as i t (kind.Func entry body) d e f g h = λ sig z.
      (function_known i t (kind.Func entry body) d e f g ∙ ap function_shape z, subst (SigStands own) z h)

  pub knows_names : NamesStand → KnowsNames own s.names
  knows_names h = λ i d e. knows_as i d.ctype d.kind d e refl refl (h i d e)

  -- ---- members

  abbrev AllMembersKnown : Type 0
  AllMembersKnown = (i : ℕ) (ms : List Named) → HasMembers s.structures i ms → MembersKnown own ms

  each_at : {A : Type 0} (P : A → Type 0) (xs : List A) (i : ℕ) (x : A) → Each P xs → slice_get xs i ≡ Some x → P x
  each_at P [] i x h e = absurd (cc)
  each_at P (y ∷ xs) zero x h e = subst P (some_is y x e) h.0
  each_at P (y ∷ xs) (suc i) x h e = each_at P xs i x h.1 e

  member_of_known : (i : ℕ) (k : KnownStructure) (o : Option (List Named)) (m : ℕ) (member : Named) → AllMembersKnown → slice_get s.structures i ≡ Some k → k.members ≡ o → slice_get (members_or_none o) m ≡ Some member →
      is_pointed_kind false (kind_in own member.1) ≡ true
  member_of_known i k None m member h e f g = absurd (cc)
  member_of_known i k (Some ms) m member h e f g =
      object_type (kind_in own member.1) (each_at (λ (x : Named). is_object_type (kind_in own x.1) ≡ true) ms m member (h i ms (k, e, f)) g)

  member_by : (i : ℕ) (o : Option KnownStructure) (c : Structure) (m : ℕ) (member : Named) → AllMembersKnown → slice_get s.structures i ≡ o → option_map as_structure o ≡ Some c → slice_get c.members m ≡ Some member →
      is_pointed_kind false (kind_in own member.1) ≡ true
  member_by i None c m member h e f g = absurd (cc)
  member_by i (Some k) c m member h e f g =
      member_of_known i k k.members m member h e refl
      (ap (λ (x : Structure). slice_get x.members m) (some_is (as_structure k) c f) ∙ g)

  pub members_stand : AllMembersKnown → MembersStand own
  members_stand h = λ i c m member e g. member_by i (slice_get s.structures i) c m member h refl (sym (slice_get-map as_structure s.structures i) ∙ e) g

  -- ---- behind all that is in a unit

  nothing_named : (x : Name) (t : CType) → designated x at_first.scopes ≡ Some (means.TypeNamed t) → ⊥
  nothing_named x t h = absurd (cc)

  nothing_tagged : (x : Name) (t : Tagged) → tagged x at_first.scopes ≡ Some t → ⊥
  nothing_tagged x t h = absurd (cc)

  pub types_known : KnowsTypes own at_first s
  types_known = record { structures = knows_structures; types = λ x t h. absurd (nothing_named x t h); tags = λ x t h. absurd (nothing_tagged x t h) }

  all_stand : Behind own at_first s → NamesStand
  all_stand b = λ i d e. of_entry i d (b.names i d e)
    where
      of_entry : (i : ℕ) (d : Declared) → HasEntry at_first.names i ⊎ NameStands own d → NameStands own d
      of_entry i d (inl h) = let c : None ≡ Some h.0 = h.1 in absurd (cc)
      of_entry i d (inr h) = h

  all_known : Behind own at_first s → AllMembersKnown
  all_known b = λ i ms e. of_structure i ms (b.structures i ms e)
    where
      of_structure : (i : ℕ) (ms : List Named) → HasMembers at_first.structures i ms ⊎ MembersKnown own ms → MembersKnown own ms
      of_structure i ms (inl h) = let c : None ≡ Some h.0 = h.1 in absurd (cc)
      of_structure i ms (inr h) = h

  pub all_is_known : (KnowsTypes own at_first s → Behind own at_first s) → Knows own [] at_first s
  all_is_known f =
      let b = f types_known in
      record {
        types = types_known;
        names = knows_names (all_stand b);
        objects = λ x d h. let c : None ≡ Some d = h in absurd (cc);
        members = members_stand (all_known b);
      }

-- in front of a unit structures stand in order
nothing_listed : (i : ℕ) (ms : List Named) → HasMembers at_first.structures i ms → ⊥
nothing_listed i ms h = let c : None ≡ Some h.0 = h.1 in absurd (cc)

pub first_ordered : IsOrdered at_first
first_ordered = record { listed = λ i ms h. absurd (nothing_listed i ms h); order = tt; tags = λ x t h. absurd (nothing_here x t h) }
  where
    nothing_here : (x : Name) (t : Tagged) → tagged x at_first.scopes ≡ Some t → ⊥
    nothing_here x t h = absurd (cc)
