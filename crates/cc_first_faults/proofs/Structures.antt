-- The law of structures, enumerations and specifiers, whose parts have it.
use Rattle.std.proofs.Common.{◌≡◌, ◌∙◌, ℕ, ℤ, pos, Bool, true, false, is_some, List, [], ◌∷◌, map, Option, Some, None, option_map, Ok, Err, if◌then◌else◌, refl, sym, subst, slice_get}
use Rattle.cc_typed_bodies.specs.CcTypedTerms.Declarators.{derived_type}
use Rattle.cc_typed_bodies.specs.CcTypedTerms.Located.{located}
use Rattle.cc_typed_bodies.specs.CcTypedTerms.Members.{member_judged}
use Rattle.cc_typed_bodies.specs.CcTypedTerms.Names.{new_name}
use Rattle.cc_typed_bodies.specs.CcTypedTerms.Specifiers.{as_type, type_named, marked, structure_tag, enumeration_tag}
use Rattle.cc_program.specs.CcNum.declared.target.Target.{Target}
use Rattle.cc_typed_bodies.specs.CcOperands.Operands.{constancy}
use Rattle.cc_typed_bodies.specs.CcOperands.declared.rule.Rule.TheVariants as rule
use Rattle.cc_program.proofs.Each.{Each}
use Rattle.cc_program.specs.declared.program.Roles.{Roles}
use Rattle.cc_program.specs.declared.types.CType.{CType}
use Rattle.cc_typed_bodies.specs.CcScopes.State.{State, Name, designated, tagged}
use Rattle.cc_typed_bodies.specs.CcScopes.Structures.{structure_named, enumeration_named, enumeration_closed, enumeration_constant, closed, has_content, tagged_option, in_list}
use Rattle.cc_typed_bodies.specs.CcScopes.Verdicts.{Found, whole}
use Rattle.cc_typed_bodies.specs.CcScopes.declared.designated.Tagged.{Tagged}
use Rattle.cc_typed_bodies.specs.CcScopes.declared.designated.Tagged.TheVariants.{StructureTag, EnumerationTag, UnfinishedEnumeration}
use Rattle.cc_typed_bodies.specs.CcSpecifiers.Attributes.{attributes}
use Rattle.cc_typed_bodies.specs.CcSpecifiers.Derivations.{nothing_more}
use Rattle.cc_typed_bodies.specs.CcSpecifiers.declared.attribute.Entity.TheVariants as entity
use Rattle.cc_typed_bodies.specs.CcSyntax.Folding.{Constant, Value}
use Rattle.cc_typed_bodies.specs.CcSyntax.Types.{Named}
use Rattle.cc_typed_bodies.specs.CcTerms.Constants.{constants_found, constant_by, constant_declared}
use Rattle.cc_typed_bodies.specs.CcTerms.Members.{member_found}
use Rattle.cc_typed_bodies.specs.CcTerms.Structures.{structure_opened, members_found, structure_closed}
use Rattle.cc_typed_bodies.specs.CcTerms.Terms.{here, declr_here, members_here, enumr_here}
use Rattle.cc_tree.specs.declared.at.At.{At}
use Rattle.cc_tree.specs.declared.tree.Attr.{Attr}
use Rattle.cc_tree.specs.declared.tree.Declr.{Declr}
use Rattle.cc_tree.specs.declared.tree.Declr.TheOpen as one
use Rattle.cc_tree.specs.declared.tree.Enumr.{Enumr, out-Enumr, roll-Enumr, out-roll-Enumr}
use Rattle.cc_tree.specs.declared.tree.MemberDecl.{MemberDecl, out-MemberDecl, roll-MemberDecl, out-roll-MemberDecl}
use Rattle.cc_tree.specs.declared.tree.Param.{Param}
use Rattle.cc_tree.specs.declared.tree.Params.{Params}
use Rattle.cc_tree.specs.declared.tree.Spec.{Spec, out-Spec, roll-Spec, out-roll-Spec}
use Rattle.cc_tree.specs.declared.tree.Tree.{Tree}
use Rattle.cc_tree.specs.declared.tree.TypeName.{TypeName}
use Rattle.cc_first_faults.specs.Constructs.{MembersBehind, MemberBehind, ConstantBehind}
use Rattle.cc_first_faults.specs.FirstFaults.{forget}
use Rattle.cc_first_faults.specs.Parts.{attribute_parts, derivation_parts, bound_parts, content_parts, constant_parts, specifier_parts, members_parts}
use Rattle.cc_first_faults.proofs.Declarators.{attributes-told, derivations-told, declr-then, specified-then}
use Rattle.cc_first_faults.proofs.Expressions.{value-last}
use Rattle.cc_first_faults.proofs.Induction.{plain, OfSpec, OfEnumr, OfMembers, SomeDeclr, SomeParams, SomeSpec, SomeTree, SomeEnumr, SomeMembers, SomeParam, SomeTypeName, bare_spec, bare_enumr, bare_members}
use Rattle.cc_first_faults.proofs.Lawful.{Own, own-whole, own-then}
use Rattle.cc_first_faults.proofs.Laws.{First, Law, Told, first, followed, last, turns}
use Rattle.cc_first_faults.proofs.Layers.{spec_in, spec-out, enumr_in, enumr-out, members_in, members-out}

own-type : (at : ℕ) (m : Found CType) → Own at (forget m) → Own at (forget (as_type m))
own-type at m o = own-then at m _ o (λ t s. tt)

own-named : (at : ℕ) (x : Name) (s : State) (t : Option Tagged) → Own at (forget (structure_named at x s t))
own-named at x s None = tt
own-named at x s (Some (StructureTag i)) = tt
own-named at x s (Some EnumerationTag) = refl
own-named at x s (Some UnfinishedEnumeration) = refl

own-structure : (at : ℕ) (tag : Option Name) (s : State) → Own at (forget (structure_tag at tag s))
own-structure at None s = refl
own-structure at (Some x) s = own-type at (structure_named at x s (tagged x s.scopes)) (own-named at x s (tagged x s.scopes))

own-enumerated : (at : ℕ) (s : State) (t : Option Tagged) → Own at (forget (enumeration_named at s t))
own-enumerated at s None = refl
own-enumerated at s (Some (StructureTag i)) = refl
own-enumerated at s (Some EnumerationTag) = tt
own-enumerated at s (Some UnfinishedEnumeration) = refl

own-enumeration : (at : ℕ) (tag : Option Name) (s : State) → Own at (forget (enumeration_tag at tag s))
own-enumeration at None s = refl
own-enumeration at (Some x) s = own-type at (enumeration_named at s (tagged x s.scopes)) (own-enumerated at s (tagged x s.scopes))

own-closed : (clash complete : Bool) (at : ℕ) (s : State) (found : CType × State) →
    Own at (forget {A = CType} (if clash then whole at s (Err rule.DeclaredTwice) else (if complete then whole at s (Err rule.NoObjectType) else Ok found)))
own-closed true complete at s found = refl
own-closed false true at s found = refl
own-closed false false at s found = tt

own-listed : (clash : Bool) (at : ℕ) (tag : Option Name) (s : State) → Own at (forget (enumeration_closed at clash tag s))
own-listed true at tag s = refl
own-listed false at tag s = tt

module _ (target : Target) (roles : Roles) (defined : List Name) where
  -- ---- enumerations

  constant-own : (at : ℕ) (x : Name) (given : Constant) (s : State) → Own at (forget (constant_declared target roles at x given s))
  constant-own at x given s =
      own-then at (whole at s (enumeration_constant target given)) _ (own-whole at s (enumeration_constant target given)) (λ n s.
      own-then at (whole at s (new_name roles x s)) _ (own-whole at s (new_name roles x s)) (λ y t. tt))

  constant-told : (at : ℕ) (x : Name) (next : ℤ) (n : Option (At (SomeTree target roles defined))) (s : State) →
      Told target roles defined at (bound_parts (option_map plain n) s) (constant_by target roles at x next s (option_map (here target roles) (option_map plain n)))
  constant-told at x next None s = constant-own at x (Value next) s
  constant-told at x next (Some e) s = value-last target roles defined at e s _ (λ y t. constant-own at x (constancy y) t)

  abbrev EnumrLayer : Type 0
  EnumrLayer = one.Enumr-F (SomeDeclr target roles defined) (SomeParams target roles defined) (SomeSpec target roles defined) (SomeTree target roles defined) (SomeEnumr target roles defined) (SomeMembers target roles defined) (SomeParam target roles defined) (SomeTypeName target roles defined)

  enumr-by : (x : Name) (n : Option (At (SomeTree target roles defined))) (at : ℕ) (next : ℤ) (s : State) →
      Told target roles defined at (bound_parts (bare_enumr target roles defined (record { name = x; value = n })).value s) (enumr_in target roles (bare_enumr target roles defined (record { name = x; value = n })) next at s)
  enumr-by x None at next s = constant-told at x next None s
  enumr-by x (Some e) at next s = constant-told at x next (Some e) s

  enumr-layer : (y : EnumrLayer) (at : ℕ) (next : ℤ) (s : State) → Told target roles defined at (bound_parts (bare_enumr target roles defined y).value s) (enumr_in target roles (bare_enumr target roles defined y) next at s)
  enumr-layer y at next s = enumr-by y.name y.value at next s

  pub of-enumr : (x : one.Enumr-F Declr Params Spec Tree Enumr MemberDecl Param TypeName) (y : EnumrLayer) → bare_enumr target roles defined y ≡ x → OfEnumr target roles defined (roll-Enumr x)
  of-enumr x y h at next s =
      subst (λ m. Told target roles defined at (bound_parts (out-Enumr (roll-Enumr x)).value s) (m next at s)) (sym (enumr-out target roles (roll-Enumr x)))
      (subst (λ o. Told target roles defined at (bound_parts o.value s) (enumr_in target roles o next at s)) (h ∙ sym (out-roll-Enumr x)) (enumr-layer y at next s))

  each-constants : (cs : List (At (SomeEnumr target roles defined))) → Each (λ (c : At Enumr). (next : ℤ) (s : State) → First target roles defined (ConstantBehind next c) s) (map plain cs)
  each-constants [] = tt
  each-constants (c ∷ cs) = ((λ next s. first target roles defined (ConstantBehind next (plain c)) s (c.node.1 c.at next s)), each-constants cs)

  constants-told : (at : ℕ) (cs : List (At (SomeEnumr target roles defined))) (s : State) → Told target roles defined at (constant_parts target roles (map plain cs) s) (constants_found (map (enumr_here target roles) (map plain cs)) s)
  constants-told at cs s = turns target roles defined at (enumr_here target roles) (λ c next s. c.node next c.at s) (λ c next. ConstantBehind next c) (λ c next s. refl) (map plain cs) (each-constants cs) (pos 0) s

  -- ---- members

  pub member-law : (base : CType) (before : List Named) (d : At (SomeDeclr target roles defined)) (s : State) → Law target roles defined (MemberBehind base before (plain d)) s
  member-law base before d s =
      declr-then target roles defined d.at nothing_more d s _ _ (λ x s.
      last target roles defined d.at (derivation_parts false base x.derivations s) (derived_type target nothing_more base x s) _ (derivations-told target roles defined d.at false base x.derivations s)
      (λ t u. own-whole d.at u (member_judged target t before u x.name)))

  each-declarators : (base : CType) (ds : List (At (SomeDeclr target roles defined))) → Each (λ (d : At Declr). (before : List Named) (s : State) → First target roles defined (MemberBehind base before d) s) (map plain ds)
  each-declarators base [] = tt
  each-declarators base (d ∷ ds) = ((λ before s. first target roles defined (MemberBehind base before (plain d)) s (member-law base before d s)), each-declarators base ds)

  abbrev MembersLayer : Type 0
  MembersLayer = one.MemberDecl-F (SomeDeclr target roles defined) (SomeParams target roles defined) (SomeSpec target roles defined) (SomeTree target roles defined) (SomeEnumr target roles defined) (SomeMembers target roles defined) (SomeParam target roles defined) (SomeTypeName target roles defined)

  members-layer : (y : MembersLayer) (at : ℕ) (before : List Named) (s : State) →
      Told target roles defined at (members_parts target roles before (bare_members target roles defined y) s) (members_in target roles (bare_members target roles defined y) before s)
  members-layer y at before s =
      specified-then target roles defined at _ y.specs s _ _ (λ base s.
      turns target roles defined at (declr_here target roles) (member_found target base.ctype) (λ d before. MemberBehind base.ctype before d) (λ d before s. refl) (map plain y.declrs) (each-declarators base.ctype y.declrs) before s)

  pub of-members : (x : one.MemberDecl-F Declr Params Spec Tree Enumr MemberDecl Param TypeName) (y : MembersLayer) → bare_members target roles defined y ≡ x → OfMembers target roles defined (roll-MemberDecl x)
  of-members x y h at before s =
      subst (λ m. Told target roles defined at (members_parts target roles before (out-MemberDecl (roll-MemberDecl x)) s) (m before s)) (sym (members-out target roles (roll-MemberDecl x)))
      (subst (λ o. Told target roles defined at (members_parts target roles before o s) (members_in target roles o before s)) (h ∙ sym (out-roll-MemberDecl x)) (members-layer y at before s))

  each-members : (ds : List (At (SomeMembers target roles defined))) → Each (λ (d : At MemberDecl). (before : List Named) (s : State) → First target roles defined (MembersBehind before d) s) (map plain ds)
  each-members [] = tt
  each-members (d ∷ ds) = ((λ before s. first target roles defined (MembersBehind before (plain d)) s (d.node.1 d.at before s)), each-members ds)

  members-told : (at : ℕ) (ds : List (At (SomeMembers target roles defined))) (s : State) → Told target roles defined at (content_parts target roles (map plain ds) s) (members_found (map (members_here target roles) (map plain ds)) s)
  members-told at ds s = turns target roles defined at (members_here target roles) (λ d before s. d.node before s) (λ d before. MembersBehind before d) (λ d before s. refl) (map plain ds) (each-members ds) [] s

  -- ---- specifiers

  opened-told : (at : ℕ) (tag : Option Name) (front : List (At Attr)) (s : State) → Told target roles defined at (attribute_parts (entity.Structure ∷ []) front s) (structure_opened tag front s)
  opened-told at tag front s =
      last target roles defined at (attribute_parts (entity.Structure ∷ []) front s) (located s (attributes (entity.Structure ∷ []) front)) _ (attributes-told target roles defined at (entity.Structure ∷ []) front s) (λ marks t. tt)

  closed-told : (at : ℕ) (back : List (At Attr)) (clash : Bool) (i : ℕ) (ms : List Named) (s : State) → Told target roles defined at (attribute_parts (entity.Structure ∷ []) back s) (structure_closed target at back clash i ms s)
  closed-told at back clash i ms s =
      last target roles defined at (attribute_parts (entity.Structure ∷ []) back s) (located s (attributes (entity.Structure ∷ []) back)) _ (attributes-told target roles defined at (entity.Structure ∷ []) back s)
      (λ marks v. own-type at (closed target at clash i ms v) (own-closed clash (has_content (slice_get v.structures i)) at v _))

  abbrev SpecLayer : Type 0
  SpecLayer = one.Spec-F (SomeDeclr target roles defined) (SomeParams target roles defined) (SomeSpec target roles defined) (SomeTree target roles defined) (SomeEnumr target roles defined) (SomeMembers target roles defined) (SomeParam target roles defined) (SomeTypeName target roles defined)

  spec-layer : (y : SpecLayer) (at : ℕ) (s : State) → Told target roles defined at (specifier_parts target roles (bare_spec target roles defined y) s) (spec_in target roles (bare_spec target roles defined y) at s)
  spec-layer (one.Word x) at s = tt
  spec-layer (one.Spec::Named x) at s = own-whole at s (type_named (designated x s.scopes))
  spec-layer (one.Struct tag None front behind) at s = own-structure at tag s
  spec-layer (one.Struct tag (Some ds) front back) at s =
      followed target roles defined at (attribute_parts (entity.Structure ∷ []) front s) (structure_opened tag front s) _ _ (opened-told at tag front s) (λ new s.
      followed target roles defined at (content_parts target roles (map plain ds) s) (members_found (map (members_here target roles) (map plain ds)) s) _ _ (members-told at ds s) (λ ms u.
      closed-told at back new.0 new.1 ms u))
  spec-layer (one.Enum tag None) at s = own-enumeration at tag s
  spec-layer (one.Enum tag (Some cs)) at s =
      last target roles defined at (constant_parts target roles (map plain cs) (in_list tag s)) (constants_found (map (enumr_here target roles) (map plain cs)) (in_list tag s)) _ (constants-told at cs (in_list tag s))
      (λ next t. own-type at (enumeration_closed at (is_some (tagged_option tag s)) tag t) (own-listed (is_some (tagged_option tag s)) at tag t))
  spec-layer (one.Attr a) at s = own-whole at s (marked a)

  pub of-spec : (x : one.Spec-F Declr Params Spec Tree Enumr MemberDecl Param TypeName) (y : SpecLayer) → bare_spec target roles defined y ≡ x → OfSpec target roles defined (roll-Spec x)
  of-spec x y h at s =
      subst (λ m. Told target roles defined at (specifier_parts target roles (out-Spec (roll-Spec x)) s) (m at s)) (sym (spec-out target roles (roll-Spec x)))
      (subst (λ o. Told target roles defined at (specifier_parts target roles o s) (spec_in target roles o at s)) (h ∙ sym (out-roll-Spec x)) (spec-layer y at s))
