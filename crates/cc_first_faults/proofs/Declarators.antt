-- The law of attributes, derivations, declarators and specifiers, whose parts have it.
use Rattle.std.proofs.Common.{◌≡◌, ◌∙◌, ℕ, Bool, true, false, not, ◌||◌, List, [], ◌∷◌, ◌++◌, length, map, Option, Some, None, option_map, Ok, Err, refl, sym, subst}
use Rattle.cc_typed_bodies.specs.CcTypedTerms.Declarators.{derived_type}
use Rattle.cc_typed_bodies.specs.CcTypedTerms.Located.{located}
use Rattle.cc_typed_bodies.specs.CcTypedTerms.Parameters.{parameter, parameter_bound}
use Rattle.cc_typed_bodies.specs.CcTypedTerms.Names.{new_name}
use Rattle.cc_typed_bodies.specs.CcTypedTerms.Specifiers.{begin}
use Rattle.cc_program.specs.CcNum.declared.target.Target.{Target}
use Rattle.cc_typed_bodies.specs.CcOperands.Verdicts.{Judged, must}
use Rattle.cc_typed_bodies.specs.CcOperands.declared.rule.Rule.{Rule}
use Rattle.cc_typed_bodies.specs.CcOperands.declared.rule.Rule.TheVariants as rule
use Rattle.cc_program.proofs.Each.{Each}
use Rattle.cc_program.specs.declared.program.Roles.{Roles}
use Rattle.cc_program.specs.declared.types.CType.{CType}
use Rattle.cc_typed_bodies.specs.CcScopes.State.{State, Name, Scope, structures_of, layouts_of, empty, entered}
use Rattle.cc_typed_bodies.specs.CcScopes.Verdicts.{Found, whole, and_then}
use Rattle.cc_typed_bodies.specs.CcSpecifiers.Attributes.{attribute_judged, attributes}
use Rattle.cc_typed_bodies.specs.CcSpecifiers.Declarators.{breach, derived, derived_further, derive, derive_one, fault_or}
use Rattle.cc_typed_bodies.specs.CcSpecifiers.declared.attribute.Attribute.{Attribute}
use Rattle.cc_typed_bodies.specs.CcSpecifiers.declared.specifier.Specified.{Specified}
use Rattle.cc_typed_bodies.specs.CcSpecifiers.Derivations.{in_parameter, is_next_to_name, suffix_found}
use Rattle.cc_typed_bodies.specs.CcSpecifiers.Parameters.{parameter_type}
use Rattle.cc_typed_bodies.specs.CcSpecifiers.Places.{JudgedAt, Checked, judged_at, at_then, behind as ahead_of}
use Rattle.cc_typed_bodies.specs.CcSpecifiers.Specifiers.{no_specifier, with_specifier, specified}
use Rattle.cc_typed_bodies.specs.CcSpecifiers.declared.attribute.Entity.{Entity}
use Rattle.cc_typed_bodies.specs.CcSpecifiers.declared.derivation.Allowed.{Allowed}
use Rattle.cc_typed_bodies.specs.CcSpecifiers.declared.derivation.Declarator.{Declarator}
use Rattle.cc_typed_bodies.specs.CcSpecifiers.declared.derivation.Derivation.{Derivation}
use Rattle.cc_typed_bodies.specs.CcSpecifiers.declared.derivation.Parameter.{Parameter}
use Rattle.cc_typed_bodies.specs.CcSpecifiers.declared.specifier.Specs.{Specs}
use Rattle.cc_typed_bodies.specs.CcSpecifiers.declared.storage.Setting.{Setting}
use Rattle.cc_typed_bodies.specs.CcTerms.Declarators.{bounded, without_bound, with_bound, parameters_found, parameter_declared}
use Rattle.cc_typed_bodies.specs.CcTerms.InTurn.{in_turn, one_more}
use Rattle.cc_typed_bodies.specs.CcTerms.Specifiers.{specifier_found, specified_found}
use Rattle.cc_typed_bodies.specs.CcTerms.Terms.{spec_of, spec_here, declr_of, params_of, param_here, here}
use Rattle.cc_tree.specs.declared.at.At.{At}
use Rattle.cc_tree.specs.declared.tree.Attr.{Attr}
use Rattle.cc_tree.specs.declared.tree.Declr.{Declr, out-Declr, roll-Declr, out-roll-Declr}
use Rattle.cc_tree.specs.declared.tree.Declr.TheOpen as one
use Rattle.cc_tree.specs.declared.tree.Enumr.{Enumr}
use Rattle.cc_tree.specs.declared.tree.MemberDecl.{MemberDecl}
use Rattle.cc_tree.specs.declared.tree.Param.{Param, out-Param, roll-Param, out-roll-Param}
use Rattle.cc_tree.specs.declared.tree.Params.{Params, out-Params, roll-Params, out-roll-Params}
use Rattle.cc_tree.specs.declared.tree.Spec.{Spec}
use Rattle.cc_tree.specs.declared.tree.Tree.{Tree}
use Rattle.cc_tree.specs.declared.tree.TypeName.{TypeName, out-TypeName, roll-TypeName, out-roll-TypeName}
use Rattle.cc_first_faults.specs.Constructs.{Construct, ValueOf, Specifiers, SpecifierBehind, Specifier, OneAttribute, Declaring, Suffixed, Derived, ParameterList, ParameterBehind, ParameterNamed, parameters_begin}
use Rattle.cc_first_faults.specs.FirstFaults.{forget}
use Rattle.cc_first_faults.specs.Parts.{attribute_parts, derivation_parts, specifiers_part, specifiers_parts, declarator_part, bound_parts, declaring_parts, declarator_parts, list_parts, parameter_parts, type_name_parts}
use Rattle.cc_first_faults.proofs.Expressions.{value-last}
use Rattle.cc_first_faults.proofs.Induction.{plain, OfDeclr, OfParams, OfParam, OfTypeName, SomeDeclr, SomeParams, SomeSpec, SomeTree, SomeEnumr, SomeMembers, SomeParam, SomeTypeName, bare_declr, bare_params, bare_param, bare_type_name}
use Rattle.cc_first_faults.proofs.Lawful.{Own, goes_on, own-whole, own-then}
use Rattle.cc_first_faults.proofs.Laws.{First, Law, Told, first, single, followed, last, turns}
use Rattle.cc_first_faults.proofs.Layers.{declr_in, declr-out, params_in, params-out, param_in, param-out, type_name_in, type_name-out}
use Rattle.cc_first_faults.proofs.Typed.{suffixed-law, derived-law}

begin-map : {A B : Type 0} (f : A → B) (xs : List (At A)) → begin (map (λ (x : At A). record { at = x.at; node = f x.node }) xs) ≡ begin xs
begin-map f [] = refl
begin-map f (x ∷ xs) = refl

-- what is judged at places goes on as what is found does
located-ahead : {A : Type 0} (s : State) (done : List A) (r : JudgedAt (List A)) → located s (ahead_of done r) ≡ and_then (located s r) (λ xs t. Ok (done ++ xs, t))
located-ahead s done (Ok xs) = refl
located-ahead s done (Err broken) = refl

located-further : (s : State) (d : Derivation Scope) (r : JudgedAt CType) → located s (derived_further d r) ≡ and_then (located s r) (λ t u. Ok (derive_one d t, u))
located-further s d (Ok t) = refl
located-further s d (Err broken) = refl

module _ (target : Target) (roles : Roles) (defined : List Name) where
  -- ---- attributes, and what declarators derive

  attributes-step : (at : ℕ) (entities : List Entity) (there : ℕ) (xs : List (At Attr)) (s : State) (j : Judged (List Attribute)) → Told target roles defined at (attribute_parts entities xs s) (located s (attributes entities xs)) →
      goes_on (forget (whole there s j))
      (Told target roles defined at (attribute_parts entities xs s) (located s (at_then (judged_at there j) (λ ms. ahead_of (record { at = there; node = ms } ∷ []) (attributes entities xs)))))
      (forget (located s (at_then (judged_at there j) (λ ms. ahead_of (record { at = there; node = ms } ∷ []) (attributes entities xs)))))
  attributes-step at entities there xs s (Ok ms) l =
      subst (Told target roles defined at (attribute_parts entities xs s)) (sym (located-ahead s (record { at = there; node = ms } ∷ []) (attributes entities xs)))
      (last target roles defined at (attribute_parts entities xs s) (located s (attributes entities xs)) _ l (λ ys u. tt))
  attributes-step at entities there xs s (Err rule) l = refl

  pub attributes-told : (at : ℕ) (entities : List Entity) (xs : List (At Attr)) (s : State) → Told target roles defined at (attribute_parts entities xs s) (located s (attributes entities xs))
  attributes-told at entities [] s = tt
  attributes-told at entities (x ∷ xs) s = (
    first target roles defined (OneAttribute entities x) s (own-whole x.at s (attribute_judged entities x.node.words)),
    attributes-step at entities x.at xs s (attribute_judged entities x.node.words) (attributes-told at entities xs s),
  )

  derivations-step : (at : ℕ) (there : ℕ) (b : Option Rule) (t : CType) (d : Derivation Scope) (ps : List (Construct × State)) (r : JudgedAt CType) (s : State) → Told target roles defined at ps (located s r) →
      goes_on (forget (located s (fault_or there b (Ok t)))) (Told target roles defined at ps (located s (fault_or there b (derived_further d r)))) (forget (located s (fault_or there b (derived_further d r))))
  derivations-step at there None t d ps r s l =
      subst (Told target roles defined at ps) (sym (located-further s d r)) (last target roles defined at ps (located s r) _ l (λ t u. tt))
  derivations-step at there (Some rule) t d ps r s l = refl

  pub derivations-told : (at : ℕ) (void : Bool) (base : CType) (ds : List (At (Derivation Scope))) (s : State) →
      Told target roles defined at (derivation_parts void base ds s) (located s (derived target (structures_of s) (layouts_of s) void base ds))
  derivations-told at void base [] s = tt
  derivations-told at void base (d ∷ ds) s = (
    first target roles defined (Derived void (derive base ds) d) s (derived-law target roles defined void (derive base ds) d s),
    derivations-step at d.at (breach target (structures_of s) (layouts_of s) void (derive base ds) d.node) (derive base ds) d.node (derivation_parts false base ds s)
        (derived target (structures_of s) (layouts_of s) false base ds) s (derivations-told at false base ds s),
  )

  -- ---- specifiers

  pub behind-law : (setting : Setting) (specs : Specs) (x : At Spec) (s : State) → First target roles defined (Specifier x) s → Law target roles defined (SpecifierBehind setting specs x) s
  behind-law setting specs x s h =
      last target roles defined x.at ((Specifier x, s) ∷ []) (spec_of target roles x.node x.at s) _ (single target roles defined x.at (Specifier x) s (spec_of target roles x.node x.at s) refl h)
      (λ p t. own-whole x.at t (with_specifier setting x.at p specs))

  abbrev pub HasLaw : At Spec → Type 0
  HasLaw x = (s : State) → First target roles defined (Specifier x) s

  each-behind : (setting : Setting) (xs : List (At Spec)) → Each HasLaw xs → Each (λ (x : At Spec). (specs : Specs) (s : State) → First target roles defined (SpecifierBehind setting specs x) s) xs
  each-behind setting [] h = tt
  each-behind setting (x ∷ xs) h = ((λ specs s. first target roles defined (SpecifierBehind setting specs x) s (behind-law setting specs x s (h.0 s))), each-behind setting xs h.1)

  pub specifiers-law : (setting : Setting) (xs : List (At Spec)) → Each HasLaw xs → (s : State) → Law target roles defined (Specifiers setting xs) s
  specifiers-law setting xs h s =
      last target roles defined (begin xs) (specifiers_parts target roles setting xs s) (in_turn (specifier_found setting) (map (spec_here target roles) xs) no_specifier s) _
      (turns target roles defined (begin xs) (spec_here target roles) (specifier_found setting) (λ x specs. SpecifierBehind setting specs x) (λ x specs s. refl) xs (each-behind setting xs h) no_specifier s)
      (λ specs t. subst (λ (at : ℕ). Own at (forget (whole (begin (map (spec_here target roles) xs)) t (specified specs)))) (begin-map (spec_of target roles) xs)
      (own-whole (begin (map (spec_here target roles) xs)) t (specified specs)))

  pub specifiers-told : (at : ℕ) (setting : Setting) (xs : List (At Spec)) → Each HasLaw xs → (s : State) → Told target roles defined at ((Specifiers setting xs, s) ∷ []) (specified_found setting (map (spec_here target roles) xs) s)
  specifiers-told at setting xs h s =
      single target roles defined at (Specifiers setting xs) s (specified_found setting (map (spec_here target roles) xs) s) refl (first target roles defined (Specifiers setting xs) s (specifiers-law setting xs h s))

  each-specs : (xs : List (At (SomeSpec target roles defined))) → Each HasLaw (map plain xs)
  each-specs [] = tt
  each-specs (x ∷ xs) = ((λ s. first target roles defined (Specifier (plain x)) s (x.node.1 x.at s)), each-specs xs)

  -- specifiers, and what stands behind them
  pub specified-then : {B : Type 0} (at : ℕ) (setting : Setting) (xs : List (At (SomeSpec target roles defined))) (s : State) (next : Specified → State → Found B) (rest : Specified → State → List (Construct × State)) →
      ((base : Specified) (s : State) → Told target roles defined at (rest base s) (next base s)) →
      Told target roles defined at (specifiers_part target roles setting (map plain xs) s rest) (and_then (specified_found setting (map (spec_here target roles) (map plain xs)) s) next)
  specified-then at setting xs s next rest h =
      followed target roles defined at ((Specifiers setting (map plain xs), s) ∷ []) (specified_found setting (map (spec_here target roles) (map plain xs)) s) next rest (specifiers-told at setting (map plain xs) (each-specs xs) s) h

  -- ---- declarators

  declr-told : (at : ℕ) (allowed : Allowed) (d : At (SomeDeclr target roles defined)) (s : State) → Told target roles defined at ((Declaring allowed (plain d), s) ∷ []) (declr_of target roles d.node.0 allowed d.at s)
  declr-told at allowed d s = single target roles defined at (Declaring allowed (plain d)) s (declr_of target roles d.node.0 allowed d.at s) refl (first target roles defined (Declaring allowed (plain d)) s (d.node.1 d.at allowed s))

  pub declr-then : {B : Type 0} (at : ℕ) (allowed : Allowed) (d : At (SomeDeclr target roles defined)) (s : State) (next : Declarator Scope → State → Found B) (rest : Declarator Scope → State → List (Construct × State)) →
      ((x : Declarator Scope) (t : State) → Told target roles defined at (rest x t) (next x t)) →
      Told target roles defined at (declarator_part target roles allowed (plain d) s rest) (and_then (declr_of target roles d.node.0 allowed d.at s) next)
  declr-then at allowed d s next rest h = followed target roles defined at ((Declaring allowed (plain d), s) ∷ []) (declr_of target roles d.node.0 allowed d.at s) next rest (declr-told at allowed d s) h

  suffixed-step : {B : Type 0} (at : ℕ) (j : JudgedAt Checked) (ps : List (Construct × State)) (next : State → Found B) (s : State) → Told target roles defined at ps (next s) →
      goes_on (forget (located s j)) (Told target roles defined at ps (and_then (located s j) (λ done t. next t))) (forget (and_then (located s j) (λ done t. next t)))
  suffixed-step at (Ok done) ps next s l = l
  suffixed-step at (Err broken) ps next s l = refl

  suffixed-then : {B : Type 0} (at : ℕ) (function : Bool) (ds : List (At (Derivation Scope))) (ps : List (Construct × State)) (next : State → Found B) (s : State) → Told target roles defined at ps (next s) →
      Told target roles defined at ((Suffixed function ds, s) ∷ ps) (and_then (located s (suffix_found function ds)) (λ done t. next t))
  suffixed-then at function ds ps next s l =
      (first target roles defined (Suffixed function ds) s (suffixed-law target roles defined function ds s), suffixed-step at (suffix_found function ds) ps next s l)

  bounded-told : (at : ℕ) (allowed : Allowed) (x : Declarator Scope) (n : Option (At (SomeTree target roles defined))) (s : State) →
      Told target roles defined at (bound_parts (option_map plain n) s) (bounded at allowed x (option_map (here target roles) (option_map plain n)) s)
  bounded-told at allowed x None s = own-whole at s (without_bound at allowed x)
  bounded-told at allowed x (Some e) s = value-last target roles defined at e s _ (λ y t. own-whole at t (with_bound at x y))

  parameters-told : (at : ℕ) (unnamed : Bool) (ps : SomeParams target roles defined) (s : State) → Told target roles defined at ((ParameterList unnamed ps.0, s) ∷ []) (params_of target roles ps.0 unnamed s)
  parameters-told at unnamed ps s = single target roles defined at (ParameterList unnamed ps.0) s (params_of target roles ps.0 unnamed s) refl (first target roles defined (ParameterList unnamed ps.0) s (ps.1 unnamed s))

  abbrev DeclrLayer : Type 0
  DeclrLayer = one.Declr-F (SomeDeclr target roles defined) (SomeParams target roles defined) (SomeSpec target roles defined) (SomeTree target roles defined) (SomeEnumr target roles defined) (SomeMembers target roles defined) (SomeParam target roles defined) (SomeTypeName target roles defined)

  declr-layer : (y : DeclrLayer) (at : ℕ) (allowed : Allowed) (s : State) → Told target roles defined at (declaring_parts target roles allowed (bare_declr target roles defined y) s) (declr_in target roles (bare_declr target roles defined y) allowed at s)
  declr-layer one.Nothing at allowed s = tt
  declr-layer (one.Declr::Named x) at allowed s = tt
  declr-layer (one.Declr::Paren d) at allowed s = declr-told at allowed d s
  declr-layer (one.Pointer words d) at allowed s = last target roles defined at ((Declaring allowed (plain d), s) ∷ []) (declr_of target roles d.node.0 allowed d.at s) _ (declr-told at allowed d s) (λ x t. tt)
  declr-layer (one.Array d None) at allowed s =
      declr-then at allowed d s _ _ (λ x s. suffixed-then at false x.derivations [] (bounded at allowed x None) s (bounded-told at allowed x None s))
  declr-layer (one.Array d (Some n)) at allowed s =
      declr-then at allowed d s _ _ (λ x s. suffixed-then at false x.derivations ((ValueOf (plain n), s) ∷ []) (bounded at allowed x (Some (here target roles (plain n)))) s (bounded-told at allowed x (Some n) s))
  declr-layer (one.Func d ps) at allowed s =
      declr-then at allowed d s _ _ (λ x s. suffixed-then at true x.derivations ((ParameterList (allowed.unnamed || not (is_next_to_name x.derivations)) ps.0, s) ∷ []) _ s
      (last target roles defined at ((ParameterList (allowed.unnamed || not (is_next_to_name x.derivations)) ps.0, s) ∷ []) (params_of target roles ps.0 (allowed.unnamed || not (is_next_to_name x.derivations)) s) _
      (parameters-told at (allowed.unnamed || not (is_next_to_name x.derivations)) ps s) (λ q t. tt)))

  pub of-declr : (x : one.Declr-F Declr Params Spec Tree Enumr MemberDecl Param TypeName) (y : DeclrLayer) → bare_declr target roles defined y ≡ x → OfDeclr target roles defined (roll-Declr x)
  of-declr x y h at allowed s =
      subst (λ m. Told target roles defined at (declaring_parts target roles allowed (out-Declr (roll-Declr x)) s) (m allowed at s)) (sym (declr-out target roles (roll-Declr x)))
      (subst (λ o. Told target roles defined at (declaring_parts target roles allowed o s) (declr_in target roles o allowed at s)) (h ∙ sym (out-roll-Declr x)) (declr-layer y at allowed s))

  -- a declarator, and what it derives of this type
  pub declarator-told : (at : ℕ) (allowed : Allowed) (base : CType) (d : At (SomeDeclr target roles defined)) (s : State) →
      Told target roles defined at (declarator_parts target roles allowed base (plain d) s) (and_then (declr_of target roles d.node.0 allowed d.at s) (derived_type target allowed base))
  declarator-told at allowed base d s = declr-then at allowed d s _ _ (λ x s. derivations-told at allowed.void base x.derivations s)

  -- ---- parameters

  bound-own : (unnamed : Bool) (i at : ℕ) (name : Option Name) (t : CType) (s : State) → Own at (forget (parameter_bound roles unnamed i (parameter at name t) s name))
  bound-own unnamed i at None t s = own-whole at s (must unnamed rule.DeclaredTwice (Ok (parameter at None t)))
  bound-own unnamed i at (Some x) t s = own-then at (whole at s (new_name roles x s)) _ (own-whole at s (new_name roles x s)) (λ y u. tt)

  parameter-own : (unnamed : Bool) (before : List Parameter) (at : ℕ) (x : Declarator Scope) (t : CType) (s : State) →
      Own at (forget (and_then (whole at s (parameter_type t)) (λ t s. one_more before (parameter_bound roles unnamed (length before) (parameter at x.name t) s x.name))))
  parameter-own unnamed before at x t s =
      own-then at (whole at s (parameter_type t)) _ (own-whole at s (parameter_type t)) (λ t s.
      own-then at (parameter_bound roles unnamed (length before) (parameter at x.name t) s x.name) _ (bound-own unnamed (length before) at x.name t s) (λ p u. tt))

  pub named-law : (unnamed : Bool) (before : List Parameter) (base : CType) (at : ℕ) (x : Declarator Scope) (s : State) → Law target roles defined (ParameterNamed unnamed before base at x) s
  named-law unnamed before base at x s =
      last target roles defined at (derivation_parts false base x.derivations s) (derived_type target in_parameter base x s) _ (derivations-told at false base x.derivations s) (λ t u. parameter-own unnamed before at x t u)

  abbrev ParamLayer : Type 0
  ParamLayer = one.Param-F (SomeDeclr target roles defined) (SomeParams target roles defined) (SomeSpec target roles defined) (SomeTree target roles defined) (SomeEnumr target roles defined) (SomeMembers target roles defined) (SomeParam target roles defined) (SomeTypeName target roles defined)

  param-layer : (y : ParamLayer) (at : ℕ) (unnamed : Bool) (before : List Parameter) (s : State) →
      Told target roles defined at (parameter_parts target roles unnamed before (bare_param target roles defined y) s) (param_in target roles (bare_param target roles defined y) unnamed before s)
  param-layer y at unnamed before s =
      specified-then at _ y.specs s _ _ (λ base s. declr-then at in_parameter y.declr s _ _ (λ x s.
      single target roles defined at (ParameterNamed unnamed before base.ctype y.declr.at x) s (parameter_declared target roles unnamed before base.ctype y.declr.at x s) refl
      (first target roles defined (ParameterNamed unnamed before base.ctype y.declr.at x) s (named-law unnamed before base.ctype y.declr.at x s))))

  pub of-param : (x : one.Param-F Declr Params Spec Tree Enumr MemberDecl Param TypeName) (y : ParamLayer) → bare_param target roles defined y ≡ x → OfParam target roles defined (roll-Param x)
  of-param x y h at unnamed before s =
      subst (λ m. Told target roles defined at (parameter_parts target roles unnamed before (out-Param (roll-Param x)) s) (m unnamed before s)) (sym (param-out target roles (roll-Param x)))
      (subst (λ o. Told target roles defined at (parameter_parts target roles unnamed before o s) (param_in target roles o unnamed before s)) (h ∙ sym (out-roll-Param x)) (param-layer y at unnamed before s))

  each-params : (unnamed : Bool) (ps : List (At (SomeParam target roles defined))) → Each (λ (p : At Param). (before : List Parameter) (s : State) → First target roles defined (ParameterBehind unnamed before p) s) (map plain ps)
  each-params unnamed [] = tt
  each-params unnamed (p ∷ ps) = ((λ before s. first target roles defined (ParameterBehind unnamed before (plain p)) s (p.node.1 p.at unnamed before s)), each-params unnamed ps)

  abbrev ParamsLayer : Type 0
  ParamsLayer = one.Params-F (SomeDeclr target roles defined) (SomeParams target roles defined) (SomeSpec target roles defined) (SomeTree target roles defined) (SomeEnumr target roles defined) (SomeMembers target roles defined) (SomeParam target roles defined) (SomeTypeName target roles defined)

  params-layer : (y : ParamsLayer) (at : ℕ) (unnamed : Bool) (s : State) → Told target roles defined at (list_parts target roles unnamed (bare_params target roles defined y) s) (params_in target roles (bare_params target roles defined y) unnamed s)
  params-layer one.Empty at unnamed s = tt
  params-layer one.Void at unnamed s = tt
  params-layer (one.Many ps) at unnamed s =
      last target roles defined at (list_parts target roles unnamed (one.Many (map plain ps)) s) (parameters_found unnamed (map (param_here target roles) (map plain ps)) (entered empty s)) _
      (turns target roles defined at (param_here target roles) (λ p before s. p.node unnamed before s) (λ p before. ParameterBehind unnamed before p) (λ p before s. refl) (map plain ps) (each-params unnamed ps) [] (entered empty s))
      (λ qs t. tt)

  pub of-params : (x : one.Params-F Declr Params Spec Tree Enumr MemberDecl Param TypeName) (y : ParamsLayer) → bare_params target roles defined y ≡ x → OfParams target roles defined (roll-Params x)
  of-params x y h unnamed s =
      subst (λ m. Told target roles defined (parameters_begin (out-Params (roll-Params x))) (list_parts target roles unnamed (out-Params (roll-Params x)) s) (m unnamed s)) (sym (params-out target roles (roll-Params x)))
      (subst (λ o. Told target roles defined (parameters_begin (out-Params (roll-Params x))) (list_parts target roles unnamed o s) (params_in target roles o unnamed s)) (h ∙ sym (out-roll-Params x))
      (params-layer y (parameters_begin (out-Params (roll-Params x))) unnamed s))

  -- ---- type names

  abbrev TypeNameLayer : Type 0
  TypeNameLayer = one.TypeName-F (SomeDeclr target roles defined) (SomeParams target roles defined) (SomeSpec target roles defined) (SomeTree target roles defined) (SomeEnumr target roles defined) (SomeMembers target roles defined) (SomeParam target roles defined) (SomeTypeName target roles defined)

  type_name-layer : (y : TypeNameLayer) (at : ℕ) (cast : Bool) (s : State) → Told target roles defined at (type_name_parts target roles cast (bare_type_name target roles defined y) s) (type_name_in target roles (bare_type_name target roles defined y) cast s)
  type_name-layer y at cast s = specified-then at _ y.specs s _ _ (λ base s. declarator-told at _ base.ctype y.declr s)

  pub of-type_name : (x : one.TypeName-F Declr Params Spec Tree Enumr MemberDecl Param TypeName) (y : TypeNameLayer) → bare_type_name target roles defined y ≡ x → OfTypeName target roles defined (roll-TypeName x)
  of-type_name x y h cast s =
      subst (λ m. Told target roles defined (begin (out-TypeName (roll-TypeName x)).specs) (type_name_parts target roles cast (out-TypeName (roll-TypeName x)) s) (m cast s)) (sym (type_name-out target roles (roll-TypeName x)))
      (subst (λ o. Told target roles defined (begin (out-TypeName (roll-TypeName x)).specs) (type_name_parts target roles cast o s) (type_name_in target roles o cast s)) (h ∙ sym (out-roll-TypeName x))
      (type_name-layer y (begin (out-TypeName (roll-TypeName x)).specs) cast s))
