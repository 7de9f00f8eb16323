-- Parameters that are declared one behind another: what their scope designates.
use Rattle.std.proofs.Common.{◌≡◌, inl, inr, ℕ, Bool, true, false, List, [], ◌∷◌, ◌++◌, map, length, Option, Some, None, Ok, refl, ap, sym, ◌∙◌, subst}
use Rattle.std.specs.Prelude.{is_some}
use Rattle.std.proofs.lemmas.List.Folds.{list_all-append}
use Rattle.cc_type.specs.CcTypedTerms.Declarators.{derived_type}
use Rattle.cc_type.specs.CcTypedTerms.Names.{new_name}
use Rattle.cc_type.specs.CcTypedTerms.Parameters.{parameter, parameter_bound}
use Rattle.cc_operand_types.proofs.Operands.{must_ok, ok_is}
use Rattle.cc_type.specs.CcSyntax.Views.{View}
use Rattle.cc_type.specs.CcOperands.Verdicts.{must}
use Rattle.cc_type.specs.CcOperands.declared.rule.Rule.TheVariants as rule
use Rattle.cc_program.specs.declared.program.Roles.{Roles}
use Rattle.cc_program.specs.declared.types.CType.{CType}
use Rattle.cc_read_sound.proofs.Rolled.{each-mapped, param-is}
use Rattle.cc_read_sound.specs.Ranges.{each_fits}
use Rattle.cc_type.specs.CcScopes.State.{State, Name, Scope, empty, entered, left, bind, find_name, innermost, structures_of, layouts_of}
use Rattle.cc_type.specs.CcScopes.Verdicts.{whole, and_then}
use Rattle.cc_type.specs.CcScopes.declared.designated.Designated.{Designated}
use Rattle.cc_type.specs.CcScopes.declared.designated.Designated.TheVariants as means
use Rattle.cc_type.specs.CcScopes.declared.designated.Tagged.{Tagged}
use Rattle.cc_sound_terms.proofs.Cycle.{declr_holds}
use Rattle.cc_sound_terms.proofs.Founds.{answer, answer_is, then_found, whole_found, located_found}
use Rattle.cc_sound_terms.proofs.Growth.{bind_grows, get_front, get_last, tag_through}
use Rattle.cc_sound_terms.proofs.Laws.{specifiers_stand}
use Rattle.cc_sound_terms.specs.Growing.{Kept, IsTag, StructuresKept, Grows, IsConstant}
use Rattle.cc_sound_terms.specs.Ranges.{declr_in_range, spec_in_range, param_in_range}
use Rattle.cc_type.specs.CcSpecifiers.Derivations.{in_parameter}
use Rattle.cc_type.specs.CcSpecifiers.Declarators.{type_found}
use Rattle.cc_type.specs.CcSpecifiers.Parameters.{parameter_type}
use Rattle.cc_type.specs.CcSpecifiers.Storage.{setting}
use Rattle.cc_type.specs.CcSpecifiers.declared.attribute.Entity.TheVariants as entity
use Rattle.cc_type.specs.CcSpecifiers.declared.derivation.Declarator.{Declarator}
use Rattle.cc_type.specs.CcSpecifiers.declared.derivation.Parameter.{Parameter}
use Rattle.cc_type.specs.CcSpecifiers.declared.storage.Where.TheVariants as stands
use Rattle.cc_type.proofs.CcSyntax.Prefixes.{both_true}
use Rattle.cc_type.proofs.CcSyntax.SameLemmas.{and_true}
use Rattle.cc_type.specs.CcTerms.Constants.{enumr_step}
use Rattle.cc_type.specs.CcTerms.Declarators.{declarator, declr_step, params_step, param_step, type_name_step, parameters_found, parameter_declared, with_scope}
use Rattle.cc_type.specs.CcTerms.Expressions.{tree_step}
use Rattle.cc_type.specs.CcTerms.InTurn.{in_turn, one_more}
use Rattle.cc_type.specs.CcTerms.Meanings.{TreeMeaning, DeclrMeaning, ParamsMeaning, ParamMeaning, SpecMeaning, MembersMeaning, EnumrMeaning, TypeNameMeaning}
use Rattle.cc_type.specs.CcTerms.Members.{members_step}
use Rattle.cc_type.specs.CcTerms.Specifiers.{spec_step, specified_found}
use Rattle.cc_type.specs.CcTerms.Terms.{tree_of, declr_of, params_of, param_of, spec_of, members_of, enumr_of, type_name_of, declr_here, param_here, spec_here}
use Rattle.cc_tree.specs.declared.at.At.{At}
use Rattle.cc_tree.specs.declared.tree.Declr.{Declr}
use Rattle.cc_tree.specs.declared.tree.Param.{Param, fold-roll-Param}
use Rattle.cc_tree.specs.declared.tree.Spec.{Spec}
use Rattle.cc_read_sound.specs.Scopes.{have_names, IsParameterIn, IsParameterScope}

some_is : {A : Type 0} (a b : A) → Some a ≡ Some b → a ≡ b
some_is a b h = cc

module _ (v : View) (roles : Roles) where
  -- the innermost scope is that of these parameters
  abbrev pub ScopeOf : List Parameter → State → Type 0
  ScopeOf ps s = IsParameterScope v.target ps (innermost s.scopes) s

  further : (ps more : List Parameter) (d : Designated) → IsParameterIn v.target ps d → IsParameterIn v.target (ps ++ more) d
  further ps more (means.Automatic n t) h = (h.0, get_front ps more n h.0 h.1, h.2)
  further ps more (means.Enumerator n) h = h
  further ps more (means.Linked i) h = elim h [ ]
  further ps more (means.TypeNamed t) h = elim h [ ]

  constant_in : (ps : List Parameter) (d : Designated) → IsConstant v.target d → IsParameterIn v.target ps d
  constant_in ps (means.Enumerator n) h = h
  constant_in ps (means.Automatic n t) h = elim h [ ]
  constant_in ps (means.Linked i) h = elim h [ ]
  constant_in ps (means.TypeNamed t) h = elim h [ ]

  -- what is new in the scope is a parameter, or an enumeration constant
  names_by : (New : Designated → Type 0) (before ps : List Parameter) → ((d : Designated) → IsParameterIn v.target before d → IsParameterIn v.target ps d) → ((d : Designated) → New d → IsParameterIn v.target ps d) →
      (a b : Option Designated) → ((d : Designated) → a ≡ Some d → IsParameterIn v.target before d) → Kept New a b → (d : Designated) → b ≡ Some d → IsParameterIn v.target ps d
  names_by New before ps old new a b h (inl e) d f = old d (h d (sym e ∙ f))
  names_by New before ps old new a b h (inr n) d f = subst (IsParameterIn v.target ps) (some_is n.0 d (sym n.1 ∙ f)) (new n.0 n.2)

  tags_by : (s t : State) → StructuresKept s.structures t.structures → (a b : Option Tagged) → ((u : Tagged) → a ≡ Some u → IsTag s.structures u) → Kept (IsTag t.structures) a b → (u : Tagged) → b ≡ Some u → IsTag t.structures u
  tags_by s t k a b h (inl e) u f = tag_through s.structures t.structures u k (h u (sym e ∙ f))
  tags_by s t k a b h (inr n) u f = subst (IsTag t.structures) (some_is n.0 u (sym n.1 ∙ f)) n.2

  scope_grown : (New : Designated → Type 0) (before ps : List Parameter) → ((d : Designated) → IsParameterIn v.target before d → IsParameterIn v.target ps d) → ((d : Designated) → New d → IsParameterIn v.target ps d) →
      (s t : State) → Grows New s t → ScopeOf before s → ScopeOf ps t
  scope_grown New before ps old new s t g h = record {
    names = λ x d f. names_by New before ps old new (find_name x (innermost s.scopes).names) (find_name x (innermost t.scopes).names) (h.names x) (g.here x) d f;
    tags = λ x u f. tags_by s t g.structures (find_name x (innermost s.scopes).tags) (find_name x (innermost t.scopes).tags) (h.tags x) (g.tags x) u f;
  }

  scope_kept : (ps : List Parameter) (s t : State) → Grows (IsConstant v.target) s t → ScopeOf ps s → ScopeOf ps t
  scope_kept ps s t g h = scope_grown (IsConstant v.target) ps ps (λ d k. k) (constant_in ps) s t g h

  is_parameter : (before : List Parameter) (p : Parameter) (d : Designated) → d ≡ means.Automatic (length before) p.ctype → IsParameterIn v.target (before ++ p ∷ []) d
  is_parameter before p d e = subst (IsParameterIn v.target (before ++ p ∷ [])) (sym e) (p, get_last before p, refl)

  scope_bound : (before : List Parameter) (x : Name) (p : Parameter) (s : State) → ScopeOf before s → ScopeOf (before ++ p ∷ []) (bind x (means.Automatic (length before) p.ctype) s)
  scope_bound before x p s h =
      scope_grown (λ d. d ≡ means.Automatic (length before) p.ctype) before (before ++ p ∷ []) (further before (p ∷ [])) (is_parameter before p) s (bind x (means.Automatic (length before) p.ctype) s)
      (bind_grows (λ d. d ≡ means.Automatic (length before) p.ctype) x (means.Automatic (length before) p.ctype) s refl) h

  scope_further : (before : List Parameter) (p : Parameter) (s : State) → ScopeOf before s → ScopeOf (before ++ p ∷ []) s
  scope_further before p s h = record { names = λ x d f. further before (p ∷ []) d (h.names x d f); tags = h.tags }

  true_false : {A : Type 0} (b : Bool) → b ≡ true → b ≡ false → A
  true_false b h k = absurd (cc)

  -- ---- one parameter more

  bound : (unnamed : Bool) (before : List Parameter) (p : Parameter) (s : State) (x : Option Name) (r : Parameter × State) → parameter_bound roles unnamed (length before) p s x ≡ Ok r → ScopeOf before s →
      ScopeOf (before ++ r.0 ∷ []) r.1 × (r.0 ≡ p) × (unnamed ≡ false → is_some x ≡ true)
  bound unnamed before p s None r h k =
      let e = whole_found p.at s (must unnamed rule.DeclaredTwice (Ok p)) r h in
      let m = must_ok unnamed rule.DeclaredTwice (Ok p) r.0 e.0 in
      (subst (λ (t : State). ScopeOf (before ++ r.0 ∷ []) t) (sym e.1) (scope_further before r.0 s k), sym (ok_is m.1), λ f. true_false unnamed m.0 f)
  bound unnamed before p s (Some x) r h k =
      let a = then_found (whole p.at s (new_name roles x s)) (λ x s. Ok (p, bind x (means.Automatic (length before) p.ctype) s)) r h in
      let b = whole_found p.at s (new_name roles x s) a.0 a.1 in
      let e = answer_is p (bind a.0.0 (means.Automatic (length before) p.ctype) a.0.1) r a.2 in
      let moved : bind a.0.0 (means.Automatic (length before) p.ctype) s ≡ r.1 = ap (bind a.0.0 (means.Automatic (length before) p.ctype)) (sym b.1) ∙ sym e.1 in
      (subst (λ (q : Parameter). ScopeOf (before ++ q ∷ []) r.1) (sym e.0) (subst (λ (t : State). ScopeOf (before ++ p ∷ []) t) moved (scope_bound before a.0.0 p s k)), e.0, λ f. refl)

  named_more : (before : List Parameter) (p : Parameter) → have_names before ≡ true → is_some p.name ≡ true → have_names (before ++ p ∷ []) ≡ true
  named_more before p h k =
      list_all-append (λ (q : Parameter). is_some q.name) before (p ∷ []) ∙ and_true (have_names before) (have_names (p ∷ [])) h (and_true (is_some p.name) true k refl)

  -- what is known of parameters: their scope, and that each has a name where it has to
  pub record Declared (unnamed : Bool) (ps : List Parameter) (s : State) : Type 0 where
    pub scope : ScopeOf ps s
    pub named : unnamed ≡ false → have_names ps ≡ true

  more_declared : (unnamed : Bool) (before : List Parameter) (base : CType) (at : ℕ) (x : Declarator Scope) (s : State) (r : List Parameter × State) → parameter_declared v.target roles unnamed before base at x s ≡ Ok r →
      Declared unnamed before s → Declared unnamed r.0 r.1
  more_declared unnamed before base at x s r h k =
      let a = then_found (derived_type v.target in_parameter base x s) (λ t s. and_then (whole at s (parameter_type t)) (λ t s. one_more before (parameter_bound roles unnamed (length before) (parameter at x.name t) s x.name))) r h in
      let b = then_found (whole at a.0.1 (parameter_type a.0.0)) (λ t s. one_more before (parameter_bound roles unnamed (length before) (parameter at x.name t) s x.name)) r a.2 in
      let c = then_found (parameter_bound roles unnamed (length before) (parameter at x.name b.0.0) b.0.1 x.name) (λ p s. Ok (before ++ p ∷ [], s)) r b.2 in
      let e = answer_is (before ++ c.0.0 ∷ []) c.0.1 r c.2 in
      let f = located_found s (type_found v.target (structures_of s) (layouts_of s) in_parameter base x.derivations) a.0 a.1 in
      let g = whole_found at a.0.1 (parameter_type a.0.0) b.0 b.1 in
      let same : b.0.1 ≡ s = g.1 ∙ f.1 in
      let o = bound unnamed before (parameter at x.name b.0.0) b.0.1 x.name c.0 c.1 (subst (λ (t : State). ScopeOf before t) (sym same) k.scope) in
      record {
        scope = subst (λ (t : State). ScopeOf r.0 t) (sym e.1) (subst (λ (ps : List Parameter). ScopeOf ps c.0.1) (sym e.0) o.0);
        named = λ q. ap have_names e.0 ∙ named_more before c.0.0 (k.named q) (ap (λ (p : Parameter). is_some p.name) o.1 ∙ o.2 q);
      }

  declared_kept : (unnamed : Bool) (ps : List Parameter) (s t : State) → Grows (IsConstant v.target) s t → Declared unnamed ps s → Declared unnamed ps t
  declared_kept unnamed ps s t g k = record { scope = scope_kept ps s t g k.scope; named = k.named }

  param-means : (specs : List (At Spec)) (d : At Declr) → param_of v.target roles (record { specs = specs; declr = d }) ≡ (λ unnamed before s.
      and_then (specified_found (setting stands.AsParameter entity.Parameter) (map (spec_here v.target roles) specs) s) (λ base s.
      declarator in_parameter (declr_here v.target roles d) s (λ x s. parameter_declared v.target roles unnamed before base.ctype d.at x s)))
  unfolding declr_of params_of spec_of tree_of enumr_of members_of param_of type_name_of
  param-means specs d = fold-roll-Param DeclrMeaning ParamsMeaning SpecMeaning TreeMeaning EnumrMeaning MembersMeaning ParamMeaning TypeNameMeaning declr_step params_step (spec_step v.target) (tree_step v.target roles) (enumr_step v.target roles) (members_step v.target) (param_step v.target roles) (type_name_step v.target) (record { specs = specs; declr = d })

  one_found : (specs : List (At Spec)) (d : At Declr) → each_fits spec_in_range specs ≡ true → declr_in_range d.node ≡ true → (unnamed : Bool) (before : List Parameter) (s : State) (r : List Parameter × State) →
      and_then (specified_found (setting stands.AsParameter entity.Parameter) (map (spec_here v.target roles) specs) s) (λ base s.
      declarator in_parameter (declr_here v.target roles d) s (λ x s. parameter_declared v.target roles unnamed before base.ctype d.at x s)) ≡ Ok r → Declared unnamed before s → Declared unnamed r.0 r.1
  one_found specs d q m unnamed before s r h k =
      let a = then_found (specified_found (setting stands.AsParameter entity.Parameter) (map (spec_here v.target roles) specs) s) (λ base s.
      declarator in_parameter (declr_here v.target roles d) s (λ x s. parameter_declared v.target roles unnamed before base.ctype d.at x s)) r h in
      let b = then_found (declr_of v.target roles d.node in_parameter d.at a.0.1) (λ x s. parameter_declared v.target roles unnamed before a.0.0.ctype d.at x s) r a.2 in
      let e = specifiers_stand v roles (setting stands.AsParameter entity.Parameter) specs (each-mapped spec_in_range specs ∙ q) s a.0 a.1 in
      let f = declr_holds v [] roles d.node m in_parameter d.at a.0.1 b.0 b.1 in
      more_declared unnamed before a.0.0.ctype d.at b.0.0 b.0.1 r b.2 (declared_kept unnamed before a.0.1 b.0.1 f.grows.grows (declared_kept unnamed before s a.0.1 e.grows.grows k))

  one_declared : (p : Param) → param_in_range p ≡ true → (unnamed : Bool) (before : List Parameter) (s : State) (r : List Parameter × State) → param_of v.target roles p unnamed before s ≡ Ok r →
      Declared unnamed before s → Declared unnamed r.0 r.1
  one_declared p q unnamed before s r h k =
      let c = both_true (each_fits spec_in_range p.specs) (declr_in_range p.declr.node) (sym (param-is p.specs p.declr) ∙ q) in
      one_found p.specs p.declr c.0 c.1 unnamed before s r (sym (ap (λ (m : ParamMeaning). m unnamed before s) (param-means p.specs p.declr)) ∙ h) k

  all_declared : (ps : List (At Param)) → each_fits param_in_range ps ≡ true → (unnamed : Bool) (before : List Parameter) (s : State) (r : List Parameter × State) →
      in_turn (λ (p : At ParamMeaning) before s. p.node unnamed before s) (map (param_here v.target roles) ps) before s ≡ Ok r → Declared unnamed before s → Declared unnamed r.0 r.1
  all_declared [] q unnamed before s r h k =
      let e = answer_is before s r h in subst (λ (t : State). Declared unnamed r.0 t) (sym e.1) (subst (λ (ps : List Parameter). Declared unnamed ps s) (sym e.0) k)
  all_declared (p ∷ ps) q unnamed before s r h k =
      let c = both_true (param_in_range p.node) (each_fits param_in_range ps) q in
      let a = then_found (param_of v.target roles p.node unnamed before s) (in_turn (λ (p : At ParamMeaning) before s. p.node unnamed before s) (map (param_here v.target roles) ps)) r h in
      all_declared ps c.1 unnamed a.0.0 a.0.1 r a.2 (one_declared p.node c.0 unnamed before s a.0 a.1 k)

  nothing_declared : (unnamed : Bool) (s : State) → Declared unnamed [] (entered empty s)
  nothing_declared unnamed s = record { scope = record { names = λ x d f. absurd (cc); tags = λ x t f. absurd (cc) }; named = λ q. refl }

  -- what a list of parameters leaves: their scope, which has ended
  pub record Listed (unnamed : Bool) (p : List Parameter × Scope) (s : State) : Type 0 where
    pub scope : IsParameterScope v.target p.0 p.1 s
    pub named : unnamed ≡ false → have_names p.0 ≡ true

  pub listed : (ps : List (At Param)) → each_fits param_in_range ps ≡ true → (unnamed : Bool) (s : State) (r : (List Parameter × Scope) × State) →
      with_scope (parameters_found unnamed (map (param_here v.target roles) ps) (entered empty s)) ≡ Ok r → Listed unnamed r.0 r.1
  listed ps q unnamed s r h =
      let a = then_found (parameters_found unnamed (map (param_here v.target roles) ps) (entered empty s)) (λ ps s. Ok ((ps, innermost s.scopes), left s)) r h in
      let e = answer_is (a.0.0, innermost a.0.1.scopes) (left a.0.1) r a.2 in
      let k = all_declared ps q unnamed [] (entered empty s) a.0 a.1 (nothing_declared unnamed s) in
      let made : Listed unnamed (a.0.0, innermost a.0.1.scopes) (left a.0.1) = record { scope = record { names = k.scope.names; tags = k.scope.tags }; named = k.named } in
      subst (λ (t : State). Listed unnamed r.0 t) (sym e.1) (subst (λ (p : List Parameter × Scope). Listed unnamed p (left a.0.1)) (sym e.0) made)

  pub unlisted : (unnamed : Bool) (s : State) (r : (List Parameter × Scope) × State) → answer ([], empty) s ≡ Ok r → Listed unnamed r.0 r.1
  unlisted unnamed s r h =
      let e = answer_is ([], empty) s r h in
      let made : Listed unnamed ([], empty) s = record { scope = record { names = λ x d f. absurd (cc); tags = λ x t f. absurd (cc) }; named = λ q. refl } in
      subst (λ (t : State). Listed unnamed r.0 t) (sym e.1) (subst (λ (p : List Parameter × Scope). Listed unnamed p s) (sym e.0) made)
