-- Declarators, parameters, members and type names declare no device without a name (C99 6.7.5, 6.7.5.3, 6.7.2.1, 6.7.6).
use Rattle.std.proofs.Common.{◌≡◌, ℕ, ℤ, Bool, true, false, not, ◌||◌, List, [], ◌∷◌, ◌++◌, length, Option, Some, None, Ok, refl}
use Rattle.cc_program.specs.CcNum.declared.target.Target.{Target}
use Rattle.cc_terms.specs.CcOperands.Operands.{constancy}
use Rattle.cc_terms.specs.CcOperands.Verdicts.{must}
use Rattle.cc_terms.specs.CcOperands.declared.rule.Rule.TheVariants as rule
use Rattle.cc_program.proofs.Each.{Each, Held}
use Rattle.cc_program.specs.declared.program.Roles.{Roles}
use Rattle.cc_program.specs.declared.types.CType.{CType}
use Rattle.cc_terms.specs.CcScopes.State.{State, Name, Scope, empty, innermost, entered, left, bind, structures_of, layouts_of}
use Rattle.cc_terms.specs.CcScopes.Verdicts.{whole, and_then}
use Rattle.cc_terms.specs.CcScopes.declared.designated.Designated.TheVariants as means
use Rattle.cc_terms.specs.CcSpecifiers.Bounds.{bound_in, bound_judged}
use Rattle.cc_terms.specs.CcSpecifiers.Declarators.{type_found}
use Rattle.cc_terms.specs.CcSpecifiers.Derivations.{nothing_more, in_parameter, in_type_name, with_derivation, is_next_to_name, suffix_found}
use Rattle.cc_terms.specs.CcSpecifiers.Parameters.{parameter_type}
use Rattle.cc_terms.specs.CcSpecifiers.Storage.{setting}
use Rattle.cc_terms.specs.CcSpecifiers.declared.attribute.Entity.TheVariants as entity
use Rattle.cc_terms.specs.CcSpecifiers.declared.derivation.Allowed.{Allowed}
use Rattle.cc_terms.specs.CcSpecifiers.declared.derivation.Declarator.{Declarator}
use Rattle.cc_terms.specs.CcSpecifiers.declared.derivation.Derivation.TheVariants as to
use Rattle.cc_terms.specs.CcSpecifiers.declared.derivation.Parameter.{Parameter}
use Rattle.cc_terms.specs.CcSpecifiers.declared.storage.Where.TheVariants as stands
use Rattle.cc_terms.specs.CcSyntax.Folding.{Constant, NoConstant, Value, Traps}
use Rattle.cc_terms.specs.CcSyntax.Types.{Named}
use Rattle.cc_terms.specs.Declarators.{declarator, without_bound, with_bound, bounded, parameters_found, with_scope, parameter_declared}
use Rattle.cc_terms.specs.InTurn.{one_more}
use Rattle.cc_terms.specs.Meanings.{TreeMeaning, DeclrMeaning, ParamsMeaning, ParamMeaning, SpecMeaning, TypeNameMeaning}
use Rattle.cc_terms.specs.Members.{member_found, declared_members}
use Rattle.cc_terms.specs.Specifiers.{specified_found}
use Rattle.cc_terms.specs.Structures.{member_behind}
use Rattle.cc_tree.specs.declared.at.At.{At}
use Rattle.cc_terms.specs.CcTypedTerms.Declarators.{derived_type}
use Rattle.cc_terms.specs.CcTypedTerms.Located.{located}
use Rattle.cc_terms.specs.CcTypedTerms.Members.{member_judged}
use Rattle.cc_terms.specs.CcTypedTerms.Names.{new_name}
use Rattle.cc_terms.specs.CcTypedTerms.Parameters.{parameter, parameter_bound}
use Rattle.cc_terms.specs.CcTypedTerms.Values.{value_found}
use Rattle.cc_accessed_terms.proofs.Accounts.{Nothing, declares_itself, nothing_through, chained, answered, judged, placed, in_turn_nothing}
use Rattle.cc_accessed_terms.proofs.Founds.{answer, then_found, whole_found, then_judged}
use Rattle.cc_accessed_terms.proofs.Specifiers.{SpecDeclares, MembersDeclare, specified_declares}
use Rattle.cc_accessed_terms.proofs.Values.{TreeAccounts, constant_nothing}

abbrev pub DeclrDeclares : DeclrMeaning → Type 0
DeclrDeclares m = (allowed : Allowed) (at : ℕ) (s : State) (r : Declarator Scope × State) → m allowed at s ≡ Ok r → Nothing s r.1

abbrev pub ParamsDeclare : ParamsMeaning → Type 0
ParamsDeclare m = (unnamed : Bool) (s : State) (r : (List Parameter × Scope) × State) → m unnamed s ≡ Ok r → Nothing s r.1

abbrev pub ParamDeclares : ParamMeaning → Type 0
ParamDeclares m = (unnamed : Bool) (front : List Parameter) (s : State) (r : List Parameter × State) → m unnamed front s ≡ Ok r → Nothing s r.1

abbrev pub TypeNameDeclares : TypeNameMeaning → Type 0
TypeNameDeclares m = (cast : Bool) (s : State) (r : CType × State) → m cast s ≡ Ok r → Nothing s r.1

abbrev pub AreSpecs : List (At SpecMeaning) → Type 0
AreSpecs specs = Each (λ (x : At SpecMeaning). SpecDeclares x.node) specs

-- ---- declarators

pub name_declares : (x : Option Name) → DeclrDeclares (λ allowed at s. answer (record { name = x; derivations = [] }) s)
name_declares x allowed at s r h = answered (record { name = x; derivations = [] }) s s r refl h

pub more_declares : (d : At DeclrMeaning) (more : ℕ → Declarator Scope → Declarator Scope) → DeclrDeclares d.node → DeclrDeclares (λ allowed at s. declarator allowed d s (λ d s. answer (more at d) s))
more_declares d more hd allowed at s r h = chained (d.node allowed d.at s) (λ d s. answer (more at d) s) s r (λ x f. hd allowed d.at s x f) (λ x f. answered (more at x.0) x.1 x.1 r refl f) h

-- a bound that is given is a constant
bound_is : (c : Constant) (n : ℕ) → bound_in c ≡ Ok n → (m : ℤ) × (c ≡ Value m)
bound_is NoConstant n h = absurd (cc)
bound_is Traps n h = absurd (cc)
bound_is (Value m) n h = (m, refl)

bound_declares : (at : ℕ) (allowed : Allowed) (d : Declarator Scope) (e : Option (At TreeMeaning)) → Held (λ (n : At TreeMeaning). TreeAccounts n.node) e →
    (s : State) (r : Declarator Scope × State) → bounded at allowed d e s ≡ Ok r → Nothing s r.1
bound_declares at allowed d None he s r h = judged at s (without_bound at allowed d) r h
bound_declares at allowed d (Some e) he s r h =
    let x = then_found (value_found e s) (λ x s. whole at s (with_bound at d x)) r h in
    let o = then_judged (bound_judged x.0.0) (λ n. Ok (with_derivation at (to.Array (Some n)) d)) r.0 (whole_found at x.0.1 (with_bound at d x.0.0) r x.2).0 in
    let n = bound_is (constancy x.0.0) o.0 o.1 in
    nothing_through s x.0.1 r.1 (constant_nothing e he s x.0 n.0 x.1 n.1) (judged at x.0.1 (with_bound at d x.0.0) r x.2)

pub array_declares : (d : At DeclrMeaning) (e : Option (At TreeMeaning)) → DeclrDeclares d.node → Held (λ (n : At TreeMeaning). TreeAccounts n.node) e →
    DeclrDeclares (λ allowed at s. declarator allowed d s (λ d s. and_then (located s (suffix_found false d.derivations)) (λ done s. bounded at allowed d e s)))
array_declares d e hd he allowed at s r h =
    chained (d.node allowed d.at s) (λ d s. and_then (located s (suffix_found false d.derivations)) (λ done s. bounded at allowed d e s)) s r (λ x f. hd allowed d.at s x f)
    (λ x f. chained (located x.1 (suffix_found false x.0.derivations)) (λ done s. bounded at allowed x.0 e s) x.1 r (λ y g. placed x.1 (suffix_found false x.0.derivations) y g)
    (λ y g. bound_declares at allowed x.0 e he y.1 r g) f) h

pub function_declares : (d : At DeclrMeaning) (ps : ParamsMeaning) → DeclrDeclares d.node → ParamsDeclare ps →
    DeclrDeclares (λ allowed at s. declarator allowed d s (λ d s. and_then (located s (suffix_found true d.derivations)) (λ done s.
    and_then (ps (allowed.unnamed || not (is_next_to_name d.derivations)) s) (λ ps s. Ok (with_derivation at (to.Function ps.0 ps.1) d, s)))))
function_declares d ps hd hp allowed at s r h =
    chained (d.node allowed d.at s)
    (λ d s. and_then (located s (suffix_found true d.derivations)) (λ done s. and_then (ps (allowed.unnamed || not (is_next_to_name d.derivations)) s) (λ ps s. Ok (with_derivation at (to.Function ps.0 ps.1) d, s)))) s r
    (λ x f. hd allowed d.at s x f)
    (λ x f.
    let unnamed = allowed.unnamed || not (is_next_to_name x.0.derivations) in
    chained (located x.1 (suffix_found true x.0.derivations)) (λ done s. and_then (ps unnamed s) (λ ps s. Ok (with_derivation at (to.Function ps.0 ps.1) x.0, s))) x.1 r
    (λ y g. placed x.1 (suffix_found true x.0.derivations) y g)
    (λ y g. chained (ps unnamed y.1) (λ ps s. answer (with_derivation at (to.Function ps.0 ps.1) x.0) s) y.1 r (λ z e. hp unnamed y.1 z e)
    (λ z e. answered (with_derivation at (to.Function z.0.0 z.0.1) x.0) z.1 z.1 r refl e) g) f) h

-- ---- parameters

pub empty_declares : ParamsDeclare (λ unnamed s. Ok (([], empty), s))
empty_declares unnamed s r h = answered ([], empty) s s r refl h

pub many_declare : (ps : List (At ParamMeaning)) → Each (λ (p : At ParamMeaning). ParamDeclares p.node) ps → ParamsDeclare (λ unnamed s. with_scope (parameters_found unnamed ps (entered empty s)))
many_declare ps g unnamed s r h =
    let inside = entered empty s in
    nothing_through s inside r.1 (declares_itself (λ i. false) s inside refl)
    (chained (parameters_found unnamed ps inside) (λ ps s. answer (ps, innermost s.scopes) (left s)) inside r
    (λ x f. in_turn_nothing (λ (p : At ParamMeaning) front s. p.node unnamed front s) (λ (p : At ParamMeaning). ParamDeclares p.node) (λ p k front s r e. k unnamed front s r e) ps g [] inside x f)
    (λ x f. answered (x.0, innermost x.1.scopes) x.1 (left x.1) r refl f) h)

module _ (target : Target) where
  derived_declares : (allowed : Allowed) (base : CType) (d : Declarator Scope) (s : State) (r : CType × State) → derived_type target allowed base d s ≡ Ok r → Nothing s r.1
  derived_declares allowed base d s r h = placed s (type_found target (structures_of s) (layouts_of s) allowed base d.derivations) r h

  module _ (roles : Roles) where
    bound_name_declares : (unnamed : Bool) (i : ℕ) (p : Parameter) (s : State) (o : Option Name) (r : Parameter × State) → parameter_bound roles unnamed i p s o ≡ Ok r → Nothing s r.1
    bound_name_declares unnamed i p s None r h = judged p.at s (must unnamed rule.DeclaredTwice (Ok p)) r h
    bound_name_declares unnamed i p s (Some x) r h =
        chained (whole p.at s (new_name roles x s)) (λ x s. answer p (bind x (means.Automatic i p.ctype) s)) s r (λ y f. judged p.at s (new_name roles x s) y f)
        (λ y f. answered p y.1 (bind y.0 (means.Automatic i p.ctype) y.1) r refl f) h

    parameter_declares : (unnamed : Bool) (front : List Parameter) (base : CType) (at : ℕ) (x : Declarator Scope) (s : State) (r : List Parameter × State) → parameter_declared target roles unnamed front base at x s ≡ Ok r → Nothing s r.1
    parameter_declares unnamed front base at x s r h =
        chained (derived_type target in_parameter base x s)
        (λ t s. and_then (whole at s (parameter_type t)) (λ t s. one_more front (parameter_bound roles unnamed (length front) (parameter at x.name t) s x.name))) s r (λ y f. derived_declares in_parameter base x s y f)
        (λ y f. chained (whole at y.1 (parameter_type y.0)) (λ t s. one_more front (parameter_bound roles unnamed (length front) (parameter at x.name t) s x.name)) y.1 r (λ z g. judged at y.1 (parameter_type y.0) z g)
        (λ z g. chained (parameter_bound roles unnamed (length front) (parameter at x.name z.0) z.1 x.name) (λ x s. answer (front ++ x ∷ []) s) z.1 r
        (λ w e. bound_name_declares unnamed (length front) (parameter at x.name z.0) z.1 x.name w e) (λ w e. answered (front ++ w.0 ∷ []) w.1 w.1 r refl e) g) f) h

    pub param_declares : (specs : List (At SpecMeaning)) (d : At DeclrMeaning) → AreSpecs specs → DeclrDeclares d.node →
        ParamDeclares (λ unnamed front s. and_then (specified_found (setting stands.AsParameter entity.Parameter) specs s) (λ base s.
        declarator in_parameter d s (λ x s. parameter_declared target roles unnamed front base.ctype d.at x s)))
    param_declares specs d hs hd unnamed front s r h =
        let set = setting stands.AsParameter entity.Parameter in
        chained (specified_found set specs s) (λ base s. declarator in_parameter d s (λ x s. parameter_declared target roles unnamed front base.ctype d.at x s)) s r (λ x f. specified_declares set specs hs s x f)
        (λ x f. chained (d.node in_parameter d.at x.1) (λ y s. parameter_declared target roles unnamed front x.0.ctype d.at y s) x.1 r (λ y g. hd in_parameter d.at x.1 y g)
        (λ y g. parameter_declares unnamed front x.0.ctype d.at y.0 y.1 r g) f) h

  -- ---- type names

  pub type_name_declares : (specs : List (At SpecMeaning)) (d : At DeclrMeaning) → AreSpecs specs → DeclrDeclares d.node →
      TypeNameDeclares (λ cast s. and_then (specified_found (setting stands.InTypeName entity.Nothing) specs s) (λ base s. declarator (in_type_name cast) d s (λ d s. derived_type target (in_type_name cast) base.ctype d s)))
  type_name_declares specs d hs hd cast s r h =
      let set = setting stands.InTypeName entity.Nothing in
      let allowed = in_type_name cast in
      chained (specified_found set specs s) (λ base s. declarator allowed d s (λ d s. derived_type target allowed base.ctype d s)) s r (λ x f. specified_declares set specs hs s x f)
      (λ x f. chained (d.node allowed d.at x.1) (λ d s. derived_type target allowed x.0.ctype d s) x.1 r (λ y g. hd allowed d.at x.1 y g) (λ y g. derived_declares allowed x.0.ctype y.0 y.1 r g) f) h

  -- ---- members

  member_declares : (base : CType) (d : At DeclrMeaning) → DeclrDeclares d.node → (front : List Named) (s : State) (r : List Named × State) → member_found target base d front s ≡ Ok r → Nothing s r.1
  member_declares base d hd front s r h =
      chained (d.node nothing_more d.at s) (λ x s. member_behind target base d.at front x s) s r (λ x f. hd nothing_more d.at s x f)
      (λ x f. chained (derived_type target nothing_more base x.0 x.1) (λ t s. whole d.at s (member_judged target t front s x.0.name)) x.1 r (λ y g. derived_declares nothing_more base x.0 x.1 y g)
      (λ y g. judged d.at y.1 (member_judged target y.0 front y.1 x.0.name) r g) f) h

  pub members_declare : (specs : List (At SpecMeaning)) (ds : List (At DeclrMeaning)) → AreSpecs specs → Each (λ (d : At DeclrMeaning). DeclrDeclares d.node) ds →
      MembersDeclare (λ ms s. and_then (specified_found (setting stands.AsMember entity.Member) specs s) (λ base s. declared_members target base.ctype ds ms s))
  members_declare specs ds hs hd front s r h =
      let set = setting stands.AsMember entity.Member in
      chained (specified_found set specs s) (λ base s. declared_members target base.ctype ds front s) s r (λ x f. specified_declares set specs hs s x f)
      (λ x f. in_turn_nothing (member_found target x.0.ctype) (λ (d : At DeclrMeaning). DeclrDeclares d.node) (member_declares x.0.ctype) ds hd front x.1 r f) h
