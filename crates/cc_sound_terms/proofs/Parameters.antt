-- Parameters stand (C99 6.7.5.3).
use Rattle.std.proofs.Common.{◌≡◌, ℕ, Bool, true, false, List, [], length, Option, Some, None, Ok, ap, sym, ◌∙◌, subst}
use Rattle.cc_terms.specs.CcTypedTerms.Declarators.{derived_type}
use Rattle.cc_terms.specs.CcTypedTerms.Names.{new_name}
use Rattle.cc_program.specs.CcNum.declared.int_type.IntType.TheVariants as int
use Rattle.cc_terms.specs.CcOperands.Qualified.{plain}
use Rattle.cc_terms.specs.CcOperands.Verdicts.{must}
use Rattle.cc_terms.specs.CcOperands.declared.rule.Rule.TheVariants as rule
use Rattle.cc_terms.specs.CcSyntax.Views.{View}
use Rattle.cc_operand_types.proofs.Operands.{given, ok_is, must_ok}
use Rattle.cc_program.proofs.Each.{Each}
use Rattle.cc_program.specs.declared.program.Roles.{Roles}
use Rattle.cc_program.specs.declared.types.CType.{CType}
use Rattle.cc_terms.specs.CcScopes.State.{State, Name, Scope, bind, empty, innermost, entered, left}
use Rattle.cc_terms.specs.CcScopes.Verdicts.{Found, whole, and_then}
use Rattle.cc_terms.specs.CcScopes.declared.designated.Designated.TheVariants as means
use Rattle.cc_terms.specs.CcScopes.declared.designated.Tagged.TheVariants as tag
use Rattle.cc_terms.specs.CcSpecifiers.Derivations.{in_parameter}
use Rattle.cc_terms.specs.CcSpecifiers.Storage.{setting}
use Rattle.cc_terms.specs.CcSpecifiers.declared.attribute.Entity.TheVariants as entity
use Rattle.cc_terms.specs.CcSpecifiers.declared.basic.Length.TheVariants as lengths
use Rattle.cc_terms.specs.CcSpecifiers.declared.derivation.Declarator.{Declarator}
use Rattle.cc_terms.specs.CcSpecifiers.declared.derivation.Derivation.TheVariants as to
use Rattle.cc_terms.specs.CcSpecifiers.declared.specifier.Base.TheVariants as base
use Rattle.cc_terms.specs.CcSpecifiers.declared.specifier.Specified.{Specified}
use Rattle.cc_terms.specs.CcSpecifiers.declared.specifier.Specifier.TheVariants as specifier
use Rattle.cc_terms.specs.CcSpecifiers.declared.storage.Where.TheVariants as stands
use Rattle.cc_tree.specs.declared.at.At.{At}
use Rattle.cc_program.specs.CcWords.declared.word.Word.TheVariants as w
use Rattle.cc_terms.specs.Declarators.{declarator, parameters_found, with_scope, parameter_declared}
use Rattle.cc_terms.specs.InTurn.{one_more}
use Rattle.cc_terms.specs.Meanings.{DeclrMeaning, SpecMeaning, ParamMeaning}
use Rattle.cc_terms.specs.Specifiers.{specified_found}
use Rattle.cc_sound_terms.specs.Behind.{Extends, Adds}
use Rattle.cc_sound_terms.specs.Growing.{IsParameter}
use Rattle.cc_sound_terms.specs.Knowing.{Stands}
use Rattle.cc_sound_terms.specs.Standing.{IsDerived, ParameterStands}
use Rattle.cc_sound_terms.specs.Typing.{KnowsTypes}
use Rattle.cc_sound_terms.proofs.Founds.{answer, answer_is, then_found, whole_found}
use Rattle.cc_sound_terms.proofs.Behind.{bind_adds, adds_parameters, scope_left_adds}
use Rattle.cc_sound_terms.proofs.Known.{types_first, types_second}
use Rattle.cc_sound_terms.proofs.Meant.{DeclrHolds, ParamsHold, SpecHolds, ParamHolds}
use Rattle.cc_sound_terms.proofs.NamedTypes.{parameter_stands}
use Rattle.cc_sound_terms.proofs.Outcomes.{chained, in_turn_holds, Outcome, one_more_given}
use Rattle.cc_terms.specs.CcTypedTerms.Parameters.{parameter, parameter_bound}
use Rattle.cc_terms.specs.CcSpecifiers.Parameters.{parameter_type}
use Rattle.cc_terms.specs.CcSpecifiers.declared.derivation.Parameter.{Parameter}
use Rattle.cc_sound_terms.proofs.Types.{Holds, Declares, judged_holds, answer_holds, derived_holds, specified_holds}

module _ (v : View) where
  abbrev Binds : (A : Type 0) → (A → Type 0) → State → A × State → Type 0
  Binds A T s r = Outcome v (IsParameter v.target) (KnowsTypes v) A T s r

  as_binds : (A : Type 0) (T : A → Type 0) (s : State) (r : A × State) → Holds v A T s r → Binds A T s r
  as_binds A T s r o = record { grows = adds_parameters v s r.1 o.grows; holds = o.holds }

  then_binds : {A B : Type 0} (T : A → Type 0) (U : B → Type 0) (found : Found A) (next : A → State → Found B) (s : State) (r : B × State) →
      ((x : A × State) → found ≡ Ok x → Binds A T s x) → ((x : A × State) → next x.0 x.1 ≡ Ok r → Binds B (λ y. T x.0 → U y) x.1 r) → and_then found next ≡ Ok r → Binds B U s r
  then_binds T U found next s r f g h = chained v (IsParameter v.target) (KnowsTypes v) (types_first v (IsParameter v.target)) (types_second v (IsParameter v.target)) T U found next s r f g h

  same_parameter : (a b : Parameter) → given a ≡ Ok b → a ≡ b
  same_parameter a b h = ok_is h

  bound_parameter : (roles : Roles) (unnamed : Bool) (i : ℕ) (p : Parameter) (s : State) (x : Option Name) (r : Parameter × State) → parameter_bound roles unnamed i p s x ≡ Ok r → Binds Parameter (λ q. ParameterStands v p → ParameterStands v q) s r
  bound_parameter roles unnamed i p s None r h =
      as_binds Parameter (λ q. ParameterStands v p → ParameterStands v q) s r
      (judged_holds v Parameter (λ q. ParameterStands v p → ParameterStands v q) p.at s (must unnamed rule.DeclaredTwice (Ok p)) r
      (λ q e k w. subst (ParameterStands v) (same_parameter p q (must_ok unnamed rule.DeclaredTwice (Ok p) q e).1) w) h)
  bound_parameter roles unnamed i p s (Some x) r h =
      let a = then_found (whole p.at s (new_name roles x s)) (λ x s. Ok (p, bind x (means.Automatic i p.ctype) s)) r h in
      let b = whole_found p.at s (new_name roles x s) a.0 a.1 in
      let e = answer_is p (bind a.0.0 (means.Automatic i p.ctype) a.0.1) r a.2 in
      record {
        grows = subst (λ (t : State). Adds v (IsParameter v.target) s t) (ap (bind a.0.0 (means.Automatic i p.ctype)) (sym b.1) ∙ sym e.1) (bind_adds v (IsParameter v.target) a.0.0 (means.Automatic i p.ctype) s tt (λ k w e. absurd (cc)));
        holds = λ k w. subst (ParameterStands v) (sym e.0) w;
      }

  module _ (roles : Roles) where
    parameter_declared_binds : (unnamed : Bool) (before : List Parameter) (base : CType) (at : ℕ) (x : Declarator Scope) (s : State) (r : List Parameter × State) → parameter_declared v.target roles unnamed before base at x s ≡ Ok r →
        Binds (List Parameter) (λ ps. Declares v true x → Stands v base → Each (ParameterStands v) before → Each (ParameterStands v) ps) s r
    parameter_declared_binds unnamed before base at x s r h =
        then_binds (λ t. Declares v true x → Stands v base → IsDerived v false true t) (λ ps. Declares v true x → Stands v base → Each (ParameterStands v) before → Each (ParameterStands v) ps) (derived_type v.target in_parameter base x s)
        (λ t s. and_then (whole at s (parameter_type t)) (λ t s. one_more before (parameter_bound roles unnamed (length before) (parameter at x.name t) s x.name))) s r
        (λ t f. as_binds CType (λ t. Declares v true x → Stands v base → IsDerived v false true t) s t (derived_holds v in_parameter base x s t f))
        (λ t f. then_binds (λ u. IsDerived v false true t.0 → ParameterStands v (parameter at x.name u)) (λ ps. (Declares v true x → Stands v base → IsDerived v false true t.0) → Declares v true x → Stands v base → Each (ParameterStands v) before → Each (ParameterStands v) ps)
        (whole at t.1 (parameter_type t.0)) (λ t s. one_more before (parameter_bound roles unnamed (length before) (parameter at x.name t) s x.name)) t.1 r
        (λ u g. as_binds CType (λ u. IsDerived v false true t.0 → ParameterStands v (parameter at x.name u)) t.1 u
        (judged_holds v CType (λ u. IsDerived v false true t.0 → ParameterStands v (parameter at x.name u)) at t.1 (parameter_type t.0) u (λ u e k w. let p = parameter_stands v t.0 u w e in record { plain = p.0; pointed = p.1 }) g))
        (λ u g.
        let p = parameter at x.name u.0 in
        let o = one_more_given v (IsParameter v.target) (KnowsTypes v) (types_first v (IsParameter v.target)) (types_second v (IsParameter v.target)) (ParameterStands v p) (ParameterStands v) before (parameter_bound roles unnamed (length before) p u.1 x.name) u.1 r
        (λ q k. bound_parameter roles unnamed (length before) p u.1 x.name q k) g in
        record { grows = o.grows; holds = λ k f derived hd hb hs. o.holds k (f (derived hd hb)) hs }) f) h

    pub param_holds : (specs : List (At SpecMeaning)) (d : At DeclrMeaning) → Each (λ x. SpecHolds v x.node) specs → DeclrHolds v d.node →
        ParamHolds v (λ unnamed before s. and_then (specified_found (setting stands.AsParameter entity.Parameter) specs s) (λ base s. declarator in_parameter d s (λ x s. parameter_declared v.target roles unnamed before base.ctype d.at x s)))
    param_holds specs d hs hd unnamed before s r h =
        then_binds (λ x. Stands v x.ctype) (λ ps. Each (ParameterStands v) before → Each (ParameterStands v) ps) (specified_found (setting stands.AsParameter entity.Parameter) specs s)
        (λ base s. declarator in_parameter d s (λ x s. parameter_declared v.target roles unnamed before base.ctype d.at x s)) s r
        (λ x f. as_binds Specified (λ x. Stands v x.ctype) s x (specified_holds v (setting stands.AsParameter entity.Parameter) specs hs s x f))
        (λ x f. then_binds (Declares v true) (λ ps. Stands v x.0.ctype → Each (ParameterStands v) before → Each (ParameterStands v) ps) (d.node in_parameter d.at x.1) (λ y s. parameter_declared v.target roles unnamed before x.0.ctype d.at y s) x.1 r
        (λ y g. as_binds (Declarator Scope) (Declares v true) x.1 y (hd in_parameter d.at x.1 y g))
        (λ y g. parameter_declared_binds unnamed before x.0.ctype d.at y.0 y.1 r g) f) h

  no_parameters_hold : (s : State) (r : (List Parameter × Scope) × State) → answer ([], empty) s ≡ Ok r → Holds v (List Parameter × Scope) (λ p. Each (ParameterStands v) p.0) s r
  no_parameters_hold s r h = answer_holds v (List Parameter × Scope) (λ p. Each (ParameterStands v) p.0) ([], empty) s r (λ k. tt) h

  pub empty_holds : ParamsHold v (λ unnamed s. Ok (([], empty), s))
  empty_holds unnamed s r h = no_parameters_hold s r h

  entered_known : (s t : State) → KnowsTypes v s (left t) → KnowsTypes v (entered empty s) t
  entered_known s t k = record { structures = k.structures; types = k.types; tags = k.tags }

  pub many_hold : (ps : List (At ParamMeaning)) → Each (λ p. ParamHolds v p.node) ps → ParamsHold v (λ unnamed s. with_scope (parameters_found unnamed ps (entered empty s)))
  many_hold ps hs unnamed s r h =
      let a = then_found (parameters_found unnamed ps (entered empty s)) (λ ps s. Ok ((ps, innermost s.scopes), left s)) r h in
      let e = answer_is (a.0.0, innermost a.0.1.scopes) (left a.0.1) r a.2 in
      let o = in_turn_holds v (IsParameter v.target) (KnowsTypes v) (types_first v (IsParameter v.target)) (types_second v (IsParameter v.target)) (λ (p : At ParamMeaning) before s. p.node unnamed before s) (λ p. ParamHolds v p.node) (Each (ParameterStands v))
      (λ p hp. hp unnamed) ps hs [] (entered empty s) a.0 a.1 in
      record {
        grows = subst (λ (t : State). Extends v s t) (sym e.1) (scope_left_adds v (IsParameter v.target) s a.0.1 o.grows);
        holds = λ k. subst (λ (p : List Parameter × Scope). Each (ParameterStands v) p.0) (sym e.0) (o.holds (entered_known s a.0.1 (subst (λ (t : State). KnowsTypes v s t) e.1 k)) tt);
      }
