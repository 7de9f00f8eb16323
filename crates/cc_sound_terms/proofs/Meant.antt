-- What is to hold of the meaning of each kind of construct.
use Rattle.std.proofs.Common.{◌≡◌, ℕ, ℤ, Bool, List, Ok, sym, subst}
use Rattle.cc_terms.specs.CcDesignators.Designators.{TypedExpr, IsPlace, IsValue, IsFunction, IsIntrinsic, IsAddress, value_at}
use Rattle.cc_terms.specs.CcOperands.Operands.{Operand, operand}
use Rattle.cc_operand_types.specs.Typed.{IsTypedExpr}
use Rattle.cc_terms.specs.CcSyntax.Views.{View}
use Rattle.cc_terms.specs.CcTypedTerms.Values.{null_judged, valued, value_found}
use Rattle.cc_program.proofs.Each.{Each}
use Rattle.cc_program.specs.declared.expr.Expr.{FuncAddr}
use Rattle.cc_program.specs.declared.types.CType.{CType}
use Rattle.cc_terms.specs.CcScopes.State.{State, Scope}
use Rattle.cc_terms.specs.CcSpecifiers.declared.derivation.Allowed.{Allowed}
use Rattle.cc_terms.specs.CcSpecifiers.declared.derivation.Declarator.{Declarator}
use Rattle.cc_terms.specs.CcSpecifiers.declared.derivation.Parameter.{Parameter}
use Rattle.cc_terms.specs.CcSpecifiers.declared.specifier.Specifier.{Specifier}
use Rattle.cc_terms.specs.CcSyntax.Types.{Named}
use Rattle.cc_terms.specs.CcSyntax.Values.{ToFunction}
use Rattle.cc_tree.specs.declared.at.At.{At}
use Rattle.cc_terms.specs.Meanings.{TreeMeaning, DeclrMeaning, ParamsMeaning, ParamMeaning, SpecMeaning, MembersMeaning, EnumrMeaning, TypeNameMeaning}
use Rattle.cc_sound_terms.specs.Behind.{Extends}
use Rattle.cc_sound_terms.specs.Growing.{IsConstant, IsParameter}
use Rattle.cc_sound_terms.specs.Ordered.{AreComplete}
use Rattle.cc_sound_terms.specs.Standing.{IsNamedType, ParameterStands, DerivationsStand, SpecifierStands, MembersKnown}
use Rattle.cc_sound_terms.specs.Typing.{KnowsTypes, Knows}
use Rattle.cc_sound_terms.proofs.Founds.{answer_is, then_found, whole_found}
use Rattle.cc_sound_terms.proofs.Outcomes.{Outcome}

module _ (v : View) where
  abbrev pub TypesHold : (A : Type 0) → (A → Type 0) → State → A × State → Type 0
  TypesHold A T s r = Outcome v (IsConstant v.target) (KnowsTypes v) A T s r

  -- beside types, an expression only adds to the state
  abbrev pub TreeGrows : TreeMeaning → Type 0
  TreeGrows m = (at : ℕ) (s : State) (r : TypedExpr × State) → m at s ≡ Ok r → Extends v s r.1

  abbrev pub TreeHolds : List Named → TreeMeaning → Type 0
  TreeHolds locals m = (at : ℕ) (s : State) (r : TypedExpr × State) → m at s ≡ Ok r → Outcome v (IsConstant v.target) (Knows v locals) TypedExpr (IsTypedExpr v locals) s r

  abbrev pub DeclrHolds : DeclrMeaning → Type 0
  DeclrHolds m = (allowed : Allowed) (at : ℕ) (s : State) (r : Declarator Scope × State) → m allowed at s ≡ Ok r → TypesHold (Declarator Scope) (λ d. DerivationsStand v allowed.unbounded d.derivations) s r

  abbrev pub ParamsHold : ParamsMeaning → Type 0
  ParamsHold m = (unnamed : Bool) (s : State) (r : (List Parameter × Scope) × State) → m unnamed s ≡ Ok r → TypesHold (List Parameter × Scope) (λ p. Each (ParameterStands v) p.0) s r

  abbrev pub ParamHolds : ParamMeaning → Type 0
  ParamHolds m = (unnamed : Bool) (before : List Parameter) (s : State) (r : List Parameter × State) → m unnamed before s ≡ Ok r →
      Outcome v (IsParameter v.target) (KnowsTypes v) (List Parameter) (λ ps. Each (ParameterStands v) before → Each (ParameterStands v) ps) s r

  abbrev pub SpecHolds : SpecMeaning → Type 0
  SpecHolds m = (at : ℕ) (s : State) (r : Specifier × State) → m at s ≡ Ok r → TypesHold Specifier (SpecifierStands v) s r

  pub record MembersOutcome (before : List Named) (s : State) (r : List Named × State) : Type 0 where
    pub outcome : TypesHold (List Named) (λ ms. MembersKnown v before → MembersKnown v ms) s r
    pub complete : AreComplete before s → AreComplete r.0 r.1

  abbrev pub MembersHold : MembersMeaning → Type 0
  MembersHold m = (before : List Named) (s : State) (r : List Named × State) → m before s ≡ Ok r → MembersOutcome before s r

  abbrev pub EnumrHolds : EnumrMeaning → Type 0
  EnumrHolds m = (next : ℤ) (at : ℕ) (s : State) (r : ℤ × State) → m next at s ≡ Ok r → TypesHold ℤ (λ n. Unit {0}) s r

  abbrev pub TypeNameHolds : TypeNameMeaning → Type 0
  TypeNameHolds m = (cast : Bool) (s : State) (r : CType × State) → m cast s ≡ Ok r → TypesHold CType (IsNamedType v cast) s r

-- a value is told of what is designated alone
pub valued_stays : (at : ℕ) (x : TypedExpr) (s : State) (r : Operand × State) → valued at x s ≡ Ok r → r.1 ≡ s
valued_stays at (IsPlace a t) s r h = (whole_found at s (value_at a t) r h).1
valued_stays at (IsValue x) s r h = (answer_is x s r h).1
valued_stays at (IsFunction f sig) s r h = (answer_is (operand (FuncAddr f) (ToFunction sig)) s r h).1
valued_stays at (IsIntrinsic i place) s r h = absurd (cc)
valued_stays at (IsAddress n t place) s r h = (whole_found place s (null_judged n t) r h).1

pub value_grows : (v : View) (e : At TreeMeaning) → TreeGrows v e.node → (s : State) (r : Operand × State) → value_found e s ≡ Ok r → Extends v s r.1
value_grows v e m s r h =
    let a = then_found (e.node e.at s) (valued e.at) r h in
    subst (λ (t : State). Extends v s t) (sym (valued_stays e.at a.0.0 a.0.1 r a.2)) (m e.at s a.0 a.1)
