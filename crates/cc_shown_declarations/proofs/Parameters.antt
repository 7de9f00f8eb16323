-- Parameters are declared one behind another in their scope, with and without names, and what is known of structures stays as
-- it is there.
use Rattle.std.proofs.Common.{◌≡◌, ◌+◌, ℕ, Bool, true, false, not, ◌||◌, List, [], ◌∷◌, ◌++◌, map, length, length-append, Option, Some, None, Ok, Err, refl, ap, sym, ◌∙◌, append_assoc, arith}
use Rattle.std.proofs.lemmas.List.{append-nil}
use Rattle.std.specs.Prelude.{if◌then◌else◌}
use Rattle.std.specs.List.{list_any}
use Rattle.std.specs.Option.{is_some}
use Rattle.std.specs.Str.{bytes_eq}
use Rattle.cc_type.specs.CcTypedTerms.Located.{located}
use Rattle.cc_type.specs.CcTypedTerms.Parameters.{parameter, parameter_bound}
use Rattle.cc_type.specs.CcOperands.Qualified.{unqualified}
use Rattle.cc_type.specs.CcOperands.Verdicts.{Judged, must}
use Rattle.cc_type.specs.CcOperands.declared.rule.Rule.TheVariants as rule
use Rattle.cc_type.specs.CcTypedTerms.Primary.{is_intrinsic}
use Rattle.cc_program.specs.declared.program.Program.{Program}
use Rattle.cc_program.specs.declared.program.Roles.{Roles}
use Rattle.cc_program.specs.declared.types.CType.{CType}
use Rattle.cc_program.specs.declared.types.Shape.{Shape, out-Shape}
use Rattle.cc_program.specs.declared.types.Shape.TheOpen as shape
use Rattle.cc_program.specs.declared.types.Sig.{Sig}
use Rattle.cc_type.specs.CcScopes.State.{State, Scope, Name, entered, bind, named_here, with_name as name_added, structures_of, layouts_of}
use Rattle.cc_type.specs.CcScopes.Verdicts.{Found, whole, and_then}
use Rattle.cc_type.specs.CcScopes.declared.designated.Designated.{Designated}
use Rattle.cc_type.specs.CcScopes.declared.designated.Designated.TheVariants as means
use Rattle.cc_type.specs.CcSpecifiers.Derivations.{in_parameter}
use Rattle.cc_type.specs.CcSpecifiers.Parameters.{adjusted_by, adjusted, parameter_by, parameter_type}
use Rattle.cc_type.specs.CcSpecifiers.Places.{JudgedAt}
use Rattle.cc_type.specs.CcSpecifiers.Storage.{setting}
use Rattle.cc_type.specs.CcSpecifiers.declared.attribute.Entity.TheVariants as entity
use Rattle.cc_type.specs.CcSpecifiers.declared.derivation.Declarator.{Declarator}
use Rattle.cc_type.specs.CcSpecifiers.declared.derivation.Parameter.{Parameter}
use Rattle.cc_type.specs.CcSpecifiers.declared.specifier.Specified.{Specified}
use Rattle.cc_type.specs.CcSpecifiers.declared.storage.Where.TheVariants as stands
use Rattle.cc_type.specs.CcSyntax.Kinds.{Kind, IsVoid, IsScalar, IsStructure, IsArray, IsIncomplete, IsFunction, is_plain_scalar, qualified_kind, shape_kind, extent_in}
use Rattle.cc_type.specs.CcSyntax.Programs.{kind_in}
use Rattle.cc_type.specs.CcSyntax.Sizes.{AreSized}
use Rattle.cc_type.proofs.CcSyntax.KindRolls.{parts_kind}
use Rattle.cc_type.specs.CcTerms.Declarators.{declarator, with_scope, parameter_declared}
use Rattle.cc_type.specs.CcTerms.InTurn.{in_turn, one_more}
use Rattle.cc_type.specs.CcTerms.Meanings.{ParamMeaning}
use Rattle.cc_type.specs.CcTerms.Terms.{params_of, declr_here, param_here}
use Rattle.cc_tree.specs.declared.at.At.{At}
use Rattle.cc_tree.specs.declared.tree.Declr.{Declr}
use Rattle.cc_tree.specs.declared.tree.Declr.TheOpen as one
use Rattle.cc_tree.specs.declared.tree.Param.{Param}
use Rattle.cc_tree.specs.declared.tree.Params as params
use Rattle.cc_tree.specs.declared.tree.Params.{Params}
use Rattle.cc_tree.specs.declared.tree.Params.TheVariants as params_rolls
use Rattle.cc_tree.specs.declared.tree.Spec.{Spec}
use Rattle.cc_expression_trees.specs.Types.{Plain, ShowsBase, ShowsParams, ShowsNone, ShowsSome, ShowsParamList, NoParam, MoreParams}
use Rattle.cc_shown_expressions.specs.Known.{KnowsStructures}
use Rattle.cc_shown_expressions.specs.Numbers.{type_numbered}
use Rattle.cc_shown_expressions.proofs.Bases.{specified-found}
use Rattle.cc_shown_expressions.proofs.Declared.{params-at, param-at, DeclaredAs, declared}
use Rattle.cc_shown_expressions.proofs.Derived.{Derivations, Fits, fits-derived}
use Rattle.cc_shown_expressions.proofs.Numbering.{level, type-opens, level-at}
use Rattle.cc_shown_expressions.proofs.Standing.{Stands, ScalarShape, IsInteger, IsPointer, scalar-shape, kind-at}
use Rattle.cc_shown_declarations.specs.Parameters.{Entry, entry_numbered, entry_of, entry_names, locals_from, scope_of}
use Rattle.cc_shown_declarations.proofs.Names.{IsNew, AreNew, not-found, added-behind, locals-append}

-- ---- the types of parameters: scalars, which may have qualifiers of their own in a definition

module _ (p : Program) where
  abbrev pub IsScalarEntry : CType → Type 0
  IsScalarEntry t = is_plain_scalar (kind_in p (unqualified t)) ≡ true

  some-kind : (q : Bool) (k : Option Kind) → is_plain_scalar (qualified_kind false k) ≡ true → is_some (qualified_kind q k) ≡ true
  some-kind q None h = absurd (cc)
  some-kind q (Some IsVoid) h = absurd (cc)
  some-kind q (Some (IsScalar r n)) h = refl
  some-kind q (Some (IsStructure n)) h = absurd (cc)
  some-kind q (Some (IsArray n)) h = absurd (cc)
  some-kind q (Some IsIncomplete) h = absurd (cc)
  some-kind q (Some IsFunction) h = absurd (cc)

  pub entry-stands : (t : CType) → IsScalarEntry t → Stands p t
  entry-stands t h =
      let x = out-Shape t.shape in
      let k = shape_kind p.target (extent_in p.structures p.target) (parts_kind p.target (extent_in p.structures p.target) x) in
      ap is_some (kind-at p t x refl) ∙ some-kind (t.constant || t.volatile) k (sym (ap is_plain_scalar (kind-at p (unqualified t) x refl)) ∙ h)

  entry-level : (number : ℕ → ℕ) (t : CType) (x : shape.Shape-F Shape CType Sig) → ScalarShape p x → out-Shape t.shape ≡ level number x → parameter_type t ≡ Ok t
  entry-level number t _ (IsInteger x i f) e =
      let o : out-Shape t.shape ≡ shape.Int i = e ∙ ap (level number) f in
      let a : adjusted t ≡ t = ap (adjusted_by t) o in
      ap (λ (u : CType). parameter_by u (out-Shape u.shape)) a ∙ ap (parameter_by t) o
  entry-level number t _ (IsPointer x to f) e =
      let o : out-Shape t.shape ≡ shape.Pointer (type_numbered number to) = e ∙ ap (level number) f in
      let a : adjusted t ≡ t = ap (adjusted_by t) o in
      ap (λ (u : CType). parameter_by u (out-Shape u.shape)) a ∙ ap (parameter_by t) o

  pub entry-type : (number : ℕ → ℕ) (t : CType) → IsScalarEntry t → parameter_type (type_numbered number t) ≡ Ok (type_numbered number t)
  entry-type number t h = entry-level number (type_numbered number t) (out-Shape t.shape) (scalar-shape p (unqualified t) h) (level-at number t (out-Shape t.shape) refl)

  abbrev pub AreScalars : List Entry → Type 0
  AreScalars [] = Unit {0}
  AreScalars (e ∷ es) = IsScalarEntry e.1 × AreScalars es

pub unqualified-numbered : (number : ℕ → ℕ) (t : CType) → unqualified (type_numbered number t) ≡ type_numbered number (unqualified t)
unqualified-numbered number t = ap unqualified (type-opens number t) ∙ sym (type-opens number (unqualified t))

module _ (p : Program) (number : ℕ → ℕ) (roles : Roles) (sized : AreSized p.structures p.target) (s : State) (known : KnowsStructures p number s) where
  abbrev numbered : CType → CType
  numbered t = type_numbered number t

  abbrev entries : List Entry → List Entry
  entries es = map (entry_numbered number) es

  -- in the scope of those that are declared, with the numbers of the unit
  abbrev pub inside : List Entry → State
  inside done = entered (scope_of done) s

  known-inside : (done : List Entry) → KnowsStructures p number (inside done)
  known-inside done = record { tags = known.tags; structures = known.structures; layouts = known.layouts }

  -- ---- one more

  scope-more : (done : List Entry) (x : Option Name) (t : CType) (names : List (Name × Designated)) → names ≡ locals_from 0 (done ++ (x, t) ∷ []) → entered (record { names = names; tags = [] }) s ≡ inside (done ++ (x, t) ∷ [])
  scope-more done x t names h = ap (λ (ns : List (Name × Designated)). entered (record { names = ns; tags = [] }) s) h

  unnamed-bound : (unnamed : Bool) (done : List Entry) (n : ℕ) (q : Parameter) → unnamed ≡ true → parameter_bound roles unnamed n q (inside done) None ≡ Ok (q, inside (done ++ (None, q.ctype) ∷ []))
  unnamed-bound unnamed done n q h =
      ap (λ (b : Bool). whole q.at (inside done) (must b rule.DeclaredTwice (Ok q))) h
      ∙ ap (λ (u : State). Ok (q, u)) (scope-more done None q.ctype (locals_from 0 done) (sym (append-nil (locals_from 0 done)) ∙ sym (locals-append 0 done (None, q.ctype))))

  named-bound : (unnamed : Bool) (done : List Entry) (n : ℕ) (q : Parameter) (x : Name) → list_any (bytes_eq x) (entry_names done) ≡ false → is_intrinsic roles x ≡ false → n ≡ length done →
      parameter_bound roles unnamed n q (inside done) (Some x) ≡ Ok (q, inside (done ++ (Some x, q.ctype) ∷ []))
  named-bound unnamed done n q x a b e =
      let t = q.ctype in
      let count : n ≡ 0 + length done = omega (arith, e) in
      ap (λ (c : Bool). and_then (whole q.at (inside done) (if c then Err rule.MainOrIntrinsic else must (not (is_some (named_here x (inside done)))) rule.DeclaredTwice (Ok x))) (λ x s. Ok (q, bind x (means.Automatic n t) s))) b
      ∙ ap (λ (o : Option Designated). and_then (whole q.at (inside done) (must (not (is_some o)) rule.DeclaredTwice (Ok x))) (λ x s. Ok (q, bind x (means.Automatic n t) s))) (not-found x 0 done a)
      ∙ ap (λ (u : State). Ok (q, u)) (scope-more done (Some x) t (name_added x (means.Automatic n t) (locals_from 0 done))
      (added-behind x (means.Automatic n t) 0 done a ∙ ap (λ k. locals_from 0 done ++ (x, means.Automatic k t) ∷ []) count ∙ sym (locals-append 0 done (Some x, t))))

  bound : (unnamed : Bool) (done : List Entry) (n : ℕ) (q : Parameter) (x : Option Name) → IsNew number roles unnamed (entry_names done) x → n ≡ length done → parameter_bound roles unnamed n q (inside done) x ≡ Ok (q, inside (done ++ (x, q.ctype) ∷ []))
  bound unnamed done n q None h e = unnamed-bound unnamed done n q h
  bound unnamed done n q (Some x) h e = named-bound unnamed done n q x h.0 h.1 e

  one-declared : (unnamed : Bool) (done : List Entry) (before : List Parameter) (b t : CType) (x : Option Name) (at : ℕ) (ds : Derivations) → IsNew number roles unnamed (entry_names done) x → length before ≡ length done → IsScalarEntry p t →
      Fits p.target (structures_of (inside done)) (layouts_of (inside done)) (numbered b) ds (numbered t) →
      parameter_declared p.target roles unnamed before (numbered b) at (record { name = x; derivations = ds }) (inside done) ≡ Ok (before ++ record { name = x; ctype = numbered t; at = at } ∷ [], inside (done ++ (x, numbered t) ∷ []))
  one-declared unnamed done before b t x at ds new e h f =
      ap (λ (j : JudgedAt CType). and_then (located (inside done) j) (λ t s. and_then (whole at s (parameter_type t)) (λ t s. one_more before (parameter_bound roles unnamed (length before) (parameter at x t) s x))))
      (fits-derived p.target (structures_of (inside done)) (layouts_of (inside done)) false (numbered b) ds (numbered t) f)
      ∙ ap (λ (j : Judged CType). and_then (whole at (inside done) j) (λ t s. one_more before (parameter_bound roles unnamed (length before) (parameter at x t) s x))) (entry-type p number t h)
      ∙ ap (λ (m : Found Parameter). one_more before m) (bound unnamed done (length before) (parameter at x (numbered t)) x new e)

  -- ---- all of them

  abbrev found_at : Bool → At ParamMeaning → List Parameter → State → Found (List Parameter)
  found_at unnamed x before s = x.node unnamed before s

  pub record InTurn (unnamed : Bool) (done : List Entry) (before : List Parameter) (ps : List (At Param)) (es : List Entry) : Type 0 where
    pub parameters : List Parameter
    pub are : map entry_of parameters ≡ entries es
    pub is : in_turn (found_at unnamed) (map (param_here p.target roles) ps) before (inside done) ≡ Ok (before ++ parameters, inside (done ++ entries es))

  nothing-more : (unnamed : Bool) (done : List Entry) (before : List Parameter) → InTurn unnamed done before [] []
  nothing-more unnamed done before = record {
    parameters = [];
    are = refl;
    is = ap (λ (xs : List Parameter). Ok (xs, inside done)) (sym (append-nil before)) ∙ ap (λ (es : List Entry). Ok (before ++ [], inside es)) (sym (append-nil done));
  }

  one-more : (unnamed : Bool) (done : List Entry) (before : List Parameter) (x : Option Name) (b t : CType) (ss : List (At Spec)) (d : At Declr) (at : ℕ) (es : List Entry) (ps : List (At Param)) → ShowsBase p.structures b ss → IsScalarEntry p t →
      IsNew number roles unnamed (entry_names done) x → length before ≡ length done → DeclaredAs p number roles sized (inside done) d.node in_parameter d.at x b (numbered t) →
      ((before : List Parameter) → length before ≡ length (done ++ (x, numbered t) ∷ []) → InTurn unnamed (done ++ (x, numbered t) ∷ []) before ps es) →
      InTurn unnamed done before (record { at = at; node = record { specs = ss; declr = d } } ∷ ps) ((x, t) ∷ es)
  one-more unnamed done before x b t ss d at es ps hb h new e q next =
      let sf = specified-found p number roles (inside done) (known-inside done) (setting stands.AsParameter entity.Parameter) b ss hb in
      let one : Parameter = record { name = x; ctype = numbered t; at = d.at } in
      let now : List Entry = done ++ (x, numbered t) ∷ [] in
      let n : length (before ++ one ∷ []) ≡ length now = omega (arith, length-append before (one ∷ []), length-append done ((x, numbered t) ∷ []), e) in
      let rest = next (before ++ one ∷ []) n in
      record {
        parameters = one ∷ rest.parameters;
        are = ap (λ (xs : List Entry). (x, numbered t) ∷ xs) rest.are;
        is = ap (λ (m : Found (List Parameter)). and_then m (in_turn (found_at unnamed) (map (param_here p.target roles) ps)))
            (param-at p.target roles ss d unnamed before (inside done)
            ∙ ap (λ (m : Found Specified). and_then m (λ base s. declarator in_parameter (declr_here p.target roles d) s (λ x s. parameter_declared p.target roles unnamed before base.ctype d.at x s))) sf.is
            ∙ ap (λ (m : Found (Declarator Scope)). and_then m (λ x s. parameter_declared p.target roles unnamed before (numbered b) d.at x s)) q.is
            ∙ one-declared unnamed done before b t x d.at q.derivations new e h q.fits)
            ∙ rest.is ∙ ap (λ (xs : List Parameter). Ok (xs, inside (now ++ entries es))) (append_assoc before (one ∷ []) rest.parameters)
            ∙ ap (λ (fs : List Entry). Ok (before ++ one ∷ rest.parameters, inside fs)) (append_assoc done ((x, numbered t) ∷ []) (entries es));
      }

  in-turn : (unnamed : Bool) (done : List Entry) (es : List Entry) (ps : List (At Param)) → ShowsParamList p.structures es ps → AreNew number roles unnamed done es → AreScalars p es → (before : List Parameter) → length before ≡ length done → InTurn unnamed done before ps es
  in-turn unnamed done _ _ NoParam new h before e = nothing-more unnamed done before
  in-turn unnamed done _ _ (MoreParams x b t ss d at es ps hb hd hr) new h before e =
      one-more unnamed done before x b t ss d at es ps hb h.0 new.0 e
      (declared p number roles sized (inside done) (known-inside done) b t d.node (Plain x) x hd refl (entry-stands p t h.0) in_parameter refl d.at)
      (λ before e. in-turn unnamed (done ++ (x, numbered t) ∷ []) es ps hr new.1 h.1 before e)

  -- with the scope in which they are
  pub record ParametersFound (unnamed : Bool) (ps : Params) (es : List Entry) : Type 0 where
    pub parameters : List Parameter
    pub are : map entry_of parameters ≡ entries es
    pub is : params_of p.target roles ps unnamed s ≡ Ok ((parameters, scope_of (entries es)), s)

  pub parameters-found : (unnamed : Bool) (es : List Entry) (ps : Params) → ShowsParams p.structures es ps → AreNew number roles unnamed [] es → AreScalars p es → ParametersFound unnamed ps es
  parameters-found unnamed _ _ ShowsNone new h = record {
    parameters = [];
    are = refl;
    is = params-at p.target roles params.Void one.Void params_rolls.outs-Void unnamed s;
  }
  parameters-found unnamed _ _ (ShowsSome e es ps r) new h =
      let q = in-turn unnamed [] (e ∷ es) ps r new h [] refl in
      record {
        parameters = q.parameters;
        are = q.are;
        is = params-at p.target roles (params.Many ps) (one.Many ps) (params_rolls.outs-Many ps) unnamed s ∙ ap with_scope q.is;
      }
