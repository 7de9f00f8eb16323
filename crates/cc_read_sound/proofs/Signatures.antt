-- The signature of a function that is defined: that of its declarator's parameters.
use Rattle.std.proofs.Common.{◌≡◌, ◌⊎◌, inl, inr, ℕ, Bool, true, false, ◌&&◌, List, [], ◌∷◌, map, Option, Some, None, Ok, Err, refl, ap, sym, ◌∙◌, subst}
use Rattle.std.specs.Prelude.{if◌then◌else◌}
use Rattle.std.specs.List.{list_all}
use Rattle.cc_operand_types.proofs.Operands.{ok_is}
use Rattle.cc_operand_types.proofs.Standing.{params_stand, result_stands, sig-opens}
use Rattle.cc_operand_types.specs.Typed.{stands}
use Rattle.cc_type.specs.CcOperands.Qualified.{unqualified}
use Rattle.cc_type.specs.CcOperands.Verdicts.{Judged}
use Rattle.cc_program.proofs.Each.{Each}
use Rattle.cc_program.specs.declared.types.CType.{CType}
use Rattle.cc_program.specs.declared.types.Shape.{Shape, out-Shape}
use Rattle.cc_program.specs.declared.types.Shape.TheOpen as shape
use Rattle.cc_program.specs.declared.types.Shape.TheVariants.{outs-Func}
use Rattle.cc_program.specs.declared.types.Sig.{Sig, out-Sig, roll-Sig, out-roll-Sig}
use Rattle.cc_type.specs.CcScopes.State.{Scope}
use Rattle.cc_read_sound.specs.Bodies.{ResultStands}
use Rattle.cc_sound_terms.specs.Standing.{DerivationsStand, IsBounded, ParameterStands}
use Rattle.cc_type.specs.CcSpecifiers.Declarators.{function_to}
use Rattle.cc_type.specs.CcSpecifiers.declared.derivation.Derivation.{Derivation}
use Rattle.cc_type.specs.CcSpecifiers.declared.derivation.Derivation.TheVariants as to
use Rattle.cc_type.specs.CcSpecifiers.declared.derivation.Parameter.{Parameter}
use Rattle.cc_type.proofs.CcSyntax.Prefixes.{both_true}
use Rattle.cc_type.specs.CcSyntax.Kinds.{Kind, is_plain_scalar, is_result, is_sig, kind_of}
use Rattle.cc_type.specs.CcSyntax.SameTypes.{is_void_shape}
use Rattle.cc_type.specs.CcSyntax.Values.{ValueType, NoValue, result_value, scalar_shape, scalar_value}
use Rattle.cc_type.specs.CcSyntax.Views.{View, kind_in}
use Rattle.cc_tree.specs.declared.at.At.{At}
use Rattle.cc_type.specs.Functions.{parameters_in, parameters_of, signature_at, signature_of}

-- ---- the parameters of a declarator

-- the part next to the name
pub record HasParameters (ds : List (At (Derivation Scope))) (ps : List Parameter) (scope : Scope) : Type 0 where
  pub first : At (Derivation Scope)
  pub rest : List (At (Derivation Scope))
  pub all : ds ≡ first ∷ rest
  pub function : first.node ≡ to.Function ps scope

parameters_by : (d : Derivation Scope) (r : List Parameter × Scope) → parameters_of d ≡ Ok r → d ≡ to.Function r.0 r.1
parameters_by (to.Function ps scope) r h = ap (λ (p : List Parameter × Scope). to.Function p.0 p.1) (ok_is h)
parameters_by (to.Pointer constant volatile) r h = absurd (cc)
parameters_by (to.Array n) r h = absurd (cc)

pub parameters_are : (ds : List (At (Derivation Scope))) (r : List Parameter × Scope) → parameters_in ds ≡ Ok r → HasParameters ds r.0 r.1
parameters_are [] r h = absurd (cc)
parameters_are (d ∷ ds) r h = record { first = d; rest = ds; all = refl; function = parameters_by d.node r h }

module _ (v : View) where
  function_stands : (d : Derivation Scope) (ps : List Parameter) (scope : Scope) → d ≡ to.Function ps scope → IsBounded v d → Each (ParameterStands v) ps
  function_stands d ps scope e h = subst (IsBounded v) e h

  first_stands : (d : At (Derivation Scope)) (ps : List Parameter) (scope : Scope) → d.node ≡ to.Function ps scope → IsBounded v d.node ⊎ ((d.node ≡ to.Array None) × (false ≡ true)) → Each (ParameterStands v) ps
  first_stands d ps scope e (inl b) = function_stands d.node ps scope e b
  first_stands d ps scope e (inr g) = let c : false ≡ true = g.1 in absurd (cc)

  pub parameters_stand : (ds : List (At (Derivation Scope))) (ps : List Parameter) (scope : Scope) → HasParameters ds ps scope → DerivationsStand v false ds → Each (ParameterStands v) ps
  parameters_stand ds ps scope p h = first_stands p.first ps scope p.function (subst (DerivationsStand v false) p.all h).0

-- ---- the signature

pub signature_is : (t : CType) (sig : Sig) → out-Shape t.shape ≡ shape.Func sig → signature_of t ≡ sig
signature_is t sig e = ap signature_at e

pub function_params : (result : CType) (ps : List Parameter) → (out-Sig (signature_of (function_to result ps))).params ≡ map (λ (p : Parameter). unqualified p.ctype) ps
function_params result ps =
    ap (λ (s : Sig). (out-Sig s).params) (ap signature_at (outs-Func (roll-Sig (record { result = result; params = map (λ (p : Parameter). unqualified p.ctype) ps }))))
    ∙ ap (λ (x : shape.Sig-F Shape CType Sig). x.params) (out-roll-Sig (record { result = result; params = map (λ (p : Parameter). unqualified p.ctype) ps }))

-- ---- what stands of it

all_kinds : (test : Option Kind → Bool) (kind : CType → Option Kind) (ts : List CType) → list_all test (map kind ts) ≡ true → list_all (λ t. test (kind t)) ts ≡ true
all_kinds test kind [] h = refl
all_kinds test kind (t ∷ ts) h = of_first (test (kind t)) h (all_kinds test kind ts)
  where
    of_first : (b : Bool) → b && list_all test (map kind ts) ≡ true → (list_all test (map kind ts) ≡ true → list_all (λ t. test (kind t)) ts ≡ true) → b && list_all (λ t. test (kind t)) ts ≡ true
    of_first true h f = f h
    of_first false h f = absurd (cc)

scalar_result : (t : CType) (to : ValueType) → scalar_value t ≡ Some to → result_value t ≡ Some to
scalar_result t to h = by_shape (out-Shape t.shape) h
  where
    by_shape : (x : shape.Shape-F Shape CType Sig) → scalar_shape x ≡ Some to → (if is_void_shape x then Some NoValue else scalar_shape x) ≡ Some to
    by_shape (shape.Int i) h = h
    by_shape (shape.Pointer p) h = h
    by_shape shape.Void h = absurd (cc)
    by_shape (shape.Array of n) h = absurd (cc)
    by_shape (shape.Struct i) h = absurd (cc)
    by_shape (shape.Func s) h = absurd (cc)

module _ (v : View) (sig : Sig) (good : is_sig v.target v.extents sig ≡ true) where
  pub result_kind : is_result (kind_in v (out-Sig sig).result) ≡ true
  result_kind = (both_true (is_result (kind_in v (out-Sig sig).result)) (list_all is_plain_scalar (map (kind_of v.target v.extents) (out-Sig sig).params)) (sym (sig-opens v sig) ∙ good)).0

  pub parameter_kinds : list_all (λ t. is_plain_scalar (kind_in v t)) (out-Sig sig).params ≡ true
  parameter_kinds = all_kinds is_plain_scalar (kind_in v) (out-Sig sig).params (params_stand v sig good)

  pub result_may_stand : ResultStands v (out-Sig sig).result
  result_may_stand to h = result_stands v sig to good (scalar_result (out-Sig sig).result to h)
