-- At a point that is reached the sets of the registers fit their types, and what its operands may give is of the type of what gets it.
use Rattle.std.proofs.Common.{◌≡◌, ℕ, true, Option, Some, None, refl, ap, sym, ◌∙◌, subst, slice_get}
use Rattle.std.specs.Prelude.{option_and_then}
use Rattle.std.proofs.lemmas.Option.{same_Some, none-some}
use Rattle.cc_rules_grow.specs.CcFlow.declared.types.Point.{Point}
use Rattle.cc_rules_grow.specs.CcPlaces.declared.abs.Abs.{Abs}
use Rattle.cc_program.specs.declared.expr.Expr.{Expr}
use Rattle.cc_program.specs.declared.func.Func.{Func}
use Rattle.cc_program.specs.declared.program.Program.{Program}
use Rattle.cc_rules_grow.specs.CcRules.Rules.{act_at}
use Rattle.cc_rules_grow.specs.CcRulesFlows.Flows.{ValueAt}
use Rattle.cc_rules_grow.specs.CcRulesFlows.Nexts.{IsPoint, statement_of}
use Rattle.cc_rules_shaped.proofs.Acting.{IsOfType, IsTaken, AreTaken, taken_at}
use Rattle.cc_rules_grow.proofs.CcState.Numbered.{register_at, register_below}
use Rattle.cc_rules_grow.proofs.CcState.Sets.{its_shape, registers_point}
use Rattle.cc_rules_grow.specs.CcState.Shape.{IsSetIn, IsRegisterType, IsPointFact, HaveShape}
use Rattle.cc_rules_grow.specs.CcStateFacts.declared.facts.Facts.{Facts}
use Rattle.cc_rules_grow.specs.CcStateFacts.declared.facts.PointFact.{PointFact}
use Rattle.cc_rules_grow.specs.CcStateFacts.Facts.{fact_at, local_at, local_of}
use Rattle.cc_rules_grow.specs.CcStateKeys.Addressed.{taken_in}
use Rattle.cc_rules_grow.specs.CcStateKeys.Tracked.{register_number}
use Rattle.cc_rules_grow.specs.CcStateOperators.Domains.{Domain}
use Rattle.cc_rules_grow.specs.CcStateReads.Reads.{registers_at}
use Rattle.cc_rules_grow.proofs.CcStateValues.Rules.{assigned_scalar}
use Rattle.cc_state_values_fit.proofs.Sets.{IsTyping, wider_set}
use Rattle.cc_state_values_fit.proofs.Values.{value_fits}
use Rattle.cc_state_values_fit.specs.Fit.{HasWholes, AreAddressed, RegistersFit}
use Rattle.cc_state_values_fit.specs.CcStateValuesGrow.Growth.{RegistersPoint}
use Rattle.cc_rules_grow.specs.CcSyntax.Normal.{IsNormal}
use Rattle.cc_rules_grow.specs.CcSyntax.Programs.{type_of}
use Rattle.cc_rules_grow.specs.CcSyntax.Types.{Named}
use Rattle.cc_rules_grow.specs.CcSyntax.Values.{ValueType, is_scalar, scalar_value}

then_there : {A B : Type 0} (g : A → Option B) (a : Option A) (w : B) → option_and_then g a ≡ Some w → (x : A) × (a ≡ Some x) × (g x ≡ Some w)
then_there g None w h = absurd (none-some w h)
then_there g (Some x) w h = (x, refl, h)

module _ {I : Type 0} (d : Domain I) (typing : IsTyping d) (p : Program) (wholes : HasWholes d p.target) (normal : IsNormal p) (facts : Facts I) (shape : HaveShape d p facts)
    (n id : ℕ) (f : Func) (point : Point) (fact : PointFact I) (is_point : IsPoint p n id f point) (known : fact_at facts n ≡ Some fact) where
  pub its_function : slice_get p.funcs point.func ≡ Some f
  its_function = ap (slice_get p.funcs) is_point.own ∙ is_point.function

  pub its_fact : IsPointFact d p f fact
  its_fact = its_shape d p facts shape n point f (record { numbered = is_point.numbered; function = its_function }) fact known

  pub its_points : RegistersPoint p f (registers_at facts f n)
  its_points = registers_point d p facts shape n point f (record { numbered = is_point.numbered; function = its_function })

  pub registers_fit : RegistersFit d p f (registers_at facts f n)
  registers_fit r local t y is_local is_type is_set =
      let number = then_there (local_at facts n) (register_number f r) y is_set in
      let at : local_of fact number.0 ≡ Some y = subst (λ (o : Option (PointFact I)). option_and_then (λ (x : PointFact I). local_of x number.0) o ≡ Some y) known number.2 in
      let set = its_fact.locals.there number.0 (register_below f r number.0 number.1) in
      let type = set.2.0 in
      let same : type.0 ≡ r = same_Some type.0 r (sym type.2 ∙ register_at f r number.0 number.1) in
      let one : type.1 ≡ local = same_Some type.1 local (sym type.3 ∙ ap (slice_get f.locals) same ∙ is_local) in
      let own : set.0 ≡ t = same_Some set.0 t (sym type.4 ∙ ap (λ (l : Named). scalar_value l.1) one ∙ is_type) in
      let its : set.1 ≡ y = same_Some set.1 y (sym set.2.1 ∙ at) in
      subst (λ (u : ValueType). IsSetIn p d u y) own (subst (IsSetIn p d set.0) its set.2.2)

  -- of an operand
  pub operand_in : (t : ValueType) (e : Expr) (y : Abs I) → type_of p f.locals e ≡ Some t → is_scalar t ≡ true → AreAddressed p (taken_in p id f e) → ValueAt d p id f facts point n fact e y → IsSetIn p d t y
  operand_in t e y typed scalar keys val = value_fits d typing p wholes id f (registers_at facts f n) is_point.function registers_fit e y val t typed scalar keys

  -- of what gets it
  pub value_in : (t : ValueType) (e : Expr) (y : Abs I) → IsTaken p id f t e → ValueAt d p id f facts point n fact e y → IsSetIn p d t y
  value_in t e y h val = wider_set d p t h.type y h.fits (operand_in h.type e y h.typed (assigned_scalar t h.type h.fits) h.keys val)

  pub its_act : AreTaken p id f (act_at (statement_of f point) f)
  its_act = taken_at p normal id f is_point.function point.path (statement_of f point) refl

  pub register_typed : (r number : ℕ) (t : ValueType) → register_number f r ≡ Some number → IsOfType p id f r t → IsRegisterType d p f number t
  register_typed r number t is h = (r, h.0, register_at f r number is, h.1, h.2)
