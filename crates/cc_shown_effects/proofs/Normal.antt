-- What it says of an assignment's place and right side that it is in normal form, and which trees show no effect.
use Rattle.std.proofs.Common.{◌≡◌, ℕ, Bool, true, false, not, ◌&&◌, ◌||◌, Option, Some, None, refl, ap, sym, ◌∙◌}
use Rattle.std.specs.Prelude.{if◌then◌else◌}
use Rattle.std.specs.Option.{is_some}
use Rattle.cc_typed_bodies.specs.CcLex.declared.token.Mark.{Mark}
use Rattle.cc_program.specs.declared.expr.Expr.{Expr, out-Expr}
use Rattle.cc_program.specs.declared.expr.Expr.TheOpen as one
use Rattle.cc_program.specs.declared.expr.Place.{Place, out-Place}
use Rattle.cc_program.specs.declared.func.Func.{Func}
use Rattle.cc_program.specs.declared.program.Program.{Program}
use Rattle.cc_program.specs.declared.types.CType.{CType}
use Rattle.cc_typed_bodies.specs.CcSyntax.Effects.{PlaceEffects, no_one, is_soft, place_effects_of}
use Rattle.cc_typed_bodies.specs.CcSyntax.Expressions.{of_one}
use Rattle.cc_typed_bodies.specs.CcSyntax.Programs.{type_of, place_type}
use Rattle.cc_typed_bodies.specs.CcSyntax.Folding.{is_folded_place}
use Rattle.cc_typed_bodies.specs.CcSyntax.Forms.{form_of}
use Rattle.cc_typed_bodies.specs.CcSyntax.Normal.{is_operand, is_call, is_place_read, is_register_place, is_other_place, is_assignment}
use Rattle.cc_typed_bodies.specs.CcSyntax.Operators.{assignment_type}
use Rattle.cc_typed_bodies.specs.CcSyntax.Values.{ValueType, PlaceType, written_to, is_assignable}
use Rattle.cc_typed_bodies.proofs.CcSyntax.Prefixes.{both_true}
use Rattle.cc_tree.specs.declared.tree.Tree.{Tree}
use Rattle.cc_expression_trees.specs.Exprs.{IsBinary, AnOperation, AMovement, ADifference, AComparison, ABoth, AnEither, ShowsExpr, InParens, ShowsConstant, ShowsNarrow, ShowsNull, ShowsFunction, ShowsRead, ShowsAddress, ShowsUnary, ShowsConversion, ShowsQualified, ShowsBinary, ShowsChoice, ShowsValue, ValueInParens, ValueOf, NarrowValue, NullValue}
use Rattle.cc_shown_expressions.proofs.Levels.{one-is, two-is, when-is, type-at, place-effects-at, place-folding-at}

-- ---- an expression that has an effect is shown by no operand's tree

abbrev pub is_effect : one.Expr-F Expr Place → Bool
is_effect (one.Assign a e) = true
is_effect (one.Call g args) = true
is_effect (one.Intr i a) = true
is_effect _ = false

no-effect-binary : (level : one.Expr-F Expr Place) (o : Mark) (a b : Expr) → IsBinary level o a b → is_effect level ≡ false
no-effect-binary _ _ _ _ (AnOperation o t a b) = refl
no-effect-binary _ _ _ _ (AMovement a b back) = refl
no-effect-binary _ _ _ _ (ADifference a b) = refl
no-effect-binary _ _ _ _ (AComparison o a b) = refl
no-effect-binary _ _ _ _ (ABoth a b) = refl
no-effect-binary _ _ _ _ (AnEither a b) = refl

pub contrary : (b : Bool) → b ≡ true → b ≡ false → ⊥
contrary b h k = let g : true ≡ false = sym h ∙ k in cc

module _ (p : Program) (f : Func) where
  no-expr : (e : Expr) (x : Tree) → ShowsExpr p f e x → is_effect (out-Expr e) ≡ true → ⊥
  no-expr _ _ (InParens e x h) k = no-expr e x.node h k
  no-expr _ _ (ShowsConstant e c t x i wide h) k = contrary (is_effect (out-Expr e)) k (ap is_effect i)
  no-expr _ _ (ShowsNarrow e c t type x i narrow named h) k = contrary (is_effect (out-Expr e)) k (ap is_effect i)
  no-expr _ _ (ShowsNull e t type x i named z) k = contrary (is_effect (out-Expr e)) k (ap is_effect i)
  no-expr _ _ (ShowsFunction e i g j there) k = contrary (is_effect (out-Expr e)) k (ap is_effect j)
  no-expr _ _ (ShowsRead e a x i h) k = contrary (is_effect (out-Expr e)) k (ap is_effect i)
  no-expr _ _ (ShowsAddress e a x i h) k = contrary (is_effect (out-Expr e)) k (ap is_effect i)
  no-expr _ _ (ShowsUnary e c t a x i h) k = contrary (is_effect (out-Expr e)) k (ap is_effect i)
  no-expr _ _ (ShowsConversion e t a type x i named h) k = contrary (is_effect (out-Expr e)) k (ap is_effect i)
  no-expr _ _ (ShowsQualified e t a type x i named h) k = contrary (is_effect (out-Expr e)) k (ap is_effect i)
  no-expr _ _ (ShowsBinary e level c d g x y i binary h l) k = contrary (is_effect (out-Expr e)) k (ap is_effect i ∙ no-effect-binary level c d g binary)
  no-expr _ _ (ShowsChoice e c a d x y z i h g l) k = contrary (is_effect (out-Expr e)) k (ap is_effect i)

  pub no-value : (to : Option CType) (e : Expr) (x : Tree) → ShowsValue p f to e x → is_effect (out-Expr e) ≡ true → ⊥
  no-value _ _ _ (ValueInParens to e x h) k = no-value to e x.node h k
  no-value _ _ _ (ValueOf to e x h) k = no-expr e x h k
  no-value _ _ _ (NarrowValue to e c t x i narrow h) k = contrary (is_effect (out-Expr e)) k (ap is_effect i)
  no-value _ _ _ (NullValue to e t x i l z) k = contrary (is_effect (out-Expr e)) k (ap is_effect i)

  -- ---- an assignment in normal form

  pub data RightKind (r : Expr) : Type 0 where
    AnOperand : is_operand p.target f r ≡ true → RightKind r
    ARead : is_place_read p.target f (form_of r) ≡ true → RightKind r
    ACall : is_call p.target f (form_of r) ≡ true → RightKind r

  -- a place with operands in normal form
  abbrev pub IsOfOperands : Place → Type 0
  IsOfOperands a = ((place_effects_of f a).pure no_one ≡ true) × (is_folded_place p.target a ≡ true)

  register-by : (a : Place) (y : one.Place-F Expr Place) → out-Place a ≡ y → is_some (place_effects_of f a).register ≡ true → IsOfOperands a
  register-by a (one.Local r) e h = (ap (λ (q : PlaceEffects). q.pure no_one) (place-effects-at p f a (one.Local r) e), place-folding-at p.target a (one.Local r) e)
  register-by a (one.Static i) e h = absurd (contrary (is_some (place_effects_of f a).register) h (ap (λ (q : PlaceEffects). is_some q.register) (place-effects-at p f a (one.Static i) e)))
  register-by a (one.Device i) e h = absurd (contrary (is_some (place_effects_of f a).register) h (ap (λ (q : PlaceEffects). is_some q.register) (place-effects-at p f a (one.Device i) e)))
  register-by a (one.Element b i) e h = absurd (contrary (is_some (place_effects_of f a).register) h (ap (λ (q : PlaceEffects). is_some q.register) (place-effects-at p f a (one.Element b i) e)))
  register-by a (one.Member b i) e h = absurd (contrary (is_some (place_effects_of f a).register) h (ap (λ (q : PlaceEffects). is_some q.register) (place-effects-at p f a (one.Member b i) e)))
  register-by a (one.Deref b) e h = absurd (contrary (is_some (place_effects_of f a).register) h (ap (λ (q : PlaceEffects). is_some q.register) (place-effects-at p f a (one.Deref b) e)))

  pub register-operands : (a : Place) → is_some (place_effects_of f a).register ≡ true → IsOfOperands a
  register-operands a h = register-by a (out-Place a) refl h

  soft-some : (o : Option ℕ) → is_soft o no_one ≡ true → is_some o ≡ true
  soft-some None h = absurd (cc)
  soft-some (Some r) h = refl

  pub soft-operands : (a : Place) → is_soft (place_effects_of f a).register no_one ≡ true → IsOfOperands a
  soft-operands a h = register-operands a (soft-some (place_effects_of f a).register h)

  pub other-operands : (a : Place) → is_other_place p.target f a ≡ true → IsOfOperands a
  other-operands a h =
      let k = both_true (not (is_register_place p.target f a)) ((place_effects_of f a).pure no_one && is_folded_place p.target a) h in
      both_true ((place_effects_of f a).pure no_one) (is_folded_place p.target a) k.1

  kind-by : (r : Expr) (a b c : Bool) → is_operand p.target f r ≡ a → is_place_read p.target f (form_of r) ≡ b → is_call p.target f (form_of r) ≡ c → (a || (b || c)) ≡ true → RightKind r
  kind-by r true b c e g h k = AnOperand e
  kind-by r false true c e g h k = ARead g
  kind-by r false false true e g h k = ACall h
  kind-by r false false false e g h k = absurd (cc)

  assignment-by : (a : Place) (r : Expr) (b : Bool) → is_register_place p.target f a ≡ b →
      (if b then is_operand p.target f r || (is_place_read p.target f (form_of r) || is_call p.target f (form_of r)) else (is_other_place p.target f a && is_operand p.target f r)) ≡ true → IsOfOperands a × RightKind r
  assignment-by a r true e h = (register-operands a e, kind-by r (is_operand p.target f r) (is_place_read p.target f (form_of r)) (is_call p.target f (form_of r)) refl refl refl h)
  assignment-by a r false e h = let k = both_true (is_other_place p.target f a) (is_operand p.target f r) h in (other-operands a k.0, AnOperand k.1)

  pub assignment-normal : (a : Place) (r : Expr) → is_assignment p.target f a r ≡ true → IsOfOperands a × RightKind r
  assignment-normal a r h = assignment-by a r (is_register_place p.target f a) refl h

  -- the types of its parts
  pub record AssignParts (a : Place) (r : Expr) (v : ValueType) : Type 0 where
    pub own : PlaceType
    pub right : ValueType
    pub placed : place_type p f.locals a ≡ Some own
    pub written : written_to own ≡ Some v
    pub typed : type_of p f.locals r ≡ Some right
    pub assignable : is_assignable v right ≡ true

  pub assign-parts : (e : Expr) (a : Place) (r : Expr) (v : ValueType) → out-Expr e ≡ one.Assign a r → type_of p f.locals e ≡ Some v → AssignParts a r v
  assign-parts e a r v h t =
      let q = two-is (of_one (place_type p f.locals a) written_to) (type_of p f.locals r) assignment_type v (sym (type-at p f e (one.Assign a r) h) ∙ t) in
      let k = one-is (place_type p f.locals a) written_to q.0 q.2 in
      let w = when-is (is_assignable q.0 q.1) q.0 v q.4 in
      record {
        own = k.0;
        right = q.1;
        placed = k.1;
        written = k.2 ∙ ap (λ (u : ValueType). Some u) (sym w.1);
        typed = q.3;
        assignable = ap (λ (u : ValueType). is_assignable u q.1) w.1 ∙ w.0;
      }
