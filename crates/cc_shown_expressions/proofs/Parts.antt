-- What it says of the parts of an expression that it is an operand of a program in normal form: has a scalar type, is pure
-- and folded.
use Rattle.std.proofs.Common.{◌≡◌, Bool, true, false, ◌&&◌, Option, Some, refl, ap, sym, ◌∙◌, subst}
use Rattle.cc_program.specs.CcNum.declared.int_type.IntType.{IntType}
use Rattle.cc_program.specs.CcNum.declared.int_type.IntType.TheVariants as int
use Rattle.cc_program.specs.CcNum.declared.op.BinOp.{BinOp}
use Rattle.cc_program.specs.CcNum.declared.op.UnOp.{UnOp}
use Rattle.cc_program.specs.CcNum.Results.{is_shift}
use Rattle.cc_program.specs.declared.expr.Expr.{Expr, out-Expr, map-Expr}
use Rattle.cc_program.specs.declared.expr.Expr.TheOpen as one
use Rattle.cc_program.specs.declared.expr.Place.{Place}
use Rattle.cc_program.specs.declared.func.Func.{Func}
use Rattle.cc_program.specs.declared.program.Program.{Program}
use Rattle.cc_terms.specs.CcSyntax.Effects.{Effects, PlaceEffects, no_one, effect_step, effects_of, place_effects_of}
use Rattle.cc_terms.specs.CcSyntax.Expressions.{of_two}
use Rattle.cc_terms.specs.CcSyntax.Programs.{expr_step, type_of, place_type}
use Rattle.cc_terms.specs.CcSyntax.Folding.{Constant, NoConstant, has_value, unary_constant, binary_constant, converted_constant, both_constant, either_constant, operation, constant_of, is_folded}
use Rattle.cc_terms.specs.CcSyntax.Operators.{is_promoted, is_of, second_fits, binary_result, unary_result, is_integer, is_comparison, points_to_object, has_difference, difference_type, unary_type, conversion_type, binary_type, moved_type, gap_type, comparison_type, logical_type}
use Rattle.cc_terms.specs.CcSyntax.Values.{ValueType, NoValue, Integer, ToObject, ToFunction, PlaceType, is_scalar, point_alike}
use Rattle.cc_terms.proofs.CcSyntax.Prefixes.{both_true}
use Rattle.cc_shown_expressions.specs.Normal.{HasOperand}
use Rattle.cc_shown_expressions.proofs.Levels.{one-is, two-is, when-is, type-at, effects-at, constant-at, folded-at, folded_in, operation-is}
use Rattle.cc_shown_expressions.proofs.Rules.{of-is, integer-is, alike-scalars, points-scalar}

module _ (p : Program) (f : Func) where
  pure-at : (e : Expr) (v : ValueType) (x : one.Expr-F Expr Place) → out-Expr e ≡ x → HasOperand p f e v → (effect_step (map-Expr Expr Place Effects PlaceEffects (effects_of f) (place_effects_of f) x)).pure no_one ≡ true
  pure-at e v x h k = sym (ap (λ (g : Effects). g.pure no_one) (effects-at p f e x h)) ∙ k.pure

  folds-at : (e : Expr) (v : ValueType) (x : one.Expr-F Expr Place) → out-Expr e ≡ x → HasOperand p f e v → (folded_in p.target x).is_folded ≡ true
  folds-at e v x h k = sym (folded-at p.target e x h) ∙ k.folded

  typed-at : (e : Expr) (v : ValueType) (x : one.Expr-F Expr Place) → out-Expr e ≡ x → HasOperand p f e v → expr_step p f.locals (map-Expr Expr Place (Option ValueType) (Option PlaceType) (type_of p f.locals) (place_type p f.locals) x) ≡ Some v
  typed-at e v x h k = sym (type-at p f e x h) ∙ k.typed

  -- ---- operators on integers

  pub record UnaryParts (o : UnOp) (t : IntType) (a e : Expr) (v : ValueType) : Type 0 where
    pub part : HasOperand p f a (Integer t)
    pub promoted : is_promoted p.target t ≡ true
    pub type : v ≡ Integer (unary_result o t)
    pub constant : constant_of p.target e ≡ unary_constant p.target o t (constant_of p.target a)
    pub valueless : has_value (unary_constant p.target o t (constant_of p.target a)) ≡ false

  pub unary-parts : (o : UnOp) (t : IntType) (a e : Expr) (v : ValueType) → out-Expr e ≡ one.Un o t a → HasOperand p f e v → UnaryParts o t a e v
  unary-parts o t a e v h k =
      let r = one-is (type_of p f.locals a) (unary_type p.target o t) v (typed-at e v (one.Un o t a) h k) in
      let w = when-is (is_promoted p.target t && is_of t r.0) (Integer (unary_result o t)) v r.2 in
      let b = both_true (is_promoted p.target t) (is_of t r.0) w.0 in
      let g = operation-is p.target (unary_constant p.target o t (constant_of p.target a)) (is_folded p.target a) (folds-at e v (one.Un o t a) h k) in
      record {
        part = record { typed = r.1 ∙ ap (λ (u : ValueType). Some u) (of-is t r.0 b.1); scalar = refl; pure = pure-at e v (one.Un o t a) h k; folded = g.0 };
        promoted = b.0;
        type = w.1;
        constant = constant-at p.target e (one.Un o t a) h;
        valueless = g.1;
      }

  pub record ConversionParts (t : IntType) (a e : Expr) (v : ValueType) : Type 0 where
    pub own : IntType
    pub part : HasOperand p f a (Integer own)
    pub type : v ≡ Integer t
    pub constant : constant_of p.target e ≡ converted_constant p.target t (constant_of p.target a)
    pub valueless : has_value (converted_constant p.target t (constant_of p.target a)) ≡ false

  pub conversion-parts : (t : IntType) (a e : Expr) (v : ValueType) → out-Expr e ≡ one.Conv t a → HasOperand p f e v → ConversionParts t a e v
  conversion-parts t a e v h k =
      let r = one-is (type_of p f.locals a) (conversion_type t) v (typed-at e v (one.Conv t a) h k) in
      let w = when-is (is_integer r.0) (Integer t) v r.2 in
      let i = integer-is r.0 w.0 in
      let g = operation-is p.target (converted_constant p.target t (constant_of p.target a)) (is_folded p.target a) (folds-at e v (one.Conv t a) h k) in
      record {
        own = i.0;
        part = record { typed = r.1 ∙ ap (λ (u : ValueType). Some u) i.1; scalar = refl; pure = pure-at e v (one.Conv t a) h k; folded = g.0 };
        type = w.1;
        constant = constant-at p.target e (one.Conv t a) h;
        valueless = g.1;
      }

  second-is : (o : BinOp) (t : IntType) (u : ValueType) → second_fits p.target o t u ≡ true → (s : IntType) × (u ≡ Integer s)
  second-is o t u h = by (is_shift o) refl u h where
    by : (b : Bool) → is_shift o ≡ b → (u : ValueType) → second_fits p.target o t u ≡ true → (s : IntType) × (u ≡ Integer s)
    by b e (Integer s) h = (s, refl)
    by true e NoValue h = absurd (cc (rw e at h))
    by true e (ToObject c v w) h = absurd (cc (rw e at h))
    by true e (ToFunction s) h = absurd (cc (rw e at h))
    by false e NoValue h = absurd (cc (rw e at h))
    by false e (ToObject c v w) h = absurd (cc (rw e at h))
    by false e (ToFunction s) h = absurd (cc (rw e at h))

  pub record BinaryParts (o : BinOp) (t : IntType) (a b e : Expr) (v : ValueType) : Type 0 where
    pub second : IntType
    pub left : HasOperand p f a (Integer t)
    pub right : HasOperand p f b (Integer second)
    pub promoted : is_promoted p.target t ≡ true
    pub fits : second_fits p.target o t (Integer second) ≡ true
    pub type : v ≡ Integer (binary_result o t)
    pub constant : constant_of p.target e ≡ binary_constant p.target o t (constant_of p.target a) (constant_of p.target b)
    pub valueless : has_value (binary_constant p.target o t (constant_of p.target a) (constant_of p.target b)) ≡ false

  pub binary-parts : (o : BinOp) (t : IntType) (a b e : Expr) (v : ValueType) → out-Expr e ≡ one.Bin o t a b → HasOperand p f e v → BinaryParts o t a b e v
  binary-parts o t a b e v h k =
      let r = two-is (type_of p f.locals a) (type_of p f.locals b) (binary_type p.target o t) v (typed-at e v (one.Bin o t a b) h k) in
      let w = when-is (is_promoted p.target t && (is_of t r.0 && second_fits p.target o t r.1)) (Integer (binary_result o t)) v r.4 in
      let x = both_true (is_promoted p.target t) (is_of t r.0 && second_fits p.target o t r.1) w.0 in
      let y = both_true (is_of t r.0) (second_fits p.target o t r.1) x.1 in
      let s = second-is o t r.1 y.1 in
      let g = operation-is p.target (binary_constant p.target o t (constant_of p.target a) (constant_of p.target b)) (is_folded p.target a && is_folded p.target b) (folds-at e v (one.Bin o t a b) h k) in
      let z = both_true (is_folded p.target a) (is_folded p.target b) g.0 in
      let q = both_true ((effects_of f a).pure no_one) ((effects_of f b).pure no_one) (pure-at e v (one.Bin o t a b) h k) in
      record {
        second = s.0;
        left = record { typed = r.2 ∙ ap (λ (u : ValueType). Some u) (of-is t r.0 y.0); scalar = refl; pure = q.0; folded = z.0 };
        right = record { typed = r.3 ∙ ap (λ (u : ValueType). Some u) s.1; scalar = refl; pure = q.1; folded = z.1 };
        promoted = x.0;
        fits = subst (λ (u : ValueType). second_fits p.target o t u ≡ true) s.1 y.1;
        type = w.1;
        constant = constant-at p.target e (one.Bin o t a b) h;
        valueless = g.1;
      }

  -- ---- operators on two operands, of which no constants come

  pub record TwoParts (a b : Expr) (u w : ValueType) : Type 0 where
    pub left : HasOperand p f a u
    pub right : HasOperand p f b w

  two-parts : (a b : Expr) (u w : ValueType) → type_of p f.locals a ≡ Some u → type_of p f.locals b ≡ Some w → is_scalar u ≡ true → is_scalar w ≡ true → ((effects_of f a).pure no_one && (effects_of f b).pure no_one) ≡ true → (is_folded p.target a && is_folded p.target b) ≡ true → TwoParts a b u w
  two-parts a b u w h k i j q z =
      let x = both_true ((effects_of f a).pure no_one) ((effects_of f b).pure no_one) q in
      let y = both_true (is_folded p.target a) (is_folded p.target b) z in
      record { left = record { typed = h; scalar = i; pure = x.0; folded = y.0 }; right = record { typed = k; scalar = j; pure = x.1; folded = y.1 } }

  pub record MoveParts (a b e : Expr) (v : ValueType) : Type 0 where
    pub second : IntType
    pub parts : TwoParts a b v (Integer second)
    pub points : points_to_object p.structures v ≡ true
    pub constant : constant_of p.target e ≡ NoConstant

  pub move-parts : (a b e : Expr) (back : Bool) (v : ValueType) → out-Expr e ≡ one.Move a b back → HasOperand p f e v → MoveParts a b e v
  move-parts a b e back v h k =
      let r = two-is (type_of p f.locals a) (type_of p f.locals b) (moved_type p.structures) v (typed-at e v (one.Move a b back) h k) in
      let w = when-is (points_to_object p.structures r.0 && is_integer r.1) r.0 v r.4 in
      let x = both_true (points_to_object p.structures r.0) (is_integer r.1) w.0 in
      let i = integer-is r.1 x.1 in
      let points : points_to_object p.structures v ≡ true = ap (points_to_object p.structures) w.1 ∙ x.0 in
      record {
        second = i.0;
        parts = two-parts a b v (Integer i.0) (r.2 ∙ ap (λ (u : ValueType). Some u) (sym w.1)) (r.3 ∙ ap (λ (u : ValueType). Some u) i.1) (points-scalar p.structures v points) refl (pure-at e v (one.Move a b back) h k) (folds-at e v (one.Move a b back) h k);
        points = points;
        constant = constant-at p.target e (one.Move a b back) h;
      }

  pub record GapParts (a b e : Expr) (v : ValueType) : Type 0 where
    pub first : ValueType
    pub second : ValueType
    pub parts : TwoParts a b first second
    pub alike : point_alike first second ≡ true
    pub differs : has_difference p.structures first ≡ true
    pub type : v ≡ Integer (difference_type p.target)
    pub constant : constant_of p.target e ≡ NoConstant

  pub gap-parts : (a b e : Expr) (v : ValueType) → out-Expr e ≡ one.Gap a b → HasOperand p f e v → GapParts a b e v
  gap-parts a b e v h k =
      let r = two-is (type_of p f.locals a) (type_of p f.locals b) (gap_type p.structures p.target) v (typed-at e v (one.Gap a b) h k) in
      let w = when-is (point_alike r.0 r.1 && has_difference p.structures r.0) (Integer (difference_type p.target)) v r.4 in
      let x = both_true (point_alike r.0 r.1) (has_difference p.structures r.0) w.0 in
      let s = alike-scalars r.0 r.1 x.0 in
      record {
        first = r.0;
        second = r.1;
        parts = two-parts a b r.0 r.1 r.2 r.3 s.0 s.1 (pure-at e v (one.Gap a b) h k) (folds-at e v (one.Gap a b) h k);
        alike = x.0;
        differs = x.1;
        type = w.1;
        constant = constant-at p.target e (one.Gap a b) h;
      }

  pub record CompareParts (o : BinOp) (a b e : Expr) (v : ValueType) : Type 0 where
    pub first : ValueType
    pub second : ValueType
    pub parts : TwoParts a b first second
    pub compares : is_comparison o ≡ true
    pub alike : point_alike first second ≡ true
    pub type : v ≡ Integer int.Int
    pub constant : constant_of p.target e ≡ NoConstant

  pub compare-parts : (o : BinOp) (a b e : Expr) (v : ValueType) → out-Expr e ≡ one.Compare o a b → HasOperand p f e v → CompareParts o a b e v
  compare-parts o a b e v h k =
      let r = two-is (type_of p f.locals a) (type_of p f.locals b) (comparison_type o) v (typed-at e v (one.Compare o a b) h k) in
      let w = when-is (is_comparison o && point_alike r.0 r.1) (Integer int.Int) v r.4 in
      let x = both_true (is_comparison o) (point_alike r.0 r.1) w.0 in
      let s = alike-scalars r.0 r.1 x.1 in
      record {
        first = r.0;
        second = r.1;
        parts = two-parts a b r.0 r.1 r.2 r.3 s.0 s.1 (pure-at e v (one.Compare o a b) h k) (folds-at e v (one.Compare o a b) h k);
        compares = x.0;
        alike = x.1;
        type = w.1;
        constant = constant-at p.target e (one.Compare o a b) h;
      }

  pub record LogicalParts (a b e : Expr) (v : ValueType) (c : Constant) : Type 0 where
    pub first : ValueType
    pub second : ValueType
    pub parts : TwoParts a b first second
    pub type : v ≡ Integer int.Int
    pub constant : constant_of p.target e ≡ c
    pub valueless : has_value c ≡ false

  logical-parts : (a b e : Expr) (v : ValueType) (c : Constant) → of_two (type_of p f.locals a) (type_of p f.locals b) logical_type ≡ Some v → ((effects_of f a).pure no_one && (effects_of f b).pure no_one) ≡ true →
      (operation c (is_folded p.target a && is_folded p.target b)).is_folded ≡ true → constant_of p.target e ≡ c → LogicalParts a b e v c
  logical-parts a b e v c t q z i =
      let r = two-is (type_of p f.locals a) (type_of p f.locals b) logical_type v t in
      let w = when-is (is_scalar r.0 && is_scalar r.1) (Integer int.Int) v r.4 in
      let s = both_true (is_scalar r.0) (is_scalar r.1) w.0 in
      let g = operation-is p.target c (is_folded p.target a && is_folded p.target b) z in
      record { first = r.0; second = r.1; parts = two-parts a b r.0 r.1 r.2 r.3 s.0 s.1 q g.0; type = w.1; constant = i; valueless = g.1 }

  pub both-parts : (a b e : Expr) (v : ValueType) → out-Expr e ≡ one.Both a b → HasOperand p f e v → LogicalParts a b e v (both_constant (constant_of p.target a) (constant_of p.target b))
  both-parts a b e v h k = logical-parts a b e v (both_constant (constant_of p.target a) (constant_of p.target b)) (typed-at e v (one.Both a b) h k) (pure-at e v (one.Both a b) h k) (folds-at e v (one.Both a b) h k) (constant-at p.target e (one.Both a b) h)

  pub either-parts : (a b e : Expr) (v : ValueType) → out-Expr e ≡ one.Either a b → HasOperand p f e v → LogicalParts a b e v (either_constant (constant_of p.target a) (constant_of p.target b))
  either-parts a b e v h k = logical-parts a b e v (either_constant (constant_of p.target a) (constant_of p.target b)) (typed-at e v (one.Either a b) h k) (pure-at e v (one.Either a b) h k) (folds-at e v (one.Either a b) h k) (constant-at p.target e (one.Either a b) h)
