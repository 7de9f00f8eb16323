-- Lowered expressions and places, opened at one level; and what is known of them before they run.
use Rattle.std.proofs.Common.{◌≡◌, ◌+◌, ℕ, List, [], ◌∷◌, ◌++◌, length, Option, refl, ap, ◌∙◌, append_assoc}
use Rattle.std.specs.Prelude.{option_and_then, if◌then◌else◌}
use Rattle.std.proofs.lemmas.List.{append-nil}
use Rattle.cc_program.specs.declared.expr.Expr.{Expr, Load, out-Expr, map-Expr, fold_out-Expr}
use Rattle.cc_program.specs.declared.expr.Expr.TheOpen as one
use Rattle.cc_program.specs.declared.expr.Place.{Place, out-Place, map-Place, fold_out-Place}
use Rattle.cc_program.specs.declared.func.Func.{Func}
use Rattle.cc_program.specs.declared.program.Program.{Program}
use Rattle.cc_program.specs.declared.stmt.Stmt.{Stmt, If}
use Rattle.cc_program.proofs.FoldFusion.{fused, place_fused}
use Rattle.cc_syntax.specs.Effects.{Registers, Effects, PlaceEffects, also, is_soft, effect_step, place_effect_step, effects_of, place_effects_of}
use Rattle.cc_syntax.specs.Expressions as typing
use Rattle.cc_syntax.specs.Programs.{expr_step, place_step, type_of, place_type}
use Rattle.cc_syntax.specs.Values.{ValueType, read_from}
use Rattle.cc_lower_expressions.specs.Expressions.{Temps, Piece, piece, Make, done, onto, into, temp, Lowering, PlaceLowering, lower_step, place_lower_step, lowering, place_lowering, from_two, read_at, value_of, branch}
use Rattle.cc_lower_expressions.specs.Temporaries.{declared_type, is_same_type}
use Rattle.cc_lower_accesses.specs.Modes.{lowered, place_lowered, value_type, operand_of, place_of, pair_of, placed_of, read_of}

-- ---- pieces

pub branch-is : (t : Option ValueType) (c : Make Expr) (these those : ℕ → Make (Unit {0})) (k : ℕ) →
    branch t c these those k ≡
    (let x = c k in let n = k + length x.temps in let y = these n (n + 1) in let z = those n (n + 1 + length y.temps) in
    piece (x.temps ++ t ∷ (y.temps ++ z.temps)) (x.stmts ++ If x.value y.stmts z.stmts ∷ []) (temp n))
branch-is t c these those k =
    let x = c k in let n = k + length x.temps in let y = these n (n + 1) in let z = those n (n + 1 + length y.temps) in
    ap (λ (ts : Temps). piece (x.temps ++ t ∷ ts) (x.stmts ++ If x.value y.stmts z.stmts ∷ []) (temp n)) (append-nil (y.temps ++ z.temps))

-- a step, a value in between, and a step behind it
pub then-assoc : {A B C : Type 0} (x : Piece A) (y : Piece B) (z : Piece C) → onto (onto x y) z ≡ onto x (onto y z)
then-assoc x y z =
    ap (λ (ts : Temps). piece ts ((x.stmts ++ y.stmts) ++ z.stmts) z.value) (append_assoc x.temps y.temps z.temps) ∙
    ap (λ (ss : List Stmt). piece (x.temps ++ (y.temps ++ z.temps)) ss z.value) (append_assoc x.stmts y.stmts z.stmts)

pub none-behind : {A : Type 0} (ts : Temps) (ss : List Stmt) (v : A) → piece (ts ++ []) ss v ≡ piece ts ss v
none-behind ts ss v = ap (λ (us : Temps). piece us ss v) (append-nil ts)

module _ (p : Program) (f : Func) where
  -- ---- one level

  abbrev pub level : one.Expr-F Expr Place → Lowering
  level x = lower_step p f declared_type is_same_type (map-Expr Expr Place Lowering PlaceLowering (lowering p f declared_type is_same_type) (place_lowering p f declared_type is_same_type) x)

  abbrev pub place_level : one.Place-F Expr Place → PlaceLowering
  place_level x =
      place_lower_step p f declared_type is_same_type (map-Place Expr Place Lowering PlaceLowering (lowering p f declared_type is_same_type) (place_lowering p f declared_type is_same_type) x)

  low-out : (e : Expr) → lowering p f declared_type is_same_type e ≡ level (out-Expr e)
  unfolding lowering place_lowering
  low-out e = fold_out-Expr Lowering PlaceLowering (lower_step p f declared_type is_same_type) (place_lower_step p f declared_type is_same_type) e

  place-low-out : (a : Place) → place_lowering p f declared_type is_same_type a ≡ place_level (out-Place a)
  unfolding lowering place_lowering
  place-low-out a = fold_out-Place Lowering PlaceLowering (lower_step p f declared_type is_same_type) (place_lower_step p f declared_type is_same_type) a

  pub low-at : (e : Expr) (x : one.Expr-F Expr Place) → out-Expr e ≡ x → lowering p f declared_type is_same_type e ≡ level x
  low-at e x h = low-out e ∙ ap level h

  pub place-low-at : (a : Place) (x : one.Place-F Expr Place) → out-Place a ≡ x → place_lowering p f declared_type is_same_type a ≡ place_level x
  place-low-at a x h = place-low-out a ∙ ap place_level h

  -- ---- before it runs

  pub low-type : (e : Expr) → (lowering p f declared_type is_same_type e).ctype ≡ type_of p f.locals e
  unfolding lowering typing.type_of
  low-type e =
      fused (lower_step p f declared_type is_same_type) (place_lower_step p f declared_type is_same_type) (expr_step p f.locals) (place_step p f.locals) (λ l. l.ctype) (λ l. l.ctype) (λ x. refl) (λ x. refl) e

  pub low-effects : (e : Expr) → (lowering p f declared_type is_same_type e).effects ≡ effects_of f e
  unfolding lowering effects_of
  low-effects e =
      fused (lower_step p f declared_type is_same_type) (place_lower_step p f declared_type is_same_type) effect_step (place_effect_step f) (λ l. l.effects) (λ l. l.effects) (λ x. refl) (λ x. refl) e

  pub place-low-type : (a : Place) → (place_lowering p f declared_type is_same_type a).ctype ≡ place_type p f.locals a
  unfolding place_lowering typing.place_type
  place-low-type a =
      place_fused (lower_step p f declared_type is_same_type) (place_lower_step p f declared_type is_same_type) (expr_step p f.locals) (place_step p f.locals) (λ l. l.ctype) (λ l. l.ctype) (λ x. refl) (λ x. refl) a

  pub place-low-effects : (a : Place) → (place_lowering p f declared_type is_same_type a).effects ≡ place_effects_of f a
  unfolding place_lowering place_effects_of
  place-low-effects a =
      place_fused (lower_step p f declared_type is_same_type) (place_lower_step p f declared_type is_same_type) effect_step (place_effect_step f) (λ l. l.effects) (λ l. l.effects) (λ x. refl) (λ x. refl) a

  -- what is read from a place
  pub value-is : (a : Place) → value_of (place_lowering p f declared_type is_same_type a) ≡ value_type p f a
  value-is a = ap (option_and_then read_from) (place-low-type a)

  pub read-is : (a : Place) (L : Registers) (b : Place) → read_at (place_lowering p f declared_type is_same_type a) L b ≡ read_of p f a L b
  unfolding read_of
  read-is a L b =
      ap (λ (w : PlaceEffects). if is_soft w.register L then done (Load b) else into (value_of (place_lowering p f declared_type is_same_type a)) (Load b)) (place-low-effects a) ∙
      ap (λ (t : Option ValueType). if is_soft (place_effects_of f a).register L then done (Load b) else into t (Load b)) (value-is a)

  -- ---- two operands

  pub pair-is : (a b : Expr) (L : Registers) (k : ℕ) →
      pair_of p f a b L k ≡
      (let x = operand_of p f a (also (effects_of f b).assigned L) k in let y = operand_of p f b L (k + length x.temps) in piece (x.temps ++ y.temps) (x.stmts ++ y.stmts) (x.value, y.value))
  unfolding pair_of operand_of
  pair-is a b L k = ap (λ (w : Effects). from_two (λ x y. (x, y)) w.assigned (lowered p f a).operand (lowered p f b).operand L k) (low-effects b)

  pub placed-is : (a : Place) (e : Expr) (L : Registers) (k : ℕ) →
      placed_of p f a e L k ≡
      (let x = place_of p f a (also (effects_of f e).assigned L) k in let y = operand_of p f e L (k + length x.temps) in piece (x.temps ++ y.temps) (x.stmts ++ y.stmts) (x.value, y.value))
  unfolding placed_of place_of operand_of
  placed-is a e L k = ap (λ (w : Effects). from_two (λ x y. (x, y)) w.assigned (place_lowered p f a).operands (lowered p f e).operand L k) (low-effects e)
