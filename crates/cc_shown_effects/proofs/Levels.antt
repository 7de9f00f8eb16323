-- What it says of a statement and a case at a level that they are sound and in normal form, which devices they use, and with
-- other numbers.
use Rattle.std.specs.Prelude.{ℤ}
use Rattle.std.proofs.Common.{◌≡◌, ℕ, Bool, true, List, map, Option, Some, None, refl, ap, ◌∙◌}
use Rattle.std.specs.List.{list_all, flat_map}
use Rattle.std.specs.Option.{is_some}
use Rattle.cc_program.specs.CcNum.declared.int_type.IntType.{IntType}
use Rattle.cc_program.specs.CcNum.declared.target.Target.{Target}
use Rattle.cc_program.specs.declared.expr.Expr.{Expr, out-Expr}
use Rattle.cc_program.specs.declared.expr.Expr.TheOpen as one
use Rattle.cc_program.specs.declared.expr.Place.{Place}
use Rattle.cc_program.specs.declared.func.Func.{Func}
use Rattle.cc_program.specs.declared.program.Program.{Program}
use Rattle.cc_program.specs.declared.stmt.Case.{Case, out-Case, roll-Case, fold-Case, fold_out-Case}
use Rattle.cc_program.specs.declared.stmt.Stmt.{Stmt, out-Stmt, map-Stmt, fold_out-Stmt}
use Rattle.cc_program.specs.declared.stmt.Stmt.TheOpen as is
use Rattle.cc_typed_bodies.specs.CcSyntax.Effects.{no_one, effects_of}
use Rattle.cc_typed_bodies.specs.CcSyntax.Folding.{is_folded}
use Rattle.cc_typed_bodies.specs.CcSyntax.Forms.{form_at, form_of}
use Rattle.cc_typed_bodies.specs.CcSyntax.Normal.{is_one, is_operand, normal_step, is_normal_stmt, devices_step, devices_of}
use Rattle.cc_typed_bodies.specs.CcSyntax.Operators.{is_promoted}
use Rattle.cc_typed_bodies.specs.CcSyntax.Programs.{type_of, sound_step, is_sound_stmt}
use Rattle.cc_typed_bodies.specs.CcSyntax.Statements.{SoundWhere, Labelled, sound_case, is_condition, label_fits, labels_fit}
use Rattle.cc_typed_bodies.specs.CcSyntax.Values.{ValueType, NoValue, Integer, ToObject, ToFunction, is_scalar, is_assignable, is_assignable_some}
use Rattle.cc_typed_bodies.proofs.CcSyntax.Prefixes.{both_true}
use Rattle.cc_unit_trees.proofs.Lines.{one-pure}
use Rattle.cc_shown_effects.specs.Numbers.{stmt_step, case_step, stmt_numbered, case_numbered}
use Rattle.cc_shown_expressions.specs.Normal.{HasOperand}
use Rattle.cc_shown_expressions.specs.OperationNumbers.{Numbers}
use Rattle.cc_shown_expressions.proofs.Levels.{folded-at}

-- ---- types that are there

pub some-is : {A : Type 0} → (o : Option A) → is_some o ≡ true → (x : A) × (o ≡ Some x)
some-is None h = absurd (cc)
some-is (Some x) h = (x, refl)

pub condition-is : (o : Option ValueType) → is_condition o ≡ true → (v : ValueType) × (o ≡ Some v) × (is_scalar v ≡ true)
condition-is None h = absurd (cc)
condition-is (Some v) h = (v, refl, h)

pub labels-are : (target : Target) (ls : List (Option ℤ)) (o : Option ValueType) → labels_fit target ls o ≡ true → (t : IntType) × (o ≡ Some (Integer t)) × (is_promoted target t ≡ true) × (list_all (label_fits target t) ls ≡ true)
labels-are target ls None h = absurd (cc)
labels-are target ls (Some NoValue) h = absurd (cc)
labels-are target ls (Some (Integer t)) h = let q = both_true (is_promoted target t) (list_all (label_fits target t) ls) h in (t, refl, q.0, q.1)
labels-are target ls (Some (ToObject c v t)) h = absurd (cc)
labels-are target ls (Some (ToFunction s)) h = absurd (cc)

pub assigned-is : (to o : Option ValueType) → is_assignable_some to o ≡ true → (w : ValueType) × (v : ValueType) × (to ≡ Some w) × (o ≡ Some v) × (is_assignable w v ≡ true)
assigned-is None o h = absurd (cc)
assigned-is (Some w) None h = absurd (cc)
assigned-is (Some w) (Some v) h = (w, v, refl, refl, h)

-- ---- levels

pub devices_in_case : Case → List ℕ
devices_in_case c = fold-Case (List ℕ) (List ℕ) devices_step (λ c. flat_map (λ ds. ds) c.body) c

pub devices-at : (t : Stmt) (y : is.Stmt-F Stmt Case) → out-Stmt t ≡ y → devices_of t ≡ devices_step (map-Stmt Stmt Case (List ℕ) (List ℕ) devices_of devices_in_case y)
unfolding devices_in_case
devices-at t y h = fold_out-Stmt (List ℕ) (List ℕ) devices_step (λ c. flat_map (λ ds. ds) c.body) t ∙ ap (λ y. devices_step (map-Stmt Stmt Case (List ℕ) (List ℕ) devices_of devices_in_case y)) h

pub case-devices : (c : Case) → devices_in_case c ≡ flat_map (λ ds. ds) (map devices_of (out-Case c).body)
unfolding devices_in_case
case-devices c = fold_out-Case (List ℕ) (List ℕ) devices_step (λ c. flat_map (λ ds. ds) c.body) c

module _ (p : Program) (f : Func) where
  abbrev pub all_normal : List Stmt → Bool
  all_normal ss = list_all (λ b. b) (map (is_normal_stmt p.target f) ss)

  abbrev pub all_sound : Bool → Bool → List Stmt → Bool
  all_sound breaks continues ss = list_all (λ g. g breaks continues) (map (is_sound_stmt p f) ss)

  pub normal_in : Case → Bool
  normal_in c = fold-Case Bool Bool (normal_step p.target f) (λ c. list_all (λ b. b) c.body) c

  pub sound_in : Case → Labelled
  sound_in c = fold-Case SoundWhere Labelled (sound_step p f) sound_case c

  pub normal-at : (t : Stmt) (y : is.Stmt-F Stmt Case) → out-Stmt t ≡ y → is_normal_stmt p.target f t ≡ normal_step p.target f (map-Stmt Stmt Case Bool Bool (is_normal_stmt p.target f) normal_in y)
  unfolding normal_in
  normal-at t y h = fold_out-Stmt Bool Bool (normal_step p.target f) (λ c. list_all (λ b. b) c.body) t ∙ ap (λ y. normal_step p.target f (map-Stmt Stmt Case Bool Bool (is_normal_stmt p.target f) normal_in y)) h

  pub sound-at : (t : Stmt) (y : is.Stmt-F Stmt Case) → out-Stmt t ≡ y → is_sound_stmt p f t ≡ sound_step p f (map-Stmt Stmt Case SoundWhere Labelled (is_sound_stmt p f) sound_in y)
  unfolding sound_in
  sound-at t y h = fold_out-Stmt SoundWhere Labelled (sound_step p f) sound_case t ∙ ap (λ y. sound_step p f (map-Stmt Stmt Case SoundWhere Labelled (is_sound_stmt p f) sound_in y)) h

  pub case-normal : (c : Case) → normal_in c ≡ all_normal (out-Case c).body
  unfolding normal_in
  case-normal c = fold_out-Case Bool Bool (normal_step p.target f) (λ c. list_all (λ b. b) c.body) c

  pub case-labels : (c : Case) → (sound_in c).labels ≡ (out-Case c).labels
  unfolding sound_in
  case-labels c = ap (λ (l : Labelled). l.labels) (fold_out-Case SoundWhere Labelled (sound_step p f) sound_case c)

  pub case-sound : (c : Case) (breaks continues : Bool) → (sound_in c).body breaks continues ≡ all_sound breaks continues (out-Case c).body
  unfolding sound_in
  case-sound c breaks continues = ap (λ (l : Labelled). l.body breaks continues) (fold_out-Case SoundWhere Labelled (sound_step p f) sound_case c)

  -- ---- what statements have as operands

  pub operand-has : (e : Expr) (v : ValueType) → is_operand p.target f e ≡ true → type_of p f.locals e ≡ Some v → is_scalar v ≡ true → HasOperand p f e v
  operand-has e v h t k = let q = both_true ((effects_of f e).pure no_one) (is_folded p.target e) h in record { typed = t; scalar = k; pure = q.0; folded = q.1 }

  one-folded : (e : Expr) (y : one.Expr-F Expr Place) → out-Expr e ≡ y → is_one (form_at y) ≡ true → is_folded p.target e ≡ true
  one-folded e (one.Const m t) o h = folded-at p.target e (one.Const m t) o
  one-folded e _ o h = absurd (cc)

  -- the condition of an endless loop
  pub one-has : (e : Expr) (v : ValueType) → is_one (form_of e) ≡ true → type_of p f.locals e ≡ Some v → is_scalar v ≡ true → HasOperand p f e v
  one-has e v h t k = record { typed = t; scalar = k; pure = one-pure p f e (out-Expr e) refl h; folded = one-folded e (out-Expr e) refl h }

-- ---- with other numbers

module _ (n : Numbers) where
  pub case-numbered : (c : Case) → case_numbered n c ≡ roll-Case (record { labels = (out-Case c).labels; body = map (stmt_numbered n) (out-Case c).body })
  unfolding stmt_numbered case_numbered
  case-numbered c = fold_out-Case Stmt Case (stmt_step n) (case_step n) c
