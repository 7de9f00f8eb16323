-- Statements that are sound over locals as they are declared are so over those of the function.
use Rattle.std.proofs.Common.{◌≡◌, ℤ, Bool, true, List, [], ◌∷◌, map, Option, Some, None, option_map, is_some, refl, ap, sym, ◌∙◌, subst}
use Rattle.cc_program.specs.CcNum.declared.target.Target.{Target}
use Rattle.cc_operands.specs.CcSyntax.Views.{View}
use Rattle.cc_operands.specs.CcSyntax.Expressions.{type_of}
use Rattle.cc_program.specs.declared.expr.Expr.{Expr}
use Rattle.cc_program.specs.declared.stmt.Case.{Case, roll-Case}
use Rattle.cc_program.specs.declared.stmt.Stmt.{Stmt, roll-Stmt}
use Rattle.cc_program.specs.declared.stmt.Stmt.TheOpen as is
use Rattle.cc_program.specs.declared.types.CType.{CType}
use Rattle.cc_program.proofs.Each.{Each, Held}
use Rattle.cc_operands.specs.CcSyntax.Statements.{labels_fit, is_condition, is_sound_stmt, is_sound_body}
use Rattle.cc_operands.specs.CcSyntax.Types.{Named}
use Rattle.cc_operands.specs.CcSyntax.Values.{ValueType, scalar_value}
use Rattle.cc_operand_types.specs.Reduced.{Reduced, Unused, Integers, Pointers, Functions, ReducedLocals}
use Rattle.cc_operand_types.specs.Kept.{Keeps}
use Rattle.cc_operand_types.proofs.Changes.{changed, GoodLevel, IsChange, stmt_stays, body_stays}
use Rattle.cc_operand_types.proofs.Follows.{Follows}
use Rattle.cc_operand_types.proofs.Typed.{reduced_typed}
use Rattle.cc_operand_types.proofs.Values.{scalar_reduced, some_assigned}

-- ---- what statements ask for

there_by : (o p : Option ValueType) → Follows Reduced o p → is_some o ≡ true → is_some p ≡ true
there_by None p f h = absurd (cc)
there_by (Some t) p f h = ap is_some (f t refl).1

condition_by : (o p : Option ValueType) → Follows Reduced o p → is_condition o ≡ true → is_condition p ≡ true
condition_by None p f h = absurd (cc)
condition_by (Some t) p f h = let g = f t refl in ap is_condition g.1 ∙ scalar_reduced g.0 t g.2 h

labels_with : (target : Target) (ls : List (Option ℤ)) (u t : ValueType) → Reduced u t → labels_fit target ls (Some t) ≡ true → labels_fit target ls (Some u) ≡ true
labels_with target ls _ _ (Unused u) h = absurd (cc)
labels_with target ls _ _ (Integers i) h = h
labels_with target ls _ _ (Pointers c v t c' v' u a k l) h = absurd (cc)
labels_with target ls _ _ (Functions s) h = absurd (cc)

labels_by : (target : Target) (ls : List (Option ℤ)) (o p : Option ValueType) → Follows Reduced o p → labels_fit target ls o ≡ true → labels_fit target ls p ≡ true
labels_by target ls None p f h = absurd (cc)
labels_by target ls (Some t) p f h = let g = f t refl in ap (labels_fit target ls) g.1 ∙ labels_with target ls g.0 t g.2 h

pub follows_kept : (target : Target) (result : CType) (o p : Option ValueType) → Follows Reduced o p → Keeps target result result o p
follows_kept target result o p f = record {
  there = there_by o p f;
  condition = condition_by o p f;
  labels = λ ls. labels_by target ls o p f;
  returned = some_assigned (scalar_value result) o p f;
}

-- ---- nothing is changed

all_same : {A : Type 0} (xs : List A) → map (λ (x : A). x) xs ≡ xs
all_same [] = refl
all_same {A} (x ∷ xs) = ap (λ (ys : List A). x ∷ ys) (all_same xs)

one_same : {A : Type 0} (x : Option A) → option_map (λ (x : A). x) x ≡ x
one_same None = refl
one_same (Some x) = refl

unchanged : (x : is.Stmt-F Stmt Case) → changed (λ e. e) (λ s. s) (λ c. c) x ≡ x
unchanged (is.Do e) = refl
unchanged (is.If e a b) = rw (all_same a, all_same b) refl
unchanged (is.While e a) = rw (all_same a) refl
unchanged (is.DoWhile a e) = rw (all_same a) refl
unchanged (is.For first test step a) = rw (one_same first, one_same test, one_same step, all_same a) refl
unchanged (is.Switch e cases) = rw (all_same cases) refl
unchanged is.Break = refl
unchanged is.Continue = refl
unchanged (is.Return e) = rw (one_same e) refl
unchanged is.Empty = refl
unchanged (is.Block a) = rw (all_same a) refl

abbrev Any : {A : Type 0} → A → Type 0
Any x = Unit {0}

any_each : {A : Type 0} (xs : List A) → Each Any xs
any_each [] = tt
any_each (x ∷ xs) = (tt, any_each xs)

any_held : {A : Type 0} (x : Option A) → Held Any x
any_held None = tt
any_held (Some x) = tt

any_level : (x : is.Stmt-F Stmt Case) → GoodLevel Any Any Any x
any_level (is.Do e) = tt
any_level (is.If e a b) = (tt, any_each a, any_each b)
any_level (is.While e a) = (tt, any_each a)
any_level (is.DoWhile a e) = (tt, any_each a)
any_level (is.For first test step a) = (any_held first, any_held test, any_held step, any_each a)
any_level (is.Switch e cases) = (tt, any_each cases)
any_level is.Break = tt
any_level is.Continue = tt
any_level (is.Return e) = any_held e
any_level is.Empty = tt
any_level (is.Block a) = any_each a

module _ (p : View) (locals declared : List Named) (reduced : ReducedLocals locals declared) (result : CType) where
  abbrev old : Expr → Option ValueType
  old e = type_of p declared e

  abbrev new : Expr → Option ValueType
  new e = type_of p locals e

  without_change : IsChange p.target old new result result (λ e. e) (λ s. s) (λ c. c) Any Any Any
  without_change = record {
    keeps = λ e g. follows_kept p.target result (old e) (new e) (reduced_typed p locals declared reduced e);
    void = λ h. h;
    level = λ x. ap roll-Stmt (sym (unchanged x));
    case_level = λ x. ap (λ (body : List Stmt). roll-Case (record { labels = x.labels; body = body })) (sym (all_same x.body));
    good = λ x g. any_level x;
    good_case = λ x g. any_each x.body;
  }

  pub stmt_reduced : (s : Stmt) (b c : Bool) → is_sound_stmt p.target old result s b c ≡ true → is_sound_stmt p.target new result s b c ≡ true
  stmt_reduced s b c h = stmt_stays p.target old new result result (λ e. e) (λ s. s) (λ c. c) Any Any Any without_change s tt b c h

  pub body_reduced : (body : List Stmt) → is_sound_body p.target old result body ≡ true → is_sound_body p.target new result body ≡ true
  body_reduced body h = subst (λ (ss : List Stmt). is_sound_body p.target new result ss ≡ true) (all_same body) (body_stays p.target old new result result (λ e. e) (λ s. s) (λ c. c) Any Any Any without_change body (any_each body) h)
