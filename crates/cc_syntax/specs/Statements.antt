-- Sound statements, whatever their expressions are typed over (C99 6.8).
use Rattle.std.specs.Prelude.{ℤ, Bool, true, false, not, ◌&&◌, List, [], ◌∷◌, Option, Some, None, is_some, map}
use Rattle.std.specs.List.{list_all, list_any, flat_map}
use Rattle.std.specs.Ordering.{int_eq}
use Rattle.cc_program.specs.CcNum.declared.int_type.IntType.{IntType}
use Rattle.cc_program.specs.CcNum.declared.target.Target.{Target}
use Rattle.cc_program.specs.CcNum.Integers.{is_value_of}
use Rattle.cc_program.specs.declared.expr.Expr.{Expr}
use Rattle.cc_program.specs.declared.stmt.Case.{Case, out-Case}
use Rattle.cc_program.specs.declared.stmt.Stmt.{Stmt, fold-Stmt}
use Rattle.cc_program.specs.declared.stmt.Stmt.TheOpen as is
use Rattle.cc_program.specs.declared.types.CType.{CType}
use Rattle.cc_syntax.specs.Operators.{is_promoted}
use Rattle.cc_syntax.specs.Values.{ValueType, NoValue, Integer, ToObject, ToFunction, is_scalar, is_void, scalar_value, is_assignable_some}

-- no label stands twice in a switch (6.8.4.2, 3); None is `default`
abbrev pub same_label : Option ℤ → Option ℤ → Bool
same_label None None = true
same_label (Some m) (Some n) = int_eq m n
same_label None (Some n) = false
same_label (Some m) None = false

abbrev pub are_apart : List (Option ℤ) → Bool
are_apart [] = true
are_apart (l ∷ ls) = not (list_any (same_label l) ls) && are_apart ls

-- the operand is promoted, and a label is a value of its type (6.8.4.2, 5)
abbrev pub label_fits : Target → IntType → Option ℤ → Bool
label_fits target t None = true
label_fits target t (Some n) = is_value_of t target n

abbrev pub labels_fit : Target → List (Option ℤ) → Option ValueType → Bool
labels_fit target labels None = false
labels_fit target labels (Some NoValue) = false
labels_fit target labels (Some (Integer t)) = is_promoted target t && list_all (label_fits target t) labels
labels_fit target labels (Some (ToObject constant volatile to)) = false
labels_fit target labels (Some (ToFunction sig)) = false

abbrev pub is_condition : Option ValueType → Bool
is_condition None = false
is_condition (Some v) = is_scalar v

-- whether a statement is sound, by where it stands: whether `break` and `continue` may stand there (6.8.6.2, 6.8.6.3)
abbrev pub SoundWhere : Type 0
SoundWhere = Bool → Bool → Bool

-- a case: its labels, of which there are some, and whether its statements are sound
pub record Labelled : Type 0 where
  pub labels : List (Option ℤ)
  pub body : SoundWhere

abbrev pub labels_of : List Case → List (Option ℤ)
labels_of cases = flat_map (λ c. (out-Case c).labels) cases

abbrev pub has_label : List (Option ℤ) → Bool
has_label [] = false
has_label (l ∷ ls) = true

abbrev pub sound_case : is.Case-F SoundWhere Labelled → Labelled
sound_case c = record { labels = c.labels; body = λ breaks continues. list_all (λ s. s breaks continues) c.body }

-- in a function that gives such a result
module _ (target : Target) (typed : Expr → Option ValueType) (result : CType) where
  abbrev pub is_typed : Option Expr → Bool
  is_typed None = true
  is_typed (Some e) = is_some (typed e)

  abbrev pub is_optional_condition : Option Expr → Bool
  is_optional_condition None = true
  is_optional_condition (Some e) = is_condition (typed e)

  -- a value exactly where the function has a result, and of its type (6.8.6.4, 1 and 3)
  abbrev pub returns : Option Expr → Bool
  returns None = is_void result
  returns (Some e) = is_assignable_some (scalar_value result) (typed e)

  abbrev pub sound_step : is.Stmt-F SoundWhere Labelled → SoundWhere
  sound_step (is.Do e) = λ breaks continues. is_some (typed e)
  sound_step (is.If e a b) = λ breaks continues. is_condition (typed e) && (list_all (λ s. s breaks continues) a && list_all (λ s. s breaks continues) b)
  sound_step (is.While e a) = λ breaks continues. is_condition (typed e) && list_all (λ s. s true true) a
  sound_step (is.DoWhile a e) = λ breaks continues. is_condition (typed e) && list_all (λ s. s true true) a
  sound_step (is.For first test step a) = λ breaks continues. is_typed first && (is_optional_condition test && (is_typed step && list_all (λ s. s true true) a))
  sound_step (is.Switch e cases) = λ breaks continues.
      labels_fit target (flat_map (λ c. c.labels) cases) (typed e)
      && (are_apart (flat_map (λ c. c.labels) cases) && (list_all (λ c. has_label c.labels) cases && list_all (λ c. c.body true continues) cases))
  sound_step is.Break = λ breaks continues. breaks
  sound_step is.Continue = λ breaks continues. continues
  sound_step (is.Return e) = λ breaks continues. returns e
  sound_step is.Empty = λ breaks continues. true
  sound_step (is.Block a) = λ breaks continues. list_all (λ s. s breaks continues) a

  -- a statement, by whether `break` and `continue` may stand there
  abbrev pub is_sound_stmt : Stmt → SoundWhere
  is_sound_stmt s = fold-Stmt SoundWhere Labelled sound_step sound_case s

  abbrev pub is_sound_body : List Stmt → Bool
  is_sound_body body = list_all (λ g. g false false) (map is_sound_stmt body)
