-- Types of expressions and soundness of statements, opened at their tops.
use Rattle.std.proofs.Common.{◌≡◌, Bool, true, List, Option, map}
use Rattle.std.specs.List.{list_all}
use Rattle.cc_program.specs.CcNum.declared.target.Target.{Target}
use Rattle.cc_program.specs.declared.expr.Expr.{Expr, roll-Expr, map-Expr, fold-roll-Expr}
use Rattle.cc_program.specs.declared.expr.Expr.TheOpen as one
use Rattle.cc_program.specs.declared.expr.Place.{Place, roll-Place, map-Place, fold-roll-Place}
use Rattle.cc_program.specs.declared.stmt.Case.{Case, roll-Case, fold-Case, fold-roll-Case}
use Rattle.cc_program.specs.declared.stmt.Stmt.{Stmt, roll-Stmt, map-Stmt, fold-roll-Stmt}
use Rattle.cc_program.specs.declared.stmt.Stmt.TheOpen as is
use Rattle.cc_program.specs.declared.types.CType.{CType}
use Rattle.cc_eval.specs.CcSyntax.Expressions.{expr_step, place_step, type_of, place_type}
use Rattle.cc_eval.specs.CcSyntax.Statements.{SoundWhere, Labelled, sound_case, sound_step, is_sound_stmt}
use Rattle.cc_eval.specs.CcSyntax.Types.{Named}
use Rattle.cc_eval.specs.CcSyntax.Values.{ValueType, PlaceType}
use Rattle.cc_eval.specs.CcSyntax.Views.{View}

module _ (p : View) (locals : List Named) where
  abbrev pub type_at : one.Expr-F Expr Place → Option ValueType
  type_at x = expr_step p locals (map-Expr Expr Place (Option ValueType) (Option PlaceType) (type_of p locals) (place_type p locals) x)

  abbrev pub place_at : one.Place-F Expr Place → Option PlaceType
  place_at x = place_step p locals (map-Place Expr Place (Option ValueType) (Option PlaceType) (type_of p locals) (place_type p locals) x)

  pub type-roll : (x : one.Expr-F Expr Place) → type_of p locals (roll-Expr x) ≡ type_at x
  unfolding type_of place_type
  type-roll x = fold-roll-Expr (Option ValueType) (Option PlaceType) (expr_step p locals) (place_step p locals) x

  pub place-roll : (x : one.Place-F Expr Place) → place_type p locals (roll-Place x) ≡ place_at x
  unfolding type_of place_type
  place-roll x = fold-roll-Place (Option ValueType) (Option PlaceType) (expr_step p locals) (place_step p locals) x

module _ (target : Target) (typed : Expr → Option ValueType) (result : CType) where
  abbrev pub sound : Stmt → SoundWhere
  sound s = is_sound_stmt target typed result s

  abbrev pub case_of : Case → Labelled
  case_of c = fold-Case SoundWhere Labelled (sound_step target typed result) sound_case c

  abbrev pub sound_at : is.Stmt-F Stmt Case → SoundWhere
  sound_at x = sound_step target typed result (map-Stmt Stmt Case SoundWhere Labelled sound case_of x)

  pub sound-roll : (x : is.Stmt-F Stmt Case) → sound (roll-Stmt x) ≡ sound_at x
  sound-roll x = fold-roll-Stmt SoundWhere Labelled (sound_step target typed result) sound_case x

  pub case-roll : (x : is.Case-F Stmt Case) → case_of (roll-Case x) ≡ record { labels = x.labels; body = λ breaks continues. list_all (λ (s : SoundWhere). s breaks continues) (map sound x.body) }
  case-roll x = fold-roll-Case SoundWhere Labelled (sound_step target typed result) sound_case x

  -- statements that stand where `break` and `continue` may stand, or not
  abbrev pub AreSound : List Stmt → Bool → Bool → Type 0
  AreSound list b c = list_all (λ (s : SoundWhere). s b c) (map sound list) ≡ true
