-- What a definition by folding says of an expression, a statement or a type, opened at its top.
use Rattle.std.proofs.Common.{◌≡◌, ◌∙◌, ℕ, List, ap, sym}
use Rattle.cc_program.specs.declared.expr.Expr.{Expr, roll-Expr, map-Expr, fold-roll-Expr}
use Rattle.cc_program.specs.declared.expr.Expr.TheOpen as one
use Rattle.cc_program.specs.declared.expr.Place.{Place}
use Rattle.cc_program.specs.declared.stmt.Case.{Case}
use Rattle.cc_program.specs.declared.stmt.Stmt.{Stmt, roll-Stmt, map-Stmt, fold-roll-Stmt}
use Rattle.cc_program.specs.declared.stmt.Stmt.TheOpen as is
use Rattle.cc_program.specs.declared.types.CType.{CType, fold_out-CType}
use Rattle.cc_program.specs.declared.types.Shape.{Shape, roll-Shape, map-Shape, fold-roll-Shape}
use Rattle.cc_program.specs.declared.types.Shape.TheOpen as shape
use Rattle.cc_program.specs.declared.types.Sig.{Sig}
use Rattle.cc_unit.specs.Mentioned as mentioned
use Rattle.cc_unit.specs.Renumbered.{expr_renumbered, place_renumbered, expr_step, place_step, stmt_renumbered, case_renumbered, stmt_step, case_step, type_renumbered, shape_renumbered, sig_renumbered, type_step, shape_step, sig_step}
use Rattle.cc_unit.specs.declared.ids.Ids.{Ids}

pub opened : (ids : Ids) (e : Expr) (x : one.Expr-F Expr Place) → e ≡ roll-Expr x → expr_step ids (map-Expr Expr Place Expr Place (expr_renumbered ids) (place_renumbered ids) x) ≡ expr_renumbered ids e
unfolding expr_renumbered place_renumbered
opened ids e x is = sym (ap (expr_renumbered ids) is ∙ fold-roll-Expr Expr Place (expr_step ids) (place_step ids) x)

pub stmt_opened : (ids : Ids) (s : Stmt) (x : is.Stmt-F Stmt Case) → s ≡ roll-Stmt x → stmt_step ids (map-Stmt Stmt Case Stmt Case (stmt_renumbered ids) (case_renumbered ids) x) ≡ stmt_renumbered ids s
unfolding stmt_renumbered case_renumbered
stmt_opened ids s x same = sym (ap (stmt_renumbered ids) same ∙ fold-roll-Stmt Stmt Case (stmt_step ids) (case_step ids) x)

pub spoken_opened : (e : Expr) (x : one.Expr-F Expr Place) → e ≡ roll-Expr x → mentioned.expr_step (map-Expr Expr Place (List ℕ) (List ℕ) mentioned.in_expr mentioned.in_place x) ≡ mentioned.in_expr e
unfolding mentioned.in_expr mentioned.in_place
spoken_opened e x is = sym (ap mentioned.in_expr is ∙ fold-roll-Expr (List ℕ) (List ℕ) mentioned.expr_step mentioned.place_step x)

module _ (structures : List ℕ) where
  pub shape_opened : (s : Shape) (x : shape.Shape-F Shape CType Sig) → s ≡ roll-Shape x →
      shape_step structures (map-Shape Shape CType Sig Shape CType Sig (shape_renumbered structures) (type_renumbered structures) (sig_renumbered structures) x) ≡ shape_renumbered structures s
  unfolding shape_renumbered type_renumbered sig_renumbered
  shape_opened s x is = sym (ap (shape_renumbered structures) is ∙ fold-roll-Shape Shape CType Sig (shape_step structures) (type_step structures) (sig_step structures) x)

  pub type_opened : (t : CType) → (let u : CType = record { constant = t.constant; volatile = t.volatile; shape = shape_renumbered structures t.shape } in u) ≡ type_renumbered structures t
  unfolding shape_renumbered type_renumbered sig_renumbered
  type_opened t = sym (fold_out-CType Shape CType Sig (shape_step structures) (type_step structures) (sig_step structures) t)
