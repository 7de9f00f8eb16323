-- Induction over expressions and places: a claim holds of all where it holds of each one whose parts
-- it holds of. A proof goes by cases on one level, and a fold opens at it by `fold-roll-Expr`.
use Rattle.std.proofs.Common.{subst, Some, None}
use Rattle.cc_program.specs.declared.expr.Expr.{Expr, roll-Expr, ind-Expr, map-Expr}
use Rattle.cc_program.specs.declared.expr.Expr.TheOpen as one
use Rattle.cc_program.specs.declared.expr.Place.{Place, roll-Place, ind-Place, map-Place}
use Rattle.cc_program.proofs.Each.{Each, Held, each_kept}

module _ (P : Expr → Type 0) (Q : Place → Type 0) where
  -- the parts of an expression have P or Q
  abbrev pub Parts : one.Expr-F Expr Place → Type 0
  Parts (one.Const n t) = Unit {0}
  Parts (one.Null t) = Unit {0}
  Parts (one.FuncAddr f) = Unit {0}
  Parts (one.Load p) = Q p
  Parts (one.AddrOf p) = Q p
  Parts (one.Un op t a) = P a
  Parts (one.Bin op t a b) = P a × P b
  Parts (one.Conv t a) = P a
  Parts (one.Qualify t a) = P a
  Parts (one.Move a b back) = P a × P b
  Parts (one.Gap a b) = P a × P b
  Parts (one.Compare op a b) = P a × P b
  Parts (one.Both a b) = P a × P b
  Parts (one.Either a b) = P a × P b
  Parts (one.Choose a b c) = P a × P b × P c
  Parts (one.Assign p a) = Q p × P a
  Parts (one.Change p op t a) = Q p × P a
  Parts (one.After p down) = Q p
  Parts (one.Call f args) = P f × Each P args
  Parts (one.Intr i a) = Held P a
  Parts (one.Seq a b) = P a × P b

  abbrev pub PlaceParts : one.Place-F Expr Place → Type 0
  PlaceParts (one.Local r) = Unit {0}
  PlaceParts (one.Static i) = Unit {0}
  PlaceParts (one.Device d) = Unit {0}
  PlaceParts (one.Element p e) = Q p × P e
  PlaceParts (one.Member p m) = Q p
  PlaceParts (one.Deref e) = P e

  abbrev SomeExpr : Type 0
  SomeExpr = (e : Expr) × P e

  abbrev SomePlace : Type 0
  SomePlace = (p : Place) × Q p

  abbrev bare : one.Expr-F SomeExpr SomePlace → one.Expr-F Expr Place
  bare x = map-Expr SomeExpr SomePlace Expr Place (λ e. e.0) (λ p. p.0) x

  abbrev bare_place : one.Place-F SomeExpr SomePlace → one.Place-F Expr Place
  bare_place x = map-Place SomeExpr SomePlace Expr Place (λ e. e.0) (λ p. p.0) x

  parts_of : (x : one.Expr-F SomeExpr SomePlace) → Parts (bare x)
  parts_of (one.Const n t) = tt
  parts_of (one.Null t) = tt
  parts_of (one.FuncAddr f) = tt
  parts_of (one.Load p) = p.1
  parts_of (one.AddrOf p) = p.1
  parts_of (one.Un op t a) = a.1
  parts_of (one.Bin op t a b) = (a.1, b.1)
  parts_of (one.Conv t a) = a.1
  parts_of (one.Qualify t a) = a.1
  parts_of (one.Move a b back) = (a.1, b.1)
  parts_of (one.Gap a b) = (a.1, b.1)
  parts_of (one.Compare op a b) = (a.1, b.1)
  parts_of (one.Both a b) = (a.1, b.1)
  parts_of (one.Either a b) = (a.1, b.1)
  parts_of (one.Choose a b c) = (a.1, b.1, c.1)
  parts_of (one.Assign p a) = (p.1, a.1)
  parts_of (one.Change p op t a) = (p.1, a.1)
  parts_of (one.After p down) = p.1
  parts_of (one.Call f args) = (f.1, each_kept P args)
  parts_of (one.Intr i None) = tt
  parts_of (one.Intr i (Some a)) = a.1
  parts_of (one.Seq a b) = (a.1, b.1)

  parts_of_place : (x : one.Place-F SomeExpr SomePlace) → PlaceParts (bare_place x)
  parts_of_place (one.Local r) = tt
  parts_of_place (one.Static i) = tt
  parts_of_place (one.Device d) = tt
  parts_of_place (one.Element p e) = (p.1, e.1)
  parts_of_place (one.Member p m) = p.1
  parts_of_place (one.Deref e) = e.1

  module _ (made : (x : one.Expr-F Expr Place) → Parts x → P (roll-Expr x)) (made_place : (x : one.Place-F Expr Place) → PlaceParts x → Q (roll-Place x)) where
    pub by_expr : (e : Expr) → P e
    by_expr = ind-Expr P Q (λ x y e. made x (subst Parts e (parts_of y))) (λ x y e. made_place x (subst PlaceParts e (parts_of_place y)))

    pub by_place : (p : Place) → Q p
    by_place = ind-Place P Q (λ x y e. made x (subst Parts e (parts_of y))) (λ x y e. made_place x (subst PlaceParts e (parts_of_place y)))
