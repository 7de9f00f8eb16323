-- The locals whose addresses the parts of an expression take are among those that it takes itself.
use Rattle.std.proofs.Common.{◌≡◌, List, [], ◌∷◌, Some, ap, sym, ◌∙◌, subst}
use Rattle.cc_program.proofs.Each.{Each}
use Rattle.cc_program.proofs.ExprInduction.{Parts}
use Rattle.cc_program.specs.declared.expr.Expr.TheOpen as one
use Rattle.cc_program.specs.declared.expr.Expr.{Expr, out-Expr, roll-Expr, roll-out-Expr}
use Rattle.cc_program.specs.declared.expr.Intr.{Intr}
use Rattle.cc_program.specs.declared.expr.Place.{Place}
use Rattle.cc_program.specs.declared.func.Func.{Func}
use Rattle.cc_state_values_sound.proofs.CcStates.AddressLemmas.{IfTaken, PlaceIfTaken, parts_at, rolled_takes}
use Rattle.cc_state_values_sound.specs.CcStates.Answers.{TakesAddressesOf, PlaceTakesAddressesOf}

module _ (f : Func) where
  abbrev Taken : Expr → Type 0
  Taken e = TakesAddressesOf f e

  abbrev PlaceTaken : Place → Type 0
  PlaceTaken a = PlaceTakesAddressesOf f a

  by_parts : (e : Expr) (x : one.Expr-F Expr Place) → out-Expr e ≡ x → Taken e → Parts (IfTaken f Taken PlaceTaken) (PlaceIfTaken f Taken PlaceTaken) x → Parts Taken PlaceTaken x
  by_parts e x i h parts = parts_at f Taken PlaceTaken x parts (rolled_takes f Taken PlaceTaken x (subst Taken (sym (roll-out-Expr e) ∙ ap roll-Expr i) h))

  each_itself : (args : List Expr) → Each (IfTaken f Taken PlaceTaken) args
  each_itself [] = tt
  each_itself (a ∷ args) = ((λ k. k), each_itself args)

  pub assigned_taken : (e : Expr) (d : Place) (x : Expr) → out-Expr e ≡ one.Assign d x → Taken e → PlaceTaken d × Taken x
  assigned_taken e d x i h = by_parts e (one.Assign d x) i h ((λ k. k), (λ k. k))

  pub loaded_taken : (e : Expr) (a : Place) → out-Expr e ≡ one.Load a → Taken e → PlaceTaken a
  loaded_taken e a i h = by_parts e (one.Load a) i h (λ k. k)

  pub called_taken : (e g : Expr) (args : List Expr) → out-Expr e ≡ one.Call g args → Taken e → Taken g × Each Taken args
  called_taken e g args i h = by_parts e (one.Call g args) i h ((λ k. k), each_itself args)

  pub operand_taken : (e : Expr) (i : Intr) (a : Expr) → out-Expr e ≡ one.Intr i (Some a) → Taken e → Taken a
  operand_taken e i a is h = by_parts e (one.Intr i (Some a)) is h (λ k. k)
