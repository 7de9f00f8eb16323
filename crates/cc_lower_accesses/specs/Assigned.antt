-- The registers that an expression assigns, as a list.
use Rattle.std.specs.Prelude.{ℕ, ◌==◌, List, [], ◌∷◌, ◌++◌, Option, Some, None, if◌then◌else◌}
use Rattle.std.specs.List.{list_any, flat_map}
use Rattle.cc_program.specs.declared.expr.Expr.{Expr, fold-Expr}
use Rattle.cc_program.specs.declared.expr.Expr.TheOpen as one
use Rattle.cc_program.specs.declared.expr.Place.{Place, fold-Place}
use Rattle.cc_program.specs.declared.func.Func.{Func}
use Rattle.cc_syntax.specs.Effects.{Registers}
use Rattle.cc_syntax.specs.Registers.{is_register}

abbrev pub among : List ℕ → Registers
among list r = list_any (λ n. n == r) list

abbrev pub listed : Option ℕ → List ℕ
listed None = []
listed (Some r) = r ∷ []

abbrev pub in_operand : Option (List ℕ) → List ℕ
in_operand None = []
in_operand (Some a) = a

-- of a place: the register that it is, if it is one, and the registers that its operands assign
pub record PlaceRegisters : Type 0 where
  pub register : Option ℕ
  pub inside : List ℕ

abbrev pub no_register : PlaceRegisters
no_register = record { register = None; inside = [] }

abbrev pub inside_of : List ℕ → PlaceRegisters
inside_of list = record { register = None; inside = list }

abbrev pub registers_step : one.Expr-F (List ℕ) PlaceRegisters → List ℕ
registers_step (one.Const n t) = []
registers_step (one.Null t) = []
registers_step (one.FuncAddr f) = []
registers_step (one.Load a) = a.inside
registers_step (one.AddrOf a) = a.inside
registers_step (one.Un o t a) = a
registers_step (one.Bin o t a b) = a ++ b
registers_step (one.Conv t a) = a
registers_step (one.Qualify t a) = a
registers_step (one.Move a b back) = a ++ b
registers_step (one.Gap a b) = a ++ b
registers_step (one.Compare o a b) = a ++ b
registers_step (one.Both a b) = a ++ b
registers_step (one.Either a b) = a ++ b
registers_step (one.Choose c a b) = c ++ (a ++ b)
registers_step (one.Assign a e) = listed a.register ++ (a.inside ++ e)
registers_step (one.Change a o t e) = listed a.register ++ (a.inside ++ e)
registers_step (one.After a down) = listed a.register ++ a.inside
registers_step (one.Call f args) = f ++ flat_map (λ a. a) args
registers_step (one.Intr i a) = in_operand a
registers_step (one.Seq a b) = a ++ b

module _ (f : Func) where
  abbrev pub place_registers_step : one.Place-F (List ℕ) PlaceRegisters → PlaceRegisters
  place_registers_step (one.Local r) = record { register = if is_register f r then Some r else None; inside = [] }
  place_registers_step (one.Static i) = no_register
  place_registers_step (one.Device d) = no_register
  place_registers_step (one.Element a i) = inside_of (a.inside ++ i)
  place_registers_step (one.Member a m) = inside_of a.inside
  place_registers_step (one.Deref e) = inside_of e

  unfoldable pub registers_in : Expr → List ℕ
  registers_in e = fold-Expr (List ℕ) PlaceRegisters registers_step place_registers_step e

  unfoldable pub place_registers_in : Place → PlaceRegisters
  place_registers_in a = fold-Place (List ℕ) PlaceRegisters registers_step place_registers_step a
