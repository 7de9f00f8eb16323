-- What is known of an expression before it runs: the registers that it assigns, and whether it is pure, that is, whether it
-- has no call, intrinsic, assignment, `++`, `--` or comma and reads nothing but registers, none of which a later operand of
-- its full expression assigns.
use Rattle.std.specs.Prelude.{ℕ, ◌==◌, Bool, true, false, not, ◌&&◌, ◌||◌, List, [], ◌∷◌, Option, Some, None, if◌then◌else◌}
use Rattle.cc_program.specs.declared.expr.Expr.{Expr, fold-Expr}
use Rattle.cc_program.specs.declared.expr.Expr.TheOpen as one
use Rattle.cc_program.specs.declared.expr.Place.{Place, fold-Place}
use Rattle.cc_program.specs.declared.func.Func.{Func}
use Rattle.cc_syntax.specs.Registers.{is_register}

-- registers, by whether they are among them
abbrev pub Registers : Type 0
Registers = ℕ → Bool

abbrev pub no_one : Registers
no_one r = false

abbrev pub also : Registers → Registers → Registers
also a b r = a r || b r

-- pure where later operands of the full expression assign the given registers
pub record Effects : Type 0 where
  pub assigned : Registers
  pub pure : Registers → Bool

-- of a place: the register that it is, if it is one; pure says whether its operands are
pub record PlaceEffects : Type 0 where
  pub register : Option ℕ
  pub assigned : Registers
  pub pure : Registers → Bool

abbrev pub only : Option ℕ → Registers
only None r = false
only (Some n) r = n == r

-- a register that no later operand assigns
abbrev pub is_soft : Option ℕ → Registers → Bool
is_soft None later = false
is_soft (Some r) later = not (later r)

abbrev pub nothing : Effects
nothing = record { assigned = no_one; pure = λ later. true }

abbrev pub of_both : Effects → Effects → Effects
of_both a b = record { assigned = also a.assigned b.assigned; pure = λ later. a.pure later && b.pure later }

abbrev pub impure : Registers → Effects
impure assigned = record { assigned = assigned; pure = λ later. false }

abbrev pub all_assigned : List Effects → Registers
all_assigned [] = no_one
all_assigned (a ∷ rest) = also a.assigned (all_assigned rest)

abbrev pub by_operand : Option Effects → Registers
by_operand None = no_one
by_operand (Some a) = a.assigned

abbrev pub assigned_to : PlaceEffects → Effects → Registers
assigned_to a e = also (only a.register) (also a.assigned e.assigned)

abbrev pub effect_step : one.Expr-F Effects PlaceEffects → Effects
effect_step (one.Const n t) = nothing
effect_step (one.Null t) = nothing
effect_step (one.FuncAddr f) = nothing
effect_step (one.Load a) = record { assigned = a.assigned; pure = is_soft a.register }
effect_step (one.AddrOf a) = record { assigned = a.assigned; pure = a.pure }
effect_step (one.Un o t a) = a
effect_step (one.Bin o t a b) = of_both a b
effect_step (one.Conv t a) = a
effect_step (one.Qualify t a) = a
effect_step (one.Move a b back) = of_both a b
effect_step (one.Gap a b) = of_both a b
effect_step (one.Compare o a b) = of_both a b
effect_step (one.Both a b) = of_both a b
effect_step (one.Either a b) = of_both a b
effect_step (one.Choose c a b) = of_both c (of_both a b)
effect_step (one.Assign a e) = impure (assigned_to a e)
effect_step (one.Change a o t e) = impure (assigned_to a e)
effect_step (one.After a down) = impure (also (only a.register) a.assigned)
effect_step (one.Call f args) = impure (also f.assigned (all_assigned args))
effect_step (one.Intr i a) = impure (by_operand a)
effect_step (one.Seq a b) = impure (also a.assigned b.assigned)

-- a named object or a device has no operands
abbrev pub plain : Option ℕ → PlaceEffects
plain register = record { register = register; assigned = no_one; pure = λ later. true }

abbrev pub within : Effects → PlaceEffects
within e = record { register = None; assigned = e.assigned; pure = e.pure }

abbrev pub operands : PlaceEffects → Effects
operands a = record { assigned = a.assigned; pure = a.pure }

module _ (f : Func) where
  abbrev pub place_effect_step : one.Place-F Effects PlaceEffects → PlaceEffects
  place_effect_step (one.Local r) = plain (if is_register f r then Some r else None)
  place_effect_step (one.Static i) = plain None
  place_effect_step (one.Device d) = plain None
  place_effect_step (one.Element a i) = within (of_both (operands a) i)
  place_effect_step (one.Member a m) = within (operands a)
  place_effect_step (one.Deref e) = within e

  unfoldable pub effects_of : Expr → Effects
  effects_of e = fold-Expr Effects PlaceEffects effect_step place_effect_step e

  unfoldable pub place_effects_of : Place → PlaceEffects
  place_effects_of a = fold-Place Effects PlaceEffects effect_step place_effect_step a
