-- From what is known in front of an expression statement in normal form to what is known behind it: each place that it accesses
-- may declare a device without a name.
use Rattle.std.specs.Prelude.{◌≡◌, Bool, true, false}
use Rattle.cc_program.specs.declared.expr.Expr.{Expr, out-Expr}
use Rattle.cc_program.specs.declared.expr.Expr.TheOpen as one
use Rattle.cc_program.specs.declared.expr.Place.{Place}
use Rattle.cc_program.specs.declared.program.Program.{Program}
use Rattle.cc_typed_bodies.specs.CcScopes.State.{State}
use Rattle.cc_shown_effects.specs.Accesses.{Accesses}
use Rattle.cc_shown_expressions.specs.OperationNumbers.{Numbers}

abbrev pub is_load : one.Expr-F Expr Place → Bool
is_load (one.Load a) = true
is_load _ = false

abbrev pub is_assign : one.Expr-F Expr Place → Bool
is_assign (one.Assign a e) = true
is_assign _ = false

module _ (p : Program) (n : Numbers) where
  -- a right side, which may read a place
  pub data Reads (r : Expr) (s : State) : State → Type 0 where
    APlace : (b : Place) (u : State) → out-Expr r ≡ one.Load b → Accesses p n s b u → Reads r s u
    NoPlace : is_load (out-Expr r) ≡ false → Reads r s s

  -- an assignment accesses its place, and then its right side; another statement leaves what is known as it is
  pub data Steps (e : Expr) (s : State) : State → Type 0 where
    Assigning : (a : Place) (r : Expr) (t u : State) → out-Expr e ≡ one.Assign a r → Accesses p n s a t → Reads r t u → Steps e s u
    Another : is_assign (out-Expr e) ≡ false → Steps e s s
