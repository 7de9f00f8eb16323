-- What operands come to that are built of registers and constants, and what places they are assigned to.
use Rattle.std.specs.Prelude.{◌≡◌, ℕ, Bool, false, List, [], ◌∷◌, ◌++◌, Option, Some, None}
use Rattle.cc_program.specs.declared.expr.Expr.{Expr, Load, Assign}
use Rattle.cc_program.specs.declared.expr.Place.{Place}
use Rattle.cc_program.specs.declared.value.Cell.{Cell}
use Rattle.cc_program.specs.declared.value.Part.{Part}
use Rattle.cc_program.specs.declared.value.Root.TheVariants as root
use Rattle.cc_program.specs.declared.value.Value.{Value}
use Rattle.cc_rewrite_accesses_follows.specs.Asked.{Asked, Asks, unseen}
use Rattle.cc_steps.specs.CcEval.Context.{Context}
use Rattle.cc_steps.specs.CcEval.Eval.{meaning, designation}
use Rattle.cc_steps.specs.CcEval.Progress.{Known, Get, ask, needs, and_then, given}
use Rattle.cc_steps.specs.CcEval.declared.action.Action.TheVariants.{Read, Write}
use Rattle.cc_steps.specs.CcEval.declared.mark.Mark.{Mark}
use Rattle.cc_steps.specs.CcEval.declared.spots.Spot.TheVariants as spot
use Rattle.cc_steps.specs.CcSyntax.Effects.{Registers}
use Rattle.cc_steps.specs.CcSyntax.Values.{PlaceType}

-- this is known behind those marks, and the marks behind them are left
abbrev pub HasValue : {A : Type 0} → Get A → A → List Mark → Type 0
HasValue next v ms = (more : List Mark) → next (ms ++ more) ≡ Known v more

abbrev pub written_to : Cell → Option Value → Get (Option Value)
written_to to v = needs v (λ x. ask (Write to false x) (λ m. v))

module _ (c : Context) where
  abbrev pub AssignsNone : Expr → Type 0
  AssignsNone e = (r : ℕ) → (meaning c e).effects.assigned r ≡ false

  -- an operand that assigns no register asks for these, one after the other, and then has this value, none for a bad one
  pub record Evaluates (e : Expr) (asked : List Asked) (v : Option Value) : Type 0 where
    pub assigns : AssignsNone e
    pub asks : (later : Registers) → ((r : ℕ) → later r ≡ false) → Asks c ((meaning c e).next later) (HasValue ((meaning c e).next later) v) [] asked

  -- a place that asks for nothing and is not volatile: it is this cell
  pub record IsCell (a : Place) (at : Cell) : Type 0 where
    pub loads : (later : Registers) (ms : List Mark) → (meaning c (Load a)).next later ms ≡ ask (Read at (unseen false)) given ms
    pub stores : (e : Expr) (later : Registers) (ms : List Mark) → (meaning c (Assign a e)).next later ms ≡ and_then ((meaning c e).next later ms) (written_to at)

  -- a place in a static object, of this type, that asks for nothing
  pub record LeadsTo (a : Place) (object : ℕ) (path : List Part) (t : PlaceType) : Type 0 where
    pub leads : (later : Registers) (ms : List Mark) → (designation c a).leads later ms ≡ Known (Some (spot.Object (root.Static object) path)) ms
    pub ctype : (designation c a).ctype ≡ Some t
    pub register : (designation c a).effects.register ≡ None
