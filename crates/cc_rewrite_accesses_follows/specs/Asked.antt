-- What full expressions come to that accesses of words stand for: what they ask for that nothing else sees, and what they do then.
use Rattle.std.specs.Prelude.{◌≡◌, ℕ, Bool, true, false, List, [], ◌∷◌, ◌++◌, Option, Some, None, slice_get}
use Rattle.cc_program.specs.declared.expr.Expr.{Expr}
use Rattle.cc_program.specs.Qualifiers.{is_volatile}
use Rattle.cc_program.specs.declared.object.Object.{Object}
use Rattle.cc_program.specs.declared.value.Cell.{Cell}
use Rattle.cc_program.specs.declared.value.Cell.TheVariants as cell
use Rattle.cc_program.specs.declared.value.Part.{Part}
use Rattle.cc_program.specs.declared.value.Root.TheVariants as root
use Rattle.cc_program.specs.declared.value.Value.{Value}
use Rattle.cc_rewrite_residues.specs.Residues.{Need, Has, Bad, AreMet}
use Rattle.cc_rewrite_residues.specs.Standing.{Locals}
use Rattle.cc_steps.specs.CcEval.Context.{Context}
use Rattle.cc_steps.specs.CcEval.Eval.{next_of}
use Rattle.cc_steps.specs.CcEval.Progress.{Waits, Traps, Get}
use Rattle.cc_steps.specs.CcEval.declared.action.Action.{Action}
use Rattle.cc_steps.specs.CcEval.declared.action.Action.TheVariants.{Read, Write, Choose}
use Rattle.cc_steps.specs.CcEval.declared.action.Manner.{Manner}
use Rattle.cc_steps.specs.CcEval.declared.mark.Mark.{Mark}
use Rattle.cc_steps.specs.CcEval.declared.mark.Mark.TheVariants.{Gave, Did, Chose}
use Rattle.cc_steps.specs.CcSyntax.Types.{Named}
use Rattle.cc_steps.specs.Step.{is_known}

-- a register with what it has, none for one that was never written; or the way that a choice goes
pub data Asked : Type 0 where
  Register : ℕ → Option Value → Asked
  Way : Option Bool → Asked

abbrev pub mark_of : Asked → Mark
mark_of (Register r v) = Gave v
mark_of (Way b) = Chose b

abbrev pub need_of : ℕ → Option Value → Need
need_of r (Some v) = Has r v
need_of r None = Bad r

-- what locals have to hold where this is asked for
abbrev pub needs_of : List Asked → List Need
needs_of [] = []
needs_of (Register r v ∷ asked) = need_of r v ∷ needs_of asked
needs_of (Way b ∷ asked) = needs_of asked

-- locals that meet these needs hold it
abbrev pub Covers : List Need → List Asked → Type 0
Covers needs asked = (locals : Locals) → AreMet needs locals → AreMet (needs_of asked) locals

-- ---- cells

-- not seen by the outside
abbrev pub unseen : Bool → Manner
unseen b = record { is_event = false; may_be_bad = b }

abbrev pub register_cell : Context → ℕ → Cell
register_cell c r = cell.At (root.Auto c.number c.id r) []

abbrev pub static_cell : ℕ → List Part → Cell
static_cell object path = cell.At (root.Static object) path

-- ---- steps

module _ (c : Context) where
  -- the action that asks for it; a bad value is given where it may be
  abbrev pub IsAskedBy : Asked → Action → Type 0
  IsAskedBy (Register r (Some v)) action = (b : Bool) × (action ≡ Read (register_cell c r) (unseen b))
  IsAskedBy (Register r None) action = action ≡ Read (register_cell c r) (unseen true)
  IsAskedBy (Way b) action = action ≡ Choose b

  -- behind some marks these are asked for, one after the other, and then this holds of the marks
  abbrev pub Asks : {A : Type 0} → (next : Get A) (Then : List Mark → Type 0) → List Mark → List Asked → Type 0
  Asks next Then ms [] = Then ms
  Asks next Then ms (a ∷ asked) = (action : Action) × (next ms ≡ Waits action) × IsAskedBy a action × Asks next Then (ms ++ mark_of a ∷ []) asked

  -- ---- full expressions

  -- it writes a value to a cell, and is done
  abbrev pub IsWriting : Expr → Cell → Value → List Mark → Type 0
  IsWriting e to v ms = (next_of c e ms ≡ Waits (Write to false v)) × (is_known (next_of c e (ms ++ Did ∷ [])) ≡ true)

  abbrev pub IsTrapping : Expr → List Mark → Type 0
  IsTrapping e ms = (left : List Mark) × (next_of c e ms ≡ Traps left)

  abbrev pub Writes : Expr → List Mark → List Asked → Cell → Value → Type 0
  Writes e ms asked to v = Asks (next_of c e) (IsWriting e to v) ms asked

  abbrev pub Fails : Expr → List Mark → List Asked → Type 0
  Fails e ms asked = Asks (next_of c e) (IsTrapping e) ms asked

  -- behind these marks it reads a cell, and writes what is there to another
  pub record Copies (e : Expr) (ms : List Mark) (from to : Cell) : Type 0 where
    pub reads : next_of c e ms ≡ Waits (Read from (unseen false))
    pub writes : (v : Value) → IsWriting e to v (ms ++ Gave (Some v) ∷ [])

  -- a local, and a static object, that are not volatile
  pub record IsPlain (r : ℕ) : Type 0 where
    pub named : Named
    pub there : slice_get c.func.locals r ≡ Some named
    pub plain : is_volatile named.1 ≡ false

  pub record IsPlainStatic (i : ℕ) : Type 0 where
    pub object : Object
    pub there : slice_get c.program.objects i ≡ Some object
    pub plain : is_volatile object.ctype ≡ false
