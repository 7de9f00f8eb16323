-- What is known where P stands in front of an access of a scalar that has its home in a word of Q, or nowhere, and Q in front of the statements
-- that stand for it.
use Rattle.std.specs.Prelude.{◌≡◌, ◌<◌, ◌≤◌, ◌+◌, ◌*◌, ◌^◌, ℕ, pos, Bool, true, false, List, [], ◌∷◌, ◌++◌, Option, Some, None, slice_get, length}
use Rattle.cc_program.specs.declared.expr.Expr.{Expr, Load, Assign, Intr}
use Rattle.cc_program.specs.declared.expr.Intr.TheVariants as intr
use Rattle.cc_program.specs.declared.expr.Place.{Local}
use Rattle.cc_program.specs.declared.func.Func.{Func}
use Rattle.cc_program.specs.declared.program.Program.{Program}
use Rattle.cc_program.specs.declared.stmt.Stmt.{Stmt}
use Rattle.cc_program.specs.declared.value.Cell.{Cell}
use Rattle.cc_program.specs.declared.value.Part.{Part}
use Rattle.cc_program.specs.declared.value.Root.TheVariants as root
use Rattle.cc_program.specs.declared.value.Value.{Value}
use Rattle.cc_program.specs.declared.value.Value.TheVariants.{Int}
use Rattle.cc_rewrite_accesses_follows.specs.Asked.{Asked, mark_of, needs_of, Covers, register_cell, static_cell, IsPlain, Asks, IsWriting, Writes, Fails, Copies}
use Rattle.cc_rewrite_fields.specs.Field.{field as field_of, put}
use Rattle.cc_rewrite_homes.specs.Homes.{Field, Packed, Fixed, HoldsWord, IsOff}
use Rattle.cc_rewrite_residues.specs.Residues.{Need, Has, AreMet, AreOwn, register_of}
use Rattle.cc_rewrite_residues.specs.Standing.{Frame, Locals, Spot, spot, standing, todo, Rest, running}
use Rattle.cc_rewrite_simulation.specs.Comparison.{Comparison}
use Rattle.cc_rewrite_simulation.specs.Relation.{AreApart, Shared}
use Rattle.cc_rewrite_simulation.specs.RelationBack.{SharedBack}
use Rattle.cc_rewrite_simulation.specs.Simulated.{IsTurnFollowed, IsTurnAnswered}
use Rattle.cc_steps.specs.CcCells.Cells.{scalar_in}
use Rattle.cc_steps.specs.CcControl.Control.{Level, counted, close}
use Rattle.cc_steps.specs.CcEval.Context.{Context}
use Rattle.cc_steps.specs.CcEval.Eval.{next_of}
use Rattle.cc_steps.specs.CcEval.declared.mark.Mark.{Mark}
use Rattle.cc_steps.specs.State.{Active}
use Rattle.cc_steps.specs.Step.{begun_at, cell_position, is_known}

-- ---- places in lists

-- in front of the first of these statements, of which so much is done
abbrev pub in_list : List Stmt → ℕ → List Level → List Mark → Spot
in_list list position around ms = spot (todo list position around) ms

abbrev pub next_position : ℕ → ℕ
next_position n = counted (n + 1)

-- behind a statement at this position, with these behind it
abbrev pub behind_one : Program → Frame → List Stmt → ℕ → List Level → Spot
behind_one p frame rest position around = spot (begun_at p frame.number frame.func (close rest (next_position position) around)) []

-- ---- guards: g = irq_save(); and irq_restore(g);

abbrev pub saving : ℕ → Expr
saving g = Assign (Local g) (Intr intr.Save None)

abbrev pub restoring : ℕ → Expr
restoring g = Intr intr.Restore (Some (Load (Local g)))

-- needs that are of other registers
abbrev pub AreBeside : ℕ → List Need → Type 0
AreBeside r [] = Unit {0}
AreBeside r (n ∷ needs) = (r ≡ register_of n → ⊥) × AreBeside r needs

-- the function that an activation runs, in both programs
pub record Functions (Q P : Program) (frame : Frame) : Type 0 where
  pub fq : Func
  pub fp : Func
  pub known_q : slice_get Q.funcs frame.func ≡ Some fq
  pub known_p : slice_get P.funcs frame.func ≡ Some fp

abbrev pub context : Program → Frame → Func → Context
context p frame f = record { program = p; number = frame.number; id = frame.func; func = f }

-- a scalar of P that stands in a word of Q, how both programs name them, and what it has
pub record Slot {Q P : Program} (c : Comparison Q P) (ps : List (List Value)) : Type 0 where
  pub object : ℕ
  pub position : ℕ
  pub path : List Part
  pub field : Field
  pub word_path : List Part
  pub held : Value
  pub home : c.home object position ≡ Packed field
  pub located : cell_position P (root.Static object) path ≡ position
  pub word_located : cell_position Q (root.Static field.object) word_path ≡ field.position
  pub there : scalar_in ps object position ≡ Some held

-- behind these marks a full expression asks for this, and is not known then
pub record IsAsking (c : Context) (locals : Locals) (ms : List Mark) (a : Asked) (e : Expr) : Type 0 where
  pub met : AreMet (needs_of (a ∷ [])) locals
  pub asks : Asks c (next_of c e) (λ all. is_known (next_of c e all) ≡ false) ms (a ∷ [])

module _ {Q P : Program} (c : Comparison Q P) (frame : Frame) (f : Functions Q P frame) where
  abbrev pub in_q : Context
  in_q = context Q frame f.fq

  abbrev pub in_p : Context
  in_p = context P frame f.fp

  -- a turn of Q from there is followed by turns of P, where this is known of the activations below, and one of P answered by turns of Q
  abbrev pub IsStep : (List Active → Type 0) → (qs ps : List (List Value)) (ql pl : Locals) (sq sp : Spot) → Type 0
  IsStep Apart qs ps ql pl sq sp =
      (rq rp : Rest) (flag : Bool) →
      (Shared c (Unit {0}) frame.handler rq rp qs ps → Apart rp.below → IsTurnFollowed c (Unit {0}) (running rq flag qs (standing frame ql sq)) (running rp flag ps (standing frame pl sp)) None)
      × (SharedBack c rq rp qs ps → IsTurnAnswered c (running rq flag qs (standing frame ql sq)) (running rp flag ps (standing frame pl sp)) None)

  abbrev pub Anything : List Active → Type 0
  Anything below = Unit {0}

  -- no activation stands at a write of the word of this field without a guard, where there is one
  abbrev pub ApartFrom : Option Field → List Active → Type 0
  ApartFrom None below = Unit {0}
  ApartFrom (Some field) below = AreApart c field below

  -- ---- locals

  -- a local of Q behind those of P, which is there, and which no pointer names
  pub record IsTemporary (ql : Locals) (t : ℕ) : Type 0 where
    pub new : c.base frame.func ≤ t
    pub own : c.own frame.func t ≡ true
    pub old : Option Value
    pub there : scalar_in ql t 0 ≡ Some old

  pub record AreNeeds (locals : Locals) (needs : List Need) : Type 0 where
    pub met : AreMet needs locals
    pub own : AreOwn (c.own frame.func) needs

  -- ---- scalars that never change

  -- `r = x;` of such a scalar, with some marks in front of its read, and `r = e;` of an operand that asks for nothing
  pub record ReadOfConstant (ps : List (List Value)) (those : List Mark) (take source : Expr) : Type 0 where
    pub object : ℕ
    pub position : ℕ
    pub path : List Part
    pub register : ℕ
    pub value : Value
    pub located : cell_position P (root.Static object) path ≡ position
    pub there : scalar_in ps object position ≡ Some value
    pub below : register < c.base frame.func
    pub reads : Copies in_p source those (static_cell object path) (register_cell in_p register)
    pub takes : IsWriting in_q take (register_cell in_q register) value []

  -- where both have asked for the next one, or the one that has still to ask
  abbrev pub JoinedOn : (q p : List Mark → Spot) (these those : List Mark) → List Asked → List Asked → Type 0
  JoinedOn q p these those [] [] = Unit {0}
  JoinedOn q p these those (a ∷ asked) (b ∷ others) = c.Joined frame (q (these ++ mark_of a ∷ [])) (p (those ++ mark_of b ∷ []))
  JoinedOn q p these those (a ∷ asked) [] = c.Joined frame (q (these ++ mark_of a ∷ [])) (p those)
  JoinedOn q p these those [] (b ∷ others) = c.Joined frame (q these) (p (those ++ mark_of b ∷ []))

  -- `x = e;` of such a scalar, and `t = e;`, each with some marks and with so much to ask for
  pub record WriteOfConstant (ql pl : Locals) (these those : List Mark) (asked others : List Asked) (keep source : Expr) : Type 0 where
    pub object : ℕ
    pub position : ℕ
    pub path : List Part
    pub temporary : ℕ
    pub value : Value
    pub located : cell_position P (root.Static object) path ≡ position
    pub fixed : c.home object position ≡ Fixed value
    pub new : c.base frame.func ≤ temporary
    pub q_met : AreMet (needs_of asked) ql
    pub p_met : AreMet (needs_of others) pl
    pub keeps : Writes in_q keep these asked (register_cell in_q temporary) value
    pub writes : Writes in_p source those others (static_cell object path) value

  -- the same, of a value that is bad: both trap
  pub record WritesOfBad (ql pl : Locals) (these those : List Mark) (asked others : List Asked) (store source : Expr) : Type 0 where
    pub q_met : AreMet (needs_of asked) ql
    pub p_met : AreMet (needs_of others) pl
    pub fails : Fails in_q store these asked
    pub source_fails : Fails in_p source those others

  -- ---- reads of words

  module _ {ps : List (List Value)} (slot : Slot c ps) where
    abbrev pub slot_cell : Cell
    slot_cell = static_cell slot.object slot.path

    abbrev pub word_cell : Cell
    word_cell = static_cell slot.field.object slot.word_path

    -- `r = x;`, and `t = w;` with `r = e;` behind it, of what the word's field stands for; each with some marks in front of its read
    pub record ReadOfWord (qs : List (List Value)) (ql : Locals) (these those : List Mark) (load take source : Expr) : Type 0 where
      pub register : ℕ
      pub temporary : ℕ
      pub needs : List Need
      pub asked : ℕ → List Asked
      pub below : register < c.base frame.func
      pub is_temporary : IsTemporary ql temporary
      pub are_needs : AreNeeds ql needs
      pub beside : AreBeside temporary needs
      pub covers : (word : ℕ) → Covers (Has temporary (Int (pos word)) ∷ needs) (asked word)
      pub reads : Copies in_p source those slot_cell (register_cell in_p register)
      pub loads : Copies in_q load these word_cell (register_cell in_q temporary)
      pub takes : (word : ℕ) → HoldsWord qs slot.field word → c.decode slot.object slot.position (field_of word slot.field.shift slot.field.width) ≡ slot.held →
          Writes in_q take [] (asked word) (register_cell in_q register) slot.held

    -- ---- writes of words

    -- `x = e;`, with some marks: what it has to ask for, and the code of its value
    pub record Source (pl : Locals) (those : List Mark) (source : Expr) : Type 0 where
      pub code : ℕ
      pub value : Value
      pub asked : List Asked
      pub needs : List Need
      pub coded : c.decode slot.object slot.position code ≡ value
      pub small : code < 2 ^ slot.field.width
      pub are_needs : AreNeeds pl needs
      pub covers : Covers needs asked
      pub writes : Writes in_p source those asked slot_cell value

    -- of a value that is bad
    pub record BadSource (pl : Locals) (those : List Mark) (source : Expr) : Type 0 where
      pub asked : List Asked
      pub needs : List Need
      pub are_needs : AreNeeds pl needs
      pub covers : Covers needs asked
      pub fails : Fails in_p source those asked

    -- `w = e;`, of the only code in its word
    pub record WriteAlone (ql pl : Locals) (these those : List Mark) (asked others : List Asked) (store source : Expr) : Type 0 where
      pub code : ℕ
      pub value : Value
      pub coded : c.decode slot.object slot.position code ≡ value
      pub small : code < 2 ^ slot.field.width
      pub fits : code * 2 ^ slot.field.shift < 2 ^ slot.field.bits
      pub single : (m n : ℕ) → (slot.object ≡ m → slot.position ≡ n → ⊥) → IsOff slot.field.object slot.field.position (c.home m n)
      pub q_met : AreMet (needs_of asked) ql
      pub p_met : AreMet (needs_of others) pl
      pub stores : Writes in_q store these asked word_cell (Int (pos (code * 2 ^ slot.field.shift)))
      pub writes : Writes in_p source those others slot_cell value

    -- `t = w;`, with some marks, and `w = e;` behind it, of the word with this code in its field
    pub record Put (ql : Locals) (code : ℕ) (these : List Mark) (load store : Expr) : Type 0 where
      pub temporary : ℕ
      pub needs : List Need
      pub asked : ℕ → List Asked
      pub is_temporary : IsTemporary ql temporary
      pub are_needs : AreNeeds ql needs
      pub beside : AreBeside temporary needs
      pub covers : (word : ℕ) → Covers (Has temporary (Int (pos word)) ∷ needs) (asked word)
      pub same : (word : ℕ) → length (asked word) ≡ length (asked 0)
      pub loads : Copies in_q load these word_cell (register_cell in_q temporary)
      pub stores : (word : ℕ) → word < 2 ^ slot.field.bits → Writes in_q store [] (asked word) word_cell (Int (pos (put word slot.field.shift slot.field.width code)))

    -- which traps, since the code is bad
    pub record PutBad (ql : Locals) (these : List Mark) (load store : Expr) : Type 0 where
      pub temporary : ℕ
      pub needs : List Need
      pub asked : ℕ → List Asked
      pub is_temporary : IsTemporary ql temporary
      pub are_needs : AreNeeds ql needs
      pub beside : AreBeside temporary needs
      pub covers : (word : ℕ) → Covers (Has temporary (Int (pos word)) ∷ needs) (asked word)
      pub loads : Copies in_q load these word_cell (register_cell in_q temporary)
      pub fails : (word : ℕ) → word < 2 ^ slot.field.bits → Fails in_q store [] (asked word)

    -- `w = e;` of the only code in its word, inside a guard
    pub record PutAlone (ql : Locals) (code : ℕ) (store : Expr) : Type 0 where
      pub needs : List Need
      pub asked : List Asked
      pub met : AreMet needs ql
      pub covers : Covers needs asked
      pub fits : code * 2 ^ slot.field.shift < 2 ^ slot.field.bits
      pub single : (m n : ℕ) → (slot.object ≡ m → slot.position ≡ n → ⊥) → IsOff slot.field.object slot.field.position (c.home m n)
      pub stores : Writes in_q store [] asked word_cell (Int (pos (code * 2 ^ slot.field.shift)))

    pub record PutAloneBad (ql : Locals) (store : Expr) : Type 0 where
      pub needs : List Need
      pub asked : List Asked
      pub met : AreMet needs ql
      pub covers : Covers needs asked
      pub fails : Fails in_q store [] asked

  -- ---- guards

  -- a temporary that keeps the interrupt flag, which no need is of
  pub record IsGuard (ql : Locals) (needs : List Need) (g : ℕ) : Type 0 where
    pub plain : IsPlain in_q g
    pub is_temporary : IsTemporary ql g
    pub beside : AreBeside g needs

  -- P has asked for the next one, and Q stands where it stood, in front of what stands for the write
  abbrev pub JoinedInside : (q : Spot) (p : List Mark → Spot) (those : List Mark) → List Asked → Type 0
  JoinedInside q p those [] = Unit {0}
  JoinedInside q p those (a ∷ asked) = c.Joined frame q (p (those ++ mark_of a ∷ []))

  -- where the last one was bad, both trap next
  abbrev pub JoinedBefore : (q : Spot) (p : List Mark → Spot) (those : List Mark) → List Asked → Type 0
  JoinedBefore q p those [] = Unit {0}
  JoinedBefore q p those (a ∷ []) = Unit {0}
  JoinedBefore q p those (a ∷ b ∷ asked) = c.Joined frame q (p (those ++ mark_of a ∷ []))

  -- ---- values that go to a temporary first

  -- `t = e;` in front of what stands for `x = e;`, each with some marks and the same to ask for
  pub record WorkedOut (ql pl : Locals) (these those : List Mark) (asked : List Asked) (keep source : Expr) : Type 0 where
    pub temporary : ℕ
    pub value : Value
    pub new : c.base frame.func ≤ temporary
    pub q_met : AreMet (needs_of asked) ql
    pub p_met : AreMet (needs_of asked) pl
    pub keeps : Writes in_q keep these asked (register_cell in_q temporary) value
    pub asks : Asks in_p (next_of in_p source) (λ ms. is_known (next_of in_p source ms) ≡ false) those asked

  -- where both have asked for the next one; or where Q has the value in its temporary, and P is in front of its write
  abbrev pub JoinedOut : (q p : List Mark → Spot) (q_end : Spot) (these those : List Mark) → List Asked → Type 0
  JoinedOut q p q_end these those [] = c.Joined frame q_end (p those)
  JoinedOut q p q_end these those (a ∷ asked) = c.Joined frame (q (these ++ mark_of a ∷ [])) (p (those ++ mark_of a ∷ []))

  -- what is known of the step from there
  abbrev pub StepBehind : (List Active → Type 0) → (qs ps : List (List Value)) (ql pl : Locals) (sq sp : Spot) → List Asked → Type 0
  StepBehind Apart qs ps ql pl sq sp [] = IsStep Apart qs ps ql pl sq sp
  StepBehind Apart qs ps ql pl sq sp (a ∷ asked) = Unit {0}
