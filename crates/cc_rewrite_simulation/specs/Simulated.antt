-- What is to be shown of two programs that are compared, so that Q follows P, and answers it: the step of two activations that stand in front of the
-- same statements, and how runs and handlers begin. All else that may be related is carried on by laws.
use Rattle.std.specs.Prelude.{◌≡◌, ◌&&◌, ℕ, ℤ, Bool, true, false, List, [], Option, Some, None, slice_get}
use Rattle.cc_steps.specs.CcCells.Cells.{scalar_in}
use Rattle.cc_program.specs.declared.func.Func.{Func}
use Rattle.cc_program.specs.declared.program.Program.{Program}
use Rattle.cc_program.specs.declared.value.Value.{Value}
use Rattle.cc_rewrite_homes.specs.Homes.{Field, Packed}
use Rattle.cc_rewrite_residues.specs.Residues.{Agree}
use Rattle.cc_rewrite_residues.specs.Standing.{Frame, Locals, Spot, standing, entry, Rest, running}
use Rattle.cc_rewrite_simulation.specs.Comparison.{Comparison}
use Rattle.cc_rewrite_simulation.specs.Relation.{AreApart, Shared, Related}
use Rattle.cc_rewrite_simulation.specs.RelationBack.{SharedBack, RelatedBack}
use Rattle.cc_steps.specs.Rows.{func_name}
use Rattle.cc_steps.specs.Runs.{Arrivals, run, EntersAtBoundaries, is_empty, begins}
use Rattle.cc_steps.specs.State.{Active, State, locals_with}
use Rattle.cc_steps.specs.Turn.{start, turn, level_of, only_handler}

abbrev pub handler_frame : ℕ → ℕ → Frame
handler_frame number id = record { number = number; func = id; handler = true }

abbrev pub call_frame : ℕ → ℕ → Frame
call_frame number id = record { number = number; func = id; handler = false }

-- the next step of what stands there is the first of a statement, or of a loop's turn
abbrev pub is_at_boundary : Spot → Bool
is_at_boundary s = is_empty s.marks && begins s.control.0.rest s.control.0.phase

-- what is known of the states of a program
pub record IsKept (p : Program) (Known : State → Type 0) : Type 0 where
  pub starts : (inputs : List ℤ) → Known (start p inputs)
  pub turns : (s : State) (arrival : Option ℕ) → Known s → Known (turn p s arrival)

module _ {Q P : Program} (c : Comparison Q P) where
  -- ---- handlers

  abbrev pub BeginAlike : ℕ → Func → Func → Type 0
  BeginAlike h fq fp = Agree (c.base h) (locals_with Q [] fq.locals) (locals_with P [] fp.locals) × ((number : ℕ) → c.Joined (handler_frame number h) (entry Q number h fq) (entry P number h fp))

  abbrev pub AreHandlers : ℕ → Option Func → Option Func → Type 0
  AreHandlers h None None = Unit {0}
  AreHandlers h (Some fq) (Some fp) = BeginAlike h fq fp
  AreHandlers h None (Some fp) = ⊥
  AreHandlers h (Some fq) None = ⊥

  pub record EnterAlike : Type 0 where
    pub levels : (h : ℕ) → level_of Q h ≡ level_of P h
    pub names : (h : ℕ) → func_name Q h ≡ func_name P h
    pub handlers : (h : ℕ) → AreHandlers h (only_handler (slice_get Q.funcs h)) (only_handler (slice_get P.funcs h))

  -- ---- functions that are called

  -- a function with these arguments begins in both
  pub record BeginCalled (f : ℕ) (args : List Value) : Type 0 where
    pub fq : Func
    pub fp : Func
    pub in_q : slice_get Q.funcs f ≡ Some fq
    pub in_p : slice_get P.funcs f ≡ Some fp
    pub locals : Agree (c.base f) (locals_with Q args fq.locals) (locals_with P args fp.locals)
    pub joined : (number : ℕ) → c.Joined (call_frame number f) (entry Q number f fq) (entry P number f fp)

  -- ---- a turn of Q by turns of P, and one of P by turns of Q that enter at boundaries

  abbrev pub IsTurnFollowed : (May : Type 0) → State → State → Option ℕ → Type 0
  IsTurnFollowed May s t arrival = (others : Arrivals) × Related c May (turn Q s arrival) (run P t others)

  abbrev pub IsTurnAnswered : State → State → Option ℕ → Type 0
  IsTurnAnswered s t arrival = (others : Arrivals) × EntersAtBoundaries Q s others × RelatedBack c (run Q s others) (turn P t arrival)

  -- by what is known of the states of Q, and of those of P
  module _ (KnownQ Known : State → Type 0) where
    abbrev pub LevelStep : (May : Type 0) → Type 0
    LevelStep May =
        (rq rp : Rest) (flag : Bool) (qs ps : List (List Value)) (frame : Frame) (ql pl : Locals) (sq sp : Spot) → Shared c May frame.handler rq rp qs ps → Agree (c.base frame.func) ql pl →
        c.Joined frame sq sp → KnownQ (running rq flag qs (standing frame ql sq)) → Known (running rp flag ps (standing frame pl sp)) →
        IsTurnFollowed May (running rq flag qs (standing frame ql sq)) (running rp flag ps (standing frame pl sp)) None

    abbrev pub LevelStepBack : Type 0
    LevelStepBack =
        (rq rp : Rest) (flag : Bool) (qs ps : List (List Value)) (frame : Frame) (ql pl : Locals) (sq sp : Spot) → SharedBack c rq rp qs ps → Agree (c.base frame.func) ql pl →
        c.Joined frame sq sp → KnownQ (running rq flag qs (standing frame ql sq)) → Known (running rp flag ps (standing frame pl sp)) →
        IsTurnAnswered (running rq flag qs (standing frame ql sq)) (running rp flag ps (standing frame pl sp)) None

    pub record IsFollowed : Type 0 where
      pub kept_q : IsKept Q KnownQ
      pub kept : IsKept P Known
      pub entries : EnterAlike
      -- no activation below stands at a write without a guard into the word that is written without a guard
      pub separate : (rp : Rest) (flag : Bool) (ps : List (List Value)) (p : Active) → Known (running rp flag ps p) → (f : Field) → c.Unguarded p f → AreApart c f rp.below
      pub step : LevelStep (Unit {0})
      pub starts : (inputs : List ℤ) → Related c (Unit {0}) (start Q inputs) (start P inputs)

    pub record IsAnswered : Type 0 where
      pub kept_q : IsKept Q KnownQ
      pub kept : IsKept P Known
      pub entries : EnterAlike
      pub boundary : (frame : Frame) (sq sp : Spot) → c.Joined frame sq sp → is_at_boundary sp ≡ true → is_at_boundary sq ≡ true
      -- what stands in words is there
      pub slots : (rp : Rest) (flag : Bool) (ps : List (List Value)) (p : Active) → Known (running rp flag ps p) → (i k : ℕ) (f : Field) → c.home i k ≡ Packed f → (old : Value) × (scalar_in ps i k ≡ Some old)
      pub step : LevelStepBack
      pub starts : (inputs : List ℤ) → RelatedBack c (start Q inputs) (start P inputs)
