-- How states of Q stand to states of P, of which each turn of P keeps the relation. Q makes all of what stands for an access when P makes the
-- access, so where P is at a boundary Q is not behind one.
use Rattle.std.specs.Prelude.{◌≡◌, ◌<◌, ◌^◌, ℕ, Bool, false, List, [], ◌∷◌, None}
use Rattle.cc_program.specs.declared.program.Program.{Program}
use Rattle.cc_program.specs.declared.value.Value.{Value}
use Rattle.cc_rewrite_homes.specs.Homes.{Field, Packed, Statics}
use Rattle.cc_rewrite_residues.specs.Residues.{Need, AreMet, AreOwn, SetsLocal, SetsStatic, Agree, Residue, Inside, Puts, alone}
use Rattle.cc_rewrite_residues.specs.Standing.{Frame, Locals, Spot, standing, Rest, running}
use Rattle.cc_rewrite_simulation.specs.Comparison.{Comparison}
use Rattle.cc_rewrite_simulation.specs.Relation.{Reads, Ended}
use Rattle.cc_steps.specs.Rows.{rows_of}
use Rattle.cc_steps.specs.Runs.{run, is_empty, IsBoundary}
use Rattle.cc_steps.specs.State.{Active, State}
use Rattle.cc_steps.specs.Turn.{turn}
use Rattle.cc_steps.specs.declared.event.End.TheVariants.{Going}

module _ {Q P : Program} (c : Comparison Q P) where
  -- P is inside a write, and Q in front of what stands for it
  pub record Ahead (frame : Frame) (ql pl : Locals) (sq sp : Spot) : Type 0 where
    pub n : ℕ
    pub m : ℕ
    pub q_needs : List Need
    pub p_needs : List Need
    pub object : ℕ
    pub position : ℕ
    pub field : Field
    pub code : ℕ
    pub value : Value
    pub tq : Spot
    pub tp : Spot
    pub q_met : AreMet q_needs ql
    pub p_met : AreMet p_needs pl
    pub q_own : AreOwn (c.own frame.func) q_needs
    pub p_own : AreOwn (c.own frame.func) p_needs
    pub at : c.home object position ≡ Packed field
    pub small : code < 2 ^ field.width
    pub coded : c.decode object position code ≡ value
    pub q_left : Puts Q frame (c.base frame.func) n q_needs sq field code tq
    pub p_left : Residue P frame c.own (c.base frame.func) m p_needs sp (SetsStatic object position value) tp
    pub p_inside : Inside P frame c.own (c.base frame.func) m p_needs sp (SetsStatic object position value) tp p_left
    pub joined : c.Joined frame tq tp

  pub data StandsBack (frame : Frame) (ql pl : Locals) (sq sp : Spot) : Type 0 where
    LevelBack : c.Joined frame sq sp → StandsBack frame ql pl sq sp
    ReadingBack : is_empty sp.marks ≡ false → (h : Reads c frame ql pl sq sp) → Inside P frame c.own (c.base frame.func) h.m h.p_needs sp (SetsLocal h.register h.value) h.tp h.p_left → StandsBack frame ql pl sq sp
    AheadBack : is_empty sp.marks ≡ false → Ahead frame ql pl sq sp → StandsBack frame ql pl sq sp

  -- two activations that run
  pub record PairBack (q p : Active) : Type 0 where
    pub frame : Frame
    pub ql : Locals
    pub pl : Locals
    pub sq : Spot
    pub sp : Spot
    pub q_is : q ≡ standing frame ql sq
    pub p_is : p ≡ standing frame pl sp
    pub agree : Agree (c.base frame.func) ql pl
    pub stands : StandsBack frame ql pl sq sp

  -- one that waits for a call, or was interrupted, which happens at boundaries alone
  pub record PairLevel (q p : Active) : Type 0 where
    pub frame : Frame
    pub ql : Locals
    pub pl : Locals
    pub sq : Spot
    pub sp : Spot
    pub q_is : q ≡ standing frame ql sq
    pub p_is : p ≡ standing frame pl sp
    pub agree : Agree (c.base frame.func) ql pl
    pub joined : c.Joined frame sq sp

  abbrev pub StacksBack : List Active → List Active → Type 0
  StacksBack [] [] = Unit {0}
  StacksBack (q ∷ below) (p ∷ others) = PairLevel q p × StacksBack below others
  StacksBack [] (p ∷ others) = ⊥
  StacksBack (q ∷ below) [] = ⊥

  -- what two states share besides their running activations
  pub record SharedBack (rq rp : Rest) (qs ps : List (List Value)) : Type 0 where
    pub inputs : rq.inputs ≡ rp.inputs
    pub rows : rows_of Q rq.trace ≡ rows_of P rp.trace
    pub opened : rq.opened ≡ rp.opened
    pub statics : Statics c.home c.decode qs ps
    pub below : StacksBack rq.below rp.below

  pub record MeetsBack (s t : State) : Type 0 where
    pub rq : Rest
    pub rp : Rest
    pub flag : Bool
    pub qs : List (List Value)
    pub ps : List (List Value)
    pub q : Active
    pub p : Active
    pub s_is : s ≡ running rq flag qs q
    pub t_is : t ≡ running rp flag ps p
    pub shared : SharedBack rq rp qs ps
    pub top : PairBack q p

  -- P is inside a statement that traps next, and Q in front of what stands for it, and traps
  pub record FailsBack (s t : State) : Type 0 where
    pub n : ℕ
    pub last : State
    pub source_last : State
    pub going_q : s.end ≡ Going
    pub going_p : t.end ≡ Going
    pub rows : rows_of Q s.memory.trace ≡ rows_of P t.memory.trace
    pub leads : run Q s (alone n) ≡ last
    pub source : turn P t None ≡ source_last
    pub inside : IsBoundary t → ⊥
    pub ended : Ended Q P last source_last

  pub data RelatedBack (s t : State) : Type 0 where
    MeetingBack : MeetsBack s t → RelatedBack s t
    FailingBack : FailsBack s t → RelatedBack s t
    OverBack : Ended Q P s t → RelatedBack s t
