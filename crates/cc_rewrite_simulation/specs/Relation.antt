-- How states of Q stand to states of P, of which each turn of Q keeps the relation. Activations stand in front of the same statements, or inside
-- what stands for an access of a word.
use Rattle.std.specs.Prelude.{◌≡◌, ◌<◌, ◌^◌, ℕ, suc, pos, Bool, true, false, not, List, [], ◌∷◌}
use Rattle.cc_program.specs.declared.program.Program.{Program}
use Rattle.cc_program.specs.declared.value.Value.{Value}
use Rattle.cc_program.specs.declared.value.Value.TheVariants.{Int}
use Rattle.cc_rewrite_fields.specs.Field.{put}
use Rattle.cc_rewrite_homes.specs.Homes.{Field, Packed, HoldsWord, Statics}
use Rattle.cc_rewrite_residues.specs.Residues.{Need, AreMet, AreOwn, SetsLocal, SetsStatic, Agree, Residue, Doomed, Leads, alone}
use Rattle.cc_rewrite_residues.specs.Standing.{Frame, Locals, Spot, standing, Rest, running}
use Rattle.cc_rewrite_simulation.specs.Comparison.{Comparison}
use Rattle.cc_steps.specs.Rows.{rows_of}
use Rattle.cc_steps.specs.Runs.{run}
use Rattle.cc_steps.specs.State.{Active, State}
use Rattle.cc_steps.specs.Turn.{is_going}
use Rattle.cc_steps.specs.declared.event.End.TheVariants.{Going}

-- what has ended in both, with the same rows
pub record Ended (Q P : Program) (s t : State) : Type 0 where
  pub rows : rows_of Q s.memory.trace ≡ rows_of P t.memory.trace
  pub end : s.end ≡ t.end
  pub over : is_going s.end ≡ false

module _ {Q P : Program} (c : Comparison Q P) where
  -- the word was read, and so was the scalar: what is left sets the same register
  pub record Reads (frame : Frame) (ql pl : Locals) (sq sp : Spot) : Type 0 where
    pub n : ℕ
    pub m : ℕ
    pub q_needs : List Need
    pub p_needs : List Need
    pub register : ℕ
    pub value : Value
    pub tq : Spot
    pub tp : Spot
    pub q_met : AreMet q_needs ql
    pub p_met : AreMet p_needs pl
    pub q_own : AreOwn (c.own frame.func) q_needs
    pub p_own : AreOwn (c.own frame.func) p_needs
    pub below : register < c.base frame.func
    pub q_left : Residue Q frame c.own (c.base frame.func) n q_needs sq (SetsLocal register value) tq
    pub p_left : Residue P frame c.own (c.base frame.func) m p_needs sp (SetsLocal register value) tp
    pub joined : c.Joined frame tq tp

  -- the word was read, and is as it was; of the statement of P some silent turns may be done
  pub record Writes (qs : List (List Value)) (frame : Frame) (ql pl : Locals) (sq sp : Spot) : Type 0 where
    pub n : ℕ
    pub m : ℕ
    pub q_needs : List Need
    pub p_needs : List Need
    pub object : ℕ
    pub position : ℕ
    pub field : Field
    pub word : ℕ
    pub code : ℕ
    pub value : Value
    pub tq : Spot
    pub tp : Spot
    pub q_met : AreMet q_needs ql
    pub p_met : AreMet p_needs pl
    pub q_own : AreOwn (c.own frame.func) q_needs
    pub p_own : AreOwn (c.own frame.func) p_needs
    pub at : c.home object position ≡ Packed field
    pub holds : HoldsWord qs field word
    pub small : code < 2 ^ field.width
    pub coded : c.decode object position code ≡ value
    pub q_left : Residue Q frame c.own (c.base frame.func) n q_needs sq (SetsStatic field.object field.position (Int (pos (put word field.shift field.width code)))) tq
    pub p_left : Residue P frame c.own (c.base frame.func) m p_needs sp (SetsStatic object position value) tp
    pub joined : c.Joined frame tq tp
    pub unguarded : c.Unguarded (standing frame pl sp) field

  -- a bad value is coming: both trap
  pub record Dooms (frame : Frame) (ql pl : Locals) (sq sp : Spot) : Type 0 where
    pub n : ℕ
    pub m : ℕ
    pub q_needs : List Need
    pub p_needs : List Need
    pub q_met : AreMet q_needs ql
    pub p_met : AreMet p_needs pl
    pub q_own : AreOwn (c.own frame.func) q_needs
    pub p_own : AreOwn (c.own frame.func) p_needs
    pub q_left : Doomed Q frame c.own (c.base frame.func) n q_needs sq
    pub p_left : Doomed P frame c.own (c.base frame.func) m p_needs sp

  -- no activation stands at a write of the word without a guard
  abbrev pub AreApart : Field → List Active → Type 0
  AreApart f [] = Unit {0}
  AreApart f (p ∷ others) = ((g : Field) → c.Unguarded p g → f.object ≡ g.object → f.position ≡ g.position → ⊥) × AreApart f others

-- whether Q may stand inside what stands for an access; where it may not (⊥), this is the relation of statements that are not coded, for both
-- directions
module _ {Q P : Program} (c : Comparison Q P) (May : Type 0) where
  pub data Stands (qs : List (List Value)) (frame : Frame) (ql pl : Locals) (sq sp : Spot) : Type 0 where
    Level : c.Joined frame sq sp → Stands qs frame ql pl sq sp
    Reading : May → Reads c frame ql pl sq sp → Stands qs frame ql pl sq sp
    Writing : May → Writes c qs frame ql pl sq sp → Stands qs frame ql pl sq sp
    Trapping : May → Dooms c frame ql pl sq sp → Stands qs frame ql pl sq sp

  -- two activations
  pub record Pair (qs : List (List Value)) (q p : Active) : Type 0 where
    pub frame : Frame
    pub ql : Locals
    pub pl : Locals
    pub sq : Spot
    pub sp : Spot
    pub q_is : q ≡ standing frame ql sq
    pub p_is : p ≡ standing frame pl sp
    pub agree : Agree (c.base frame.func) ql pl
    pub stands : Stands qs frame ql pl sq sp

  -- one that waits for a call stands in front of the same statements in both
  abbrev pub IsLevel : (qs : List (List Value)) (frame : Frame) (ql pl : Locals) (sq sp : Spot) → Stands qs frame ql pl sq sp → Type 0
  IsLevel qs frame ql pl sq sp (Level h) = Unit {0}
  IsLevel qs frame ql pl sq sp (Reading may h) = ⊥
  IsLevel qs frame ql pl sq sp (Writing may h) = ⊥
  IsLevel qs frame ql pl sq sp (Trapping may h) = ⊥

  abbrev pub MayWait : Bool → (qs : List (List Value)) (q p : Active) → Pair qs q p → Type 0
  MayWait true qs q p h = IsLevel qs h.frame h.ql h.pl h.sq h.sp h.stands
  MayWait false qs q p h = Unit {0}

  -- by whether the first of them waits for a call: the one above it is no handler's
  abbrev pub Stacks : List (List Value) → Bool → List Active → List Active → Type 0
  Stacks qs waits [] [] = Unit {0}
  Stacks qs waits (q ∷ below) (p ∷ others) = (h : Pair qs q p) × MayWait waits qs q p h × Stacks qs (not p.handler) below others
  Stacks qs waits [] (p ∷ others) = ⊥
  Stacks qs waits (q ∷ below) [] = ⊥

  -- what two states share besides their running activations
  pub record Shared (handler : Bool) (rq rp : Rest) (qs ps : List (List Value)) : Type 0 where
    pub inputs : rq.inputs ≡ rp.inputs
    pub rows : rows_of Q rq.trace ≡ rows_of P rp.trace
    pub opened : rq.opened ≡ rp.opened
    pub statics : Statics c.home c.decode qs ps
    pub below : Stacks qs (not handler) rq.below rp.below

  -- states in which Q is in no guard: the flags are the same
  pub record Meets (s t : State) : Type 0 where
    pub rq : Rest
    pub rp : Rest
    pub flag : Bool
    pub qs : List (List Value)
    pub ps : List (List Value)
    pub q : Active
    pub p : Active
    pub s_is : s ≡ running rq flag qs q
    pub t_is : t ≡ running rp flag ps p
    pub shared : Shared p.handler rq rp qs ps
    pub top : Pair qs q p

  -- Q is in a guard, and P still in front of the access: what comes is fixed for both, whoever arrives
  pub record InGuard (s t : State) : Type 0 where
    pub n : ℕ
    pub m : ℕ
    pub last : State
    pub source_last : State
    pub leads : Leads Q (suc n) s last
    pub goes : t.end ≡ Going
    pub quiet : t.memory.trace ≡ source_last.memory.trace
    pub source : run P t (alone m) ≡ source_last
    pub meets : Meets last source_last

  -- the same, where what comes is a trap of both
  pub record FailsInGuard (s t : State) : Type 0 where
    pub n : ℕ
    pub m : ℕ
    pub last : State
    pub source_last : State
    pub leads : Leads Q (suc n) s last
    pub goes : t.end ≡ Going
    pub quiet : t.memory.trace ≡ source_last.memory.trace
    pub source : run P t (alone m) ≡ source_last
    pub ended : Ended Q P last source_last

  pub data Related (s t : State) : Type 0 where
    Meeting : Meets s t → Related s t
    Guarded : May → InGuard s t → Related s t
    Failing : May → FailsInGuard s t → Related s t
    Over : Ended Q P s t → Related s t
