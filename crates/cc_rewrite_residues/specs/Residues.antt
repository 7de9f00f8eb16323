-- The residue of a statement: what an activation has still to do of it. It is told by what the turns come to, whatever else the state has: other
-- locals, which other activations may write through pointers, the static objects, the interrupt flag, and what stands below.
use Rattle.std.specs.Prelude.{◌≡◌, ◌<◌, ◌≤◌, ℕ, zero, suc, pos, Bool, true, false, List, [], ◌∷◌, Option, Some, None, replicate}
use Rattle.cc_steps.specs.CcCells.Cells.{scalar_in, with_scalar}
use Rattle.cc_program.specs.declared.program.Program.{Program}
use Rattle.cc_program.specs.declared.value.Value.{Value}
use Rattle.cc_program.specs.declared.value.Value.TheVariants.{Int}
use Rattle.cc_rewrite_fields.specs.Field.{put}
use Rattle.cc_rewrite_homes.specs.Homes.{Field, HoldsWord}
use Rattle.cc_rewrite_residues.specs.Standing.{Frame, Locals, Spot, standing, Rest, running}
use Rattle.cc_steps.specs.Runs.{Arrivals, run, is_empty}
use Rattle.cc_steps.specs.State.{State}
use Rattle.cc_steps.specs.Step.{stopped}
use Rattle.cc_steps.specs.Turn.{turn}
use Rattle.cc_steps.specs.declared.event.End.TheVariants.{Going, Trap}

-- so many turns without an arrival
abbrev pub alone : ℕ → Arrivals
alone n = replicate n None

-- ---- what a residue needs of the locals: that a register holds a value, that it is there, or that it was never written

pub data Need : Type 0 where
  Has : ℕ → Value → Need
  There : ℕ → Need
  Bad : ℕ → Need

abbrev pub IsMet : Need → Locals → Type 0
IsMet (Has i v) locals = scalar_in locals i 0 ≡ Some (Some v)
IsMet (There i) locals = (v : Option Value) × (scalar_in locals i 0 ≡ Some v)
IsMet (Bad i) locals = scalar_in locals i 0 ≡ Some None

abbrev pub AreMet : List Need → Locals → Type 0
AreMet [] locals = Unit {0}
AreMet (n ∷ needs) locals = IsMet n locals × AreMet needs locals

abbrev pub register_of : Need → ℕ
register_of (Has i v) = i
register_of (There i) = i
register_of (Bad i) = i

-- its registers are of a kind that no pointer names
abbrev pub AreOwn : (ℕ → Bool) → List Need → Type 0
AreOwn own [] = Unit {0}
AreOwn own (n ∷ needs) = (own (register_of n) ≡ true) × AreOwn own needs

-- ---- what a turn does

pub data Does : Type 0 where
  Nothing : Does
  SetsLocal : ℕ → Value → Does
  SetsStatic : ℕ → ℕ → Value → Does

abbrev pub statics_after : Does → List (List Value) → List (List Value)
statics_after Nothing statics = statics
statics_after (SetsLocal i v) statics = statics
statics_after (SetsStatic i k v) statics = with_scalar statics i k v

abbrev pub locals_after : Does → Locals → Locals
locals_after Nothing locals = locals
locals_after (SetsLocal i v) locals = with_scalar locals i 0 (Some v)
locals_after (SetsStatic i k v) locals = locals

-- nothing but a temporary, which stands behind so many locals, is changed
abbrev pub IsSilent : ℕ → Does → Type 0
IsSilent base Nothing = Unit {0}
IsSilent base (SetsLocal i v) = base ≤ i
IsSilent base (SetsStatic i k v) = ⊥

-- locals that are the same below so many
abbrev pub Agree : ℕ → Locals → Locals → Type 0
Agree base these those = (i k : ℕ) → i < base → scalar_in these i k ≡ scalar_in those i k

-- ---- turns

-- the static scalars once a code was put into a field of a word
abbrev pub word_put : List (List Value) → Field → ℕ → ℕ → List (List Value)
word_put statics f word c = with_scalar statics f.object f.position (Int (pos (put word f.shift f.width c)))

module _ (p : Program) where
  -- so many turns, whoever arrives, with nothing to be seen
  abbrev pub Leads : ℕ → State → State → Type 0
  Leads zero s t = s ≡ t
  Leads (suc n) s t = (s.end ≡ Going) × (s.memory.trace ≡ t.memory.trace) × ((arrival : Option ℕ) → Leads n (turn p s arrival) t)

module _ (p : Program) (frame : Frame) where
  -- a turn, where these needs are met
  abbrev pub Turns : List Need → Spot → Does → Spot → Type 0
  Turns needs s does t =
      (r : Rest) (flag : Bool) (statics : List (List Value)) (locals : Locals) → AreMet needs locals →
      turn p (running r flag statics (standing frame locals s)) None ≡ running r flag (statics_after does statics) (standing frame (locals_after does locals) t)

  -- a turn that traps
  abbrev pub Stops : List Need → Spot → Type 0
  Stops needs s =
      (r : Rest) (flag : Bool) (statics : List (List Value)) (locals : Locals) → AreMet needs locals →
      turn p (running r flag statics (standing frame locals s)) None ≡ stopped (running r flag statics (standing frame locals s)) Trap

  module _ (own : ℕ → ℕ → Bool) where
    -- so many silent turns, and then one that does this
    abbrev pub Residue : ℕ → ℕ → List Need → Spot → Does → Spot → Type 0
    Residue base zero needs s does t = Turns needs s does t
    Residue base (suc n) needs s does t =
        (step : Does) × (mid : Spot) × (others : List Need) × IsSilent base step × Turns needs s step mid × ((locals : Locals) → AreMet needs locals → AreMet others (locals_after step locals)) ×
        AreOwn (own frame.func) others × Residue base n others mid does t

    -- so many silent turns, and then a trap
    abbrev pub Doomed : ℕ → ℕ → List Need → Spot → Type 0
    Doomed base zero needs s = Stops needs s
    Doomed base (suc n) needs s =
        (step : Does) × (mid : Spot) × (others : List Need) × IsSilent base step × Turns needs s step mid × ((locals : Locals) → AreMet needs locals → AreMet others (locals_after step locals)) ×
        AreOwn (own frame.func) others × Doomed base n others mid

    -- each turn but the last leaves it inside its statement
    abbrev pub Inside : (base n : ℕ) (needs : List Need) (s : Spot) (does : Does) (t : Spot) → Residue base n needs s does t → Type 0
    Inside base zero needs s does t h = Unit {0}
    Inside base (suc n) needs s does t h = (is_empty h.1.marks ≡ false) × Inside base n h.2 h.1 does t h.7

  -- statements that put a code into a field between a save and a restore of the interrupt flag: a first turn, and then so many whoever arrives.
  -- Of the locals they change temporaries alone
  abbrev pub Guards : ℕ → ℕ → List Need → Spot → Field → ℕ → Spot → Type 0
  Guards base n needs s f c t =
      (r : Rest) (flag : Bool) (statics : List (List Value)) (locals : Locals) (word : ℕ) → AreMet needs locals → HoldsWord statics f word →
      (after : Locals) × Agree base after locals ×
      Leads p n (turn p (running r flag statics (standing frame locals s)) None) (running r flag (word_put statics f word c) (standing frame after t))

  -- statements that put a code into a field: so many turns without an arrival do it
  abbrev pub Puts : ℕ → ℕ → List Need → Spot → Field → ℕ → Spot → Type 0
  Puts base n needs s f c t =
      (r : Rest) (flag : Bool) (statics : List (List Value)) (locals : Locals) (word : ℕ) → AreMet needs locals → HoldsWord statics f word →
      (after : Locals) × Agree base after locals ×
      (run p (running r flag statics (standing frame locals s)) (alone n) ≡ running r flag (word_put statics f word c) (standing frame after t))
