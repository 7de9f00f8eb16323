-- A write of the only code in its word, without a guard: one access in both.
use Rattle.std.proofs.Common.{◌≡◌, ◌<◌, ◌*◌, ◌^◌, ℕ, pos, Bool, not, List, [], ◌∷◌}
use Rattle.cc_program.specs.declared.expr.Expr.{Expr}
use Rattle.cc_program.specs.declared.program.Program.{Program}
use Rattle.cc_program.specs.declared.stmt.Stmt.{Stmt, Do}
use Rattle.cc_program.specs.declared.value.Value.{Value}
use Rattle.cc_program.specs.declared.value.Value.TheVariants.{Int}
use Rattle.cc_rewrite_accesses_follows.specs.Accesses.{Functions, Slot, in_list, behind_one, in_q, in_p, IsStep, JoinedOn, slot_cell, word_cell, WriteAlone}
use Rattle.cc_rewrite_accesses_follows.specs.Asked.{Asked, IsWriting}
use Rattle.cc_rewrite_accesses_follows.proofs.Loading.{held-word}
use Rattle.cc_rewrite_accesses_follows.proofs.Together.{do-together}
use Rattle.cc_rewrite_accesses_follows.proofs.Turns.{write-turn, unknown-writing}
use Rattle.cc_rewrite_homes.specs.Homes.{IsOff, Statics}
use Rattle.cc_rewrite_homes.proofs.HomeLemmas.{alone_write}
use Rattle.cc_rewrite_residues.specs.Residues.{Agree, SetsStatic}
use Rattle.cc_rewrite_residues.specs.Standing.{Frame, Locals, Rest}
use Rattle.cc_rewrite_simulation.specs.Comparison.{Comparison}
use Rattle.cc_rewrite_simulation.specs.Relation.{AreApart, Shared}
use Rattle.cc_rewrite_simulation.specs.RelationBack.{SharedBack}
use Rattle.cc_rewrite_simulation.proofs.Follows.{stacks-kept}
use Rattle.cc_steps.specs.CcCells.Cells.{with_scalar}
use Rattle.cc_steps.specs.CcControl.Control.{Level}
use Rattle.cc_steps.specs.CcEval.declared.mark.Mark.{Mark}

module _ {Q P : Program} (c : Comparison Q P) {ps : List (List Value)} (slot : Slot c ps) (code : ℕ) (value : Value) (coded : c.decode slot.object slot.position code ≡ value) (small : code < 2 ^ slot.field.width)
    (fits : code * 2 ^ slot.field.shift < 2 ^ slot.field.bits) (single : (m n : ℕ) → (slot.object ≡ m → slot.position ≡ n → ⊥) → IsOff slot.field.object slot.field.position (c.home m n)) (qs : List (List Value))
  where
    abbrev new : Value
    new = Int (pos (code * 2 ^ slot.field.shift))

    alone-statics : Statics c.home c.decode qs ps → Statics c.home c.decode (with_scalar qs slot.field.object slot.field.position new) (with_scalar ps slot.object slot.position value)
    alone-statics statics =
        let word = held-word c slot qs statics in alone_write c.home c.decode c.homes qs ps slot.object slot.position slot.field word.0 code value slot.home word.1 small fits coded single statics

    -- what both share, once both have written
    pub alone-shared : (handler : Bool) (rq rp : Rest) → Shared c (Unit {0}) handler rq rp qs ps → AreApart c slot.field rp.below →
        Shared c (Unit {0}) handler rq rp (with_scalar qs slot.field.object slot.field.position (Int (pos (code * 2 ^ slot.field.shift)))) (with_scalar ps slot.object slot.position value)
    alone-shared handler rq rp shared apart = record {
      inputs = shared.inputs;
      rows = shared.rows;
      opened = shared.opened;
      statics = alone-statics shared.statics;
      below = stacks-kept c (Unit {0}) qs slot.field new (not handler) rq.below rp.below apart shared.below;
    }

    pub alone-back : (rq rp : Rest) → SharedBack c rq rp qs ps →
        SharedBack c rq rp (with_scalar qs slot.field.object slot.field.position (Int (pos (code * 2 ^ slot.field.shift)))) (with_scalar ps slot.object slot.position value)
    alone-back rq rp shared = record { inputs = shared.inputs; rows = shared.rows; opened = shared.opened; statics = alone-statics shared.statics; below = shared.below }

module _ {Q P : Program} (c : Comparison Q P) (frame : Frame) (f : Functions Q P frame) {ps : List (List Value)} (slot : Slot c ps) (qs : List (List Value)) (ql pl : Locals) (agree : Agree (c.base frame.func) ql pl)
    (these those : List Mark) (asked others : List Asked) (store source : Expr) (h : WriteAlone c frame f slot ql pl these those asked others store source) (back rest : List Stmt) (n m : ℕ) (qa pa : List Level)
    (joined : c.Joined frame (behind_one Q frame back n qa) (behind_one P frame rest m pa))
    (on : JoinedOn c frame f (λ ms. in_list (Do store ∷ back) n qa ms) (λ ms. in_list (Do source ∷ rest) m pa ms) these those asked others)
  where
    abbrev word : Value
    word = Int (pos (h.code * 2 ^ slot.field.shift))

    pub alone-write : IsStep c frame f (AreApart c slot.field) qs ps ql pl (in_list (Do store ∷ back) n qa these) (in_list (Do source ∷ rest) m pa those)
    alone-write =
        do-together c frame f store source back rest n m qa pa (IsWriting (in_q c frame f) store (word_cell c frame f slot) word) (IsWriting (in_p c frame f) source (slot_cell c frame f slot) h.value)
        (unknown-writing (in_q c frame f) store (word_cell c frame f slot) word) (unknown-writing (in_p c frame f) source (slot_cell c frame f slot) h.value) qs ps ql pl agree
        (SetsStatic slot.field.object slot.field.position word) (SetsStatic slot.object slot.position h.value)
        (λ ms. write-turn Q frame f.fq f.known_q store back n qa [] slot.field.object slot.word_path slot.field.position word ms slot.word_located)
        (λ ms. write-turn P frame f.fp f.known_p source rest m pa [] slot.object slot.path slot.position h.value ms slot.located) joined agree (AreApart c slot.field)
        (λ rq rp shared apart. alone-shared c slot h.code h.value h.coded h.small h.fits h.single qs frame.handler rq rp shared apart) (λ rq rp shared. alone-back c slot h.code h.value h.coded h.small h.fits h.single qs rq rp shared)
        these those asked others h.q_met h.p_met h.stores h.writes on
