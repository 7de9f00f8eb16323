-- A write of a scalar that never changes: its value goes to a temporary of Q.
use Rattle.std.proofs.Common.{◌≡◌, ◌≤◌, ◌⊎◌, inl, inr, ℕ, Bool, List, [], ◌∷◌, Some, ap, sym, ◌∙◌, subst}
use Rattle.cc_program.specs.declared.expr.Expr.{Expr}
use Rattle.cc_program.specs.declared.program.Program.{Program}
use Rattle.cc_program.specs.declared.stmt.Stmt.{Stmt, Do}
use Rattle.cc_program.specs.declared.value.Value.{Value}
use Rattle.cc_rewrite_accesses_follows.specs.Accesses.{Functions, in_list, behind_one, in_q, in_p, IsStep, Anything, JoinedOn, WriteOfConstant, WritesOfBad}
use Rattle.cc_rewrite_accesses_follows.specs.Asked.{Asked, register_cell, static_cell, IsWriting, IsTrapping}
use Rattle.cc_rewrite_accesses_follows.proofs.Together.{do-together, fail-together}
use Rattle.cc_rewrite_accesses_follows.proofs.Turns.{set-turn, write-turn, trap-turn, unknown-writing, unknown-trapping}
use Rattle.cc_rewrite_homes.specs.Homes.{Home, Fixed, AtHome, Statics}
use Rattle.cc_rewrite_homes.proofs.ScalarLemmas.{both_or_not, written_read, written_elsewhere}
use Rattle.cc_rewrite_residues.specs.Residues.{Agree, SetsLocal, SetsStatic}
use Rattle.cc_rewrite_residues.specs.Standing.{Frame, Locals}
use Rattle.cc_rewrite_residues.proofs.ResidueLemmas.{silent-agree, agree-trans}
use Rattle.cc_rewrite_simulation.specs.Comparison.{Comparison}
use Rattle.cc_steps.specs.CcCells.Cells.{scalar_in, with_scalar}
use Rattle.cc_steps.specs.CcControl.Control.{Level}
use Rattle.cc_steps.specs.CcEval.declared.mark.Mark.{Mark}

module _ {Q P : Program} (c : Comparison Q P) where
  -- its home holds the same value
  fixed-by : (qs ps : List (List Value)) (i k : ℕ) (u : Value) → c.home i k ≡ Fixed u → Statics c.home c.decode qs ps → (j l : ℕ) (v : Value) → scalar_in (with_scalar ps i k u) j l ≡ Some v → ((i ≡ j) × (k ≡ l)) ⊎ (i ≡ j → k ≡ l → ⊥) →
      AtHome (c.home j l) (c.decode j l) qs v
  fixed-by qs ps i k u at statics j l v h (inl same) =
      subst (λ (z : ℕ). AtHome (c.home z l) (c.decode z l) qs v) same.0
      (subst (λ (z : ℕ). AtHome (c.home i z) (c.decode i z) qs v) same.1
      (subst (λ (z : Home). AtHome z (c.decode i k) qs v) (sym at)
      (written_read ps i k u v (ap (λ z. scalar_in (with_scalar ps i k u) z k) same.0 ∙ ap (λ z. scalar_in (with_scalar ps i k u) j z) same.1 ∙ h))))
  fixed-by qs ps i k u at statics j l v h (inr other) = statics j l v (sym (written_elsewhere ps i k u j l other) ∙ h)

  fixed-kept : (qs ps : List (List Value)) (i k : ℕ) (u : Value) → c.home i k ≡ Fixed u → Statics c.home c.decode qs ps → Statics c.home c.decode qs (with_scalar ps i k u)
  fixed-kept qs ps i k u at statics j l v h = fixed-by qs ps i k u at statics j l v h (both_or_not i j k l)

  module _ (frame : Frame) (f : Functions Q P frame) (these those : List Mark) (asked others : List Asked) (keep source : Expr) (back rest : List Stmt) (n m : ℕ) (qa pa : List Level) (qs ps : List (List Value)) (ql pl : Locals)
      (agree : Agree (c.base frame.func) ql pl) (on : JoinedOn c frame f (λ ms. in_list (Do keep ∷ back) n qa ms) (λ ms. in_list (Do source ∷ rest) m pa ms) these those asked others)
    where
      pub constant-write : WriteOfConstant c frame f ql pl these those asked others keep source → c.Joined frame (behind_one Q frame back n qa) (behind_one P frame rest m pa) →
          IsStep c frame f (Anything c frame f) qs ps ql pl (in_list (Do keep ∷ back) n qa these) (in_list (Do source ∷ rest) m pa those)
      constant-write h joined =
          do-together c frame f keep source back rest n m qa pa (IsWriting (in_q c frame f) keep (register_cell (in_q c frame f) h.temporary) h.value) (IsWriting (in_p c frame f) source (static_cell h.object h.path) h.value)
          (unknown-writing (in_q c frame f) keep (register_cell (in_q c frame f) h.temporary) h.value) (unknown-writing (in_p c frame f) source (static_cell h.object h.path) h.value) qs ps ql pl agree
          (SetsLocal h.temporary h.value) (SetsStatic h.object h.position h.value) (set-turn Q frame f.fq f.known_q keep back n qa [] h.temporary h.value)
          (λ ms. write-turn P frame f.fp f.known_p source rest m pa [] h.object h.path h.position h.value ms h.located) joined
          (agree-trans (c.base frame.func) (with_scalar ql h.temporary 0 (Some h.value)) ql pl (silent-agree (c.base frame.func) (SetsLocal h.temporary h.value) ql h.new) agree) (Anything c frame f)
          (λ rq rp shared _. record { inputs = shared.inputs; rows = shared.rows; opened = shared.opened; statics = fixed-kept qs ps h.object h.position h.value h.fixed shared.statics; below = shared.below })
          (λ rq rp shared. record { inputs = shared.inputs; rows = shared.rows; opened = shared.opened; statics = fixed-kept qs ps h.object h.position h.value h.fixed shared.statics; below = shared.below }) these those asked others h.q_met h.p_met
          h.keeps h.writes on

      -- of a bad value, to a temporary or into a word
      pub bad-write : WritesOfBad c frame f ql pl these those asked others keep source → IsStep c frame f (Anything c frame f) qs ps ql pl (in_list (Do keep ∷ back) n qa these) (in_list (Do source ∷ rest) m pa those)
      bad-write h =
          fail-together c frame f keep source back rest n m qa pa (IsTrapping (in_q c frame f) keep) (IsTrapping (in_p c frame f) source) (unknown-trapping (in_q c frame f) keep) (unknown-trapping (in_p c frame f) source) qs ps ql pl agree
          (trap-turn Q frame f.fq f.known_q keep back n qa []) (trap-turn P frame f.fp f.known_p source rest m pa []) (Anything c frame f) these those asked others h.q_met h.p_met h.fails h.source_fails on
