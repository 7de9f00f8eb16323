-- An action that both programs perform, whatever it is.
use Rattle.std.proofs.Common.{◌≡◌, ◌<◌, ℕ, Bool, false, List, ◌∷◌, Some, subst, ◌⊎◌, inl, inr}
use Rattle.std.specs.Prelude.{◌==◌}
use Rattle.cc_steps.specs.CcEval.declared.action.Action.{Action}
use Rattle.cc_steps.specs.CcEval.declared.action.Action.TheVariants.{Read, Write, Choose, Call, Flag, Save}
use Rattle.cc_steps.specs.CcEval.declared.action.Manner.{Manner}
use Rattle.cc_program.specs.declared.program.Program.{Program}
use Rattle.cc_program.specs.declared.value.Address.{Address}
use Rattle.cc_program.specs.declared.value.Address.TheVariants as address
use Rattle.cc_program.specs.declared.value.Cell.{Cell}
use Rattle.cc_program.specs.declared.value.Cell.TheVariants as cell
use Rattle.cc_program.specs.declared.value.Part.{Part}
use Rattle.cc_program.specs.declared.value.Root.TheVariants as root
use Rattle.cc_program.specs.declared.value.Value.{Value}
use Rattle.cc_rewrite_residues.specs.Residues.{Agree}
use Rattle.cc_rewrite_residues.specs.Standing.{Frame, Locals, Spot, standing, Rest, running}
use Rattle.cc_rewrite_actions.specs.Actions.{IsNamed, StaysUnguarded, MarkBoth, IsReadKnown, IsWriteKnown, IsCallKnown, IsActionKnown}
use Rattle.cc_rewrite_simulation.specs.Comparison.{Comparison}
use Rattle.cc_rewrite_actions.specs.Kept.{Kept}
use Rattle.cc_rewrite_simulation.specs.Relation.{Shared, Related}
use Rattle.cc_rewrite_actions.proofs.Calls.{performs-call, performs-wrong}
use Rattle.cc_rewrite_actions.proofs.Performs.{performs-save, performs-flag, performs-choice, performs-read-static, performs-read-local, performs-read-device, performs-write-static, performs-write-own, performs-write-other, performs-write-device}
use Rattle.cc_steps.specs.State.{State}
use Rattle.cc_steps.specs.Step.{perform}

module _ {Q P : Program} (c : Comparison Q P) (May : Type 0) (k : Kept c) (still : StaysUnguarded c) (frame : Frame) (sq sp : Spot) (joined : c.Joined frame sq sp) (marks : MarkBoth c k.IsKeptValue frame sq sp)
    (rq rp : Rest) (flag : Bool) (qs ps : List (List Value)) (ql pl : Locals) (shared : Shared c May frame.handler rq rp qs ps) (agree : Agree (c.base frame.func) ql pl)
  where
    abbrev s : State
    s = running rq flag qs (standing frame ql sq)

    abbrev t : State
    t = running rp flag ps (standing frame pl sp)

    abbrev Same : Action → Type 0
    Same action = Related c May (perform Q s action) (perform P t action)

    reads : (at : Cell) (manner : Manner) → IsReadKnown c k rp ps frame pl sp at → Same (Read at manner)
    reads (cell.Device d) manner h = performs-read-device c May k still frame sq sp joined marks rq rp flag qs ps ql pl shared agree d manner
    reads (cell.At (root.Static i) path) manner h = performs-read-static c May k still frame sq sp joined marks rq rp flag qs ps ql pl shared agree i path manner h.1.0 h.0 h.1.1 h.1.2
    reads (cell.At (root.Auto n f l) path) manner h = performs-read-local c May k still frame sq sp joined marks rq rp flag qs ps ql pl shared agree n f l path manner h.0 h.1 h.2

    writes-local : (n f l : ℕ) (path : List Part) (is_event : Bool) (v : Value) → k.IsKept (root.Auto n f l) → k.IsKeptValue v →
        ((frame.number ≡ n) × (l < c.base frame.func)) ⊎ (((frame.number == n) ≡ false) × IsNamed c rp.below n l) → Same (Write (cell.At (root.Auto n f l) path) is_event v)
    writes-local n f l path is_event v kept value (inl h) =
        subst (λ (x : ℕ). k.IsKept (root.Auto x f l) → Same (Write (cell.At (root.Auto x f l) path) is_event v)) h.0
        (λ own. performs-write-own c May k still frame sq sp joined marks rq rp flag qs ps ql pl shared agree f l path is_event v own value h.1) kept
    writes-local n f l path is_event v kept value (inr h) = performs-write-other c May k still frame sq sp joined marks rq rp flag qs ps ql pl shared agree n f l path is_event v h.0 kept value h.1

    writes : (at : Cell) (is_event : Bool) (v : Value) → IsWriteKnown c k rp ps frame pl sp at → k.IsKeptValue v → Same (Write at is_event v)
    writes (cell.Device d) is_event v h value = performs-write-device c May k still frame sq sp joined marks rq rp flag qs ps ql pl shared agree d is_event v value
    writes (cell.At (root.Static i) path) is_event v h value = performs-write-static c May k still frame sq sp joined marks rq rp flag qs ps ql pl shared agree i path is_event v h.1.0 h.0 value h.1.1
    writes (cell.At (root.Auto n f l) path) is_event v h value = writes-local n f l path is_event v h.0 value h.1

    calls : (callee : Address) (args : List Value) → IsCallKnown c k rp ps frame pl sp callee args → Same (Call callee args)
    calls address.Null args h = performs-wrong c May rq rp flag qs ps frame ql pl sq sp shared agree joined address.Null args (λ f e. absurd (cc))
    calls (address.Func f) args h = performs-call c May rq rp flag qs ps frame ql pl sq sp shared agree joined f args h
    calls (address.At object path index count) args h = performs-wrong c May rq rp flag qs ps frame ql pl sq sp shared agree joined (address.At object path index count) args (λ f e. absurd (cc))

    pub performs : (action : Action) → IsActionKnown c k rp ps frame pl sp action → Same action
    performs (Read at manner) h = reads at manner h
    performs (Write at is_event v) h = writes at is_event v h.0 h.1
    performs (Choose b) h = performs-choice c May k still frame sq sp joined marks rq rp flag qs ps ql pl shared agree b
    performs (Call callee args) h = calls callee args h
    performs (Flag on) h = performs-flag c May k still frame sq sp joined marks rq rp flag qs ps ql pl shared agree on
    performs Save h = performs-save c May k still frame sq sp joined marks rq rp flag qs ps ql pl shared agree
