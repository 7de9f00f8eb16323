-- A state lies in facts exactly where its parts do.
use Rattle.std.proofs.Common.{◌≡◌, ℕ, List, [], ◌∷◌, ◌++◌, length, take, Option, Some, None, refl, ap, sym, ◌∙◌, slice_get}
use Rattle.std.specs.Prelude.{◌↔◌}
use Rattle.std.proofs.lemmas.Option.{none-some, same_Some}
use Rattle.cc_state_reads.specs.CcEval.declared.action.Action.{Action}
use Rattle.cc_state_reads.specs.CcEval.declared.action.Action.TheVariants.{Read, Write, Choose, Call, Flag, Save}
use Rattle.cc_state_reads.specs.CcEval.declared.action.Manner.{Manner}
use Rattle.cc_state_reads.specs.CcEval.declared.mark.Mark.{Mark}
use Rattle.cc_state_reads.specs.CcEval.declared.mark.Mark.TheVariants.{Gave, Did, Chose}
use Rattle.cc_state_reads.specs.CcEval.Progress.{Progress, Known, Waits, Traps}
use Rattle.cc_program.specs.declared.func.Func.{Func}
use Rattle.cc_program.specs.declared.program.Program.{Program}
use Rattle.cc_program.specs.declared.value.Cell.{Cell}
use Rattle.cc_program.specs.declared.value.Value.{Value}
use Rattle.cc_proof_covers.specs.Covers.{Role, Running, Interrupted, Waiting, under, innermost, IsReached, AreOperandsIn, MemoryLies, ActivationLies, StackLies}
use Rattle.cc_proof_covers.specs.Pending.{pending}
use Rattle.cc_state.specs.View.{view, Lies}
use Rattle.cc_state_reads.specs.CcStateFacts.declared.facts.Facts.{Facts}
use Rattle.cc_state_holds.proofs.Splits.{at_middle, in_front, splits}
use Rattle.cc_state_holds.specs.Parts.{cell_read, cell_waited, value_given, IsReachedFrom, counted_flag, IsMemoryAt, AreReadsIn, AreReadsAt, IsActivationIn, IsStackIn, IsStateIn}
use Rattle.cc_state_reads.specs.CcStateOperators.Domains.{Domain}
use Rattle.cc_flow_sound.specs.CcStates.States.{expression_of}
use Rattle.cc_steps.specs.State.{Active, Memory, State}
use Rattle.cc_steps.specs.Step.{progress_at}

-- ---- reads

action_reads : (action : Action) (at : Cell) → cell_read action ≡ Some at → (manner : Manner) × (action ≡ Read at manner)
action_reads (Read from manner) at h = (manner, ap (λ c. Read c manner) (same_Some from at h))
action_reads (Write to is_event x) at h = absurd (none-some at h)
action_reads (Choose b) at h = absurd (none-some at h)
action_reads (Call callee args) at h = absurd (none-some at h)
action_reads (Flag on) at h = absurd (none-some at h)
action_reads Save at h = absurd (none-some at h)

waits_read : (q : Progress (Option Value)) (at : Cell) → cell_waited q ≡ Some at → (manner : Manner) × (q ≡ Waits (Read at manner))
waits_read (Waits action) at h = let w = action_reads action at h in (w.0, ap Waits w.1)
waits_read (Known x ms) at h = absurd (none-some at h)
waits_read (Traps ms) at h = absurd (none-some at h)

mark_gave : (mark : Mark) (x : Value) → value_given mark ≡ Some x → mark ≡ Gave (Some x)
mark_gave (Gave y) x h = ap Gave h
mark_gave Did x h = absurd (none-some x h)
mark_gave (Chose b) x h = absurd (none-some x h)

module _ {I : Type 0} (d : Domain I) (p : Program) (facts : Facts I) where
  reads_from : (a : Active) (f : Func) (n : ℕ) → AreOperandsIn p (view d p facts) a f n → AreReadsIn d p facts a f n
  reads_from a f n h k mark there at x waits gives =
      let w = waits_read (progress_at p a.number a.func (take k a.marks) (expression_of a)) at waits in
      let s = splits a.marks k mark there in
      h (take k a.marks) s.0 x at w.0 (s.1 ∙ ap (λ m. take k a.marks ++ m ∷ s.0) (mark_gave mark x gives)) w.1

  reads_back : (a : Active) (f : Func) (n : ℕ) → AreReadsIn d p facts a f n → AreOperandsIn p (view d p facts) a f n
  reads_back a f n h front back x at manner is waits =
      h (length front) (Gave (Some x)) (ap (λ ms. slice_get ms (length front)) is ∙ at_middle front back (Gave (Some x))) at x
      (ap (λ ms. cell_waited (progress_at p a.number a.func ms (expression_of a))) (ap (take (length front)) is ∙ in_front front (Gave (Some x) ∷ back)) ∙ ap cell_waited waits) refl

  operands_from : (result : Option (ℕ × Value)) (a : Active) (f : Func) (n : ℕ) → (result ≡ None → AreOperandsIn p (view d p facts) a f n) → AreReadsAt d p facts result a f n
  operands_from None a f n h = reads_from a f n (h refl)
  operands_from (Some r) a f n h = tt

  operands_back : (result : Option (ℕ × Value)) (a : Active) (f : Func) (n : ℕ) → AreReadsAt d p facts result a f n → result ≡ None → AreOperandsIn p (view d p facts) a f n
  operands_back None a f n h e = reads_back a f n h
  operands_back (Some r) a f n h e = absurd (none-some r (sym e))

  -- ---- reach, and memory

  reached_from : (level : Option ℕ) (g : ℕ) → IsReached p (view d p facts) level g → IsReachedFrom facts level g
  reached_from None g h = h
  reached_from (Some level) g h = h.1

  reached_back : (level : Option ℕ) (g : ℕ) → IsReachedFrom facts level g → IsReached p (view d p facts) level g
  reached_back None g h = h
  reached_back (Some level) g h = (h.0, h)

  memory_from : (role : Role) (m : Memory) (a : Active) (n : ℕ) (result : Option (ℕ × Value)) → MemoryLies p (view d p facts) role m a n result → IsMemoryAt d p facts (counted_flag role m) m a n result
  memory_from Running m a n result h = h
  memory_from Interrupted m a n result h = h
  memory_from (Waiting g) m a n result h = tt

  memory_back : (role : Role) (m : Memory) (a : Active) (n : ℕ) (result : Option (ℕ × Value)) → IsMemoryAt d p facts (counted_flag role m) m a n result → MemoryLies p (view d p facts) role m a n result
  memory_back Running m a n result h = h
  memory_back Interrupted m a n result h = h
  memory_back (Waiting g) m a n result h = tt

  -- ---- activations

  activation_from : (role : Role) (m : Memory) (a : Active) (below : List Active) → ActivationLies p (view d p facts) role m a below → IsActivationIn d p facts (counted_flag role m) m a below
  activation_from role m a below h = (
    h.func,
    h.function,
    record {
      from = reached_from (innermost p (a ∷ below)) a.func h.from;
      level = h.level;
      locals = h.locals;
      point = h.point;
      right = record {
        at = h.at;
        reached = h.reached;
        registers = h.registers;
        operands = operands_from (pending p a) a h.func h.point h.operands;
        memory = memory_from role m a h.point (pending p a) h.memory;
      };
    },
  )

  activation_back : (role : Role) (m : Memory) (a : Active) (below : List Active) → IsActivationIn d p facts (counted_flag role m) m a below → ActivationLies p (view d p facts) role m a below
  activation_back role m a below h =
      let w = h.2 in
      record {
        func = h.0;
        function = h.1;
        locals = w.locals;
        from = reached_back (innermost p (a ∷ below)) a.func w.from;
        level = w.level;
        point = w.point;
        at = w.right.at;
        reached = w.right.reached;
        registers = w.right.registers;
        operands = operands_back (pending p a) a h.0 w.point w.right.operands;
        memory = memory_back role m a w.point (pending p a) w.right.memory;
      }

  stack_from : (role : Role) (m : Memory) (stack : List Active) → StackLies p (view d p facts) role m stack → IsStackIn d p facts (counted_flag role m) m stack
  stack_from role m [] h = tt
  stack_from role m (a ∷ below) h = (activation_from role m a below h.0, stack_from (under a) m below h.1)

  stack_back : (role : Role) (m : Memory) (stack : List Active) → IsStackIn d p facts (counted_flag role m) m stack → StackLies p (view d p facts) role m stack
  stack_back role m [] h = tt
  stack_back role m (a ∷ below) h = (activation_back role m a below h.0, stack_back (under a) m below h.1)

  -- ---- states

  pub by_parts : (s : State) → IsStateIn d p facts s ↔ Lies d p facts s
  by_parts s = ((λ h. record { statics = h.statics; stack = stack_back Running s.memory s.stack h.stack }), (λ h. record { statics = h.statics; stack = stack_from Running s.memory s.stack h.stack }))
