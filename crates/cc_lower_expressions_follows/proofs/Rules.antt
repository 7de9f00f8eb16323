-- What a statement of q does, as a rule for each kind.
use Rattle.std.proofs.Common.{◌≡◌, ℕ, [], Option, Some, None, Bool, true, false, refl, subst, sym, if◌then◌else◌}
use Rattle.cc_program.specs.declared.value.Value.{Value}
use Rattle.cc_program.specs.declared.value.Cell.{Cell}
use Rattle.cc_states.specs.CcEval.declared.action.Action.{Action}
use Rattle.cc_states.specs.CcEval.declared.mark.Mark.{Mark}
use Rattle.cc_states.specs.CcEval.declared.action.Action.TheVariants.{Write, Choose}
use Rattle.cc_states.specs.CcEval.declared.mark.Mark.TheVariants.{Did}
use Rattle.cc_states.specs.CcEval.Progress.{Get, ask, bind, needs, given}
use Rattle.cc_lower_expressions_follows.specs.Trees.{IsSharedCell, IsShared, Regs, with_reg, register_cell, after, Setting, Writes, Ends, Stuck, Sim, Right, Both, Fail, Runs}
use Rattle.cc_states.specs.CcSyntax.Registers.{is_register}
use Rattle.cc_states.specs.Answers.{IsMarkOf}
use Rattle.cc_lower_expressions_follows.proofs.TreeLaws.{bind-assoc, sim_right}

abbrev pub nothing : Mark → Unit {0}
nothing m = tt

abbrev pub write : Cell → Bool → Value → Get (Unit {0})
write c is_event x = ask (Write c is_event x) nothing

-- `register = value`
abbrev pub set_tree : Setting → Get (Option Value) → ℕ → Get (Unit {0})
set_tree w e n = bind e (λ v. needs v (write (register_cell w n) false))

-- `place = value`, where the place leads to this cell
abbrev pub put_tree : Get (Option Cell × Option Value) → Bool → Get (Unit {0})
put_tree e is_event = bind e (λ v. needs v.0 (λ c. needs v.1 (write c is_event)))

-- `register = what a step gives`
abbrev pub take_tree : {C : Type 0} → Setting → Get (Option C) → (C → Action) → ℕ → Get (Unit {0})
take_tree w e action n = bind e (λ c. needs c (λ c. bind (ask (action c) given) (λ v. needs v (write (register_cell w n) false))))

-- `if`
abbrev pub if_tree : Get (Option Bool) → Get (Unit {0}) → Get (Unit {0}) → Get (Unit {0})
if_tree c these those = bind c (λ v. needs v (λ b. bind (ask (Choose (Some b)) (λ m. b)) (λ b. if b then these else those)))

module _ (w : Setting) {A B : Type 0} (Q : A → B → Regs → Regs → Type 0) (rest : Get B) where
  abbrev then_rest : Unit {0} → Get B
  then_rest u = rest

  -- what q writes to a register of its own
  wrote : (n : ℕ) (x : Value) (g : Get A) (r s : Regs) → is_register w.to n ≡ true → Sim w Q g r rest (with_reg s n x) →
      Sim w Q g r (bind (write (register_cell w n) false x) then_rest) s
  wrote n x g r s i d = Right (with_reg s n x) (Write (register_cell w n) false x) Did refl (Writes n x refl i refl refl) d

  set_good : (n : ℕ) (v : Option Value) (g : Get A) (r s : Regs) → is_register w.to n ≡ true →
      (v ≡ None → Ends w w.from g r) → ((x : Value) → v ≡ Some x → Sim w Q g r rest (with_reg s n x)) → Sim w Q g r (bind (needs v (write (register_cell w n) false)) then_rest) s
  set_good n None g r s i bad good = Fail (bad refl) (Stuck [] refl)
  set_good n (Some x) g r s i bad good = wrote n x g r s i (good x refl)

  -- a bad value traps on both sides
  pub sim_set : (e : Get (Option Value)) (n : ℕ) (v : Option Value) (g : Get A) (r s : Regs) → is_register w.to n ≡ true → Runs w v s e s →
      (v ≡ None → Ends w w.from g r) → ((x : Value) → v ≡ Some x → Sim w Q g r rest (with_reg s n x)) → Sim w Q g r (bind (set_tree w e n) then_rest) s
  sim_set e n v g r s i d bad good =
      subst (λ h. Sim w Q g r h s) (sym (bind-assoc e (λ v. needs v (write (register_cell w n) false)) then_rest))
      (sim_right w Q (λ v. bind (needs v (write (register_cell w n) false)) then_rest) d (set_good n v g r s i bad good))

  -- a step that gives no bad value, on both sides; what it gives goes to a register of q
  module _ {C : Type 0} (action : C → Action) (f : Option Value → Get A) (n : ℕ) (r s : Regs) (i : is_register w.to n ≡ true)
      (sure : (c : C) (m : Mark) → IsMarkOf w.p w.openings (action c) m → (x : Value) × (given m ≡ Some x)) where
    abbrev tail_of : C → Get B
    tail_of c = bind (bind (ask (action c) given) (λ v. needs v (write (register_cell w n) false))) then_rest

    took : (c : C) (m : Mark) (x : Value) → given m ≡ Some x → Sim w Q (f (Some x)) r rest (with_reg s n x) → Sim w Q (after (bind (ask (action c) given) f) m) r (after (tail_of c) m) s
    took c m x e d =
        subst (λ v. Sim w Q (f v) r (bind (needs v (write (register_cell w n) false)) then_rest) s) (sym e) (wrote n x (f (Some x)) r s i d)

    -- what it gave, by which mark
    abbrev Behind : Option C → Type 0
    Behind c = (c' : C) (m : Mark) (x : Value) → c ≡ Some c' → IsMarkOf w.p w.openings (action c') m → given m ≡ Some x → Sim w Q (f (Some x)) r rest (with_reg s n x)

    taken : (c : Option C) → ((c' : C) → c ≡ Some c' → IsShared w (action c')) → Behind c →
        Sim w Q (bind (needs c (λ c. ask (action c) given)) f) r (bind (needs c (λ c. bind (ask (action c) given) (λ v. needs v (write (register_cell w n) false)))) then_rest) s
    taken None shares d = Fail (Stuck [] refl) (Stuck [] refl)
    taken (Some c) shares d = Both (action c) (shares c refl) refl refl (λ m h. let x = sure c m h in took c m x.0 x.1 (d c m x.0 refl h x.1))

    pub sim_take : (e : Get (Option C)) (c : Option C) → Runs w c s e s → ((c' : C) → c ≡ Some c' → IsShared w (action c')) → Behind c →
        Sim w Q (bind (needs c (λ c. ask (action c) given)) f) r (bind (take_tree w e action n) then_rest) s
    sim_take e c d shares k =
        subst (λ h. Sim w Q (bind (needs c (λ c. ask (action c) given)) f) r h s)
        (sym (bind-assoc e (λ c. needs c (λ c. bind (ask (action c) given) (λ v. needs v (write (register_cell w n) false)))) then_rest))
        (sim_right w Q (λ c. bind (needs c (λ c. bind (ask (action c) given) (λ v. needs v (write (register_cell w n) false)))) then_rest) d (taken c shares k))

  -- a write that is the same on both sides
  module _ (is_event : Bool) (f : Option Value → Get A) (answer : Option Value) (r s : Regs) where
    put_good : (c : Option Cell) (v : Option Value) → ((c' : Cell) → c ≡ Some c' → IsSharedCell w c') → ((x : Value) → v ≡ Some x → Sim w Q (f answer) r rest s) →
        Sim w Q (bind (needs c (λ c. needs v (λ x. ask (Write c is_event x) (λ m. answer)))) f) r (bind (needs c (λ c. needs v (write c is_event))) then_rest) s
    put_good None v shares d = Fail (Stuck [] refl) (Stuck [] refl)
    put_good (Some c) None shares d = Fail (Stuck [] refl) (Stuck [] refl)
    put_good (Some c) (Some x) shares d = Both (Write c is_event x) (shares c refl) refl refl (λ m h. d x refl)

    pub sim_put : (e : Get (Option Cell × Option Value)) (c : Option Cell) (v : Option Value) → Runs w (c, v) s e s → ((c' : Cell) → c ≡ Some c' → IsSharedCell w c') → ((x : Value) → v ≡ Some x → Sim w Q (f answer) r rest s) →
        Sim w Q (bind (needs c (λ c. needs v (λ x. ask (Write c is_event x) (λ m. answer)))) f) r (bind (put_tree e is_event) then_rest) s
    sim_put e c v d shares k =
        subst (λ h. Sim w Q (bind (needs c (λ c. needs v (λ x. ask (Write c is_event x) (λ m. answer)))) f) r h s)
        (sym (bind-assoc e (λ v. needs v.0 (λ c. needs v.1 (write c is_event))) then_rest))
        (sim_right w Q (λ v. bind (needs v.0 (λ c. needs v.1 (write c is_event))) then_rest) d (put_good c v shares k))
