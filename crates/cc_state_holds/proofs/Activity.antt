-- Activations, stacks and states, part by part, as the code asks it of them.
use Rattle.std.proofs.Common.{◌≡◌, ℕ, Bool, true, false, List, ◌∷◌, length, Option, Some, None, slice_get, refl, ap, sym, ◌∙◌, subst}
use Rattle.std.specs.Prelude.{◌↔◌, IsTrue}
use Rattle.std.specs.List.{Contains}
use Rattle.std.proofs.lemmas.Option.{same_Some, none-some}
use Rattle.cc_program.specs.declared.func.Func.{Func}
use Rattle.cc_program.specs.declared.program.Program.{Program}
use Rattle.cc_program.specs.declared.value.Value.{Value}
use Rattle.cc_proof_covers.specs.Covers.{under, innermost, StandsAtPoint, AreStaticsIn, AreLocalsIn}
use Rattle.cc_proof_covers.specs.Pending.{pending}
use Rattle.cc_state.proofs.Lists.{at_contained}
use Rattle.cc_state.specs.View.{view, Lies}
use Rattle.cc_state_reads.specs.CcStateFacts.declared.facts.Facts.{Facts}
use Rattle.cc_state_holds.proofs.Right.{never}
use Rattle.cc_state_holds.proofs.Whole.{by_parts}
use Rattle.cc_state_holds.specs.Parts.{Each, IsReachedFrom, MayRunAt, counted_flag, IsRight, IsRightAmong, IsBodyIn, IsIn, IsActivationIn, IsStackIn}
use Rattle.cc_state_reads.specs.CcStateOperators.Domains.{Domain}
use Rattle.cc_steps.proofs.StackLemmas.{actives_of-empty}
use Rattle.cc_steps.specs.declared.activation.Activation.{Activation}
use Rattle.cc_steps.specs.State.{Active, Memory, State}
use Rattle.cc_steps.specs.Turn.{running_level}
use Rattle.cc_steps.specs.View.{actives_of}

module _ {I : Type 0} (d : Domain I) (p : Program) (facts : Facts I) (m : Memory) where
  -- ---- a point, and locals

  pub none_right : (points : List ℕ) (flag : Option Bool) (a : Active) (f : Func) (result : Option (ℕ × Value)) → Each (λ (k n : ℕ). IsRight d p facts flag m a f result n → ⊥) points → IsTrue false ↔ IsRightAmong d p facts points flag m a f result
  none_right points flag a f result none = (never, (λ w. absurd (let at = at_contained points w.0 w.1 in none at.0 w.0 at.1 w.2)))

  module _ (flag : Option Bool) (a : Active) (f : Func) where
    pub other_locals : (AreLocalsIn p (view d p facts) f a → ⊥) → IsTrue false ↔ IsBodyIn d p facts flag m a f
    other_locals fails = (never, (λ h. absurd (fails h.0)))

    pub by_points : (points : List ℕ) (given : Option (ℕ × Value)) (said : Bool) → given ≡ pending p a → ((n : ℕ) → Contains points n ↔ StandsAtPoint p a given n) → AreLocalsIn p (view d p facts) f a →
        IsTrue said ↔ IsRightAmong d p facts points flag m a f given → IsTrue said ↔ IsBodyIn d p facts flag m a f
    by_points points given said e stand k h = (to, back)
      where
        to : IsTrue said → IsBodyIn d p facts flag m a f
        to t = let w = h.0 t in (k, (w.0, subst (λ (o : Option (ℕ × Value)). IsRight d p facts flag m a f o w.0) e w.2))

        back : IsBodyIn d p facts flag m a f → IsTrue said
        back (locals, (n, right)) = let r = subst (λ (o : Option (ℕ × Value)). IsRight d p facts flag m a f o n) (sym e) right in h.1 (n, (stand n).1 r.at, r)

  -- ---- an activation

  module _ (flag : Option Bool) (stack : List Active) (a : Active) (below : List Active) (top : stack ≡ a ∷ below) where
    module _ (level : Option ℕ) (level_is : level ≡ innermost p stack) where
      pub other_reach : IsTrue false ↔ IsReachedFrom facts level a.func → IsTrue false ↔ IsActivationIn d p facts flag m a below
      other_reach k = (never, (λ w. k.1 (subst (λ (l : Option ℕ). IsReachedFrom facts l a.func) (sym (level_is ∙ ap (innermost p) top)) w.2.from)))

      its_reach : IsTrue true ↔ IsReachedFrom facts level a.func → IsReachedFrom facts (innermost p (a ∷ below)) a.func
      its_reach k = subst (λ (l : Option ℕ). IsReachedFrom facts l a.func) (level_is ∙ ap (innermost p) top) (k.0 refl)

    module _ (running : ℕ) (running_is : running ≡ running_level p stack) where
      pub other_level : IsTrue false ↔ MayRunAt facts a.func running → IsTrue false ↔ IsActivationIn d p facts flag m a below
      other_level k = (never, (λ w. k.1 (subst (λ (l : ℕ). MayRunAt facts a.func l) (sym (running_is ∙ ap (running_level p) top)) w.2.level)))

      its_level : IsTrue true ↔ MayRunAt facts a.func running → MayRunAt facts a.func (running_level p (a ∷ below))
      its_level k = subst (λ (l : ℕ). MayRunAt facts a.func l) (running_is ∙ ap (running_level p) top) (k.0 refl)

    pub other_function : None ≡ slice_get p.funcs a.func → IsTrue false ↔ IsActivationIn d p facts flag m a below
    other_function e = (never, (λ w. absurd (none-some w.0 (e ∙ w.1))))

    pub by_body : (level : Option ℕ) → level ≡ innermost p stack → (running : ℕ) → running ≡ running_level p stack → (f : Func) (said : Bool) → Some f ≡ slice_get p.funcs a.func → IsTrue true ↔ IsReachedFrom facts level a.func →
        IsTrue true ↔ MayRunAt facts a.func running → IsTrue said ↔ IsBodyIn d p facts flag m a f → IsTrue said ↔ IsActivationIn d p facts flag m a below
    by_body level level_is running running_is f said there from runs h = (to, back)
      where
        to : IsTrue said → IsActivationIn d p facts flag m a below
        to t = let w = h.0 t in (f, sym there, record { from = its_reach level level_is from; level = its_level running running_is runs; locals = w.0; point = w.1.0; right = w.1.1 })

        back : IsActivationIn d p facts flag m a below → IsTrue said
        back (g, at, its) = let w = subst (λ (z : Func). IsIn d p facts flag m a below z) (sym (same_Some f g (there ∙ at))) its in h.1 (w.locals, (w.point, w.right))

  -- ---- a stack

  pub empty_stack : (flag : Option Bool) (stack : List Activation) → length stack ≡ 0 → IsTrue true ↔ IsStackIn d p facts flag m (actives_of stack)
  empty_stack flag stack e = subst (λ (s : List Active). IsTrue true ↔ IsStackIn d p facts flag m s) (sym (actives_of-empty stack e)) ((λ t. tt), (λ h. refl))

  module _ (flag : Option Bool) (stack : List Active) (a : Active) (below : List Active) (top : stack ≡ a ∷ below) where
    pub other_top : (IsActivationIn d p facts flag m a below → ⊥) → IsTrue false ↔ IsStackIn d p facts flag m stack
    other_top fails = subst (λ (s : List Active). IsTrue false ↔ IsStackIn d p facts flag m s) (sym top) (never, (λ h. absurd (fails h.0)))

    pub by_below : (counts : Option Bool) (said : Bool) → counts ≡ counted_flag (under a) m → IsActivationIn d p facts flag m a below → IsTrue said ↔ IsStackIn d p facts counts m below → IsTrue said ↔ IsStackIn d p facts flag m stack
    by_below counts said e k h =
        let r = subst (λ (o : Option Bool). IsTrue said ↔ IsStackIn d p facts o m below) e h in
        subst (λ (s : List Active). IsTrue said ↔ IsStackIn d p facts flag m s) (sym top) ((λ t. (k, r.0 t)), (λ w. r.1 w.1))

-- ---- a state

module _ {I : Type 0} (d : Domain I) (p : Program) (facts : Facts I) (s : State) where
  pub other_statics : IsTrue false ↔ AreStaticsIn p (view d p facts) s.memory.statics → IsTrue false ↔ Lies d p facts s
  other_statics k = (never, (λ h. k.1 h.statics))

  pub by_stack : (said : Bool) → IsTrue true ↔ AreStaticsIn p (view d p facts) s.memory.statics → IsTrue said ↔ IsStackIn d p facts (Some s.memory.flag) s.memory s.stack → IsTrue said ↔ Lies d p facts s
  by_stack said k h = ((λ t. (by_parts d p facts s).0 (record { statics = k.0 refl; stack = h.0 t })), (λ w. h.1 ((by_parts d p facts s).1 w).stack))
