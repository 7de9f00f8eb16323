-- Operands that were read, as the code asks it of each.
use Rattle.std.proofs.Common.{◌≡◌, ℕ, Bool, true, false, List, Option, Some, None, refl, sym, ◌∙◌, subst}
use Rattle.std.specs.Prelude.{◌↔◌, IsTrue, is_some}
use Rattle.std.proofs.lemmas.Option.{same_Some, none-some}
use Rattle.cc_program.specs.declared.func.Func.{Func}
use Rattle.cc_program.specs.declared.program.Program.{Program}
use Rattle.cc_program.specs.declared.value.Cell.{Cell}
use Rattle.cc_program.specs.declared.value.Cell.TheVariants as cell
use Rattle.cc_program.specs.declared.value.Part.{Part}
use Rattle.cc_program.specs.declared.value.Root.TheVariants as root
use Rattle.cc_program.specs.declared.value.Value.{Value}
use Rattle.cc_proof_covers.specs.Covers.{WasIn}
use Rattle.cc_state.specs.View.{view, StaticAt}
use Rattle.cc_state_reads.specs.CcStateFacts.declared.facts.Facts.{Facts}
use Rattle.cc_state_holds.proofs.PointSets.{cell_held, local_held}
use Rattle.cc_state_holds.proofs.Right.{never}
use Rattle.cc_state_holds.specs.Basis.{IsPlace}
use Rattle.cc_state_holds.specs.declared.basis.Basis.{Basis}
use Rattle.cc_state_holds.specs.declared.basis.Reached.{Reached}
use Rattle.cc_state_holds.specs.Parts.{IsInRegisterSet, IsInCellSet, WasLocalIn, WasReadIn}
use Rattle.cc_state_reads.specs.CcStateKeys.Tracked.{tracked_number}
use Rattle.cc_state_reads.specs.CcStateOperators.Domains.{Domain}
use Rattle.cc_steps.specs.State.{Active}
use Rattle.cc_steps.specs.Step.{cell_position}
use Rattle.cc_state_reads.specs.CcSyntax.Registers.{is_register}

module _ {I : Type 0} (d : Domain I) (b : Basis I) (place : Reached I) (here : IsPlace d b place) (a : Active) (f : Func) (x : Value) where
  abbrev pub Was : Cell → Type 0
  Was at = WasIn b.program.now (view d b.program.now b.facts.now) a f place.number at x

  -- ---- a static object

  module _ (i : ℕ) (path : List Part) where
    abbrev pub HasStatic : Type 0
    HasStatic = StaticAt d b.program.now b.facts.now i (cell_position b.program.now (root.Static i) path) x

    pub other_static : IsTrue false ↔ HasStatic → IsTrue false ↔ Was (cell.At (root.Static i) path)
    other_static k = (never, (λ h. k.1 h.0))

    pub static_by : (said : Bool) → IsTrue true ↔ HasStatic → IsTrue said ↔ (is_some (tracked_number b.program.now i) ≡ true → IsInCellSet d b.program.now place.fact.now i x) → IsTrue said ↔ Was (cell.At (root.Static i) path)
    static_by said k q =
        let w = cell_held d b.program.now b.facts.now place.number place.fact.now here.known i x in
        ((λ t. (k.0 refl, (λ tracks. w.0 (q.0 t tracks)))), (λ h. q.1 (λ tracks. w.1 (h.1 tracks))))

  -- ---- a local

  module _ (number g r : ℕ) (path : List Part) where
    abbrev pub HasRegister : Type 0
    HasRegister = number ≡ a.number → is_register f r ≡ true → IsInRegisterSet d place.fact.now here.func r x

    pub other_register : IsTrue false ↔ HasRegister → IsTrue false ↔ Was (cell.At (root.Auto number g r) path)
    other_register k =
        let w = local_held d b.program.now b.facts.now place.number place.fact.now here.known here.func here.function r x in
        (never, (λ h. k.1 (λ e is. w.1 (h.0 e is))))

    pub auto_by : (said : Bool) → IsTrue true ↔ HasRegister → IsTrue said ↔ WasLocalIn d b.program.now b.facts.now number g r path x → IsTrue said ↔ Was (cell.At (root.Auto number g r) path)
    auto_by said k q =
        let w = local_held d b.program.now b.facts.now place.number place.fact.now here.known here.func here.function r x in
        ((λ t. ((λ e is. w.0 (k.0 refl e is)), q.0 t)), (λ h. q.1 h.1))

-- ---- what a mark gave

module _ {I : Type 0} (d : Domain I) (p : Program) (facts : Facts I) (a : Active) (f : Func) (n : ℕ) (from : Option Cell) (given : Option Value) where
  pub none_given : None ≡ given → IsTrue true ↔ WasReadIn d p facts a f n from given
  none_given e = ((λ t at x is gives. absurd (none-some x (e ∙ gives))), (λ h. refl))

  pub none_read : None ≡ from → IsTrue true ↔ WasReadIn d p facts a f n from given
  none_read e = ((λ t at x is gives. absurd (none-some at (e ∙ is))), (λ h. refl))

  pub one_read : (at : Cell) (x : Value) (said : Bool) → Some at ≡ from → Some x ≡ given → IsTrue said ↔ WasIn p (view d p facts) a f n at x → IsTrue said ↔ WasReadIn d p facts a f n from given
  one_read at x said e g h = (to, (λ w. h.1 (w at x (sym e) (sym g))))
    where
      to : IsTrue said → WasReadIn d p facts a f n from given
      to t other y is gives =
          subst (λ (z : Value). WasIn p (view d p facts) a f n other z) (same_Some x y (g ∙ gives)) (subst (λ (c : Cell). WasIn p (view d p facts) a f n c x) (same_Some at other (e ∙ is)) (h.0 t))
