-- What facts say of a point, part by part, as the code asks it of an activation that counts as standing there.
use Rattle.std.proofs.Common.{◌≡◌, ℕ, Bool, true, false, true≢false, List, Option, Some, None, refl, ap, sym, ◌∙◌, subst}
use Rattle.std.specs.Prelude.{◌↔◌, IsTrue}
use Rattle.cc_cells.specs.Cells.{scalar_in}
use Rattle.cc_program.specs.declared.func.Func.{Func}
use Rattle.cc_program.specs.declared.value.Value.{Value}
use Rattle.cc_proof_covers.specs.Covers.{StandsAtPoint, IsMemoryIn}
use Rattle.cc_proof_covers.specs.Pending.{value_in}
use Rattle.cc_state.specs.View.{view}
use Rattle.cc_state_reads.specs.CcStateFacts.Facts.{may_be_in}
use Rattle.cc_state_holds.proofs.PointSets.{flag_held, cells_held, registers_held, pairs_held}
use Rattle.cc_state_holds.specs.Basis.{IsBasis, IsPlace}
use Rattle.cc_state_holds.specs.declared.basis.Basis.{Basis}
use Rattle.cc_state_holds.specs.declared.basis.Reached.{Reached}
use Rattle.cc_state_holds.specs.Parts.{AreRegistersHeld, AreCellsHeld, ArePairsHeld, IsMemoryAt, AreReadsIn, AreReadsAt, IsRight}
use Rattle.cc_state_reads.specs.CcStateKeys.Tracked.{registers}
use Rattle.cc_state_reads.specs.CcStateOperators.Domains.{Domain}
use Rattle.cc_steps.specs.State.{Active, Memory}

pub never : {A : Type 0} → IsTrue false → A
never t = absurd (true≢false (sym t))

module _ {I : Type 0} (d : Domain I) (b : Basis I) (basis : IsBasis d b) (place : Reached I) (here : IsPlace d b place) (m : Memory) (a : Active) (result : Option (ℕ × Value)) where
  -- ---- the memory

  module _ (on : Bool) (statics : List (List Value)) (same : m.statics ≡ statics) where
    abbrev pub Holds : Type 0
    Holds = IsMemoryIn b.program.now (view d b.program.now b.facts.now) m on a place.number result

    its_cells : Holds → AreCellsHeld d b.program.now place.fact.now b.tracked.now statics
    its_cells h =
        subst (λ (xs : List ℕ). AreCellsHeld d b.program.now place.fact.now xs statics) (sym basis.tracked)
        ((cells_held d b.program.now b.facts.now place.number place.fact.now here.known statics).1 (λ i x t held. h.cells i x t (ap (λ (ss : List (List Value)). scalar_in ss i 0) same ∙ held)))

    its_pairs : Holds → ArePairsHeld b.program.now here.func place.fact.now.same (value_in result a) statics
    its_pairs h =
        (pairs_held d b.program.now b.facts.now place.number place.fact.now here.known here.func here.function (value_in result a) statics).1 (λ r i x s v. sym (ap (λ (ss : List (List Value)). scalar_in ss i 0) same) ∙ h.pairs r i x s v)

    pub other_flag : false ≡ may_be_in place.fact.now on → IsTrue false ↔ Holds
    other_flag e = (never, (λ h. e ∙ (flag_held d b.program.now b.facts.now place.number place.fact.now here.known on).1 h.flag_in))

    pub other_cells : IsTrue false ↔ AreCellsHeld d b.program.now place.fact.now b.tracked.now statics → IsTrue false ↔ Holds
    other_cells k = (never, (λ h. k.1 (its_cells h)))

    pub by_pairs : (said : Bool) → true ≡ may_be_in place.fact.now on → IsTrue true ↔ AreCellsHeld d b.program.now place.fact.now b.tracked.now statics →
        IsTrue said ↔ ArePairsHeld b.program.now here.func place.fact.now.same (value_in result a) statics → IsTrue said ↔ Holds
    by_pairs said e k q = (to, (λ h. q.1 (its_pairs h)))
      where
        to : IsTrue said → Holds
        to t = record {
          flag_in = (flag_held d b.program.now b.facts.now place.number place.fact.now here.known on).0 (sym e);
          cells = λ i x tracks held.
              (cells_held d b.program.now b.facts.now place.number place.fact.now here.known statics).0 (subst (λ (xs : List ℕ). AreCellsHeld d b.program.now place.fact.now xs statics) basis.tracked (k.0 refl)) i x tracks
              (sym (ap (λ (ss : List (List Value)). scalar_in ss i 0) same) ∙ held);
          pairs = λ r i x s v.
              ap (λ (ss : List (List Value)). scalar_in ss i 0) same ∙ (pairs_held d b.program.now b.facts.now place.number place.fact.now here.known here.func here.function (value_in result a) statics).0 (q.0 t) r i x s v;
        }

  -- ---- all of it

  module _ (f : Func) (own : List ℕ) (are : own ≡ registers f) (flag : Option Bool) where
    abbrev pub IsSo : Type 0
    IsSo = IsRight d b.program.now b.facts.now flag m a f result place.number

    abbrev pub HasRegisters : Type 0
    HasRegisters = AreRegistersHeld d place.fact.now here.func own (value_in result a)

    abbrev pub HasMemory : Type 0
    HasMemory = IsMemoryAt d b.program.now b.facts.now flag m a place.number result

    its_registers : IsSo → HasRegisters
    its_registers h =
        subst (λ (xs : List ℕ). AreRegistersHeld d place.fact.now here.func xs (value_in result a)) (sym are)
        ((registers_held d b.program.now b.facts.now place.number place.fact.now here.known here.func here.function (value_in result a) f).1 h.registers)

    pub other_registers : IsTrue false ↔ HasRegisters → IsTrue false ↔ IsSo
    other_registers k = (never, (λ h. k.1 (its_registers h)))

    pub other_memory : IsTrue false ↔ HasMemory → IsTrue false ↔ IsSo
    other_memory k = (never, (λ h. k.1 h.memory))

    pub by_reads : (said : Bool) → StandsAtPoint b.program.now a result place.number → IsTrue true ↔ HasRegisters → IsTrue true ↔ HasMemory → IsTrue said ↔ AreReadsAt d b.program.now b.facts.now result a f place.number → IsTrue said ↔ IsSo
    by_reads said stands k q r = (to, (λ h. r.1 h.operands))
      where
        to : IsTrue said → IsSo
        to t = record {
          at = stands;
          reached = (place.fact.now, here.known);
          registers = (registers_held d b.program.now b.facts.now place.number place.fact.now here.known here.func here.function (value_in result a) f).0 (subst (λ (xs : List ℕ). AreRegistersHeld d place.fact.now here.func xs (value_in result a)) are (k.0 refl));
          operands = r.0 t;
          memory = q.0 refl;
        }

    pub reads_none : (said : Bool) → result ≡ None → IsTrue said ↔ AreReadsIn d b.program.now b.facts.now a f place.number → IsTrue said ↔ AreReadsAt d b.program.now b.facts.now result a f place.number
    reads_none said e h = subst (λ (o : Option (ℕ × Value)). IsTrue said ↔ AreReadsAt d b.program.now b.facts.now o a f place.number) (sym e) h

    pub reads_some : (given : ℕ × Value) → result ≡ Some given → IsTrue true ↔ AreReadsAt d b.program.now b.facts.now result a f place.number
    reads_some given e = subst (λ (o : Option (ℕ × Value)). IsTrue true ↔ AreReadsAt d b.program.now b.facts.now o a f place.number) (sym e) ((λ t. tt), (λ k. refl))
