-- Catching up by a measure: silent steps that make it less lead to a boundary.
use Rattle.std.proofs.Common.{arith, ◌≡◌, ◌<◌, ◌⊎◌, inl, inr, ℕ, zero, suc, Bool, true}
use Rattle.cc_program.specs.declared.func.Func.{Func}
use Rattle.cc_program.specs.declared.program.Program.{Program}
use Rattle.cc_steps.specs.State.{Active, Memory}
use Rattle.cc_meaning_simulations.specs.StepSimulations.{IsSilent, begins_there, EnterBoth, CatchesUp, AtBoundary, Further}

module _ (Suspended : Bool → Active → Active → Type 0) (Running : Memory → Active → Memory → Active → Type 0) (Q P : Program) (counterpart : Func → Func)
    (Behind : Memory → Active → Memory → Active → Type 0) (measure : Memory → Active → ℕ) where
  -- at the boundary, or one silent step nearer to it
  abbrev pub Nearer : Memory → Active → Memory → Active → Type 0
  Nearer m q n p =
      ((m.flag ≡ true) × (begins_there q ≡ true) × EnterBoth Suspended Running Q P counterpart m q n p)
      ⊎ ((m' : Memory) × (q' : Active) × IsSilent Q m q m' q' × Behind m' q' n p × (measure m' q' < measure m q))

  module _ (nearer : (m n : Memory) (q p : Active) → Behind m q n p → Nearer m q n p) where
    within : (k : ℕ) (m n : Memory) (q p : Active) → measure m q < k → Behind m q n p → CatchesUp Suspended Running Q P counterpart m q n p
    within zero m n q p b h = absurd (omega (arith, b))
    within (suc k) m n q p b h = by_step (nearer m n q p h) (λ m' q' c h. within k m' n q' p c h)
      where
        by_step : Nearer m q n p → ((m' : Memory) (q' : Active) → measure m' q' < k → Behind m' q' n p → CatchesUp Suspended Running Q P counterpart m' q' n p) → CatchesUp Suspended Running Q P counterpart m q n p
        by_step (inl x) next = AtBoundary m n q p x.0 x.1 x.2
        by_step (inr x) next = Further m n x.0 q p x.1 x.2 (next x.0 x.1 (omega (arith, b, x.4)) x.3)

    pub catches_up : (m n : Memory) (q p : Active) → Behind m q n p → CatchesUp Suspended Running Q P counterpart m q n p
    catches_up m n q p h = within (suc (measure m q)) m n q p (omega arith) h
