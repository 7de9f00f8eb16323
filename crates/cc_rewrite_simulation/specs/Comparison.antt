-- By what two programs are compared, of which Q does what P does while static scalars of P stand in words of Q.
use Rattle.std.specs.Prelude.{ℕ, Bool}
use Rattle.cc_program.specs.declared.program.Program.{Program}
use Rattle.cc_program.specs.declared.value.Value.{Value}
use Rattle.cc_rewrite_homes.specs.Homes.{Field, Home, AreHomes}
use Rattle.cc_rewrite_residues.specs.Standing.{Frame, Spot}
use Rattle.cc_steps.specs.State.{Active}

pub record Comparison (Q P : Program) : Type 1 where
  -- of each static scalar of P, by its object and its position: its home in Q, and what a code there stands for
  pub home : ℕ → ℕ → Home
  pub decode : ℕ → ℕ → ℕ → Value
  pub homes : AreHomes home
  -- how many locals a function of P has; in Q temporaries stand behind them
  pub base : ℕ → ℕ
  -- by function and local: the registers, which no pointer names
  pub own : ℕ → ℕ → Bool
  -- where activations of Q and P stand that have the same statements to do
  pub Joined : Frame → Spot → Spot → Type 0
  -- an activation of P stands at a write whose word is read and written in Q without a guard
  pub Unguarded : Active → Field → Type 0
