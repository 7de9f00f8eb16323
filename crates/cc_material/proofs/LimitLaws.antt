-- From the numbers of a program to the limit that it is above.
use Rattle.std.proofs.Common.{◌≡◌, ◌≤◌, ◌<◌, ℕ, true, nat_lt, length, sym, subst, arith}
use Rattle.std.proofs.lemmas.Bool.Decides.{nat_tests}
use Rattle.cc_layout.specs.Seats.{ram}
use Rattle.cc_material.specs.Programs.{IsWithin, IsAbove, ManyFunctions, MuchRam}
use Rattle.cc_program.specs.declared.program.Program.{Program}
use Rattle.cc_status.specs.Statuses.{is_over}
use Rattle.cc_status.specs.declared.status.What.{What}
use Rattle.cc_status.specs.declared.status.What.TheVariants as what

pub lt-true : (m n : ℕ) → m < n → nat_lt m n ≡ true
lt-true m n h = grind (arith, nat_tests)

module _ (p : Program) (n : ℕ) where
  pub many_functions : n ≡ length p.funcs → 4096 < n → IsAbove p what.Functions n
  many_functions e h = subst (λ m. IsAbove p what.Functions m) (sym e) (ManyFunctions (subst (λ m. 4096 < m) e h))

  pub much_ram : n ≡ ram p → length p.funcs ≤ 4096 → 65536 < n → IsAbove p what.Ram n
  much_ram e few h = subst (λ m. IsAbove p what.Ram m) (sym e) (MuchRam few (subst (λ m. 65536 < m) e h))

  pub is_within : n ≡ ram p → length p.funcs ≤ 4096 → n ≤ 65536 → IsWithin p
  is_within e few h = record { few = few; small = subst (λ m. m ≤ 65536) e h }

pub above-over : (p : Program) (w : What) (n : ℕ) → IsAbove p w n → is_over w n ≡ true
above-over p _ _ (ManyFunctions h) = lt-true 4096 (length p.funcs) h
above-over p _ _ (MuchRam few h) = lt-true 65536 (ram p) h

pub ruleset of_limits = (many_functions, much_ram, is_within)
