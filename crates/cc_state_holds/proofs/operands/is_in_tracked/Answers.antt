-- By the object's position among the tracked cells.
use Rattle.std.proofs.Common.{List, ℕ, refl, ap, sym, ◌∙◌, true≢false}
use Rattle.std.specs.Prelude.{◌==◌, is_some, position}
use Rattle.cc_state_holds.proofs.operands.is_in_tracked.Goals as goal

pub returns-in-None : goal.returns-in-None
returns-in-None g c =
    ((λ t tracks. absurd (true≢false (sym tracks ∙ (ap (λ (xs : List ℕ). is_some (position (λ n. n == c.args.i) xs)) (sym c.requires) ∙ ap is_some (sym c.in-None.ensures))))), (λ h. refl))

pub returns-in-Some : goal.returns-in-Some
returns-in-Some g c =
    ((λ t tracks. c.is_in_cell_set.ensures.0 t), (λ h. c.is_in_cell_set.ensures.1 (h (ap (λ (xs : List ℕ). is_some (position (λ n. n == c.args.i) xs)) (sym c.requires) ∙ ap is_some (sym c.in-Some.ensures)))))
