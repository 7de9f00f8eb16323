-- By the scalar at the local's only position.
use Rattle.std.proofs.Common.{List, Option, refl, ap, ◌∙◌}
use Rattle.std.specs.Prelude.{Vec}
use Rattle.std.specs.declared.alloc.Global.{Global}
use Rattle.cc_cells.specs.Cells.{scalar_in, cells_of}
use Rattle.cc_program.specs.declared.value.Value.{Value}
use Rattle.cc_state_holds.proofs.pending.written.Goals as goal
use Rattle.cc_state_holds.specs.Parts.{good}

pub returns-in-None : goal.returns-in-None
returns-in-None c = ap good (c.in-None.ensures 0 refl ∙ ap (λ (xs : List (Vec (Option Value) Global)). scalar_in (cells_of xs) c.args.r 0) c.deref.ensures.value)

pub returns-in-Some : goal.returns-in-Some
returns-in-Some c = c.as_ref.ensures.value ∙ ap good (c.in-Some.ensures 0 refl ∙ ap (λ (xs : List (Vec (Option Value) Global)). scalar_in (cells_of xs) c.args.r 0) c.deref.ensures.value)
