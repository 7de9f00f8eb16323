use Rattle.cc_shown_declarations.proofs.Items.{structure-items}
use Rattle.cc_shown_declarations.proofs.item_law.structure_items_are_typed.Goals as goal

pub returns : goal.returns
returns c = record { items = λ p roles defined sound xs h. structure-items p sound roles defined xs h }
