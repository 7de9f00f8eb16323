-- The position of a member in the structure that is there.
use Rattle.std.proofs.Common.{◌≡◌, ℕ, List, Option, Some, position, ap, sym, ◌∙◌}
use Rattle.std.specs.Str.{bytes_eq}
use Rattle.cc_designators.specs.Postfix.{position_in}
use Rattle.cc_program.specs.declared.types.Structure.{Structure}
use Rattle.cc_operands.specs.CcSyntax.Types.{Named}

pub position_there : (name : List ℕ) (s : Option Structure) (t : Structure) (ms : List Named) (r : Option ℕ) → s ≡ Some t → ms ≡ t.members →
    r ≡ position (λ m. bytes_eq name m.0) ms → r ≡ position_in name s
position_there name s t ms r h e f = f ∙ ap (position (λ m. bytes_eq name m.0)) e ∙ sym (ap (position_in name) h)
