use Rattle.std.proofs.Common.{[], ◌∷◌}
use Rattle.cc_print.specs.Printed.{text}
use Rattle.cc_program.specs.declared.program.Program.{Program}
use Rattle.cc_read.specs.Texts.{Reads}
use Rattle.cc_type.specs.CcSyntax.Normal.{IsNormal}
use Rattle.cc_printed_programs.proofs.LeftUnit.{unit-left}
use Rattle.cc_printed_programs.proofs.Programs.{text-reads}
use Rattle.cc_printed_programs.proofs.read_law.programs_read.Goals as goal

pub returns : goal.returns
returns c =
    let back : (p : Program) → IsNormal p → Reads (text p ∷ []) p.target p.roles p =
    λ p normal. text-reads p (c.programs_read_back.ensures.sentence p normal) (λ u h. c.units_are_typed.ensures.units p normal u h)
    (λ text ts u tokens sentence parts. c.units_are_typed.ensures.offsets p text ts u tokens sentence parts) (unit-left p normal)
    (λ function_at object_at functions_ascend objects_ascend identifiers. c.shown_programs_link.ensures.links p normal.sound normal.devices function_at object_at functions_ascend objects_ascend identifiers) in
    record {
      reads = back;
      alone = λ p q normal other. c.laws.ensures.one_program (text p ∷ []) p.target p.roles p q (back p normal) other;
    }
