-- The printed text of a program: prototypes of the intrinsics that it uses, structures, devices that have names,
-- prototypes of its functions, its static objects, those of them that have first values, and its functions.
use Rattle.std.specs.Prelude.{ℕ, List, []}
use Rattle.cc_program.specs.declared.expr.Intr.TheVariants as intr
use Rattle.cc_program.specs.declared.program.Program.{Program}
use Rattle.cc_pieces.specs.Pieces.{Pieces, flat}
use Rattle.cc_print.specs.Units.{each, intrinsic_prototype, announcements, structure, device_line, prototype, object_line, function}
use Rattle.cc_print.specs.Values.{definition}

abbrev pub intrinsics : Program → Pieces → Pieces
intrinsics p ps = intrinsic_prototype p intr.Off (intrinsic_prototype p intr.On (intrinsic_prototype p intr.Save (intrinsic_prototype p intr.Restore ps)))

abbrev pub types : Program → Pieces → Pieces
types p ps = announcements p.structures 0 p.structures (each (structure p.structures) p.structures ps)

abbrev pub objects : Program → Pieces → Pieces
objects p ps = each (object_line p.structures) p.objects (each (definition p) p.objects ps)

unfoldable pub printed : Program → Pieces
printed p = intrinsics p (types p (each device_line p.devices (each (prototype p.structures) p.funcs (objects p (each (function p) p.funcs [])))))

-- its bytes
abbrev pub text : Program → List ℕ
text p = flat (printed p)
