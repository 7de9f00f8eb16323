-- The external declarations of which a program's text is made, in order (C99 6.9).
use Rattle.std.specs.Prelude.{ℕ, ◌+◌, Bool, true, false, ◌||◌, List, [], ◌∷◌, ◌++◌, map, take}
use Rattle.std.specs.List.{filter}
use Rattle.cc_pieces.specs.Pieces.{Pieces}
use Rattle.cc_print.specs.Units.{is_used, intrinsic_line, first_naming, is_in_parameters, tag_line, structure, device_line, prototype, object_line, function}
use Rattle.cc_print.specs.Values.{has_leaves, definition_line}
use Rattle.cc_program.specs.Qualifiers.{is_const}
use Rattle.cc_program.specs.declared.expr.Intr.{Intr}
use Rattle.cc_program.specs.declared.expr.Intr.TheVariants as intr
use Rattle.cc_program.specs.declared.func.Func.{Func}
use Rattle.cc_program.specs.declared.object.Device.{Device}
use Rattle.cc_program.specs.declared.object.Object.{Object}
use Rattle.cc_program.specs.declared.program.Program.{Program}
use Rattle.cc_program.specs.declared.types.Structure.{Structure}
use Rattle.cc_typed.specs.CcSyntax.Normal.{has_name}

pub data External : Type 0 where
  -- the prototype of an intrinsic
  AnIntrinsic : Intr → External
  -- `struct TAG;` in front of all structures
  ATag : Structure → External
  AStructure : Structure → External
  ADevice : Device → External
  APrototype : Func → External
  -- an object without its first value, and with it
  AnObject : Object → External
  AValue : Object → External
  AFunction : Func → External

abbrev pub intrinsics_used : Program → List Intr
intrinsics_used p = filter (λ i. is_used i p) (intr.Off ∷ intr.On ∷ intr.Save ∷ intr.Restore ∷ [])

abbrev pub in_front_if : Bool → Structure → List Structure → List Structure
in_front_if true s ss = s ∷ ss
in_front_if false s ss = ss

-- those of the structures, from the i-th of all on, that a list of parameters in front of them names first (6.2.1, 4)
abbrev pub announced : List Structure → ℕ → List Structure → List Structure
announced all i [] = []
announced all i (s ∷ rest) = in_front_if (is_in_parameters (first_naming i (take i all))) s (announced all (i + 1) rest)

-- an object that does not start at zero, or is const
abbrev pub is_given : Object → Bool
is_given o = has_leaves o.init || is_const o.ctype

abbrev pub externals : Program → List External
externals p = map AnIntrinsic (intrinsics_used p)
    ++ (map ATag (announced p.structures 0 p.structures)
    ++ (map AStructure p.structures
    ++ (map ADevice (filter has_name p.devices)
    ++ (map APrototype p.funcs
    ++ (map AnObject p.objects
    ++ (map AValue (filter is_given p.objects)
    ++ map AFunction p.funcs))))))

-- the pieces of each, in front of those that follow
abbrev pub external_text : Program → External → Pieces → Pieces
external_text p (AnIntrinsic i) ps = intrinsic_line p i ps
external_text p (ATag s) ps = tag_line s ps
external_text p (AStructure s) ps = structure p.structures s ps
external_text p (ADevice d) ps = device_line d ps
external_text p (APrototype f) ps = prototype p.structures f ps
external_text p (AnObject o) ps = object_line p.structures o ps
external_text p (AValue o) ps = definition_line p o ps
external_text p (AFunction f) ps = function p f ps
