-- A sound program's unit links to the program.
use Rattle.std.proofs.Common.{◌≡◌, ℕ, true, List, [], ◌∷◌, length}
use Rattle.cc_link.specs.Linked.{Links}
use Rattle.cc_program.specs.declared.program.Program.{Program}
use Rattle.cc_printed_programs.specs.Ascending.{Ascend}
use Rattle.cc_printed_programs.specs.Units.{unit_shown}
use Rattle.cc_printed_programs.proofs.Kept.{are-kept}
use Rattle.cc_printed_programs.proofs.Program.{ids, ids-return, kept-links}
use Rattle.cc_type.proofs.CcSyntax.Prefixes.{both_true}
use Rattle.cc_type.specs.CcSyntax.Lists.{come_first, is_count}
use Rattle.cc_type.specs.CcSyntax.Normal.{devices_in_order, has_name, count_named, devices_in_text, next_of}
use Rattle.cc_type.specs.CcSyntax.Sound.{IsSound}
use Rattle.cc_things.specs.declared.text.Text.{Text}

abbrev pub text_with : Program → (ℕ → ℕ) → (ℕ → ℕ) → List (List ℕ) → Text
text_with p function_at object_at identifiers = record { unit = unit_shown p function_at object_at; identifiers = identifiers }

pub program-links : (p : Program) → IsSound p → devices_in_order p ≡ true → (function_at object_at : ℕ → ℕ) → Ascend (length p.funcs) function_at → Ascend (length p.objects) object_at → (identifiers : List (List ℕ)) →
    Links (text_with p function_at object_at identifiers ∷ []) p.target p.roles p
program-links p sound devices function_at object_at functions_ascend objects_ascend identifiers =
    let order = (both_true (come_first has_name p.devices) (is_count (length p.devices) (next_of (count_named p.devices) (devices_in_text p))) devices).0 in
    kept-links p function_at object_at identifiers sound order functions_ascend objects_ascend
    (are-kept p function_at object_at sound order (ids p function_at object_at identifiers sound order functions_ascend objects_ascend) (ids-return p function_at object_at identifiers sound order functions_ascend objects_ascend))
