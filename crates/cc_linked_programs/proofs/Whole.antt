-- Names and counts of few sources are those of a sound program.
use Rattle.std.proofs.Common.{◌≡◌, ℕ, List, Some, slice_get}
use Rattle.cc_link.specs.Linked.{Links}
use Rattle.cc_linked_programs.proofs.Program.{linked_sound}
use Rattle.cc_linked_programs.specs.Named.{AreFew, AreNamed, HasOwnMain}
use Rattle.cc_program.specs.CcNum.declared.target.Target.{Target}
use Rattle.cc_program.specs.declared.program.Program.{Program}
use Rattle.cc_program.specs.declared.program.Roles.{Roles}
use Rattle.cc_linked_programs.proofs.Counts.{few_devices, few_funcs, few_locals, few_objects, few_structures}
use Rattle.cc_linked_programs.proofs.Names.{local_spaces, names, tag_names}
use Rattle.cc_linked_programs.specs.Few.{EachOfText, FewTexts}
use Rattle.cc_relocated_units.specs.Units.{IsSoundUnit}
use Rattle.cc_operands.specs.CcSyntax.Sound.{IsSound}
use Rattle.cc_things.specs.declared.text.Text.{Text}

pub sources_sound : (texts : List Text) (target : Target) (roles : Roles) (p : Program) → Links texts target roles p → ((t : ℕ) (x : Text) → slice_get texts t ≡ Some x → IsSoundUnit target x.unit) →
    EachOfText texts → ((t : ℕ) (x : Text) → slice_get texts t ≡ Some x → HasOwnMain roles x.unit) → FewTexts texts → IsSound p
sources_sound texts target roles p links sound each own few =
    let named : AreNamed p = record {
      tag_names = tag_names texts target roles p links each few;
      names = names texts target roles p links each few;
      locals = local_spaces texts target roles p links each few;
    } in
    let counts : AreFew p = record {
      structures = few_structures texts target roles p links few;
      devices = few_devices texts target roles p links few;
      objects = few_objects texts target roles p links few;
      funcs = few_funcs texts target roles p links few;
      locals = few_locals texts target roles p links each;
    } in
    linked_sound texts target roles p links sound own named counts
