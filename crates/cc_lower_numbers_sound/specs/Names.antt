-- Names that are apart, but for the temporaries, which have no names yet (C99 6.2.1, 6.2.3).
use Rattle.std.specs.Prelude.{◌≡◌, true, ◌++◌, take}
use Rattle.std.specs.List.{list_all}
use Rattle.cc_program.specs.declared.program.Program.{Program}
use Rattle.cc_syntax.specs.Names.{are_names, file_names, tags, local_names}
use Rattle.cc_lower_numbers.specs.Temporaries.{kept_count}

pub record AreNamesApartButForTemporaries (p : Program) : Type 0 where
  pub tag_names : are_names (tags p) ≡ true
  pub names : are_names (file_names p) ≡ true
  pub members : list_all (λ s. are_names (local_names s.members)) p.structures ≡ true
  pub locals : list_all (λ f. are_names (local_names (take (kept_count f) f.locals) ++ file_names p)) p.funcs ≡ true
