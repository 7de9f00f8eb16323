-- What is asked of a program in normal form, but for its names and the numbers of its devices.
use Rattle.std.specs.Prelude.{◌≡◌, true}
use Rattle.std.specs.List.{list_all}
use Rattle.cc_program.specs.declared.program.Program.{Program}
use Rattle.cc_eval.specs.CcSyntax.Normal.{is_normal_body}
use Rattle.cc_eval.specs.CcSyntax.Sound.{IsTypedProgram}

pub record IsNormalButForNames (p : Program) : Type 0 where
  pub typed : IsTypedProgram p
  pub bodies : list_all (λ f. is_normal_body p.target f) p.funcs ≡ true
