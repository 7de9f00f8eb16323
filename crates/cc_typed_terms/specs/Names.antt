-- Names that are declared (C99 6.2.1, 6.2.3).
use Rattle.std.specs.Prelude.{not, is_some, Ok, Err, if◌then◌else◌}
use Rattle.cc_scopes.specs.CcOperands.Verdicts.{Judged, must}
use Rattle.cc_scopes.specs.CcOperands.declared.rule.Rule.TheVariants as rule
use Rattle.cc_typed_terms.specs.Primary.{is_intrinsic}
use Rattle.cc_program.specs.declared.program.Roles.{Roles}
use Rattle.cc_scopes.specs.State.{State, Name, named_here}

-- a name that is declared has no other meaning in its scope, and is no intrinsic's
abbrev pub new_name : Roles → Name → State → Judged Name
new_name roles x s = if is_intrinsic roles x then Err rule.MainOrIntrinsic else must (not (is_some (named_here x s))) rule.DeclaredTwice (Ok x)
