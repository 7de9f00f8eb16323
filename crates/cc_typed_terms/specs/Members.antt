-- Members of structures (C99 6.7.2.1), once their types are known.
use Rattle.std.specs.Prelude.{List, [], ◌∷◌, ◌++◌, Option, Some, None, Ok, Err, if◌then◌else◌}
use Rattle.cc_program.specs.CcNum.declared.target.Target.{Target}
use Rattle.cc_scopes.specs.CcOperands.Verdicts.{Judged, must}
use Rattle.cc_scopes.specs.CcOperands.declared.rule.Rule.TheVariants as rule
use Rattle.cc_program.specs.declared.types.CType.{CType}
use Rattle.cc_scopes.specs.State.{State, Name, structures_of, layouts_of}
use Rattle.cc_scopes.specs.Structures.{is_member_name}
use Rattle.cc_specifiers.specs.Objects.{is_object}
use Rattle.cc_scopes.specs.CcSyntax.Types.{Named}

-- with one member more, behind those before; what declares no name declares no member
abbrev pub member_judged : Target → CType → List Named → State → Option Name → Judged (List Named)
member_judged target t ms s None = Ok ms
member_judged target t ms s (Some x) =
    must (is_object target (structures_of s) (layouts_of s) t) rule.NoObjectType (if is_member_name x ms then Err rule.MemberTwice else Ok (ms ++ (x, t) ∷ []))
