use Rattle.std.proofs.Common.{◌≡◌, take, map, true}
use Rattle.std.specs.List.{list_all}
use Rattle.cc_typed.specs.CcSyntax.Programs.{is_sound_stmt}
use Rattle.cc_sound.specs.Cases.{is_sound_case}
use Rattle.cc_sound.proofs.statements.Function.+sound.Given as goal

abbrev pub invariant-are_sound-loop-s : goal.invariant-are_sound-loop-s
invariant-are_sound-loop-s l = list_all (λ g. g l.breaks l.continues) (map (is_sound_stmt l.self.program.now l.self.func.now) (take l.s-index l.s-items)) ≡ true

abbrev pub invariant-are_sound_cases-loop-case : goal.invariant-are_sound_cases-loop-case
invariant-are_sound_cases-loop-case l = list_all (is_sound_case l.self.program.now l.self.func.now l.continues) (take l.case-index l.case-items) ≡ true
