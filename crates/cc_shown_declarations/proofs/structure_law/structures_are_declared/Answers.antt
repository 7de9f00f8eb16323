use Rattle.cc_shown_declarations.proofs.Structures.{members, closed, known}
use Rattle.cc_shown_declarations.proofs.structure_law.structures_are_declared.Goals as goal

pub returns : goal.returns
returns c = record {
  members = λ p roles sound k s e ms h. members p roles sound k s e ms h;
  completions = λ p sound k s e full. closed p p.roles sound k s e full;
  known = λ p sound. known p sound;
}
