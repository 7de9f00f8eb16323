use Rattle.cc_unit_trees.proofs.FitNames.{names-of, file-names, intrinsic-named}
use Rattle.cc_unit_trees.proofs.FitPrograms.{device-number, object-at, initial-at, function-at, body-at}
use Rattle.cc_unit_trees.proofs.Structures.{structure-at, known-at}
use Rattle.cc_unit_trees.proofs.fit_law.normal_programs_fit.Goals as goal

pub returns : goal.returns
returns c = record {
  names = λ p h i f e. names-of p h.sound f (function-at p h i f e);
  intrinsics = λ p h i. intrinsic-named p.roles (file-names p h.sound).intrinsics i;
  numbers = device-number;
  members = λ p h i s e. (structure-at p h.sound i s e).1;
  known = λ p n i e. known-at p.structures n i e;
  objects = object-at;
  initial = initial-at;
  functions = function-at;
  bodies = body-at;
}
