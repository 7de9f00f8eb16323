use Rattle.cc_shown_declarations.proofs.Structures.{known}
use Rattle.cc_shown_names.specs.Names.{object_given, placed}
use Rattle.cc_shown_names.specs.Numbers.{read_numbers}
use Rattle.cc_shown_names.proofs.Devices.{devices-found}
use Rattle.cc_shown_names.proofs.KnownFile.{file-known}
use Rattle.cc_shown_names.proofs.Objects.{objects-found}
use Rattle.cc_shown_names.proofs.Prototypes.{functions-found}
use Rattle.cc_shown_names.proofs.KnownStates.{placed-given}
use Rattle.cc_shown_names.proofs.Values.{values-found}
use Rattle.cc_shown_names.proofs.name_law.names_are_declared.Goals as goal

pub returns : goal.returns
returns c = record {
  devices = λ p sound defined extern xs h. devices-found p sound (known p sound) defined extern xs h;
  functions = λ p sound defined xs h. functions-found p sound (known p sound) defined xs h;
  objects = λ p sound defined xs h. objects-found p sound (known p sound) defined xs h;
  values = λ p sound defined offsets xs long h. values-found p sound (known p sound) (λ s statics i o there g shown. c.values_are_typed.ensures.objects p (read_numbers p) s sound statics i o there g shown) defined offsets xs long h;
  file = λ p normal offsets long. file-known p normal (known p normal.sound) (placed (object_given p) offsets p.objects) (placed-given p offsets p.objects long);
}
