-- What a program has beside its target and its roles.
use Rattle.cc_link.specs.declared.linking.Parts.{Parts}
use Rattle.cc_program.specs.CcNum.declared.target.Target.{Target}
use Rattle.cc_program.specs.declared.program.Program.{Program}
use Rattle.cc_program.specs.declared.program.Roles.{Roles}

abbrev pub with_parts : Target → Roles → Parts → Program
with_parts target roles p = record {
  target = target;
  roles = roles;
  structures = p.structures;
  devices = p.devices;
  objects = p.objects;
  funcs = p.funcs;
  main = p.main;
}
