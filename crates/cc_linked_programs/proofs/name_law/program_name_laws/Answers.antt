use Rattle.cc_linked_programs.proofs.Counts.{few_devices, few_funcs, few_locals, few_objects, few_structures}
use Rattle.cc_linked_programs.proofs.Names.{local_spaces, names, tag_names}
use Rattle.cc_linked_programs.proofs.name_law.program_name_laws.Goals as goal

pub returns : goal.returns
returns c = record {
  tags = tag_names;
  file = names;
  locals = local_spaces;
  few_structures = few_structures;
  few_devices = few_devices;
  few_objects = few_objects;
  few_functions = few_funcs;
  few_locals = few_locals;
}
