use Rattle.std.specs.Prelude.{None}
use Rattle.cc_linked_programs.proofs.DeviceViews.{device_there}
use Rattle.cc_linked_programs.proofs.Objects.{defined_object, object_defined}
use Rattle.cc_linked_programs.proofs.view_law.object_view_laws.Goals as goal

pub returns : goal.returns
returns c = record {
  used = λ texts target sound numbering none m h u init q. object_defined texts target sound numbering none (λ k. None) m init h u q;
  objects = λ texts target sound numbering none name_of m h e f. defined_object texts target sound numbering none name_of m h e f;
  devices = λ texts target sound numbering none name_of m d h q e. device_there texts target sound numbering none name_of m d h q e;
}
