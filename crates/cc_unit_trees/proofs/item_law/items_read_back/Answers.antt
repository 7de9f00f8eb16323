use Rattle.cc_unit_trees.proofs.Items.{intrinsic-reads, tag-reads, structure-reads, device-reads, prototype-reads, object-reads, definition-reads, intrinsic-fits, tag-fits, structure-fits, device-fits, prototype-fits, object-fits, definition-fits}
use Rattle.cc_unit_trees.proofs.item_law.items_read_back.Goals as goal

pub returns : goal.returns
returns c = record {
  intrinsics = intrinsic-reads;
  tags = tag-reads;
  structures = structure-reads;
  devices = device-reads;
  prototypes = prototype-reads;
  objects = object-reads;
  definitions = definition-reads;
  intrinsics_part = intrinsic-fits;
  tags_part = tag-fits;
  structures_part = structure-fits;
  devices_part = device-fits;
  prototypes_part = prototype-fits;
  objects_part = object-fits;
  definitions_part = definition-fits;
}
