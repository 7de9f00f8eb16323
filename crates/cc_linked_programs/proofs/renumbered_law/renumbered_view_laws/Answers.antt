use Rattle.cc_linked_programs.proofs.Views.{devices_numbered, statics_numbered}
use Rattle.cc_linked_programs.proofs.renumbered_law.renumbered_view_laws.Goals as goal

pub returns : goal.returns
returns c = record {
  objects = λ texts target sound roles numbering firsts none t x ex i a u e. statics_numbered texts target sound roles numbering firsts none t x ex i a u e;
  devices = λ texts target sound roles numbering firsts none t x ex i a u e locals. devices_numbered texts target sound roles numbering firsts none t x ex i a u e locals;
}
