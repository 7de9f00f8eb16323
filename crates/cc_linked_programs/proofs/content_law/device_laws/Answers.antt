use Rattle.cc_linked_programs.proofs.Devices.{devices_apart, devices_fit}
use Rattle.cc_linked_programs.proofs.content_law.device_laws.Goals as goal

pub returns : goal.returns
returns c = record {
  fit = λ texts target sound roles numbering firsts. devices_fit texts target sound roles numbering firsts;
  apart = λ texts target sound roles numbering firsts. devices_apart texts target sound roles numbering firsts;
}
