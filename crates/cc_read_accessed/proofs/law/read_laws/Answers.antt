use Rattle.cc_read_accessed.proofs.Linked.{linked_accesses}
use Rattle.cc_read_accessed.proofs.Programs.{reads_accessed}
use Rattle.cc_read_accessed.proofs.Units.{text_accesses}
use Rattle.cc_read_accessed.proofs.law.read_laws.Goals as goal

pub returns : goal.returns
returns c = record {
  units = λ text ts u target roles t spelled sentence h. text_accesses text ts u target roles t spelled sentence h;
  linked = λ texts target roles p h l. linked_accesses texts target roles p h l;
  accessed = λ texts target roles p r. reads_accessed texts target roles p r;
}
