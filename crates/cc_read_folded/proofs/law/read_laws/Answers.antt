use Rattle.cc_read_folded.proofs.Linked.{linked_folds}
use Rattle.cc_read_folded.proofs.Programs.{reads_folded}
use Rattle.cc_read_folded.proofs.Renumbered.{bodies_same}
use Rattle.cc_read_folded.proofs.Units.{text_folds}
use Rattle.cc_read_folded.proofs.law.read_laws.Goals as goal

pub returns : goal.returns
returns c = record {
  renumbered = λ target ids ss. bodies_same target ids ss;
  units = λ text ts u target roles t spelled sentence h. text_folds text ts u target roles t spelled sentence h;
  linked = λ texts target roles p h l. linked_folds texts target roles p h l;
  folded = λ texts target roles p r. reads_folded texts target roles p r;
}
