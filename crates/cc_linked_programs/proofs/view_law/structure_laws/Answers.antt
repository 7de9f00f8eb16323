use Rattle.cc_linked_programs.proofs.Structures.{extents_numbered, structures_numbered}
use Rattle.cc_linked_programs.proofs.view_law.structure_laws.Goals as goal

pub returns : goal.returns
returns c = record {
  structures = λ units numbering firsts tags target are many standing t u e i s f. structures_numbered units numbering firsts tags target are many standing t u e i s f;
  extents = λ units numbering firsts tags target are many standing t u e i x f. extents_numbered units numbering firsts tags target are many standing t u e i x f;
}
