use Rattle.cc_linked_programs.proofs.Agreeing.{one_type, used_there}
use Rattle.cc_linked_programs.proofs.ThingSources.{its_id, its_thing}
use Rattle.cc_linked_programs.proofs.thing_law.thing_laws.Goals as goal

pub returns : goal.returns
returns c = record {
  ids = λ texts numbering t x i n e f. its_id texts numbering t x i n e f;
  things = λ texts m h. its_thing texts m h;
  used = λ texts each numbering none m h u. used_there texts each numbering none m h u;
  types = λ texts each numbering none m k h i e n. one_type texts each numbering none m k h i e n;
}
