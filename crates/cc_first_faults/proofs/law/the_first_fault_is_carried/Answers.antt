use Rattle.cc_first_faults.specs.Behind.{behind}
use Rattle.cc_first_faults.specs.Constructs.{Construct, place}
use Rattle.cc_first_faults.specs.Parts.{parts}
use Rattle.cc_first_faults.proofs.Declarations.{law}
use Rattle.cc_first_faults.proofs.Lawful.{first-of, alone, within}
use Rattle.cc_first_faults.proofs.law.the_first_fault_is_carried.Goals as goal

pub returns : goal.returns
returns c = record {
  carried = λ target roles defined c s fault h. first-of Construct place (behind target roles defined) (parts target roles defined) c s (law target roles defined c s) fault h;
  alone = λ target roles defined c s fault h. alone Construct place (behind target roles defined) (parts target roles defined) (law target roles defined) fault c s h;
  kept = λ target roles defined c d s t h k. within Construct place (behind target roles defined) (parts target roles defined) (law target roles defined) d t c s h k;
}
