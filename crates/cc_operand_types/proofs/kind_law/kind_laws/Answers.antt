use Rattle.cc_operand_types.proofs.LaterKinds.{kind_stays}
use Rattle.cc_operand_types.proofs.Members.{members_stand}
use Rattle.cc_operand_types.proofs.kind_law.kind_laws.Goals as goal

pub returns : goal.returns
returns c = record { kinds = λ target before after grow t k h. kind_stays target before after grow t k h; members = λ p h. members_stand p h }
