use Rattle.cc_plan_table.proofs.Tables.{all_rows}
use Rattle.cc_plan_table.proofs.law.laws.Goals as goal

pub returns : goal.returns
returns g = λ p words slots plan costs ram. all_rows p words slots plan costs ram
