use Rattle.cc_tree.proofs.Outcomes.{unique}
use Rattle.cc_tree.proofs.laws.tokens_have_one_tree.Goals as goal

pub returns : goal.returns
returns c = λ ts u v h k. unique u v h.after k.after ts h.items k.items
