use Rattle.std.proofs.Common.{true, []}
use Rattle.cc_item_offsets.proofs.Ascend.{tokens-ascend, items-ascend}
use Rattle.cc_item_offsets.proofs.laws.items_ascend.Goals as goal

pub returns : goal.returns
returns c = λ text ts u h s. items-ascend [] s.after u.items ts [] s.items 0 (tokens-ascend true 0 text ts h)
