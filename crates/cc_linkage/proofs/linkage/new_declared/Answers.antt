use Rattle.std.proofs.Common.{None, Some, false}
use Rattle.cc_linkage.proofs.linkage.new_declared.Goals as goal

pub returns : goal.returns
returns c = λ j. record {
  name = Some (c.in_ok-copy_list.ensures j);
  linkage = c.linkage_of.ensures j;
  ctype = c.args.ctype;
  first = None;
  tentative = false;
  definitions = 0;
  kind = c.args.kind;
}
