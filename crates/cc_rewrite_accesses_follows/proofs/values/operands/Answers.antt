-- By the lemmas on each form.
use Rattle.cc_rewrite_accesses_follows.proofs.OperandLemmas.{evaluates-register, evaluates-bad, evaluates-constant, evaluates-conversion, evaluates-binary, evaluates-comparison, sets-register, sets-bad, writes-cell, writes-bad, copies, static-cell}
use Rattle.cc_rewrite_accesses_follows.proofs.ChoiceLemmas.{evaluates-first, evaluates-second}
use Rattle.cc_rewrite_accesses_follows.proofs.PlaceLemmas.{leads-static, leads-member, cell-of}
use Rattle.cc_rewrite_accesses_follows.proofs.values.operands.Goals as goal

pub returns : goal.returns
returns g = record {
  register = evaluates-register;
  unwritten = evaluates-bad;
  constant = evaluates-constant;
  converted = evaluates-conversion;
  worked = evaluates-binary;
  compared = evaluates-comparison;
  chosen_first = evaluates-first;
  chosen_second = evaluates-second;
  sets = sets-register;
  sets_bad = sets-bad;
  writes = writes-cell;
  writes_bad = writes-bad;
  copies = copies;
  objects = leads-static;
  members = leads-member;
  places = cell-of;
  cells = static-cell;
}
