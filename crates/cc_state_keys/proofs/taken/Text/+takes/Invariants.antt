use Rattle.std.proofs.Common.{◌≡◌, ◌++◌, take, map}
use Rattle.cc_state_keys.specs.Addressed.{all_taken, taken_in}
use Rattle.cc_state_keys.proofs.taken.Text.+takes.Given as goal

abbrev pub invariant-put_all_taken-loop-e : goal.invariant-put_all_taken-loop-e
invariant-put_all_taken-loop-e l = l.keys.items ≡ l.fn.keys.items ++ all_taken (map (taken_in l.self.program.now l.self.id l.self.func.now) (take l.e-index l.es))
