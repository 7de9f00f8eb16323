-- By whether it is a handler.
use Rattle.std.proofs.Common.{Bool, ap, sym, if◌then◌else◌}
use Rattle.cc_proof_covers.specs.Covers.{Interrupted, Waiting}
use Rattle.cc_state_holds.proofs.lies.flag_under.Goals as goal
use Rattle.cc_state_holds.specs.Parts.{counted_flag}

pub returns-then-a : goal.returns-then-a
returns-then-a c = λ m. ap (λ (b : Bool). counted_flag (if b then Interrupted else Waiting c.args.a.now.func) m) (sym c.if-a.true)

pub returns-else-a : goal.returns-else-a
returns-else-a c = λ m. ap (λ (b : Bool). counted_flag (if b then Interrupted else Waiting c.args.a.now.func) m) (sym c.if-a.false)
