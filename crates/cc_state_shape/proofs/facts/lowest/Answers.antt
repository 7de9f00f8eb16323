-- What is lowest is of the shape, and below what is.
use Rattle.std.proofs.lemmas.Result.{IfOk-weaker}
use Rattle.cc_state.specs.Shape.{HaveShape}
use Rattle.cc_state_reads.specs.CcStateFacts.declared.facts.Facts.{Facts}
use Rattle.cc_state_reads.specs.CcStateFacts.Orders.{IsBelow}
use Rattle.cc_state_reads.specs.CcStateOperators.Domains.{domain}
use Rattle.cc_state_shape.proofs.Alike.{one_key_type, one_result_type}
use Rattle.cc_state_shape.proofs.Lowering.{lowest_shaped, lowest_below}
use Rattle.cc_state_shape.proofs.facts.lowest.Goals as goal
use Rattle.cc_state_shape.specs.Lowest.{AreLowest}
use Rattle.cc_state_reads.proofs.CcSyntax.NameRules.{sound-typed}

pub lowest_by-requires : goal.lowest_by-requires
lowest_by-requires g c = record { typed = sound-typed c.args.p.now c.requires.normal.sound; flow = c.requires.flow }

pub returns : goal.returns
returns g c =
    let d = domain g.I.Concrete.Has g.I.Lattice.IsBelow g.I.IntDomain.OpGives g.I.IntDomain.OpOneGives g.I.IntDomain.ToGives g.I.IntDomain.KeepGives g.I.IntDomain.members_of in
    let p = c.args.p.now in
    let typed = sound-typed p c.requires.normal.sound in
    record {
      shape = IfOk-weaker c.lowest_by.result (AreLowest d.has p) (HaveShape d p) (λ facts low. lowest_shaped d g.met.I.IntDomain.members_below p typed facts low) c.lowest_by.ensures;
      least = IfOk-weaker c.lowest_by.result (AreLowest d.has p) (λ facts. (others : Facts g.row.I.Denot) → HaveShape d p others → IsBelow g.I.Lattice.IsBelow facts others)
          (λ facts low others shape. lowest_below d g.met.I.IntDomain.members_below p typed facts low (one_key_type d p) (one_result_type d p) others shape) c.lowest_by.ensures;
    }
