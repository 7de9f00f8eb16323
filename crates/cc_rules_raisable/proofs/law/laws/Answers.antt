-- The laws, over the domain's own definitions.
use Rattle.cc_rules_raisable.proofs.Parts.{write_raisable, touch_raisable, return_raisable, stability_raisable}
use Rattle.cc_rules_raisable.proofs.Raisable.{handlers_raisable, entries_raisable, behind_raisable, onward_raisable}
use Rattle.cc_rules_raisable.proofs.law.laws.Goals as goal
use Rattle.cc_rules_asked.specs.CcStateOperators.Domains.{domain}

pub returns : goal.returns
returns g c =
    let d = domain g.I.Concrete.Has g.I.Lattice.IsBelow g.I.IntDomain.OpGives g.I.IntDomain.OpOneGives g.I.IntDomain.ToGives g.I.IntDomain.KeepGives g.I.IntDomain.members_of in
    record {
      write = λ here shape is_point is act list l. write_raisable d here act list l;
      touch = λ here shape is_point is act list l. touch_raisable d here act list l;
      return_value = λ here shape is_point is act list l. return_raisable d here act list l;
      stability = λ here shape is_point is act list l. stability_raisable d here act list is l;
      handlers = λ here shape is_point is all list are l. handlers_raisable d here shape is_point is all list are l;
      entries = λ here shape is_point is functions list are l. entries_raisable d here shape is_point is functions list are l;
      behind = λ here shape is_point is list l. behind_raisable d here shape is_point is list l;
      onward = λ here shape is_point is list l. onward_raisable d here shape is_point is list l;
    }
