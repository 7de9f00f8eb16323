use Rattle.std.proofs.Common.{◌≡◌, sym, subst}
use Rattle.cc_edge.specs.Faults.{Rose}
use Rattle.cc_packing.proofs.Complete.{done_or_no_memory, not_risen}
use Rattle.cc_packing.specs.Asked.{asked_of}
use Rattle.cc_packing.specs.Headline.{CanBePacked}
use Rattle.ccomp.proofs.CommandLaws.{few-sources, few-run, for-pack, for-run, packs-as}
use Rattle.ccomp.proofs.call.ccomp.Goals as goal

pub pack-requires-clause-few : goal.pack-requires-clause-few
pack-requires-clause-few g c = few-sources c.in-Pack.packing c.in-Pack.ensures.meant

pub simulate-requires : goal.simulate-requires
simulate-requires g c = record { few = few-run c.in-Run.simulation c.in-Run.ensures.meant }

pub returns-in-Run-clause-write_fault : goal.returns-in-Run-clause-write_fault
returns-in-Run-clause-write_fault g c = λ name e.
    let w = c.simulate.ensures.write_fault name e in
    for-run _ _ _ _ _ c.in-Run.ensures.asked (w.0, w.1, c.simulate.ensures.unchanged, w.2)

pub returns-in-Pack-clause-write_fault : goal.returns-in-Pack-clause-write_fault
returns-in-Pack-clause-write_fault g c = λ name e. for-pack _ _ _ _ _ c.in-Pack.ensures.asked (c.pack.ensures.write_fault name e)

pub returns-in-Pack-clause-complete : goal.returns-in-Pack-clause-complete
returns-in-Pack-clause-complete g c = λ a asks told faults there.
    let old = g.F.Store.files c.args.store.now in
    let asked = asked_of c.in-Pack.packing in
    let same : asked ≡ a = packs-as _ asked a c.in-Pack.ensures.asked asks in
    let before = g.F.Store.faults c.args.store.now in
    let now = g.F.Store.faults c.pack.new.store in
    done_or_no_memory old asked (Rose before now) (not_risen before now faults) (subst (λ b. CanBePacked old b) (sym same) there) c.pack.result
    (λ first memory. c.pack.ensures.ends first memory told) (λ name e. (c.pack.ensures.write_fault name e).0)
