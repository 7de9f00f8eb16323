-- Where the point is reached its sets are of the kinds of the function's registers, and else their declared types tell the kinds.
use Rattle.std.proofs.Common.{◌≡◌, ℕ, map, ap, sym, subst, ◌∙◌}
use Rattle.std.proofs.lemmas.Result.{IfOk-weaker}
use Rattle.cc_rules_asked.specs.CcFlow.declared.types.Point.{Point}
use Rattle.cc_program.specs.declared.func.Func.{Func}
use Rattle.cc_rules_asked.specs.CcRulesFlows.Nexts.{IsPoint}
use Rattle.cc_rules_raised.proofs.Change.{known_shaped}
use Rattle.cc_rules_raised.proofs.KindsAt.{kinds_of_fact, kinds_of_function}
use Rattle.cc_rules_raised.proofs.completed.kinds_at.Goals as goal
use Rattle.cc_rules_raised.specs.Completed.{AreKinds, AreKindsAt}
use Rattle.cc_rules_raised.specs.OfAddresses.{is_set_of_addresses, local_addresses}
use Rattle.cc_rules_asked.specs.CcStateKeys.Tracked.{registers}
use Rattle.cc_rules_asked.specs.CcStateOperators.Domains.{domain}

pub returns-in-Some : goal.returns-in-Some
returns-in-Some g c =
    let d = domain g.I.Concrete.Has g.I.Lattice.IsBelow g.I.IntDomain.OpGives g.I.IntDomain.OpOneGives g.I.IntDomain.ToGives g.I.IntDomain.KeepGives g.I.IntDomain.members_of in
    let p = c.args.p.now in
    let known = c.in-Some.known.now in
    IfOk-weaker c.kinds_of_sets.result (λ kinds. kinds.items ≡ map is_set_of_addresses c.all.result.now) (λ kinds. AreKindsAt d p c.args.point kinds.items)
    (λ kinds e id f q is. subst (AreKinds d p f) (sym (e ∙ ap (map is_set_of_addresses) c.all.ensures))
    (kinds_of_fact d p f known (known_shaped d p c.args.facts.now c.requires.shape c.args.point id f q is known (sym c.in-Some.ensures)))) c.kinds_of_sets.ensures

pub returns-in-None : goal.returns-in-None
returns-in-None g c =
    let d = domain g.I.Concrete.Has g.I.Lattice.IsBelow g.I.IntDomain.OpGives g.I.IntDomain.OpOneGives g.I.IntDomain.ToGives g.I.IntDomain.KeepGives g.I.IntDomain.members_of in
    let p = c.args.p.now in
    IfOk-weaker c.declared_kinds.result (λ kinds. (id : ℕ) (f : Func) (q : Point) → IsPoint p c.args.point id f q → kinds.items ≡ map (local_addresses f) (registers f)) (λ kinds. AreKindsAt d p c.args.point kinds.items)
    (λ kinds e id f q is. subst (AreKinds d p f) (sym (e id f q is)) (kinds_of_function d p f)) c.declared_kinds.ensures
