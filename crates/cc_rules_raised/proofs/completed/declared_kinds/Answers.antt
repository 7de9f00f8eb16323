-- The point is one of a function.
use Rattle.std.proofs.Common.{◌≡◌, ℕ, ◌<◌, ◌^◌, length, ap, map, sym, subst, ◌∙◌}
use Rattle.std.proofs.lemmas.Option.{none-some, same_Some}
use Rattle.std.proofs.lemmas.Result.{IfOk-weaker}
use Rattle.cc_rules_asked.specs.CcFlow.declared.types.Point.{Point}
use Rattle.cc_program.specs.declared.func.Func.{Func}
use Rattle.cc_rules_asked.specs.CcRulesFlows.Nexts.{IsPoint}
use Rattle.cc_rules_raised.proofs.KindsAt.{few_locals_at, function_there}
use Rattle.cc_rules_raised.proofs.completed.declared_kinds.Goals as goal
use Rattle.cc_rules_raised.specs.OfAddresses.{local_addresses}
use Rattle.cc_rules_asked.specs.CcStateKeys.Tracked.{registers}

pub unreachable-requires : goal.unreachable-requires
unreachable-requires c = let w = c.requires.there in none-some w.1 (c.in-None.ensures ∙ function_there c.args.p.now c.args.flow.now c.args.point w.0 w.1 w.2 c.requires.flow w.3)

pub registers-requires : goal.registers-requires
registers-requires c =
    let w = c.requires.there in
    let own : w.1 ≡ c.in-Some.func.now = same_Some w.1 c.in-Some.func.now (sym (c.in-Some.ensures ∙ function_there c.args.p.now c.args.flow.now c.args.point w.0 w.1 w.2 c.requires.flow w.3)) in
    subst (λ (f : Func). length f.locals < 2 ^ 32) own (few_locals_at c.args.p.now c.requires.normal w.0 w.1 w.3.function)

pub returns : goal.returns
returns c =
    let p = c.args.p.now in
    let own = c.in-Some.func.now in
    IfOk-weaker c.kinds_of_locals.result (λ kinds. kinds.items ≡ map (local_addresses own) c.deref.result.now) (λ kinds. (id : ℕ) (f : Func) (q : Point) → IsPoint p c.args.point id f q → kinds.items ≡ map (local_addresses f) (registers f))
    (λ kinds e id f q is. (let same : own ≡ f = same_Some own f (c.in-Some.ensures ∙ function_there p c.args.flow.now c.args.point id f q c.requires.flow is) in
    subst (λ (x : Func). kinds.items ≡ map (local_addresses x) (registers x)) same (e ∙ ap (map (local_addresses own)) (c.deref.ensures.value ∙ c.in_ok-numbers-in-Some.ensures)))) c.kinds_of_locals.ensures
