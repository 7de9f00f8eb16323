-- What is told with an empty set for each register behind.
use Rattle.std.proofs.Common.{arith, ◌≡◌, ℕ, ◌≤◌, Bool, List, ◌++◌, length, length-drop, vec_len, take, drop, ◌-◌, sym, ap, subst, ◌∙◌}
use Rattle.std.specs.List.{AllZip}
use Rattle.std.proofs.lemmas.List.{take_all}
use Rattle.std.proofs.lemmas.Option.{same_Some}
use Rattle.cc_rules_asked.specs.CcPlaces.declared.abs.Abs.{Abs}
use Rattle.cc_program.specs.declared.func.Func.{Func}
use Rattle.cc_rules_raised.proofs.Completing.{completed_by}
use Rattle.cc_rules_raised.proofs.KindsAt.{function_there}
use Rattle.cc_rules_raised.proofs.completed.completed.Goals as goal
use Rattle.cc_rules_asked.specs.CcStateFacts.declared.facts.PointFact.{PointFact}
use Rattle.cc_rules_asked.specs.CcStateKeys.Tracked.{registers}
use Rattle.cc_rules_asked.specs.CcStateOperators.Domains.{domain}
use Rattle.cc_state_shape.specs.Empty.{IsNone}

pub slice_bounds-put_nones-count : goal.slice_bounds-put_nones-count
slice_bounds-put_nones-count g c =
    let w = c.requires.there in
    let sets : c.into_vec-sets.result.items ≡ c.args.told.now.locals = c.into_vec-sets.ensures ∙ (c.replace.ensures.value ∙ ap (λ (m : PointFact g.row.I.Denot). m.locals) c.in_ok-made.ensures) in
    let all : vec_len c.into_vec-sets.result ≡ length c.into_vec-sets.result.items = omega arith in
    let count : c.len-count.result ≡ length c.into_vec-sets.result.items = c.len-count.ensures ∙ all in
    let long = ap length sets in
    let kinds = ap length c.deref.ensures.value in
    let each = (c.in_ok-kinds.ensures w.0 w.1 w.2 w.3).each in
    let few : length c.args.told.now.locals ≤ length (registers w.1) = w.4 in
    omega (arith, count, long, kinds, each, few)

pub slice_bounds-put_nones-start : goal.slice_bounds-put_nones-start
slice_bounds-put_nones-start g c =
    let w = c.requires.there in
    let sets : c.into_vec-sets.result.items ≡ c.args.told.now.locals = c.into_vec-sets.ensures ∙ (c.replace.ensures.value ∙ ap (λ (m : PointFact g.row.I.Denot). m.locals) c.in_ok-made.ensures) in
    let all : vec_len c.into_vec-sets.result ≡ length c.into_vec-sets.result.items = omega arith in
    let count : c.len-count.result ≡ length c.into_vec-sets.result.items = c.len-count.ensures ∙ all in
    let long = ap length sets in
    let kinds = ap length c.deref.ensures.value in
    let each = (c.in_ok-kinds.ensures w.0 w.1 w.2 w.3).each in
    let few : length c.args.told.now.locals ≤ length (registers w.1) = w.4 in
    let within : c.len-count.result ≤ length c.deref.result.now = omega (arith, count, long, kinds, each, few) in
    within

pub returns : goal.returns
returns g c =
    let d = domain g.I.Concrete.Has g.I.Lattice.IsBelow g.I.IntDomain.OpGives g.I.IntDomain.OpOneGives g.I.IntDomain.ToGives g.I.IntDomain.KeepGives g.I.IntDomain.members_of in
    let p = c.args.p.now in
    let told = c.args.told.now in
    let w = c.requires.there in
    let put = c.in_ok-put_nones.ensures in
    let sets : c.into_vec-sets.result.items ≡ told.locals = c.into_vec-sets.ensures ∙ (c.replace.ensures.value ∙ ap (λ (m : PointFact g.row.I.Denot). m.locals) c.in_ok-made.ensures) in
    let all : vec_len c.into_vec-sets.result ≡ length c.into_vec-sets.result.items = omega arith in
    let count : c.len-count.result ≡ length told.locals = c.len-count.ensures ∙ (all ∙ ap length sets) in
    let rest : take (length c.deref.result.now - c.len-count.result) (drop c.len-count.result c.deref.result.now) ≡ drop c.len-count.result c.deref.result.now =
    take_all (length c.deref.result.now - c.len-count.result) (drop c.len-count.result c.deref.result.now) (omega (arith, length-drop c.len-count.result c.deref.result.now)) in
    let behind : AllZip (IsNone g.I.Concrete.Has) (drop (length told.locals) c.in_ok-kinds.kinds.items) put.0 =
    subst (λ (kinds : List Bool). AllZip (IsNone g.I.Concrete.Has) (drop (length told.locals) kinds) put.0) c.deref.ensures.value
    (subst (λ (n : ℕ). AllZip (IsNone g.I.Concrete.Has) (drop n c.deref.result.now) put.0) count (subst (λ (kinds : List Bool). AllZip (IsNone g.I.Concrete.Has) kinds put.0) rest put.2)) in
    let locals : c.of-2.result ≡ told.locals ++ put.0 = c.of-2.ensures ∙ (put.1 ∙ ap (λ (ls : List (Abs g.row.I.Denot)). ls ++ put.0) sets) in
    let with_locals : List (Abs g.row.I.Denot) → PointFact g.row.I.Denot → PointFact g.row.I.Denot = λ ls m. record m { locals = ls } in
    λ id f q is.
    (let own : w.1 ≡ f = same_Some w.1 f (sym (function_there p c.args.flow.now c.args.point w.0 w.1 w.2 c.requires.flow w.3) ∙ function_there p c.args.flow.now c.args.point id f q c.requires.flow is) in
    completed_by d p f told (with_locals c.of-2.result c.in_ok-made.made) c.in_ok-kinds.kinds.items put.0 (c.in_ok-kinds.ensures id f q is)
    (subst (λ (x : Func). length told.locals ≤ length (registers x)) own w.4) behind
    (ap (with_locals c.of-2.result) c.in_ok-made.ensures ∙ ap (λ (ls : List (Abs g.row.I.Denot)). with_locals ls told) locals))
