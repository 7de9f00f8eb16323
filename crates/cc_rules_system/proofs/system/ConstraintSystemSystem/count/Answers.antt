-- There are as many points as the program has.
use Rattle.std.proofs.Common.{arith, ◌≡◌, length, sym, ap, ◌∙◌}
use Rattle.cc_rules_asked.proofs.CcFlow.Paths.{all_counted}
use Rattle.cc_rules_asked.specs.CcFlow.declared.types.Flow.{Flow}
use Rattle.cc_rules_asked.specs.CcFlow.Points.{count_of}
use Rattle.cc_rules_system.proofs.system.ConstraintSystemSystem.count.Goals as goal

pub overflow_cast-all : goal.overflow_cast-all
overflow_cast-all g c =
    let p = c.args.self.now.rules.program.now in
    let few = c.requires.ready.few_points in
    let all : length c.all.result.now ≡ count_of p = ap length c.all.ensures ∙ (ap (λ (f : Flow). length f.points) c.requires.ready.made.flow ∙ all_counted p) in
    omega (arith, few, all)

pub constraint_count-requires : goal.constraint_count-requires
constraint_count-requires g c =
    let p = c.args.self.now.rules.program.now in
    let few = c.requires.ready.few_points in
    let all : length c.all.result.now ≡ count_of p = ap length c.all.ensures ∙ (ap (λ (f : Flow). length f.points) c.requires.ready.made.flow ∙ all_counted p) in
    omega (arith, few, all)

pub returns : goal.returns
returns g c =
    let p = c.args.self.now.rules.program.now in
    let all : length c.all.result.now ≡ count_of p = ap length c.all.ensures ∙ (ap (λ (f : Flow). length f.points) c.requires.ready.made.flow ∙ all_counted p) in
    sym (c.constraint_count.ensures p (sym all))
