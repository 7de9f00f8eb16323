use Rattle.std.proofs.Common.{arith, ◌≡◌, ◌++◌, ◌∷◌, [], ℕ, Bool, List, Option, map, length, ap, ◌∙◌}
use Rattle.std.specs.List.{list_any}
use Rattle.cc_rules_again.specs.Again.{is_unstable}
use Rattle.cc_rules_asked.specs.CcRulesNeeds.Flowing.{numbers}
use Rattle.cc_rules_asked.specs.CcStateKeys.Tracked.{tracked}
use Rattle.cc_rules_readers.specs.Points.{is_entered_by}
use Rattle.cc_rules_readers.specs.View.{named_view}
use Rattle.cc_rules_readers.proofs.Numbers.{made_on}
use Rattle.cc_rules_readers.proofs.Unstable.{entered_concerned}
use Rattle.cc_rules_readers.proofs.stability.unstable_functions.Goals as goal

pub loop-func-preserved : goal.loop-func-preserved
loop-func-preserved g c =
    made_on (is_unstable c.args.rules.now.program.now c.args.facts.now (named_view c.args.keys)) c.loop-func.func c.loop-func.unstable.items c.push.new.self.items c.loop-func.invariant
    (c.in_ok-push.ensures.items ∙ ap (λ (b : Bool). c.loop-func.unstable.items ++ b ∷ []) (c.are_entered.ensures ∙ (ap (λ (ks : List (Option ℕ)). list_any (is_entered_by c.args.facts.now c.loop-func.func) ks) (c.as_slice-numbers.ensures.value ∙ c.in_ok-numbers.ensures) ∙ entered_concerned c.args.rules.now.program.now c.args.facts.now (named_view c.args.keys) c.loop-func.func (tracked c.args.rules.now.program.now))))

pub returns : goal.returns
returns g c =
    let count = c.requires.rules.functions.count in
    let same = ap length c.all-functions.ensures in
    let e : c.loop-func.func ≡ length c.args.rules.now.program.now.funcs = omega (arith, count, same) in
    c.loop-func.invariant ∙ ap (λ (n : ℕ). map (is_unstable c.args.rules.now.program.now c.args.facts.now (named_view c.args.keys)) (numbers 0 n)) e
