use Rattle.std.proofs.Common.{arith, ◌≡◌, ◌<◌, ◌++◌, ℕ, List, append-nil, length, ap, ◌∙◌}
use Rattle.std.specs.List.{flat_map}
use Rattle.cc_rules_again.specs.Again.{call_readers}
use Rattle.cc_rules_asked.proofs.StabilityLemmas.{put_on}
use Rattle.cc_rules_asked.specs.CcRulesNeeds.Flowing.{numbers}
use Rattle.cc_rules_readers.proofs.Rules.{is_there}
use Rattle.cc_rules_readers.proofs.calls.put_all_called.Goals as goal

pub put_called-requires : goal.put_called-requires
put_called-requires g c = record { rules = c.requires.rules; index = c.requires.index }

pub loop-g-preserved : goal.loop-g-preserved
loop-g-preserved g c =
    let call : ℕ → List ℕ = call_readers c.args.rules.now.program.now c.args.facts.now in
    let same = ap length c.all-functions.ensures in
    let l : c.loop-g.g < length c.args.rules.now.functions = omega (arith, same) in
    put_on call c.args.list.now.items c.loop-g.list.items c.put_called.new.list.items c.loop-g.g c.loop-g.invariant
    (c.in_ok-put_called.ensures
    ∙ (ap (λ xs. c.loop-g.list.items ++ flat_map call xs) (is_there c.args.rules.now.program.now c.args.rules.now.functions c.requires.rules.functions c.loop-g.g l)
    ∙ ap (λ xs. c.loop-g.list.items ++ xs) (append-nil (call c.loop-g.g))))

pub returns : goal.returns
returns g c =
    let count = c.requires.rules.functions.count in
    let same = ap length c.all-functions.ensures in
    let e : c.loop-g.g ≡ length c.args.rules.now.program.now.funcs = omega (arith, count, same) in
    c.loop-g.invariant ∙ ap (λ (n : ℕ). c.args.list.now.items ++ flat_map (call_readers c.args.rules.now.program.now c.args.facts.now) (numbers 0 n)) e
