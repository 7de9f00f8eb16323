use Rattle.std.proofs.Common.{arith, length, get_or, take, take_all, ap, subst, ◌∙◌, List}
use Rattle.std.proofs.lemmas.List.{get_or_default}
use Rattle.cc_slots_accesses.proofs.PutAll.{ArePut, all_put, by_number, next_of, none_put}
use Rattle.cc_rules_flows.specs.CcStateFacts.declared.facts.Key.{Key}
use Rattle.cc_rules_flows.specs.CcStateFacts.declared.facts.Key.TheVariants as key
use Rattle.cc_slots_accesses.proofs.puts.put_all.Goals as goal

pub loop-key-init : goal.loop-key-init
loop-key-init c = none_put c.args.p.now c.args.access c.args.lists.now

pub loop-key-preserved : goal.loop-key-preserved
loop-key-preserved c =
    let x : Key = get_or c.args.named.now c.loop-key.key-index (key.Object 0) in
    next_of (λ (l : List Key). ArePut c.args.p.now c.args.access c.args.lists.now l c.put_one.new.lists) c.args.named.now c.loop-key.key-index x c.loop-key-test.true
    (get_or_default c.args.named.now c.loop-key.key-index (key.Object 0) x c.loop-key-test.true)
    (by_number c.args.p.now c.args.access c.args.lists.now (take c.loop-key.key-index c.args.named.now) c.loop-key.lists c.put_one.new.lists x c.loop-key.invariant
    (c.loop-key.invariant.count ∙ (c.requires.lists ∙ ap length c.requires.keys)) c.in_ok-put_one.ensures.lacking c.in_ok-put_one.ensures.put)

pub returns : goal.returns
returns c =
    all_put c.args.p.now c.args.access c.args.lists.now c.args.named.now c.loop-key.lists
    (subst (λ (l : List Key). ArePut c.args.p.now c.args.access c.args.lists.now l c.loop-key.lists) (take_all c.loop-key.key-index c.args.named.now (omega (arith, c.loop-key-test.false))) c.loop-key.invariant)
