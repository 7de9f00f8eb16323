-- One test after the other.
use Rattle.std.proofs.Common.{◌≡◌, ◌+◌, ◌++◌, All, false, [], ◌∷◌, ℕ, take, get_or, ⊎_elim, arith, ap, sym, subst, ◌∙◌}
use Rattle.std.specs.List.{Contains}
use Rattle.std.proofs.lemmas.List.{map-append, take_more}
use Rattle.std.proofs.lemmas.List.Elements.{All-append, All-nil}
use Rattle.cc_rules_flows.specs.CcPlaces.laws.ListLaws.{all_taken, item_in, none_in, taken_cases}
use Rattle.cc_rules_choices.specs.Choices.{choice_of, choices_of}
use Rattle.cc_rules_choices.specs.declared.choices.Choice.{Choice}
use Rattle.cc_rules_choices.specs.Sided.{AreWorkedHere, DoFlow, IsLike, fact_to}
use Rattle.cc_rules_choices.proofs.Told.{all_to, more_flow, none_flow}
use Rattle.cc_rules_tests.proofs.Following.{itself_at}
use Rattle.cc_rules_tests.specs.declared.tested.Test.TheVariants as made
use Rattle.cc_rules_tests.specs.Tested.{test_of}
use Rattle.cc_rules_flows.specs.CcStateFacts.declared.facts.PointFact.{PointFact}
use Rattle.cc_rules_flows.specs.CcStateOperators.Domains.{domain}
use Rattle.cc_rules_choices.proofs.sides.tested_sides.Goals as goal

abbrev nothing : Choice
nothing = record { test = made.Is false; point = 0 }

pub loop-choice-init : goal.loop-choice-init
loop-choice-init g c =
    let d = (domain g.I.Concrete.Has g.I.Lattice.IsBelow g.I.IntDomain.OpGives g.I.IntDomain.OpOneGives g.I.IntDomain.ToGives g.I.IntDomain.KeepGives g.I.IntDomain.members_of) in
    let here = c.args.here.now in
    let e = c.args.e.now in
    record {
      trial = c.requires.trial;
      flows = subst (λ xs. DoFlow d here e [] xs) (sym c.new-told.ensures.items) (none_flow d here e);
      like = subst (λ xs. All (λ (flow : ℕ × PointFact g.row.I.Denot). IsLike d here flow.1) xs) (sym c.new-told.ensures.items) (All-nil (λ (flow : ℕ × PointFact g.row.I.Denot). IsLike d here flow.1));
      worked = λ choice k. absurd (none_in choice k);
    }

pub side-requires : goal.side-requires
side-requires g c =
    let choices = c.args.choices.now in
    let i = c.loop-choice.choice-index in
    let there = c.loop-choice-test.true in
    let choice = get_or choices i nothing in
    record {
      here = c.requires.here;
      may = c.requires.may;
      labels = c.requires.labels choice (item_in choices i choice there (itself_at choices i nothing there));
      trial = c.loop-choice.invariant.trial;
    }

pub loop-choice-preserved : goal.loop-choice-preserved
loop-choice-preserved g c =
    let d = (domain g.I.Concrete.Has g.I.Lattice.IsBelow g.I.IntDomain.OpGives g.I.IntDomain.OpOneGives g.I.IntDomain.ToGives g.I.IntDomain.KeepGives g.I.IntDomain.members_of) in
    let here = c.args.here.now in
    let e = c.args.e.now in
    let choices = c.args.choices.now in
    let i = c.loop-choice.choice-index in
    let there = c.loop-choice-test.true in
    let choice = get_or choices i nothing in
    let told = c.loop-choice.told.items in
    let fact = c.in_ok-fact.fact in
    let before = c.loop-choice.invariant in
    let all : choices_of (take (i + 1) choices) ≡ choices_of (take i choices) ++ choice_of choice ∷ [] = ap choices_of (take_more choices i nothing there) ∙ map-append choice_of (take i choices) (choice ∷ []) in
    let more : DoFlow d here e (choices_of (take i choices) ++ choice_of choice ∷ []) (told ++ fact_to choice.point fact) = more_flow d here e (choices_of (take i choices)) told (choice_of choice) fact before.flows c.in_ok-fact.ensures.told in
    record {
      trial = c.side.ensures.trial;
      flows = subst (λ ts. DoFlow d here e ts c.put_told.new.told.items) (sym all) (subst (λ xs. DoFlow d here e (choices_of (take i choices) ++ choice_of choice ∷ []) xs) (sym c.in_ok-put_told.ensures) more);
      like = subst (λ xs. All (λ (flow : ℕ × PointFact g.row.I.Denot). IsLike d here flow.1) xs) (sym c.in_ok-put_told.ensures)
          (All-append (λ (flow : ℕ × PointFact g.row.I.Denot). IsLike d here flow.1) told (fact_to choice.point fact) before.like (all_to (λ (flow : ℕ × PointFact g.row.I.Denot). IsLike d here flow.1) choice.point fact c.in_ok-fact.ensures.like));
      worked = λ other k. ⊎_elim (before.worked other) (λ same. subst (λ (z : Choice). AreWorkedHere d here e (test_of z.test)) same c.in_ok-fact.ensures.worked) (taken_cases choices i choice other there (itself_at choices i nothing there) k);
    }

pub returns : goal.returns
returns g c =
    let d = (domain g.I.Concrete.Has g.I.Lattice.IsBelow g.I.IntDomain.OpGives g.I.IntDomain.OpOneGives g.I.IntDomain.ToGives g.I.IntDomain.KeepGives g.I.IntDomain.members_of) in
    let here = c.args.here.now in
    let e = c.args.e.now in
    let choices = c.args.choices.now in
    let all = all_taken choices c.loop-choice.choice-index (omega (arith, c.loop-choice-test.false)) in
    record {
      flows = subst (λ xs. DoFlow d here e (choices_of xs) c.loop-choice.told.items) all c.loop-choice.invariant.flows;
      like = c.loop-choice.invariant.like;
      worked = subst (λ xs. (choice : Choice) → Contains xs choice → AreWorkedHere d here e (test_of choice.test)) all c.loop-choice.invariant.worked;
    }
