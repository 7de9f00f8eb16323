-- A range stays where the register is not read; else by the test.
use Rattle.std.proofs.Common.{sym, subst, ◌∙◌}
use Rattle.std.proofs.lemmas.Result.{IfOk-weaker}
use Rattle.cc_rules_flows.specs.CcPlaces.Abstract.{IsBelowAbs}
use Rattle.cc_rules_flows.specs.CcPlaces.laws.AbstractLaws.{abs_itself}
use Rattle.cc_rules_tests.specs.Tested.{IsLeftIn}
use Rattle.cc_rules_tests.proofs.Registers.{below_ints, copy_below, left_ints}
use Rattle.cc_rules_tests.proofs.Unread.{range_unread}
use Rattle.cc_rules_flows.specs.CcStateOperators.Domains.{domain}
use Rattle.cc_rules_tests.proofs.tested.Tested.of_span.Goals as goal

pub returns-then-not-reads : goal.returns-then-not-reads
returns-then-not-reads g c =
    let d = (domain g.I.Concrete.Has g.I.Lattice.IsBelow g.I.IntDomain.OpGives g.I.IntDomain.OpOneGives g.I.IntDomain.ToGives g.I.IntDomain.KeepGives g.I.IntDomain.members_of) in
    let t = c.args.self.now in
    let y = c.args.y.now in
    let x = c.args.x.now in
    let is = c.requires.set in
    let stays = range_unread d t c.args.r x (sym c.reads.ensures ∙ c.if-not-reads.true) c.requires.range in
    record {
      trial = c.requires.trial;
      left = IfOk-weaker c.share.result _ _ (λ z e. subst (λ v. IsLeftIn d t c.args.r y v) (sym (e ∙ is)) (left_ints d t c.args.r y x x is stays)) c.share.ensures;
      below = IfOk-weaker c.share.result _ _ (λ z e. copy_below (IsBelowAbs g.I.Lattice.IsBelow) y z (abs_itself g.I.Lattice.AreAlike g.I.Lattice.IsBelow g.met.I.Lattice.below_itself g.met.I.IntDomain.all_alike y) e) c.share.ensures;
    }

pub of_range-requires : goal.of_range-requires
of_range-requires g c = record { tested = c.requires.tested; changed = c.requires.trial.changed; holds = c.requires.holds; range = c.requires.range }

pub returns : goal.returns
returns g c =
    let d = (domain g.I.Concrete.Has g.I.Lattice.IsBelow g.I.IntDomain.OpGives g.I.IntDomain.OpOneGives g.I.IntDomain.ToGives g.I.IntDomain.KeepGives g.I.IntDomain.members_of) in
    let t = c.args.self.now in
    let y = c.args.y.now in
    let x = c.args.x.now in
    let u = c.in_ok-left.left in
    let is = c.requires.set in
    record {
      trial = record { changed = c.of_range.ensures.changed; whole = c.requires.trial.whole; tried = c.requires.trial.tried };
      left = IfOk-weaker c.new.result _ _ (λ z e. subst (λ v. IsLeftIn d t c.args.r y v) (sym e) (left_ints d t c.args.r y x u is c.in_ok-left.ensures.left)) c.new.ensures;
      below = IfOk-weaker c.new.result _ _ (λ z e. subst (λ v. IsBelowAbs g.I.Lattice.IsBelow v y) (sym e) (below_ints d t c.args.r y x u is c.in_ok-left.ensures.below)) c.new.ensures;
    }
