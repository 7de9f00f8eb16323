-- The members that stay, or what is left of the range.
use Rattle.std.proofs.Common.{◌≡◌, ◌↔◌, ℤ, Some, None, ap, sym, subst, ◌∙◌}
use Rattle.std.specs.List.{Contains}
use Rattle.std.specs.Option.{IfSome, option_copied}
use Rattle.std.proofs.lemmas.Result.{IfOk-weaker}
use Rattle.cc_rules_tests.proofs.Registers.{each_held, worked_ints, worked_none}
use Rattle.cc_rules_flows.specs.CcStateOperators.Domains.{domain}
use Rattle.cc_rules_tests.proofs.tested.Tested.of_integers.Goals as goal

pub of_members-requires : goal.of_members-requires
of_members-requires g c =
    let x = c.args.x.now in
    let members = c.in-Some.members.now in
    let some : g.I.IntDomain.members_of x ≡ Some members = sym c.members.ensures ∙ ap option_copied c.in-Some.is in
    let all : (v : ℤ) → Contains members v ↔ g.I.Concrete.Has x v = subst (λ o. IfSome o (λ vs. (v : ℤ) → Contains vs v ↔ g.I.Concrete.Has x v)) some (g.met.I.IntDomain.members_all x) in
    record {
      tested = c.requires.tested;
      trial = c.requires.trial;
      holds = each_held (domain g.I.Concrete.Has g.I.Lattice.IsBelow g.I.IntDomain.OpGives g.I.IntDomain.OpOneGives g.I.IntDomain.ToGives g.I.IntDomain.KeepGives g.I.IntDomain.members_of) c.args.self.now.context.now c.args.r x members all c.requires.holds;
      members = (x, c.requires.set, some);
    }

pub returns-in-Some : goal.returns-in-Some
returns-in-Some g c = record { trial = c.of_members.ensures.trial; left = c.of_members.ensures.left; below = c.of_members.ensures.below; worked = c.of_members.ensures.worked }

pub of_span-requires : goal.of_span-requires
of_span-requires g c =
    let none : g.I.IntDomain.members_of c.args.x.now ≡ None = sym c.members.ensures ∙ ap option_copied c.in-None.is in
    record { tested = c.requires.tested; trial = c.requires.trial; holds = c.requires.holds; set = c.requires.set; range = none }

pub returns-in-None : goal.returns-in-None
returns-in-None g c =
    let d = (domain g.I.Concrete.Has g.I.Lattice.IsBelow g.I.IntDomain.OpGives g.I.IntDomain.OpOneGives g.I.IntDomain.ToGives g.I.IntDomain.KeepGives g.I.IntDomain.members_of) in
    let t = c.args.self.now in
    let none : g.I.IntDomain.members_of c.args.x.now ≡ None = sym c.members.ensures ∙ ap option_copied c.in-None.is in
    record {
      trial = c.of_span.ensures.trial;
      left = c.of_span.ensures.left;
      below = c.of_span.ensures.below;
      worked = IfOk-weaker c.of_span.result _ _ (λ u h. worked_ints d t c.args.r c.args.y.now c.args.x.now c.requires.set (worked_none d t c.args.r c.args.x.now none)) c.of_span.ensures.below;
    }
