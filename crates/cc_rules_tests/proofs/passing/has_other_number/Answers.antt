-- By the members of an explicit set, and by the ends of a range.
use Rattle.std.proofs.Common.{◌↔◌, ℤ, ◌≤ℤ◌, ap, sym, subst, ◌∙◌}
use Rattle.std.specs.List.{Contains}
use Rattle.std.specs.Option.{IfSome, option_copied}
use Rattle.cc_rules_flows.specs.CcLattice.Domains.{AreEnds}
use Rattle.cc_rules_tests.proofs.PassingValues.{by_members, by_range_read}
use Rattle.cc_rules_tests.proofs.passing.has_other_number.Goals as goal

pub returns-in-Some : goal.returns-in-Some
returns-in-Some g c =
    let x = c.args.x.now in
    let e = sym c.members.ensures ∙ ap option_copied c.in-Some.is in
    let all : (v : ℤ) → Contains c.in-Some.members.now v ↔ g.I.Concrete.Has x v = subst (λ o. IfSome o (λ vs. (v : ℤ) → Contains vs v ↔ g.I.Concrete.Has x v)) e (g.met.I.IntDomain.members_all x) in
    by_members (g.I.Concrete.Has x) c.in-Some.members.now c.args.others.now c.has_other.result all c.has_other.ensures

pub returns-in-Some-bounds : goal.returns-in-Some-bounds
returns-in-Some-bounds g c =
    let x = c.args.x.now in
    let low = c.in-Some-bounds.low in
    let high = c.in-Some-bounds.high in
    let e = sym c.bounds.ensures ∙ c.in-Some-bounds.is in
    let none = sym c.members.ensures ∙ ap option_copied c.in-None.is in
    let ends : AreEnds (g.I.Concrete.Has x) (low, high) = subst (λ b. IfSome b (AreEnds (g.I.Concrete.Has x))) e (g.met.I.IntDomain.bounds_ends x) in
    let all : (v : ℤ) → low ≤ℤ v → v ≤ℤ high → g.I.Concrete.Has x v = subst (λ b. IfSome b (λ ends. (v : ℤ) → ends.0 ≤ℤ v → v ≤ℤ ends.1 → g.I.Concrete.Has x v)) e (g.met.I.IntDomain.range_has x none) in
    by_range_read (g.I.Concrete.Has x) low high c.args.others.now c.has_other_between.result (g.met.I.IntDomain.in_reach x low ends.low_in) (g.met.I.IntDomain.in_reach x high ends.high_in) ends all c.has_other_between.ensures
