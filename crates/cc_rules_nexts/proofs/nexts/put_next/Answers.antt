use Rattle.std.proofs.Common.{◌∷◌, [], ◌++◌, length, refl, ap, subst}
use Rattle.std.proofs.lemmas.List.Elements.{All-push, All-same}
use Rattle.cc_rules_asked.specs.declared.asked.Asked.TheVariants as asked
use Rattle.cc_rules_asked.specs.CcRulesFlows.Joins.{flows_to, IsTogether}
use Rattle.cc_rules_nexts.specs.Told.{IsOnward}
use Rattle.cc_rules_nexts.proofs.NextLemmas.{some_asked, none_asked}
use Rattle.cc_rules_nexts.proofs.Onward.{joined_kept}
use Rattle.cc_rules_asked.specs.CcStateOperators.Domains.{domain}
use Rattle.cc_rules_nexts.proofs.nexts.put_next.Goals as goal

pub joined-requires : goal.joined-requires
joined-requires g c = record { alike = c.requires.alike c.args.next }

pub returns-in-None : goal.returns-in-None
returns-in-None g c = record {
  asked = λ flows t.
      none_asked (domain g.I.Concrete.Has g.I.Lattice.IsBelow g.I.IntDomain.OpGives g.I.IntDomain.OpOneGives g.I.IntDomain.ToGives g.I.IntDomain.KeepGives g.I.IntDomain.members_of) c.args.here.now flows c.args.next c.args.asked.now.items
      (subst (IsTogether g.I.Lattice.IsBelow (flows_to c.args.next flows)) c.in-None.is (c.in_ok-both.ensures.together flows t));
  onward = λ kept there now. now;
}

pub returns-in_ok-push-in-Some : goal.returns-in_ok-push-in-Some
returns-in_ok-push-in-Some g c =
    let d = (domain g.I.Concrete.Has g.I.Lattice.IsBelow g.I.IntDomain.OpGives g.I.IntDomain.OpOneGives g.I.IntDomain.ToGives g.I.IntDomain.KeepGives g.I.IntDomain.members_of) in
    let here = c.args.here.now in
    let count = length here.context.registers.now in
    record {
      asked = λ flows t.
          some_asked d here flows c.args.next count c.in-Some.flow c.args.asked.now.items c.push.new.self.items (ap length c.requires.here.registers)
          (subst (IsTogether g.I.Lattice.IsBelow (flows_to c.args.next flows)) c.in-Some.is (c.in_ok-both.ensures.together flows t)) c.in_ok-push-in-Some.ensures.items;
      onward = λ kept there now.
          All-same (IsOnward d here) c.push.new.self.items (c.args.asked.now.items ++ asked.Point c.args.next count c.in-Some.flow ∷ []) c.in_ok-push-in-Some.ensures.items
          (All-push (IsOnward d here) c.args.asked.now.items (asked.Point c.args.next count c.in-Some.flow) now
          (there, refl, joined_kept count (length here.tracked.now) here.fact.now c.in-Some.flow c.args.next c.args.told.now g.I.Lattice.IsBelow _ c.in-Some.is kept c.in_ok-both.ensures.together c.in_ok-both.ensures.kept));
    }
