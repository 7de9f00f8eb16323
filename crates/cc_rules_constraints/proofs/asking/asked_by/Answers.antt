use Rattle.std.proofs.Common.{arith, length, ap, ◌∙◌}
use Rattle.std.proofs.lemmas.Result.{IfOk-weaker}
use Rattle.cc_rules_asked.specs.CcRules.Rules.{AreFirstSets, IsStarted}
use Rattle.cc_rules_asked.specs.Asked.{all_needs}
use Rattle.cc_rules_constraints.proofs.asking.asked_by.Goals as goal
use Rattle.cc_rules_constraints.proofs.Asks.{by_firsts, by_start, by_point}
use Rattle.cc_rules_constraints.proofs.Results.{by_two}
use Rattle.cc_rules_constraints.specs.Asking.{IsAskedAt}
use Rattle.cc_rules_layout.specs.Raisable.{AreRaisable}
use Rattle.cc_rules_numbered.specs.Numbered.{rule_view}
use Rattle.cc_rules_asked.specs.CcStateFacts.declared.facts.Facts.{Facts}
use Rattle.cc_rules_asked.specs.CcStateKeys.Keys.{keys_of}
use Rattle.cc_rules_asked.specs.CcStateOperators.Domains.{domain}
use Rattle.cc_rules_asked.proofs.CcSyntax.NameRules.{sound-typed}

pub asked_by_firsts-requires : goal.asked_by_firsts-requires
asked_by_firsts-requires g c = record {
  typed = sound-typed c.args.rules.now.program.now c.requires.normal.sound;
  shape = c.requires.shape;
  few = let few = c.requires.few_keys in omega (arith, few, ap length c.requires.shape.keys);
}

pub asked_by_start-requires : goal.asked_by_start-requires
asked_by_start-requires g c = record { normal = c.requires.normal; main = c.main_of-main.ensures; tracked = c.all.ensures ∙ c.requires.rules.tracked }

pub returns-in-Initial : goal.returns-in-Initial
returns-in-Initial g c =
    by_two c.asked_by_firsts.result (λ list. AreFirstSets (domain g.I.Concrete.Has g.I.Lattice.IsBelow g.I.IntDomain.OpGives g.I.IntDomain.OpOneGives g.I.IntDomain.ToGives g.I.IntDomain.KeepGives g.I.IntDomain.members_of) c.args.rules.now.program.now c.args.facts.now 0 (keys_of c.args.rules.now.program.now) (all_needs c.args.rules.now.program.now list.items)) (λ list. (facts : Facts g.row.I.Denot) → AreRaisable (domain g.I.Concrete.Has g.I.Lattice.IsBelow g.I.IntDomain.OpGives g.I.IntDomain.OpOneGives g.I.IntDomain.ToGives g.I.IntDomain.KeepGives g.I.IntDomain.members_of) c.args.rules.now.program.now facts list.items) _
    (λ list asks raisable. by_firsts (domain g.I.Concrete.Has g.I.Lattice.IsBelow g.I.IntDomain.OpGives g.I.IntDomain.OpOneGives g.I.IntDomain.ToGives g.I.IntDomain.KeepGives g.I.IntDomain.members_of) c.args.rules.now.program.now c.args.facts.now c.args.constraint list.items c.in-Initial.is asks (raisable c.args.facts.now)) c.asked_by_firsts.ensures.asked c.asked_by_firsts.ensures.raisable

pub returns-in-Start : goal.returns-in-Start
returns-in-Start g c =
    by_two c.asked_by_start.result (λ list. (facts : Facts g.row.I.Denot) → IsStarted (domain g.I.Concrete.Has g.I.Lattice.IsBelow g.I.IntDomain.OpGives g.I.IntDomain.OpOneGives g.I.IntDomain.ToGives g.I.IntDomain.KeepGives g.I.IntDomain.members_of) c.args.rules.now.program.now facts c.args.constraint.point (all_needs c.args.rules.now.program.now list.items)) (λ list. (facts : Facts g.row.I.Denot) → AreRaisable (domain g.I.Concrete.Has g.I.Lattice.IsBelow g.I.IntDomain.OpGives g.I.IntDomain.OpOneGives g.I.IntDomain.ToGives g.I.IntDomain.KeepGives g.I.IntDomain.members_of) c.args.rules.now.program.now facts list.items) _
    (λ list asks raisable. by_start (domain g.I.Concrete.Has g.I.Lattice.IsBelow g.I.IntDomain.OpGives g.I.IntDomain.OpOneGives g.I.IntDomain.ToGives g.I.IntDomain.KeepGives g.I.IntDomain.members_of) c.args.rules.now.program.now c.args.facts.now c.args.constraint list.items c.in-Start.is (asks c.args.facts.now) (raisable c.args.facts.now)) c.asked_by_start.ensures.asked c.asked_by_start.ensures.raisable

pub returns-in_default : goal.returns-in_default
returns-in_default g c =
    IfOk-weaker c.asked_at.result (λ list. IsAskedAt (domain g.I.Concrete.Has g.I.Lattice.IsBelow g.I.IntDomain.OpGives g.I.IntDomain.OpOneGives g.I.IntDomain.ToGives g.I.IntDomain.KeepGives g.I.IntDomain.members_of) c.args.rules.now.program.now c.args.facts.now (rule_view c.args.constraint.rule) c.args.constraint.point list.items) _
    (λ list. by_point (domain g.I.Concrete.Has g.I.Lattice.IsBelow g.I.IntDomain.OpGives g.I.IntDomain.OpOneGives g.I.IntDomain.ToGives g.I.IntDomain.KeepGives g.I.IntDomain.members_of) c.args.rules.now.program.now c.args.facts.now c.args.constraint list.items c.in_default.not-Initial c.in_default.not-Start) c.asked_at.ensures
