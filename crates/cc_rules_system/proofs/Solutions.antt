-- Facts that meet each constraint by its number are a solution, and the other way round; and what is made of a program is ready to be solved.
use Rattle.std.proofs.Common.{◌≡◌, ◌≤◌, length, get_or, Some, slice_get, sym, ap, subst, ◌∙◌}
use Rattle.std.proofs.lemmas.Option.{same_Some, slice_get-get_or}
use Rattle.cc_rules_asked.specs.CcFlow.Points.{count_of}
use Rattle.cc_rules_asked.specs.CcLattice.Systems.{MeetsAll}
use Rattle.cc_program.specs.declared.program.Program.{Program}
use Rattle.cc_rules_asked.specs.CcRules.Constraints.{Initial, Constraint, at_point, constraints}
use Rattle.cc_rules_asked.specs.CcRules.Rules.{Asks, IsSolution}
use Rattle.cc_rules_made.specs.declared.rules.Rules.{Rules}
use Rattle.cc_rules_made.specs.Rules.{AreOf}
use Rattle.cc_rules_readers.specs.declared.index.Index.{Index}
use Rattle.cc_rules_readers.specs.Index.{IsIndexOf}
use Rattle.cc_rules_system.specs.laws.Numbers.{numbered_there}
use Rattle.cc_rules_system.specs.System.{IsReady, AsksAt}
use Rattle.cc_rules_asked.specs.CcStateFacts.declared.facts.Facts.{Facts}
use Rattle.cc_rules_asked.specs.CcStateKeys.Counts.{fact_count}
use Rattle.cc_rules_asked.specs.CcStateOperators.Domains.{Domain}
use Rattle.cc_state_values_fit.specs.Fit.{HasWholes}
use Rattle.cc_rules_asked.specs.CcSyntax.Normal.{IsNormal}

module _ {I : Type 0} (d : Domain I) (p : Program) (f : Facts I) where
  pub solution_of : MeetsAll (length (constraints p)) (AsksAt d p) f → IsSolution d p f
  solution_of meets c (i, l, e) =
      let (own, here, asks) = meets i l in
      let there : slice_get (constraints p) i ≡ Some c = slice_get-get_or (constraints p) i c l ∙ ap Some e in
      subst (λ (x : Constraint). Asks d p x f f) (same_Some own c (sym here ∙ there)) asks

  pub meets_of : IsSolution d p f → MeetsAll (length (constraints p)) (AsksAt d p) f
  meets_of solution i l =
      let c = get_or (constraints p) i (at_point 0 Initial) in
      let here : slice_get (constraints p) i ≡ Some c = slice_get-get_or (constraints p) i (at_point 0 Initial) l in
      (c, here, solution c (numbered_there p i c here))

pub made_own : (p : Program) (rules : Rules) → AreOf p rules → AreOf rules.program.now rules
made_own p rules made = subst (λ (q : Program). AreOf q rules) (sym made.program) made

pub ready_by : {I : Type 0} (d : Domain I) (p : Program) (rules : Rules) (index : Index) → AreOf p rules → IsNormal p → count_of p ≤ 65536 → fact_count p ≤ 4194304 → HasWholes d p.target → IsIndexOf rules.program.now index → IsReady d rules index
ready_by d p rules index made normal points facts wholes indexed =
    let own = sym made.program in
    record {
      normal = subst IsNormal own normal;
      few_points = subst (λ (q : Program). count_of q ≤ 65536) own points;
      few_facts = subst (λ (q : Program). fact_count q ≤ 4194304) own facts;
      made = made_own p rules made;
      indexed = indexed;
      wholes = subst (λ (q : Program). HasWholes d q.target) own wholes;
    }
