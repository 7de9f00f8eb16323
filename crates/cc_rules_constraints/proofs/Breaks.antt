-- Constraints that facts meet, as far as a loop over them has come, and the first that they break.
use Rattle.std.proofs.Common.{arith, ◌≡◌, ◌<◌, ◌≤◌, ◌+◌, ℕ, suc, length, take, drop, Some, None, slice_get, sym, subst}
use Rattle.std.proofs.lemmas.Option.{slice_get_within}
use borrow.Author.Count.{below_none, below_more}
use Rattle.cc_program.specs.declared.program.Program.{Program}
use Rattle.cc_rules_asked.specs.CcRules.Broken.{IsFirstBroken, FirstBroken}
use Rattle.cc_rules_asked.specs.CcRules.Constraints.{Constraint, constraints}
use Rattle.cc_rules_asked.specs.CcRules.Rules.{IsAsked, IsMet}
use Rattle.cc_rules_constraints.proofs.Lists.{split_at, in_front, there}
use Rattle.cc_rules_constraints.specs.declared.broken.Broken.{Broken}
use Rattle.cc_rules_constraints.specs.Broken.{broken_view, Lacks, IsBrokenAt}
use Rattle.cc_rules_lacking.specs.First.{IsFirst}
use Rattle.cc_rules_asked.specs.CcRulesNeeds.declared.needs.Part.{Part}
use Rattle.cc_rules_asked.specs.CcRulesNeeds.declared.needs.Slot.{Slot}
use Rattle.cc_rules_asked.specs.CcRulesNeeds.Needs.{Needs, HasAll}
use Rattle.cc_rules_grow.proofs.CcState.Lists.{at_contained}
use Rattle.cc_rules_asked.specs.CcStateFacts.declared.facts.Facts.{Facts}
use Rattle.cc_rules_asked.specs.CcStateOperators.Domains.{Domain}

module _ {I : Type 0} (d : Domain I) (p : Program) (facts : Facts I) where
  -- ---- one constraint

  pub lacking : (c : Constraint) (ns : Needs I) (need : Slot × Part I) → IsAsked d p facts c ns → IsFirst d.below ns facts need → Lacks d p facts c need.0 need.1
  lacking c ns need asked is = record { front = is.front; back = is.back; asks = subst (IsAsked d p facts c) is.is asked; has = is.has; lacks = is.lacks }

  pub met : (c : Constraint) (ns : Needs I) → IsAsked d p facts c ns → HasAll d.below ns facts → IsMet d p c facts
  met c ns asked had = (ns, asked, had)

  -- ---- all

  abbrev IsMetAt : ℕ → Type 0
  IsMetAt n = (c : Constraint) → slice_get (constraints p) n ≡ Some c → IsMet d p c facts

  abbrev pub AreMetBelow : ℕ → Type 0
  AreMetBelow i = (n : ℕ) → n < i → IsMetAt n

  pub none_met : AreMetBelow 0
  none_met = below_none IsMetAt

  pub met_on : (i : ℕ) → AreMetBelow i → IsBrokenAt d p facts i None → AreMetBelow (i + 1)
  met_on i all here = below_more IsMetAt i all here

  pub first_of : (i : ℕ) (c : Constraint) (b : Broken I) → slice_get (constraints p) i ≡ Some c → AreMetBelow i → IsBrokenAt d p facts i (Some b) → FirstBroken d p facts (Some (broken_view b))
  first_of i c b at all here =
      let (same, lacks) = here c at in
      let first : IsFirstBroken d p facts c b.slot b.part = record {
        before = take i (constraints p);
        after = drop (suc i) (constraints p);
        is = split_at (constraints p) i c at;
        met = λ k there. (let (n, e) = at_contained (take i (constraints p)) k there in let r = in_front (constraints p) i n k e in all n r.0 k r.1);
        front = lacks.front;
        back = lacks.back;
        asks = lacks.asks;
        has = lacks.has;
        lacks = lacks.lacks;
      } in
      subst (λ (c : Constraint). IsFirstBroken d p facts c b.slot b.part) (sym same) first

  pub all_met : (i : ℕ) → length (constraints p) ≤ i → AreMetBelow i → FirstBroken d p facts None
  all_met i past all c there = let (n, e) = at_contained (constraints p) c there in let l = slice_get_within (constraints p) n c e in all n (omega (arith, l, past)) c e

  pub first_in : (i : ℕ) (b : Broken I) → i < length (constraints p) → AreMetBelow i → IsBrokenAt d p facts i (Some b) → FirstBroken d p facts (Some (broken_view b))
  first_in i b l all here = let (c, at) = there (constraints p) i l in first_of i c b at all here
