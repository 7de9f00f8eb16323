-- By what the laws of the domain say of its operators and of what its tests leave.
use Rattle.std.proofs.Common.{◌≡◌, ℤ, List, Contains, Option, Some, ◌↔◌, subst}
use Rattle.std.specs.Prelude.{IfSome}
use Rattle.cc_proof_rules.proofs.Covered.{solutions_cover}
use Rattle.cc_proof_rules.proofs.law.solutions.Goals as goal
use Rattle.cc_state_values_sound.specs.CcStateOperators.Domains.{domain}
use Rattle.cc_state_values_sound.proofs.Choices.{all_given}

-- what each member has is among the listed ones
listed : (o : Option (List ℤ)) (has : ℤ → Type 0) → IfSome o (λ vs. (v : ℤ) → Contains vs v ↔ has v) → (ms : List ℤ) → o ≡ Some ms → (v : ℤ) → has v → Contains ms v
listed o has h ms e v member = ((subst (λ (z : Option (List ℤ)). IfSome z (λ vs. (v : ℤ) → Contains vs v ↔ has v)) e h) v).1 member

pub returns : goal.returns
returns g c =
    let i = g.met.I.IntDomain in
    let d = domain g.I.Concrete.Has g.I.Lattice.IsBelow g.I.IntDomain.OpGives g.I.IntDomain.OpOneGives g.I.IntDomain.ToGives g.I.IntDomain.KeepGives g.I.IntDomain.members_of in
    record {
      covers = λ p normal few facts shape solution.
          solutions_cover d (all_given d i.below_has i.op_has i.op_one_has i.to_has)
          (record {
            keep_has = i.keep_has;
            members_all = λ x ms e v member. listed (d.members x) (d.has x) (i.members_all x) ms e v member;
          })
          p normal few facts shape solution;
    }
