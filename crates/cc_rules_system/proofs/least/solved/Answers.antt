-- The program of the system is the one that was given.
use Rattle.std.proofs.Common.{length, sym, subst}
use Rattle.std.proofs.lemmas.Result.{IfOk-weaker}
use Rattle.cc_rules_asked.specs.CcLattice.Systems.{MeetsAll}
use Rattle.cc_program.specs.declared.program.Program.{Program}
use Rattle.cc_rules_asked.specs.CcRules.Constraints.{constraints}
use Rattle.cc_rules_asked.specs.CcRules.Rules.{IsSolution}
use Rattle.cc_rules_system.proofs.Solutions.{solution_of, meets_of}
use Rattle.cc_rules_system.proofs.least.solved.Goals as goal
use Rattle.cc_rules_system.specs.System.{Fits, AsksAt}
use Rattle.cc_rules_grow.specs.CcState.Shape.{HaveShape}
use Rattle.cc_rules_asked.specs.CcStateFacts.declared.facts.Facts.{Facts}
use Rattle.cc_rules_asked.specs.CcStateFacts.Orders.{IsBelow}
use Rattle.cc_state_limits.specs.Held.{AreHeld}
use Rattle.cc_rules_asked.specs.CcStateOperators.Domains.{domain}

pub returns : goal.returns
returns g c =
    let d = domain g.I.Concrete.Has g.I.Lattice.IsBelow g.I.IntDomain.OpGives g.I.IntDomain.OpOneGives g.I.IntDomain.ToGives g.I.IntDomain.KeepGives g.I.IntDomain.members_of in
    let below = g.I.Lattice.IsBelow in
    let p = c.args.p.now in
    let q = c.in_ok-system.system.rules.program.now in
    let own = c.in_ok-system.ensures.program in
    record {
      shape = IfOk-weaker c.least.result (λ f. Fits d q f) (λ f. HaveShape d p f) (λ f h. subst (λ (x : Program). HaveShape d x f) own h.0) c.least.ensures.fitting;
      solution = IfOk-weaker c.least.result (λ f. MeetsAll (length (constraints q)) (AsksAt d q) f) (λ f. IsSolution d p f)
          (λ f h. solution_of d p f (subst (λ (x : Program). MeetsAll (length (constraints x)) (AsksAt d x) f) own h)) c.least.ensures.solution;
      least = IfOk-weaker c.least.result (λ f. (k : Facts g.row.I.Denot) → Fits d q k → MeetsAll (length (constraints q)) (AsksAt d q) k → IsBelow below f k)
          (λ f. (others : Facts g.row.I.Denot) → HaveShape d p others → AreHeld others → IsSolution d p others → IsBelow below f others)
          (λ f h others shape held solution. h others (subst (λ (x : Program). Fits d x others) (sym own) (shape, held)) (subst (λ (x : Program). MeetsAll (length (constraints x)) (AsksAt d x) others) (sym own) (meets_of d p others solution)))
          c.least.ensures.least;
    }
