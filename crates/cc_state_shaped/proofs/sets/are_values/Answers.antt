-- By the ends of the set.
use Rattle.std.proofs.Common.{sym, ◌∙◌, refl, subst}
use Rattle.std.specs.Option.{IfSome}
use Rattle.cc_state_reads.specs.CcLattice.Domains.{AreEnds}
use Rattle.cc_state_shaped.proofs.Integers.{both_ends, first_end}
use Rattle.cc_state_shaped.proofs.sets.are_values.Goals as goal

pub returns-in-None : goal.returns-in-None
returns-in-None g c =
    let x = c.args.set.now in
    ((λ t n m. absurd ((g.met.I.IntDomain.bounds_none x).0 (sym c.bounds.ensures ∙ c.in-None.is) n m)), (λ h. refl))

pub returns-then-contains : goal.returns-then-contains
returns-then-contains g c =
    let x = c.args.set.now in
    let low = c.in-Some.low in
    let high = c.in-Some.high in
    let e : AreEnds (g.I.Concrete.Has x) (low, high) = subst (λ b. IfSome b (AreEnds (g.I.Concrete.Has x))) (sym c.bounds.ensures ∙ c.in-Some.is) (g.met.I.IntDomain.bounds_ends x) in
    both_ends (g.I.Concrete.Has x) c.args.t c.args.target.now low high e (g.met.I.IntDomain.in_reach x low e.low_in) (g.met.I.IntDomain.in_reach x high e.high_in) c.contains.result c.contains-then-contains.result c.contains.ensures c.contains-then-contains.ensures c.if-contains.true

pub returns-else-contains : goal.returns-else-contains
returns-else-contains g c =
    let x = c.args.set.now in
    let low = c.in-Some.low in
    let high = c.in-Some.high in
    let e : AreEnds (g.I.Concrete.Has x) (low, high) = subst (λ b. IfSome b (AreEnds (g.I.Concrete.Has x))) (sym c.bounds.ensures ∙ c.in-Some.is) (g.met.I.IntDomain.bounds_ends x) in
    first_end (g.I.Concrete.Has x) c.args.t c.args.target.now low high e (g.met.I.IntDomain.in_reach x low e.low_in) (g.met.I.IntDomain.in_reach x high e.high_in) c.contains.result c.contains.ensures c.if-contains.false
