use Rattle.std.proofs.Common.{◌≡◌, ◌++◌, ◌∷◌, [], OnOk, List, subst, sym, ap}
use Rattle.cc_initialisers.specs.Initialisers.{Step, Visit, initialiser_of}
use Rattle.cc_initialisers.specs.View.{steps_of}
use Rattle.cc_initialisers.proofs.Layers.{initialiser-One}
use Rattle.cc_initialisers.proofs.Started.{visits-begin, visits-next, visits-end}
use Rattle.cc_initialisers.proofs.given.+visits.Goals as goal

pub returns-in-One : goal.returns-in-One
returns-in-One t c =
    let e : (initialiser_of c.args.g.now).visited ≡ Visit c.in-One.e ∷ [] = ap (λ i. i.visited) (initialiser-One c.args.g.now c.in-One.e c.in-One.is) in
    subst (λ (xs : List Step). OnOk c.put.result (steps_of c.put.new.out ≡ steps_of c.args.out.now ++ xs)) (sym e) c.put.ensures

pub loop-g-init : goal.loop-g-init
loop-g-init t c = visits-begin (steps_of c.args.out.now) c.args.g.now c.in-Many.gs c.all-g-items.result.now c.in-Many.is c.all-g-items.ensures

pub loop-g-preserved : goal.loop-g-preserved
loop-g-preserved t c =
    visits-next c.all-g-items.result.now c.loop-g.g-index c.g-item.result (steps_of c.loop-g.out) (steps_of c.visit.new.out) _ c.loop-g-test.true c.g-item.is c.in_ok-visit-in-Many.ensures c.loop-g.invariant

pub returns-after-loop-g : goal.returns-after-loop-g
returns-after-loop-g t c = visits-end c.all-g-items.result.now c.loop-g.g-index (steps_of c.loop-g.out) _ c.loop-g-test.false c.loop-g.invariant
