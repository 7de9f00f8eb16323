use Rattle.std.proofs.Common.{◌∙◌, refl, rules, ap, sym, ◌++◌, List}
use Rattle.std.proofs.lemmas.List.{append-nil, take_all}
use Rattle.cc_structures.specs.Structures.{known_in}
use Rattle.cc_structures.specs.View.{knowns_of}
use Rattle.cc_unit.specs.declared.unit.UnitStructure.{UnitStructure}
use Rattle.cc_structures.proofs.KnownLemmas.{known, knowns-put}
use Rattle.cc_structures.proofs.known.put_knowns.Goals as goal

pub loop-structure-init : goal.loop-structure-init
loop-structure-init c = record { counted = refl; put = sym (append-nil (knowns_of c.args.knowns.now.items)) }

pub loop-structure-preserved : goal.loop-structure-preserved
loop-structure-preserved c = record {
  counted = search rules;
  put = knowns-put c.args.text c.all-structures.result.now c.loop-structure.structure-index c.structure-item.result _ c.loop-structure.knowns.items c.push.new.self.items (knowns_of c.args.knowns.now.items)
      c.in_ok-push.ensures.items c.loop-structure.invariant.put c.loop-structure-test.true c.structure-item.is (ap (λ p. known c.args.text p c.structure-item.result) c.loop-structure.invariant.counted);
}

pub returns : goal.returns
returns c =
    c.loop-structure.invariant.put
    ∙ (ap (λ (ss : List UnitStructure). knowns_of c.args.knowns.now.items ++ known_in c.args.text 0 ss) (take_all c.loop-structure.structure-index c.all-structures.result.now c.loop-structure-test.false)
    ∙ ap (λ (ss : List UnitStructure). knowns_of c.args.knowns.now.items ++ known_in c.args.text 0 ss) c.all-structures.ensures)
