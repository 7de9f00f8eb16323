use Rattle.std.proofs.Common.{◌∷◌, [], sym, subst}
use Rattle.std.proofs.lemmas.Result.{IfOk-weaker}
use Rattle.cc_rules_asked.specs.Asked.{needs_of}
use Rattle.cc_rules_lacking.proofs.asked.lacking_of.Goals as goal
use Rattle.cc_rules_lacking.specs.First.{LacksFirst}
use Rattle.cc_rules_asked.specs.CcRulesNeeds.Flowing.{needs_at, of_fact}

pub returns-in-Part : goal.returns-in-Part
returns-in-Part g c =
    IfOk-weaker c.lacking_part.result (λ lacking. LacksFirst g.I.Lattice.IsBelow ((c.in-Part.slot, c.in-Part.part) ∷ []) c.args.facts.now lacking) _
    (λ lacking h p e. subst (λ asked. LacksFirst g.I.Lattice.IsBelow (needs_of p asked) c.args.facts.now lacking) (sym c.in-Part.is) h) c.lacking_part.ensures

pub returns-in-Point : goal.returns-in-Point
returns-in-Point g c =
    IfOk-weaker c.lacking_at.result (λ lacking. LacksFirst g.I.Lattice.IsBelow (needs_at c.in-Point.number c.in-Point.registers c.args.cells (of_fact c.in-Point.flow)) c.args.facts.now lacking) _
    (λ lacking h p e. subst (λ asked. LacksFirst g.I.Lattice.IsBelow (needs_of p asked) c.args.facts.now lacking) (sym c.in-Point.is)
    (subst (λ cells. LacksFirst g.I.Lattice.IsBelow (needs_at c.in-Point.number c.in-Point.registers cells (of_fact c.in-Point.flow)) c.args.facts.now lacking) (sym e) h)) c.lacking_at.ensures
