use Rattle.std.proofs.Common.{rules, length}
use Rattle.cases_facts.proofs.sources.lowered_program.Goals as goal
use Rattle.cc_syntax.proofs.StructureLemmas.{structures_sized}
use Rattle.cc_syntax.specs.Sound.{IsSound}

pub lower-requires : goal.lower-requires
lower-requires c =
    let sound : IsSound c.in_ok-p.p = search rules in
    record { sized = structures_sized (length c.in_ok-p.p.structures) c.in_ok-p.p.target c.in_ok-p.p.structures sound.structures }
