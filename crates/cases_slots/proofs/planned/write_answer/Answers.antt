use Rattle.std.proofs.Common.{rules}
use Rattle.cases_slots.proofs.planned.write_answer.Goals as goal
use Rattle.cc_syntax.proofs.StructureLemmas.{sound_sizes}
use Rattle.cc_syntax.specs.Normal.{IsNormal}

pub ram-requires : goal.ram-requires
ram-requires c =
    let normal : IsNormal c.args.p.now = search rules in
    sound_sizes c.args.p.now normal.sound
