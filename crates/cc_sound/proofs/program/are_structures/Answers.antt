use Rattle.std.proofs.Common.{rules, ◌≡◌, ◌∙◌, ◌+◌, ◌&&◌, true, ap, sym, length, take, drop}
use Rattle.cc_typed.specs.CcSyntax.Sound.{is_structure, are_structures as are_structures_of}
use Rattle.cc_typed.proofs.CcSyntax.StructureLemmas.{sized_more, structures_from}
use Rattle.cc_sound.proofs.program.are_structures.Goals as goal

pub loop-i-preserved : goal.loop-i-preserved
loop-i-preserved c =
    let ss = c.args.structures.now in
    let n = length ss in
    let t = c.args.target.now in
    let i = c.loop-i.i in
    let s = c.index-structures-i.result in
    let good : is_structure (take i ss) n t s ≡ true = search rules in (
      sized_more n t ss i s c.loop-i-test.true c.index-structures-i.is c.loop-i.invariant.0 good,
      sym (structures_from n t ss i s c.loop-i-test.true c.index-structures-i.is ∙ ap (λ b. b && are_structures_of (take (i + 1) ss) n t (drop (i + 1) ss)) good) ∙ c.loop-i.invariant.1,
    )
