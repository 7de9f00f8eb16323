use Rattle.std.proofs.Common.{rules}
use Rattle.cc_typed.specs.CcSyntax.Programs.{IsInitial}
use Rattle.cc_sound.proofs.Decisions.{object_ready, initial_more, initial_all}
use Rattle.cc_sound.proofs.program.are_initial.Goals as goal

pub is_initial-requires-clause-complete : goal.is_initial-requires-clause-complete
is_initial-requires-clause-complete c =
    object_ready c.args.p.now c.all-object-items.result.now c.loop-object.object-index c.object-item.result c.all-object-items.ensures c.requires.sized c.requires.objects c.loop-object-test.true c.object-item.is

pub loop-object-preserved : goal.loop-object-preserved
loop-object-preserved c =
    let h : IsInitial c.args.p.now c.object-item.result.ctype c.object-item.result.init = search rules in
    initial_more c.args.p.now c.all-object-items.result.now c.loop-object.object-index c.object-item.result c.loop-object.invariant c.loop-object-test.true c.object-item.is h

pub returns : goal.returns
returns c = initial_all c.args.p.now c.all-object-items.result.now c.loop-object.object-index c.all-object-items.ensures c.loop-object.invariant c.loop-object-test.false
