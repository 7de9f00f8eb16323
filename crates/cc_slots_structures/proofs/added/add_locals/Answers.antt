use Rattle.std.proofs.Common.{◌≤◌, take_all, sym, subst, List}
use Rattle.cc_program.specs.declared.func.Func.{Func}
use Rattle.cc_slots_structures.proofs.ListLemmas.{ForLocals, ForMembers, locals_more, no_locals}
use Rattle.cc_syntax.specs.Types.{Named}
use Rattle.cc_slots_structures.proofs.added.add_locals.Goals as goal

pub add_members-requires : goal.add_members-requires
add_members-requires c = subst (λ n. c.args.first ≤ n) (sym c.loop-f.invariant.count) c.requires

pub loop-f-init : goal.loop-f-init
loop-f-init c = no_locals c.args.first c.args.list.now

pub loop-f-preserved : goal.loop-f-preserved
loop-f-preserved c =
    locals_more c.args.first c.args.funcs.now c.loop-f.f-index c.f-item.result c.of_local.result c.args.list.now c.loop-f.list c.add_members.new.list c.loop-f-test.true c.f-item.is
    c.of_local.ensures.copies c.of_local.ensures.is_open c.of_local.ensures.is_automatic c.loop-f.invariant
    (subst (λ (l : List Named). ForMembers c.args.first c.of_local.result l c.loop-f.list c.add_members.new.list) c.all.ensures c.add_members.ensures)

pub returns : goal.returns
returns c =
    subst (λ (l : List Func). ForLocals c.args.first l c.args.list.now c.loop-f.list) (take_all c.loop-f.f-index c.args.funcs.now c.loop-f-test.false) c.loop-f.invariant
