use Rattle.std.proofs.Common.{map, ◌||◌}
use Rattle.cc_syntax.specs.Effects.{all_assigned, effects_of}
use Rattle.cc_eval.specs.View.{context_of, later_of}
use Rattle.cc_eval.proofs.EffectLinks.{or-taken, or-passed, either-same, behind-step, both-step, all-step}
use Rattle.cc_eval.proofs.effects.+is_later.Goals as goal

pub returns-then-is_assigned : goal.returns-then-is_assigned
returns-then-is_assigned t c =
    let at = context_of c.args.c.now in
    let f = c.args.c.now.func.now in
    let r = c.args.register in
    or-taken c.is_assigned.result ((effects_of f c.in-Behind.e.now).assigned r) (later_of at c.in-Behind.more.now r) _ c.is_assigned.ensures c.if-is_assigned.true
    (behind-step at c.args.later.now c.in-Behind.e c.in-Behind.more r c.in-Behind.is)

pub returns-else-is_assigned : goal.returns-else-is_assigned
returns-else-is_assigned t c =
    let at = context_of c.args.c.now in
    let f = c.args.c.now.func.now in
    let r = c.args.register in
    or-passed c.is_assigned.result ((effects_of f c.in-Behind.e.now).assigned r) (later_of at c.in-Behind.more.now r) _ _ c.is_assigned.ensures c.if-is_assigned.false
    (behind-step at c.args.later.now c.in-Behind.e c.in-Behind.more r c.in-Behind.is) c.is_later.ensures

pub returns-then-either : goal.returns-then-either
returns-then-either t c =
    let at = context_of c.args.c.now in
    let f = c.args.c.now.func.now in
    let r = c.args.register in
    or-taken c.either.result ((effects_of f c.in-BothBehind.a.now).assigned r || (effects_of f c.in-BothBehind.b.now).assigned r) (later_of at c.in-BothBehind.more.now r) _
    (either-same c.either.result c.is_assigned-in-BothBehind.result c.is_assigned-in-BothBehind-2.result ((effects_of f c.in-BothBehind.a.now).assigned r) ((effects_of f c.in-BothBehind.b.now).assigned r) c.either.ensures c.is_assigned-in-BothBehind.ensures c.is_assigned-in-BothBehind-2.ensures) c.if-either.true
    (both-step at c.args.later.now c.in-BothBehind.a c.in-BothBehind.b c.in-BothBehind.more r c.in-BothBehind.is)

pub returns-else-either : goal.returns-else-either
returns-else-either t c =
    let at = context_of c.args.c.now in
    let f = c.args.c.now.func.now in
    let r = c.args.register in
    or-passed c.either.result ((effects_of f c.in-BothBehind.a.now).assigned r || (effects_of f c.in-BothBehind.b.now).assigned r) (later_of at c.in-BothBehind.more.now r) _ _
    (either-same c.either.result c.is_assigned-in-BothBehind.result c.is_assigned-in-BothBehind-2.result ((effects_of f c.in-BothBehind.a.now).assigned r) ((effects_of f c.in-BothBehind.b.now).assigned r) c.either.ensures c.is_assigned-in-BothBehind.ensures c.is_assigned-in-BothBehind-2.ensures) c.if-either.false
    (both-step at c.args.later.now c.in-BothBehind.a c.in-BothBehind.b c.in-BothBehind.more r c.in-BothBehind.is) c.is_later-else-either.ensures

pub returns-then-is_one_assigned : goal.returns-then-is_one_assigned
returns-then-is_one_assigned t c =
    let at = context_of c.args.c.now in
    let f = c.args.c.now.func.now in
    let r = c.args.register in
    or-taken c.is_one_assigned.result (all_assigned (map (effects_of f) c.in-AllBehind.es.now) r) (later_of at c.in-AllBehind.more.now r) _ c.is_one_assigned.ensures c.if-is_one_assigned.true
    (all-step at c.args.later.now c.in-AllBehind.es c.in-AllBehind.more r c.in-AllBehind.is)

pub returns-else-is_one_assigned : goal.returns-else-is_one_assigned
returns-else-is_one_assigned t c =
    let at = context_of c.args.c.now in
    let f = c.args.c.now.func.now in
    let r = c.args.register in
    or-passed c.is_one_assigned.result (all_assigned (map (effects_of f) c.in-AllBehind.es.now) r) (later_of at c.in-AllBehind.more.now r) _ _ c.is_one_assigned.ensures c.if-is_one_assigned.false
    (all-step at c.args.later.now c.in-AllBehind.es c.in-AllBehind.more r c.in-AllBehind.is) c.is_later-else-is_one_assigned.ensures
