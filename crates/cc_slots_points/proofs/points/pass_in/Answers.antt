-- The context is that of the point, and its sets are those of its registers.
use Rattle.std.proofs.Common.{refl, ap, sym, ◌∙◌, subst, Option, List, Bool}
use Rattle.std.specs.Prelude.{is_some}
use Rattle.std.specs.Option.{option_copied}
use Rattle.cc_program.specs.declared.func.Func.{Func}
use Rattle.cc_program.specs.declared.program.Program.{Program}
use Rattle.cc_state_points.specs.CcRegisters.Kept.{AreKept}
use Rattle.cc_state_points.specs.CcRulesFlows.Acts.{act_of}
use Rattle.cc_slots_points.specs.Points.{HasPurePlace, IsDone}
use Rattle.cc_slots_points.proofs.Acting.{is_passed}
use Rattle.cc_slots_points.proofs.Tests.{on_ok}
use Rattle.cc_slots_points.proofs.ContextLemmas.{have_sets, of_operands, to_context}
use Rattle.cc_state_points.proofs.CcState.Sets.{normal_sized}
use Rattle.cc_state_points.specs.CcStateFacts.declared.facts.PointFact.{PointFact}
use Rattle.cc_state_points.specs.CcStateKeys.Keys.{keys_of}
use Rattle.cc_state_points.specs.CcStateOperators.Domains.{domain}
use Rattle.cc_state_points.specs.CcSyntax.Sizes.{AreSized}
use Rattle.cc_slots_points.proofs.points.pass_in.Goals as goal

pub pass_statement-passed-requires-clause-sized : goal.pass_statement-passed-requires-clause-sized
pass_statement-passed-requires-clause-sized g c =
    let h = c.context_of-c.ensures c.args.facts.now c.args.point c.fact_at-fact.ensures in
    subst (λ (z : Program). AreSized z.structures z.target) (sym h.program) (normal_sized c.args.p.now c.requires.normal)

pub pass_statement-passed-requires-clause-sets : goal.pass_statement-passed-requires-clause-sets
pass_statement-passed-requires-clause-sets g c =
    let d = domain g.I.Concrete.Has g.I.Lattice.IsBelow g.I.IntDomain.OpGives g.I.IntDomain.OpOneGives g.I.IntDomain.ToGives g.I.IntDomain.KeepGives g.I.IntDomain.members_of in
    let h = c.context_of-c.ensures c.args.facts.now c.args.point c.fact_at-fact.ensures in
    λ reached. have_sets c.args.p.now c.args.facts.now c.args.point c.args.q.now.func c.args.func.now c.context_of-c.result h d c.requires.shape c.args.q.now refl c.requires.there (ap is_some (sym c.fact_at-fact.ensures) ∙ reached)

pub pass_statement-passed-requires-clause-kept : goal.pass_statement-passed-requires-clause-kept
pass_statement-passed-requires-clause-kept g c =
    let h = c.context_of-c.ensures c.args.facts.now c.args.point c.fact_at-fact.ensures in
    subst (λ (l : List Bool). AreKept c.context_of-c.result.func.now l) (sym c.all.ensures) (subst (λ (z : Func). AreKept z c.args.frame.now.kept) (sym h.func) c.requires.frame.kept)

pub pass_statement-passed-requires-clause-pure : goal.pass_statement-passed-requires-clause-pure
pass_statement-passed-requires-clause-pure g c =
    let h = c.context_of-c.ensures c.args.facts.now c.args.point c.fact_at-fact.ensures in
    to_context c.args.p.now c.args.facts.now c.args.point c.args.q.now.func c.args.func.now c.context_of-c.result h (λ x y z. HasPurePlace x z (act_of z c.args.s.now))
    (of_operands c.args.p.now c.requires.normal c.args.point c.args.q.now c.args.func.now c.args.s.now c.requires.there c.requires.stands)

pub pass_statement-passed-requires-clause-keys : goal.pass_statement-passed-requires-clause-keys
pass_statement-passed-requires-clause-keys g c =
    let h = c.context_of-c.ensures c.args.facts.now c.args.point c.fact_at-fact.ensures in
    c.requires.shape.keys ∙ ap keys_of (sym h.program)

pub pass_statement-passed-requires-clause-lists : goal.pass_statement-passed-requires-clause-lists
pass_statement-passed-requires-clause-lists g c = c.requires.lists

pub returns : goal.returns
returns g c =
    let d = domain g.I.Concrete.Has g.I.Lattice.IsBelow g.I.IntDomain.OpGives g.I.IntDomain.OpOneGives g.I.IntDomain.ToGives g.I.IntDomain.KeepGives g.I.IntDomain.members_of in
    let h = c.context_of-c.ensures c.args.facts.now c.args.point c.fact_at-fact.ensures in
    let old = c.args.lists.now in
    let new = c.pass_statement-passed.new.lists in
    on_ok c.pass_statement-passed.result
    (λ done.
    is_passed c.args.p.now c.args.point c.args.q.now c.requires.there.numbered c.args.func.now c.requires.there.function c.args.s.now c.requires.stands d c.args.facts.now c.context_of-c.result h old new
    (subst (λ (x : Option (PointFact g.row.I.Denot)). IsDone d c.context_of-c.result c.args.facts.now x c.args.point (act_of c.args.func.now c.args.s.now) old new) c.fact_at-fact.ensures
    (subst (λ (z : Func). IsDone d c.context_of-c.result c.args.facts.now (option_copied c.fact_at-fact.result) c.args.point (act_of z c.args.s.now) old new) h.func done)))
    c.pass_statement-passed.ensures
