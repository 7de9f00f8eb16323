-- By the static objects and the stack.
use Rattle.std.proofs.Common.{List, Some, true, false, ap, sym, ◌∙◌, subst}
use Rattle.std.specs.Prelude.{◌↔◌, IsTrue, Vec}
use Rattle.std.specs.declared.alloc.Global.{Global}
use Rattle.std.proofs.lemmas.Result.{IfOk-weaker}
use Rattle.cc_cells.specs.Cells.{cells_of}
use Rattle.cc_meaning.specs.View.{state_of}
use Rattle.cc_program.specs.declared.value.Value.{Value}
use Rattle.cc_proof_covers.specs.Covers.{AreStaticsIn}
use Rattle.cc_state.specs.View.{view}
use Rattle.cc_state_reads.specs.CcStateFacts.declared.facts.Key.{Key}
use Rattle.cc_state_holds.proofs.Activity.{other_statics, by_stack}
use Rattle.cc_state_holds.proofs.lies.holds.Goals as goal
use Rattle.cc_state_holds.specs.Parts.{IsStackIn}
use Rattle.cc_state_reads.specs.CcStateOperators.Domains.{domain}
use Rattle.cc_state_scalars.specs.Listed.{AreStaticKeys}
use Rattle.cc_steps.specs.declared.activation.Activation.{Activation}
use Rattle.cc_steps.specs.View.{actives_of}
use Rattle.cc_state_reads.proofs.CcSyntax.NameRules.{sound-typed}

pub tracked-requires : goal.tracked-requires
tracked-requires g c = sound-typed c.args.m.now.program.now c.requires.normal.sound

pub static_keys-requires : goal.static_keys-requires
static_keys-requires g c = sound-typed c.args.m.now.program.now c.requires.normal.sound

pub are_statics_in-requires-clause-keys : goal.are_statics_in-requires-clause-keys
are_statics_in-requires-clause-keys g c = c.requires.shape.keys

pub are_statics_in-requires-clause-objects : goal.are_statics_in-requires-clause-objects
are_statics_in-requires-clause-objects g c = subst (λ (ks : List (List Key)). AreStaticKeys c.args.m.now.program.now c.args.m.now.program.now.objects ks) (sym c.all.ensures) c.in_ok-objects.ensures

pub is_stack_in-requires : goal.is_stack_in-requires
is_stack_in-requires g c = record {
  normal = c.requires.normal;
  flow = c.requires.flow;
  shape = c.requires.shape;
  tracked = c.deref.ensures.value ∙ c.in_ok-tracked.ensures;
  objects = subst (λ (ks : List (List Key)). AreStaticKeys c.args.m.now.program.now c.args.m.now.program.now.objects ks) (sym c.all.ensures) c.in_ok-objects.ensures;
}

pub returns-then-not-are_statics_in : goal.returns-then-not-are_statics_in
returns-then-not-are_statics_in g c =
    let d = domain g.I.Concrete.Has g.I.Lattice.IsBelow g.I.IntDomain.OpGives g.I.IntDomain.OpOneGives g.I.IntDomain.ToGives g.I.IntDomain.KeepGives g.I.IntDomain.members_of in
    let p = c.args.m.now.program.now in
    other_statics d p c.args.facts.now (state_of c.args.m.now) (subst (λ (ss : List (Vec Value Global)). IsTrue false ↔ AreStaticsIn p (view d p c.args.facts.now) (cells_of ss)) c.deref-2.ensures.value c.if-not-are_statics_in.ensures)

pub returns : goal.returns
returns g c =
    let d = domain g.I.Concrete.Has g.I.Lattice.IsBelow g.I.IntDomain.OpGives g.I.IntDomain.OpOneGives g.I.IntDomain.ToGives g.I.IntDomain.KeepGives g.I.IntDomain.members_of in
    let p = c.args.m.now.program.now in
    let s = state_of c.args.m.now in
    IfOk-weaker c.is_stack_in.result _ _
    (λ yes k.
    by_stack d p c.args.facts.now s yes (subst (λ (ss : List (Vec Value Global)). IsTrue true ↔ AreStaticsIn p (view d p c.args.facts.now) (cells_of ss)) c.deref-2.ensures.value c.if-not-are_statics_in.ensures)
    (subst (λ (stack : List Activation). IsTrue yes ↔ IsStackIn d p c.args.facts.now (Some s.memory.flag) s.memory (actives_of stack)) c.deref-4.ensures.value (k s.memory (ap cells_of (sym c.deref-3.ensures.value)))))
    c.is_stack_in.ensures
