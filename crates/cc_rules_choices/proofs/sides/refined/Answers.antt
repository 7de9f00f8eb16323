-- The sets as the test leaves them, put together with what is known.
use Rattle.std.proofs.Common.{◌≡◌, length, true≢false, refl, ap, sym, subst, ◌∙◌}
use Rattle.cc_rules_choices.proofs.Assembled.{all_left, emptied, is_side, like, members}
use Rattle.cc_rules_choices.proofs.Held.{all_held, all_numbered, all_registers, few_registers}
use Rattle.cc_rules_choices.proofs.Kept.{all_keep}
use Rattle.cc_rules_flows.specs.CcRulesNeeds.Flowing.{of_fact}
use Rattle.cc_rules_sides.specs.Refined.{AllKeepAddresses, AreHeld, AreLeft, AreRowsLeft, IsOneEmptied}
use Rattle.cc_rules_tests.specs.Trials.{IsTrialOf}
use Rattle.cc_rules_flows.specs.CcStateFacts.declared.facts.PointFact.{PointFact}
use Rattle.cc_rules_flows.specs.CcStateKeys.Tracked.{registers}
use Rattle.cc_rules_flows.specs.CcStateOperators.Domains.{domain}
use Rattle.cc_rules_flows.specs.CcStateValues.declared.context.Context.{Context}
use Rattle.cc_rules_choices.proofs.sides.refined.Goals as goal

pub left_locals-requires : goal.left_locals-requires
left_locals-requires g c =
    let d = (domain g.I.Concrete.Has g.I.Lattice.IsBelow g.I.IntDomain.OpGives g.I.IntDomain.OpOneGives g.I.IntDomain.ToGives g.I.IntDomain.KeepGives g.I.IntDomain.members_of) in
    let here = c.args.here.now in
    let t = c.args.tested.now in
    record {
      tested = c.requires.tested;
      trial = subst (λ (x : Context g.row.I.Denot). IsTrialOf d x c.args.tested.now.expression.now c.args.trial.now) (sym c.requires.context) c.requires.trial;
      each = ap length c.all-sets.ensures ∙ c.requires.here.each;
      sets = subst (λ sets. AreHeld d t.context.now here.context.registers.now sets) (sym c.all-sets.ensures) (all_held d here c.requires.here t c.requires.context);
    }

pub left_rows-requires : goal.left_rows-requires
left_rows-requires g c =
    let d = (domain g.I.Concrete.Has g.I.Lattice.IsBelow g.I.IntDomain.OpGives g.I.IntDomain.OpOneGives g.I.IntDomain.ToGives g.I.IntDomain.KeepGives g.I.IntDomain.members_of) in
    let here = c.args.here.now in
    let t = c.args.tested.now in
    record {
      tested = c.requires.tested;
      trial = c.left_locals.ensures.trial;
      registers = all_registers d here c.requires.here t c.requires.context;
      few = few_registers d here c.requires.here t c.requires.context;
      cells = all_numbered d here c.requires.here c.requires.may.of;
    }

pub is_one_emptied-requires : goal.is_one_emptied-requires
is_one_emptied-requires g c =
    let d = (domain g.I.Concrete.Has g.I.Lattice.IsBelow g.I.IntDomain.OpGives g.I.IntDomain.OpOneGives g.I.IntDomain.ToGives g.I.IntDomain.KeepGives g.I.IntDomain.members_of) in
    let here = c.args.here.now in
    let t = c.args.tested.now in
    let sets = c.all-sets.result.now in
    let left = c.in_ok-locals.locals.items in
    let slice = c.as_slice.ensures.value in
    let each : length sets ≡ length here.context.registers.now = ap length c.all-sets.ensures ∙ c.requires.here.each in
    record {
      each = each ∙ (sym c.in_ok-locals.ensures.left.each ∙ ap length (sym slice));
      kinds = subst (λ xs. AllKeepAddresses sets xs) (sym slice) (all_keep d t here.context.registers.now sets left each c.in_ok-locals.ensures.left);
    }

pub returns-then-is_one_emptied : goal.returns-then-is_one_emptied
returns-then-is_one_emptied g c =
    let d = (domain g.I.Concrete.Has g.I.Lattice.IsBelow g.I.IntDomain.OpGives g.I.IntDomain.OpOneGives g.I.IntDomain.ToGives g.I.IntDomain.KeepGives g.I.IntDomain.members_of) in
    let here = c.args.here.now in
    let h = c.requires.here in
    let t = c.args.tested.now in
    let same = c.requires.context in
    let fact = here.fact.now in
    let made : PointFact g.row.I.Denot = record fact { locals = c.in_ok-locals.locals.items; rows = c.in_ok-rows.rows.items } in
    let locals : AreLeft d t (registers here.context.func.now) fact.locals made.locals =
    subst (λ rs. AreLeft d t rs fact.locals made.locals) h.registers (subst (λ xs. AreLeft d t here.context.registers.now xs made.locals) c.all-sets.ensures c.in_ok-locals.ensures.left) in
    let gone : IsOneEmptied d fact.locals made.locals =
    subst (λ xs. IsOneEmptied d fact.locals xs) c.as_slice.ensures.value (subst (λ xs. IsOneEmptied d xs c.as_slice.result.now) c.all-sets.ensures (c.is_one_emptied.ensures.0 c.if-is_one_emptied.true)) in
    record {
      trial = subst (λ (x : Context g.row.I.Denot). IsTrialOf d x c.args.tested.now.expression.now c.left_rows.new.trial) same c.left_rows.ensures.trial;
      refined = (of_fact made, is_side d here h t same made refl refl refl locals c.in_ok-rows.ensures.left, emptied d here h t same made refl refl refl locals c.in_ok-rows.ensures.left gone);
      like = tt;
      members = members d here h t same made refl refl refl locals c.in_ok-rows.ensures.left;
    }

pub returns : goal.returns
returns g c =
    let d = (domain g.I.Concrete.Has g.I.Lattice.IsBelow g.I.IntDomain.OpGives g.I.IntDomain.OpOneGives g.I.IntDomain.ToGives g.I.IntDomain.KeepGives g.I.IntDomain.members_of) in
    let here = c.args.here.now in
    let h = c.requires.here in
    let t = c.args.tested.now in
    let same = c.requires.context in
    let fact = here.fact.now in
    let made : PointFact g.row.I.Denot = record { off = fact.off; on = fact.on; locals = c.of-locals.result; rows = c.of-rows.result; same = c.of-same.result } in
    let pairs : made.same ≡ fact.same = c.of-same.ensures ∙ (c.in_ok-pairs.ensures.items ∙ c.all.ensures) in
    let own : AreLeft d t here.context.registers.now fact.locals made.locals =
    subst (λ xs. AreLeft d t here.context.registers.now fact.locals xs) (sym c.of-locals.ensures) (subst (λ xs. AreLeft d t here.context.registers.now xs c.in_ok-locals.locals.items) c.all-sets.ensures c.in_ok-locals.ensures.left) in
    let locals : AreLeft d t (registers here.context.func.now) fact.locals made.locals = subst (λ rs. AreLeft d t rs fact.locals made.locals) h.registers own in
    let rows : AreRowsLeft d t fact fact.rows made.rows = subst (λ xs. AreRowsLeft d t fact fact.rows xs) (sym c.of-rows.ensures) c.in_ok-rows.ensures.left in
    let none : IsOneEmptied d fact.locals made.locals → ⊥ = λ gone.
    let there = subst (λ xs. IsOneEmptied d xs c.as_slice.result.now) (sym c.all-sets.ensures) (subst (λ xs. IsOneEmptied d fact.locals xs) (c.of-locals.ensures ∙ sym c.as_slice.ensures.value) gone) in
    true≢false (sym (c.is_one_emptied.ensures.1 there) ∙ c.if-is_one_emptied.false) in
    record {
      trial = subst (λ (x : Context g.row.I.Denot). IsTrialOf d x c.args.tested.now.expression.now c.left_rows.new.trial) same c.left_rows.ensures.trial;
      refined = (is_side d here h t same made refl refl pairs locals rows, all_left d here h t same made refl refl pairs locals rows g.I.IntDomain.bounds_of g.met.I.IntDomain.bounds_none g.met.I.IntDomain.bounds_ends none);
      like = like d here h t same made refl refl pairs locals rows;
      members = members d here h t same made refl refl pairs locals rows;
    }

pub returns-in_err-locals-clause-trial : goal.returns-in_err-locals-clause-trial
returns-in_err-locals-clause-trial g c = subst (λ (x : Context g.row.I.Denot). IsTrialOf (domain g.I.Concrete.Has g.I.Lattice.IsBelow g.I.IntDomain.OpGives g.I.IntDomain.OpOneGives g.I.IntDomain.ToGives g.I.IntDomain.KeepGives g.I.IntDomain.members_of) x c.args.tested.now.expression.now c.left_locals.new.trial) c.requires.context c.left_locals.ensures.trial

pub returns-in_err-rows-clause-trial : goal.returns-in_err-rows-clause-trial
returns-in_err-rows-clause-trial g c = subst (λ (x : Context g.row.I.Denot). IsTrialOf (domain g.I.Concrete.Has g.I.Lattice.IsBelow g.I.IntDomain.OpGives g.I.IntDomain.OpOneGives g.I.IntDomain.ToGives g.I.IntDomain.KeepGives g.I.IntDomain.members_of) x c.args.tested.now.expression.now c.left_rows.new.trial) c.requires.context c.left_rows.ensures.trial

pub returns-in_err-pairs-clause-trial : goal.returns-in_err-pairs-clause-trial
returns-in_err-pairs-clause-trial g c = subst (λ (x : Context g.row.I.Denot). IsTrialOf (domain g.I.Concrete.Has g.I.Lattice.IsBelow g.I.IntDomain.OpGives g.I.IntDomain.OpOneGives g.I.IntDomain.ToGives g.I.IntDomain.KeepGives g.I.IntDomain.members_of) x c.args.tested.now.expression.now c.left_rows.new.trial) c.requires.context c.left_rows.ensures.trial
