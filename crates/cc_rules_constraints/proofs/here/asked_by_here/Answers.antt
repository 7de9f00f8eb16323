use Rattle.std.proofs.Common.{arith, sym, subst}
use Rattle.std.specs.List.{AllZip}
use Rattle.std.proofs.lemmas.Result.{IfOk-weaker}
use Rattle.cc_rules_asked.specs.CcRegisters.Kept.{AreKept}
use Rattle.cc_rules_calls.specs.Backs.{gets, MayGetHere}
use Rattle.cc_rules_calls.specs.Here.{MayCallHere}
use Rattle.cc_rules_constraints.proofs.here.asked_by_here.Goals as goal
use Rattle.cc_rules_constraints.specs.Asking.{IsAskedHere}
use Rattle.cc_rules_asked.specs.CcRulesFlows.Acts.{Act}
use Rattle.cc_rules_asked.specs.CcRulesFlows.View.{act_view}
use Rattle.cc_rules_numbered.specs.Numbered.{rule_view}
use Rattle.cc_rules_onward.specs.Fits.{FitTests}
use Rattle.cc_rules_asked.proofs.CcStateKeys.Typed.{few-locals}
use Rattle.cc_rules_asked.specs.CcStateOperators.Domains.{domain}
use Rattle.cc_rules_asked.proofs.CcSyntax.NameRules.{sound-typed}

pub act_here-act-requires : goal.act_here-act-requires
act_here-act-requires g c = record {
  marks = subst (AllZip AreKept c.args.here.now.context.program.now.funcs) (sym c.all-marks.ensures) c.requires.rules.marks;
  normal = c.requires.normal;
  shape = c.requires.shape;
  here = c.requires.here;
  point = c.requires.point;
}

pub asked_here-requires : goal.asked_here-requires
asked_here-requires g c = record {
  shape = c.requires.shape;
  point = c.requires.point;
  is = c.requires.here;
  made = c.requires.rules;
  pure = c.act_here-act.ensures.pure;
  may = c.act_here-act.ensures.may;
  tests = subst (FitTests (domain g.I.Concrete.Has g.I.Lattice.IsBelow g.I.IntDomain.OpGives g.I.IntDomain.OpOneGives g.I.IntDomain.ToGives g.I.IntDomain.KeepGives g.I.IntDomain.members_of) c.args.here.now) (sym c.act_here-act.ensures.is) (c.laws-2.ensures.tests c.args.here.now c.requires.normal c.requires.shape (let few = c.requires.few in omega (arith, few)) c.requires.here c.requires.point);
  calls = subst (MayCallHere (domain g.I.Concrete.Has g.I.Lattice.IsBelow g.I.IntDomain.OpGives g.I.IntDomain.OpOneGives g.I.IntDomain.ToGives g.I.IntDomain.KeepGives g.I.IntDomain.members_of) c.args.here.now) (sym c.act_here-act.ensures.is) (c.laws.ensures.calls c.args.here.now c.requires.normal c.requires.shape c.requires.here c.requires.point);
  results = λ h f at. subst (λ (act : Act). MayGetHere (domain g.I.Concrete.Has g.I.Lattice.IsBelow g.I.IntDomain.OpGives g.I.IntDomain.OpOneGives g.I.IntDomain.ToGives g.I.IntDomain.KeepGives g.I.IntDomain.members_of) c.args.here.now (gets act) h f) (sym c.act_here-act.ensures.is)
      (c.laws.ensures.results c.args.here.now c.requires.normal c.requires.shape c.requires.point c.args.rules.now.functions c.requires.rules.functions h f at);
  few_keys = c.requires.few_keys;
  few_locals = few-locals c.args.here.now.context.program.now (sound-typed c.args.here.now.context.program.now c.requires.normal.sound);
}

pub returns : goal.returns
returns g c =
    IfOk-weaker c.asked_here.result (λ list. IsAskedHere (domain g.I.Concrete.Has g.I.Lattice.IsBelow g.I.IntDomain.OpGives g.I.IntDomain.OpOneGives g.I.IntDomain.ToGives g.I.IntDomain.KeepGives g.I.IntDomain.members_of) c.args.here.now (rule_view c.args.rule) (act_view c.act_here-act.result) list.items) _
    (λ list h. subst (λ (act : Act). IsAskedHere (domain g.I.Concrete.Has g.I.Lattice.IsBelow g.I.IntDomain.OpGives g.I.IntDomain.OpOneGives g.I.IntDomain.ToGives g.I.IntDomain.KeepGives g.I.IntDomain.members_of) c.args.here.now (rule_view c.args.rule) act list.items) c.act_here-act.ensures.is h) c.asked_here.ensures
