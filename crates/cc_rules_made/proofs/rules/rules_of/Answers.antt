use Rattle.std.proofs.Common.{arith, List, length, map, refl, ap, sym, subst, ◌∙◌}
use Rattle.std.specs.List.{AllZip}
use Rattle.cc_program.specs.declared.func.Func.{Func}
use Rattle.cc_rules_asked.specs.CcRegisters.Kept.{AreKept}
use Rattle.cc_rules_asked.specs.Handlers.{AreHandlersOf}
use Rattle.cc_rules_functions.specs.Functions.{AreFunctionsOf}
use Rattle.cc_rules_made.proofs.rules.rules_of.Goals as goal
use Rattle.cc_rules_asked.specs.CcStateFacts.declared.facts.Key.TheVariants as key
use Rattle.cc_rules_asked.proofs.CcStateKeys.Typed.{few-funcs, few-locals}
use Rattle.cc_rules_asked.specs.CcStateKeys.Keys.{key_number}

pub functions_of-requires : goal.functions_of-requires
functions_of-requires c = record {
  flow = c.requires.flow;
  few = c.requires.few;
  few_functions = few-funcs c.args.program.now c.requires.typed;
  few_locals = few-locals c.args.program.now c.requires.typed;
}

pub handlers_of-requires : goal.handlers_of-requires
handlers_of-requires c = record {
  functions = subst (AreFunctionsOf c.args.program.now) (sym c.deref-2.ensures.value) c.in_ok-functions.ensures;
  few =
      let few = few-funcs c.args.program.now c.requires.typed in
      let count = c.in_ok-functions.ensures.count in
      omega (arith, ap length c.deref-2.ensures.value, count, few);
}

pub returns : goal.returns
returns c = record {
  program = refl;
  flow = c.requires.flow;
  tracked = c.of.ensures ∙ c.in_ok-tracked.ensures;
  cell_keys = c.of-2.ensures ∙ (c.in_ok-cell_keys.ensures ∙ ap (map (λ i. key_number c.args.program.now (key.Object i))) (c.deref.ensures.value ∙ c.in_ok-tracked.ensures));
  functions = subst (AreFunctionsOf c.args.program.now) (sym c.of-3.ensures) c.in_ok-functions.ensures;
  handlers = subst (AreHandlersOf c.args.program.now) (sym c.of-4.ensures) c.in_ok-handlers.ensures;
  marks =
      subst (AllZip AreKept c.args.program.now.funcs) (sym c.of-5.ensures) (subst (λ (fs : List Func). AllZip AreKept fs c.in_ok-marks.marks.items) c.all-funcs.ensures c.in_ok-marks.ensures);
}
