use Rattle.std.proofs.Common.{◌<◌, ◌^◌, length, map, refl, ap, sym, ◌∙◌, subst}
use Rattle.std.specs.List.{All}
use Rattle.cc_program.specs.declared.func.Func.{Func}
use Rattle.cc_state_reads.proofs.CcStateKeys.Typed.{few-locals}
use Rattle.cc_state_reads.specs.CcStateKeys.Tracked.{registers}
use Rattle.cc_state_shaped.specs.Names.{may_name}
use Rattle.cc_state_shaped.proofs.layout.layout_of.Goals as goal

pub all_registers-requires : goal.all_registers-requires
all_registers-requires c = subst (All (λ (f : Func). length f.locals < 2 ^ 32)) (sym c.all.ensures) (few-locals c.args.p.now c.requires.typed)

pub named_keys-requires : goal.named_keys-requires
named_keys-requires c = c.deref-2.ensures.value ∙ c.in_ok-taken.ensures

pub returns : goal.returns
returns c =
    let p = c.args.p.now in
    record {
      program = refl;
      flow = c.requires.flow;
      keys = c.of.ensures ∙ c.in_ok-keys.ensures;
      taken = c.of-2.ensures ∙ c.in_ok-taken.ensures;
      names = c.of-3.ensures ∙ (c.in_ok-names.ensures ∙ ap (map (may_name p)) (c.deref.ensures.value ∙ c.in_ok-keys.ensures));
      tracked = c.of-4.ensures ∙ c.in_ok-tracked.ensures;
      registers = c.of-5.ensures ∙ (c.in_ok-registers.ensures ∙ ap (map registers) c.all.ensures);
    }
