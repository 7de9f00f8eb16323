-- The point is one alone, and the sets are those of its registers.
use Rattle.std.proofs.Common.{refl, sym, ap, ◌∙◌, slice_get}
use Rattle.std.specs.Option.{option_copied}
use Rattle.std.proofs.lemmas.Option.{same_Some}
use Rattle.cc_flow_sound.specs.CcFlow.declared.types.Flow.{Flow}
use Rattle.cc_flow_sound.specs.CcFlow.declared.types.Point.{Point}
use Rattle.cc_state.proofs.Sets.{sets_there}
use Rattle.cc_state.proofs.points.context_at.Goals as goal

pub returns : goal.returns
returns g c =
    let w = c.requires.there in
    let q = c.in-Some.q.now in
    record {
      point = w.0;
      there = w.1;
      program = refl;
      id = ap (λ (z : Point). z.func) (same_Some q w.0 (sym (ap option_copied c.in-Some.is) ∙ (c.at.ensures ∙ (ap (λ ps. slice_get ps c.args.point) (c.all.ensures ∙ ap (λ (z : Flow). z.points) c.requires.flow) ∙ w.1.numbered))));
      func = refl;
      sets = sets_there c.args.facts.now c.args.point c.args.func.now c.args.registers.now c.sets_at.result.now c.requires.registers c.sets_at.ensures;
    }
