use Rattle.std.proofs.Common.{◌≡◌, ◌∙◌, ◌+◌, ◌++◌, [], ◌∷◌, Some, ap}
use Rattle.std.specs.Prelude.{slice_get}
use Rattle.cc_relocation.specs.Relocated.{local_with}
use Rattle.cc_relocation.proofs.Locals.{pairs_more, pairs_short, pairs_end}
use Rattle.cc_relocation.proofs.parts.relocated_locals.Goals as goal

pub returns-in_default : goal.returns-in_default
returns-in_default c =
    let names = c.args.names.now in
    c.of.ensures ∙ pairs_short (local_with c.args.structures.now) names c.args.locals.now c.loop-local.local-index c.loop-local.relocated.items (c.in_default.ensures ∙ ap (slice_get names) c.loop-local.invariant.at) c.loop-local.invariant.done

pub loop-local-preserved : goal.loop-local-preserved
loop-local-preserved c =
    let s = c.args.structures.now in
    let names = c.args.names.now in
    let done = c.loop-local.relocated.items in
    let there : Some c.in-Some.name.now ≡ slice_get names c.loop-local.local-index = c.in-Some.ensures ∙ ap (slice_get names) c.loop-local.invariant.at in
    let all : c.push.new.self.items ≡ done ++ local_with s (c.in-Some.name.now, c.local-item.result) ∷ [] = c.in_ok-push.ensures.items ∙ ap (λ v. done ++ v ∷ []) c.in_ok-named.ensures in
    record {
      at = ap (λ n. n + 1) c.loop-local.invariant.at;
      done = pairs_more (local_with s) names c.args.locals.now c.loop-local.local-index c.in-Some.name.now c.local-item.result done c.push.new.self.items there c.loop-local-test.true c.local-item.is c.loop-local.invariant.done all;
    }

pub returns : goal.returns
returns c =
    c.of-2.ensures ∙ pairs_end (local_with c.args.structures.now) c.args.names.now c.args.locals.now c.loop-local.local-index c.loop-local.relocated.items c.loop-local-test.false c.loop-local.invariant.done
