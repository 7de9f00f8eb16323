use Rattle.std.proofs.Common.{◌≡◌, ◌∙◌, ◌+◌, ◌++◌, [], ◌∷◌, Some, ap}
use Rattle.std.specs.Prelude.{slice_get, map, zip}
use Rattle.cc_lower_numbers.specs.Numbered.{with_name}
use Rattle.cc_lower_numbers.proofs.Pairs.{pairs_more, pairs_short, pairs_end}
use Rattle.cc_lower_numbers.proofs.locals.put_named.Goals as goal

pub returns-in_default : goal.returns-in_default
returns-in_default c =
    let names = c.args.names.now in
    let whole = c.args.out.now.items ++ map with_name (zip names c.args.locals.now) in
    pairs_short with_name names c.args.locals.now whole c.loop-local.local-index c.loop-local.out.items (c.in_default.ensures ∙ ap (slice_get names) c.loop-local.invariant.at) c.loop-local.invariant.done

pub loop-local-preserved : goal.loop-local-preserved
loop-local-preserved c =
    let names = c.args.names.now in
    let whole = c.args.out.now.items ++ map with_name (zip names c.args.locals.now) in
    let done = c.loop-local.out.items in
    let there : Some c.in-Some.name.now ≡ slice_get names c.loop-local.local-index = c.in-Some.ensures ∙ ap (slice_get names) c.loop-local.invariant.at in
    let all : c.push.new.self.items ≡ done ++ with_name (c.in-Some.name.now, c.local-item.result) ∷ [] = c.in_ok-push.ensures.items ∙ ap (λ v. done ++ v ∷ []) c.in_ok-named.ensures in
    record {
      at = ap (λ n. n + 1) c.loop-local.invariant.at;
      done = pairs_more with_name names c.args.locals.now whole c.loop-local.local-index c.in-Some.name.now c.local-item.result done c.push.new.self.items there c.loop-local-test.true c.local-item.is c.loop-local.invariant.done all;
    }

pub returns : goal.returns
returns c =
    let names = c.args.names.now in
    pairs_end with_name names c.args.locals.now (c.args.out.now.items ++ map with_name (zip names c.args.locals.now)) c.loop-local.local-index c.loop-local.out.items c.loop-local-test.false c.loop-local.invariant.done
