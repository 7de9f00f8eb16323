use Rattle.std.proofs.Common.{◌≡◌, ◌<◌, List, [], ◌∷◌, ◌++◌, length, drop, arith, ap, ◌∙◌}
use Rattle.std.proofs.lemmas.Bool.Decides.{nat_tests}
use Rattle.cc_control.specs.declared.phase.Phase.{Phase}
use Rattle.cc_control.specs.Control.{Level, level, bodies, close}
use Rattle.cc_control.specs.View.{left_of, levels_of}
use Rattle.cc_control.proofs.LevelLemmas.{levels_of-push}
use Rattle.cc_control.proofs.Begun.{first_and_rest, depth_falls, list_enters, list_stands}
use Rattle.cc_control.proofs.begin.begin.Goals as goal

pub returns-then-is_empty : goal.returns-then-is_empty
returns-then-is_empty c =
    let list = c.loop-inside.inside.list.now in
    let e = first_and_rest list c.s-item.result c.s-item.is c.loop-inside.invariant.0 in
    let none : length c.opening-inner.result.now ≡ 0 = grind (arith, nat_tests, c.is_empty.ensures, c.if-is_empty.true) in
    ap (λ (p : Phase). (level (left_of c.loop-inside.inside) c.loop-inside.at p, levels_of c.loop-inside.levels.items)) c.first_phase.ensures
    ∙ list_stands c.s-item.result list c.opening-inner.result.now (drop 1 list) c.loop-inside.inside.cases.now c.loop-inside.at (levels_of c.loop-inside.levels.items) e c.opening-inner.ensures none
    ∙ c.loop-inside.invariant.1

pub loop-inside-smaller : goal.loop-inside-smaller
loop-inside-smaller c =
    let list = c.loop-inside.inside.list.now in
    let e = first_and_rest list c.s-item.result c.s-item.is c.loop-inside.invariant.0 in
    let some : 0 < length c.opening-inner.result.now = grind (arith, nat_tests, c.is_empty.ensures, c.if-is_empty.false) in
    depth_falls c.s-item.result (drop 1 list) list c.opening-inner.result.now e c.opening-inner.ensures some

pub loop-inside-preserved : goal.loop-inside-preserved
loop-inside-preserved c =
    let list = c.loop-inside.inside.list.now in
    let around = levels_of c.loop-inside.levels.items in
    let inner = c.opening-inner.result.now in
    let e = first_and_rest list c.s-item.result c.s-item.is c.loop-inside.invariant.0 in
    let some : 0 < length inner = grind (arith, nat_tests, c.is_empty.ensures, c.if-is_empty.false) in
    let pushed = ap levels_of c.in_ok-push.ensures.items
    ∙ levels_of-push c.loop-inside.levels.items _
    ∙ ap (λ (p : Phase). level (left_of c.loop-inside.inside) c.loop-inside.at p ∷ around) c.behind_body.ensures in (
      some,
      ap (λ (ls : List Level). close (inner ++ bodies []) 0 ls) pushed
          ∙ list_enters c.s-item.result list inner (drop 1 list) c.loop-inside.inside.cases.now c.loop-inside.at around e c.opening-inner.ensures some
          ∙ c.loop-inside.invariant.1,
    )
