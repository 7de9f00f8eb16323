use Rattle.std.proofs.Common.{arith, ◌≡◌, ◌++◌, List, append-nil, None, Some, slice_get, sym, ap, ◌∙◌}
use Rattle.std.proofs.lemmas.Option.{slice_get_within}
use Rattle.std.proofs.lemmas.Result.{on_ok_weaker}
use Rattle.cc_rules_again.specs.Again.{point_readers}
use Rattle.cc_rules_readers.specs.declared.deeds.Deed.{Deed}
use Rattle.cc_rules_readers.specs.Points.{own_numbers}
use Rattle.cc_rules_readers.proofs.Exits.{no_readers, its_readers}
use Rattle.cc_rules_readers.proofs.points.put_point_readers.Goals as goal
use Rattle.cc_rules_asked.proofs.CcStateKeys.Grown.{grown}

pub returns-in-None : goal.returns-in-None
returns-in-None c =
    let none : slice_get c.args.index.now.deeds c.args.point ≡ None = ap (λ (ds : List Deed). slice_get ds c.args.point) (sym c.all-deeds.ensures) ∙ sym c.in-None.ensures in
    sym (ap (λ xs. c.args.list.now.items ++ xs) (no_readers c.args.rules.now.program.now c.args.point c.args.index.now.deeds c.requires.index.deeds none) ∙ append-nil c.args.list.now.items)

pub put_own-requires : goal.put_own-requires
put_own-requires c =
    let there : slice_get c.args.index.now.deeds c.args.point ≡ Some c.in-Some.deed.now = ap (λ (ds : List Deed). slice_get ds c.args.point) (sym c.all-deeds.ensures) ∙ sym c.in-Some.ensures in
    let l = slice_get_within c.args.index.now.deeds c.args.point c.in-Some.deed.now there in
    let few = c.requires.index.lists.few in
    omega (arith, l, few)

pub put_behind-requires : goal.put_behind-requires
put_behind-requires c = c.requires.index.lists

pub returns-in_ok-put_own-in-Some : goal.returns-in_ok-put_own-in-Some
returns-in_ok-put_own-in-Some c =
    let there : slice_get c.args.index.now.deeds c.args.point ≡ Some c.in-Some.deed.now = ap (λ (ds : List Deed). slice_get ds c.args.point) (sym c.all-deeds.ensures) ∙ sym c.in-Some.ensures in
    on_ok_weaker c.put_behind.result
    (λ h. grown c.args.list.now.items (own_numbers c.args.point) _ _ _ (point_readers c.args.rules.now.program.now c.args.point) c.in_ok-put_own-in-Some.ensures h
    (its_readers c.args.rules.now.program.now c.args.point c.args.index.now.deeds c.args.rules.now.functions c.in-Some.deed.now c.requires.index.deeds c.requires.rules.functions there))
    c.put_behind.ensures
