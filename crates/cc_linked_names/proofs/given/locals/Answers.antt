use Rattle.std.proofs.Common.{◌≡◌, ◌∙◌, ◌++◌, [], ◌∷◌, get_or, map, ap, refl, sym, subst, append_assoc}
use Rattle.std.proofs.lemmas.List.{append-nil}
use Rattle.cc_linked_names.proofs.Giving.{names_in, names_in_more, locals_more, locals_end}
use Rattle.cc_linked_names.specs.Given.{locals_for}
use Rattle.cc_names.specs.Holds.{Holds}
use Rattle.cc_names.specs.Names.{names_for}
use Rattle.cc_names.specs.View.{wishes_of}
use Rattle.cc_things.specs.View.{thing_view}
use Rattle.cc_linked_names.proofs.given.locals.Goals as goal

pub loop-number-init : goal.loop-number-init
loop-number-init c =
    let ts = map thing_view c.args.things.now in
    let e = c.new-locals.ensures.items in
    λ r g had h k. (
      subst (λ l. Holds c.args.taken.now r (g ++ names_in l)) (sym e) (subst (Holds c.args.taken.now r) (sym (append-nil g)) h),
      subst (λ l. locals_for ts r had g c.args.functions.now ≡ l ++ locals_for ts r had (g ++ names_in l) c.args.functions.now) (sym e)
          (ap (λ l. locals_for ts r had l c.args.functions.now) (sym (append-nil g))),
    )

pub loop-number-preserved : goal.loop-number-preserved
loop-number-preserved c =
    let ts = map thing_view c.args.things.now in
    let functions = c.args.functions.now in
    let i = c.loop-number.number-index in
    let k = get_or functions i 0 in
    let before = c.loop-number.locals.items in
    let names = c.in_ok-names.names.items in
    let all : c.push.new.self.items ≡ before ++ (k, names) ∷ [] = c.in_ok-push.ensures.items ∙ ap (λ v. before ++ (k, v) ∷ []) c.of.ensures in
    λ r g had h same.
    let told = c.loop-number.invariant r g had h same in (
      subst (Holds c.inner_names_for.new.taken r) (append_assoc g (names_in before) names ∙ ap (λ l. g ++ l) (sym (names_in_more before (k, names)) ∙ ap names_in (sym all)))
          (c.in_ok-names.ensures.taken r (g ++ names_in before) told.0),
      locals_more ts r had g functions i k before c.push.new.self.items names c.loop-number-test.true refl
          (c.in_ok-names.ensures.names r (g ++ names_in before) had told.0 same ∙ ap (names_for r (g ++ names_in before) had) (ap wishes_of c.as_slice.ensures.value ∙ c.in_ok-wishes.ensures))
          all told.1,
    )

pub returns : goal.returns
returns c =
    let ts = map thing_view c.args.things.now in
    λ r g had h same.
    sym (locals_end ts r had g c.args.functions.now c.loop-number.number-index c.loop-number.locals.items c.loop-number-test.false (c.loop-number.invariant r g had h same).1)
