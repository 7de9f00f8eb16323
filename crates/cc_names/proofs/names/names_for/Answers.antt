use Rattle.std.proofs.Common.{◌≡◌, ◌∙◌, ◌++◌, ◌+◌, [], ◌∷◌, drop, ap, sym, subst, append_assoc}
use Rattle.std.proofs.lemmas.List.{append-nil}
use Rattle.cc_names.specs.Holds.{Holds}
use Rattle.cc_names.specs.Names.{is_among, names_for}
use Rattle.cc_names.specs.View.{wishes_of}
use Rattle.cc_names.proofs.Takings.{same-with}
use Rattle.cc_names.proofs.Wishes.{wished-same, wishes-next, wishes-done, names-next, names-none, names-start}
use Rattle.cc_names.proofs.names.names_for.Goals as goal

pub loop-wish-init : goal.loop-wish-init
loop-wish-init c =
    let e = c.new-names.ensures.items in
    record {
      taken = λ r g h. subst (λ l. Holds c.args.taken.now r (g ++ l)) (sym e) (subst (Holds c.args.taken.now r) (sym (append-nil g)) h);
      space = λ had h x. h x ∙ ap (is_among x) (sym (append-nil had) ∙ ap (λ l. had ++ l) (sym e));
      names = λ r g had h k. subst (λ l. names_for r g had (wishes_of c.args.wishes.now) ≡ l ++ names_for r (g ++ l) (had ++ l) (wishes_of c.args.wishes.now)) (sym e) (names-start r g had (wishes_of c.args.wishes.now));
    }

pub loop-wish-preserved : goal.loop-wish-preserved
loop-wish-preserved c =
    let done = c.loop-wish.names.items in
    let x = c.in_ok-name.name in
    let p : c.push.new.self.items ≡ done ++ x ∷ [] = c.in_ok-push.ensures.items in
    record {
      taken = λ r g h. subst (Holds c.next_name.new.taken r) (append_assoc g done (x ∷ []) ∙ ap (λ l. g ++ l) (sym p)) (c.in_ok-name.ensures.taken r (g ++ done) (c.loop-wish.invariant.taken r g h));
      space = λ had h y. ap (is_among y) c.in_ok-name.ensures.space ∙ (same-with c.loop-wish.space (had ++ done) x (c.loop-wish.invariant.space had h) y ∙ ap (is_among y) (append_assoc had done (x ∷ []) ∙ ap (λ l. had ++ l) (sym p)));
      names = λ r g had h k.
          c.loop-wish.invariant.names r g had h k
          ∙ (ap (λ ws. done ++ names_for r (g ++ done) (had ++ done) ws) (wishes-next c.args.wishes.now c.loop-wish.wish-index _ c.loop-wish-test.true)
          ∙ (names-next r g had done _ (wishes_of (drop (c.loop-wish.wish-index + 1) c.args.wishes.now)) x (c.in_ok-name.ensures.name r (g ++ done) (had ++ done) (c.loop-wish.invariant.taken r g h) (c.has_wished-is_there.ensures ∙ wished-same c.loop-wish.space (had ++ done) _ (c.loop-wish.invariant.space had k)))
          ∙ ap (λ l. l ++ names_for r (g ++ l) (had ++ l) (wishes_of (drop (c.loop-wish.wish-index + 1) c.args.wishes.now))) (sym p)));
    }

pub returns-clause-names : goal.returns-clause-names
returns-clause-names c =
    let done = c.loop-wish.names.items in
    λ r g had h k. sym (c.loop-wish.invariant.names r g had h k
    ∙ (ap (λ ws. done ++ names_for r (g ++ done) (had ++ done) ws) (wishes-done c.args.wishes.now c.loop-wish.wish-index c.loop-wish-test.false)
    ∙ (ap (λ l. done ++ l) (names-none r (g ++ done) (had ++ done)) ∙ append-nil done)))
