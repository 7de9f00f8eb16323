use Rattle.std.proofs.Common.{[], ◌∷◌, ◌++◌, ◌∙◌, ap, subst}
use Rattle.cc_names.specs.Holds.{Holds}
use Rattle.cc_lower_numbers.proofs.Reservations.{four_reserved}
use Rattle.cc_rewrite_names.proofs.reservations.reserve_intrinsics.Goals as goal

pub returns : goal.returns
returns c = λ r h.
    let roles = c.args.roles.now in
    subst (λ l. Holds c.reserve-4.new.self l [])
    (four_reserved r c.all.result.now c.all-2.result.now c.all-3.result.now c.all-4.result.now
    ∙ (ap (λ x. r ++ (x ∷ c.all-2.result.now ∷ c.all-3.result.now ∷ c.all-4.result.now ∷ [])) c.all.ensures
    ∙ (ap (λ x. r ++ (roles.off ∷ x ∷ c.all-3.result.now ∷ c.all-4.result.now ∷ [])) c.all-2.ensures
    ∙ (ap (λ x. r ++ (roles.off ∷ roles.on ∷ x ∷ c.all-4.result.now ∷ [])) c.all-3.ensures
    ∙ ap (λ x. r ++ (roles.off ∷ roles.on ∷ roles.save ∷ x ∷ [])) c.all-4.ensures))))
    (c.in_ok-reserve-4.ensures _ (c.in_ok-reserve-3.ensures _ (c.in_ok-reserve-2.ensures _ (c.in_ok-reserve.ensures r h))))
