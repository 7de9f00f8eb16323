-- A set whose form allows it lies in another one where each of its members does.
use Rattle.std.proofs.Common.{◌≡◌, false, true, not, sym, ap, ◌∙◌, subst, inl, inr, ⊎_elim}
use Rattle.std.proofs.lemmas.Bool.{not-true}
use Rattle.std.specs.List.{Contains}
use Rattle.cc_places.specs.laws.KeptLaws.{Coarser}
use Rattle.cc_places.specs.laws.SetLaws.{coarser, members_within, has_member}
use Rattle.cc_places.proofs.addrs_lattice.AddrsLattice.below.Goals as goal
use Rattle.cc_places.proofs.addrs_lattice.AddrsLattice.below.Goals.{then-self, else-self}

not_both : {A : Type 0} → true ≡ false → A
not_both e = cc

pub returns-then-not-other : goal.returns-then-not-other
returns-then-not-other c =
    let x = c.args.self.now in
    let y = c.args.other.now in
    let form : Coarser x.is_exact y.is_exact = elim c.if-self.branch [
      | then-self w ↦ inl w.if-self.true
      | else-self w ↦ inr (not-true y.is_exact (sym w.value-is ∙ c.if-not-other.true))
    ] in (
      (λ e. members_within x y form (λ m k. c.are_in.ensures.0 e m (subst (λ l. Contains l m) (sym c.all.ensures) k))),
      (λ f. c.are_in.ensures.1 (λ m k. f m (has_member x m (subst (λ l. Contains l m) c.all.ensures k)))),
    )

pub returns-else-not-other : goal.returns-else-not-other
returns-else-not-other c =
    let x = c.args.self.now in
    let y = c.args.other.now in (
      (λ e. not_both (sym e ∙ c.if-not-other.false)),
      (λ f. elim c.if-self.branch [
        | then-self w ↦ w.value-is ∙ w.if-self.true
        | else-self w ↦ ⊎_elim (λ e. not_both (sym e ∙ w.if-self.false)) (λ e. w.value-is ∙ ap not e) (coarser x y f)
      ]),
    )
