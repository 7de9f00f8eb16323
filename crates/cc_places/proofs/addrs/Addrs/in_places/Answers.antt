-- The members, starred, where there is an object; else the set itself.
use Rattle.std.proofs.Common.{◌≡◌, true, false, List, refl, sym, ◌∙◌, subst}
use Rattle.std.specs.List.{list_any}
use Rattle.cc_program.specs.declared.value.Address.{Address}
use Rattle.cc_places.specs.Kept.{is_object}
use Rattle.cc_places.specs.Members.{are_members}
use Rattle.cc_places.specs.Sets.{AreStarred}
use Rattle.cc_places.proofs.Starring.{places_are, of_places, starred_itself, without_objects}
use Rattle.cc_places.proofs.addrs.Addrs.in_places.Goals as goal

pub invariant_of-result : goal.invariant_of-result
invariant_of-result c = record {
  listed = subst (λ (l : List Address). are_members false l ≡ true) (sym c.of.ensures)
      (places_are c.all-then-has_object.result.now c.in_ok-places.places.items
      (subst (λ (l : List Address). list_any is_object l ≡ true) (c.all.ensures ∙ sym c.all-then-has_object.ensures) (sym c.has_object.ensures ∙ c.if-has_object.true))
      c.in_ok-places.ensures.order c.in_ok-places.ensures.all);
}

pub returns-in_ok-places : goal.returns-in_ok-places
returns-in_ok-places c =
    of_places c.args.self _ c.in_ok-places.places.items c.if-self.true
    (subst (λ (l : List Address). list_any is_object l ≡ true) c.all.ensures (sym c.has_object.ensures ∙ c.if-has_object.true))
    (subst (λ (l : List Address). AreStarred l c.in_ok-places.places.items) c.all-then-has_object.ensures c.in_ok-places.ensures.all) refl c.of.ensures

pub returns-else-has_object : goal.returns-else-has_object
returns-else-has_object c =
    without_objects c.args.self c.if-self.true (subst (λ (l : List Address). list_any is_object l ≡ false) c.all.ensures (sym c.has_object.ensures ∙ c.if-has_object.false))

pub returns-else-self : goal.returns-else-self
returns-else-self c = starred_itself c.args.self c.if-self.false
