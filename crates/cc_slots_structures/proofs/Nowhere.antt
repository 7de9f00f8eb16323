-- One more of those that stand nowhere.
use Rattle.std.proofs.Common.{◌≡◌, ◌+◌, ℕ, false, List, [], ◌∷◌, ◌++◌, refl, sym, subst}
use Rattle.std.proofs.lemmas.Option.{none-some}
use Rattle.cc_slots_structures.specs.declared.standing.Standing.{Standing}
use Rattle.cc_slots_structures.specs.Added.{AreNowhere}
use Rattle.cc_slots_structures.proofs.Pushed.{each_more, one_more}

pub first_nowhere : (list : List Standing) → list ≡ [] → AreNowhere 0 list
first_nowhere list e = subst (AreNowhere 0) (sym e) (record {
  many = refl;
  copies = λ s place there. absurd (none-some place there);
  is_open = λ s place there. absurd (none-some place there);
  is_automatic = λ s place there. absurd (none-some place there);
})

pub more_nowhere : (n : ℕ) (list new : List Standing) (x : Standing) → new ≡ list ++ x ∷ [] → x.copies ≡ 0 → x.is_open ≡ false → x.is_automatic ≡ false → AreNowhere n list → AreNowhere (n + 1) new
more_nowhere n list new x e copies opened automatic h = record {
  many = one_more list new x n e h.many;
  copies = each_more (λ s (place : Standing). place.copies ≡ 0) list x new n e h.many h.copies copies;
  is_open = each_more (λ s (place : Standing). place.is_open ≡ false) list x new n e h.many h.is_open opened;
  is_automatic = each_more (λ s (place : Standing). place.is_automatic ≡ false) list x new n e h.many h.is_automatic automatic;
}
