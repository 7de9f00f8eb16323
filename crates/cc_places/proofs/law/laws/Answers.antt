-- Each law is a lemma of its own.
use Rattle.std.proofs.Common.{◌≡◌, false, ⊎_elim}
use Rattle.cc_places.specs.declared.addrs.Addrs.{Addrs}
use Rattle.cc_places.specs.Sets.{HasAddress, IsWithin, IsSetOf}
use Rattle.cc_places.specs.laws.SetLaws.{coarser, set_joins, set_of_itself, sets_same, set_within, room_falls, elements_of_80}
use Rattle.cc_places.proofs.law.laws.Goals as goal

one_set : (x y : Addrs) → IsSetOf (HasAddress x) y → x ≡ y
one_set x y h = sets_same x y (set_within (HasAddress x) x y (set_of_itself x) h) (set_within (HasAddress x) y x h (set_of_itself x))

not_exact : (x y : Addrs) → IsWithin x y → x.is_exact ≡ false → y.is_exact ≡ false
not_exact x y f e = ⊎_elim (λ h. cc) (λ h. h) (coarser x y f)

pub returns : goal.returns
returns c = record {
  one_set = one_set;
  join = set_joins;
  coarser = not_exact;
  room = room_falls;
  elements = elements_of_80;
}
