-- How much room things have at the most.
use Rattle.std.proofs.Common.{ℕ, ◌*◌, ◌^◌, ◌<◌, ◌≤◌, Bool, true, false, List, [], ◌∷◌, All, length, sum_by, arith}
use Rattle.std.proofs.lemmas.List.Elements.{All-head, All-tail}
use Rattle.std.proofs.lemmas.List.Sums.{sum_by-cons}
use Rattle.cc_places.specs.declared.abs.Abs.{Abs}
use Rattle.cc_places.specs.declared.abs.Abs.TheVariants as abs
use Rattle.cc_places.specs.laws.SetLaws.{room_most}
use Rattle.cc_state_facts.specs.declared.facts.PointFact.{PointFact}
use Rattle.cc_state_facts.specs.declared.facts.Row.{Row}
use Rattle.cc_state_room.specs.Room.{room_of_mark, room_of_set, room_of_row, room_of_point}
use Rattle.cc_state_room.specs.Small.{HasFew, IsSmallRow, IsSmallPoint}

pub sum_most : {A : Type 0} (P : A → Type 0) (r : A → ℕ) (bound : ℕ) → ((x : A) → P x → r x ≤ bound) → (xs : List A) → All P xs → sum_by r xs ≤ bound * length xs
sum_most P r bound each [] h = omega arith
sum_most P r bound each (x ∷ xs) h =
    let k = each x (All-head P x xs h) in
    let l = sum_most P r bound each xs (All-tail P x xs h) in
    let e = sum_by-cons r x xs in
    omega (arith, k, l, e)

pub mark_most : (mark : Bool) → room_of_mark mark ≤ 1
mark_most true = omega arith
mark_most false = omega arith

module _ {I : Type 0} (most : ℕ) (room : I → ℕ) (few : most < 2 ^ 64) (bounded : (x : I) → room x ≤ 2 ^ 70) where
  pub set_most : (y : Abs I) → room_of_set most room y ≤ 2 ^ 70
  set_most (abs.Ints x) = bounded x
  set_most (abs.Addrs s) = let k = room_most most s in omega (arith, k, few)

  row_most : (row : Row I) → IsSmallRow most row → room_of_row most room row ≤ 2 ^ 74
  row_most row h =
      let short = h.short in
      let l = sum_most (HasFew most) (room_of_set most room) (2 ^ 70) (λ y k. set_most y) row.cells h.cells in
      omega (arith, short, l)

  pub point_most : (fact : PointFact I) → IsSmallPoint most fact → room_of_point most room fact < 2 ^ 100
  point_most fact h =
      let a = h.few_locals in
      let b = h.few_rows in
      let c = h.few_pairs in
      let k = sum_most (HasFew most) (room_of_set most room) (2 ^ 70) (λ y k. set_most y) fact.locals h.locals in
      let l = sum_most (IsSmallRow most) (room_of_row most room) (2 ^ 74) row_most fact.rows h.rows in
      let m = mark_most fact.off in
      let n = mark_most fact.on in
      omega (arith, a, b, c, k, l, m, n)
