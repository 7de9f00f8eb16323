-- What a test leaves is of the kinds that were there.
use Rattle.std.proofs.Common.{arith, ◌≡◌, ℕ, zero, suc, List, [], ◌∷◌, length, get_or, Some, slice_get, refl, sym, subst, ◌∙◌}
use Rattle.std.specs.List.{AllZip}
use Rattle.std.proofs.lemmas.Option.{slice_get-get_or, slice_get_within}
use Rattle.cc_rules_flows.specs.CcPlaces.Abstract.{AreOfOneKind}
use Rattle.cc_rules_flows.specs.CcPlaces.declared.abs.Abs.{Abs}
use Rattle.cc_rules_flows.specs.CcPlaces.declared.abs.Abs.TheVariants as abs
use Rattle.cc_rules_flows.specs.Kept.{AreAsLong}
use Rattle.cc_rules_flows.specs.Tests.{Alike, Unlike}
use Rattle.cc_rules_sides.specs.Refined.{AllKeepAddresses, AreCellsLeft, AreLeft, AreRowsLeft, IsLeftByIn, KeepsAddresses}
use Rattle.cc_rules_sides.proofs.Emptied.{kept_by_test}
use Rattle.cc_rules_tests.specs.declared.tested.Tested.{Tested}
use Rattle.cc_rules_tests.specs.Tested.{IsLeftAlikeIn}
use Rattle.cc_rules_flows.specs.CcStateFacts.declared.facts.PointFact.{PointFact}
use Rattle.cc_rules_flows.specs.CcStateFacts.declared.facts.Row.{Row}
use Rattle.cc_rules_flows.specs.CcStateFacts.Orders.{AreRowsAlike}
use Rattle.cc_rules_flows.specs.CcStateOperators.Domains.{Domain}

-- place by place
pub zip_by : {A B : Type 0} (R : A → B → Type 0) (xs : List A) (ys : List B) → length ys ≡ length xs → ((n : ℕ) (x : A) (y : B) → slice_get xs n ≡ Some x → slice_get ys n ≡ Some y → R x y) → AllZip R xs ys
zip_by R [] [] e f = tt
zip_by R [] (y ∷ ys) e f = absurd (let h : suc (length ys) ≡ zero = e in omega (arith, h))
zip_by R (x ∷ xs) [] e f = absurd (let h : zero ≡ suc (length xs) = e in omega (arith, h))
zip_by R (x ∷ xs) (y ∷ ys) e f = (f zero x y refl refl, zip_by R xs ys (let h : suc (length ys) ≡ suc (length xs) = e in omega (arith, h)) (λ n. f (suc n)))

module _ {I : Type 0} where
  pub one_kind : (y z : Abs I) → KeepsAddresses y z → AreOfOneKind y z
  one_kind (abs.Ints x) (abs.Ints w) h = tt
  one_kind (abs.Ints x) (abs.Addrs s) h = absurd h
  one_kind (abs.Addrs s) z h = subst (λ u. AreOfOneKind (abs.Addrs s) u) (sym h) tt

  kept_itself : (y : Abs I) → KeepsAddresses y y
  kept_itself (abs.Ints x) = tt
  kept_itself (abs.Addrs s) = refl

  kept_same : (y z : Abs I) → z ≡ y → KeepsAddresses y z
  kept_same y z e = subst (λ u. KeepsAddresses y u) (sym e) (kept_itself y)

  kept_through : (y u z : Abs I) → KeepsAddresses y u → KeepsAddresses u z → KeepsAddresses y z
  kept_through (abs.Ints x) (abs.Ints w) (abs.Ints v) h k = tt
  kept_through (abs.Ints x) (abs.Ints w) (abs.Addrs s) h k = absurd k
  kept_through (abs.Ints x) (abs.Addrs s) z h k = absurd h
  kept_through (abs.Addrs s) u z h k = subst (λ v. KeepsAddresses v z) h k

module _ {I : Type 0} (d : Domain I) (t : Tested I) where
  kept_alike : (r : ℕ) (y z : Abs I) → IsLeftAlikeIn d t r y z → KeepsAddresses y z
  kept_alike r y z (Alike of left) = kept_by_test d t r y z left
  kept_alike r y z (Unlike other is) = kept_same y z is

  pub kept_by : (rs : List ℕ) (y z : Abs I) → IsLeftByIn d t rs y z → KeepsAddresses y z
  kept_by [] y z h = kept_same y z h
  kept_by (r ∷ rs) y z (u, first, rest) = kept_through y u z (kept_alike r y u first) (kept_by rs u z rest)

  -- all registers
  pub all_keep : (registers : List ℕ) (sets left : List (Abs I)) → length sets ≡ length registers → AreLeft d t registers sets left → AllKeepAddresses sets left
  all_keep registers sets left e h number y z a b =
      let l = slice_get_within sets number y a in
      let r = get_or registers number 0 in
      kept_by_test d t r y z (h.left number r y z (slice_get-get_or registers number 0 (omega (arith, l, e))) a b)

  -- all rows
  pub rows_long : (fact : PointFact I) (rows left : List (Row I)) → AreRowsLeft d t fact rows left → AllZip AreAsLong rows left
  rows_long fact rows left h = zip_by AreAsLong rows left h.each (λ n x z a b. let w = h.cells n x z a b in sym w.each)

  cells_alike : (fact : PointFact I) (row : ℕ) (sets left : List (Abs I)) → AreCellsLeft d t fact row sets left → AllZip AreOfOneKind sets left
  cells_alike fact row sets left h = zip_by AreOfOneKind sets left h.each (λ n y z a b. let w = h.cells n y z a b in one_kind y z (kept_by _ y z w.left))

  pub rows_alike : (fact : PointFact I) (rows left : List (Row I)) → AreRowsLeft d t fact rows left → AllZip AreRowsAlike rows left
  rows_alike fact rows left h = zip_by AreRowsAlike rows left h.each (λ n x z a b. cells_alike fact n x.cells z.cells (h.cells n x z a b))

  pub sets_alike : (registers : List ℕ) (sets left : List (Abs I)) → length sets ≡ length registers → AreLeft d t registers sets left → AllZip AreOfOneKind sets left
  sets_alike registers sets left e h = zip_by AreOfOneKind sets left (h.each ∙ sym e) (λ n y z a b. one_kind y z (all_keep registers sets left e h n y z a b))
