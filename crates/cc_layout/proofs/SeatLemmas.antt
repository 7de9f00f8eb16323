-- The ends and the seats of a program's objects, as far as a loop over them has come.
use Rattle.std.proofs.Common.{arith, ◌≡◌, ◌≤◌, ◌+◌, ◌*◌, ℕ, suc, Bool, true, false, not, fold, if◌then◌else◌, List, [], ◌∷◌, ◌++◌, length, get_or, ◌<◌, take, take_all, drop, drop-cons, add-one, append-nil, append_assoc, refl, ap, sym, ◌∙◌, subst, Some, slice_get}
use Rattle.std.specs.Prelude.{All}
use Rattle.std.proofs.lemmas.List.{take_more, drop_all}
use Rattle.std.proofs.lemmas.List.Sums.{fold-append}
use Rattle.std.proofs.lemmas.Option.{slice_get_within, get_or_from_slice_get}
use Rattle.cc_program.specs.Qualifiers.{is_const}
use Rattle.cc_program.specs.declared.object.Object.{Object}
use Rattle.cc_program.specs.declared.program.Program.{Program}
use Rattle.cc_program.specs.declared.types.Structure.{Structure}
use Rattle.cc_syntax.specs.declared.sizes.Layout.{Layout}
use Rattle.cc_syntax.specs.Layout.{IsAlign, aligned, end_behind, layout_of, IsSmall, HasSizes}
use Rattle.cc_syntax.proofs.Alignment.{behind_high}
use Rattle.cc_syntax.proofs.Shapes.{read_at}
use Rattle.cc_syntax.proofs.Parts.{all_at}
use Rattle.cc_syntax.proofs.Whole.{IsWhole, whole}
use Rattle.cc_layout.specs.declared.seats.Seat.{Seat}
use Rattle.cc_layout.specs.Seats.{layout_in, end_with, ram, seat_behind, seats_from, seats}

-- the end of the first i objects
pub record Ends (p : Program) (i end : ℕ) : Type 0 where
  pub value : end ≡ fold (end_with p) 0 (take i p.objects)
  pub high : end ≤ i * 4294967295

-- with the seats of those that are left, the seats are all
pub record Seated (p : Program) (i end : ℕ) (found : List Seat) : Type 0 where
  pub all : found ++ seats_from p i end (drop i p.objects) ≡ seats p
  pub high : end ≤ i * 4294967295

-- what the test of a loop says
pub const_where : (b : Bool) → not b ≡ true → b ≡ false
const_where true h = absurd (cc)
const_where false h = refl

pub not_const_where : (b : Bool) → not b ≡ false → b ≡ true
not_const_where true h = refl
not_const_where false h = absurd (cc)

-- what a loop over objects reads
pub object_at : (items objects : List Object) → items ≡ objects → (i : ℕ) (o : Object) → o ≡ get_or items i o → i < length items → slice_get objects i ≡ Some o
object_at items objects e i o h b = subst (λ (os : List Object). slice_get os i ≡ Some o) e (read_at items i o h b)

module _ (p : Program) where
  pub ends_start : Ends p 0 0
  ends_start = record { value = refl; high = omega arith }

  ends-more : (i : ℕ) (o : Object) → slice_get p.objects i ≡ Some o → fold (end_with p) 0 (take (i + 1) p.objects) ≡ end_with p (fold (end_with p) 0 (take i p.objects)) o
  ends-more i o g =
      ap (fold (end_with p) 0) (take_more p.objects i o (slice_get_within p.objects i o g) ∙ ap (λ (x : Object). take i p.objects ++ x ∷ []) (get_or_from_slice_get p.objects i o o g))
      ∙ fold-append (end_with p) 0 (take i p.objects) (o ∷ [])

  -- the end with one more, where it is const and where it is not
  pub ends_const : (i end : ℕ) (o : Object) → slice_get p.objects i ≡ Some o → is_const o.ctype ≡ true → Ends p i end → Ends p (i + 1) end
  ends_const i end o g c e = record {
    value = e.value ∙ sym (ends-more i o g ∙ ap (λ (b : Bool). if b then before else end_behind before (layout_in p o)) c);
    high = let h = e.high in omega (arith, h);
  }
    where
      before : ℕ
      before = fold (end_with p) 0 (take i p.objects)

  end_high : (i end : ℕ) (o : Object) (l : Layout) → l ≡ layout_in p o → IsSmall o.ctype p.structures p.target → end ≤ i * 4294967295 → aligned l.align end + l.size ≤ (i + 1) * 4294967295
  end_high i end o l e small high =
      let w : IsWhole l = subst IsWhole (sym e) (whole p.target o.ctype p.structures) in
      let b : l.size ≤ 4294967295 = subst (λ (x : Layout). x.size ≤ 4294967295) (sym e) small.bytes in
      let k = behind_high l.align end l.size w.align w.size (omega (arith, b)) in
      omega (arith, k, high)

  -- what the loop's steps ask for
  pub object_small : HasSizes p → (i : ℕ) (o : Object) → slice_get p.objects i ≡ Some o → IsSmall o.ctype p.structures p.target
  object_small h i o g = all_at (λ (o : Object). IsSmall o.ctype p.structures p.target) p.objects i o g h.objects

  pub layout_is : (structures : List Structure) → structures ≡ p.structures → (o : Object) (l : Layout) → l ≡ layout_of o.ctype structures p.target → l ≡ layout_in p o
  layout_is structures e o l h = h ∙ ap (λ ss. layout_of o.ctype ss p.target) e

  pub align_in : (o : Object) (l : Layout) → l ≡ layout_in p o → IsAlign l.align
  align_in o l e = subst (λ (x : Layout). IsAlign x.align) (sym e) (whole p.target o.ctype p.structures).align

  pub ends_more : (i end : ℕ) (o : Object) (l : Layout) → l ≡ layout_in p o → slice_get p.objects i ≡ Some o → is_const o.ctype ≡ false → IsSmall o.ctype p.structures p.target → Ends p i end →
      Ends p (i + 1) (aligned l.align end + l.size)
  ends_more i end o l e g c small ends = record {
    value =
        rw (e, ends.value)
        (sym (ends-more i o g ∙ ap (λ (b : Bool). if b then fold (end_with p) 0 (take i p.objects) else end_behind (fold (end_with p) 0 (take i p.objects)) (layout_in p o)) c));
    high = end_high i end o l e small ends.high;
  }

  pub ends_all : (i end : ℕ) → length p.objects ≤ i → Ends p i end → end ≡ ram p
  unfolding ram
  ends_all i end past ends = ends.value ∙ ap (fold (end_with p) 0) (take_all i p.objects past)

  pub seated_start : Seated p 0 0 []
  unfolding seats
  seated_start = record { all = refl; high = omega arith }

  seats-opens : (i end : ℕ) (o : Object) → slice_get p.objects i ≡ Some o →
      seats_from p i end (drop i p.objects)
      ≡ (if is_const o.ctype then seats_from p (i + 1) end (drop (suc i) p.objects) else (seat_behind i end (layout_in p o) ∷ seats_from p (i + 1) (end_behind end (layout_in p o)) (drop (suc i) p.objects)))
  seats-opens i end o g =
      ap (seats_from p i end)
      (drop-cons p.objects i o (slice_get_within p.objects i o g) ∙ ap (λ (x : Object). x ∷ drop (suc i) p.objects) (get_or_from_slice_get p.objects i o o g))

  pub seated_const : (i end : ℕ) (found : List Seat) (o : Object) → slice_get p.objects i ≡ Some o → is_const o.ctype ≡ true → Seated p i end found → Seated p (i + 1) end found
  seated_const i end found o g c s = record {
    all =
        let rest = drop (suc i) p.objects in
        let opened = seats-opens i end o g ∙ ap (λ (b : Bool). if b then seats_from p (i + 1) end rest else (seat_behind i end (layout_in p o) ∷ seats_from p (i + 1) (end_behind end (layout_in p o)) rest)) c in
        ap (λ n. found ++ seats_from p (i + 1) end (drop n p.objects)) (add-one i) ∙ ap (λ (xs : List Seat). found ++ xs) (sym opened) ∙ s.all;
    high = let h = s.high in omega (arith, h);
  }

  pub seated_more : (i end : ℕ) (found : List Seat) (o : Object) (l : Layout) → l ≡ layout_in p o → slice_get p.objects i ≡ Some o → is_const o.ctype ≡ false → IsSmall o.ctype p.structures p.target →
      Seated p i end found → Seated p (i + 1) (aligned l.align end + l.size) (found ++ seat_behind i end l ∷ [])
  seated_more i end found o l e g c small s = record {
    all =
        let rest = drop (suc i) p.objects in
        let opened = seats-opens i end o g ∙ ap (λ (b : Bool). if b then seats_from p (i + 1) end rest else (seat_behind i end (layout_in p o) ∷ seats_from p (i + 1) (end_behind end (layout_in p o)) rest)) c in
        ap (λ n. (found ++ seat_behind i end l ∷ []) ++ seats_from p (i + 1) (aligned l.align end + l.size) (drop n p.objects)) (add-one i)
        ∙ append_assoc found (seat_behind i end l ∷ []) (seats_from p (i + 1) (aligned l.align end + l.size) rest)
        ∙ ap (λ (x : Layout). found ++ (seat_behind i end x ∷ seats_from p (i + 1) (aligned x.align end + x.size) rest)) e
        ∙ ap (λ (xs : List Seat). found ++ xs) (sym opened) ∙ s.all;
    high = end_high i end o l e small s.high;
  }

  pub seated_all : (i end : ℕ) (found : List Seat) → length p.objects ≤ i → Seated p i end found → found ≡ seats p
  seated_all i end found past s = sym (append-nil found) ∙ ap (λ os. found ++ seats_from p i end os) (sym (drop_all i p.objects past)) ∙ s.all
