-- What the seats of a program keep.
use Rattle.std.proofs.Common.{◌≡◌, ◌+◌, ℕ, Bool, true, false, not, fold, filter, map, if◌then◌else◌, List, [], ◌∷◌, refl, ap, sym, ◌∙◌, subst}
use Rattle.std.specs.List.{enumerate_from}
use Rattle.cc_program.specs.Qualifiers.{is_const}
use Rattle.cc_program.specs.declared.object.Object.{Object}
use Rattle.cc_program.specs.declared.program.Program.{Program}
use Rattle.cc_program.proofs.Each.{Each}
use Rattle.cc_syntax.specs.declared.sizes.Layout.{Layout}
use Rattle.cc_syntax.specs.Layout.{IsAlign, aligned, end_behind, places_from, ArePlaced, NoneAbove}
use Rattle.cc_syntax.proofs.Places.{placed, lowest}
use Rattle.cc_syntax.proofs.Whole.{whole}
use Rattle.cc_layout.specs.declared.seats.Seat.{Seat}
use Rattle.cc_layout.specs.Seats.{layout_in, end_with, ram, seat_behind, seats_from, seats, in_ram, layouts}

module _ (p : Program) where
  -- the objects that take RAM among some, the first of which has the number id
  abbrev among : ℕ → List Object → List (ℕ × Object)
  among id objects = filter (λ o. not (is_const o.1.ctype)) (enumerate_from id objects)

  abbrev layouts_among : ℕ → List Object → List Layout
  layouts_among id objects = map (λ o. layout_in p o.1) (among id objects)

  record Laws (id end : ℕ) (objects : List Object) : Type 0 where
    numbers : map (λ s. s.object) (seats_from p id end objects) ≡ map (λ o. o.0) (among id objects)
    sizes : map (λ s. s.size) (seats_from p id end objects) ≡ map (λ l. l.size) (layouts_among id objects)
    ats : map (λ s. s.at) (seats_from p id end objects) ≡ places_from end (layouts_among id objects)
    last : fold (λ n s. s.at + s.size) end (seats_from p id end objects) ≡ fold (end_with p) end objects

  laws_at : (o : Object) (os : List Object) (id end : ℕ) (rest : (end : ℕ) → Laws (id + 1) end os) (b : Bool) → is_const o.ctype ≡ b → Laws id end (o ∷ os)
  laws_at o os id end rest true e = let r = rest end in record { numbers = rw e r.numbers; sizes = rw e r.sizes; ats = rw e r.ats; last = rw e r.last }
  laws_at o os id end rest false e =
      let l = layout_in p o in
      let r = rest (end_behind end l) in
      record {
        numbers = rw e (ap (λ (xs : List ℕ). id ∷ xs) r.numbers);
        sizes = rw e (ap (λ (xs : List ℕ). l.size ∷ xs) r.sizes);
        ats = rw e (ap (λ (xs : List ℕ). aligned l.align end ∷ xs) r.ats);
        last = rw e r.last;
      }

  laws_from : (objects : List Object) (id end : ℕ) → Laws id end objects
  laws_from [] id end = record { numbers = refl; sizes = refl; ats = refl; last = refl }
  laws_from (o ∷ os) id end = laws_at o os id end (laws_from os (id + 1)) (is_const o.ctype) refl

  each_aligned : (os : List (ℕ × Object)) → Each (λ (l : Layout). IsAlign l.align) (map (λ o. layout_in p o.1) os)
  each_aligned [] = tt
  each_aligned (o ∷ os) = ((whole p.target o.1.ctype p.structures).align, each_aligned os)

  pub seat_numbers : map (λ s. s.object) (seats p) ≡ map (λ o. o.0) (in_ram p)
  unfolding seats
  seat_numbers = (laws_from p.objects 0 0).numbers

  pub seat_sizes : map (λ s. s.size) (seats p) ≡ map (λ l. l.size) (layouts p)
  unfolding seats
  seat_sizes = (laws_from p.objects 0 0).sizes

  seat_places : map (λ s. s.at) (seats p) ≡ places_from 0 (layouts p)
  unfolding seats
  seat_places = (laws_from p.objects 0 0).ats

  pub seats_placed : ArePlaced 0 (layouts p) (map (λ s. s.at) (seats p))
  seats_placed = subst (ArePlaced 0 (layouts p)) (sym seat_places) (placed 0 (layouts p) (each_aligned (in_ram p)))

  pub seats_lowest : (others : List ℕ) → ArePlaced 0 (layouts p) others → NoneAbove (map (λ s. s.at) (seats p)) others
  seats_lowest others h = subst (λ places. NoneAbove places others) (sym seat_places) (lowest 0 (layouts p) others (each_aligned (in_ram p)) h)

  pub ram_is_last : fold (λ n s. s.at + s.size) 0 (seats p) ≡ ram p
  unfolding seats ram
  ram_is_last = (laws_from p.objects 0 0).last
