-- A list of files by name, as a map: `found` after a file is changed, emptied, made longer or put
-- behind the others. Each is by recursion down to the first file of the name; the files in front of
-- it have other names, and so answer as before.
use Rattle.std.proofs.Common.{◌≡◌, ◌<◌, ◌+◌, ◌-◌, ℕ, zero, suc, List, [], ◌∷◌, drop, length, arith, refl, ap, sym, ◌∙◌, subst, true, false, nat_eq, get_or, Vec, vec_len, vec_capacity, add-zero, add-one, drop-cons, Option, Some, None, slice_set, Bool, cond, ◌++◌, take, option_map}
use Rattle.std.proofs.lemmas.Bool.{eq-eqb}
use Rattle.std.proofs.lemmas.List.{take_all}
use Rattle.cc_edge.specs.Files.{appended}
use Rattle.cc_edge.specs.declared.store.Put.TheVariants as put
use Rattle.std.specs.Cmp.Lexicographic.{pointwise, same_text}
use Rattle.std.specs.declared.alloc.Global.{Global}
use Rattle.cc_edge.specs.Memory.{found, IsPlace, room}

abbrev pub File : Type 0
File = List ℕ × Vec ℕ Global

pub opened : (files : List File) (i : ℕ) (file : File) → i < length files → file ≡ get_or files i file → drop i files ≡ file ∷ drop (i + 1) files
opened files i file h e = rw add-one (drop-cons files i file h ∙ ap (λ f. f ∷ drop (suc i) files) (sym e))

module _ (name : List ℕ) (files : List File) (i : ℕ) (file : File) (step : drop i files ≡ file ∷ drop (i + 1) files)
    (later : (j : ℕ) → IsPlace name j (drop i files) → IsPlace name (i + j) files) where
  pub here : pointwise nat_eq file.0 name ≡ true → IsPlace name i files
  here h = subst (λ k. IsPlace name k files) (add-zero i) (later 0 (subst (IsPlace name 0) (sym step) h))

  pub next_rest : pointwise nat_eq file.0 name ≡ false → found name (drop i files) ≡ found name (drop (i + 1) files)
  next_rest h = rw (step, h) refl

  pub next_later : pointwise nat_eq file.0 name ≡ false → (j : ℕ) → IsPlace name j (drop (i + 1) files) → IsPlace name (i + 1 + j) files
  next_later h j p =
      let e : i + suc j ≡ i + 1 + j = omega arith in
      subst (λ k. IsPlace name k files) e (later (suc j) (subst (IsPlace name (suc j)) (sym step) (h, p)))

-- what stands at a name's place
pub found-at : (name : List ℕ) (i : ℕ) (files : List File) (d : File) → IsPlace name i files → found name files ≡ Some (get_or files i d).1.items
found-at name i [] d h = absurd h
found-at name zero (f ∷ files) d h = rw h refl
found-at name (suc i) (f ∷ files) d h = rw h.0 (found-at name i files d h.1)

pub found-set : (name : List ℕ) (i : ℕ) (files : List File) (d : File) (v : Vec ℕ Global) → IsPlace name i files →
    found name (slice_set files i ((get_or files i d).0, v)) ≡ Some v.items
found-set name i [] d v h = absurd h
found-set name zero (f ∷ files) d v h = rw h refl
found-set name (suc i) (f ∷ files) d v h = rw h.0 (found-set name i files d v h.1)

-- a file of that name has no other
other_name : (a name other : List ℕ) → pointwise nat_eq a name ≡ true → (other ≡ name → ⊥) → pointwise nat_eq a other ≡ false
other_name a name other h k = from_test (pointwise nat_eq a other) refl
  where
    from_test : (b : Bool) → pointwise nat_eq a other ≡ b → b ≡ false
    from_test true e = absurd (k (sym (same_text a other (sym e)) ∙ same_text a name (sym h)))
    from_test false e = refl

pub found-set_other : (name other : List ℕ) (i : ℕ) (files : List File) (d : File) (v : Vec ℕ Global) → IsPlace name i files → (other ≡ name → ⊥) →
    found other (slice_set files i ((get_or files i d).0, v)) ≡ found other files
found-set_other name other i [] d v h k = absurd h
found-set_other name other zero (f ∷ files) d v h k = let e = other_name f.0 name other h k in rw e refl
found-set_other name other (suc i) (f ∷ files) d v h k =
    ap (λ x. cond (pointwise nat_eq f.0 other) (Some f.1.items) x) (found-set_other name other i files d v h.1 k)

same_self : (xs : List ℕ) → pointwise nat_eq xs xs ≡ true
same_self [] = refl
same_self (x ∷ xs) = let e = eq-eqb x x refl in rw (e, same_self xs) refl

pub found-push : (name : List ℕ) (files : List File) (v : Vec ℕ Global) → found name files ≡ None → found name (files ++ (name, v) ∷ []) ≡ Some v.items
found-push name [] v h = let e = same_self name in rw e refl
found-push name (f ∷ files) v h = behind (pointwise nat_eq f.0 name) f.1.items (found name files) (found name (files ++ (name, v) ∷ [])) v.items h (found-push name files v)
  where
    behind : (b : Bool) (x : List ℕ) (r s : Option (List ℕ)) (y : List ℕ) → cond b (Some x) r ≡ None → (r ≡ None → s ≡ Some y) → cond b (Some x) s ≡ Some y
    behind true x r s y h k = absurd (cc)
    behind false x r s y h k = k h

pub found-push_other : (name other : List ℕ) (files : List File) (v : Vec ℕ Global) → (other ≡ name → ⊥) → found other (files ++ (name, v) ∷ []) ≡ found other files
found-push_other name other [] v k = let e = other_name name name other (same_self name) k in rw e refl
found-push_other name other (f ∷ files) v k = ap (λ x. cond (pointwise nat_eq f.0 other) (Some f.1.items) x) (found-push_other name other files v k)

pub found-append : (name : List ℕ) (i : ℕ) (files : List File) (d : File) (v : Vec ℕ Global) (piece : List ℕ) → IsPlace name i files →
    v.items ≡ (get_or files i d).1.items ++ piece →
    found name (slice_set files i ((get_or files i d).0, v)) ≡ option_map (appended (put.Bytes (length piece)) piece) (found name files)
found-append name i files d v piece h e =
    let all : take (length piece) piece ≡ piece = take_all (length piece) piece (omega arith) in
    let now = found-at name i files d h in
    let next = found-set name i files d v h in
    rw (now, next, e, all) refl

-- the room of what stands at a name's place
pub room-at : (name : List ℕ) (i : ℕ) (files : List File) (d : File) → IsPlace name i files →
    room name files ≡ vec_capacity (get_or files i d).1 - vec_len (get_or files i d).1
room-at name i [] d h = absurd h
room-at name zero (f ∷ files) d h = rw h refl
room-at name (suc i) (f ∷ files) d h = rw h.0 (room-at name i files d h.1)

pub ruleset of_files = (found-append, room-at, found-at, found-set, found-set_other, found-push, found-push_other)
