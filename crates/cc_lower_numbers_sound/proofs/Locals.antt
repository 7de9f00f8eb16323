-- The locals of a function whose temporaries are numbered: each has its type at its new number.
use Rattle.std.proofs.Common.{◌≡◌, ◌∙◌, ◌<◌, ◌≤◌, ◌+◌, ◌-◌, ◌⊎◌, inl, inr, ℕ, zero, suc, Bool, true, false, List, [], ◌∷◌, ◌++◌, length, map, take, drop, get_or, max, min, Some, slice_get, refl, ap, sym, subst, arith, length-append}
use Rattle.std.specs.Prelude.{nat_eq, fold, zip, replicate, codes}
use Rattle.std.specs.List.{list_all}
use Rattle.std.proofs.lemmas.Bool.{true≢false, and_parts, and_from, cases_Bool, cases_lt}
use Rattle.std.proofs.lemmas.List.{length-map, length-take-le, length-replicate, drop-append-le, drop-take}
use Rattle.std.proofs.lemmas.List.Folds.{list_all-append}
use Rattle.std.proofs.lemmas.Option.{same_Some, slice_get_past, slice_get_within}
use Rattle.std.proofs.lemmas.Slice.Zip.{length-zip}
use Rattle.cc_names.specs.Names.{Wish, Numbered, name_for, names_for}
use Rattle.cc_program.specs.declared.func.Func.{Func}
use Rattle.cc_program.specs.declared.program.Program.{Program}
use Rattle.cc_program.specs.declared.types.CType.{CType}
use Rattle.cc_syntax.specs.SameTypes.{same_shape}
use Rattle.cc_syntax.specs.Sound.{are_parameters}
use Rattle.cc_syntax.specs.Types.{Named}
use Rattle.cc_lower_numbers.specs.Numbered.{with_name, numbered_locals, names_of_program, most_temporaries, temporary_names}
use Rattle.cc_lower_numbers.specs.Order.{place_in, arranged}
use Rattle.cc_lower_numbers.specs.Temporaries.{kept_count, temporary_count, temporaries, written_in}
use Rattle.cc_lower_numbers_sound.proofs.Orders.{has, AreThere, ordered-has, ordered-within, ordered-few, place-there, place-absent, arranged-at, arranged-length, arranged-all}
use Rattle.cc_lower_numbers_sound.proofs.Types.{local_type}

-- ---- lists

front-get : {A : Type 0} (xs ys : List A) (r : ℕ) → r < length xs → slice_get (xs ++ ys) r ≡ slice_get xs r
front-get [] ys r h = absurd (omega arith)
front-get (x ∷ xs) ys zero h = refl
front-get (x ∷ xs) ys (suc r) h = front-get xs ys r (omega arith)

back-get : {A : Type 0} (xs ys : List A) (n j : ℕ) → j ≡ length xs + n → slice_get (xs ++ ys) j ≡ slice_get ys n
back-get [] ys n j h = let e : j ≡ n = omega arith in ap (slice_get ys) e
back-get (x ∷ xs) ys n zero h = absurd (omega arith)
back-get (x ∷ xs) ys n (suc j) h = back-get xs ys n j (omega arith)

take-get : {A : Type 0} (xs : List A) (k r : ℕ) → r < k → slice_get (take k xs) r ≡ slice_get xs r
take-get xs zero r h = absurd (omega arith)
take-get [] (suc k) r h = refl
take-get (x ∷ xs) (suc k) zero h = refl
take-get (x ∷ xs) (suc k) (suc r) h = take-get xs k r (omega arith)

pub tested_at : {A : Type 0} (test : A → Bool) (xs : List A) (i : ℕ) (x : A) → list_all test xs ≡ true → slice_get xs i ≡ Some x → test x ≡ true
tested_at test [] i x h e = absurd (cc)
tested_at test (y ∷ xs) zero x h e = subst (λ z. test z ≡ true) (same_Some y x e) (and_parts (test y) (list_all test xs) h).0
tested_at test (y ∷ xs) (suc i) x h e = tested_at test xs i x (and_parts (test y) (list_all test xs) h).1 e

dropped_at : {A : Type 0} (test : A → Bool) (n : ℕ) (xs : List A) (i : ℕ) (x : A) → list_all test (drop n xs) ≡ true → n ≤ i → slice_get xs i ≡ Some x → test x ≡ true
dropped_at test zero xs i x h l e = tested_at test xs i x h e
dropped_at test (suc n) [] i x h l e = absurd (cc)
dropped_at test (suc n) (y ∷ xs) zero x h l e = absurd (omega arith)
dropped_at test (suc n) (y ∷ xs) (suc i) x h l e = dropped_at test n xs i x h (omega arith) e

taken_all : {A : Type 0} (test : A → Bool) (n : ℕ) (xs : List A) → list_all test xs ≡ true → list_all test (take n xs) ≡ true
taken_all test zero xs h = refl
taken_all test (suc n) [] h = refl
taken_all test (suc n) (x ∷ xs) h = let p = and_parts (test x) (list_all test xs) h in and_from (test x) (list_all test (take n xs)) p.0 (taken_all test n xs p.1)

-- ---- locals with new names

zip_types : (names : List (List ℕ)) (xs : List Named) (n : ℕ) → n < length names → local_type (slice_get (map with_name (zip names xs)) n) ≡ local_type (slice_get xs n)
zip_types [] xs n h = absurd (omega arith)
zip_types (x ∷ names) [] n h = refl
zip_types (x ∷ names) (l ∷ xs) zero h = refl
zip_types (x ∷ names) (l ∷ xs) (suc n) h = zip_types names xs n (omega arith)

zip_all : (test : CType → Bool) (names : List (List ℕ)) (xs : List Named) → list_all (λ (l : Named). test l.1) xs ≡ true → list_all (λ (l : Named). test l.1) (map with_name (zip names xs)) ≡ true
zip_all test [] xs h = refl
zip_all test (x ∷ names) [] h = refl
zip_all test (x ∷ names) (l ∷ xs) h =
    let p = and_parts (test l.1) (list_all (λ (l : Named). test l.1) xs) h in
    and_from (test l.1) (list_all (λ (l : Named). test l.1) (map with_name (zip names xs))) p.0 (zip_all test names xs p.1)

-- ---- parameters

params_kept : (ts : List CType) (xs : List Named) (k : ℕ) (ys : List Named) → are_parameters ts xs ≡ true → length ts ≤ k → are_parameters ts (take k xs ++ ys) ≡ true
params_kept [] xs k ys h l = refl
params_kept (t ∷ ts) [] k ys h l = absurd (cc)
params_kept (t ∷ ts) (x ∷ xs) zero ys h l = absurd (omega arith)
params_kept (t ∷ ts) (x ∷ xs) (suc k) ys h l =
    let p = and_parts (same_shape t.shape x.1.shape) (are_parameters ts xs) h in
    and_from (same_shape t.shape x.1.shape) (are_parameters ts (take k xs ++ ys)) p.0 (params_kept ts xs k ys p.1 (omega arith))

pub params_few : (ts : List CType) (xs : List Named) → are_parameters ts xs ≡ true → length ts ≤ length xs
params_few [] xs h = omega arith
params_few (t ∷ ts) [] h = absurd (cc)
params_few (t ∷ ts) (x ∷ xs) h = let l = params_few ts xs (and_parts (same_shape t.shape x.1.shape) (are_parameters ts xs) h).1 in omega (arith, l)

-- ---- names enough

pub names_count : (reserved given space : List (List ℕ)) (ws : List Wish) → length (names_for reserved given space ws) ≡ length ws
unfolding names_for
names_count reserved given space [] = refl
names_count reserved given space (w ∷ ws) = ap suc (names_count reserved (given ++ name_for reserved given space w ∷ []) (space ++ name_for reserved given space w ∷ []) ws)

fold_above : (a : ℕ) (ns : List ℕ) → a ≤ fold max a ns
fold_above a [] = omega arith
fold_above a (n ∷ ns) = let h = fold_above (max a n) ns in omega (arith, h)

most_at : (fs : List Func) (a i : ℕ) (d : Func) → i < length fs → temporary_count (get_or fs i d) ≤ fold max a (map temporary_count fs)
most_at [] a i d h = absurd (omega arith)
most_at (f ∷ fs) a zero d h = let k = fold_above (max a (temporary_count f)) (map temporary_count fs) in omega (arith, k)
most_at (f ∷ fs) a (suc i) d h = most_at fs (max a (temporary_count f)) i d (omega arith)

pub names_enough : (p : Program) (i : ℕ) (d : Func) → i < length p.funcs → temporary_count (get_or p.funcs i d) ≤ length (temporary_names p)
names_enough p i d h =
    let k = most_at p.funcs 0 i d h in
    let w : Wish = Numbered (codes "t") in
    let l : length (temporary_names p) ≡ most_temporaries p = names_count (names_of_program p) [] [] (replicate (most_temporaries p) w) ∙ length-replicate (most_temporaries p) w in
    subst (λ (n : ℕ). temporary_count (get_or p.funcs i d) ≤ n) (sym l) k

-- ---- a function

beyond : (a b c : ℕ) → a ≤ b → b ≤ c → a ≤ c
beyond a b c h k = omega arith

module _ (names : List (List ℕ)) (f : Func) where
  abbrev moved : List Named
  moved = map with_name (zip names (arranged f.locals (temporaries f)))

  abbrev new : List Named
  new = numbered_locals names f

  pub kept_few : kept_count f ≤ length f.locals
  kept_few = omega arith

  there : AreThere f.locals (temporaries f)
  there k h = (ordered-within (kept_count f) (length f.locals) (written_in f.body) k h).1

  pub temporaries_few : length (temporaries f) ≤ length f.locals - kept_count f
  temporaries_few = ordered-few (kept_count f) (length f.locals) (written_in f.body) kept_few

  front_length : length (take (kept_count f) f.locals) ≡ kept_count f
  front_length = length-take-le (kept_count f) f.locals kept_few

  pub locals_few : length new ≤ length f.locals
  locals_few =
      let a = length-append (take (kept_count f) f.locals) moved in
      let b = front_length in
      let c = length-map (zip names (arranged f.locals (temporaries f))) with_name in
      let d = length-zip names (arranged f.locals (temporaries f)) in
      let e = arranged-length f.locals (temporaries f) there in
      let g = temporaries_few in
      let k = kept_few in
      by (kept_count f) (length f.locals) (length (take (kept_count f) f.locals)) (length moved) (length (zip names (arranged f.locals (temporaries f)))) (length names) (length (arranged f.locals (temporaries f))) (length (temporaries f)) (length new) a b c d e g k
    where
      by : (kept all front back zipped named arranged ts whole : ℕ) → whole ≡ front + back → front ≡ kept → back ≡ zipped → zipped ≡ min named arranged → arranged ≡ ts → ts ≤ all - kept → kept ≤ all → whole ≤ all
      by kept all front back zipped named arranged ts whole a b c d e g k = omega arith

  past : (r : ℕ) → (r < length f.locals → ⊥) → (r < length f.locals) ⊎ (length f.locals ≤ r) → slice_get new r ≡ slice_get f.locals r
  past r n (inl k) = absurd (n k)
  past r n (inr k) = slice_get_past new r (beyond (length new) (length f.locals) r locals_few k) ∙ sym (slice_get_past f.locals r k)

  pub types_kept : temporary_count f ≤ length names → (r : ℕ) → local_type (slice_get new (place_in (kept_count f) (temporaries f) r)) ≡ local_type (slice_get f.locals r)
  types_kept enough r = by (cases_Bool (has r (temporaries f)))
    where
      below : (n ts all kept named : ℕ) → n < ts → ts ≤ all - kept → all - kept ≤ named → n < named
      below n ts all kept named a b c = omega arith

      old : has r (temporaries f) ≡ true → local_type (slice_get new (place_in (kept_count f) (temporaries f) r)) ≡ local_type (slice_get f.locals r)
      old h =
          let s = place-there (kept_count f) (temporaries f) r h in
          let at : kept_count f + s.behind ≡ length (take (kept_count f) f.locals) + s.behind = ap (λ (n : ℕ). n + s.behind) (sym front_length) in
          ap (λ (j : ℕ). local_type (slice_get new j)) s.is
          ∙ ap local_type (back-get (take (kept_count f) f.locals) moved s.behind (kept_count f + s.behind) at)
          ∙ zip_types names (arranged f.locals (temporaries f)) s.behind
          (below s.behind (length (temporaries f)) (length f.locals) (kept_count f) (length names) (slice_get_within (temporaries f) s.behind r s.there) temporaries_few enough)
          ∙ ap local_type (arranged-at f.locals (temporaries f) s.behind r there s.there)

      stays : has r (temporaries f) ≡ false → (r < kept_count f) ⊎ (kept_count f ≤ r) → slice_get new r ≡ slice_get f.locals r
      stays e (inl l) = front-get (take (kept_count f) f.locals) moved r (subst (λ (n : ℕ). r < n) (sym front_length) l) ∙ take-get f.locals (kept_count f) r l
      stays e (inr l) =
          let n : r < length f.locals → ⊥ = λ k. true≢false (sym (ordered-has (kept_count f) (length f.locals) (written_in f.body) r l k) ∙ e) in
          past r n (cases_lt r (length f.locals))

      by : (has r (temporaries f) ≡ true) ⊎ (has r (temporaries f) ≡ false) → local_type (slice_get new (place_in (kept_count f) (temporaries f) r)) ≡ local_type (slice_get f.locals r)
      by (inl h) = old h
      by (inr e) = ap (λ (j : ℕ). local_type (slice_get new j)) (place-absent (kept_count f) (temporaries f) r e) ∙ ap local_type (stays e (cases_lt r (kept_count f)))

  pub params_first : (ts : List CType) → are_parameters ts f.locals ≡ true → nat_eq f.params (length ts) ≡ true → length ts ≤ kept_count f → are_parameters ts new ≡ true
  params_first ts h e l = params_kept ts f.locals (kept_count f) moved h l

  -- what holds of the types of all locals from one on
  pub all_kept : (test : CType → Bool) (n : ℕ) → n ≤ kept_count f → list_all (λ (l : Named). test l.1) (drop n f.locals) ≡ true → list_all (λ (l : Named). test l.1) (drop n new) ≡ true
  all_kept test n l h =
      ap (list_all of) (drop-append-le n (take (kept_count f) f.locals) moved (subst (λ (k : ℕ). n ≤ k) (sym front_length) l))
      ∙ list_all-append of (drop n (take (kept_count f) f.locals)) moved
      ∙ and_from (list_all of (drop n (take (kept_count f) f.locals))) (list_all of moved)
      (ap (λ (k : ℕ). list_all of (drop n (take k f.locals))) (sum n (kept_count f) l) ∙ ap (list_all of) (drop-take n (kept_count f - n) f.locals) ∙ taken_all of (kept_count f - n) (drop n f.locals) h)
      (zip_all test names (arranged f.locals (temporaries f)) (arranged-all f.locals of (temporaries f) each))
    where
      of : Named → Bool
      of x = test x.1

      sum : (n k : ℕ) → n ≤ k → k ≡ n + (k - n)
      sum n k l = omega arith

      each : (k : ℕ) (x : Named) → has k (temporaries f) ≡ true → slice_get f.locals k ≡ Some x → test x.1 ≡ true
      each k x i e = dropped_at of n f.locals k x h (beyond n (kept_count f) k l (ordered-within (kept_count f) (length f.locals) (written_in f.body) k i).0) e
