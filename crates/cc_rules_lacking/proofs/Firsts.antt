-- The first of some needs that facts lack, among lists of needs one behind the other, and among what is asked number by number.
use Rattle.std.proofs.Common.{arith, ◌≡◌, ◌<◌, ◌+◌, ◌-◌, ℕ, zero, suc, Bool, true, false, not, cond, List, [], ◌∷◌, ◌++◌, map, length, get_or, take, drop, slice_get, append_assoc, append-nil, Option, Some, None, refl, ap, sym, subst, ◌∙◌}
use Rattle.std.specs.List.{flat_map, list_all}
use Rattle.std.proofs.lemmas.List.Elements.{All-nil, All-cons, All-append}
use Rattle.std.proofs.lemmas.Option.{same_Some, none-some, slice_get-get_or}
use Rattle.cc_rules_asked.specs.CcRulesNeeds.declared.needs.Part.{Part}
use Rattle.cc_rules_asked.specs.CcRulesNeeds.declared.needs.Part.TheVariants.{Mark}
use Rattle.cc_rules_asked.specs.CcRulesNeeds.declared.needs.Slot.{Slot}
use Rattle.cc_rules_asked.specs.CcRulesNeeds.declared.needs.Slot.TheVariants.{Apart}
use Rattle.cc_rules_asked.specs.CcRulesNeeds.Flowing.{each_pair, need_apart, numbers}
use Rattle.cc_rules_asked.proofs.CcRulesNeeds.AtPoint.{each_passes, none_of}
use Rattle.cc_rules_asked.specs.CcRulesNeeds.Needs.{Needs, apart_in, Has, HasAll}
use Rattle.cc_rules_lacking.specs.First.{IsFirst, LacksFirst}
use Rattle.cc_rules_asked.specs.CcStateFacts.declared.facts.Facts.{Facts}
use Rattle.cc_rules_asked.specs.CcStateFacts.declared.facts.PointFact.{PointFact}
use Rattle.cc_rules_asked.specs.CcStateFacts.Facts.{fact_at, has_pair}
use Rattle.cc_rules_asked.specs.CcStateFacts.Orders.{is_same}
use Rattle.cc_rules_asked.proofs.CcStateKeys.Grown.{flat-next}

-- ---- lists

pub flat_behind : {A B : Type 0} (f : A → List B) (xs ys : List A) → flat_map f (xs ++ ys) ≡ flat_map f xs ++ flat_map f ys
flat_behind f [] ys = refl
flat_behind f (x ∷ xs) ys = ap (λ zs. f x ++ zs) (flat_behind f xs ys) ∙ sym (append_assoc (f x) (flat_map f xs) (flat_map f ys))

pub flat_flat : {A B C : Type 0} (g : B → List C) (h : A → List B) (xs : List A) → flat_map g (flat_map h xs) ≡ flat_map (λ x. flat_map g (h x)) xs
flat_flat g h [] = refl
flat_flat g h (x ∷ xs) = flat_behind g (h x) (flat_map h xs) ∙ ap (λ zs. flat_map g (h x) ++ zs) (flat_flat g h xs)

pub flat_mapped : {A B C : Type 0} (g : B → List C) (h : A → B) (xs : List A) → flat_map g (map h xs) ≡ flat_map (λ x. g (h x)) xs
flat_mapped g h [] = refl
flat_mapped g h (x ∷ xs) = ap (λ zs. g (h x) ++ zs) (flat_mapped g h xs)

pub as_flat : {A B : Type 0} (f : A → B) (xs : List A) → map f xs ≡ flat_map (λ x. f x ∷ []) xs
as_flat f [] = refl
as_flat f (x ∷ xs) = ap (λ zs. f x ∷ zs) (as_flat f xs)

split_by : (k m n : ℕ) → numbers k (m + n) ≡ numbers k m ++ numbers (k + m) n
split_by k zero n = let e : 0 + n ≡ n = omega arith in let f : k ≡ k + 0 = omega arith in ap (numbers k) e ∙ ap (λ i. numbers i n) f
split_by k (suc m) n =
    let e : suc m + n ≡ suc (m + n) = omega arith in
    let f : suc k + m ≡ k + suc m = omega arith in
    ap (numbers k) e ∙ ap (λ ns. k ∷ ns) (split_by (suc k) m n ∙ ap (λ i. numbers (suc k) m ++ numbers i n) f)

-- the numbers up to one, and it with those behind it
numbers_at : (i count : ℕ) → i < count → numbers 0 count ≡ numbers 0 i ++ i ∷ numbers (suc i) (count - suc i)
numbers_at i count l =
    let e : count ≡ i + suc (count - suc i) = omega (arith, l) in
    let f : 0 + i ≡ i = omega arith in
    ap (numbers 0) e ∙ (split_by 0 i (suc (count - suc i)) ∙ ap (λ j. numbers 0 i ++ numbers j (suc (count - suc i))) f)

numbers_on : (i : ℕ) → numbers 0 (i + 1) ≡ numbers 0 i ++ i ∷ []
numbers_on i = split_by 0 i 1 ∙ (let f : 0 + i ≡ i = omega arith in ap (λ j. numbers 0 i ++ j ∷ []) f)

module _ {I : Type 0} (below : I → I → Type 0) (facts : Facts I) where
  abbrev P : Slot × Part I → Type 0
  P = Has below facts

  abbrev AllHad : Needs I → Type 0
  AllHad needs = HasAll below needs facts

  -- ---- one list behind the other

  pub first_behind : (xs ys : Needs I) (need : Slot × Part I) → AllHad xs → IsFirst below ys facts need → IsFirst below (xs ++ ys) facts need
  first_behind xs ys need had is = record {
    front = xs ++ is.front;
    back = is.back;
    is = ap (λ zs. xs ++ zs) is.is ∙ sym (append_assoc xs is.front (need ∷ is.back));
    has = All-append P xs is.front had is.has;
    lacks = is.lacks;
  }

  pub first_before : (xs ys : Needs I) (need : Slot × Part I) → IsFirst below xs facts need → IsFirst below (xs ++ ys) facts need
  first_before xs ys need is = record {
    front = is.front;
    back = is.back ++ ys;
    is = ap (λ zs. zs ++ ys) is.is ∙ append_assoc is.front (need ∷ is.back) ys;
    has = is.has;
    lacks = is.lacks;
  }

  pub behind : (xs ys : Needs I) (r : Option (Slot × Part I)) → AllHad xs → LacksFirst below ys facts r → LacksFirst below (xs ++ ys) facts r
  behind xs ys None had h = All-append P xs ys had h
  behind xs ys (Some need) had h = first_behind xs ys need had h

  all_flat : {A : Type 0} (f : A → Needs I) (xs : List A) → ((x : A) → AllHad (f x)) → AllHad (flat_map f xs)
  all_flat f [] h = All-nil P
  all_flat f (x ∷ xs) h = All-append P (f x) (flat_map f xs) (h x) (all_flat f xs h)

  -- one alone
  pub one_lacks : (need : Slot × Part I) → (P need → ⊥) → IsFirst below (need ∷ []) facts need
  one_lacks need bad = record { front = []; back = []; is = refl; has = All-nil P; lacks = bad }

  pub one_has : (need : Slot × Part I) → P need → AllHad (need ∷ [])
  one_has need h = All-cons P need [] h (All-nil P)

  -- ---- number by number

  module _ (asks : ℕ → Needs I) where
    pub none_yet : AllHad (flat_map asks (numbers 0 0))
    none_yet = All-nil P

    pub all_on : (i : ℕ) → AllHad (flat_map asks (numbers 0 i)) → AllHad (asks i) → AllHad (flat_map asks (numbers 0 (i + 1)))
    all_on i had here =
        let e : flat_map asks (numbers 0 (i + 1)) ≡ flat_map asks (numbers 0 i) ++ asks i = ap (flat_map asks) (numbers_on i) ∙ (flat_behind asks (numbers 0 i) (i ∷ []) ∙ ap (λ zs. flat_map asks (numbers 0 i) ++ zs) (append-nil (asks i))) in
        subst AllHad (sym e) (All-append P (flat_map asks (numbers 0 i)) (asks i) had here)

    pub first_at : (i count : ℕ) (need : Slot × Part I) → i < count → AllHad (flat_map asks (numbers 0 i)) → IsFirst below (asks i) facts need → IsFirst below (flat_map asks (numbers 0 count)) facts need
    first_at i count need l had is =
        let rest = flat_map asks (numbers (suc i) (count - suc i)) in
        let e : flat_map asks (numbers 0 count) ≡ flat_map asks (numbers 0 i) ++ (asks i ++ rest) = ap (flat_map asks) (numbers_at i count l) ∙ flat_behind asks (numbers 0 i) (i ∷ numbers (suc i) (count - suc i)) in
        subst (λ (ns : Needs I). IsFirst below ns facts need) (sym e) (first_behind (flat_map asks (numbers 0 i)) (asks i ++ rest) need had (first_before (asks i) rest need is))

    pub all_to : (i count : ℕ) → i ≡ count → AllHad (flat_map asks (numbers 0 i)) → AllHad (flat_map asks (numbers 0 count))
    all_to i count e had = subst (λ (n : ℕ). AllHad (flat_map asks (numbers 0 n))) e had

  -- one need each
  module _ (need : ℕ → Slot × Part I) where
    pub needs_on : (i : ℕ) → AllHad (map need (numbers 0 i)) → P (need i) → AllHad (map need (numbers 0 (i + 1)))
    needs_on i had here =
        subst AllHad (sym (as_flat need (numbers 0 (i + 1)))) (all_on (λ n. need n ∷ []) i (subst AllHad (as_flat need (numbers 0 i)) had) (one_has (need i) here))

    pub need_first : (i count : ℕ) → i < count → AllHad (map need (numbers 0 i)) → (P (need i) → ⊥) → IsFirst below (map need (numbers 0 count)) facts (need i)
    need_first i count l had bad =
        subst (λ (ns : Needs I). IsFirst below ns facts (need i)) (sym (as_flat need (numbers 0 count)))
        (first_at (λ n. need n ∷ []) i count (need i) l (subst AllHad (as_flat need (numbers 0 i)) had) (one_lacks (need i) bad))

    pub needs_to : (i count : ℕ) → i ≡ count → AllHad (map need (numbers 0 i)) → AllHad (map need (numbers 0 count))
    needs_to i count e had = subst (λ (n : ℕ). AllHad (map need (numbers 0 n))) e had

  -- ---- pairs

  module _ (point : ℕ) (pair : ℕ → ℕ → Bool) where
    abbrev pub apart_from : ℕ → ℕ → Needs I
    apart_from r j = need_apart point pair (r, j)

    abbrev pub row : ℕ → ℕ → Needs I
    row cells r = flat_map (need_apart point pair) (map (λ j. (r, j)) (numbers 0 cells))

    pub row_is : (cells r : ℕ) → row cells r ≡ flat_map (apart_from r) (numbers 0 cells)
    row_is cells r = flat_mapped (need_apart point pair) (λ j. (r, j)) (numbers 0 cells)

    pub rows_are : (registers cells : ℕ) → flat_map (need_apart point pair) (each_pair registers cells) ≡ flat_map (row cells) (numbers 0 registers)
    rows_are registers cells = flat_flat (need_apart point pair) (λ r. map (λ j. (r, j)) (numbers 0 cells)) (numbers 0 registers)

    pub apart_lacks : (r j : ℕ) → pair r j ≡ false → (P (Apart point r j, Mark true) → ⊥) → IsFirst below (apart_from r j) facts (Apart point r j, Mark true)
    apart_lacks r j e bad = subst (λ (b : Bool). IsFirst below (cond b [] ((Apart point r j, Mark true) ∷ [])) facts (Apart point r j, Mark true)) (sym e) (one_lacks (Apart point r j, Mark true) bad)

    pub apart_had : (r j : ℕ) → (pair r j ≡ false → P (Apart point r j, Mark true)) → AllHad (apart_from r j)
    apart_had r j h = by (pair r j) refl
      where
        by : (b : Bool) → pair r j ≡ b → AllHad (cond b [] ((Apart point r j, Mark true) ∷ []))
        by true e = All-nil P
        by false e = one_has (Apart point r j, Mark true) (h e)

    pub pairs_had : (registers cells : ℕ) → ((r j : ℕ) → pair r j ≡ false → P (Apart point r j, Mark true)) → AllHad (flat_map (need_apart point pair) (each_pair registers cells))
    pairs_had registers cells h = all_flat (need_apart point pair) (each_pair registers cells) (λ q. apart_had q.0 q.1 (h q.0 q.1))

-- a point all of whose pairs flow there
pub apart_there : {I : Type 0} (below : I → I → Type 0) (facts : Facts I) (point : ℕ) (flow fact : PointFact I) → fact_at facts point ≡ Some fact → list_all (is_same flow) fact.same ≡ true → (r j : ℕ) → has_pair flow r j ≡ false → Has below facts (Apart point r j, Mark true)
apart_there {I} below facts point flow fact at all r j none t =
    subst (λ (o : Option (PointFact I)). apart_in o r j ≡ true) (sym at) (ap not (none_of (has_pair flow) fact.same (each_passes (is_same flow) fact.same all) r j none))

-- ---- what is asked, one after the other

module _ {I : Type 0} {A : Type 0} (below : I → I → Type 0) (facts : Facts I) (needs : A → Needs I) where
  pub asked_on : (xs : List A) (i : ℕ) (x : A) → i < length xs → x ≡ get_or xs i x → HasAll below (flat_map needs (take i xs)) facts → HasAll below (needs x) facts → HasAll below (flat_map needs (take (i + 1) xs)) facts
  asked_on xs i x l is had here = subst (λ (ns : Needs I). HasAll below ns facts) (sym (flat-next needs xs i x l is)) (All-append (Has below facts) (flat_map needs (take i xs)) (needs x) had here)

  split_at : (xs : List A) (i : ℕ) (x : A) → slice_get xs i ≡ Some x → flat_map needs xs ≡ flat_map needs (take i xs) ++ (needs x ++ flat_map needs (drop (suc i) xs))
  split_at [] i x e = absurd (none-some x e)
  split_at (y ∷ xs) zero x e = ap (λ z. needs z ++ flat_map needs xs) (same_Some y x e)
  split_at (y ∷ xs) (suc i) x e = ap (λ zs. needs y ++ zs) (split_at xs i x e) ∙ sym (append_assoc (needs y) (flat_map needs (take i xs)) (needs x ++ flat_map needs (drop (suc i) xs)))

  pub asked_first : (xs : List A) (i : ℕ) (x : A) (need : Slot × Part I) → i < length xs → x ≡ get_or xs i x → HasAll below (flat_map needs (take i xs)) facts → IsFirst below (needs x) facts need → IsFirst below (flat_map needs xs) facts need
  asked_first xs i x need l is had first =
      let at : slice_get xs i ≡ Some x = slice_get-get_or xs i x l ∙ ap Some (sym is) in
      subst (λ (ns : Needs I). IsFirst below ns facts need) (sym (split_at xs i x at))
      (first_behind below facts (flat_map needs (take i xs)) (needs x ++ flat_map needs (drop (suc i) xs)) need had (first_before below facts (needs x) (flat_map needs (drop (suc i) xs)) need first))
