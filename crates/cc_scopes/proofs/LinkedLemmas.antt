-- The number of a name that has linkage: the index finds the first one, as one more is declared and as the last goes.
use Rattle.std.proofs.Common.{◌≡◌, ◌∙◌, ◌+◌, ◌<◌, ◌≤◌, ℕ, zero, suc, Bool, true, false, cond, ◌&&◌, List, [], ◌∷◌, ◌++◌, length, Option, Some, None, Result, Ok, Err, is_err, OnOk, OnErr, refl, ap, sym, subst, arith, true≢false, add-zero, set, get_or, take}
use Rattle.std.proofs.lemmas.List.{take_more, take_all}
use Rattle.std.specs.Cmp.Lexicographic.{pointwise, bytes_decides}
use Rattle.std.specs.Map.{lookup, remove_entry}
use Rattle.std.specs.Borrow.{Bor}
use Rattle.std.specs.Option.{option_copied}
use Rattle.std.specs.Prelude.{is_some, nat_eq}
use Rattle.indexmap.specs.IndexMap.{insert_entry}
use Rattle.cc_scopes.proofs.KnownLemmas.{copied_some}
use Rattle.cc_scopes.proofs.ScopeMaps.{find-entries, inserted}
use Rattle.cc_scopes.specs.Linked.{IsIndex, is_linked, has_name, linked_from, key_if, key_in}
use Rattle.cc_scopes.specs.Maps.{Key, named_entries}
use Rattle.cc_scopes.specs.State.{Name, change_at, find_name, or_else, with_name}
use Rattle.cc_scopes.specs.declared.unit.Declared.{Declared}
use Rattle.cc_unit.specs.declared.unit.Linkage.{Linkage}
use Rattle.cc_unit.specs.declared.unit.Linkage.TheVariants as linkage

-- ---- a name that is put among others

pub same : (x y : Name) → pointwise nat_eq x y ≡ true → x ≡ y
same x y h = (bytes_decides x y).0 h

pub same-self : (x : Name) → pointwise nat_eq x x ≡ true
same-self x = (bytes_decides x x).1 refl

module _ {A : Type 0} (x y : Name) (d : A) where
  twice : (b : Bool) (e : A) (r : Option A) → cond b (Some d) r ≡ cond b (Some d) (cond b (Some e) r)
  twice true e r = refl
  twice false e r = refl

  apart : (z : Name) (e : A) (r : Option A) (b c : Bool) → pointwise nat_eq x z ≡ b → pointwise nat_eq x y ≡ c → pointwise nat_eq y z ≡ false → cond b (Some e) (cond c (Some d) r) ≡ cond c (Some d) (cond b (Some e) r)
  apart z e r true true h k l = absurd (true≢false (sym (subst (λ w. pointwise nat_eq w z ≡ true) (same x y k) h) ∙ l))
  apart z e r true false h k l = refl
  apart z e r false c h k l = refl

  put_behind : (n : Name × A) (ns : List (Name × A)) → find_name x (with_name y d ns) ≡ cond (pointwise nat_eq x y) (Some d) (find_name x ns) → (b : Bool) → pointwise nat_eq y n.0 ≡ b
      → find_name x (cond b ((n.0, d) ∷ ns) (n ∷ with_name y d ns)) ≡ cond (pointwise nat_eq x y) (Some d) (cond (pointwise nat_eq x n.0) (Some n.1) (find_name x ns))
  put_behind n ns rest true h = twice (pointwise nat_eq x n.0) n.1 (find_name x ns) ∙ ap (λ z. cond (pointwise nat_eq x z) (Some d) (cond (pointwise nat_eq x n.0) (Some n.1) (find_name x ns))) (sym (same y n.0 h))
  put_behind n ns rest false h =
      ap (λ r. cond (pointwise nat_eq x n.0) (Some n.1) r) rest ∙ apart n.0 n.1 (find_name x ns) (pointwise nat_eq x n.0) (pointwise nat_eq x y) refl refl h

  pub find-with_name : (ns : List (Name × A)) → find_name x (with_name y d ns) ≡ cond (pointwise nat_eq x y) (Some d) (find_name x ns)
  find-with_name [] = refl
  find-with_name (n ∷ ns) = put_behind n ns (find-with_name ns) (pointwise nat_eq y n.0) refl

-- ---- one more is declared

abbrev if_named : ℕ → Name → Option Name → Option ℕ
if_named i x key = cond (has_name x key) (Some i) None

named-by_key : (x : Name) (l : Linkage) (name : Option Name) → (is_linked l && has_name x name) ≡ has_name x (key_if (is_linked l) name)
named-by_key x linkage.External name = refl
named-by_key x linkage.Internal name = refl
named-by_key x linkage.Local name = refl

linked-one : (i : ℕ) (x : Name) (d : Declared) → linked_from i x (d ∷ []) ≡ if_named i x (key_in d)
linked-one i x d = ap (λ b. cond b (Some i) None) (named-by_key x d.linkage d.name)

behind_first : (b : Bool) (i : ℕ) (all rest last : Option ℕ) → all ≡ or_else rest last → cond b (Some i) all ≡ or_else (cond b (Some i) rest) last
behind_first true i all rest last h = refl
behind_first false i all rest last h = h

pub linked_from-added : (i : ℕ) (x : Name) (ds : List Declared) (d : Declared) → linked_from i x (ds ++ d ∷ []) ≡ or_else (linked_from i x ds) (if_named (i + length ds) x (key_in d))
linked_from-added i x [] d = linked-one i x d ∙ ap (λ n. if_named n x (key_in d)) (sym (add-zero i))
linked_from-added i x (e ∷ ds) d =
    let n : suc i + length ds ≡ i + length (e ∷ ds) = omega arith in
    behind_first (is_linked e.linkage && has_name x e.name) i (linked_from (suc i) x (ds ++ d ∷ [])) (linked_from (suc i) x ds) (if_named (i + length (e ∷ ds)) x (key_in d))
    (linked_from-added (suc i) x ds d ∙ ap (λ n. or_else (linked_from (suc i) x ds) (if_named n x (key_in d))) n)

or_none : {A : Type 0} (o : Option A) → or_else o None ≡ o
or_none None = refl
or_none (Some a) = refl

pub index-unnamed : (ds : List Declared) (d : Declared) (es : List (Key × ℕ)) → IsIndex ds es → key_in d ≡ None → IsIndex (ds ++ d ∷ []) es
index-unnamed ds d es is none x = linked_from-added 0 x ds d ∙ (ap (λ k. or_else (linked_from 0 x ds) (if_named (0 + length ds) x k)) none ∙ (or_none (linked_from 0 x ds) ∙ is x))

module _ (ds : List Declared) (d : Declared) (es : List (Key × ℕ)) (k : Name) (is : IsIndex ds es) (key : key_in d ≡ Some k) where
  added : (x : Name) → linked_from 0 x (ds ++ d ∷ []) ≡ or_else (find_name x (named_entries es)) (cond (pointwise nat_eq x k) (Some (length ds)) None)
  added x =
      let n : 0 + length ds ≡ length ds = omega arith in
      linked_from-added 0 x ds d ∙ (ap (λ m. or_else (linked_from 0 x ds) (if_named (0 + length ds) x m)) key
      ∙ (ap (λ o. or_else o (if_named (0 + length ds) x (Some k))) (is x) ∙ ap (λ m. or_else (find_name x (named_entries es)) (if_named m x (Some k))) n))

  again : (x : Name) (o : Option ℕ) (b : Bool) (j : ℕ) → (b ≡ true → o ≡ Some j) → or_else o (cond b (Some (length ds)) None) ≡ o
  again x None true j h = absurd (let e : None ≡ Some j = h refl in cc)
  again x None false j h = refl
  again x (Some a) b j h = refl

  -- the name is declared already
  pub index-again : (j : ℕ) → lookup (λ m. pointwise nat_eq k m.items) es ≡ Some j → IsIndex (ds ++ d ∷ []) es
  index-again j found x =
      added x ∙ again x (find_name x (named_entries es)) (pointwise nat_eq x k) j (λ h. ap (λ y. find_name y (named_entries es)) (same x k h) ∙ (find-entries k es ∙ found))

  first : (x : Name) (o : Option ℕ) (b : Bool) → (b ≡ true → o ≡ None) → or_else o (cond b (Some (length ds)) None) ≡ cond b (Some (length ds)) o
  first x None true h = refl
  first x None false h = refl
  first x (Some a) true h = absurd (let e : Some a ≡ None = h refl in cc)
  first x (Some a) false h = refl

  -- it is new
  pub index-new : (name : Key) → name.items ≡ k → (i : ℕ) (new : List (Key × ℕ)) → i ≡ length ds → lookup (λ m. pointwise nat_eq k m.items) es ≡ None
      → new ≡ insert_entry (λ a b. pointwise nat_eq a.items b.items) es name i → IsIndex (ds ++ d ∷ []) new
  index-new name spelt i new n found put x =
      added x ∙ (first x (find_name x (named_entries es)) (pointwise nat_eq x k) (λ h. ap (λ y. find_name y (named_entries es)) (same x k h) ∙ (find-entries k es ∙ found))
      ∙ (ap (λ m. cond (pointwise nat_eq x k) (Some m) (find_name x (named_entries es))) (sym n)
      ∙ (sym (find-with_name x k i (named_entries es)) ∙ (ap (λ y. find_name x (with_name y i (named_entries es))) (sym spelt) ∙ ap (find_name x) (sym (inserted name i es)) ∙ ap (λ fs. find_name x (named_entries fs)) (sym put)))))

none_of : {A : Type 0} (o : Option A) → is_some o ≡ false → o ≡ None
none_of None h = refl
none_of (Some a) h = absurd (true≢false h)

module _ (ds : List Declared) (d : Declared) (es : List (Key × ℕ)) (k : Name) (is : IsIndex ds es) (key : key_in d ≡ Some k) where
  there : (o : Option ℕ) → lookup (λ m. pointwise nat_eq k m.items) es ≡ o → is_some o ≡ true → IsIndex (ds ++ d ∷ []) es
  there None found h = absurd (true≢false (sym h))
  there (Some j) found h = index-again ds d es k is key j found

  pub index-there : is_some (lookup (λ m. pointwise nat_eq k m.items) es) ≡ true → IsIndex (ds ++ d ∷ []) es
  index-there h = there (lookup (λ m. pointwise nat_eq k m.items) es) refl h

  pub index-absent : (name : Key) → name.items ≡ k → (i : ℕ) (new : List (Key × ℕ)) → i ≡ length ds → is_some (lookup (λ m. pointwise nat_eq k m.items) es) ≡ false
      → new ≡ insert_entry (λ a b. pointwise nat_eq a.items b.items) es name i → IsIndex (ds ++ d ∷ []) new
  index-absent name spelt i new n h put = index-new ds d es k is key name spelt i new n (none_of (lookup (λ m. pointwise nat_eq k m.items) es) h) put

-- what a key finds, by the bytes that it is asked by
pub found-by : (asked : Name) (k : Name) (r : Option (Bor ℕ)) (es : List (Key × ℕ)) (b : Bool) → asked ≡ k → option_copied r ≡ lookup (λ m. pointwise nat_eq asked m.items) es → b ≡ is_some r
    → is_some (lookup (λ m. pointwise nat_eq k m.items) es) ≡ b
found-by asked k r es b same value is = ap (λ y. is_some (lookup (λ m. pointwise nat_eq y m.items) es)) (sym same) ∙ (ap is_some (sym value) ∙ (copied_some r ∙ sym is))

-- ---- the last goes

below_first : (b : Bool) (i j n : ℕ) (rest : Option ℕ) → i < n → (rest ≡ Some j → j < n) → cond b (Some i) rest ≡ Some j → j < n
below_first true i j n rest h k e = let f : i ≡ j = cc in omega arith
below_first false i j n rest h k e = k e

pub linked_from-below : (i : ℕ) (x : Name) (ds : List Declared) (j : ℕ) → linked_from i x ds ≡ Some j → j < i + length ds
linked_from-below i x [] j h = absurd (cc)
linked_from-below i x (d ∷ ds) j h =
    below_first (is_linked d.linkage && has_name x d.name) i j (i + length (d ∷ ds)) (linked_from (suc i) x ds) (omega arith) (λ k. let e : j < suc i + length ds = linked_from-below (suc i) x ds j k in omega arith) h

pub unnamed-index : (ds : List Declared) (d : Declared) (es : List (Key × ℕ)) → IsIndex (ds ++ d ∷ []) es → key_in d ≡ None → IsIndex ds es
unnamed-index ds d es is none x = sym (or_none (linked_from 0 x ds)) ∙ (ap (λ k. or_else (linked_from 0 x ds) (if_named (0 + length ds) x k)) (sym none) ∙ (sym (linked_from-added 0 x ds d) ∙ is x))

module _ (ds : List Declared) (d : Declared) (es : List (Key × ℕ)) (k : Name) (is : IsIndex (ds ++ d ∷ []) es) (key : key_in d ≡ Some k) where
  with_last : (x : Name) → find_name x (named_entries es) ≡ or_else (linked_from 0 x ds) (cond (pointwise nat_eq x k) (Some (length ds)) None)
  with_last x =
      let n : 0 + length ds ≡ length ds = omega arith in
      sym (is x) ∙ (linked_from-added 0 x ds d ∙ (ap (λ m. or_else (linked_from 0 x ds) (if_named (0 + length ds) x m)) key ∙ ap (λ m. or_else (linked_from 0 x ds) (if_named m x (Some k))) n))

  earlier : (x : Name) (o : Option ℕ) (b : Bool) → ((b ≡ true) → or_else o (Some (length ds)) ≡ Some (length ds) → ⊥) → o ≡ or_else o (cond b (Some (length ds)) None)
  earlier x None true h = absurd (h refl refl)
  earlier x None false h = refl
  earlier x (Some a) b h = refl

  -- there is an earlier one of its name
  pub index-earlier : (lookup (λ m. pointwise nat_eq k m.items) es ≡ Some (length ds) → ⊥) → IsIndex ds es
  index-earlier other x =
      earlier x (linked_from 0 x ds) (pointwise nat_eq x k) (λ h l. other (sym (find-entries k es) ∙ (ap (λ y. find_name y (named_entries es)) (sym (same x k h)) ∙ (with_last x ∙ (ap (λ b. or_else (linked_from 0 x ds) (cond b (Some (length ds)) None)) h ∙ l)))))
      ∙ sym (with_last x)

  -- it is the first of its name
  none_before : (o : Option ℕ) → ((j : ℕ) → o ≡ Some j → j < length ds) → or_else o (Some (length ds)) ≡ Some (length ds) → o ≡ None
  none_before None h e = refl
  none_before (Some a) h e = let l : a < length ds = h a refl in let f : a ≡ length ds = cc in absurd (omega arith)

  removed_first : (x : Name) → pointwise nat_eq x k ≡ false → (f : Key × ℕ) (fs : List (Key × ℕ)) → find_name x (named_entries (remove_entry (λ m. pointwise nat_eq k m.items) fs)) ≡ find_name x (named_entries fs)
      → (b : Bool) → pointwise nat_eq k f.0.items ≡ b
      → find_name x (named_entries (cond b fs (f ∷ remove_entry (λ m. pointwise nat_eq k m.items) fs))) ≡ cond (pointwise nat_eq x f.0.items) (Some f.1) (find_name x (named_entries fs))
  removed_first x h f fs rest true e =
      let other : pointwise nat_eq x f.0.items ≡ false = subst (λ y. pointwise nat_eq x y ≡ false) (same k f.0.items e) h in
      sym (ap (λ b. cond b (Some f.1) (find_name x (named_entries fs))) other)
  removed_first x h f fs rest false e = ap (λ r. cond (pointwise nat_eq x f.0.items) (Some f.1) r) rest

  removed : (x : Name) → pointwise nat_eq x k ≡ false → (fs : List (Key × ℕ)) → find_name x (named_entries (remove_entry (λ m. pointwise nat_eq k m.items) fs)) ≡ find_name x (named_entries fs)
  removed x h [] = refl
  removed x h (f ∷ fs) = removed_first x h f fs (removed x h fs) (pointwise nat_eq k f.0.items) refl

  pub index-gone : (new : List (Key × ℕ)) → lookup (λ m. pointwise nat_eq k m.items) es ≡ Some (length ds) → new ≡ remove_entry (λ m. pointwise nat_eq k m.items) es
      → lookup (λ m. pointwise nat_eq k m.items) new ≡ None → IsIndex ds new
  index-gone new found gone none x = by (pointwise nat_eq x k) refl
    where
      by : (b : Bool) → pointwise nat_eq x k ≡ b → linked_from 0 x ds ≡ find_name x (named_entries new)
      by true h =
          let here : find_name x (named_entries es) ≡ Some (length ds) = ap (λ y. find_name y (named_entries es)) (same x k h) ∙ (find-entries k es ∙ found) in
          let last : or_else (linked_from 0 x ds) (Some (length ds)) ≡ Some (length ds) = sym (with_last x ∙ ap (λ b. or_else (linked_from 0 x ds) (cond b (Some (length ds)) None)) h) ∙ here in
          none_before (linked_from 0 x ds) (λ j e. let l : j < 0 + length ds = linked_from-below 0 x ds j e in omega arith) last
          ∙ (sym none ∙ (sym (find-entries k new) ∙ ap (λ y. find_name y (named_entries new)) (sym (same x k h))))
      by false h =
          sym (or_none (linked_from 0 x ds)) ∙ (ap (λ b. or_else (linked_from 0 x ds) (cond b (Some (length ds)) None)) (sym h) ∙ (sym (with_last x) ∙ (sym (removed x h es) ∙ ap (λ fs. find_name x (named_entries fs)) (sym gone))))

-- ---- one is changed, but for its name and its linkage

pub change_at-set : {X : Type 0} (f : X → X) (xs : List X) (i : ℕ) (x : X) → x ≡ get_or xs i x → set xs i (f x) ≡ change_at i f xs
change_at-set f [] i x h = refl
change_at-set f (y ∷ xs) zero x h = ap (λ z. f z ∷ xs) h
change_at-set f (y ∷ xs) (suc i) x h = ap (λ r. y ∷ r) (change_at-set f xs i x h)

pub change_at-past : {X : Type 0} (f : X → X) (xs : List X) (i : ℕ) → length xs ≤ i → xs ≡ change_at i f xs
change_at-past f [] i h = refl
change_at-past f (x ∷ xs) zero h = absurd (omega arith)
change_at-past f (x ∷ xs) (suc i) h = ap (λ r. x ∷ r) (change_at-past f xs i (omega arith))

linked-set : (i : ℕ) (x : Name) (ds : List Declared) (j : ℕ) (d e : Declared) → d ≡ get_or ds j d → e.name ≡ d.name → e.linkage ≡ d.linkage → linked_from i x (set ds j e) ≡ linked_from i x ds
linked-set i x [] j d e h n l = refl
linked-set i x (c ∷ ds) zero d e h n l = λ k. cond (is_linked ((l ∙ ap (λ (y : Declared). y.linkage) h) k) && has_name x ((n ∙ ap (λ (y : Declared). y.name) h) k)) (Some i) (linked_from (suc i) x ds)
linked-set i x (c ∷ ds) (suc j) d e h n l = ap (λ r. cond (is_linked c.linkage && has_name x c.name) (Some i) r) (linked-set (suc i) x ds j d e h n l)

pub index-set : (ds : List Declared) (es : List (Key × ℕ)) (j : ℕ) (d e : Declared) → IsIndex ds es → d ≡ get_or ds j d → e.name ≡ d.name → e.linkage ≡ d.linkage → IsIndex (set ds j e) es
index-set ds es j d e is h n l x = linked-set 0 x ds j d e h n l ∙ is x

-- ---- the last element apart

pub last-apart : {X : Type 0} (xs : List X) (i : ℕ) (x : X) → i + 1 ≡ length xs → x ≡ get_or xs i x → take i xs ++ x ∷ [] ≡ xs
last-apart xs i x long is = ap (λ y. take i xs ++ y ∷ []) is ∙ (sym (take_more xs i x (omega (arith, long))) ∙ take_all (i + 1) xs (omega (arith, long)))

pub last-at : {X : Type 0} (xs : List X) (x d : X) → get_or (xs ++ x ∷ []) (length xs) d ≡ x
last-at [] x d = refl
last-at (y ∷ xs) x d = last-at xs x d

-- what a result says where it is no error, and where it is one
pub ok-says : {A E P : Type 0} (r : Result A E) → is_err r ≡ false → OnOk r P → P
ok-says (Ok x) h p = p
ok-says (Err e) h p = absurd (true≢false h)

pub err-says : {A E P : Type 0} (r : Result A E) → is_err r ≡ true → OnErr r P → P
err-says (Ok x) h p = absurd (true≢false (sym h))
err-says (Err e) h p = p

pub ruleset of_laws = (find-with_name)

pub ruleset of_linked = (index-unnamed, unnamed-index, find-entries)

-- ---- fewer stay

pub take-shorter : {X : Type 0} (m n : ℕ) (xs : List X) → m ≤ n → take m (take n xs) ≡ take m xs
take-shorter zero n xs h = refl
take-shorter (suc m) zero xs h = absurd (omega arith)
take-shorter (suc m) (suc n) [] h = refl
take-shorter (suc m) (suc n) (x ∷ xs) h = ap (λ r. x ∷ r) (take-shorter m n xs (omega arith))

pub ruleset of_fewer = (take-shorter)

pub ruleset of_changes = (change_at-set, change_at-past, index-set)
