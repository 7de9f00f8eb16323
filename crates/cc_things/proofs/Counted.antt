-- Mentions source by source, and name by name.
use Rattle.std.proofs.Common.{◌≡◌, ◌∙◌, ◌+◌, ◌<◌, ◌≤◌, ℕ, zero, suc, Bool, true, false, List, [], ◌∷◌, ◌++◌, length, map, get_or, take, drop, refl, ap, sym, subst, arith, append_assoc, length-take-le, zero-add}
use Rattle.std.specs.List.{list_any}
use Rattle.std.specs.Prelude.{nat_eq, nat_lt, sum_by, ◌||◌}
use Rattle.std.proofs.lemmas.Bool.{lt-ltb, le-ltb}
use Rattle.std.proofs.lemmas.List.Folds.{list_any_more}
use Rattle.std.proofs.lemmas.List.Sums.{sum_by-cons, sum_by_more, sum_by_more_le}
use Rattle.std.proofs.lemmas.List.{map-append, append-nil, take_more}
use Rattle.cc_things.specs.Mentions.{Mention, mentions_in, mentions_of, mentions_from, mentions}
use Rattle.cc_things.specs.View.{view_of, views_of}
use Rattle.cc_things.specs.declared.mention.Mention.{Mention as MentionOf}
use Rattle.cc_things.specs.declared.text.Text.{Text}
use Rattle.cc_unit.specs.declared.unit.UnitName.{UnitName}

abbrev pub mention : ℕ → List ℕ → ℕ → UnitName → Mention
mention text numbers i n = record { text = text; position = i; used = list_any (nat_eq i) numbers; name = n }

mentions_in-append : (text : ℕ) (numbers : List ℕ) (i : ℕ) (ns : List UnitName) (n : UnitName) →
    mentions_in text numbers i (ns ++ n ∷ []) ≡ mentions_in text numbers i ns ++ mention text numbers (i + length ns) n ∷ []
mentions_in-append text numbers i [] n = let e : i + 0 ≡ i = omega arith in rw e refl
mentions_in-append text numbers i (x ∷ ns) n =
    let e : i + suc (length ns) ≡ suc i + length ns = omega arith in
    rw (e, mentions_in-append text numbers (suc i) ns n) refl

-- a name more
pub mentions_in-more : (text : ℕ) (numbers : List ℕ) (ns : List UnitName) (n : UnitName) →
    mentions_in text numbers 0 (ns ++ n ∷ []) ≡ mentions_in text numbers 0 ns ++ mention text numbers (length ns) n ∷ []
mentions_in-more text numbers ns n = mentions_in-append text numbers 0 ns n ∙ ap (λ k. mentions_in text numbers 0 ns ++ mention text numbers k n ∷ []) (zero-add (length ns))

mentions_from-append : (text : ℕ) (xs : List Text) (x : Text) → mentions_from text (xs ++ x ∷ []) ≡ mentions_from text xs ++ mentions_of (text + length xs) x
mentions_from-append text [] x = let e : text + 0 ≡ text = omega arith in rw e (append-nil (mentions_of text x))
mentions_from-append text (y ∷ ys) x =
    let e : text + suc (length ys) ≡ suc text + length ys = omega arith in
    rw (e, mentions_from-append (suc text) ys x) (sym (append_assoc (mentions_of text y) (mentions_from (suc text) ys) (mentions_of (suc text + length ys) x)))

-- a source more
pub mentions-more : (xs : List Text) (x : Text) → mentions (xs ++ x ∷ []) ≡ mentions xs ++ mentions_of (length xs) x
unfolding mentions
mentions-more xs x = mentions_from-append 0 xs x ∙ ap (λ k. mentions_from 0 xs ++ mentions_of k x) (zero-add (length xs))

pub mentions-nil : mentions [] ≡ []
unfolding mentions
mentions-nil = refl

pub views-more : (ms : List MentionOf) (m : MentionOf) → views_of (ms ++ m ∷ []) ≡ views_of ms ++ view_of m ∷ []
unfolding views_of
views-more ms m = map-append view_of ms (m ∷ [])

pub views-nil : views_of [] ≡ []
unfolding views_of
views-nil = refl

pub any-views : (p : Mention → Bool) (ms : List MentionOf) → list_any p (views_of ms) ≡ list_any (λ m. p (view_of m)) ms
unfolding views_of
any-views p [] = refl
any-views p (m ∷ ms) = ap (λ b. p (view_of m) || b) (any-views p ms)

pub sum-views : (f : Mention → ℕ) (ms : List MentionOf) → sum_by f (views_of ms) ≡ sum_by (λ m. f (view_of m)) ms
unfolding views_of
sum-views f [] = refl
sum-views f (m ∷ ms) =
    sum_by-cons f (view_of m) (map view_of ms) ∙ (ap (λ n. f (view_of m) + n) (sum-views f ms) ∙ sym (sum_by-cons (λ n. f (view_of n)) m ms))

-- ---- what holds of some mention, as a loop finds it

any-at : {X : Type 0} (p : X → Bool) (xs : List X) (i : ℕ) (d : X) → i < length xs → p (get_or xs i d) ≡ true → list_any p xs ≡ true
any-at p [] i d low h = absurd (omega (arith, low))
any-at p (x ∷ xs) zero d low h = rw h refl
any-at p (x ∷ xs) (suc i) d low h = by (p x) (any-at p xs i d (omega (arith, low)) h)
  where
    by : (b : Bool) → list_any p xs ≡ true → (b || list_any p xs) ≡ true
    by true e = refl
    by false e = e

module _ (p : Mention → Bool) (ms xs : List MentionOf) (i : ℕ) (m : MentionOf) (same : xs ≡ ms) (low : i < length xs) (is : m ≡ get_or xs i m) where
  pub any-found : p (view_of m) ≡ true → true ≡ list_any p (views_of ms)
  any-found h = sym (any-views p ms ∙ subst (λ ys. list_any (λ n. p (view_of n)) ys ≡ true) same (any-at (λ n. p (view_of n)) xs i m low (ap (λ n. p (view_of n)) (sym is) ∙ h)))

  pub any-not : list_any p (views_of (take i ms)) ≡ false → p (view_of m) ≡ false → list_any p (views_of (take (i + 1) ms)) ≡ false
  any-not before h =
      any-views p (take (i + 1) ms)
      ∙ subst (λ ys. list_any (λ n. p (view_of n)) (take (i + 1) ys) ≡ false) same
      (list_any_more (λ n. p (view_of n)) xs i m low
      ∙ neither (list_any (λ n. p (view_of n)) (take i xs)) (p (view_of (get_or xs i m)))
      (subst (λ ys. list_any (λ n. p (view_of n)) (take i ys) ≡ false) (sym same) (sym (any-views p (take i ms)) ∙ before)) (ap (λ n. p (view_of n)) (sym is) ∙ h))
    where
      neither : (a b : Bool) → a ≡ false → b ≡ false → (a || b) ≡ false
      neither a b ha hb = rw (ha, hb) refl

pub positive : (n : ℕ) → 0 < n → nat_lt 0 n ≡ true
positive n h = lt-ltb 0 n h

pub not-positive : (n : ℕ) → n ≤ 0 → nat_lt 0 n ≡ false
not-positive n h = le-ltb 0 n h

-- ---- how many definitions

module _ (f : Mention → ℕ) (ms xs : List MentionOf) (i : ℕ) (m : MentionOf) (same : xs ≡ ms) (low : i < length xs) (is : m ≡ get_or xs i m) where
  pub sum-more : sum_by f (views_of (take (i + 1) ms)) ≡ sum_by f (views_of (take i ms)) + f (view_of m)
  sum-more =
      sum-views f (take (i + 1) ms)
      ∙ (subst (λ ys. sum_by (λ n. f (view_of n)) (take (i + 1) ys) ≡ sum_by (λ n. f (view_of n)) (take i ys) + f (view_of m)) same
      (sum_by_more (λ n. f (view_of n)) xs i m low ∙ ap (λ n. sum_by (λ n. f (view_of n)) (take i xs) + f (view_of n)) (sym is))
      ∙ ap (λ n. n + f (view_of m)) (sym (sum-views f (take i ms))))

  pub sum-all : sum_by f (views_of (take i ms)) + f (view_of m) ≤ sum_by f (views_of ms)
  sum-all =
      let part = subst (λ ys. sum_by (λ n. f (view_of n)) (take i ys) + f (view_of m) ≤ sum_by (λ n. f (view_of n)) ys) same
      (subst (λ n. sum_by (λ n. f (view_of n)) (take i xs) + f (view_of n) ≤ sum_by (λ n. f (view_of n)) xs) (sym is) (sum_by_more_le (λ n. f (view_of n)) xs i m low)) in
      let front = sum-views f (take i ms) in
      let whole = sum-views f ms in
      omega (arith, part, front, whole)

pub more-than-one : (n : ℕ) → 1 < n → true ≡ nat_lt 1 n
more-than-one n h = sym (lt-ltb 1 n h)

pub ruleset of_views = (any-views, sum-views)

-- ---- a name more, and a source more, as a loop finds them

pub put-more : (text : ℕ) (numbers : List ℕ) (names : List UnitName) (i : ℕ) (n : UnitName) (m : MentionOf) (old new : List MentionOf) (base : List Mention) →
    new ≡ old ++ m ∷ [] → views_of old ≡ base ++ mentions_in text numbers 0 (take i names) → i < length names → n ≡ get_or names i n → view_of m ≡ mention text numbers i n →
    views_of new ≡ base ++ mentions_in text numbers 0 (take (i + 1) names)
put-more text numbers names i n m old new base pushed before low is view =
    ap views_of pushed
    ∙ (views-more old m
    ∙ (ap (λ l. l ++ view_of m ∷ []) before
    ∙ (append_assoc base (mentions_in text numbers 0 (take i names)) (view_of m ∷ [])
    ∙ ap (λ l. base ++ l) (sym
    (ap (mentions_in text numbers 0) (take_more names i n low ∙ ap (λ x. take i names ++ x ∷ []) (sym is))
    ∙ (mentions_in-more text numbers (take i names) n
    ∙ ap (λ x. mentions_in text numbers 0 (take i names) ++ x ∷ []) (ap (λ k. mention text numbers k n) (length-take-le i names (omega (arith, low))) ∙ sym view)))))))

pub source-more : (texts : List Text) (i text : ℕ) (x : Text) (old new : List MentionOf) → views_of new ≡ views_of old ++ mentions_of text x → views_of old ≡ mentions (take i texts) →
    text ≡ i → i < length texts → x ≡ get_or texts i x → views_of new ≡ mentions (take (i + 1) texts)
source-more texts i text x old new put before counted low is =
    put
    ∙ (ap (λ l. l ++ mentions_of text x) before
    ∙ sym (ap mentions (take_more texts i x low ∙ ap (λ y. take i texts ++ y ∷ []) (sym is))
    ∙ (mentions-more (take i texts) x ∙ ap (λ k. mentions (take i texts) ++ mentions_of k x) (length-take-le i texts (omega (arith, low)) ∙ sym counted))))

pub ruleset of_mentions = (mentions_in-more, mentions-more, mentions-nil, views-more, views-nil, append-nil, append_assoc)

abbrev pub made_mention : ℕ → ℕ → Bool → UnitName → Mention
made_mention text position used n = record { text = text; position = position; used = used; name = n }

-- a mention is known by its position and whether its source speaks of it
pub mention-same : (text : ℕ) (numbers : List ℕ) (i position : ℕ) (n : UnitName) (used : Bool) → position ≡ i → used ≡ list_any (nat_eq i) numbers →
    made_mention text position used n ≡ mention text numbers i n
mention-same text numbers i position n used h k =
    ap (λ (p : ℕ). made_mention text p used n) h ∙ ap (λ (u : Bool). made_mention text i u n) k

default-same : (xs : List Bool) (i : ℕ) (d e : Bool) → i < length xs → get_or xs i d ≡ get_or xs i e
default-same [] i d e low = absurd (omega (arith, low))
default-same (x ∷ xs) zero d e low = refl
default-same (x ∷ xs) (suc i) d e low = default-same xs i d e (omega (arith, low))

-- whether a name is spoken of, as its flag tells
pub used-is : (flags : List Bool) (numbers : List ℕ) (i position count : ℕ) (used : Bool) → used ≡ get_or flags position used → position ≡ i → length flags ≡ count → i < count →
    ((k : ℕ) → k < count → get_or flags k false ≡ list_any (nat_eq k) numbers) → used ≡ list_any (nat_eq i) numbers
used-is flags numbers i position count used at_position counted long low flagged =
    at_position ∙ (ap (λ k. get_or flags k used) counted ∙ (default-same flags i used false (omega (arith, low, long)) ∙ flagged i low))

pub views-take : (ms : List MentionOf) (i : ℕ) (m : MentionOf) → i < length ms → m ≡ get_or ms i m → views_of (take (i + 1) ms) ≡ views_of (take i ms) ++ view_of m ∷ []
views-take ms i m low is = ap views_of (take_more ms i m low ∙ ap (λ x. take i ms ++ x ∷ []) (sym is)) ∙ views-more (take i ms) m
