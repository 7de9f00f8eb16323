-- One more point: the accesses of a key at the first points, and then at one more.
use Rattle.std.proofs.Common.{arith, ◌≡◌, ◌<◌, ◌≤◌, ◌+◌, ◌-◌, ℕ, zero, suc, Bool, true, false, true≢false, nat_eq, List, [], ◌∷◌, ◌++◌, length, get_or, Option, Some, None, refl, ap, sym, subst, ◌∙◌, inl, inr}
use Rattle.std.specs.Prelude.{◌⊎◌, slice_get, if◌then◌else◌}
use Rattle.std.specs.List.{Contains, list_any}
use Rattle.std.specs.Option.{option_map_or}
use Rattle.std.proofs.lemmas.Bool.{cases_lt}
use Rattle.std.proofs.lemmas.List.Elements.{Contains-append_cases, Contains-append_left, Contains-append_right}
use Rattle.std.proofs.lemmas.List.Quantifiers.{all_pairs_push}
use Rattle.std.proofs.lemmas.Option.{slice_get-get_or, slice_get_within}
use Rattle.cc_state_points.specs.CcFlow.Points.{flow_of}
use Rattle.cc_program.specs.declared.expr.Place.{Place}
use Rattle.cc_program.specs.declared.func.Func.{Func}
use Rattle.cc_program.specs.declared.program.Program.{Program}
use Rattle.cc_slots_accesses.specs.declared.access.Access.{Access}
use Rattle.cc_slots_accesses.specs.Accesses.{AccessesAt}
use Rattle.cc_slots_accesses.specs.Puts.{ends_at, of_number, put_behind}
use Rattle.cc_slots_accesses.proofs.Listed.{contains_at, is_one, no_member, only_one, same_key}
use Rattle.cc_slots_points.proofs.Acting.{one_access, same_func, same_id}
use Rattle.cc_slots_points.proofs.ContextLemmas.{IsSeen, is_seen}
use Rattle.cc_slots_points.proofs.Tests.{here, own_key, there, unequal}
use Rattle.cc_slots_points.specs.Lists.{AreAccessesBelow, AreLists, AreListsBelow, IsAccessAt, IsListed, Names}
use Rattle.cc_slots_points.specs.Points.{IsPassed, Quiet, Visited}
use Rattle.cc_state_points.specs.CcStateFacts.declared.facts.Facts.{Facts}
use Rattle.cc_state_points.specs.CcStateFacts.declared.facts.Key.{Key}
use Rattle.cc_state_points.specs.CcStateKeys.Keys.{is_key, key_number, keys_of}
use Rattle.cc_state_points.specs.CcStateOperators.Domains.{Domain}

-- ---- an access of a later point is put

not_last : (l : List Access) (n : ℕ) → ((it : Access) → Contains l it → it.point < n) → ends_at l n ≡ false
not_last l n below = by (slice_get l (length l - 1)) refl
  where
    by : (o : Option Access) → slice_get l (length l - 1) ≡ o → option_map_or (λ (x : Access). nat_eq x.point n) o false ≡ false
    by None e = refl
    by (Some x) e = unequal x.point n (below x (contains_at l (length l - 1) x e))

is_put : (l : List Access) (it : Access) → ((x : Access) → Contains l x → x.point < it.point) → put_behind l it ≡ l ++ it ∷ []
is_put l it below = ap (λ b. if b then l else l ++ it ∷ []) (not_last l it.point below)

-- ---- a number below the next one

below_next : (m n : ℕ) → m < n + 1 → (m < n) ⊎ (m ≡ n)
below_next m n h = by (cases_lt m n)
  where
    by : (m < n) ⊎ (n ≤ m) → (m < n) ⊎ (m ≡ n)
    by (inl l) = inl l
    by (inr l) = inr (omega (arith, h, l))

same_or_not : (k : Key) (named : List Key) → Contains named k ⊎ (Contains named k → ⊥)
same_or_not k named = by (list_any (is_key k) named) refl
  where
    by : (b : Bool) → list_any (is_key k) named ≡ b → Contains named k ⊎ (Contains named k → ⊥)
    by true e = let w = there (is_key k) named e in inl (subst (λ (z : Key). Contains named z) (sym (same_key k w.0 w.2)) w.1)
    by false e = inr (λ m. true≢false (sym (here (is_key k) named k m (own_key k)) ∙ e))

module _ {I : Type 0} (d : Domain I) (p : Program) (facts : Facts I) (k : Key) where
  abbrev Below : ℕ → List Access → Type 0
  Below count l = AreAccessesBelow d p facts k count l

  -- the same access, at the number that it has
  at_own : (n : ℕ) (writes : Bool) (it : Access) → it.point ≡ n → it.writes ≡ writes → IsAccessAt d p facts k n writes it → IsAccessAt d p facts k it.point it.writes it
  at_own n writes it e w h =
      subst (λ (b : Bool). IsAccessAt d p facts k it.point b it) (sym w) (subst (λ (m : ℕ). IsAccessAt d p facts k m writes it) (sym e) h)

  -- what is listed stays so
  more_listed : (l : List Access) (it : Access) (n : ℕ) (writes : Bool) → IsListed d p facts k l n writes → IsListed d p facts k (l ++ it ∷ []) n writes
  more_listed l it n writes w = (w.0, Contains-append_left l (it ∷ []) w.0 w.1, w.2, w.3)

  module _ (i : ℕ) (l : List Access) (h : Below i l) where
    -- where no access is of the key
    stays : ((writes : Bool) (a : Place) (at : AccessesAt p i writes a) → Names d p facts k i at.id at.func a → ⊥) → Below (i + 1) l
    stays none = record {
      each = h.each;
      all = λ n writes a at lt names. elim (below_next n i lt) [
        | inl m ↦ h.all n writes a at m names
        | inr e ↦ absurd (at_point n e writes a at names)
      ];
      below = λ it m. let b = h.below it m in omega (arith, b);
      ascend = h.ascend;
    }
      where
        at_point : (n : ℕ) → n ≡ i → (writes : Bool) (a : Place) (at : AccessesAt p n writes a) → Names d p facts k n at.id at.func a → ⊥
        at_point n e = let P : ℕ → Type 0 = λ m. (writes : Bool) (a : Place) (at : AccessesAt p m writes a) → Names d p facts k m at.id at.func a → ⊥ in subst P (sym e) none

    module _ (writes : Bool) (it : Access) (stands : it.point ≡ i) (kind : it.writes ≡ writes) (is : IsAccessAt d p facts k i writes it) (same : (v : Bool) (b : Place) → AccessesAt p i v b → writes ≡ v) where
      all_below : (x : Access) → Contains l x → x.point < it.point
      all_below x m = let b = h.below x m in omega (arith, b, stands)

      at_last : (n : ℕ) → n ≡ i → (v : Bool) (b : Place) → AccessesAt p n v b → IsListed d p facts k (l ++ it ∷ []) n v
      at_last n e v b at = (it, Contains-append_right l (it ∷ []) it (is_one it it refl), stands ∙ sym e, kind ∙ same v b (subst (λ (m : ℕ). AccessesAt p m v b) e at))

      -- where it is
      grows : Below (i + 1) (l ++ it ∷ [])
      grows = record {
        each = λ x m. elim (Contains-append_cases l (it ∷ []) x m) [
          | inl w ↦ h.each x w
          | inr w ↦ subst (λ (z : Access). IsAccessAt d p facts k z.point z.writes z) (only_one it x w) (at_own i writes it stands kind is)
        ];
        all = λ n v b at lt names. elim (below_next n i lt) [
          | inl m ↦ more_listed l it n v (h.all n v b at m names)
          | inr e ↦ at_last n e v b at
        ];
        below = λ x m. elim (Contains-append_cases l (it ∷ []) x m) [
          | inl w ↦ (let b = h.below x w in omega (arith, b))
          | inr w ↦ subst (λ (z : Access). z.point < i + 1) (only_one it x w) (omega (arith, stands))
        ];
        ascend = all_pairs_push (λ (x y : Access). x.point < y.point) l it h.ascend (λ j e lt. all_below (get_or l j e) (contains_at l j (get_or l j e) (slice_get-get_or l j e lt)));
      }

  module _ (number i : ℕ) (is : key_number p k ≡ Some number) (old new : List (List Access)) (h : Below i (of_number old number)) where
    abbrev After : List Access → Type 0
    After l = Below (i + 1) l

    of_seen : (writes : Bool) (a : Place) (at : AccessesAt p i writes a) → IsSeen d p facts i writes a at old new → After (of_number new number)
    of_seen writes a at s = by (same_or_not k s.named)
      where
        there_named : (v : Bool) (b : Place) (x : AccessesAt p i v b) → Names d p facts k i x.id x.func b → Contains s.named k
        there_named v b x names =
            let one = one_access p i v writes b a x at in
            let placed = subst (λ (z : Place). Names d p facts k i x.id x.func z) one.place names in
            let called = subst (λ (z : Func). Names d p facts k i x.id z a) (same_func p i v writes b a x at) placed in
            (s.keys k).1 (subst (λ (z : ℕ). Names d p facts k i z at.func a) (same_id p i v writes b a x at) called)

        by : Contains s.named k ⊎ (Contains s.named k → ⊥) → After (of_number new number)
        by (inr not) = subst After (sym (s.put.kept k number is not)) (stays i (of_number old number) h (λ v b x names. not (there_named v b x names)))
        by (inl m) =
            let own = s.is_access k ((s.keys k).0 m) in
            let same = λ (v : Bool) (b : Place) (x : AccessesAt p i v b). (one_access p i writes v a b at x).kind in
            let put : of_number new number ≡ of_number old number ++ s.access ∷ [] =
            s.put.put k number is m ∙ is_put (of_number old number) s.access (all_below i (of_number old number) h writes s.access s.stands s.kind own same) in
            subst After (sym put) (grows i (of_number old number) h writes s.access s.stands s.kind own same)

    pub one_more : IsPassed d p facts i old new → After (of_number new number)
    one_more (Quiet none same) = subst (λ (z : List (List Access)). After (of_number z number)) (sym same) (stays i (of_number old number) h (λ v b x names. none v b x))
    one_more (Visited writes a at c context v) = of_seen writes a at (is_seen d p facts i writes a at c context old new v)

-- ---- all keys

long : {I : Type 0} (d : Domain I) (p : Program) (facts : Facts I) (i : ℕ) (old new : List (List Access)) → IsPassed d p facts i old new → length new ≡ length old
long d p facts i old new (Quiet none same) = ap length same
long d p facts i old new (Visited writes a at c context v) = v.is_put.count

module _ {I : Type 0} (d : Domain I) (p : Program) (facts : Facts I) where
  pub next_lists : (i : ℕ) (old new : List (List Access)) → AreListsBelow d p facts i old → IsPassed d p facts i old new → AreListsBelow d p facts (i + 1) new
  next_lists i old new h passed = record {
    length_is = long d p facts i old new passed ∙ h.length_is;
    each = λ k number is. one_more d p facts k number i is old new (h.each k number is) passed;
  }

  none_yet : (k : Key) (l : List Access) → l ≡ [] → AreAccessesBelow d p facts k 0 l
  none_yet k l e = subst (AreAccessesBelow d p facts k 0) (sym e) (record {
    each = λ it m. no_member it m;
    all = λ n writes a at lt names. absurd (omega (arith, lt));
    below = λ it m. no_member it m;
    ascend = λ i j e lt there. absurd (omega (arith, there));
  })

  pub first_lists : (lists : List (List Access)) → length lists ≡ length (keys_of p) → ((n : ℕ) → of_number lists n ≡ []) → AreListsBelow d p facts 0 lists
  first_lists lists long empty = record { length_is = long; each = λ k number is. none_yet k (of_number lists number) (empty number) }

  pub all_lists : (count : ℕ) (lists : List (List Access)) → length (flow_of p).points ≤ count → AreListsBelow d p facts count lists → AreLists d p facts lists
  all_lists count lists enough h = record {
    length_is = h.length_is;
    each = λ k number is. let own = h.each k number is in record {
      each = own.each;
      all = λ n writes a at names. own.all n writes a at (let lt = slice_get_within (flow_of p).points n at.point at.here.numbered in omega (arith, lt, enough)) names;
      ascend = own.ascend;
    };
  }

-- ---- lists with nothing in them

pub more_empty : (ls : List (List Access)) → ((n : ℕ) → of_number ls n ≡ []) → (n : ℕ) → of_number (ls ++ [] ∷ []) n ≡ []
more_empty [] h zero = refl
more_empty [] h (suc n) = refl
more_empty (l ∷ ls) h zero = h 0
more_empty (l ∷ ls) h (suc n) = more_empty ls (λ m. h (suc m)) n
