-- From the last structure to the first: where a structure stands is known when those behind it were gone through.
use Rattle.std.proofs.Common.{arith, ◌≡◌, ◌≤◌, ◌<◌, ◌+◌, ◌*◌, ◌^◌, ℕ, zero, suc, Bool, true, false, nat_eq, not, ◌&&◌, ◌||◌, List, [], ◌∷◌, ◌++◌, length, length-append, take, take_all, fold, get_or, Some, slice_get, sum_by, refl, ap, sym, subst, ◌∙◌, inl, inr, if◌then◌else◌}
use Rattle.std.specs.Prelude.{◌⊎◌}
use Rattle.std.specs.List.{list_any}
use Rattle.std.proofs.lemmas.Bool.{cases_lt}
use Rattle.std.proofs.lemmas.List.Sums.{sum_by-cons}
use Rattle.std.proofs.lemmas.Option.{get_or_from_slice_get, none-some, same_Some, slice_get-get_or, slice_get_within}
use Rattle.cc_program.specs.declared.program.Program.{Program}
use Rattle.cc_program.specs.declared.types.CType.{CType}
use Rattle.cc_program.specs.declared.types.Shape.{Shape, out-roll-Shape, roll-Shape}
use Rattle.cc_program.specs.declared.types.Shape.TheOpen as shape
use Rattle.cc_program.specs.declared.types.Sig.{Sig}
use Rattle.cc_program.specs.declared.types.Structure.{Structure}
use Rattle.cc_program.proofs.TypeInduction.{with_shape, TypeParts, by_type}
use Rattle.cc_slots_structures.specs.declared.standing.Standing.{Standing}
use Rattle.cc_slots_structures.specs.Added.{AreFrom, AreNowhere, copies_through, stands_automatic, stands_open, stands_through}
use Rattle.cc_slots_structures.specs.Copies.{capped, copies, copies_at, copies_in, copies_in_members, copies_in_ram, copies_of, copies_step, next_copies}
use Rattle.cc_slots_structures.specs.Standings.{AreStandings, IsStanding}
use Rattle.cc_slots_structures.specs.Stands.{is_automatic, is_open, next_stands, stands, stands_at, stands_in, stands_in_locals, stands_in_objects, stands_step}
use Rattle.cc_slots_structures.proofs.CopyLemmas.{copies-next, copies-roll, parts}
use Rattle.cc_slots_structures.proofs.ListLemmas.{ForLocals, ForMembers, ForObjects}
use Rattle.cc_slots_structures.proofs.StandLemmas.{stand_parts, stands-next, stands-opens}
use Rattle.cc_syntax.specs.Types.{Named}

-- ---- as many as structures

pushed_length : {A : Type 0} (next : List A → Structure → A) (xs : List Structure) (before : List A) → length (fold (λ (l : List A) (x : Structure). l ++ next l x ∷ []) before xs) ≡ length before + length xs
pushed_length next [] before = omega arith
pushed_length next (x ∷ xs) before = pushed_length next xs (before ++ next before x ∷ []) ∙ (let l = length-append before (next before x ∷ []) in omega (arith, l))

taken_length : {A : Type 0} (i : ℕ) (xs : List A) → i ≤ length xs → length (take i xs) ≡ i
taken_length zero xs le = refl
taken_length (suc i) [] le = absurd (omega (arith, le))
taken_length (suc i) (x ∷ xs) le = ap suc (taken_length i xs (omega (arith, le)))

copies_length : (s i : ℕ) (xs : List Structure) → i ≤ length xs → length (copies s (take i xs)) ≡ i
unfolding copies
copies_length s i xs le = let made = pushed_length (next_copies s) (take i xs) [] in let taken = taken_length i xs le in omega (arith, made, taken)

stands_length : (in_const : Bool) (s i : ℕ) (xs : List Structure) → i ≤ length xs → length (stands in_const s (take i xs)) ≡ i
unfolding stands
stands_length in_const s i xs le = let made = pushed_length (next_stands in_const s) (take i xs) [] in let taken = taken_length i xs le in omega (arith, made, taken)

-- ---- a structure does not stand in those before it

IsNone : List ℕ → Type 0
IsNone counts = (i : ℕ) → copies_at counts i ≡ 0

IsNever : List Bool → Type 0
IsNever there = (i : ℕ) → stands_at there i ≡ false

module _ (counts : List ℕ) (none : IsNone counts) where
  NoCopies : CType → Type 0
  NoCopies t = copies_in counts t ≡ 0

  no-step : (x : shape.Shape-F Shape CType Sig) → TypeParts NoCopies (λ s. Unit {0}) x → copies_step counts (parts counts x) ≡ 0
  unfolding NoCopies IsNone
  no-step shape.Void h = refl
  no-step (shape.Int i) h = refl
  no-step (shape.Pointer to) h = refl
  no-step (shape.Array of n) h = ap (λ m. m * n) h ∙ (let z : 0 * n ≡ 0 = omega arith in z)
  no-step (shape.Struct s) h = none s
  no-step (shape.Func sig) h = refl

  no-made : (constant volatile : Bool) (x : shape.Shape-F Shape CType Sig) → TypeParts NoCopies (λ s. Unit {0}) x → NoCopies (with_shape constant volatile (roll-Shape x))
  unfolding NoCopies
  no-made constant volatile x h = copies-roll counts constant volatile x ∙ no-step x h

  no_copies : (t : CType) → copies_in counts t ≡ 0
  unfolding NoCopies
  no_copies t = by_type NoCopies (λ s. Unit {0}) no-made (λ x h. tt) t

  no_members : (members : List Named) → copies_in_members counts members ≡ 0
  no_members [] = refl
  no_members (m ∷ members) =
      let head = no_copies m.1 in
      let rest = no_members members in
      let all = sum_by-cons (λ (m : Named). copies_in counts m.1) m members in
      omega (arith, head, rest, all)

unlike : (m n : ℕ) → m < n → nat_eq m n ≡ false
unlike m n lt = grind (arith, lt)

unlike_before : (m n : ℕ) → n < m → nat_eq m n ≡ false
unlike_before m n lt = grind (arith, lt)

alike : (m n : ℕ) → m ≡ n → nat_eq m n ≡ true
alike m n e = grind (arith, e)

none_pushed : (counts : List ℕ) (c : ℕ) → IsNone counts → c ≡ 0 → IsNone (counts ++ c ∷ [])
unfolding IsNone
none_pushed [] c h e zero = e
none_pushed [] c h e (suc i) = refl
none_pushed (x ∷ counts) c h e zero = h 0
none_pushed (x ∷ counts) c h e (suc i) = none_pushed counts c (λ j. h (suc j)) e i

next_none : (s : ℕ) (before : List ℕ) (x : Structure) → IsNone before → length before < s → next_copies s before x ≡ 0
next_none s before x h lt = ap (λ (b : Bool). if b then 1 else copies_in_members before x.members) (unlike (length before) s lt) ∙ no_members before h x.members

all_none : (s : ℕ) (xs : List Structure) (before : List ℕ) → IsNone before → length before + length xs ≤ s → IsNone (fold (λ (l : List ℕ) (x : Structure). l ++ next_copies s l x ∷ []) before xs)
all_none s [] before h le = h
all_none s (x ∷ xs) before h le =
    all_none s xs (before ++ next_copies s before x ∷ []) (none_pushed before (next_copies s before x) h (next_none s before x h (omega (arith, le))))
    (let l = length-append before (next_copies s before x ∷ []) in omega (arith, l, le))

no_copies_before : (s i : ℕ) (xs : List Structure) → i ≤ length xs → i ≤ s → IsNone (copies s (take i xs))
unfolding copies IsNone
no_copies_before s i xs le before = all_none s (take i xs) [] (λ j. refl) (let l = taken_length i xs le in omega (arith, l, before))

module _ (in_const : Bool) (there : List Bool) (never : IsNever there) where
  NotIn : CType → Type 0
  NotIn t = stands_in in_const there t ≡ false

  and_never : (b c : Bool) → c ≡ false → (b && c) ≡ false
  and_never true c e = e
  and_never false c e = refl

  not-step : (x : shape.Shape-F Shape CType Sig) → TypeParts NotIn (λ s. Unit {0}) x → stands_step there (stand_parts in_const there x) ≡ false
  unfolding NotIn IsNever
  not-step shape.Void h = refl
  not-step (shape.Int i) h = refl
  not-step (shape.Pointer to) h = refl
  not-step (shape.Array of n) h = h
  not-step (shape.Struct s) h = never s
  not-step (shape.Func sig) h = refl

  not-made : (constant volatile : Bool) (x : shape.Shape-F Shape CType Sig) → TypeParts NotIn (λ s. Unit {0}) x → NotIn (with_shape constant volatile (roll-Shape x))
  unfolding NotIn
  not-made constant volatile x h =
      stands-opens in_const there (with_shape constant volatile (roll-Shape x))
      ∙ (ap (λ y. (in_const || not constant) && stands_step there (stand_parts in_const there y)) (out-roll-Shape x)
      ∙ and_never (in_const || not constant) (stands_step there (stand_parts in_const there x)) (not-step x h))

  not_in : (t : CType) → stands_in in_const there t ≡ false
  unfolding NotIn
  not_in t = by_type NotIn (λ s. Unit {0}) not-made (λ x h. tt) t

  not_members : (members : List Named) → list_any (λ (m : Named). stands_in in_const there m.1) members ≡ false
  not_members [] = refl
  not_members (m ∷ members) = ap (λ b. b || list_any (λ (m : Named). stands_in in_const there m.1) members) (not_in m.1) ∙ not_members members

never_pushed : (there : List Bool) (c : Bool) → IsNever there → c ≡ false → IsNever (there ++ c ∷ [])
unfolding IsNever
never_pushed [] c h e zero = e
never_pushed [] c h e (suc i) = refl
never_pushed (x ∷ there) c h e zero = h 0
never_pushed (x ∷ there) c h e (suc i) = never_pushed there c (λ j. h (suc j)) e i

next_never : (in_const : Bool) (s : ℕ) (before : List Bool) (x : Structure) → IsNever before → length before < s → next_stands in_const s before x ≡ false
next_never in_const s before x h lt = ap (λ b. b || list_any (λ (m : Named). stands_in in_const before m.1) x.members) (unlike (length before) s lt) ∙ not_members in_const before h x.members

all_never : (in_const : Bool) (s : ℕ) (xs : List Structure) (before : List Bool) → IsNever before → length before + length xs ≤ s → IsNever (fold (λ (l : List Bool) (x : Structure). l ++ next_stands in_const s l x ∷ []) before xs)
all_never in_const s [] before h le = h
all_never in_const s (x ∷ xs) before h le =
    all_never in_const s xs (before ++ next_stands in_const s before x ∷ []) (never_pushed before (next_stands in_const s before x) h (next_never in_const s before x h (omega (arith, le))))
    (let l = length-append before (next_stands in_const s before x ∷ []) in omega (arith, l, le))

never_before : (in_const : Bool) (s i : ℕ) (xs : List Structure) → i ≤ length xs → i ≤ s → IsNever (stands in_const s (take i xs))
unfolding stands IsNever
never_before in_const s i xs le before = all_never in_const s (take i xs) [] (λ j. refl) (let l = taken_length i xs le in omega (arith, l, before))

-- ---- through structures in which nothing stands, and through one more

through_none : (list : List Standing) (counts : List ℕ) → IsNone counts → copies_through list counts ≡ 0
unfolding IsNone
through_none [] counts h = refl
through_none (x ∷ list) [] h = refl
through_none (x ∷ list) (c ∷ counts) h =
    ap (λ n. x.copies * n + copies_through list counts) (h 0) ∙ (let rest = through_none list counts (λ i. h (suc i)) in omega (arith, rest))

through_no_counts : (list : List Standing) → copies_through list [] ≡ 0
through_no_counts [] = refl
through_no_counts (x ∷ list) = refl

through_last : (list : List Standing) (counts : List ℕ) (c : ℕ) (x : Standing) → slice_get list (length counts) ≡ Some x → copies_through list (counts ++ c ∷ []) ≡ copies_through list counts + x.copies * c
through_last [] counts c x there = absurd (none-some x there)
through_last (y ∷ list) [] c x there = ap (λ (z : Standing). z.copies * c + copies_through list []) (same_Some y x there) ∙ (let z = through_no_counts list in omega (arith, z))
through_last (y ∷ list) (d ∷ counts) c x there = let rest = through_last list counts c x there in omega (arith, rest)

or_false : (c : Bool) → (c || false) ≡ c
or_false true = refl
or_false false = refl

or_behind : (c d e : Bool) → (c || (d || e)) ≡ ((c || d) || e)
or_behind true d e = refl
or_behind false d e = refl

never_or : (t d : Bool) → ((t && false) || d) ≡ d
never_or true d = refl
never_or false d = refl

module _ (test : Standing → Bool) where
  stands_in_none : (list : List Standing) → stands_through test list [] ≡ false
  stands_in_none [] = refl
  stands_in_none (x ∷ list) = refl

  stands_never : (list : List Standing) (there : List Bool) → IsNever there → stands_through test list there ≡ false
  unfolding IsNever
  stands_never [] there h = refl
  stands_never (x ∷ list) [] h = refl
  stands_never (x ∷ list) (b ∷ there) h = ap (λ c. (test x && c) || stands_through test list there) (h 0) ∙ (never_or (test x) (stands_through test list there) ∙ stands_never list there (λ i. h (suc i)))

  stands_last : (list : List Standing) (there : List Bool) (b : Bool) (x : Standing) → slice_get list (length there) ≡ Some x → stands_through test list (there ++ b ∷ []) ≡ (stands_through test list there || (test x && b))
  stands_last [] there b x at = absurd (none-some x at)
  stands_last (y ∷ list) [] b x at = ap (λ (z : Standing). (test z && b) || stands_through test list []) (same_Some y x at) ∙ (ap (λ c. (test x && b) || c) (stands_in_none list) ∙ or_false (test x && b))
  stands_last (y ∷ list) (d ∷ there) b x at = ap (λ c. (test y && d) || c) (stands_last list there b x at) ∙ or_behind (test y && d) (stands_through test list there) (test x && b)

-- ---- one structure down

once_capped : (through place n total : ℕ) → through ≡ 0 → n ≡ 1 → place < 2 ^ 32 → capped (through + place * n) ≡ capped total → place ≡ capped total
once_capped through place n total none is low h =
    let one : place * n ≡ place = ap (λ k. place * k) is ∙ (let z : place * 1 ≡ place = omega arith in z) in
    omega (arith, none, one, low, h)

and_true : (c : Bool) → (c && true) ≡ c
and_true true = refl
and_true false = refl

once_there : (through place b total : Bool) → through ≡ false → b ≡ true → (through || (place && b)) ≡ total → place ≡ total
once_there through place b total never is h = sym (ap (λ c. c || (place && b)) never ∙ (ap (λ c. place && c) is ∙ and_true place)) ∙ h

module _ (p : Program) (i : ℕ) (x : Structure) (place : Standing) (old new : List Standing) (there : slice_get p.structures i ≡ Some x) (at : slice_get old i ≡ Some place) (h : AreFrom p (i + 1) old) (added : ForMembers i place x.members old new) where
  lt : i < length p.structures
  lt = slice_get_within p.structures i x there

  is : x ≡ get_or p.structures i x
  is = sym (get_or_from_slice_get p.structures i x x there)

  le : i ≤ length p.structures
  le = (let l = lt in omega (arith, l))

  abbrev counts : ℕ → List ℕ
  counts s = copies s (take i p.structures)

  abbrev those : Bool → ℕ → List Bool
  those in_const s = stands in_const s (take i p.structures)

  through_more : (s : ℕ) → copies_through old (copies s (take (i + 1) p.structures)) ≡ copies_through old (counts s) + place.copies * next_copies s (counts s) x
  through_more s =
      ap (copies_through old) (copies-next s p.structures i x lt is)
      ∙ through_last old (counts s) (next_copies s (counts s) x) place (ap (slice_get old) (copies_length s i p.structures le) ∙ at)

  stands_more : (test : Standing → Bool) (in_const : Bool) (s : ℕ) → stands_through test old (stands in_const s (take (i + 1) p.structures)) ≡ (stands_through test old (those in_const s) || (test place && next_stands in_const s (those in_const s) x))
  stands_more test in_const s =
      ap (stands_through test old) (stands-next in_const s p.structures i x lt is)
      ∙ stands_last test old (those in_const s) (next_stands in_const s (those in_const s) x) place (ap (slice_get old) (stands_length in_const s i p.structures le) ∙ at)

  next_other : (s : ℕ) → s < i → next_copies s (counts s) x ≡ copies_in_members (counts s) x.members
  next_other s before = ap (λ (b : Bool). if b then 1 else copies_in_members (counts s) x.members) (ap (λ n. nat_eq n s) (copies_length s i p.structures le) ∙ unlike_before i s before)

  stands_other : (in_const : Bool) (s : ℕ) → s < i → next_stands in_const s (those in_const s) x ≡ list_any (λ (m : Named). stands_in in_const (those in_const s) m.1) x.members
  stands_other in_const s before = ap (λ b. b || list_any (λ (m : Named). stands_in in_const (those in_const s) m.1) x.members) (ap (λ n. nat_eq n s) (stands_length in_const s i p.structures le) ∙ unlike_before i s before)

  next_own : next_copies i (counts i) x ≡ 1
  next_own = ap (λ (b : Bool). if b then 1 else copies_in_members (counts i) x.members) (alike (length (counts i)) i (copies_length i i p.structures le))

  stands_own : (in_const : Bool) → next_stands in_const i (those in_const i) x ≡ true
  stands_own in_const = ap (λ b. b || list_any (λ (m : Named). stands_in in_const (those in_const i) m.1) x.members) (alike (length (those in_const i)) i (stands_length in_const i i p.structures le))

  its_standing : IsStanding p i place
  its_standing =
      let here : i < i + 1 = omega arith in
      let within : i ≤ i = omega arith in
      record {
        copies = once_capped (copies_through old (counts i)) place.copies (next_copies i (counts i) x) (copies_in_ram p i) (through_none old (counts i) (no_copies_before i i p.structures le within)) next_own (h.counted i place at)
            (sym (ap capped (through_more i)) ∙ h.copies i here);
        is_open = once_there (stands_through stands_open old (those false i)) place.is_open (next_stands false i (those false i) x) (is_open p i) (stands_never stands_open old (those false i) (never_before false i i p.structures le within)) (stands_own false)
            (sym (stands_more stands_open false i) ∙ h.is_open i here);
        is_automatic = once_there (stands_through stands_automatic old (those true i)) place.is_automatic (next_stands true i (those true i) x) (is_automatic p i) (stands_never stands_automatic old (those true i) (never_before true i i p.structures le within)) (stands_own true)
            (sym (stands_more stands_automatic true i) ∙ h.is_automatic i here);
      }

  done_by : (s : ℕ) (it : Standing) → slice_get new s ≡ Some it → i ≤ s → (i < s) ⊎ (s ≤ i) → IsStanding p s it
  done_by s it got from (inl past) = h.done s it (omega (arith, past)) (sym (added.kept s from) ∙ got)
  done_by s it got from (inr end) =
      let same : i ≡ s = omega (arith, from, end) in
      let own : place ≡ it = same_Some place it (sym at ∙ (ap (slice_get old) same ∙ (sym (added.kept s from) ∙ got))) in
      subst (λ (n : ℕ). IsStanding p n it) same (subst (IsStanding p i) own its_standing)

  pub one_down : AreFrom p i new
  one_down = record {
    count = added.count ∙ h.count;
    counted = added.counted h.counted;
    copies = λ s before.
        added.copies (counts s) (copies_length s i p.structures le)
        ∙ (ap (λ n. capped (copies_through old (counts s) + place.copies * n)) (sym (next_other s before))
        ∙ (sym (ap capped (through_more s)) ∙ h.copies s (omega (arith, before))));
    is_open = λ s before.
        added.is_open (those false s) (stands_length false s i p.structures le)
        ∙ (ap (λ b. stands_through stands_open old (those false s) || (place.is_open && b)) (sym (stands_other false s before))
        ∙ (sym (stands_more stands_open false s) ∙ h.is_open s (omega (arith, before))));
    is_automatic = λ s before.
        added.is_automatic (those true s) (stands_length true s i p.structures le)
        ∙ (ap (λ b. stands_through stands_automatic old (those true s) || (place.is_automatic && b)) (sym (stands_other true s before))
        ∙ (sym (stands_more stands_automatic true s) ∙ h.is_automatic s (omega (arith, before))));
    done = λ s it from got. done_by s it got from (cases_lt i s);
  }

pub step_down : (p : Program) (first i : ℕ) (structures : List Structure) (x : Structure) (members : List Named) (d : Standing) (old new : List Standing) → structures ≡ p.structures → x ≡ get_or structures i x → members ≡ x.members → first ≡ i + 1 →
    first ≤ length p.structures → AreFrom p first old → ForMembers i (get_or old i d) members old new → AreFrom p i new
step_down p first i structures x members d old new same is own e le h added =
    let within : i < length p.structures = omega (arith, e, le) in
    let many = h.count in
    let there : slice_get p.structures i ≡ Some x = subst (λ (l : List Structure). slice_get l i ≡ Some x) same (slice_get-get_or structures i x (let long = ap length same in omega (arith, within, long)) ∙ ap Some (sym is)) in
    let at : slice_get old i ≡ Some (get_or old i d) = slice_get-get_or old i d (omega (arith, within, many)) in
    one_down p i x (get_or old i d) old new there at (subst (λ (n : ℕ). AreFrom p n old) e h) (subst (λ (l : List Named). ForMembers i (get_or old i d) l old new) own added)

-- ---- at first, and at last

module _ (p : Program) (n : ℕ) (old mid new : List Standing) (start : AreNowhere (length p.structures) old) (many : n ≡ length old) (objects : ForObjects n p.objects old mid) (locals : ForLocals n p.funcs mid new) where
  nowhere_copies : (list : List Standing) (counts : List ℕ) → ((s : ℕ) (place : Standing) → slice_get list s ≡ Some place → place.copies ≡ 0) → copies_through list counts ≡ 0
  nowhere_copies [] counts h = refl
  nowhere_copies (x ∷ list) [] h = refl
  nowhere_copies (x ∷ list) (c ∷ counts) h =
      ap (λ k. k * c + copies_through list counts) (h 0 x refl) ∙ (let rest = nowhere_copies list counts (λ s place e. h (suc s) place e) in omega (arith, rest))

  nowhere_stands : (test : Standing → Bool) (list : List Standing) (there : List Bool) → ((s : ℕ) (place : Standing) → slice_get list s ≡ Some place → test place ≡ false) → stands_through test list there ≡ false
  nowhere_stands test [] there h = refl
  nowhere_stands test (x ∷ list) [] h = refl
  nowhere_stands test (x ∷ list) (b ∷ there) h =
      ap (λ c. (c && b) || stands_through test list there) (h 0 x refl) ∙ nowhere_stands test list there (λ s place e. h (suc s) place e)

  abbrev size : ℕ
  size = length p.structures

  same_size : size ≡ n
  same_size = sym (many ∙ start.many)

  whole : take size p.structures ≡ p.structures
  whole = take_all size p.structures (omega arith)

  all_le : size ≤ length p.structures
  all_le = omega arith

  abbrev all_counts : ℕ → List ℕ
  all_counts s = copies s (take size p.structures)

  abbrev all_there : Bool → ℕ → List Bool
  all_there in_const s = stands in_const s (take size p.structures)

  counted_first : (s : ℕ) → capped (copies_through new (all_counts s)) ≡ capped (copies_in_ram p s)
  counted_first s =
      let long : length (all_counts s) ≡ n = copies_length s size p.structures all_le ∙ same_size in
      let more = locals.copies (all_counts s) long in
      let first = objects.copies (all_counts s) long in
      let none = nowhere_copies old (all_counts s) start.copies in
      let ram : sum_by (copies_of (all_counts s)) p.objects ≡ copies_in_ram p s = ap (λ l. sum_by (copies_of (copies s l)) p.objects) whole in
      omega (arith, more, first, none, ram)

  open_first : (s : ℕ) → stands_through stands_open new (all_there false s) ≡ is_open p s
  open_first s =
      let long : length (all_there false s) ≡ n = stands_length false s size p.structures all_le ∙ same_size in
      locals.is_open (all_there false s) long
      ∙ (ap (λ b. b || stands_in_locals false (all_there false s) p.funcs) (objects.is_open (all_there false s) long ∙ ap (λ b. b || stands_in_objects false (all_there false s) p.objects) (nowhere_stands stands_open old (all_there false s) start.is_open))
      ∙ ap (λ l. stands_in_objects false (stands false s l) p.objects || stands_in_locals false (stands false s l) p.funcs) whole)

  automatic_first : (s : ℕ) → stands_through stands_automatic new (all_there true s) ≡ is_automatic p s
  automatic_first s =
      let long : length (all_there true s) ≡ n = stands_length true s size p.structures all_le ∙ same_size in
      locals.is_automatic (all_there true s) long
      ∙ (ap (λ b. b || stands_in_locals true (all_there true s) p.funcs) (objects.is_automatic (all_there true s) long ∙ ap (λ b. b || false) (nowhere_stands stands_automatic old (all_there true s) start.is_automatic))
      ∙ ap (λ l. stands_in_locals true (stands true s l) p.funcs) whole)

  pub at_first : AreFrom p size new
  at_first = record {
    count = locals.count ∙ (objects.count ∙ start.many);
    counted = locals.counted (objects.counted (λ s place e. let z = start.copies s place e in omega (arith, z)));
    copies = λ s before. counted_first s;
    is_open = λ s before. open_first s;
    is_automatic = λ s before. automatic_first s;
    done = λ s place past got.
        let within = slice_get_within new s place got in
        let long : length new ≡ size = locals.count ∙ (objects.count ∙ start.many) in
        absurd (omega (arith, within, long, past));
  }

pub at_last : (p : Program) (first : ℕ) (list : List Standing) → first ≤ 0 → AreFrom p first list → AreStandings p list
at_last p first list end h = record { count = h.count; each = λ s place got. h.done s place (omega (arith, end)) got }
