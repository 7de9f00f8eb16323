-- What holds of settings that break no rule: the names of roles may name something and are distinct, and so are those of
-- counts and of levels. Each is kept by one setting more. Roles are listed by their kinds, and taken in the order of the
-- rows: each name stands as often in either list.
use Rattle.std.proofs.Common.{◌≡◌, ◌∙◌, ◌+◌, ◌⊎◌, inl, inr, ℕ, Bool, true, false, List, [], ◌∷◌, ◌++◌, map, refl, ap, sym, subst, Option, Some, None, arith, append_assoc}
use Rattle.std.specs.List.{list_all, list_any}
use Rattle.std.specs.Option.{is_some, option_or, unwrap_or}
use Rattle.std.specs.Prelude.{not, ◌||◌, ◌&&◌, nat_le, filter_map, find, if◌then◌else◌, codes}
use Rattle.std.specs.Str.{bytes_eq}
use Rattle.std.proofs.lemmas.List.{append-nil, map-append}
use Rattle.std.proofs.lemmas.List.Elements.{filter_map-append}
use Rattle.std.proofs.lemmas.List.Folds.{find-append, list_all-append}
use Rattle.cc_program.specs.CcWords.Names.{are_distinct, is_name}
use Rattle.cc_program.specs.CcWords.Words.{word_of}
use Rattle.cc_cost.specs.declared.key.Key.{Key}
use Rattle.cc_cost.specs.declared.key.Key.TheVariants as key
use Rattle.cc_cost.specs.declared.setting.Setting.{Setting}
use Rattle.cc_cost.specs.declared.setting.Line.{Line}
use Rattle.cc_cost.specs.declared.setting.Line.TheVariants as line
use Rattle.cc_cost.specs.Given.{third_or, intrinsic_for, handler_of, handlers_in, level_of, levels_in, count_of, counts_in}
use Rattle.cc_cost.specs.Keys.{spelling}
use Rattle.cc_rows.specs.Numbers.{is_number, value_of, number_in}
use Rattle.cc_cost.specs.Rules.{default_of, defaults, taken, is_among, rule_of, or_later, first_from}
use Rattle.cc_cost.specs.Settings.{Thing, thing_of, same_thing, second_if, has_second, given, is_allowed, ends_early, is_empty, role_of, function_name, may_be, has_names, settings_of}
use Rattle.cc_cost.proofs.Distinct.{times, times-append, times-nil, same, same_self, or-false, and-true, apart-more}

-- ---- what a setting that breaks no rule keeps

record Obeys (all before : List Setting) (s : Setting) : Type 0 where
  allowed : is_allowed s ≡ true
  new : list_any (same_thing (thing_of s)) (map thing_of before) ≡ false
  named : has_names s ≡ true
  free : is_among (taken all before) (role_of s) ≡ false

abbrev verdict : (a b c d e : Bool) → Option ℕ
verdict a b c d e = if not a then Some 3 else if b then Some 4 else if c then Some 5 else if not d || e then Some 6 else None

ruled : (a b c d e : Bool) → verdict a b c d e ≡ None → (a ≡ true) × (b ≡ false) × (d ≡ true) × (e ≡ false)
ruled false b c d e h = cc h
ruled true true c d e h = cc h
ruled true false true d e h = cc h
ruled true false false false e h = cc h
ruled true false false true true h = cc h
ruled true false false true false h = (refl, refl, refl, refl)

obeys : (all before : List Setting) (s : Setting) → rule_of (map thing_of before) (taken all before) s ≡ None → Obeys all before s
obeys all before s h =
    let (a, b, d, e) = ruled (is_allowed s) (list_any (same_thing (thing_of s)) (map thing_of before)) (ends_early s.key && not (is_empty s.third)) (has_names s) (is_among (taken all before) (role_of s)) h in
    record { allowed = a; new = b; named = d; free = e }

-- ---- names of counts and of levels

abbrev the_thing : List ℕ → List ℕ → Thing
the_thing key second = record { key = key; second = second }

-- a setting that is none of these, or one whose name is what it is for
abbrev Fits : List ℕ → (Setting → Option (List ℕ × ℕ)) → Setting → Type 0
Fits word pick s = (pick s ≡ None) ⊎ ((n : ℕ) × (pick s ≡ Some (s.second, n)) × (spelling s.key ≡ word) × (second_if (has_second s.key) s.second ≡ s.second))

module _ (word : List ℕ) (pick : Setting → Option (List ℕ × ℕ)) (self : bytes_eq word word ≡ true) (fits : (s : Setting) → Fits word pick s) where
  new-name : (second : List ℕ) (before : List Setting) → list_any (same_thing (record { key = word; second = second })) (map thing_of before) ≡ false
      → list_any (bytes_eq second) (map (λ c. c.0) (filter_map pick before)) ≡ false
  new-name second [] h = refl
  new-name second (s ∷ before) h =
      let k = or-false (same_thing (record { key = word; second = second }) (thing_of s)) (list_any (same_thing (record { key = word; second = second })) (map thing_of before)) h in
      let rest = new-name second before k.1 in
      elim (fits s) [
        | inl none ↦ rw none rest
        | inr some ↦
            let (n, picked, e, f) = some in
            let other = rw (e, f, self) at k.0 in
            rw (picked, other) rest
      ]

  names-apart : (before : List Setting) (s : Setting) → are_distinct (map (λ c. c.0) (filter_map pick before)) ≡ true → list_any (same_thing (thing_of s)) (map thing_of before) ≡ false
      → are_distinct (map (λ c. c.0) (filter_map pick (before ++ s ∷ []))) ≡ true
  names-apart before s h new =
      elim (fits s) [
        | inl none ↦ rw (filter_map-append pick before (s ∷ []), none, append-nil (filter_map pick before)) h
        | inr some ↦
            let (n, picked, e, f) = some in
            let k = rw (e, f) at new in
            rw (filter_map-append pick before (s ∷ []), picked, map-append (λ c. c.0) (filter_map pick before) ((s.second, n) ∷ [])) (apart-more (map (λ c. c.0) (filter_map pick before)) s.second h (new-name s.second before k))
      ]

-- ---- which settings give a name to a count or a level

abbrev FitsKey : List ℕ → Option (List ℕ × ℕ) → Key → List ℕ → Type 0
FitsKey word picked k second = (picked ≡ None) ⊎ ((n : ℕ) × (picked ≡ Some (second, n)) × (spelling k ≡ word) × (second_if (has_second k) second ≡ second))

count-key : (k : Key) (second third : List ℕ) → FitsKey (codes "count") (count_of k second third) k second
count-key key.Int second third = inl refl
count-key key.Pointer second third = inl refl
count-key key.Char second third = inl refl
count-key key.Align second third = inl refl
count-key key.Atomic second third = inl refl
count-key key.Handler second third = inl refl
count-key key.Intrinsic second third = inl refl
count-key key.Count second third = inr (unwrap_or (number_in 0 1000000000 third) 0, refl, refl, refl)
count-key key.Weight second third = inl refl
count-key key.Budget second third = inl refl
count-key key.Level second third = inl refl

level-key : (k : Key) (second third : List ℕ) → FitsKey (codes "level") (level_of k second third) k second
level-key key.Int second third = inl refl
level-key key.Pointer second third = inl refl
level-key key.Char second third = inl refl
level-key key.Align second third = inl refl
level-key key.Atomic second third = inl refl
level-key key.Handler second third = inl refl
level-key key.Intrinsic second third = inl refl
level-key key.Count second third = inl refl
level-key key.Weight second third = inl refl
level-key key.Budget second third = inl refl
level-key key.Level second third = inr (unwrap_or (number_in 1 7 third) 1, refl, refl, refl)

fits_count : (s : Setting) → Fits (codes "count") (λ s. count_of s.key s.second s.third) s
fits_count s = count-key s.key s.second s.third

fits_level : (s : Setting) → Fits (codes "level") (λ s. level_of s.key s.second s.third) s
fits_level s = level-key s.key s.second s.third

-- ---- the rows of intrinsics

or-none : {X : Type 0} (o : Option X) → option_or o None ≡ o
or-none None = refl
or-none (Some x) = refl

find-none : (t : Thing) (before : List Setting) → list_any (same_thing t) (map thing_of before) ≡ false → find (λ s. same_thing t (thing_of s)) before ≡ None
find-none t [] h = refl
find-none t (s ∷ before) h =
    let k = or-false (same_thing t (thing_of s)) (list_any (same_thing t) (map thing_of before)) h in
    rw k.0 (find-none t before k.1)

abbrev row_for : List ℕ → List Setting → Option Setting
row_for word settings = given (codes "intrinsic") word settings

abbrev asked : List ℕ → Thing
asked word = the_thing (codes "intrinsic") word

-- a setting for something else
row-kept : (word : List ℕ) (before : List Setting) (s : Setting) → same_thing (asked word) (thing_of s) ≡ false → row_for word (before ++ s ∷ []) ≡ row_for word before
row-kept word before s h =
    find-append (λ r. same_thing (asked word) (thing_of r)) before (s ∷ []) ∙ ap (λ (b : Bool). option_or (row_for word before) (if b then Some s else None)) h ∙ or-none (row_for word before)

abbrev for_intrinsic : List ℕ → List ℕ → Setting
for_intrinsic word name = record { key = key.Intrinsic; second = word; third = name }

-- the first one for it
row-none : (word : List ℕ) (before : List Setting) → list_any (same_thing (asked word)) (map thing_of before) ≡ false → row_for word before ≡ None
row-none word before new = find-none (asked word) before new

row-new : (word : List ℕ) (before : List Setting) (name : List ℕ) → list_any (same_thing (asked word)) (map thing_of before) ≡ false → row_for word (before ++ for_intrinsic word name ∷ []) ≡ Some (for_intrinsic word name)
row-new word before name new =
    find-append (λ r. same_thing (asked word) (thing_of r)) before (for_intrinsic word name ∷ [])
    ∙ ap (λ (o : Option Setting). option_or o (if bytes_eq word word then Some (for_intrinsic word name) else None)) (row-none word before new)
    ∙ ap (λ (b : Bool). if b then Some (for_intrinsic word name) else None) (same_self word)

-- ---- what is kept

abbrev name_for : List ℕ → List ℕ → List Setting → List (List ℕ)
name_for word other settings = intrinsic_for word other settings ∷ []

-- how often a name is one of the handlers and intrinsics, and how often it is a default or given by a row
abbrev Balanced : List Setting → List ℕ → Type 0
Balanced before x =
    times x (handlers_in before) + (times x (name_for (codes "off") (codes "irq_off") before) + (times x (name_for (codes "on") (codes "irq_on") before)
    + (times x (name_for (codes "save") (codes "irq_save") before) + times x (name_for (codes "restore") (codes "irq_restore") before))))
    ≡ (times x (default_of (codes "off") (codes "irq_off") before) + (times x (default_of (codes "on") (codes "irq_on") before)
    + (times x (default_of (codes "save") (codes "irq_save") before) + times x (default_of (codes "restore") (codes "irq_restore") before)))) + times x (filter_map role_of before)

pub record Kept (all before : List Setting) : Type 0 where
  pub handlers : list_all is_name (handlers_in before) ≡ true
  pub off : is_name (intrinsic_for (codes "off") (codes "irq_off") before) ≡ true
  pub on : is_name (intrinsic_for (codes "on") (codes "irq_on") before) ≡ true
  pub save : is_name (intrinsic_for (codes "save") (codes "irq_save") before) ≡ true
  pub restore : is_name (intrinsic_for (codes "restore") (codes "irq_restore") before) ≡ true
  pub roles : are_distinct (defaults all ++ filter_map role_of before) ≡ true
  pub balance : (x : List ℕ) → Balanced before x
  pub counts : are_distinct (map (λ c. c.0) (counts_in before)) ≡ true
  pub levels : are_distinct (map (λ c. c.0) (levels_in before)) ≡ true
  pub levelled : list_all (λ l. is_name l.0 && (nat_le 1 l.1 && nat_le l.1 7)) (levels_in before) ≡ true

-- the name of an intrinsic, and its default, where its row stays what it was, and where it is the first one
name-kept : (word other : List ℕ) (before after : List Setting) → row_for word after ≡ row_for word before → intrinsic_for word other after ≡ intrinsic_for word other before
name-kept word other before after h = ap (λ r. third_or r other) h

default-kept : (word other : List ℕ) (before after : List Setting) → row_for word after ≡ row_for word before → default_of word other after ≡ default_of word other before
default-kept word other before after h = ap (λ (r : Option Setting). if is_some r then [] else other ∷ []) h

pub not_false : (a : Bool) → a ≡ false → not a ≡ true
not_false a h = rw h refl

roles-kept : (all before : List Setting) (s : Setting) → Obeys all before s → are_distinct (defaults all ++ filter_map role_of before) ≡ true
    → are_distinct (defaults all ++ filter_map role_of (before ++ s ∷ [])) ≡ true
roles-kept all before s o h = by (role_of s) refl (o.free)
  where
    by : (r : Option (List ℕ)) → role_of s ≡ r → is_among (taken all before) r ≡ false → are_distinct (defaults all ++ filter_map role_of (before ++ s ∷ [])) ≡ true
    by None e free =
        ap (λ t. are_distinct (defaults all ++ t)) (filter_map-append role_of before (s ∷ []) ∙ ap (λ r. filter_map role_of before ++ filter_map (λ (p : Option (List ℕ)). p) (r ∷ [])) e ∙ append-nil (filter_map role_of before)) ∙ h
    by (Some n) e free =
        ap (λ t. are_distinct (defaults all ++ t)) (filter_map-append role_of before (s ∷ []) ∙ ap (λ r. filter_map role_of before ++ filter_map (λ (p : Option (List ℕ)). p) (r ∷ [])) e)
        ∙ ap are_distinct (sym (append_assoc (defaults all) (filter_map role_of before) (n ∷ []))) ∙ apart-more (defaults all ++ filter_map role_of before) n h free

-- a level is from 1 to 7, and a count is not too large, whatever the field is
level-bounds : (a : Bool) (v : ℕ) → (nat_le 1 (unwrap_or (if a && (nat_le 1 v && nat_le v 7) then Some v else None) 1) && nat_le (unwrap_or (if a && (nat_le 1 v && nat_le v 7) then Some v else None) 1) 7) ≡ true
level-bounds false v = refl
level-bounds true v = by (nat_le 1 v && nat_le v 7) refl
  where
    by : (b : Bool) → (nat_le 1 v && nat_le v 7) ≡ b → (nat_le 1 (unwrap_or (if nat_le 1 v && nat_le v 7 then Some v else None) 1) && nat_le (unwrap_or (if nat_le 1 v && nat_le v 7 then Some v else None) 1) 7) ≡ true
    by true e = rw e e
    by false e = rw e refl

abbrev is_level : List ℕ × ℕ → Bool
is_level l = is_name l.0 && (nat_le 1 l.1 && nat_le l.1 7)

level-one : (k : Key) (second third : List ℕ) → may_be (function_name k second) ≡ true → list_all is_level (levels_in (record { key = k; second = second; third = third } ∷ [])) ≡ true
unfolding number_in
level-one key.Int second third h = refl
level-one key.Pointer second third h = refl
level-one key.Char second third h = refl
level-one key.Align second third h = refl
level-one key.Atomic second third h = refl
level-one key.Handler second third h = refl
level-one key.Intrinsic second third h = refl
level-one key.Count second third h = refl
level-one key.Weight second third h = refl
level-one key.Budget second third h = refl
level-one key.Level second third h = rw (h, level-bounds (is_number third) (value_of third)) refl

levelled-kept : (before : List Setting) (s : Setting) → has_names s ≡ true → list_all is_level (levels_in before) ≡ true → list_all is_level (levels_in (before ++ s ∷ [])) ≡ true
levelled-kept before s named h =
    let one = level-one s.key s.second s.third (and-true (may_be (role_of s)) (may_be (function_name s.key s.second)) named).1 in
    ap (list_all is_level) (filter_map-append (λ s. level_of s.key s.second s.third) before (s ∷ [])) ∙ list_all-append is_level (levels_in before) (levels_in (s ∷ []))
    ∙ ap (λ b. b && list_all is_level (levels_in (s ∷ []))) h ∙ one

-- what is kept whatever the setting is for
kept-by : (all before : List Setting) (s : Setting) → Kept all before → Obeys all before s → list_all is_name (handlers_in (before ++ s ∷ [])) ≡ true
    → is_name (intrinsic_for (codes "off") (codes "irq_off") (before ++ s ∷ [])) ≡ true → is_name (intrinsic_for (codes "on") (codes "irq_on") (before ++ s ∷ [])) ≡ true
    → is_name (intrinsic_for (codes "save") (codes "irq_save") (before ++ s ∷ [])) ≡ true → is_name (intrinsic_for (codes "restore") (codes "irq_restore") (before ++ s ∷ [])) ≡ true
    → ((x : List ℕ) → Balanced (before ++ s ∷ []) x) → Kept all (before ++ s ∷ [])
kept-by all before s k o handlers off on save restore balance = record {
  handlers = handlers;
  off = off;
  on = on;
  save = save;
  restore = restore;
  roles = roles-kept all before s o k.roles;
  balance = balance;
  counts = names-apart (codes "count") (λ s. count_of s.key s.second s.third) refl fits_count before s k.counts o.new;
  levels = names-apart (codes "level") (λ s. level_of s.key s.second s.third) refl fits_level before s k.levels o.new;
  levelled = levelled-kept before s o.named k.levelled;
}

-- ---- a setting that is for no intrinsic

-- the sum stays where the two ends grow alike
grown : (h h2 o1 o2 o3 o4 p1 p2 p3 p4 c1 c2 c3 c4 d1 d2 d3 d4 r r2 n : ℕ) → h2 ≡ h + n → p1 ≡ o1 → p2 ≡ o2 → p3 ≡ o3 → p4 ≡ o4 → d1 ≡ c1 → d2 ≡ c2 → d3 ≡ c3 → d4 ≡ c4 → r2 ≡ r + n
    → h + (o1 + (o2 + (o3 + o4))) ≡ (c1 + (c2 + (c3 + c4))) + r → h2 + (p1 + (p2 + (p3 + p4))) ≡ (d1 + (d2 + (d3 + d4))) + r2
grown h h2 o1 o2 o3 o4 p1 p2 p3 p4 c1 c2 c3 c4 d1 d2 d3 d4 r r2 n a e1 e2 e3 e4 f1 f2 f3 f4 b s = omega arith

balance-grown : (before : List Setting) (s : Setting) (hs rs : List (List ℕ)) → ((word : List ℕ) → row_for word (before ++ s ∷ []) ≡ row_for word before)
    → handlers_in (s ∷ []) ≡ hs → filter_map role_of (s ∷ []) ≡ rs → ((x : List ℕ) → times x hs ≡ times x rs) → (x : List ℕ) → Balanced before x → Balanced (before ++ s ∷ []) x
balance-grown before s hs rs same_row eh er even x b =
    let kept = λ (word other : List ℕ). ap (λ n. times x (n ∷ [])) (name-kept word other before (before ++ s ∷ []) (same_row word)) in
    let left = λ (word other : List ℕ). ap (times x) (default-kept word other before (before ++ s ∷ []) (same_row word)) in
    grown (times x (handlers_in before)) _ _ _ _ _ _ _ _ _ _ _ _ _ _ _ _ _ (times x (filter_map role_of before)) _ (times x hs)
    (ap (times x) (filter_map-append (λ s. handler_of s.key s.second) before (s ∷ []) ∙ ap (λ t. handlers_in before ++ t) eh) ∙ times-append x (handlers_in before) hs)
    (kept (codes "off") (codes "irq_off")) (kept (codes "on") (codes "irq_on")) (kept (codes "save") (codes "irq_save")) (kept (codes "restore") (codes "irq_restore"))
    (left (codes "off") (codes "irq_off")) (left (codes "on") (codes "irq_on")) (left (codes "save") (codes "irq_save")) (left (codes "restore") (codes "irq_restore"))
    (ap (times x) (filter_map-append role_of before (s ∷ []) ∙ ap (λ t. filter_map role_of before ++ t) er) ∙ times-append x (filter_map role_of before) rs ∙ ap (λ n. times x (filter_map role_of before) + n) (sym (even x)))
    b

kept-grown : (all before : List Setting) (s : Setting) (hs rs : List (List ℕ)) → Kept all before → Obeys all before s → ((word : List ℕ) → row_for word (before ++ s ∷ []) ≡ row_for word before)
    → handlers_in (s ∷ []) ≡ hs → filter_map role_of (s ∷ []) ≡ rs → ((x : List ℕ) → times x hs ≡ times x rs) → list_all is_name hs ≡ true → Kept all (before ++ s ∷ [])
kept-grown all before s hs rs k o same_row eh er even named =
    kept-by all before s k o
    (ap (list_all is_name) (filter_map-append (λ s. handler_of s.key s.second) before (s ∷ []) ∙ ap (λ t. handlers_in before ++ t) eh) ∙ list_all-append is_name (handlers_in before) hs
    ∙ ap (λ b. b && list_all is_name hs) k.handlers ∙ named)
    (ap is_name (name-kept (codes "off") (codes "irq_off") before (before ++ s ∷ []) (same_row (codes "off"))) ∙ k.off)
    (ap is_name (name-kept (codes "on") (codes "irq_on") before (before ++ s ∷ []) (same_row (codes "on"))) ∙ k.on)
    (ap is_name (name-kept (codes "save") (codes "irq_save") before (before ++ s ∷ []) (same_row (codes "save"))) ∙ k.save)
    (ap is_name (name-kept (codes "restore") (codes "irq_restore") before (before ++ s ∷ []) (same_row (codes "restore"))) ∙ k.restore)
    (λ x. balance-grown before s hs rs same_row eh er even x (k.balance x))

-- ---- a setting for an intrinsic

record Turned (word other : List ℕ) (before after : List Setting) (name : List ℕ) : Type 0 where
  name_is : intrinsic_for word other after ≡ name
  no_default : default_of word other after ≡ []
  was_default : name_for word other before ≡ default_of word other before

turned : (word other : List ℕ) (before : List Setting) (name : List ℕ) → list_any (same_thing (asked word)) (map thing_of before) ≡ false → Turned word other before (before ++ for_intrinsic word name ∷ []) name
turned word other before name new =
    let none = row-none word before new in
    let some = row-new word before name new in
    record {
      name_is = ap (λ r. third_or r other) some;
      no_default = ap (λ (r : Option Setting). if is_some r then [] else other ∷ []) some;
      was_default = ap (λ (r : Option Setting). third_or r other ∷ []) none ∙ sym (ap (λ (r : Option Setting). if is_some r then [] else other ∷ []) none);
    }

-- how the sums of an intrinsic change
abbrev Changes : List ℕ → List ℕ → List ℕ → List Setting → List Setting → ℕ → Type 0
Changes x word other before after n =
    times x (name_for word other after) + times x (default_of word other before) ≡ (times x (name_for word other before) + times x (default_of word other after)) + n

changes-not : (x word other : List ℕ) (before after : List Setting) → row_for word after ≡ row_for word before → Changes x word other before after 0
changes-not x word other before after h =
    let e = ap (λ n. times x (n ∷ [])) (name-kept word other before after h) in
    let f = ap (times x) (default-kept word other before after h) in
    omega (arith, e, f)

changes-by : (x word other : List ℕ) (before after : List Setting) (name : List ℕ) → Turned word other before after name → Changes x word other before after (times x (name ∷ []))
changes-by x word other before after name t =
    let e = ap (λ n. times x (n ∷ [])) t.name_is in
    let f = ap (times x) t.no_default ∙ times-nil x in
    let g = ap (times x) t.was_default in
    omega (arith, e, f, g)

-- the sum stays where the name of one takes the place of its default
traded : (h h2 o1 o2 o3 o4 p1 p2 p3 p4 c1 c2 c3 c4 d1 d2 d3 d4 r r2 n1 n2 n3 n4 n : ℕ) → h2 ≡ h → p1 + c1 ≡ (o1 + d1) + n1 → p2 + c2 ≡ (o2 + d2) + n2 → p3 + c3 ≡ (o3 + d3) + n3 → p4 + c4 ≡ (o4 + d4) + n4
    → r2 ≡ r + n → n1 + (n2 + (n3 + n4)) ≡ n → h + (o1 + (o2 + (o3 + o4))) ≡ (c1 + (c2 + (c3 + c4))) + r → h2 + (p1 + (p2 + (p3 + p4))) ≡ (d1 + (d2 + (d3 + d4))) + r2
traded h h2 o1 o2 o3 o4 p1 p2 p3 p4 c1 c2 c3 c4 d1 d2 d3 d4 r r2 n1 n2 n3 n4 n e a1 a2 a3 a4 b m s = omega arith

kept-traded : (all before : List Setting) (s : Setting) (name : List ℕ) → Kept all before → Obeys all before s → handlers_in (s ∷ []) ≡ [] → filter_map role_of (s ∷ []) ≡ name ∷ []
    → is_name (intrinsic_for (codes "off") (codes "irq_off") (before ++ s ∷ [])) ≡ true → is_name (intrinsic_for (codes "on") (codes "irq_on") (before ++ s ∷ [])) ≡ true
    → is_name (intrinsic_for (codes "save") (codes "irq_save") (before ++ s ∷ [])) ≡ true → is_name (intrinsic_for (codes "restore") (codes "irq_restore") (before ++ s ∷ [])) ≡ true
    → (n1 n2 n3 n4 : List ℕ → ℕ) → ((x : List ℕ) → Changes x (codes "off") (codes "irq_off") before (before ++ s ∷ []) (n1 x)) → ((x : List ℕ) → Changes x (codes "on") (codes "irq_on") before (before ++ s ∷ []) (n2 x))
    → ((x : List ℕ) → Changes x (codes "save") (codes "irq_save") before (before ++ s ∷ []) (n3 x)) → ((x : List ℕ) → Changes x (codes "restore") (codes "irq_restore") before (before ++ s ∷ []) (n4 x))
    → ((x : List ℕ) → n1 x + (n2 x + (n3 x + n4 x)) ≡ times x (name ∷ [])) → Kept all (before ++ s ∷ [])
kept-traded all before s name k o eh er off on save restore n1 n2 n3 n4 f1 f2 f3 f4 m =
    let same_handlers : handlers_in (before ++ s ∷ []) ≡ handlers_in before = filter_map-append (λ s. handler_of s.key s.second) before (s ∷ []) ∙ ap (λ t. handlers_in before ++ t) eh ∙ append-nil (handlers_in before) in
    kept-by all before s k o (ap (list_all is_name) same_handlers ∙ k.handlers) off on save restore
    (λ x. traded (times x (handlers_in before)) _ _ _ _ _ _ _ _ _ _ _ _ _ _ _ _ _ (times x (filter_map role_of before)) _ (n1 x) (n2 x) (n3 x) (n4 x) (times x (name ∷ []))
    (ap (times x) same_handlers) (f1 x) (f2 x) (f3 x) (f4 x)
    (ap (times x) (filter_map-append role_of before (s ∷ []) ∙ ap (λ t. filter_map role_of before ++ t) er) ∙ times-append x (filter_map role_of before) (name ∷ []))
    (m x) (k.balance x))

plus-nothing : (n : ℕ) → n + (0 + (0 + 0)) ≡ n
plus-nothing n = omega arith

plus-second : (n : ℕ) → 0 + (n + (0 + 0)) ≡ n
plus-second n = omega arith

plus-third : (n : ℕ) → 0 + (0 + (n + 0)) ≡ n
plus-third n = omega arith

plus-fourth : (n : ℕ) → 0 + (0 + (0 + n)) ≡ n
plus-fourth n = omega arith

kept-off : (all before : List Setting) (name : List ℕ) → Kept all before → Obeys all before (for_intrinsic (codes "off") name) → Kept all (before ++ for_intrinsic (codes "off") name ∷ [])
kept-off all before name k o =
    let t : Turned (codes "off") (codes "irq_off") before (before ++ for_intrinsic (codes "off") name ∷ []) name = turned (codes "off") (codes "irq_off") before name o.new in
    let is_so : is_name name ≡ true = (and-true (is_name name) true o.named).0 in
    kept-traded all before (for_intrinsic (codes "off") name) name k o refl refl
    (ap is_name t.name_is ∙ is_so)
    (ap is_name (name-kept (codes "on") (codes "irq_on") before (before ++ for_intrinsic (codes "off") name ∷ []) (row-kept (codes "on") before (for_intrinsic (codes "off") name) refl)) ∙ k.on)
    (ap is_name (name-kept (codes "save") (codes "irq_save") before (before ++ for_intrinsic (codes "off") name ∷ []) (row-kept (codes "save") before (for_intrinsic (codes "off") name) refl)) ∙ k.save)
    (ap is_name (name-kept (codes "restore") (codes "irq_restore") before (before ++ for_intrinsic (codes "off") name ∷ []) (row-kept (codes "restore") before (for_intrinsic (codes "off") name) refl)) ∙ k.restore)
    (λ x. times x (name ∷ [])) (λ _. 0) (λ _. 0) (λ _. 0)
    (λ x. changes-by x (codes "off") (codes "irq_off") before (before ++ for_intrinsic (codes "off") name ∷ []) name t)
    (λ x. changes-not x (codes "on") (codes "irq_on") before (before ++ for_intrinsic (codes "off") name ∷ []) (row-kept (codes "on") before (for_intrinsic (codes "off") name) refl))
    (λ x. changes-not x (codes "save") (codes "irq_save") before (before ++ for_intrinsic (codes "off") name ∷ []) (row-kept (codes "save") before (for_intrinsic (codes "off") name) refl))
    (λ x. changes-not x (codes "restore") (codes "irq_restore") before (before ++ for_intrinsic (codes "off") name ∷ []) (row-kept (codes "restore") before (for_intrinsic (codes "off") name) refl))
    (λ x. plus-nothing (times x (name ∷ [])))

kept-on : (all before : List Setting) (name : List ℕ) → Kept all before → Obeys all before (for_intrinsic (codes "on") name) → Kept all (before ++ for_intrinsic (codes "on") name ∷ [])
kept-on all before name k o =
    let t : Turned (codes "on") (codes "irq_on") before (before ++ for_intrinsic (codes "on") name ∷ []) name = turned (codes "on") (codes "irq_on") before name o.new in
    let is_so : is_name name ≡ true = (and-true (is_name name) true o.named).0 in
    kept-traded all before (for_intrinsic (codes "on") name) name k o refl refl
    (ap is_name (name-kept (codes "off") (codes "irq_off") before (before ++ for_intrinsic (codes "on") name ∷ []) (row-kept (codes "off") before (for_intrinsic (codes "on") name) refl)) ∙ k.off)
    (ap is_name t.name_is ∙ is_so)
    (ap is_name (name-kept (codes "save") (codes "irq_save") before (before ++ for_intrinsic (codes "on") name ∷ []) (row-kept (codes "save") before (for_intrinsic (codes "on") name) refl)) ∙ k.save)
    (ap is_name (name-kept (codes "restore") (codes "irq_restore") before (before ++ for_intrinsic (codes "on") name ∷ []) (row-kept (codes "restore") before (for_intrinsic (codes "on") name) refl)) ∙ k.restore)
    (λ _. 0) (λ x. times x (name ∷ [])) (λ _. 0) (λ _. 0)
    (λ x. changes-not x (codes "off") (codes "irq_off") before (before ++ for_intrinsic (codes "on") name ∷ []) (row-kept (codes "off") before (for_intrinsic (codes "on") name) refl))
    (λ x. changes-by x (codes "on") (codes "irq_on") before (before ++ for_intrinsic (codes "on") name ∷ []) name t)
    (λ x. changes-not x (codes "save") (codes "irq_save") before (before ++ for_intrinsic (codes "on") name ∷ []) (row-kept (codes "save") before (for_intrinsic (codes "on") name) refl))
    (λ x. changes-not x (codes "restore") (codes "irq_restore") before (before ++ for_intrinsic (codes "on") name ∷ []) (row-kept (codes "restore") before (for_intrinsic (codes "on") name) refl))
    (λ x. plus-second (times x (name ∷ [])))

kept-save : (all before : List Setting) (name : List ℕ) → Kept all before → Obeys all before (for_intrinsic (codes "save") name) → Kept all (before ++ for_intrinsic (codes "save") name ∷ [])
kept-save all before name k o =
    let t : Turned (codes "save") (codes "irq_save") before (before ++ for_intrinsic (codes "save") name ∷ []) name = turned (codes "save") (codes "irq_save") before name o.new in
    let is_so : is_name name ≡ true = (and-true (is_name name) true o.named).0 in
    kept-traded all before (for_intrinsic (codes "save") name) name k o refl refl
    (ap is_name (name-kept (codes "off") (codes "irq_off") before (before ++ for_intrinsic (codes "save") name ∷ []) (row-kept (codes "off") before (for_intrinsic (codes "save") name) refl)) ∙ k.off)
    (ap is_name (name-kept (codes "on") (codes "irq_on") before (before ++ for_intrinsic (codes "save") name ∷ []) (row-kept (codes "on") before (for_intrinsic (codes "save") name) refl)) ∙ k.on)
    (ap is_name t.name_is ∙ is_so)
    (ap is_name (name-kept (codes "restore") (codes "irq_restore") before (before ++ for_intrinsic (codes "save") name ∷ []) (row-kept (codes "restore") before (for_intrinsic (codes "save") name) refl)) ∙ k.restore)
    (λ _. 0) (λ _. 0) (λ x. times x (name ∷ [])) (λ _. 0)
    (λ x. changes-not x (codes "off") (codes "irq_off") before (before ++ for_intrinsic (codes "save") name ∷ []) (row-kept (codes "off") before (for_intrinsic (codes "save") name) refl))
    (λ x. changes-not x (codes "on") (codes "irq_on") before (before ++ for_intrinsic (codes "save") name ∷ []) (row-kept (codes "on") before (for_intrinsic (codes "save") name) refl))
    (λ x. changes-by x (codes "save") (codes "irq_save") before (before ++ for_intrinsic (codes "save") name ∷ []) name t)
    (λ x. changes-not x (codes "restore") (codes "irq_restore") before (before ++ for_intrinsic (codes "save") name ∷ []) (row-kept (codes "restore") before (for_intrinsic (codes "save") name) refl))
    (λ x. plus-third (times x (name ∷ [])))

kept-restore : (all before : List Setting) (name : List ℕ) → Kept all before → Obeys all before (for_intrinsic (codes "restore") name) → Kept all (before ++ for_intrinsic (codes "restore") name ∷ [])
kept-restore all before name k o =
    let t : Turned (codes "restore") (codes "irq_restore") before (before ++ for_intrinsic (codes "restore") name ∷ []) name = turned (codes "restore") (codes "irq_restore") before name o.new in
    let is_so : is_name name ≡ true = (and-true (is_name name) true o.named).0 in
    kept-traded all before (for_intrinsic (codes "restore") name) name k o refl refl
    (ap is_name (name-kept (codes "off") (codes "irq_off") before (before ++ for_intrinsic (codes "restore") name ∷ []) (row-kept (codes "off") before (for_intrinsic (codes "restore") name) refl)) ∙ k.off)
    (ap is_name (name-kept (codes "on") (codes "irq_on") before (before ++ for_intrinsic (codes "restore") name ∷ []) (row-kept (codes "on") before (for_intrinsic (codes "restore") name) refl)) ∙ k.on)
    (ap is_name (name-kept (codes "save") (codes "irq_save") before (before ++ for_intrinsic (codes "restore") name ∷ []) (row-kept (codes "save") before (for_intrinsic (codes "restore") name) refl)) ∙ k.save)
    (ap is_name t.name_is ∙ is_so)
    (λ _. 0) (λ _. 0) (λ _. 0) (λ x. times x (name ∷ []))
    (λ x. changes-not x (codes "off") (codes "irq_off") before (before ++ for_intrinsic (codes "restore") name ∷ []) (row-kept (codes "off") before (for_intrinsic (codes "restore") name) refl))
    (λ x. changes-not x (codes "on") (codes "irq_on") before (before ++ for_intrinsic (codes "restore") name ∷ []) (row-kept (codes "on") before (for_intrinsic (codes "restore") name) refl))
    (λ x. changes-not x (codes "save") (codes "irq_save") before (before ++ for_intrinsic (codes "restore") name ∷ []) (row-kept (codes "save") before (for_intrinsic (codes "restore") name) refl))
    (λ x. changes-by x (codes "restore") (codes "irq_restore") before (before ++ for_intrinsic (codes "restore") name ∷ []) name t)
    (λ x. plus-fourth (times x (name ∷ [])))

kept-intrinsic : (all before : List Setting) (second third : List ℕ) → Kept all before → Obeys all before (for_intrinsic second third) → Kept all (before ++ for_intrinsic second third ∷ [])
kept-intrinsic all before second third k o =
    by (bytes_eq second (codes "off")) (bytes_eq second (codes "on")) (bytes_eq second (codes "save")) (bytes_eq second (codes "restore")) refl refl refl refl o.allowed
  where
    at : (word : List ℕ) → bytes_eq second word ≡ true → (Obeys all before (for_intrinsic word third) → Kept all (before ++ for_intrinsic word third ∷ [])) → Kept all (before ++ for_intrinsic second third ∷ [])
    at word e f =
        let is_word : second ≡ word = same second word e in
        subst (λ w. Kept all (before ++ for_intrinsic w third ∷ [])) (sym is_word) (f (subst (λ w. Obeys all before (for_intrinsic w third)) is_word o))

    by : (a b c d : Bool) → bytes_eq second (codes "off") ≡ a → bytes_eq second (codes "on") ≡ b → bytes_eq second (codes "save") ≡ c → bytes_eq second (codes "restore") ≡ d
        → (bytes_eq second (codes "off") || (bytes_eq second (codes "on") || (bytes_eq second (codes "save") || (bytes_eq second (codes "restore") || false)))) ≡ true
        → Kept all (before ++ for_intrinsic second third ∷ [])
    by true b c d e1 e2 e3 e4 h = at (codes "off") e1 (λ p. kept-off all before third k p)
    by false true c d e1 e2 e3 e4 h = at (codes "on") e2 (λ p. kept-on all before third k p)
    by false false true d e1 e2 e3 e4 h = at (codes "save") e3 (λ p. kept-save all before third k p)
    by false false false true e1 e2 e3 e4 h = at (codes "restore") e4 (λ p. kept-restore all before third k p)
    by false false false false e1 e2 e3 e4 h = cc (rw (e1, e2, e3, e4) at h)

-- ---- a setting for anything

even-nil : (x : List ℕ) → times x [] ≡ times x []
even-nil x = refl

kept-plain : (all before : List Setting) (s : Setting) → Kept all before → Obeys all before s → ((word : List ℕ) → same_thing (asked word) (thing_of s) ≡ false)
    → handlers_in (s ∷ []) ≡ [] → filter_map role_of (s ∷ []) ≡ [] → Kept all (before ++ s ∷ [])
kept-plain all before s k o other eh er = kept-grown all before s [] [] k o (λ word. row-kept word before s (other word)) eh er even-nil refl

kept-key : (all before : List Setting) (k : Key) (second third : List ℕ) → Kept all before → Obeys all before (record { key = k; second = second; third = third }) → Kept all (before ++ record { key = k; second = second; third = third } ∷ [])
kept-key all before key.Int second third k o = kept-plain all before (record { key = key.Int; second = second; third = third }) k o (λ word. refl) refl refl
kept-key all before key.Pointer second third k o = kept-plain all before (record { key = key.Pointer; second = second; third = third }) k o (λ word. refl) refl refl
kept-key all before key.Char second third k o = kept-plain all before (record { key = key.Char; second = second; third = third }) k o (λ word. refl) refl refl
kept-key all before key.Align second third k o = kept-plain all before (record { key = key.Align; second = second; third = third }) k o (λ word. refl) refl refl
kept-key all before key.Atomic second third k o = kept-plain all before (record { key = key.Atomic; second = second; third = third }) k o (λ word. refl) refl refl
kept-key all before key.Handler second third k o =
    kept-grown all before (record { key = key.Handler; second = second; third = third }) (second ∷ []) (second ∷ []) k o
    (λ word. row-kept word before (record { key = key.Handler; second = second; third = third }) refl) refl refl (λ x. refl) (rw ((and-true (is_name second) true o.named).0) refl)
kept-key all before key.Intrinsic second third k o = kept-intrinsic all before second third k o
kept-key all before key.Count second third k o = kept-plain all before (record { key = key.Count; second = second; third = third }) k o (λ word. refl) refl refl
kept-key all before key.Weight second third k o = kept-plain all before (record { key = key.Weight; second = second; third = third }) k o (λ word. refl) refl refl
kept-key all before key.Budget second third k o = kept-plain all before (record { key = key.Budget; second = second; third = third }) k o (λ word. refl) refl refl
kept-key all before key.Level second third k o = kept-plain all before (record { key = key.Level; second = second; third = third }) k o (λ word. refl) refl refl

-- ---- all settings

or-later : (r : Option ℕ) (n : ℕ) (later : Option (ℕ × ℕ)) → or_later r n later ≡ None → (r ≡ None) × (later ≡ None)
or-later None n later h = (refl, h)
or-later (Some rule) n later h = cc h

kept-on_from : (all before : List Setting) (lines : List Line) → first_from all before lines ≡ None → Kept all before → Kept all (before ++ settings_of lines)
unfolding first_from
kept-on_from all before [] h k = rw (append-nil before) k
kept-on_from all before (line.Breaks rule ∷ lines) h k = cc h
kept-on_from all before (line.Says s ∷ lines) h k =
    let (now, later) = or-later (rule_of (map thing_of before) (taken all before) s) _ (first_from all (before ++ s ∷ []) lines) h in
    let more = kept-key all before s.key s.second s.third k (obeys all before s now) in
    rw (← append_assoc before (s ∷ []) (settings_of lines)) (kept-on_from all (before ++ s ∷ []) lines later more)

kept-none : (all : List Setting) → Kept all []
unfolding is_name word_of
kept-none all = record {
  handlers = refl;
  off = refl;
  on = refl;
  save = refl;
  restore = refl;
  roles = rw (append-nil (defaults all)) (defaults-apart (is_some (row_for (codes "off") all)) (is_some (row_for (codes "on") all)) (is_some (row_for (codes "save") all)) (is_some (row_for (codes "restore") all)));
  balance = λ x. let z = times-nil x in omega (arith, z);
  counts = refl;
  levels = refl;
  levelled = refl;
}
  where
    defaults-apart : (a b c d : Bool) → are_distinct ((if a then [] else codes "irq_off" ∷ []) ++ (if b then [] else codes "irq_on" ∷ []) ++ (if c then [] else codes "irq_save" ∷ []) ++ (if d then [] else codes "irq_restore" ∷ [])) ≡ true
    defaults-apart true true true true = refl
    defaults-apart true true true false = refl
    defaults-apart true true false true = refl
    defaults-apart true true false false = refl
    defaults-apart true false true true = refl
    defaults-apart true false true false = refl
    defaults-apart true false false true = refl
    defaults-apart true false false false = refl
    defaults-apart false true true true = refl
    defaults-apart false true true false = refl
    defaults-apart false true false true = refl
    defaults-apart false true false false = refl
    defaults-apart false false true true = refl
    defaults-apart false false true false = refl
    defaults-apart false false false true = refl
    defaults-apart false false false false = refl

pub kept : (lines : List Line) → first_from (settings_of lines) [] lines ≡ None → Kept (settings_of lines) (settings_of lines)
kept lines h = kept-on_from (settings_of lines) [] lines h (kept-none (settings_of lines))
