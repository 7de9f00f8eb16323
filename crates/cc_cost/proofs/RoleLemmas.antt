-- What roles and a profile keep, where no row breaks a rule.
use Rattle.std.proofs.Common.{◌≡◌, ◌+◌, ℕ, Bool, true, false, List, [], ◌∷◌, ◌++◌, map, refl, Option, Some, None, arith}
use Rattle.std.specs.List.{list_all, cons_option}
use Rattle.std.specs.Option.{unwrap_or}
use Rattle.std.specs.Prelude.{IsTrue, ◌&&◌, nat_le, filter_map, if◌then◌else◌, codes}
use Rattle.std.proofs.lemmas.List.Folds.{list_all-append}
use Rattle.cc_program.specs.CcWords.Names.{are_distinct, is_name}
use Rattle.cc_cost.specs.declared.key.Key.{Key}
use Rattle.cc_cost.specs.declared.key.Key.TheVariants as key
use Rattle.cc_cost.specs.declared.setting.Setting.{Setting}
use Rattle.cc_cost.specs.declared.setting.Line.{Line}
use Rattle.cc_cost.specs.Given.{intrinsic_for, handlers_in, levels_in, count_of, counts_in}
use Rattle.cc_rows.specs.Numbers.{is_number, value_of, number_in}
use Rattle.cc_cost.specs.Rules.{default_of, defaults, first_from}
use Rattle.cc_cost.specs.Settings.{role_of, settings_of}
use Rattle.cc_cost.proofs.Distinct.{times, times-append, at_most_once, apart}
use Rattle.cc_cost.proofs.Kept.{Kept, kept}

all-names : (hs : List (List ℕ)) (a b c d : List ℕ) → list_all is_name hs ≡ true → is_name a ≡ true → is_name b ≡ true → is_name c ≡ true → is_name d ≡ true
    → list_all is_name (hs ++ a ∷ b ∷ c ∷ d ∷ []) ≡ true
all-names hs a b c d h e f g i = rw (list_all-append is_name hs (a ∷ b ∷ c ∷ d ∷ []), h, e, f, g, i) refl

-- how often a name stands among roles, in parts
in_parts : (x : List ℕ) (hs : List (List ℕ)) (a b c d : List ℕ) → times x (hs ++ a ∷ b ∷ c ∷ d ∷ []) ≡ times x hs + (times x (a ∷ []) + (times x (b ∷ []) + (times x (c ∷ []) + times x (d ∷ []))))
in_parts x hs a b c d =
    let h = times-append x hs (a ∷ b ∷ c ∷ d ∷ []) in
    let i = times-append x (a ∷ []) (b ∷ c ∷ d ∷ []) in
    let j = times-append x (b ∷ []) (c ∷ d ∷ []) in
    let k = times-append x (c ∷ []) (d ∷ []) in
    omega (arith, h, i, j, k)

taken_parts : (x : List ℕ) (a b c d rs : List (List ℕ)) → times x ((a ++ b ++ c ++ d) ++ rs) ≡ (times x a + (times x b + (times x c + times x d))) + times x rs
taken_parts x a b c d rs =
    let h = times-append x (a ++ b ++ c ++ d) rs in
    let i = times-append x (a ++ b ++ c) d in
    let j = times-append x (a ++ b) c in
    let k = times-append x a b in
    omega (arith, h, i, j, k)

kept_apart : (s : List Setting) → Kept s s
    → are_distinct (handlers_in s ++ intrinsic_for (codes "off") (codes "irq_off") s ∷ intrinsic_for (codes "on") (codes "irq_on") s ∷ intrinsic_for (codes "save") (codes "irq_save") s ∷ intrinsic_for (codes "restore") (codes "irq_restore") s ∷ []) ≡ true
kept_apart s k =
    apart (handlers_in s ++ intrinsic_for (codes "off") (codes "irq_off") s ∷ intrinsic_for (codes "on") (codes "irq_on") s ∷ intrinsic_for (codes "save") (codes "irq_save") s ∷ intrinsic_for (codes "restore") (codes "irq_restore") s ∷ []) (λ x.
    let p = in_parts x (handlers_in s) (intrinsic_for (codes "off") (codes "irq_off") s) (intrinsic_for (codes "on") (codes "irq_on") s) (intrinsic_for (codes "save") (codes "irq_save") s) (intrinsic_for (codes "restore") (codes "irq_restore") s) in
    let q = taken_parts x (default_of (codes "off") (codes "irq_off") s) (default_of (codes "on") (codes "irq_on") s) (default_of (codes "save") (codes "irq_save") s) (default_of (codes "restore") (codes "irq_restore") s) (filter_map role_of s) in
    let b = k.balance x in
    let m = at_most_once (defaults s ++ filter_map role_of s) k.roles x in
    omega (arith, p, q, b, m))

module _ (lines : List Line) (handlers : List (List ℕ)) (off on save restore : List ℕ) (e : handlers ≡ handlers_in (settings_of lines))
    (a : off ≡ intrinsic_for (codes "off") (codes "irq_off") (settings_of lines)) (b : on ≡ intrinsic_for (codes "on") (codes "irq_on") (settings_of lines))
    (c : save ≡ intrinsic_for (codes "save") (codes "irq_save") (settings_of lines)) (d : restore ≡ intrinsic_for (codes "restore") (codes "irq_restore") (settings_of lines)) where
  pub roles-named : first_from (settings_of lines) [] lines ≡ None → IsTrue (list_all is_name (handlers ++ off ∷ on ∷ save ∷ restore ∷ []))
  roles-named h = let k = kept lines h in rw (e, a, b, c, d) (all-names (handlers_in (settings_of lines)) _ _ _ _ k.handlers k.off k.on k.save k.restore)

  pub roles-apart : first_from (settings_of lines) [] lines ≡ None → IsTrue (are_distinct (handlers ++ off ∷ on ∷ save ∷ restore ∷ []))
  roles-apart h = rw (e, a, b, c, d) (kept_apart (settings_of lines) (kept lines h))

module _ (lines : List Line) (levels : List (List ℕ × ℕ)) (e : levels ≡ levels_in (settings_of lines)) where
  pub roles-levelled : first_from (settings_of lines) [] lines ≡ None → IsTrue (list_all (λ l. is_name l.0 && (nat_le 1 l.1 && nat_le l.1 7)) levels)
  roles-levelled h = rw e (kept lines h).levelled

  pub levels-apart : first_from (settings_of lines) [] lines ≡ None → IsTrue (are_distinct (map (λ l. l.0) levels))
  levels-apart h = rw e (kept lines h).levels

-- a count is not too large, whatever its field is
count-bound : (a : Bool) (v m : ℕ) → nat_le 0 m ≡ true → nat_le (unwrap_or (if a && (nat_le 0 v && nat_le v m) then Some v else None) 0) m ≡ true
count-bound false v m h = h
count-bound true v m h = by (nat_le 0 v && nat_le v m) refl
  where
    second : (x y : Bool) → (x && y) ≡ true → y ≡ true
    second true y g = g
    second false y g = cc g

    by : (b : Bool) → (nat_le 0 v && nat_le v m) ≡ b → nat_le (unwrap_or (if nat_le 0 v && nat_le v m then Some v else None) 0) m ≡ true
    by true g = rw g (second (nat_le 0 v) (nat_le v m) g)
    by false g = rw g h

count-one : (k : Key) (second third : List ℕ) → list_all (λ c. nat_le c.1 1000000000) (counts_in (record { key = k; second = second; third = third } ∷ [])) ≡ true
unfolding number_in
count-one key.Int second third = refl
count-one key.Pointer second third = refl
count-one key.Char second third = refl
count-one key.Align second third = refl
count-one key.Atomic second third = refl
count-one key.Handler second third = refl
count-one key.Intrinsic second third = refl
count-one key.Count second third = rw (count-bound (is_number third) (value_of third) 1000000000 refl) refl
count-one key.Weight second third = refl
count-one key.Budget second third = refl
count-one key.Level second third = refl

abbrev is_count : List ℕ × ℕ → Bool
is_count c = nat_le c.1 1000000000

all-counted : (s : List Setting) → list_all is_count (counts_in s) ≡ true
all-counted [] = refl
all-counted (s ∷ rest) = by (count_of s.key s.second s.third) (count-one s.key s.second s.third) (all-counted rest)
  where
    first : (x : Bool) → (x && true) ≡ true → x ≡ true
    first true g = refl
    first false g = cc g

    by : (o : Option (List ℕ × ℕ)) → list_all is_count (cons_option o []) ≡ true → list_all is_count (counts_in rest) ≡ true → list_all is_count (cons_option o (counts_in rest)) ≡ true
    by None g h = h
    by (Some c) g h = rw (first (nat_le c.1 1000000000) g, h) refl

module _ (lines : List Line) (counts : List (List ℕ × ℕ)) (e : counts ≡ counts_in (settings_of lines)) where
  pub profile-counted : IsTrue (list_all (λ c. nat_le c.1 1000000000) counts)
  profile-counted = rw e (all-counted (settings_of lines))

  pub counts-apart : first_from (settings_of lines) [] lines ≡ None → IsTrue (are_distinct (map (λ c. c.0) counts))
  counts-apart h = rw e (kept lines h).counts

pub weighed : (code time : ℕ) → IsTrue (nat_le code 1000) → IsTrue (nat_le time 1000) → IsTrue (nat_le code 1000 && nat_le time 1000)
weighed code time h k = rw (h, k) refl
