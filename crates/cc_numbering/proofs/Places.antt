-- The table of places, filled from the last of the order to the first.
use Rattle.std.proofs.Common.{arith, ◌≡◌, ◌∙◌, ◌+◌, ◌-◌, ◌<◌, ◌≤◌, ℕ, zero, suc, Bool, true, false, List, [], ◌∷◌, true≢false, eqb-true, eq-eqb, refl, ap, sym, length, drop, get_or, set, nat_eq}
use Rattle.std.specs.Prelude.{if◌then◌else◌}
use Rattle.std.proofs.lemmas.List.{drop_more, drop_all, length-set, set_past, get_or-set_same, get_or-set_other}
use Rattle.cc_numbering.specs.Numbers.{place_from, places_from}

-- what the table has when the order's last numbers were entered
pub record Entered (places order : List ℕ) (left count : ℕ) : Type 0 where
  pub inside : left ≤ length order
  pub long : length places ≡ count
  pub each : (i : ℕ) → i < count → get_or places i 0 ≡ place_from left (drop left order) i

are-places : (places order : List ℕ) (i count : ℕ) → length places ≡ count → ((j : ℕ) → j < count → get_or places j 0 ≡ place_from 0 order (i + j)) → places ≡ places_from i count order
are-places [] order i zero long each = refl
are-places [] order i (suc n) long each = absurd (omega arith)
are-places (p ∷ ps) order i zero long each = absurd (omega arith)
are-places (p ∷ ps) order i (suc n) long each =
    let zeroth : i + 0 ≡ i = omega arith in
    let first : p ≡ place_from 0 order i = each 0 (omega arith) ∙ ap (place_from 0 order) zeroth in
    let rest : ps ≡ places_from (suc i) n order =
    are-places ps order (suc i) n (omega arith) (λ j h. let next : i + suc j ≡ suc i + j = omega arith in each (suc j) (omega arith) ∙ ap (place_from 0 order) next) in
    λ k. first k ∷ rest k

pub all-entered : (places order : List ℕ) (left count : ℕ) → left ≤ 0 → Entered places order left count → places ≡ places_from 0 count order
all-entered places order zero count h entered = are-places places order 0 count entered.long (λ j k. let same : j ≡ 0 + j = omega arith in entered.each j k ∙ ap (place_from 0 order) same)
all-entered places order (suc left) count h entered = absurd (omega arith)

pub none-entered : (places order : List ℕ) (left count : ℕ) → left ≡ length order → length places ≡ count → ((i : ℕ) → get_or places i 0 ≡ 0) → Entered places order left count
none-entered places order left count is long zeros =
    let none : drop left order ≡ [] = drop_all left order (omega arith) in
    record { inside = omega arith; long = long; each = λ i h. zeros i ∙ ap (λ js. place_from left js i) (sym none) }

set-by : (ps : List ℕ) (i j n x : ℕ) (b : Bool) → nat_eq j i ≡ b → j < length ps → get_or ps j 0 ≡ x → get_or (set ps i n) j 0 ≡ (if b then n else x)
set-by ps i j n x true t h e = let same : j ≡ i = eqb-true j i t in ap (λ k. get_or (set ps i n) k 0) same ∙ get_or-set_same ps i n 0 (omega arith)
set-by ps i j n x false t h e = get_or-set_other ps i j n 0 (λ same. true≢false (sym (eq-eqb j i same) ∙ t)) ∙ e

set-each : (ps : List ℕ) (i j n x : ℕ) → j < length ps → get_or ps j 0 ≡ x → get_or (set ps i n) j 0 ≡ (if nat_eq j i then n else x)
set-each ps i j n x h e = set-by ps i j n x (nat_eq j i) refl h e

-- one number more is entered
pub one-entered : (places next order : List ℕ) (left less count place i : ℕ) → 0 < left → less ≡ left - 1 → place ≡ less → i ≡ get_or order less i → next ≡ set places i place
    → Entered places order left count → Entered next order less count
one-entered places next order left less count place i above is named found written entered =
    let k : less < length order = omega (arith, entered.inside) in
    let after : less + 1 ≡ left = omega arith in
    let first : get_or order less i ≡ i = sym found in
    let further : left ≡ suc less = omega arith in
    let ahead : drop less order ≡ i ∷ drop left order = drop_more order less i k ∙ (λ j. first j ∷ drop (after j) order) in
    record {
      inside = omega (arith, entered.inside);
      long = ap length written ∙ (length-set places i place ∙ entered.long);
      each = λ j h.
          let low : j < length places = omega (arith, entered.long) in
          ap (λ ps. get_or ps j 0) written ∙ (set-each places i j place (place_from left (drop left order) j) low (entered.each j h)
          ∙ ((λ d. if nat_eq j i then named d else place_from (further d) (drop left order) j) ∙ ap (λ js. place_from less js j) (sym ahead)));
    }

-- past the end of the table nothing is written
pub one-outside : (places order : List ℕ) (left less count place i : ℕ) → 0 < left → less ≡ left - 1 → place ≡ less → i ≡ get_or order less i → length places ≤ i
    → Entered places order left count → Entered places order less count
one-outside places order left less count place i above is named found past entered = one-entered places places order left less count place i above is named found (sym (set_past places i place past)) entered

pub ruleset of_places = (all-entered, none-entered, one-entered, one-outside)
