-- What is asked of unstable cells.
use Rattle.std.proofs.Common.{arith, ◌≡◌, ◌+◌, ◌<◌, ℕ, zero, suc, Bool, true, false, cond, List, [], ◌∷◌, ◌++◌, map, length, append_assoc, append-nil, Option, Some, None, option_map, option_and_then, slice_get, refl, ap, sym, subst, ◌∙◌}
use Rattle.std.specs.List.{filter, flat_map}
use Rattle.std.proofs.lemmas.List.{length-map}
use Rattle.std.proofs.lemmas.List.Elements.{filter-append, filter_agree}
use Rattle.std.proofs.lemmas.Option.{slice_get-map}
use Rattle.cc_rules.specs.CcPlaces.declared.abs.Abs.{Abs}
use Rattle.cc_program.specs.declared.program.Program.{Program}
use Rattle.cc_rules.specs.Constraints.{Stability}
use Rattle.cc_rules_asked.specs.declared.asked.Asked.{Asked}
use Rattle.cc_rules_asked.specs.declared.asked.Asked.TheVariants as asked
use Rattle.cc_rules_asked.specs.Asked.{all_needs}
use Rattle.cc_rules.specs.Rules.{whole_number, is_unstable, is_written}
use Rattle.cc_rules_asked.specs.Asks.{AsksHere}
use Rattle.cc_rules_asked.specs.Unstable.{AreCellKeysOf, key_at, is_unstable_by, unstable_by, parts_of_cells, parts_apart, parts_unstable, unstable_in}
use Rattle.cc_rules_asked.proofs.Listed.{parts, parts_behind}
use Rattle.cc_rules.specs.CcRulesFlows.declared.after.Here.{Here}
use Rattle.cc_rules.specs.CcRulesFlows.Acts.{Act}
use Rattle.cc_rules.specs.CcRulesFlows.Here.{IsHere}
use Rattle.cc_rules.specs.CcRulesNeeds.Flowing.{numbers, each_pair}
use Rattle.cc_rules.specs.CcRulesNeeds.declared.needs.Part.{Part}
use Rattle.cc_rules.specs.CcRulesNeeds.declared.needs.Part.TheVariants.{Mark, Values}
use Rattle.cc_rules.specs.CcRulesNeeds.declared.needs.Slot.{Slot}
use Rattle.cc_rules.specs.CcRulesNeeds.declared.needs.Slot.TheVariants.{CellAt, Apart}
use Rattle.cc_rules.specs.CcRulesNeeds.Needs.{Needs}
use Rattle.cc_rules.specs.CcStateFacts.declared.facts.Key.TheVariants as key
use Rattle.cc_rules.specs.CcStateFacts.Facts.{levels_of}
use Rattle.cc_rules.specs.CcStateKeys.Keys.{key_number}
use Rattle.cc_rules.specs.CcStateKeys.Tracked.{registers, tracked}
use Rattle.cc_rules.specs.CcStateOperators.Domains.{Domain}

-- ---- numbers from one on

numbers_put_by : (k m n : ℕ) → m ≡ k + n → numbers k (suc n) ≡ numbers k n ++ (m ∷ [])
numbers_put_by k m zero e = ap (λ x. x ∷ []) (omega (arith, e))
numbers_put_by k m (suc n) e = ap (λ xs. k ∷ xs) (numbers_put_by (suc k) m n (omega (arith, e)))

pub numbers_put : (n : ℕ) → numbers 0 (n + 1) ≡ numbers 0 n ++ (n ∷ [])
numbers_put n = let e : n + 1 ≡ suc n = omega arith in ap (numbers 0) e ∙ numbers_put_by 0 n n (omega arith)

flat_behind : {A : Type 0} (f : ℕ → List A) (xs : List ℕ) (n : ℕ) → flat_map f (xs ++ (n ∷ [])) ≡ flat_map f xs ++ f n
flat_behind f [] n = append-nil (f n)
flat_behind f (x ∷ xs) n = ap (λ rest. f x ++ rest) (flat_behind f xs n) ∙ sym (append_assoc (f x) (flat_map f xs) (f n))

pub flat_put : {A : Type 0} (f : ℕ → List A) (n : ℕ) → flat_map f (numbers 0 (n + 1)) ≡ flat_map f (numbers 0 n) ++ f n
flat_put f n = ap (flat_map f) (numbers_put n) ∙ flat_behind f (numbers 0 n) n

-- ---- pairs of each register with unstable cells

row_by : {B : Type 0} (g : ℕ × ℕ → B) (r j : ℕ) (b : Bool) (xs : List (ℕ × ℕ)) (ys : List ℕ) → map g xs ≡ map (λ j. g (r, j)) ys → map g (cond b ((r, j) ∷ xs) xs) ≡ map (λ j. g (r, j)) (cond b (j ∷ ys) ys)
row_by g r j true xs ys e = ap (λ rest. g (r, j) ∷ rest) e
row_by g r j false xs ys e = e

row : {B : Type 0} (g : ℕ × ℕ → B) (u : ℕ → Bool) (r : ℕ) (js : List ℕ) → map g (filter (λ (q : ℕ × ℕ). u q.1) (map (λ j. (r, j)) js)) ≡ map (λ j. g (r, j)) (filter u js)
row g u r [] = refl
row g u r (j ∷ js) = row_by g r j (u j) (filter (λ (q : ℕ × ℕ). u q.1) (map (λ j. (r, j)) js)) (filter u js) (row g u r js)

map_behind : {A B : Type 0} (g : A → B) (xs ys : List A) → map g (xs ++ ys) ≡ map g xs ++ map g ys
map_behind g [] ys = refl
map_behind g (x ∷ xs) ys = ap (λ rest. g x ∷ rest) (map_behind g xs ys)

rows : {B : Type 0} (g : ℕ × ℕ → B) (u : ℕ → Bool) (js rs : List ℕ) →
    map g (filter (λ (q : ℕ × ℕ). u q.1) (flat_map (λ r. map (λ j. (r, j)) js) rs)) ≡ flat_map (λ r. map (λ j. g (r, j)) (filter u js)) rs
rows g u js [] = refl
rows g u js (r ∷ rs) =
    ap (map g) (filter-append (λ (q : ℕ × ℕ). u q.1) (map (λ j. (r, j)) js) (flat_map (λ r. map (λ j. (r, j)) js) rs))
    ∙ (map_behind g (filter (λ (q : ℕ × ℕ). u q.1) (map (λ j. (r, j)) js)) (filter (λ (q : ℕ × ℕ). u q.1) (flat_map (λ r. map (λ j. (r, j)) js) rs))
    ∙ (ap (λ xs. xs ++ map g (filter (λ (q : ℕ × ℕ). u q.1) (flat_map (λ r. map (λ j. (r, j)) js) rs))) (row g u r js)
    ∙ ap (λ ys. map (λ j. g (r, j)) (filter u js) ++ ys) (rows g u js rs)))

-- ---- the numbers of keys, and those of the rule

opened : {A : Type 0} (f : A → Option ℕ) (x : Option A) → option_and_then (λ (k : Option ℕ). k) (option_map f x) ≡ option_and_then f x
opened f None = refl
opened f (Some x) = refl

same_key : (p : Program) (keys : List (Option ℕ)) (j : ℕ) → AreCellKeysOf p keys → key_at keys j ≡ option_and_then (λ i. key_number p (key.Object i)) (slice_get (tracked p) j)
same_key p keys j e =
    ap (λ keys. key_at keys j) e
    ∙ (ap (option_and_then (λ (k : Option ℕ). k)) (slice_get-map (λ i. key_number p (key.Object i)) (tracked p) j) ∙ opened (λ i. key_number p (key.Object i)) (slice_get (tracked p) j))

map_agree : {A B : Type 0} (f g : A → B) → ((x : A) → f x ≡ g x) → (xs : List A) → map f xs ≡ map g xs
map_agree f g h [] = refl
map_agree f g h (x ∷ xs) = ap (λ y. y ∷ map f xs) (h x) ∙ ap (λ ys. g x ∷ ys) (map_agree f g h xs)

-- ---- loops over numbers

pub kept_on : (u : ℕ → Bool) (n : ℕ) (now new : List ℕ) → now ≡ filter u (numbers 0 n) → u n ≡ true → new ≡ now ++ (n ∷ []) → new ≡ filter u (numbers 0 (n + 1))
kept_on u n now new h t e =
    e ∙ (ap (λ xs. xs ++ (n ∷ [])) h ∙ (ap (λ b. filter u (numbers 0 n) ++ cond b (n ∷ []) []) (sym t) ∙ sym (ap (filter u) (numbers_put n) ∙ filter-append u (numbers 0 n) (n ∷ []))))

pub left_on : (u : ℕ → Bool) (n : ℕ) (now new : List ℕ) → now ≡ filter u (numbers 0 n) → u n ≡ false → new ≡ now → new ≡ filter u (numbers 0 (n + 1))
left_on u n now new h t e =
    e ∙ (h ∙ (sym (append-nil (filter u (numbers 0 n))) ∙ (ap (λ b. filter u (numbers 0 n) ++ cond b (n ∷ []) []) (sym t) ∙ sym (ap (filter u) (numbers_put n) ∙ filter-append u (numbers 0 n) (n ∷ [])))))

pub put_on : {A : Type 0} (f : ℕ → List A) (old now new : List A) (n : ℕ) → now ≡ old ++ flat_map f (numbers 0 n) → new ≡ now ++ f n → new ≡ old ++ flat_map f (numbers 0 (n + 1))
put_on f old now new n h e = e ∙ (ap (λ xs. xs ++ f n) h ∙ (append_assoc old (flat_map f (numbers 0 n)) (f n) ∙ ap (λ ys. old ++ ys) (sym (flat_put f n))))

-- ---- all needs

module _ {I : Type 0} (d : Domain I) (here : Here I) where
  abbrev needs_all : List (Asked I) → Needs I
  needs_all list = all_needs here.context.program.now list

  apart : (cells rs : List ℕ) → needs_all (flat_map (parts_apart here.number cells) rs) ≡ flat_map (λ r. map (λ j. (Apart here.number r j, Mark true)) cells) rs
  apart cells [] = refl
  apart cells (r ∷ rs) =
      parts_behind here.context.program.now (parts_apart here.number cells r) (flat_map (parts_apart here.number cells) rs)
      ∙ (ap (λ xs. xs ++ needs_all (flat_map (parts_apart here.number cells) rs)) (parts here.context.program.now (Apart here.number r) (λ j. Mark true) cells)
      ∙ ap (λ ys. map (λ j. (Apart here.number r j, Mark true)) cells ++ ys) (apart cells rs))

  abbrev pub running : ℕ
  running = levels_of here.facts.now.levels here.context.id

  abbrev pub unstable_cells : List (Option ℕ) → List ℕ
  unstable_cells keys = unstable_by running here.facts.now.write_levels keys

  abbrev needs_of_keys : (ℕ → Option ℕ) → List ℕ → ℕ → Needs I
  needs_of_keys number cells registers =
      map (λ j. (CellAt here.number j, Values (option_and_then (slice_get here.facts.now.whole) (number j)))) cells ++ flat_map (λ r. map (λ j. (Apart here.number r j, Mark true)) cells) (numbers 0 registers)

  listed : (keys : List (Option ℕ)) (cells : List ℕ) (registers : ℕ) → needs_all (parts_unstable here.number here.facts.now.whole keys cells registers) ≡ needs_of_keys (key_at keys) cells registers
  listed keys cells registers =
      parts_behind here.context.program.now (parts_of_cells here.number here.facts.now.whole keys cells) (flat_map (parts_apart here.number cells) (numbers 0 registers))
      ∙ (ap (λ xs. xs ++ needs_all (flat_map (parts_apart here.number cells) (numbers 0 registers)))
      (parts here.context.program.now (CellAt here.number) (λ j. Values (option_and_then (slice_get here.facts.now.whole) (key_at keys j))) cells)
      ∙ ap (λ ys. map (λ j. (CellAt here.number j, Values (option_and_then (slice_get here.facts.now.whole) (key_at keys j)))) cells ++ ys) (apart cells (numbers 0 registers)))

  -- as the rule has it: by the keys of the program, with so many registers and tracked cells
  abbrev whole_key : ℕ → Option ℕ
  whole_key j = whole_number d here.context.program.now here.facts.now here.number here.context.id here.context.func.now here.point.now here.fact.now j

  abbrev is_free : ℕ → Bool
  is_free j = is_unstable d here.context.program.now here.facts.now here.number here.context.id here.context.func.now here.point.now here.fact.now j

  abbrev needs_told : ℕ → ℕ → Needs I
  needs_told registers cells =
      map (λ j. (CellAt here.number j, Values (option_and_then (slice_get here.facts.now.whole) (whole_key j)))) (filter is_free (numbers 0 cells))
      ++ map (λ (q : ℕ × ℕ). (Apart here.number q.0 q.1, Mark true)) (filter (λ (q : ℕ × ℕ). is_free q.1) (each_pair registers cells))

  same_test : (number : Option ℕ) → is_unstable_by running here.facts.now.write_levels number ≡ is_written d here.context.program.now here.facts.now here.number here.context.id here.context.func.now here.point.now here.fact.now number
  same_test None = refl
  same_test (Some k) = refl

  told : (registers cells : ℕ) → needs_of_keys whole_key (filter is_free (numbers 0 cells)) registers ≡ needs_told registers cells
  told registers cells =
      ap (λ ys. map (λ j. (CellAt here.number j, Values (option_and_then (slice_get here.facts.now.whole) (whole_key j)))) (filter is_free (numbers 0 cells)) ++ ys)
      (sym (rows (λ (q : ℕ × ℕ). (Apart here.number q.0 q.1, Mark true)) is_free (numbers 0 cells) (numbers 0 registers)))

  by_keys : (keys : List (Option ℕ)) → AreCellKeysOf here.context.program.now keys → unstable_cells keys ≡ filter is_free (numbers 0 (length (tracked here.context.program.now)))
  by_keys keys e =
      filter_agree (λ j. is_unstable_by running here.facts.now.write_levels (key_at keys j)) is_free
      (λ j. ap (is_unstable_by running here.facts.now.write_levels) (same_key here.context.program.now keys j e) ∙ same_test (whole_key j)) (numbers 0 (length keys))
      ∙ ap (λ n. filter is_free (numbers 0 n)) (ap length e ∙ length-map (tracked here.context.program.now) (λ i. key_number here.context.program.now (key.Object i)))

  whole_agree : (keys : List (Option ℕ)) (cells : List ℕ) (registers : ℕ) → AreCellKeysOf here.context.program.now keys → needs_of_keys (key_at keys) cells registers ≡ needs_of_keys whole_key cells registers
  whole_agree keys cells registers e =
      ap (λ xs. xs ++ flat_map (λ r. map (λ j. (Apart here.number r j, Mark true)) cells) (numbers 0 registers))
      (map_agree (λ j. (CellAt here.number j, Values (option_and_then (slice_get here.facts.now.whole) (key_at keys j)))) (λ j. (CellAt here.number j, Values (option_and_then (slice_get here.facts.now.whole) (whole_key j))))
      (λ j. ap (λ k. (CellAt here.number j, Values (option_and_then (slice_get here.facts.now.whole) k))) (same_key here.context.program.now keys j e)) cells)

  pub unstable_asked : (list : List (Asked I)) (keys : List (Option ℕ)) (cells : List ℕ) (registers : ℕ) → IsHere d here → AreCellKeysOf here.context.program.now keys → here.fact.now.on ≡ true → cells ≡ unstable_cells keys →
      registers ≡ length here.context.registers.now → list ≡ parts_unstable here.number here.facts.now.whole keys cells registers → (act : Act) → AsksHere d here Stability act list
  unstable_asked list keys cells count h e on c r l act =
      ap (needs_all) l ∙ (listed keys cells count ∙ (whole_agree keys cells count e
      ∙ (ap (λ cells. needs_of_keys whole_key cells count) (c ∙ by_keys keys e) ∙ (told count (length (tracked here.context.program.now))
      ∙ (ap (λ n. needs_told n (length (tracked here.context.program.now))) (r ∙ ap length h.registers)
      ∙ ap (λ b. cond b (needs_told (length (registers here.context.func.now)) (length (tracked here.context.program.now))) []) (sym on))))))

  pub unstable_unasked : here.fact.now.on ≡ false → (act : Act) → AsksHere d here Stability act []
  unstable_unasked off act = ap (λ b. cond b (needs_told (length (registers here.context.func.now)) (length (tracked here.context.program.now))) []) (sym off)

  pub stability_asked : (list : List (Asked I)) (keys : List (Option ℕ)) → IsHere d here → AreCellKeysOf here.context.program.now keys → list ≡ cond here.fact.now.on (unstable_in here keys) [] → (act : Act) → AsksHere d here Stability act list
  stability_asked list keys h e l = by here.fact.now.on refl
    where
      by : (b : Bool) → here.fact.now.on ≡ b → (act : Act) → AsksHere d here Stability act list
      by true on = unstable_asked list keys (unstable_cells keys) (length here.context.registers.now) h e on refl refl (l ∙ ap (λ b. cond b (unstable_in here keys) []) on)
      by false off = subst (λ list. (act : Act) → AsksHere d here Stability act list) (sym (l ∙ ap (λ b. cond b (unstable_in here keys) []) off)) (unstable_unasked off)
