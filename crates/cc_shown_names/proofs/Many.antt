-- A text names each structure of its program, so a unit has as many.
use Rattle.std.proofs.Common.{arith, ◌≡◌, ◌<◌, ◌≤◌, ℕ, zero, suc, Bool, true, false, ◌||◌, List, [], ◌∷◌, map, length, refl, ap, sym, ◌∙◌, subst, nat_eq, eqb-true}
use Rattle.std.specs.Prelude.{if◌then◌else◌}
use Rattle.std.proofs.lemmas.List.{length-map}
use Rattle.cc_program.specs.declared.program.Program.{Program}
use Rattle.cc_type.specs.CcScopes.State.{as_structure, structures_of}
use Rattle.cc_type.specs.CcScopes.declared.unit.Declared.{Declared}
use Rattle.cc_type.specs.CcSyntax.Sound.{IsSound}
use Rattle.cc_shown_declarations.specs.Order.{is_among, order_before, appearance}
use Rattle.cc_shown_declarations.specs.States.{known_as}
use Rattle.cc_shown_declarations.proofs.Front.{front-of, order-whole}
use Rattle.cc_shown_names.specs.States.{unit_state}

abbrev without : ℕ → List ℕ → List ℕ
without m [] = []
without m (x ∷ xs) = if nat_eq m x then xs else x ∷ without m xs

shorter-by : (m x : ℕ) (xs : List ℕ) (b : Bool) → b || is_among m xs ≡ true → (is_among m xs ≡ true → suc (length (without m xs)) ≡ length xs) → suc (length (if b then xs else x ∷ without m xs)) ≡ suc (length xs)
shorter-by m x xs true h next = refl
shorter-by m x xs false h next = ap suc (next h)

shorter : (m : ℕ) (xs : List ℕ) → is_among m xs ≡ true → suc (length (without m xs)) ≡ length xs
shorter m [] h = absurd (cc)
shorter m (x ∷ xs) h = shorter-by m x xs (nat_eq m x) h (shorter m xs)

stays-by : (i m x : ℕ) (xs : List ℕ) (b c : Bool) → nat_eq m x ≡ b → nat_eq i x ≡ c → i < m → c || is_among i xs ≡ true → (is_among i xs ≡ true → is_among i (without m xs) ≡ true) → is_among i (if b then xs else x ∷ without m xs) ≡ true
stays-by i m x xs true true e f l h next =
    let g : m ≡ x = eqb-true m x e in
    let k : i ≡ x = eqb-true i x f in
    absurd (omega (arith, g, k, l))
stays-by i m x xs true false e f l h next = h
stays-by i m x xs false true e f l h next = ap (λ b. b || is_among i (without m xs)) f
stays-by i m x xs false false e f l h next = ap (λ b. b || is_among i (without m xs)) f ∙ next h

stays : (i m : ℕ) (xs : List ℕ) → i < m → is_among i xs ≡ true → is_among i (without m xs) ≡ true
stays i m [] l h = absurd (cc)
stays i m (x ∷ xs) l h = stays-by i m x xs (nat_eq m x) (nat_eq i x) refl refl l h (stays i m xs l)

as-many : (n : ℕ) (xs : List ℕ) → ((i : ℕ) → i < n → is_among i xs ≡ true) → n ≤ length xs
as-many zero xs h = omega arith
as-many (suc n) xs h =
    let last = h n (omega arith) in
    let rest = as-many n (without n xs) (λ i l. stays i n xs l (h i (omega (arith, l)))) in
    let one = shorter n xs last in
    omega (arith, rest, one)

module _ (p : Program) (sound : IsSound p) where
  all-named : length p.structures ≤ length (appearance p)
  all-named =
      subst (λ (o : List ℕ). length p.structures ≤ length o) (order-whole p sound)
      (as-many (length p.structures) (order_before p (length p.structures)) (front-of p sound (length p.structures) (omega arith)).passed.before)

  pub many-structures : (names : List Declared) → length p.structures ≤ length (structures_of (unit_state p names))
  many-structures names =
      let a = all-named in
      let b : length (map as_structure (map (known_as p (length p.structures)) (appearance p))) ≡ length (map (known_as p (length p.structures)) (appearance p)) = length-map (map (known_as p (length p.structures)) (appearance p)) as_structure in
      let c : length (map (known_as p (length p.structures)) (appearance p)) ≡ length (appearance p) = length-map (appearance p) (known_as p (length p.structures)) in
      subst (λ n. length p.structures ≤ n) (sym (b ∙ c)) a
