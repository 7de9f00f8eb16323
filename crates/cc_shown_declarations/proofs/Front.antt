-- What is known of the order in front of each structure; and what a sound program says of the members of each.
use Rattle.std.proofs.Common.{◌≡◌, ◌<◌, ◌≤◌, ◌+◌, ℕ, zero, suc, Bool, true, false, ◌||◌, List, [], ◌∷◌, ◌++◌, map, length, take, drop, Option, Some, None, refl, ap, sym, ◌∙◌, subst, append_assoc, slice_get, nat_eq, arith}
use Rattle.std.proofs.lemmas.Bool.Decides.{nat_tests}
use Rattle.std.proofs.lemmas.List.{append-nil, take_all}
use Rattle.std.specs.Prelude.{if◌then◌else◌}
use Rattle.cc_print.specs.Units.{any_true, is_named_in, first_naming, is_in_parameters}
use Rattle.cc_program.specs.declared.program.Program.{Program}
use Rattle.cc_program.specs.declared.types.CType.{CType}
use Rattle.cc_program.specs.declared.types.Shape.{Shape, out-Shape, roll-Shape, out-roll-Shape}
use Rattle.cc_program.specs.declared.types.Shape.TheOpen as shape
use Rattle.cc_program.specs.declared.types.Sig.{Sig, out-Sig, out-roll-Sig}
use Rattle.cc_program.specs.declared.types.Structure.{Structure}
use Rattle.cc_program.proofs.TypeInduction.{with_shape, TypeParts, by_type}
use Rattle.cc_type.specs.CcSyntax.Sound.{IsSound}
use Rattle.cc_type.specs.CcSyntax.Types.{Named}
use Rattle.cc_shown_declarations.specs.Order.{base_of, is_among, with_first, with_base, with_members, with_structures, announced_from, order_before, appearance}
use Rattle.cc_shown_declarations.proofs.Announced.{InFront, at-first-known, begun, base-keeps, member-passed, structure-passed, member-stands, named-there, take-more}
use Rattle.cc_shown_declarations.proofs.Namings.{base-at, named-at}
use Rattle.cc_shown_declarations.proofs.Orders.{self, or-left, Begins, begins-itself, begins-structures, first-there, first-origin}

-- ---- what the words of a type name, it names

module _ (j : ℕ) where
  abbrev Names : CType → Type 0
  Names t = base_of t ≡ Some j → is_named_in j t ≡ true

  abbrev ResultNames : Sig → Type 0
  ResultNames s = Names (out-Sig s).result

  none-some : (o : Option ℕ) → o ≡ None → o ≡ Some j → ⊥
  none-some o h k = let g : ◌≡◌ {A = Option ℕ} None (Some j) = sym h ∙ k in absurd (cc)

  names-by : (t : CType) (x : shape.Shape-F Shape CType Sig) → out-Shape t.shape ≡ x → TypeParts Names ResultNames x → Names t
  names-by t shape.Void e h k = absurd (none-some (base_of t) (base-at t shape.Void e) k)
  names-by t (shape.Int i) e h k = absurd (none-some (base_of t) (base-at t (shape.Int i) e) k)
  names-by t (shape.Pointer to) e h k = named-at j t (shape.Pointer to) e ∙ h (sym (base-at t (shape.Pointer to) e) ∙ k)
  names-by t (shape.Array of n) e h k = named-at j t (shape.Array of n) e ∙ h (sym (base-at t (shape.Array of n) e) ∙ k)
  names-by t (shape.Struct i) e h k =
      let q : ◌≡◌ {A = Option ℕ} (Some i) (Some j) = sym (base-at t (shape.Struct i) e) ∙ k in
      let is : i ≡ j = cc in
      named-at j t (shape.Struct i) e ∙ ap (nat_eq j) is ∙ self j
  names-by t (shape.Func sig) e h k =
      named-at j t (shape.Func sig) e ∙ or-left (is_named_in j (out-Sig sig).result) (any_true (map (is_named_in j) (out-Sig sig).params)) (h (sym (base-at t (shape.Func sig) e) ∙ k))

  pub words-name : (t : CType) → Names t
  words-name = by_type Names ResultNames (λ constant volatile x h. names-by (with_shape constant volatile (roll-Shape x)) x (out-roll-Shape x) h)
      (λ x h. subst (λ (y : shape.Sig-F Shape CType Sig). Names y.result) (sym (out-roll-Sig x)) h.0)

-- ---- lists of structures in two parts

structures-append : (i : ℕ) (ss : List Structure) (s : Structure) (order : List ℕ) → with_structures i (ss ++ s ∷ []) order ≡ with_members s.members (with_first (i + length ss) (with_structures i ss order))
structures-append i [] s order = let n : i ≡ i + 0 = omega arith in ap (λ k. with_members s.members (with_first k order)) n
structures-append i (t ∷ ts) s order =
    let n : suc i + length ts ≡ i + suc (length ts) = omega arith in
    structures-append (suc i) ts s (with_members t.members (with_first i order))
    ∙ ap (λ k. with_members s.members (with_first k (with_structures (suc i) ts (with_members t.members (with_first i order))))) n

take-length : {A : Type 0} → (xs : List A) (k : ℕ) (x : A) → slice_get xs k ≡ Some x → length (take k xs) ≡ k
take-length [] k x e = absurd (cc)
take-length (y ∷ ys) zero x e = refl
take-length (y ∷ ys) (suc k) x e = ap suc (take-length ys k x e)

split-structures : (i k : ℕ) (ss : List Structure) (order : List ℕ) → with_structures (i + length (take k ss)) (drop k ss) (with_structures i (take k ss) order) ≡ with_structures i ss order
split-structures i zero [] order = refl
split-structures i zero (s ∷ ss) order = let n : i + 0 ≡ i = omega arith in ap (λ k. with_structures k (s ∷ ss) order) n
split-structures i (suc k) [] order = refl
split-structures i (suc k) (s ∷ ss) order =
    let n : i + suc (length (take k ss)) ≡ suc i + length (take k ss) = omega arith in
    ap (λ m. with_structures m (drop k ss) (with_structures (suc i) (take k ss) (with_members s.members (with_first i order)))) n ∙ split-structures (suc i) k ss (with_members s.members (with_first i order))

module _ (p : Program) (sound : IsSound p) where
  abbrev IsAt : ℕ → Type 0
  IsAt i = (t : Structure) × (slice_get p.structures i ≡ Some t)

  abbrev Within : List ℕ → Type 0
  Within order = (i : ℕ) → is_among i order ≡ true → IsAt i

  -- behind the first so many structures
  pub record Front (k : ℕ) (order : List ℕ) : Type 0 where
    pub passed : InFront p k [] order
    pub within : Within order

  -- ---- announced ones

  in-front-origin : (b : Bool) (i n : ℕ) (is : List ℕ) → is_among n (if b then i ∷ is else is) ≡ true → (C : Type 0) → (n ≡ i → C) → (is_among n is ≡ true → C) → C
  in-front-origin false i n is h C f g = g h
  in-front-origin true i n is h C f g = by (nat_eq n i) refl h
    where
      by : (c : Bool) → nat_eq n i ≡ c → (c || is_among n is) ≡ true → C
      by true e k = f (grind (arith, nat_tests, e))
      by false e k = g k

  announced-within : (i : ℕ) (rest : List Structure) → ((j : ℕ) (t : Structure) → slice_get rest j ≡ Some t → slice_get p.structures (i + j) ≡ Some t) → Within (announced_from p.structures i rest)
  announced-within i [] h n k = absurd (cc)
  announced-within i (s ∷ rest) h n k =
      in-front-origin (is_in_parameters (first_naming i (take i p.structures))) i n (announced_from p.structures (suc i) rest) k (IsAt n)
      (λ is. let z : i + 0 ≡ n = omega (arith, is) in (s, ap (slice_get p.structures) (sym z) ∙ h 0 s refl))
      (announced-within (suc i) rest (λ j t e. let z : suc i + j ≡ i + suc j = omega arith in ap (slice_get p.structures) z ∙ h (suc j) t e) n)

  at-first-front : Front 0 (announced_from p.structures 0 p.structures)
  at-first-front = record {
    passed = at-first-known p;
    within = announced-within 0 p.structures (λ j t e. let z : 0 + j ≡ j = omega arith in ap (slice_get p.structures) z ∙ e);
  }

  -- ---- a structure that is passed

  pub first-within : (k : ℕ) (s : Structure) (order : List ℕ) → slice_get p.structures k ≡ Some s → Within order → Within (with_first k order)
  first-within k s order e w i h = first-origin k i order (IsAt i) h (w i) (λ is. (s, ap (slice_get p.structures) is ∙ e))

  base-within : (o : Option ℕ) (order : List ℕ) → ((j : ℕ) → o ≡ Some j → IsAt j) → Within order → Within (with_base o order)
  base-within None order f w i h = w i h
  base-within (Some j) order f w i h = first-origin j i order (IsAt i) h (w i) (λ is. subst IsAt (sym is) (f j refl))

  abbrev AllAt : Structure → ℕ → List Named → Type 0
  AllAt s n ls = (m : ℕ) (l : Named) → slice_get ls m ≡ Some l → slice_get s.members (n + m) ≡ Some l

  pub members-passed : (k : ℕ) (s : Structure) → slice_get p.structures k ≡ Some s → (n : ℕ) (done ls : List Named) (order : List ℕ) → AllAt s n ls → InFront p k done order → Within order → InFront p k (done ++ ls) (with_members ls order) × Within (with_members ls order)
  members-passed k s e n done [] order f q w = (subst (λ (ks : List Named). InFront p k ks order) (sym (append-nil done)) q, w)
  members-passed k s e n done (l ∷ ls) order f q w =
      let z : n + 0 ≡ n = omega arith in
      let here : slice_get s.members n ≡ Some l = ap (slice_get s.members) (sym z) ∙ f 0 l refl in
      let inner = members-passed k s e (suc n) (done ++ l ∷ []) ls (with_base (base_of l.1) order) (λ m r g. let y : suc n + m ≡ n + suc m = omega arith in ap (slice_get s.members) y ∙ f (suc m) r g)
      (member-passed p k done l order q)
      (base-within (base_of l.1) order (λ j g. named-there p j l.1 (member-stands p sound k n s l e here) (words-name j l.1 g)) w) in
      (subst (λ (ks : List Named). InFront p k ks (with_members (l ∷ ls) order)) (append_assoc done (l ∷ []) ls) inner.0, inner.1)

  pub members-keep : (i : ℕ) (ls : List Named) (order : List ℕ) → is_among i order ≡ true → is_among i (with_members ls order) ≡ true
  members-keep i [] order h = h
  members-keep i (l ∷ ls) order h = members-keep i ls (with_base (base_of l.1) order) (base-keeps p (base_of l.1) i order h)

  one-passed : (k : ℕ) (s : Structure) (order : List ℕ) → slice_get p.structures k ≡ Some s → Front k order → Front (suc k) (with_members s.members (with_first k order))
  one-passed k s order e q =
      let r = members-passed k s e 0 [] s.members (with_first k order) (λ m l f. let z : 0 + m ≡ m = omega arith in ap (slice_get s.members) z ∙ f) (begun p k order q.passed) (first-within k s order e q.within) in
      record {
        passed = structure-passed p k s (with_members s.members (with_first k order)) e (members-keep k s.members (with_first k order) (first-there k order)) r.0;
        within = r.1;
      }

  pub order-next : (k : ℕ) (s : Structure) → slice_get p.structures k ≡ Some s → order_before p (suc k) ≡ with_members s.members (with_first k (order_before p k))
  order-next k s e =
      let n : 0 + length (take k p.structures) ≡ k = omega (arith, take-length p.structures k s e) in
      ap (λ (ss : List Structure). with_structures 0 ss (announced_from p.structures 0 p.structures)) (take-more p.structures k s e)
      ∙ structures-append 0 (take k p.structures) s (announced_from p.structures 0 p.structures)
      ∙ ap (λ m. with_members s.members (with_first m (order_before p k))) n

  get-there : {A : Type 0} → (xs : List A) (k : ℕ) → k < length xs → (x : A) × (slice_get xs k ≡ Some x)
  get-there [] k h = absurd (omega (arith, h))
  get-there (x ∷ xs) zero h = (x, refl)
  get-there (x ∷ xs) (suc k) h = get-there xs k (omega (arith, h))

  pub front-of : (k : ℕ) → k ≤ length p.structures → Front k (order_before p k)
  front-of zero h = at-first-front
  front-of (suc k) h =
      let s = get-there p.structures k (omega (arith, h)) in
      subst (λ (o : List ℕ). Front (suc k) o) (sym (order-next k s.0 s.1)) (one-passed k s.0 (order_before p k) s.1 (front-of k (omega (arith, h))))

  -- it begins the order of the whole text
  pub begins-behind : (k : ℕ) (s : Structure) → slice_get p.structures k ≡ Some s → Begins (with_members s.members (with_first k (order_before p k))) (appearance p)
  begins-behind k s e =
      let split = split-structures 0 (suc k) p.structures (announced_from p.structures 0 p.structures) in
      begins-structures (0 + length (take (suc k) p.structures)) (drop (suc k) p.structures) (with_members s.members (with_first k (order_before p k))) (appearance p)
      (subst (λ (o : List ℕ). Begins o (appearance p)) (sym (ap (with_structures (0 + length (take (suc k) p.structures)) (drop (suc k) p.structures)) (sym (order-next k s e)) ∙ split)) (begins-itself (appearance p)))

  pub order-whole : order_before p (length p.structures) ≡ appearance p
  order-whole = ap (λ (ss : List Structure). with_structures 0 ss (announced_from p.structures 0 p.structures)) (take_all (length p.structures) p.structures (omega arith))
