-- What a member's type names is named by then: by the words of a member in front of it or by its own, or in front of all
-- structures, where parameters name it first.
use Rattle.std.proofs.Common.{◌≡◌, ◌<◌, ◌≤◌, ◌+◌, ◌⊎◌, inl, inr, ℕ, zero, suc, Bool, true, false, not, ◌||◌, List, [], ◌∷◌, ◌++◌, map, length, take, Option, Some, None, refl, ap, sym, ◌∙◌, subst, slice_get, nat_eq, nat_lt, arith}
use Rattle.std.specs.Prelude.{if◌then◌else◌}
use Rattle.std.specs.Option.{is_some}
use Rattle.cc_operand_types.proofs.Members.{members_stand}
use Rattle.cc_operand_types.specs.Typed.{is_pointed_kind}
use Rattle.cc_print.specs.Units.{any_true, is_base, is_named_in, naming, or_else, member_naming, first_naming, is_in_parameters}
use Rattle.cc_program.specs.declared.program.Program.{Program}
use Rattle.cc_program.specs.declared.types.CType.{CType}
use Rattle.cc_program.specs.declared.types.Shape.{Shape, out-Shape, roll-Shape, out-roll-Shape}
use Rattle.cc_program.specs.declared.types.Shape.TheOpen as shape
use Rattle.cc_program.specs.declared.types.Sig.{Sig, out-Sig, out-roll-Sig}
use Rattle.cc_program.specs.declared.types.Structure.{Structure}
use Rattle.cc_program.proofs.Each.{Each}
use Rattle.cc_program.proofs.TypeInduction.{with_shape, TypeParts, by_type}
use Rattle.cc_type.specs.CcSyntax.Kinds.{Kind, extent_kind, qualified_kind, is_plain_scalar}
use Rattle.cc_type.specs.CcSyntax.Programs.{kind_in}
use Rattle.cc_type.specs.CcSyntax.Sound.{IsSound}
use Rattle.cc_type.specs.CcSyntax.Types.{Named, has_members}
use Rattle.cc_type.proofs.CcSyntax.Prefixes.{both_true}
use Rattle.std.specs.List.{list_all}
use Rattle.cc_expression_trees.proofs.TypeNames.{there}
use Rattle.cc_shown_expressions.proofs.Standing.{Stands, kind-at, pointed-stands, element-stands, signature-stands, signature-parts, result-stands, scalar-stands}
use Rattle.cc_shown_declarations.specs.Order.{base_of, is_among, with_first, with_base, announced_from}
use Rattle.cc_shown_declarations.proofs.Orders.{same, self, or-left, or-cases, first-there, first-keeps}
use Rattle.cc_shown_declarations.proofs.Namings.{named_level, named-at, base-named, naming-is}

-- ---- where a structure is named first

or-else-assoc : (a b c : Option Bool) → or_else (or_else a b) c ≡ or_else a (or_else b c)
or-else-assoc None b c = refl
or-else-assoc (Some x) b c = refl

or-else-none : (a : Option Bool) → or_else a None ≡ a
or-else-none None = refl
or-else-none (Some x) = refl

members-append : (j : ℕ) (ls ms : List Named) → member_naming j (ls ++ ms) ≡ or_else (member_naming j ls) (member_naming j ms)
members-append j [] ms = refl
members-append j (l ∷ ls) ms = ap (or_else (naming j l.1)) (members-append j ls ms) ∙ sym (or-else-assoc (naming j l.1) (member_naming j ls) (member_naming j ms))

first-append : (j : ℕ) (ss ts : List Structure) → first_naming j (ss ++ ts) ≡ or_else (first_naming j ss) (first_naming j ts)
first-append j [] ts = refl
first-append j (s ∷ ss) ts = ap (or_else (member_naming j s.members)) (first-append j ss ts) ∙ sym (or-else-assoc (member_naming j s.members) (first_naming j ss) (first_naming j ts))

abbrev IsThere : Option Bool → Type 0
IsThere o = (b : Bool) × (o ≡ Some b)

there-first : (a b : Option Bool) → IsThere a → IsThere (or_else a b)
there-first a b h = (h.0, ap (λ (o : Option Bool). or_else o b) h.1)

there-second : (a b : Option Bool) → IsThere b → IsThere (or_else a b)
there-second None b h = h
there-second (Some x) b h = (x, refl)

member-there : (j : ℕ) (ls : List Named) (m : ℕ) (l : Named) → slice_get ls m ≡ Some l → is_named_in j l.1 ≡ true → IsThere (member_naming j ls)
member-there j [] m l e h = absurd (cc)
member-there j (k ∷ ls) zero l e h =
    let is : k ≡ l = cc in
    there-first (naming j k.1) (member_naming j ls) (subst (λ (n : Named). IsThere (naming j n.1)) (sym is) (not (is_base j l.1), naming-is j l.1 h))
member-there j (k ∷ ls) (suc m) l e h = there-second (naming j k.1) (member_naming j ls) (member-there j ls m l e h)

structure-there : (j : ℕ) (ss : List Structure) (k i m : ℕ) (s : Structure) (l : Named) → slice_get ss i ≡ Some s → i < k → slice_get s.members m ≡ Some l → is_named_in j l.1 ≡ true → IsThere (first_naming j (take k ss))
structure-there j [] k i m s l e b f h = absurd (cc)
structure-there j (t ∷ ts) zero i m s l e b f h = absurd (omega (arith, b))
structure-there j (t ∷ ts) (suc k) zero m s l e b f h =
    let is : t ≡ s = cc in
    there-first (member_naming j t.members) (first_naming j (take k ts)) (subst (λ (r : Structure). IsThere (member_naming j r.members)) (sym is) (member-there j s.members m l f h))
structure-there j (t ∷ ts) (suc k) (suc i) m s l e b f h = there-second (member_naming j t.members) (first_naming j (take k ts)) (structure-there j ts k i m s l e (omega (arith, b)) f h)

-- ---- the first structures begin further ones

pub take-more : {A : Type 0} → (xs : List A) (k : ℕ) (x : A) → slice_get xs k ≡ Some x → take (suc k) xs ≡ take k xs ++ x ∷ []
take-more [] k x e = absurd (cc)
take-more (y ∷ ys) zero x e = let is : y ≡ x = cc in ap (λ z. z ∷ []) is
take-more (y ∷ ys) (suc k) x e = ap (λ zs. y ∷ zs) (take-more ys k x e)

take-up : {A : Type 0} → (xs : List A) (k j : ℕ) → k ≤ j → (rest : List A) × (take j xs ≡ take k xs ++ rest)
take-up xs zero j h = (take j xs, refl)
take-up [] (suc k) zero h = absurd (omega (arith, h))
take-up [] (suc k) (suc j) h = ([], refl)
take-up (x ∷ xs) (suc k) zero h = absurd (omega (arith, h))
take-up (x ∷ xs) (suc k) (suc j) h = let r = take-up xs k j (omega (arith, h)) in (r.0, ap (λ ys. x ∷ ys) r.1)

-- ---- announced ones

or-second : (a b : Bool) → b ≡ true → (a || b) ≡ true
or-second true b h = refl
or-second false b h = h

in-front-there : (b : Bool) (i n : ℕ) (is : List ℕ) → b ≡ true → n ≡ i → is_among n (if b then i ∷ is else is) ≡ true
in-front-there true i n is h e = or-left (nat_eq n i) (is_among n is) (ap (nat_eq n) (sym e) ∙ self n)
in-front-there false i n is h e = absurd (cc)

in-front-kept : (b : Bool) (i n : ℕ) (is : List ℕ) → is_among n is ≡ true → is_among n (if b then i ∷ is else is) ≡ true
in-front-kept true i n is h = or-second (nat_eq n i) (is_among n is) h
in-front-kept false i n is h = h

announced-among : (all : List Structure) (i : ℕ) (rest : List Structure) (j n : ℕ) (t : Structure) → n ≡ i + j → slice_get rest j ≡ Some t → is_in_parameters (first_naming n (take n all)) ≡ true → is_among n (announced_from all i rest) ≡ true
announced-among all i [] j n t e there h = absurd (cc)
announced-among all i (s ∷ rest) zero n t e there h =
    let is : n ≡ i = omega (arith, e) in
    in-front-there (is_in_parameters (first_naming i (take i all))) i n (announced_from all (suc i) rest) (subst (λ k. is_in_parameters (first_naming k (take k all)) ≡ true) is h) is
announced-among all i (s ∷ rest) (suc j) n t e there h =
    in-front-kept (is_in_parameters (first_naming i (take i all))) i n (announced_from all (suc i) rest) (announced-among all (suc i) rest j n t (omega (arith, e)) there h)

-- ---- what is known of the order in front of a member, behind so many structures and these members of the next one

module _ (p : Program) where
  pub record InFront (k : ℕ) (done : List Named) (order : List ℕ) : Type 0 where
    pub before : (j : ℕ) → j < k → is_among j order ≡ true
    pub announced : (j : ℕ) (t : Structure) → slice_get p.structures j ≡ Some t → is_in_parameters (first_naming j (take j p.structures)) ≡ true → is_among j order ≡ true
    pub words : (j : ℕ) → or_else (first_naming j (take k p.structures)) (member_naming j done) ≡ Some false → is_among j order ≡ true

  no-words : (j : ℕ) → or_else (first_naming j []) (member_naming j []) ≡ Some false → ⊥
  no-words j h = cc

  pub at-first-known : InFront 0 [] (announced_from p.structures 0 p.structures)
  at-first-known = record {
    before = λ j h. absurd (omega (arith, h));
    announced = λ j t e h. announced-among p.structures 0 p.structures j j t (omega arith) e h;
    words = λ j h. absurd (no-words j h);
  }

  -- the structure itself is named
  pub begun : (k : ℕ) (order : List ℕ) → InFront k [] order → InFront k [] (with_first k order)
  begun k order q = record {
    before = λ j h. first-keeps k j order (q.before j h);
    announced = λ j t e h. first-keeps k j order (q.announced j t e h);
    words = λ j h. first-keeps k j order (q.words j h);
  }

  pub base-keeps : (o : Option ℕ) (j : ℕ) (order : List ℕ) → is_among j order ≡ true → is_among j (with_base o order) ≡ true
  base-keeps None j order h = h
  base-keeps (Some i) j order h = first-keeps i j order h

  base-there : (o : Option ℕ) (j : ℕ) (order : List ℕ) → o ≡ Some j → is_among j (with_base o order) ≡ true
  base-there None j order h = absurd (cc)
  base-there (Some i) j order h = let is : i ≡ j = cc in subst (λ k. is_among j (with_first k order) ≡ true) (sym is) (first-there j order)

  base-by : (b c : Bool) → (if b then Some false else (if c then Some true else None)) ≡ Some false → b ≡ true
  base-by true c h = refl
  base-by false true h = absurd (cc)
  base-by false false h = absurd (cc)

  naming-base : (j : ℕ) (t : CType) → naming j t ≡ Some false → is_base j t ≡ true
  naming-base j t h = base-by (is_base j t) (is_named_in j t) h

  words-by : (j : ℕ) (l : Named) (order : List ℕ) (o : Option Bool) → or_else o (naming j l.1) ≡ Some false → (o ≡ Some false → is_among j order ≡ true) → is_among j (with_base (base_of l.1) order) ≡ true
  words-by j l order None h old = base-there (base_of l.1) j order (base-named j l.1 (naming-base j l.1 h))
  words-by j l order (Some b) h old = base-keeps (base_of l.1) j order (old h)

  -- one more member, with what its words name
  pub member-passed : (k : ℕ) (done : List Named) (l : Named) (order : List ℕ) → InFront k done order → InFront k (done ++ l ∷ []) (with_base (base_of l.1) order)
  member-passed k done l order q = record {
    before = λ j h. base-keeps (base_of l.1) j order (q.before j h);
    announced = λ j t e h. base-keeps (base_of l.1) j order (q.announced j t e h);
    words = λ j h. words-by j l order (or_else (first_naming j (take k p.structures)) (member_naming j done))
        (or-else-assoc (first_naming j (take k p.structures)) (member_naming j done) (naming j l.1)
        ∙ sym (ap (or_else (first_naming j (take k p.structures))) (members-append j done (l ∷ []) ∙ ap (or_else (member_naming j done)) (or-else-none (naming j l.1)))) ∙ h)
        (q.words j);
  }

  below-or-at : (j k : ℕ) → j < suc k → (j < k) ⊎ (j ≡ k)
  below-or-at zero zero h = inr refl
  below-or-at zero (suc k) h = inl (omega arith)
  below-or-at (suc j) zero h = absurd (omega (arith, h))
  below-or-at (suc j) (suc k) h = elim (below-or-at j k (omega (arith, h))) [ inl b ↦ inl (omega (arith, b)) | inr e ↦ inr (ap suc e) ]

  -- the whole structure
  pub structure-passed : (k : ℕ) (s : Structure) (order : List ℕ) → slice_get p.structures k ≡ Some s → is_among k order ≡ true → InFront k s.members order → InFront (suc k) [] order
  structure-passed k s order e there q = record {
    before = λ j h. elim (below-or-at j k h) [ inl b ↦ q.before j b | inr e ↦ subst (λ i. is_among i order ≡ true) (sym e) there ];
    announced = q.announced;
    words = λ j h. q.words j (sym (or-else-none (first_naming j (take (suc k) p.structures)) ∙ ap (first_naming j) (take-more p.structures k s e) ∙ first-append j (take k p.structures) (s ∷ [])
        ∙ ap (or_else (first_naming j (take k p.structures))) (or-else-none (member_naming j s.members))) ∙ h);
  }

  -- ---- what is named in a type that stands is there

  or-of : (q a b : Bool) (n : ℕ) → is_some (qualified_kind q (extent_kind (if a then Some (Some n) else (if b then Some None else None)))) ≡ true → (a || b) ≡ true
  or-of q true b n h = refl
  or-of q false true n h = refl
  or-of q false false n h = absurd (cc)

  module _ (j : ℕ) where
    abbrev IsAt : Type 0
    IsAt = (r : Structure) × (slice_get p.structures j ≡ Some r)

    abbrev AtType : CType → Type 0
    AtType t = Stands p t → is_named_in j t ≡ true → IsAt

    abbrev AtSig : Sig → Type 0
    AtSig s = AtType (out-Sig s).result × Each AtType (out-Sig s).params

    at-params : (ts : List CType) → Each AtType ts → list_all is_plain_scalar (map (kind_in p) ts) ≡ true → any_true (map (is_named_in j) ts) ≡ true → IsAt
    at-params [] h k n = absurd (cc)
    at-params (t ∷ ts) h k n =
        let q = both_true (is_plain_scalar (kind_in p t)) (list_all is_plain_scalar (map (kind_in p) ts)) k in
        or-cases (is_named_in j t) (any_true (map (is_named_in j) ts)) IsAt n (h.0 (scalar-stands p (kind_in p t) q.0)) (at-params ts h.1 q.1)

    no-name : (t : CType) (x : shape.Shape-F Shape CType Sig) → out-Shape t.shape ≡ x → named_level j x ≡ false → is_named_in j t ≡ true → ⊥
    no-name t x e h k = let g : false ≡ true = sym h ∙ sym (named-at j t x e) ∙ k in absurd (cc)

    at-struct : (t : CType) (i : ℕ) → out-Shape t.shape ≡ shape.Struct i → Stands p t → j ≡ i → IsAt
    at-struct t i e h is =
        subst (λ k. (r : Structure) × (slice_get p.structures k ≡ Some r)) (sym is)
        (there p.structures i (or-of (t.constant || t.volatile) (has_members (slice_get p.structures i)) (nat_lt i (length p.structures)) _ (sym (ap is_some (kind-at p t (shape.Struct i) e)) ∙ h)))

    at-by : (t : CType) (x : shape.Shape-F Shape CType Sig) → out-Shape t.shape ≡ x → TypeParts AtType AtSig x → AtType t
    at-by t shape.Void e h k n = absurd (no-name t shape.Void e refl n)
    at-by t (shape.Int i) e h k n = absurd (no-name t (shape.Int i) e refl n)
    at-by t (shape.Pointer to) e h k n = h (pointed-stands p t to e k) (sym (named-at j t (shape.Pointer to) e) ∙ n)
    at-by t (shape.Array of m) e h k n = h (element-stands p t of m e k) (sym (named-at j t (shape.Array of m) e) ∙ n)
    at-by t (shape.Struct i) e h k n = at-struct t i e k (same j i (sym (named-at j t (shape.Struct i) e) ∙ n))
    at-by t (shape.Func sig) e h k n =
        let parts = signature-parts p sig (signature-stands p t sig e k) in
        or-cases (is_named_in j (out-Sig sig).result) (any_true (map (is_named_in j) (out-Sig sig).params)) IsAt (sym (named-at j t (shape.Func sig) e) ∙ n)
        (h.0 (result-stands p (kind_in p (out-Sig sig).result) parts.0)) (at-params (out-Sig sig).params h.1 parts.1)

    pub named-there : (t : CType) → AtType t
    named-there = by_type AtType AtSig (λ constant volatile x h. at-by (with_shape constant volatile (roll-Shape x)) x (out-roll-Shape x) h)
        (λ x h. subst (λ (y : shape.Sig-F Shape CType Sig). AtType y.result × Each AtType y.params) (sym (out-roll-Sig x)) h)

  -- ---- so all that members name is among the order

  -- the type names none but these
  abbrev pub NamesOnly : List ℕ → CType → Type 0
  NamesOnly order t = (j : ℕ) → is_named_in j t ≡ true → is_among j order ≡ true

  some-pointed : (k : Option Kind) → is_pointed_kind false k ≡ true → is_some k ≡ true
  some-pointed None h = absurd (cc)
  some-pointed (Some k) h = refl

  pub member-stands : IsSound p → (i m : ℕ) (s : Structure) (l : Named) → slice_get p.structures i ≡ Some s → slice_get s.members m ≡ Some l → Stands p l.1
  member-stands sound i m s l e f = some-pointed (kind_in p l.1) (members_stand p sound.structures i s m l e f)

  lt-or : (j k : ℕ) → (j < k) ⊎ (k ≤ j)
  lt-or zero zero = inr (omega arith)
  lt-or zero (suc k) = inl (omega arith)
  lt-or (suc j) zero = inr (omega arith)
  lt-or (suc j) (suc k) = elim (lt-or j k) [ inl h ↦ inl (omega (arith, h)) | inr h ↦ inr (omega (arith, h)) ]

  among-by : (k : ℕ) (done more : List Named) (order : List ℕ) → InFront k done order → (j : ℕ) (r : Structure) → slice_get p.structures j ≡ Some r → (b : Bool) → or_else (first_naming j (take k p.structures)) (member_naming j done) ≡ Some b →
      ((b ≡ true) → is_in_parameters (first_naming j (take j p.structures)) ≡ true) → is_among j order ≡ true
  among-by k done more order q j r e false h up = q.words j h
  among-by k done more order q j r e true h up = q.announced j r e (up refl)

  -- of the structures in front
  pub earlier-names : IsSound p → (k : ℕ) (done : List Named) (order : List ℕ) → InFront k done order → (i m : ℕ) (s : Structure) (l : Named) → i < k → slice_get p.structures i ≡ Some s → slice_get s.members m ≡ Some l → NamesOnly order l.1
  earlier-names sound k done order q i m s l b e f j n = elim (lt-or j k) [ inl h ↦ q.before j h | inr h ↦ late h ]
    where
      late : k ≤ j → is_among j order ≡ true
      late h =
          let there = named-there j l.1 (member-stands sound i m s l e f) n in
          let named = structure-there j p.structures k i m s l e b f n in
          let up = take-up p.structures k j h in
          among-by k done [] order q j there.0 there.1 named.0 (ap (λ (o : Option Bool). or_else o (member_naming j done)) named.1)
          (λ t. ap is_in_parameters (ap (first_naming j) up.1 ∙ first-append j (take k p.structures) up.0 ∙ ap (λ (o : Option Bool). or_else o (first_naming j up.0)) (named.1 ∙ ap (λ (c : Bool). Some c) t)))

  front-kept : {A : Type 0} → (xs ys : List A) (m : ℕ) (x : A) → slice_get xs m ≡ Some x → slice_get (xs ++ ys) m ≡ Some x
  front-kept [] ys m x e = absurd (cc)
  front-kept (z ∷ zs) ys zero x e = e
  front-kept (z ∷ zs) ys (suc m) x e = front-kept zs ys m x e

  own-named : (j k : ℕ) (s : Structure) (done more : List Named) → slice_get p.structures k ≡ Some s → s.members ≡ done ++ more →
      first_naming j (take (suc k) p.structures) ≡ or_else (or_else (first_naming j (take k p.structures)) (member_naming j done)) (member_naming j more)
  own-named j k s done more e split =
      ap (first_naming j) (take-more p.structures k s e) ∙ first-append j (take k p.structures) (s ∷ [])
      ∙ ap (or_else (first_naming j (take k p.structures))) (or-else-none (member_naming j s.members) ∙ ap (member_naming j) split ∙ members-append j done more)
      ∙ sym (or-else-assoc (first_naming j (take k p.structures)) (member_naming j done) (member_naming j more))

  -- and of the members that are passed
  pub member-names : IsSound p → (k : ℕ) (s : Structure) (done more : List Named) (order : List ℕ) → slice_get p.structures k ≡ Some s → s.members ≡ done ++ more → is_among k order ≡ true → InFront k done order →
      (m : ℕ) (l : Named) → slice_get done m ≡ Some l → NamesOnly order l.1
  member-names sound k s done more order e split own q m l f j n = elim (lt-or j (suc k)) [ inl h ↦ early (below-or-at j k h) | inr h ↦ late h ]
    where
      early : (j < k) ⊎ (j ≡ k) → is_among j order ≡ true
      early h = elim h [ inl b ↦ q.before j b | inr e ↦ subst (λ i. is_among i order ≡ true) (sym e) own ]

      late : suc k ≤ j → is_among j order ≡ true
      late h =
          let here : slice_get s.members m ≡ Some l = ap (λ (ls : List Named). slice_get ls m) split ∙ front-kept done more m l f in
          let there = named-there j l.1 (member-stands sound k m s l e here) n in
          let named = there-second (first_naming j (take k p.structures)) (member_naming j done) (member-there j done m l f n) in
          let up = take-up p.structures (suc k) j h in
          among-by k done more order q j there.0 there.1 named.0 named.1
          (λ t. ap is_in_parameters (ap (first_naming j) up.1 ∙ first-append j (take (suc k) p.structures) up.0
          ∙ ap (λ (o : Option Bool). or_else o (first_naming j up.0)) (own-named j k s done more e split ∙ ap (λ (o : Option Bool). or_else o (member_naming j more)) (named.1 ∙ ap (λ (c : Bool). Some c) t))))
