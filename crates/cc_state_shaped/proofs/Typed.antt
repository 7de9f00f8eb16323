-- Sets of values of types: those so far, the set at a place, and which types things are of.
use Rattle.std.proofs.Common.{arith, ◌≡◌, ◌↔◌, ◌≤◌, ◌+◌, ℕ, Bool, true, false, IsTrue, List, Option, Some, None, ap, sym, ◌∙◌, subst, below_more, slice_get}
use Rattle.std.proofs.lemmas.Option.{same_Some, none-some}
use Rattle.cc_state_reads.specs.CcPlaces.declared.abs.Abs.{Abs}
use Rattle.cc_program.specs.declared.func.Func.{Func}
use Rattle.cc_program.specs.declared.object.Object.{Object}
use Rattle.cc_program.specs.declared.program.Program.{Program}
use Rattle.cc_program.specs.declared.types.CType.{CType}
use Rattle.cc_program.specs.declared.types.Shape.{Shape, out-Shape}
use Rattle.cc_program.specs.declared.types.Shape.TheOpen as shape
use Rattle.cc_program.specs.declared.types.Sig.{Sig, out-Sig}
use Rattle.cc_state.proofs.CellTypes.{one_type}
use Rattle.cc_state.specs.Shape.{IsCellType, OfScalar, OfElements, ctype_of, IsSetIn, AreSets, IsKeyType, IsResultType, IsRegisterType, IsTrackedType}
use Rattle.cc_state_reads.specs.CcStateFacts.declared.facts.Key.{Key}
use Rattle.cc_state_reads.specs.CcStateKeys.Keys.{keys_of}
use Rattle.cc_state_reads.specs.CcStateKeys.Tracked.{registers, tracked}
use Rattle.cc_state_reads.specs.CcStateOperators.Domains.{Domain}
use Rattle.cc_state_shaped.specs.Parts.{IsFoundCellType, IsSetOf, IsSetAt}
use Rattle.cc_state_reads.specs.CcSyntax.Types.{Named}
use Rattle.cc_state_reads.specs.CcSyntax.Values.{ValueType, scalar_shape, scalar_value, result_value}

-- what is found at a place of a list
pub found_at : {A : Type 0} (xs ys : List A) (n : ℕ) (o : Option A) → ys ≡ xs → o ≡ slice_get ys n → slice_get xs n ≡ o
found_at xs ys n o e h = ap (λ l. slice_get l n) (sym e) ∙ sym h

-- ---- one by one

module _ {I : Type 0} (d : Domain I) (p : Program) (get : ℕ → Option (Abs I)) (IsType : ℕ → ValueType → Type 0) where
  pub sets_none : AreSets d p 0 get IsType
  sets_none = record { there = λ n l. absurd (omega (arith, l)) }

  pub sets_more : (n : ℕ) → AreSets d p n get IsType → IsSetAt d p get IsType n → AreSets d p (n + 1) get IsType
  sets_more n h s = record { there = below_more (IsSetAt d p get IsType) n h.there s }

  pub sets_all : (n count : ℕ) → count ≤ n → AreSets d p n get IsType → AreSets d p count get IsType
  sets_all n count l h = record { there = λ k m. h.there k (omega (arith, l, m)) }

  pub set_into : (n : ℕ) (y : Abs I) → get n ≡ Some y → IsSetOf d p (IsType n) y → IsSetAt d p get IsType n
  set_into n y e h = (h.0, y, (h.1, e, h.2))

  pub set_from : (n : ℕ) (y : Abs I) → get n ≡ Some y → IsSetAt d p get IsType n → IsSetOf d p (IsType n) y
  set_from n y e s = (s.0, s.2.0, subst (IsSetIn p d s.0) (same_Some s.1 y (sym s.2.1 ∙ e)) s.2.2)

  pub at_place : (n : ℕ) (y : Abs I) (b : Bool) → get n ≡ Some y → (IsTrue b ↔ IsSetOf d p (IsType n) y) → (IsTrue b ↔ IsSetAt d p get IsType n)
  at_place n y b e h = ((λ t. set_into n y e (h.0 t)), (λ s. h.1 (set_from n y e s)))

  pub at_none : (n : ℕ) → get n ≡ None → (IsTrue false ↔ IsSetAt d p get IsType n)
  at_none n e = ((λ t. absurd (cc)), (λ s. absurd (none-some s.1 (sym e ∙ s.2.1))))

-- ---- by type

module _ {I : Type 0} (d : Domain I) (p : Program) (y : Abs I) where
  of_same : (A B : ValueType → Type 0) → ((t : ValueType) → A t → B t) → ((t : ValueType) → B t → A t) → (b : Bool) → (IsTrue b ↔ IsSetOf d p A y) → (IsTrue b ↔ IsSetOf d p B y)
  of_same A B to from b h = ((λ t. let s = h.0 t in (s.0, to s.0 s.1, s.2)), (λ s. h.1 (s.0, from s.0 s.1, s.2)))

  of_none : (A : ValueType → Type 0) → ((t : ValueType) → A t → ⊥) → (IsTrue false ↔ IsSetOf d p A y)
  of_none A refuted = ((λ t. absurd (cc)), (λ s. absurd (refuted s.0 s.1)))

  -- where there is a type, and where there is none
  pub of_some : (o : Option ValueType) (t : ValueType) (b : Bool) → o ≡ Some t → (IsTrue b ↔ IsSetIn p d t y) → (IsTrue b ↔ IsSetOf d p (λ u. o ≡ Some u) y)
  of_some o t b e h = ((λ k. (t, e, h.0 k)), (λ s. h.1 (subst (λ u. IsSetIn p d u y) (same_Some s.0 t (sym s.1 ∙ e)) s.2)))

  pub of_no_type : (o : Option ValueType) → o ≡ None → (IsTrue false ↔ IsSetOf d p (λ u. o ≡ Some u) y)
  of_no_type o e = of_none (λ u. o ≡ Some u) (λ t h. none-some t (sym e ∙ h))

  found : (t : CType) (o : Option ValueType) → IsFoundCellType t o → (u : ValueType) → IsCellType t u → o ≡ Some u
  found t None h u k = absurd (h u k)
  found t (Some w) h u k = ap Some (one_type t w u h k)

  pub of_cells : (t : CType) (o : Option ValueType) (b : Bool) → IsFoundCellType t o → (IsTrue b ↔ IsSetOf d p (λ u. o ≡ Some u) y) → (IsTrue b ↔ IsSetOf d p (IsCellType t) y)
  of_cells t o b h k = of_same (λ u. o ≡ Some u) (IsCellType t) (λ u e. subst (IsFoundCellType t) e h) (found t o h) b k

  -- a key, by its place
  module _ (n : ℕ) where
    pub no_key : slice_get (keys_of p) n ≡ None → (IsTrue false ↔ IsSetOf d p (IsKeyType d p n) y)
    no_key e = of_none (IsKeyType d p n) (λ t h. none-some h.0 (sym e ∙ h.2))

    pub no_key_type : (k : Key) → slice_get (keys_of p) n ≡ Some k → ctype_of p k ≡ None → (IsTrue false ↔ IsSetOf d p (IsKeyType d p n) y)
    no_key_type k e i = of_none (IsKeyType d p n) (λ t h. none-some h.1 (sym i ∙ (ap (ctype_of p) (same_Some k h.0 (sym e ∙ h.2)) ∙ h.3)))

    pub of_key : (k : Key) (c : CType) (b : Bool) → slice_get (keys_of p) n ≡ Some k → ctype_of p k ≡ Some c → (IsTrue b ↔ IsSetOf d p (IsCellType c) y) → (IsTrue b ↔ IsSetOf d p (IsKeyType d p n) y)
    of_key k c b e i h =
        of_same (IsCellType c) (IsKeyType d p n) (λ t g. (k, c, e, i, g))
        (λ t g. subst (λ (z : CType). IsCellType z t) (same_Some g.1 c (sym g.3 ∙ (ap (ctype_of p) (same_Some g.0 k (sym g.2 ∙ e)) ∙ i))) g.4) b h

    -- a function
    pub no_function : slice_get p.funcs n ≡ None → (IsTrue false ↔ IsSetOf d p (IsResultType d p n) y)
    no_function e = of_none (IsResultType d p n) (λ t h. none-some h.0 (sym e ∙ h.1))

    pub of_result : (f : Func) (o : Option ValueType) (b : Bool) → slice_get p.funcs n ≡ Some f → o ≡ result_value (out-Sig f.sig).result → (IsTrue b ↔ IsSetOf d p (λ u. o ≡ Some u) y) → (IsTrue b ↔ IsSetOf d p (IsResultType d p n) y)
    of_result f o b e i h =
        of_same (λ u. o ≡ Some u) (IsResultType d p n) (λ t g. (f, e, sym i ∙ g))
        (λ t g. i ∙ (ap (λ (z : Func). result_value (out-Sig z.sig).result) (same_Some f g.0 (sym e ∙ g.1)) ∙ g.2)) b h

    -- a register of a function
    module _ (f : Func) where
      pub no_register : slice_get (registers f) n ≡ None → (IsTrue false ↔ IsSetOf d p (IsRegisterType d p f n) y)
      no_register e = of_none (IsRegisterType d p f n) (λ t h. none-some h.0 (sym e ∙ h.2))

      pub no_local : (r : ℕ) → slice_get (registers f) n ≡ Some r → slice_get f.locals r ≡ None → (IsTrue false ↔ IsSetOf d p (IsRegisterType d p f n) y)
      no_local r e i = of_none (IsRegisterType d p f n) (λ t h. none-some h.1 (sym i ∙ (ap (slice_get f.locals) (same_Some r h.0 (sym e ∙ h.2)) ∙ h.3)))

      pub of_register : (r : ℕ) (l : Named) (o : Option ValueType) (b : Bool) → slice_get (registers f) n ≡ Some r → slice_get f.locals r ≡ Some l → o ≡ scalar_value l.1 →
          (IsTrue b ↔ IsSetOf d p (λ u. o ≡ Some u) y) → (IsTrue b ↔ IsSetOf d p (IsRegisterType d p f n) y)
      of_register r l o b e i j h =
          of_same (λ u. o ≡ Some u) (IsRegisterType d p f n) (λ t g. (r, l, e, i, sym j ∙ g))
          (λ t g. j ∙ (ap (λ (z : Named). scalar_value z.1) (same_Some l g.1 (sym i ∙ (ap (slice_get f.locals) (same_Some r g.0 (sym e ∙ g.2)) ∙ g.3))) ∙ g.4)) b h

    -- a tracked cell
    pub no_cell : slice_get (tracked p) n ≡ None → (IsTrue false ↔ IsSetOf d p (IsTrackedType d p n) y)
    no_cell e = of_none (IsTrackedType d p n) (λ t h. none-some h.0 (sym e ∙ h.2))

    pub no_object : (i : ℕ) → slice_get (tracked p) n ≡ Some i → slice_get p.objects i ≡ None → (IsTrue false ↔ IsSetOf d p (IsTrackedType d p n) y)
    no_object i e j = of_none (IsTrackedType d p n) (λ t h. none-some h.1 (sym j ∙ (ap (slice_get p.objects) (same_Some i h.0 (sym e ∙ h.2)) ∙ h.3)))

    pub of_tracked : (i : ℕ) (x : Object) (o : Option ValueType) (b : Bool) → slice_get (tracked p) n ≡ Some i → slice_get p.objects i ≡ Some x → o ≡ scalar_value x.ctype →
        (IsTrue b ↔ IsSetOf d p (λ u. o ≡ Some u) y) → (IsTrue b ↔ IsSetOf d p (IsTrackedType d p n) y)
    of_tracked i x o b e j k h =
        of_same (λ u. o ≡ Some u) (IsTrackedType d p n) (λ t g. (i, x, e, j, sym k ∙ g))
        (λ t g. k ∙ (ap (λ (z : Object). scalar_value z.ctype) (same_Some x g.1 (sym j ∙ (ap (slice_get p.objects) (same_Some i g.0 (sym e ∙ g.2)) ∙ g.3))) ∙ g.4)) b h

-- ---- the type of what the cells of a declared type hold

abbrev is_array : shape.Shape-F Shape CType Sig → Bool
is_array (shape.Array of n) = true
is_array shape.Void = false
is_array (shape.Int i) = false
is_array (shape.Pointer to) = false
is_array (shape.Struct s) = false
is_array (shape.Func sig) = false

abbrev element_or : CType → shape.Shape-F Shape CType Sig → CType
element_or t (shape.Array of n) = of
element_or t shape.Void = t
element_or t (shape.Int i) = t
element_or t (shape.Pointer to) = t
element_or t (shape.Struct s) = t
element_or t (shape.Func sig) = t

pub array_found : (t of : CType) (n : ℕ) → out-Shape t.shape ≡ shape.Array of n → (o : Option ValueType) → IsFoundCellType of o → IsFoundCellType t o
array_found t of n e None h = λ u k. never u k
  where
    never : (u : ValueType) → IsCellType t u → ⊥
    never u (OfScalar g) = absurd (let k : None ≡ Some u = sym (ap scalar_shape e) ∙ g in none-some u k)
    never u (OfElements other m i g) = h u (subst (λ (z : CType). IsCellType z u) (ap (element_or t) (sym i ∙ e)) g)
array_found t of n e (Some u) h = OfElements of n e h

pub scalar_found : (t : CType) (x : shape.Shape-F Shape CType Sig) → out-Shape t.shape ≡ x → is_array x ≡ false → (o : Option ValueType) → o ≡ scalar_value t → IsFoundCellType t o
scalar_found t x e a None i = λ u k. never u k
  where
    never : (u : ValueType) → IsCellType t u → ⊥
    never u (OfScalar g) = none-some u (i ∙ g)
    never u (OfElements of n j g) = absurd (let k : true ≡ false = sym (ap is_array (sym e ∙ j)) ∙ a in cc)
scalar_found t x e a (Some u) i = OfScalar (sym i)
