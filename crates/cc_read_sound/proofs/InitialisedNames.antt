-- First values stay where a further name is declared, or one is told more of.
use Rattle.std.proofs.Common.{◌≡◌, ◌⊎◌, inl, inr, ℕ, List, [], ◌∷◌, ◌++◌, Option, Some, None, refl, ap, sym, ◌∙◌, subst}
use Rattle.std.specs.Prelude.{◌&&◌, Bool, true, false, slice_get, if◌then◌else◌}
use Rattle.cc_read_sound.specs.Values.{HasInitial, AreInitial}
use Rattle.cc_type.specs.CcObjects.Linked.{device_by}
use Rattle.cc_program.specs.declared.func.Entry.{Entry}
use Rattle.cc_program.specs.declared.types.CType.{CType}
use Rattle.cc_program.specs.declared.types.Shape.{Shape}
use Rattle.cc_program.specs.declared.types.Shape.TheOpen as shape
use Rattle.cc_program.specs.declared.types.Sig.{Sig}
use Rattle.cc_type.specs.CcScopes.Definitions.{entry_added}
use Rattle.cc_type.specs.CcScopes.State.{Name, change_at}
use Rattle.cc_type.specs.CcScopes.declared.unit.Declared.{Declared}
use Rattle.cc_sound_terms.proofs.Behind.{last_or_front}
use Rattle.cc_sound_terms.proofs.Growth.{changed_or_not, changed_place, changed_there}
use Rattle.cc_type.specs.CcSyntax.Views.{View}
use Rattle.cc_type.specs.CcUnit.declared.unit.UnitKind.{UnitKind}
use Rattle.cc_type.specs.CcUnit.declared.unit.UnitKind.TheVariants as kind

some_is : {A : Type 0} (a b : A) → Some a ≡ Some b → a ≡ b
some_is a b h = cc

module _ (v : View) where
  abbrev Initial : Declared → Type 0
  Initial d = HasInitial v d.ctype d.kind

  one_by : (names : List Declared) (d : Declared) (i : ℕ) (e : Declared) → AreInitial v names → Initial d → (slice_get names i ≡ Some e) ⊎ (d ≡ e) → Initial e
  one_by names d i e a h (inl g) = a i e g
  one_by names d i e a h (inr g) = subst Initial g h

  pub one_more : (names : List Declared) (d : Declared) → AreInitial v names → Initial d → AreInitial v (names ++ d ∷ [])
  one_more names d a h = λ i e g. one_by names d i e a h (last_or_front v names d i e g)

  -- an entry that is told more of
  place_by : (names : List Declared) (n : ℕ) (change : Declared → Declared) (d : Declared) (i : ℕ) (e : Declared) → AreInitial v names → slice_get names n ≡ Some d → Initial (change d) → slice_get (change_at n change names) i ≡ Some e →
      (slice_get names i ≡ Some e) ⊎ (i ≡ n) → Initial e
  place_by names n change d i e a f h g (inl k) = a i e k
  place_by names n change d i e a f h g (inr k) =
      let there = changed_there names n change d f in
      subst Initial (some_is (change d) e (sym there ∙ (ap (slice_get (change_at n change names)) (sym k) ∙ g))) h

  pub one_changed : (names : List Declared) (n : ℕ) (change : Declared → Declared) (d : Declared) → AreInitial v names → slice_get names n ≡ Some d → Initial (change d) → AreInitial v (change_at n change names)
  one_changed names n change d a f h = λ i e g. place_by names n change d i e a f h g (changed_place names n change i e g)

  told_by : (names : List Declared) (change : Declared → Declared) (i : ℕ) (e : Declared) → AreInitial v names → ((d : Declared) → Initial d → Initial (change d)) →
      (slice_get names i ≡ Some e) ⊎ ((d : Declared) × (slice_get names i ≡ Some d) × (e ≡ change d)) → Initial e
  told_by names change i e a f (inl g) = a i e g
  told_by names change i e a f (inr g) = subst Initial (sym g.2) (f g.0 (a i g.0 g.1))

  -- whatever the change, where first values stay
  pub one_told : (names : List Declared) (n : ℕ) (change : Declared → Declared) → ((d : Declared) → Initial d → Initial (change d)) → AreInitial v names → AreInitial v (change_at n change names)
  one_told names n change f a = λ i e g. told_by names change i e a f (changed_or_not names n change i e g)

  pub entry_initial : (entry : Option Entry) (t : CType) (k : UnitKind) → HasInitial v t k → HasInitial v t (entry_added entry k)
  entry_initial entry t (kind.Func before body) h = tt
  entry_initial entry t (kind.Object leaves) h = h
  entry_initial entry t (kind.Device d) h = h

  -- a name with linkage has no first values yet
  pub new_initial : (x : Name) (t u : CType) (good : Bool) (y : shape.Shape-F Shape CType Sig) → HasInitial v u (device_by x t good y)
  new_initial x t u good (shape.Int i) = of_test (good && t.volatile)
    where
      of_test : (b : Bool) → HasInitial v u (if b then kind.Device (record { name = Some x; number = 0; int = i; constant = t.constant }) else kind.Object [])
      of_test true = tt
      of_test false = inl refl
  new_initial x t u good shape.Void = inl refl
  new_initial x t u good (shape.Pointer to) = inl refl
  new_initial x t u good (shape.Array of n) = inl refl
  new_initial x t u good (shape.Struct i) = inl refl
  new_initial x t u good (shape.Func sig) = inl refl
