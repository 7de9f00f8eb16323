-- What is so of an entry stays so; strings and devices without a name are such entries.
use Rattle.std.proofs.Common.{◌≡◌, ◌⊎◌, inl, inr, ℕ, ℤ, pos, negsuc, Bool, true, List, Option, Some, None, refl, sym, ◌∙◌, subst}
use Rattle.std.specs.Prelude.{slice_get}
use Rattle.cc_typed_bodies.specs.CcDesignators.Casts.{fits_pointer}
use Rattle.cc_program.specs.CcNum.declared.int_type.IntType.{IntType}
use Rattle.cc_program.specs.CcNum.declared.target.Target.{Target}
use Rattle.cc_typed_bodies.specs.CcTypedTerms.Devices.{device_of}
use Rattle.cc_program.specs.declared.types.CType.{CType}
use Rattle.cc_program.specs.declared.types.Shape.TheVariants.{outs-Int}
use Rattle.cc_typed_bodies.specs.CcScopes.State.{State, Name}
use Rattle.cc_typed_bodies.specs.CcScopes.declared.unit.Declared.{Declared}
use Rattle.cc_sound_terms.specs.Behind.{HasEntry, IsUnnamed, OfString, OfDevice, SameKind, Objects, Devices, Functions, EntryKept, NamesKept}
use Rattle.cc_typed_bodies.specs.CcSyntax.Sound.{is_device}
use Rattle.cc_typed_bodies.specs.CcUnit.declared.unit.UnitKind.{UnitKind}
use Rattle.cc_sound_declarations.specs.Entries.{IsEntryOf, IsEntry}

some_is : {A : Type 0} (a b : A) → Some a ≡ Some b → a ≡ b
some_is a b h = cc

module _ (target : Target) (defined : List Name) where
  of_kind : (x : Option Name) (t : CType) (k l : UnitKind) → SameKind k l → IsEntryOf target defined x t k → IsEntryOf target defined x t l
  of_kind x t _ _ (Objects before after) h = h
  of_kind x t _ _ (Devices d) h = h
  of_kind x t _ _ (Functions entry entry' body body') h = h

  pub entry_stays : (d e : Declared) → EntryKept d e → IsEntry target defined d → IsEntry target defined e
  entry_stays d e k h =
      subst (λ (x : Option Name). IsEntryOf target defined x e.ctype e.kind) (sym k.name)
      (subst (λ (t : CType). IsEntryOf target defined d.name t e.kind) (sym k.ctype) (of_kind d.name d.ctype d.kind e.kind k.kind h))

  no_name : (y : Name) → None ≡ Some y → ⊥
  no_name y h = cc

  device_fits : (n : ℤ) (constant : Bool) (t : IntType) → fits_pointer target n ≡ true → is_device target (device_of n constant t) ≡ true
  device_fits (pos n) constant t h = h
  device_fits (negsuc n) constant t h = absurd (cc)

  pub unnamed_entry : (d : Declared) → IsUnnamed target d → IsEntry target defined d
  unnamed_entry _ (OfString at bytes h) = tt
  unnamed_entry _ (OfDevice n constant t h) = record { fits = device_fits n constant t h; named = refl; int = outs-Int t; constant = refl; volatile = refl; undefined = λ y e. absurd (no_name y e) }

  -- an entry behind two constructs was there in front of them, or is such
  pub entries_through : (s t u : State) (i : ℕ) (e : Declared) → NamesKept t.names u.names → ((d : Declared) → slice_get t.names i ≡ Some d → HasEntry s.names i ⊎ IsEntry target defined d) → slice_get u.names i ≡ Some e →
      HasEntry t.names i ⊎ IsEntry target defined e → HasEntry s.names i ⊎ IsEntry target defined e
  entries_through s t u i e k a h (inr n) = inr n
  entries_through s t u i e k a h (inl d) = of_entry (a d.0 d.1)
    where
      of_entry : HasEntry s.names i ⊎ IsEntry target defined d.0 → HasEntry s.names i ⊎ IsEntry target defined e
      of_entry (inl f) = inl f
      of_entry (inr n) =
          let l = k i d.0 d.1 in
          inr (subst (IsEntry target defined) (some_is l.0 e (sym l.1 ∙ h)) (entry_stays d.0 l.0 l.2 n))

  pub entry_added : (s : State) (i : ℕ) (d : Declared) → HasEntry s.names i ⊎ IsUnnamed target d → HasEntry s.names i ⊎ IsEntry target defined d
  entry_added s i d (inl h) = inl h
  entry_added s i d (inr h) = inr (unnamed_entry d h)

  pub entry_of_two : (s : State) (d : Declared) (i : ℕ) (e : Declared) → IsEntry target defined d → (slice_get s.names i ≡ Some e) ⊎ (d ≡ e) → HasEntry s.names i ⊎ IsEntry target defined e
  entry_of_two s d i e h (inl g) = inl (e, g)
  entry_of_two s d i e h (inr g) = inr (subst (IsEntry target defined) g h)
