-- Sets of addresses grow: those to which addresses are moved, those of what is in their objects, and what tells its addresses is within
-- nothing that does not.
use Rattle.std.proofs.Common.{◌≡◌, ⊎_elim, ℤ, Bool, true, false, ◌&&◌, refl, sym, ◌∙◌, subst}
use Rattle.std.specs.List.{Contains, list_all}
use Rattle.cc_state_values_sound.specs.CcPlaces.Kept.{kept, starred, member_for}
use Rattle.cc_state_values_sound.specs.CcPlaces.Moves.{HasMoved}
use Rattle.cc_state_values_sound.specs.CcPlaces.Sets.{HasAddress, IsWithin, IsSetOf}
use Rattle.cc_state_values_sound.specs.CcPlaces.declared.addrs.Addrs.{Addrs}
use Rattle.cc_state_values_sound.specs.CcPlaces.laws.ListLaws.{both_true, and_true, all_at, all_from}
use Rattle.cc_state_values_sound.specs.CcPlaces.laws.SetLaws.{has_member, coarser, set_in}
use Rattle.cc_program.specs.declared.program.Program.{Program}
use Rattle.cc_program.specs.declared.value.Address.{Address}
use Rattle.cc_program.specs.declared.value.Address.TheVariants as address
use Rattle.cc_program.specs.declared.value.Root.TheVariants as root
use Rattle.cc_state_values_sound.specs.CcStateOperators.Addresses.{HasStepped}
use Rattle.cc_state_values_sound.specs.CcStateOperators.Results.{is_static, is_told, offsets}
use Rattle.cc_state_values_sound.proofs.Pointers.{moved_in}
use Rattle.cc_state_values_sound.proofs.Starring.{IsStepOf, stepped_has}
use Rattle.cc_state_values_sound.specs.Steps.{IsReal}

-- what is not exact is within nothing that is
pub not_exact : (s t : Addrs) → IsWithin s t → s.is_exact ≡ false → t.is_exact ≡ false
not_exact s t h e = ⊎_elim (λ (f : s.is_exact ≡ true). let g : true ≡ false = sym f ∙ e in absurd (cc)) (λ (f : t.is_exact ≡ false). f) (coarser s t h)

exact_within : (s t : Addrs) → IsWithin s t → t.is_exact ≡ true → s.is_exact ≡ true
exact_within s t h e = ⊎_elim (λ (f : s.is_exact ≡ true). f) (λ (f : t.is_exact ≡ false). let g : true ≡ false = sym e ∙ f in absurd (cc)) (coarser s t h)

-- under which member an address stands, by the form of the set
stands_starred : (s : Addrs) (a : Address) → s.is_exact ≡ false → HasAddress s a → Contains s.members (starred a)
stands_starred s a e h = subst (λ (b : Bool). Contains s.members (member_for b a)) e h

stands_kept : (s : Addrs) (a : Address) → s.is_exact ≡ true → HasAddress s a → Contains s.members (kept a)
stands_kept s a e h = subst (λ (b : Bool). Contains s.members (member_for b a)) e h

-- ---- moves

more_offsets : (back : Bool) (by more : ℤ → Type 0) → ((n : ℤ) → by n → more n) → (n : ℤ) → offsets back by n → offsets back more n
more_offsets true by more f n h = f _ h
more_offsets false by more f n h = f n h

pub moved_grows : (by more : ℤ → Type 0) (s t r u : Addrs) → IsWithin s t → ((n : ℤ) → by n → more n) → IsSetOf (HasMoved by s s.is_exact) r → IsSetOf (HasMoved more t t.is_exact) u → IsWithin r u
moved_grows by more s t r u h f k l = set_in (HasMoved by s s.is_exact) r u k (λ a m. by_form s.is_exact refl a m)
  where
    by_form : (e : Bool) → s.is_exact ≡ e → (a : Address) → HasMoved by s e a → HasAddress u a
    by_form true e a (c, there, (n, i, m)) = moved_in t.is_exact false more t u n c a refl l (h c (has_member s c there)) (f n i) m
    by_form false e a (there, object) =
        let g = not_exact s t h e in
        let v = subst (λ (b : Bool). IsSetOf (HasMoved more t b) u) g l in
        (v.has a).1 (a, (h a there, object), refl)

pub moved_more : (back : Bool) (by more : ℤ → Type 0) (s t r u : Addrs) → IsWithin s t → ((n : ℤ) → by n → more n) → IsSetOf (HasMoved (offsets back by) s s.is_exact) r → IsSetOf (HasMoved (offsets back more) t t.is_exact) u → IsWithin r u
moved_more back by more s t r u h f k l = moved_grows (offsets back by) (offsets back more) s t r u h (more_offsets back by more f) k l

-- ---- what is in an object

pub stepped_grows : (p : Program) (step more : Address → Address → Type 0) → IsStepOf p more → ((a b : Address) → step a b → more a b) → (s t r u : Addrs) → IsWithin s t → ((a : Address) → Contains s.members a → IsReal p a) →
    IsSetOf (HasStepped step s s.is_exact) r → IsSetOf (HasStepped more t t.is_exact) u → IsWithin r u
stepped_grows p step more steps f s t r u h real k l = set_in (HasStepped step s s.is_exact) r u k (λ a m. by_form s.is_exact refl a m)
  where
    by_form : (e : Bool) → s.is_exact ≡ e → (b : Address) → HasStepped step s e b → HasAddress u b
    by_form true e b (a, there, m) = stepped_has p more steps t u a b l (h a (has_member s a there)) (real a there) (f a b m)
    by_form false e b (a, c, there, m, same) =
        let g = not_exact s t h e in
        let v = subst (λ (x : Bool). IsSetOf (HasStepped more t x) u) g l in
        let w = steps.stars a c (real a there) (f a c m) in
        (v.has b).1 (b, (starred a, w.0, stands_starred t a g (h a (has_member s a there)), w.1, same ∙ sym w.2), refl)

-- ---- sets that tell their addresses

static_kept : (a : Address) → is_static (kept a) ≡ true → is_static a ≡ true
static_kept address.Null h = refl
static_kept (address.Func f) h = refl
static_kept (address.At (root.Static i) path index count) h = refl
static_kept (address.At (root.Auto n f l) path index count) h = absurd (cc)

pub told_within : (s t : Addrs) → IsWithin s t → is_told t ≡ true → is_told s ≡ true
told_within s t h e =
    let w = both_true t.is_exact (list_all is_static t.members) e in
    and_true s.is_exact (list_all is_static s.members) (exact_within s t h w.0)
    (all_from is_static s.members (λ a c. static_kept a (all_at is_static t.members (kept a) w.1 (stands_kept t a w.0 (h a (has_member s a c))))))

-- of two sets
pub untold_within : (s t q r : Addrs) → IsWithin s t → IsWithin q r → is_told s && is_told q ≡ false → is_told t && is_told r ≡ false
untold_within s t q r h k e = by_test (is_told t && is_told r) refl
  where
    by_test : (b : Bool) → is_told t && is_told r ≡ b → is_told t && is_told r ≡ false
    by_test false f = f
    by_test true f =
        let w = both_true (is_told t) (is_told r) f in
        let g = and_true (is_told s) (is_told q) (told_within s t h w.0) (told_within q r k w.1) in
        let z : true ≡ false = sym g ∙ e in
        absurd (cc)
