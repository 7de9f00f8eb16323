-- Uses of devices, one behind another: in parts, inside a scope, and as the accesses of a statement.
use Rattle.std.proofs.Common.{◌≡◌, ℕ, false, List, [], ◌∷◌, ◌++◌, Option, Some, None, Ok, refl, ap, sym, ◌∙◌, subst, slice_get}
use Rattle.std.specs.Option.{is_some}
use Rattle.cc_type.specs.CcDesignators.Designators.{TypedExpr}
use Rattle.cc_type.specs.CcTypedTerms.Primary.{designates, named_by, named, intrinsic_named}
use Rattle.cc_program.specs.declared.expr.Expr.{Expr, out-Expr}
use Rattle.cc_program.specs.declared.expr.Expr.TheOpen as one
use Rattle.cc_program.specs.declared.expr.Intr.{Intr}
use Rattle.cc_program.specs.declared.expr.Place.{Place, Device as DeviceAt, out-Place}
use Rattle.cc_program.specs.declared.expr.Place.TheVariants as place_rolls
use Rattle.cc_program.specs.declared.func.Func.{Func}
use Rattle.cc_program.specs.declared.object.Device.{Device}
use Rattle.cc_program.specs.declared.program.Program.{Program}
use Rattle.cc_program.specs.declared.program.Roles.{Roles}
use Rattle.cc_type.specs.CcScopes.State.{State, Name, designated, empty, entered}
use Rattle.cc_type.specs.CcScopes.declared.designated.Designated.{Designated}
use Rattle.cc_type.specs.CcScopes.declared.designated.Designated.TheVariants as means
use Rattle.cc_type.specs.CcSyntax.Forms.{form_at, form_of}
use Rattle.cc_type.specs.CcSyntax.Normal.{device_in, device_read, devices_accessed}
use Rattle.cc_shown_effects.specs.Accesses.{Accesses, NoneNumbered, Known, First}
use Rattle.cc_shown_effects.proofs.Assigned.{names-behind}
use Rattle.cc_shown_effects.specs.Steps.{is_load, is_assign, Reads, APlace, NoPlace, Steps, Assigning, Another}
use Rattle.cc_shown_expressions.specs.KnownNames.{KnowsNames}
use Rattle.cc_shown_expressions.specs.OperationNumbers.{Numbers}
use Rattle.cc_shown_expressions.specs.Known.{KnowsStructures}
use Rattle.cc_shown_names.specs.Devices.{DeviceFrom, HasName, Again, AtFirst, DevicesFrom}

-- ---- a scope in which nothing is declared changes nothing

designates-inside : (s : State) (r : TypedExpr) (o : Option Designated) → designates s o ≡ Ok r → designates (entered empty s) o ≡ Ok r
designates-inside s r None h = h
designates-inside s r (Some (means.Linked i)) h = h
designates-inside s r (Some (means.Automatic i t)) h = h
designates-inside s r (Some (means.TypeNamed t)) h = h
designates-inside s r (Some (means.Enumerator k)) h = h

named-by-inside : (at : ℕ) (x : Name) (s : State) (r : TypedExpr) (i : Option Intr) → named_by at x s i ≡ Ok r → named_by at x (entered empty s) i ≡ Ok r
named-by-inside at x s r (Some i) h = h
named-by-inside at x s r None h = designates-inside s r (designated x s.scopes) h

named-inside : (roles : Roles) (at : ℕ) (x : Name) (s : State) (r : TypedExpr) → named roles at x s ≡ Ok r → named roles at x (entered empty s) ≡ Ok r
named-inside roles at x s r h = named-by-inside at x s r (intrinsic_named roles x) h

structures-inside : (p : Program) (number : ℕ → ℕ) (s : State) → KnowsStructures p number s → KnowsStructures p number (entered empty s)
structures-inside p number s k = record { tags = k.tags; structures = k.structures; layouts = k.layouts }

pub names-inside : (p : Program) (f : Func) (n : Numbers) (s : State) → KnowsNames p f n s → KnowsNames p f n (entered empty s)
names-inside p f n s k = record {
  structures = structures-inside p n.structure s k.structures;
  locals = λ i l e at. named-inside p.roles at l.0 s _ (k.locals i l e at);
  objects = λ i o e at. named-inside p.roles at o.name s _ (k.objects i o e at);
  devices = λ i c x e h at. named-inside p.roles at x s _ (k.devices i c x e h at);
  funcs = λ i g e at. named-inside p.roles at g.name s _ (k.funcs i g e at);
}

module _ (p : Program) (n : Numbers) where
  device-inside : (i : ℕ) (s u : State) → DeviceFrom p n i s u → DeviceFrom p n i (entered empty s) (entered empty u)
  device-inside i s _ (HasName d h k) = HasName d h k
  device-inside i s _ (Again d h none known) = Again d h none known
  device-inside i s _ (AtFirst d h none unknown next) = AtFirst d h none unknown next

  pub uses-inside : (is : List ℕ) (s u : State) → DevicesFrom p n is s u → DevicesFrom p n is (entered empty s) (entered empty u)
  uses-inside [] s u h = ap (λ (s : State). entered empty s) h
  uses-inside (i ∷ is) s u h = (entered empty h.0, device-inside i s h.0 h.1, uses-inside is h.0 u h.2)

  -- ---- parts

  pub uses-parted : (is js : List ℕ) (s u : State) → DevicesFrom p n (is ++ js) s u → (t : State) × DevicesFrom p n is s t × DevicesFrom p n js t u
  uses-parted [] js s u h = (s, refl, h)
  uses-parted (i ∷ is) js s u h = let q = uses-parted is js h.0 u h.2 in (q.0, (h.0, h.1, q.1), q.2)

  -- ---- the accesses of a statement

  same-device : (a : Place) (i j : ℕ) (d e : Device) → out-Place a ≡ one.Device i → slice_get p.devices i ≡ Some d → out-Place a ≡ one.Device j → slice_get p.devices j ≡ Some e → d ≡ e
  same-device a i j d e h k g l =
      let same : one.Device i ≡ one.Device j = sym h ∙ g in
      let ids : i ≡ j = cc in
      let there : Some d ≡ Some e = sym k ∙ ap (slice_get p.devices) ids ∙ l in
      cc

  device-accessed : (a : Place) (i : ℕ) (s u : State) → out-Place a ≡ one.Device i → DeviceFrom p n i s u → Accesses p n s a u
  device-accessed a i s _ e (HasName d h k) = NoneNumbered (λ j c o there. ap (λ (d : Device). is_some d.name) (sym (same-device a i j d c e h o there)) ∙ k)
  device-accessed a i s _ e (Again d h none known) = Known i d e h none known
  device-accessed a i s _ e (AtFirst d h none unknown next) = First i d e h none unknown next

  no-device : (a : Place) (y : one.Place-F Expr Place) (s u : State) → out-Place a ≡ y → ((i : ℕ) → y ≡ one.Device i → ⊥) → s ≡ u → Accesses p n s a u
  no-device a y s u e never h = subst (λ u. Accesses p n s a u) h (NoneNumbered (λ i d o there. absurd (never i (sym e ∙ o))))

  place-accessed : (a : Place) (y : one.Place-F Expr Place) (s u : State) → out-Place a ≡ y → DevicesFrom p n (device_in y) s u → Accesses p n s a u
  place-accessed a (one.Device i) s u e h = subst (λ u. Accesses p n s a u) h.2 (device-accessed a i s h.0 e h.1)
  place-accessed a (one.Local r) s u e h = no-device a (one.Local r) s u e (λ i k. cc) h
  place-accessed a (one.Static i) s u e h = no-device a (one.Static i) s u e (λ i k. cc) h
  place-accessed a (one.Element b i) s u e h = no-device a (one.Element b i) s u e (λ i k. cc) h
  place-accessed a (one.Member b m) s u e h = no-device a (one.Member b m) s u e (λ i k. cc) h
  place-accessed a (one.Deref b) s u e h = no-device a (one.Deref b) s u e (λ i k. cc) h

  nothing-read : (r : Expr) (y : one.Expr-F Expr Place) (s u : State) → out-Expr r ≡ y → is_load y ≡ false → s ≡ u → Reads p n r s u
  nothing-read r y s u e k h = subst (λ u. Reads p n r s u) h (NoPlace (ap is_load e ∙ k))

  right-read : (r : Expr) (y : one.Expr-F Expr Place) (s u : State) → out-Expr r ≡ y → DevicesFrom p n (device_read (form_at y)) s u → Reads p n r s u
  right-read r (one.Load b) s u e h = APlace b u e (place-accessed b (out-Place b) s u refl h)
  right-read r (one.Const k t) s u e h = nothing-read r (one.Const k t) s u e refl h
  right-read r (one.Null t) s u e h = nothing-read r (one.Null t) s u e refl h
  right-read r (one.FuncAddr i) s u e h = nothing-read r (one.FuncAddr i) s u e refl h
  right-read r (one.AddrOf a) s u e h = nothing-read r (one.AddrOf a) s u e refl h
  right-read r (one.Un o t a) s u e h = nothing-read r (one.Un o t a) s u e refl h
  right-read r (one.Bin o t a b) s u e h = nothing-read r (one.Bin o t a b) s u e refl h
  right-read r (one.Conv t a) s u e h = nothing-read r (one.Conv t a) s u e refl h
  right-read r (one.Qualify t a) s u e h = nothing-read r (one.Qualify t a) s u e refl h
  right-read r (one.Move a b back) s u e h = nothing-read r (one.Move a b back) s u e refl h
  right-read r (one.Gap a b) s u e h = nothing-read r (one.Gap a b) s u e refl h
  right-read r (one.Compare o a b) s u e h = nothing-read r (one.Compare o a b) s u e refl h
  right-read r (one.Both a b) s u e h = nothing-read r (one.Both a b) s u e refl h
  right-read r (one.Either a b) s u e h = nothing-read r (one.Either a b) s u e refl h
  right-read r (one.Choose c a b) s u e h = nothing-read r (one.Choose c a b) s u e refl h
  right-read r (one.Assign a b) s u e h = nothing-read r (one.Assign a b) s u e refl h
  right-read r (one.Change a o t b) s u e h = nothing-read r (one.Change a o t b) s u e refl h
  right-read r (one.After a down) s u e h = nothing-read r (one.After a down) s u e refl h
  right-read r (one.Call g args) s u e h = nothing-read r (one.Call g args) s u e refl h
  right-read r (one.Intr i a) s u e h = nothing-read r (one.Intr i a) s u e refl h
  right-read r (one.Seq a b) s u e h = nothing-read r (one.Seq a b) s u e refl h

  assign-steps : (e : Expr) (a : Place) (r : Expr) (s u : State) → out-Expr e ≡ one.Assign a r → DevicesFrom p n (device_in (out-Place a) ++ device_read (form_of r)) s u → Steps p n e s u
  assign-steps e a r s u o h =
      let q = uses-parted (device_in (out-Place a)) (device_read (form_of r)) s u h in
      Assigning a r q.0 u o (place-accessed a (out-Place a) s q.0 refl q.1) (right-read r (out-Expr r) q.0 u refl q.2)

  other-steps : (e : Expr) (y : one.Expr-F Expr Place) (s u : State) → out-Expr e ≡ y → is_assign y ≡ false → s ≡ u → Steps p n e s u
  other-steps e y s u o k h = subst (λ u. Steps p n e s u) h (Another (ap is_assign o ∙ k))

  pub steps-used : (e : Expr) (y : one.Expr-F Expr Place) (s u : State) → out-Expr e ≡ y → DevicesFrom p n (devices_accessed (form_at y)) s u → Steps p n e s u
  steps-used e (one.Assign a r) s u o h = assign-steps e a r s u o h
  steps-used e (one.Load b) s u o h = other-steps e (one.Load b) s u o refl h
  steps-used e (one.Const k t) s u o h = other-steps e (one.Const k t) s u o refl h
  steps-used e (one.Null t) s u o h = other-steps e (one.Null t) s u o refl h
  steps-used e (one.FuncAddr i) s u o h = other-steps e (one.FuncAddr i) s u o refl h
  steps-used e (one.AddrOf a) s u o h = other-steps e (one.AddrOf a) s u o refl h
  steps-used e (one.Un q t a) s u o h = other-steps e (one.Un q t a) s u o refl h
  steps-used e (one.Bin q t a b) s u o h = other-steps e (one.Bin q t a b) s u o refl h
  steps-used e (one.Conv t a) s u o h = other-steps e (one.Conv t a) s u o refl h
  steps-used e (one.Qualify t a) s u o h = other-steps e (one.Qualify t a) s u o refl h
  steps-used e (one.Move a b back) s u o h = other-steps e (one.Move a b back) s u o refl h
  steps-used e (one.Gap a b) s u o h = other-steps e (one.Gap a b) s u o refl h
  steps-used e (one.Compare q a b) s u o h = other-steps e (one.Compare q a b) s u o refl h
  steps-used e (one.Both a b) s u o h = other-steps e (one.Both a b) s u o refl h
  steps-used e (one.Either a b) s u o h = other-steps e (one.Either a b) s u o refl h
  steps-used e (one.Choose c a b) s u o h = other-steps e (one.Choose c a b) s u o refl h
  steps-used e (one.Change a q t b) s u o h = other-steps e (one.Change a q t b) s u o refl h
  steps-used e (one.After a down) s u o h = other-steps e (one.After a down) s u o refl h
  steps-used e (one.Call g args) s u o h = other-steps e (one.Call g args) s u o refl h
  steps-used e (one.Intr i a) s u o h = other-steps e (one.Intr i a) s u o refl h
  steps-used e (one.Seq a b) s u o h = other-steps e (one.Seq a b) s u o refl h

  -- ---- what names designate is known behind uses

  pub names-used : (f : Func) (is : List ℕ) (s u : State) → KnowsNames p f n s → DevicesFrom p n is s u → KnowsNames p f n u
  names-used f [] s u k h = subst (λ u. KnowsNames p f n u) h k
  names-used f (i ∷ is) s u k h = names-used f is h.0 u (names-behind p f n s h.0 (DeviceAt i) k (device-accessed (DeviceAt i) i s h.0 (place_rolls.outs-Device i) h.1)) h.2
