-- Static objects, scalar by scalar, are what paths lead to.
use Rattle.std.proofs.Common.{◌≡◌, ℕ, List, Option, Some, None, refl, ap, sym, ◌∙◌, subst, slice_get}
use Rattle.std.specs.Prelude.{◌↔◌, option_and_then, option_map, Vec}
use Rattle.std.specs.declared.alloc.Global.{Global}
use Rattle.std.proofs.lemmas.Option.{none-some, slice_get-map}
use Rattle.cc_cells.specs.Cells.{scalar_in, cells_of}
use Rattle.cc_state_reads.specs.CcEval.Context.{object_type}
use Rattle.cc_program.specs.declared.object.Object.{Object}
use Rattle.cc_program.specs.declared.program.Program.{Program}
use Rattle.cc_program.specs.declared.value.Part.{Part}
use Rattle.cc_program.specs.declared.value.Root.TheVariants as root
use Rattle.cc_program.specs.declared.value.Value.{Value}
use Rattle.cc_proof_covers.specs.Covers.{AreStaticsIn}
use Rattle.cc_state.specs.View.{view, InWhole}
use Rattle.cc_state_reads.specs.CcStateFacts.declared.facts.Facts.{Facts}
use Rattle.cc_state_reads.specs.CcStateFacts.declared.facts.Key.{Key}
use Rattle.cc_state_holds.specs.Parts.{AreObjectsIn}
use Rattle.cc_state_reads.specs.CcStateKeys.Paths.{LeadsTo}
use Rattle.cc_state_reads.specs.CcStateOperators.Domains.{Domain}
use Rattle.cc_state_scalars.proofs.Over.{there_is}
use Rattle.cc_state_scalars.specs.Listed.{AreStaticKeys}
use Rattle.cc_state_reads.specs.CcSyntax.Expressions.{of_one}
use Rattle.cc_state_reads.specs.CcSyntax.Initial.{place_at}
use Rattle.cc_state_reads.specs.CcSyntax.Values.{object_place, read_from}

-- the values that a vector of vectors holds at a place
pub look_up : {A : Type 0} (cells : List (Vec A Global)) (i : ℕ) → slice_get (cells_of cells) i ≡ option_map (λ v. v.items) (slice_get cells i)
unfolding cells_of
look_up cells i = slice_get-map (λ v. v.items) cells i

pub scalar_there : {A : Type 0} (cells : List (List A)) (i k : ℕ) (x : A) → scalar_in cells i k ≡ Some x → (values : List A) × (slice_get cells i ≡ Some values) × (slice_get values k ≡ Some x)
scalar_there {A = A} cells i k x h = by (slice_get cells i) refl h
  where
    by : (o : Option (List A)) → slice_get cells i ≡ o → option_and_then (λ (scalars : List A). slice_get scalars k) o ≡ Some x → (values : List A) × (slice_get cells i ≡ Some values) × (slice_get values k ≡ Some x)
    by None e g = absurd (none-some x g)
    by (Some values) e g = (values, e, g)

pub scalar_at : {A : Type 0} (cells : List (List A)) (i k : ℕ) (x : A) (values : List A) → slice_get cells i ≡ Some values → slice_get values k ≡ Some x → scalar_in cells i k ≡ Some x
scalar_at {A = A} cells i k x values e f = ap (option_and_then (λ (scalars : List A). slice_get scalars k)) e ∙ f

-- a path leads somewhere in an object that is there
pub object_there : (p : Program) (i : ℕ) (path : List Part) (k : ℕ) → LeadsTo p (root.Static i) path k → (o : Object) × (slice_get p.objects i ≡ Some o)
object_there p i path k h = by (slice_get p.objects i) refl
  where
    no_place : slice_get p.objects i ≡ None → of_one (of_one (object_type p (root.Static i)) (place_at p.structures path)) read_from ≡ None
    no_place e = ap (λ (x : Option Object). of_one (of_one (option_map (λ (o : Object). object_place o.ctype) x) (place_at p.structures path)) read_from) e

    by : (o : Option Object) → slice_get p.objects i ≡ o → (o : Object) × (slice_get p.objects i ≡ Some o)
    by None e = absurd (none-some h.0 (sym (no_place e) ∙ h.1))
    by (Some o) e = (o, e)

module _ {I : Type 0} (d : Domain I) (p : Program) (facts : Facts I) (keys : List (List Key)) (listed : AreStaticKeys p p.objects keys) (statics : List (List Value)) where
  statics_to : AreObjectsIn d p facts keys statics → AreStaticsIn p (view d p facts) statics
  statics_to h i k x held path leads =
      let o = object_there p i path k leads in
      let l = there_is p.objects keys (sym listed.count) i o.0 o.1 in
      let v = scalar_there statics i k x held in
      h i l.0 l.1 v.0 v.1 k _ ((listed.there i l.0 l.1).each path k leads) x v.2

  statics_from : AreStaticsIn p (view d p facts) statics → AreObjectsIn d p facts keys statics
  statics_from h i list at values there k key listed_at x held =
      let w = (listed.there i list at).all k key listed_at in
      subst (λ (z : Key). InWhole d p facts z x) w.2 (h i k x (scalar_at statics i k x values there held) w.0 w.1)

  pub statics_by_keys : AreObjectsIn d p facts keys statics ↔ AreStaticsIn p (view d p facts) statics
  statics_by_keys = (statics_to, statics_from)
