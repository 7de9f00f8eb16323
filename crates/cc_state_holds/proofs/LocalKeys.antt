-- Locals that are no registers, scalar by scalar, are what paths lead to.
use Rattle.std.proofs.Common.{◌≡◌, ℕ, List, Option, Some, None, refl, ap, sym, ◌∙◌, subst, slice_get}
use Rattle.std.specs.Prelude.{◌↔◌, option_map}
use Rattle.std.proofs.lemmas.Option.{none-some}
use Rattle.cc_state_reads.specs.CcEval.Context.{object_type, local_type}
use Rattle.cc_program.specs.declared.func.Func.{Func}
use Rattle.cc_program.specs.declared.program.Program.{Program}
use Rattle.cc_program.specs.declared.value.Part.{Part}
use Rattle.cc_program.specs.declared.value.Root.TheVariants as root
use Rattle.cc_proof_covers.specs.Covers.{AreLocalsIn}
use Rattle.cc_state.specs.View.{view, InWhole}
use Rattle.cc_state_reads.specs.CcStateFacts.declared.facts.Facts.{Facts}
use Rattle.cc_state_reads.specs.CcStateFacts.declared.facts.Key.{Key}
use Rattle.cc_state_holds.proofs.PointSets.{good_some}
use Rattle.cc_state_holds.proofs.Statics.{scalar_there, scalar_at}
use Rattle.cc_state_holds.specs.Parts.{good, AreLocalListsIn}
use Rattle.cc_state_reads.specs.CcStateKeys.Paths.{LeadsTo}
use Rattle.cc_state_reads.specs.CcStateOperators.Domains.{Domain}
use Rattle.cc_state_scalars.proofs.Over.{there_is}
use Rattle.cc_state_scalars.specs.Listed.{AreLocalKeys}
use Rattle.cc_steps.specs.State.{Active}
use Rattle.cc_state_reads.specs.CcSyntax.Expressions.{of_one}
use Rattle.cc_state_reads.specs.CcSyntax.Initial.{place_at}
use Rattle.cc_state_reads.specs.CcSyntax.Types.{Named}
use Rattle.cc_state_reads.specs.CcSyntax.Values.{PlaceType, object_place, read_from}

-- a path leads somewhere in a local that is there
pub local_there : (p : Program) (number g r : ℕ) (f : Func) (path : List Part) (k : ℕ) → slice_get p.funcs g ≡ Some f → LeadsTo p (root.Auto number g r) path k → (l : Named) × (slice_get f.locals r ≡ Some l)
local_there p number g r f path k function h = by (slice_get f.locals r) refl
  where
    type_of : object_type p (root.Auto number g r) ≡ option_map (λ (l : Named). object_place l.1) (slice_get f.locals r)
    type_of = ap (local_type r) function

    no_place : slice_get f.locals r ≡ None → of_one (of_one (object_type p (root.Auto number g r)) (place_at p.structures path)) read_from ≡ None
    no_place e = ap (λ (x : Option PlaceType). of_one (of_one x (place_at p.structures path)) read_from) (type_of ∙ ap (option_map (λ (l : Named). object_place l.1)) e)

    by : (o : Option Named) → slice_get f.locals r ≡ o → (l : Named) × (slice_get f.locals r ≡ Some l)
    by None e = absurd (none-some h.0 (sym (no_place e) ∙ h.1))
    by (Some l) e = (l, e)

module _ {I : Type 0} (d : Domain I) (p : Program) (facts : Facts I) (a : Active) (f : Func) (function : slice_get p.funcs a.func ≡ Some f) (keys : List (List Key)) (listed : AreLocalKeys p a.func f.locals keys) where
  locals_to : AreLocalListsIn d p facts f keys a.locals → AreLocalsIn p (view d p facts) f a
  locals_to h r k x register held number path leads =
      let o = local_there p number a.func r f path k function leads in
      let l = there_is f.locals keys (sym listed.count) r o.0 o.1 in
      let v = scalar_there a.locals r k (Some x) held in
      h r l.0 l.1 register v.0 v.1 k _ ((listed.there number r l.0 l.1).each path k leads) x (ap good v.2)

  locals_from : AreLocalsIn p (view d p facts) f a → AreLocalListsIn d p facts f keys a.locals
  locals_from h r list at register values there k key listed_at x held =
      let w = (listed.there 0 r list at).all k key listed_at in
      subst (λ (z : Key). InWhole d p facts z x) w.2 (h r k x register (scalar_at a.locals r k (Some x) values there (good_some (slice_get values k) x held)) 0 w.0 w.1)

  pub locals_by_keys : AreLocalListsIn d p facts f keys a.locals ↔ AreLocalsIn p (view d p facts) f a
  locals_by_keys = (locals_to, locals_from)
