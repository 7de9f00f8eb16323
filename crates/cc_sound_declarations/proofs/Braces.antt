-- What is known of closing braces behind a name that is brought into scope: it closes no structure, and stands for no type.
use Rattle.std.proofs.Common.{◌≡◌, ℕ, List, [], ◌∷◌, ◌++◌, length, refl, sym, subst}
use Rattle.cc_typed_bodies.specs.CcOperands.Qualified.{without_const}
use Rattle.cc_program.specs.declared.types.CType.{CType}
use Rattle.cc_typed_bodies.specs.CcScopes.State.{KnownStructure, State, Name, bind, with_declared, with_locals}
use Rattle.cc_typed_bodies.specs.CcScopes.declared.designated.Designated.{Designated}
use Rattle.cc_typed_bodies.specs.CcScopes.declared.designated.Designated.TheVariants as means
use Rattle.cc_typed_bodies.specs.CcScopes.declared.unit.Declared.{Declared}
use Rattle.cc_typed_bodies.specs.CcObjects.Linked.{with_automatic}
use Rattle.cc_sound_declarations.specs.Declaring.{DeclaresGiven}
use Rattle.cc_sound_terms.proofs.Behind.{bind_adds, stands_behind}
use Rattle.cc_sound_terms.proofs.Closings.{closings_itself, closings_through}
use Rattle.cc_sound_terms.proofs.Growth.{all_kept}
use Rattle.cc_sound_terms.specs.Closings.{Closings}
use Rattle.cc_sound_terms.specs.Growing.{StructuresKept}
use Rattle.cc_sound_terms.specs.Ordered.{IsOrdered}
use Rattle.cc_sound_terms.specs.Typing.{KnowsTypes}
use Rattle.cc_typed_bodies.specs.CcSyntax.Types.{Named}
use Rattle.cc_typed_bodies.specs.CcSyntax.Views.{View}

linked_no_type : (i : ℕ) (w : CType) → means.Linked i ≡ means.TypeNamed w → ⊥
linked_no_type i w h = cc

object_no_type : (n : ℕ) (t w : CType) → means.Automatic n t ≡ means.TypeNamed w → ⊥
object_no_type n t w h = cc

module _ (v : View) (defined : List Name) (P : Type 0) where
  abbrev Anything : Designated → Type 0
  Anything d = Unit {0}

  -- `inner` has what is named
  behind_name : (s inner : State) (x : Name) (d : Designated) (t : State) (D E : List Named) → ((w : CType) → d ≡ means.TypeNamed w → ⊥) → inner.structures ≡ s.structures → (IsOrdered s → IsOrdered inner) →
      (KnowsTypes v s (bind x d inner) → KnowsTypes v inner (bind x d inner)) → DeclaresGiven v defined P (bind x d inner) D t E → Closings v P s t
  behind_name s inner x d t D E none same ordered known a =
      let start = bind x d inner in
      let adds = bind_adds v Anything x d inner tt (λ k w e. absurd (none w e)) in
      closings_through v P P s start t (subst (λ (all : List KnownStructure). StructuresKept s.structures all) (sym same) (all_kept s.structures)) a.structures a.closed.0 a.closed.1
      (λ o. adds.ordered (ordered o)) (λ p k. stands_behind v inner start adds.behind (known k)) (λ p k. p) (closings_itself v P s start same) a.closings

  -- behind the entry of an object
  pub behind_entry : (e : Declared) (x : Name) (s t : State) (D E : List Named) → DeclaresGiven v defined P (bind x (means.Linked (length s.names)) (with_declared e s)) D t E → Closings v P s t
  behind_entry e x s t D E a =
      behind_name s (with_declared e s) x (means.Linked (length s.names)) t D E (linked_no_type (length s.names)) refl (λ h. record { listed = h.listed; order = h.order; tags = h.tags })
      (λ k. record { structures = k.structures; types = k.types; tags = k.tags }) a

  -- behind an automatic object
  pub behind_object : (x : Name) (u : CType) (s t : State) (D E : List Named) → DeclaresGiven v defined P (with_automatic x u s) D t E → Closings v P s t
  behind_object x u s t D E a =
      behind_name s (with_locals (s.locals ++ (x, without_const u) ∷ []) s) x (means.Automatic (length s.locals) u) t D E (object_no_type (length s.locals) u) refl
      (λ h. record { listed = h.listed; order = h.order; tags = h.tags }) (λ k. record { structures = k.structures; types = k.types; tags = k.tags }) a
