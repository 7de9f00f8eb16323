-- A lowered program types as its source does and names what it names, and its registers are scalars that are not volatile.
use Rattle.std.proofs.Common.{◌≡◌, ◌<◌, ℕ, zero, suc, Bool, true, false, not, ◌||◌, List, [], ◌∷◌, ◌++◌, length, Option, Some, None, is_some, option_map, slice_get, refl, ap, sym, ◌∙◌, if◌then◌else◌}
use Rattle.std.proofs.Math.Path.{fun_ext}
use Rattle.std.proofs.lemmas.Bool.{lt-ltb}
use Rattle.std.proofs.lemmas.Option.{slice_get-map}
use Rattle.std.specs.Prelude.{nat_lt, option_and_then}
use Rattle.cc_states.specs.CcEval.Context.{local_type, object_type, are_alike, path_to, named_by}
use Rattle.cc_states.specs.CcEval.Eval.{Designation}
use Rattle.cc_lower_expressions.specs.Programs.{temporaries, lowered_body, lower_func}
use Rattle.cc_program.specs.Qualifiers.{of_element, is_volatile}
use Rattle.cc_program.specs.declared.func.Func.{Func}
use Rattle.cc_program.specs.declared.program.Program.{Program}
use Rattle.cc_program.specs.declared.types.CType.{CType}
use Rattle.cc_program.specs.declared.types.Shape.{Shape, out-Shape}
use Rattle.cc_program.specs.declared.types.Shape.TheOpen as shape
use Rattle.cc_program.specs.declared.types.Sig.{Sig}
use Rattle.cc_program.specs.declared.value.Address.{Address}
use Rattle.cc_program.specs.declared.value.Address.TheVariants as address
use Rattle.cc_program.specs.declared.value.Part.{Part}
use Rattle.cc_program.specs.declared.value.Root.{Root}
use Rattle.cc_program.specs.declared.value.Root.TheVariants as root
use Rattle.cc_program.proofs.QualifierLemmas.{parts_volatile, volatile-opens}
use Rattle.cc_states.proofs.CcSteps.ScalarPlaces.{IsFlat, scalar_flat}
use Rattle.cc_states.specs.CcSyntax.Expressions.{of_one}
use Rattle.cc_states.specs.CcSyntax.Initial.{place_at}
use Rattle.cc_states.specs.CcSyntax.Registers.{may_be_register, is_addressed, is_register}
use Rattle.cc_states.specs.CcSyntax.Types.{Named}
use Rattle.cc_states.specs.CcSyntax.Values.{PlaceType, object_place, element_of, scalar_shape, scalar_value}
use Rattle.cc_states.specs.CcSyntax.Views.{of_program}
use Rattle.cc_lower_sound.proofs.Bools.{first_true, second_true}
use Rattle.cc_lower_sound.proofs.ChangedFunctions.{view_same}
use Rattle.cc_lower_sound.proofs.TypedAddresses.{below}
use Rattle.cc_meaning_simulations.specs.Bodies.{all_extended, extended}
use Rattle.cc_meaning_simulations.proofs.MoreLocals.{get_before}
use Rattle.cc_lower_expressions_follows.specs.Relation.{Alike}
use Rattle.cc_lower_expressions_follows.specs.Trees.{Setting, context_p, context_q}
use Rattle.cc_lower_expressions_follows.specs.WholeFits.{setting_of}
use Rattle.cc_lower_expressions_follows.proofs.Opened.{at-Local}
use Rattle.cc_lower_expressions_follows.proofs.WholePrograms.{SameRegisters}
use Rattle.cc_lower_expressions_follows.proofs.WholeTemporaries.{adds_scalars}

-- ---- registers

scalar_parts : (x : shape.Shape-F Shape CType Sig) → is_some (scalar_shape x) ≡ true → of_element (parts_volatile x) ≡ false
scalar_parts (shape.Int t) h = refl
scalar_parts (shape.Pointer to) h = refl
scalar_parts shape.Void h = absurd (cc)
scalar_parts (shape.Array of n) h = absurd (cc)
scalar_parts (shape.Struct s) h = absurd (cc)
scalar_parts (shape.Func s) h = absurd (cc)

not_true : (b : Bool) → not b ≡ true → b ≡ false
not_true true h = absurd (cc)
not_true false h = refl

scalar_unseen : (t : CType) → is_some (scalar_value t) ≡ true → not t.volatile ≡ true → is_volatile t ≡ false
scalar_unseen t h k = volatile-opens t ∙ ap (λ (b : Bool). b || of_element (parts_volatile (out-Shape t.shape))) (not_true t.volatile k) ∙ scalar_parts (out-Shape t.shape) h

-- a register is such a local
local_by : (o : Option Named) → may_be_register o ≡ true → (l : Named) × (o ≡ Some l) × (is_volatile l.1 ≡ false)
local_by None h = absurd (cc)
local_by (Some l) h = (l, refl, scalar_unseen l.1 (first_true (is_some (scalar_value l.1)) (not l.1.volatile) h) (second_true (is_some (scalar_value l.1)) (not l.1.volatile) h))

register_local : (g : Func) (i : ℕ) → is_register g i ≡ true → (l : Named) × (slice_get g.locals i ≡ Some l) × (is_volatile l.1 ≡ false)
unfolding is_register
register_local g i h = local_by (slice_get g.locals i) (first_true (may_be_register (slice_get g.locals i)) (not (is_addressed g i)) h)

pub register_below : (g : Func) (i : ℕ) → is_register g i ≡ true → i < length g.locals
register_below g i h = let l = register_local g i h in below g.locals i l.0 l.1

module _ (P : Program) where
  abbrev Q : Program
  Q = all_extended (temporaries P) (lowered_body P) P

  view_is : of_program Q ≡ of_program P
  view_is = view_same (lower_func P) (λ f. record { name = refl; sig = refl; entry = refl }) P

  -- ---- addresses: temporaries are scalars, which have no elements

  flat : (f : Func) (k : ℕ) (l : Named) → slice_get (temporaries P f) k ≡ Some l → IsFlat P.structures (object_place l.1)
  flat f k l h = scalar_flat P.structures l.1 (adds_scalars P f k l h)

  abbrev found : List Part → Option PlaceType → Option PlaceType
  found path t = option_and_then element_of (option_and_then (place_at P.structures path) t)

  flat_found : (path : List Part) (t : PlaceType) → IsFlat P.structures t → found path (Some t) ≡ None
  flat_found [] t h = h.elements
  flat_found (s ∷ path) t h = ap (λ (x : Option PlaceType). option_and_then element_of (of_one x (place_at P.structures path))) (h.parts s)

  found_in : (path : List Part) (xs ys : List Named) (k : ℕ) → ((k : ℕ) (l : Named) → slice_get ys k ≡ Some l → IsFlat P.structures (object_place l.1)) →
      found path (option_map (λ (l : Named). object_place l.1) (slice_get (xs ++ ys) k)) ≡ found path (option_map (λ (l : Named). object_place l.1) (slice_get xs k))
  found_in path [] ys k h = at (slice_get ys k) refl
    where
      at : (x : Option Named) → slice_get ys k ≡ x → found path (option_map (λ (l : Named). object_place l.1) (slice_get ys k)) ≡ None
      at None e = ap (λ (x : Option Named). found path (option_map (λ (l : Named). object_place l.1) x)) e
      at (Some l) e = ap (λ (x : Option Named). found path (option_map (λ (l : Named). object_place l.1) x)) e ∙ flat_found path (object_place l.1) (h k l e)
  found_in path (x ∷ xs) ys zero h = refl
  found_in path (x ∷ xs) ys (suc k) h = found_in path xs ys k h

  found_at : (path : List Part) (local : ℕ) (f : Option Func) → found path (local_type local (option_map (extended (temporaries P) (lowered_body P)) f)) ≡ found path (local_type local f)
  found_at path local None = refl
  found_at path local (Some f) = found_in path f.locals (temporaries P f) local (flat f)

  found_object : (path : List Part) (r : Root) → found path (object_type Q r) ≡ found path (object_type P r)
  found_object path (root.Static i) = refl
  found_object path (root.Auto number func local) =
      ap (λ (f : Option Func). found path (local_type local f)) (slice_get-map (extended (temporaries P) (lowered_body P)) P.funcs func) ∙ found_at path local (slice_get P.funcs func)

  named_same : (t : PlaceType) (a : Address) → named_by Q t a ≡ named_by P t a
  named_same t address.Null = refl
  named_same t (address.Func f) = refl
  named_same t (address.At object path index count) =
      ap (λ (o : Option PlaceType). if nat_lt index count then Some (object, path_to (are_alike o t) path index) else None) (found_object path object)

  module _ (same : SameRegisters P) (number id : ℕ) (f : Func) (there : slice_get P.funcs id ≡ Some f) where
    abbrev w : Setting
    w = setting_of P number id f

    pub alike_programs : Alike w
    alike_programs = record {
      view = view_is;
      naming = λ t. fun_ext (λ a. named_same t a);
      places = λ i b.
          ap (λ (d : Designation). d.ctype) (at-Local (context_q w) i) ∙ ap (option_map (λ (l : Named). object_place l.1)) (get_before f.locals (temporaries P f) i (lt-ltb i (length f.locals) b))
          ∙ sym (ap (λ (d : Designation). d.ctype) (at-Local (context_p w) i));
      registers = λ i b. same id f there i b;
      unseen = λ i h.
          let l = register_local w.to i h in
          (object_place l.0.1, ap (λ (d : Designation). d.ctype) (at-Local (context_q w) i) ∙ ap (option_map (λ (l : Named). object_place l.1)) l.1, l.2);
    }
