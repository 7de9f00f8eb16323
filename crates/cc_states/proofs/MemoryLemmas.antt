-- A register is a scalar, so nothing is a part of one, and what is no scalar is in memory.
use Rattle.std.proofs.Common.{◌≡◌, ◌∙◌, ◌∷◌, ◌&&◌, ℕ, Bool, true, false, not, List, [], Option, Some, None, refl, ap, sym}
use Rattle.std.specs.Prelude.{is_some, option_map, slice_get}
use Rattle.cc_steps.specs.CcEval.Context.{local_type}
use Rattle.cc_program.specs.declared.func.Func.{Func}
use Rattle.cc_program.specs.declared.program.Program.{Program}
use Rattle.cc_program.specs.declared.types.CType.{CType}
use Rattle.cc_program.specs.declared.value.Part.{Part}
use Rattle.cc_program.specs.declared.value.Root.{Root}
use Rattle.cc_program.specs.declared.value.Root.TheVariants as root
use Rattle.cc_steps.specs.CcSyntax.Expressions.{of_one}
use Rattle.cc_steps.specs.CcSyntax.Initial.{place_at}
use Rattle.cc_steps.specs.CcSyntax.Registers.{may_be_register, is_register, is_addressed}
use Rattle.cc_steps.specs.CcSyntax.Types.{Named}
use Rattle.cc_steps.specs.CcSyntax.Values.{PlaceType, scalar_value, object_place, read_from}
use Rattle.cc_steps.proofs.CcSyntax.Prefixes.{both_true}
use Rattle.cc_steps.proofs.ScalarPlaces.{scalar_flat}
use Rattle.cc_states.specs.Typed.{is_register_in, IsInMemory, place_in}

module _ (p : Program) where
  -- what is found in a scalar local is that itself
  scalar_path : (path : List Part) (t : CType) (a : PlaceType) → is_some (scalar_value t) ≡ true → place_at p.structures path (object_place t) ≡ Some a → (path ≡ []) × (is_some (read_from a) ≡ true)
  scalar_path [] t a h e = let same : object_place t ≡ a = cc in (refl, ap (λ (x : PlaceType). is_some (read_from x)) (sym same) ∙ h)
  scalar_path (step ∷ path) t a h e =
      let none : None ≡ Some a = sym (ap (λ (x : Option PlaceType). of_one x (place_at p.structures path)) ((scalar_flat p.structures t h).parts step)) ∙ e in absurd (cc)

  -- a place that is no scalar, or a part of something, is in memory
  abbrev Elsewhere : List Part → PlaceType → Type 0
  Elsewhere path a = (path ≡ []) → is_some (read_from a) ≡ true → ⊥

  local_in_memory : (l : Option Named) (path : List Part) (a : PlaceType) (b c : Bool) → of_one (option_map (λ (l : Named). object_place l.1) l) (place_at p.structures path) ≡ Some a → Elsewhere path a →
      may_be_register l ≡ b → b && c ≡ false
  local_in_memory l path a false c e h i = refl
  local_in_memory None path a true c e h i = absurd (cc)
  local_in_memory (Some l) path a true c e h i =
      let x = both_true (is_some (scalar_value l.1)) (not l.1.volatile) i in
      let y = scalar_path path l.1 a x.0 e in
      absurd (h y.0 y.1)

  func_in_memory : (f : Option Func) (local : ℕ) (path : List Part) (a : PlaceType) → of_one (local_type local f) (place_at p.structures path) ≡ Some a → Elsewhere path a → is_register_in f local ≡ false
  unfolding is_register
  func_in_memory None local path a e h = refl
  func_in_memory (Some f) local path a e h = local_in_memory (slice_get f.locals local) path a (may_be_register (slice_get f.locals local)) (not (is_addressed f local)) e h refl

  pub part_in_memory : (object : Root) (path : List Part) (a : PlaceType) → place_in p object path ≡ Some a → ((path ≡ []) → is_some (read_from a) ≡ true → ⊥) → IsInMemory p object
  part_in_memory (root.Static i) path a e h = tt
  part_in_memory (root.Auto number func local) path a e h = func_in_memory (slice_get p.funcs func) local path a e h

  -- a local whose address is taken is in memory
  pub addressed_in_memory : (f : Func) (local : ℕ) → is_addressed f local ≡ true → is_register f local ≡ false
  unfolding is_register
  addressed_in_memory f local h = ap (λ (b : Bool). may_be_register (slice_get f.locals local) && not b) h ∙ never (may_be_register (slice_get f.locals local))
    where
      never : (b : Bool) → b && false ≡ false
      never true = refl
      never false = refl
