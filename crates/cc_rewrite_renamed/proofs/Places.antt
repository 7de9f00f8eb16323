-- A program with the objects and the text by other numbers: its functions are those that there were, but for their bodies.
use Rattle.std.proofs.Common.{◌≡◌, ◌∙◌, ℕ, List, Option, Some, None, option_map, slice_get, refl, ap, sym, subst}
use Rattle.std.proofs.lemmas.Option.{slice_get-map}
use Rattle.cc_eval.specs.Context.{object_type}
use Rattle.cc_program.specs.declared.func.Func.{Func}
use Rattle.cc_program.specs.declared.object.Object.{Object}
use Rattle.cc_program.specs.declared.program.Program.{Program}
use Rattle.cc_program.specs.declared.value.Root.{Root}
use Rattle.cc_eval.specs.CcSyntax.Values.{object_place}
use Rattle.cc_rewrite_renamed.specs.Objects.{root_renamed, func_renamed, with_objects}
use Rattle.cc_rewrite_renamed.specs.Renaming.{AreRenamed, AreAlike}
use Rattle.cc_rewrite_renamed.proofs.Spots.{static_same as static_there, object_same as object_there}

module _ (r : ℕ → ℕ) (objects : List Object) (P : Program) (renamed : AreRenamed r objects P) where
  abbrev pub Q : Program
  Q = with_objects r objects P

  -- what each function gives that has the same locals
  func_by : {A : Type 0} → (g : Option Func → A) → ((f : Func) → g (Some (func_renamed r f)) ≡ g (Some f)) → (f : Option Func) → g (option_map (func_renamed r) f) ≡ g f
  func_by g h None = refl
  func_by g h (Some f) = h f

  pub func_same : {A : Type 0} → (g : Option Func → A) → ((f : Func) → g (Some (func_renamed r f)) ≡ g (Some f)) → (id : ℕ) → g (slice_get Q.funcs id) ≡ g (slice_get P.funcs id)
  func_same g h id = ap g (slice_get-map (func_renamed r) P.funcs id) ∙ func_by g h (slice_get P.funcs id)

  alike_by : (f : Option Func) → AreAlike (option_map (func_renamed r) f) f
  alike_by None = tt
  alike_by (Some f) = record { sig = refl; entry = refl; locals = refl }

  pub funcs_alike : (id : ℕ) → AreAlike (slice_get Q.funcs id) (slice_get P.funcs id)
  funcs_alike id = subst (λ (f : Option Func). AreAlike f (slice_get P.funcs id)) (sym (slice_get-map (func_renamed r) P.funcs id)) (alike_by (slice_get P.funcs id))

  pub static_same : (i : ℕ) → option_map (λ (o : Object). object_place o.ctype) (slice_get objects (r i)) ≡ option_map (λ (o : Object). object_place o.ctype) (slice_get P.objects i)
  static_same i = static_there r objects Q.funcs P renamed funcs_alike i

  pub object_same : (o : Root) → object_type Q (root_renamed r o) ≡ object_type P o
  object_same o = object_there r objects Q.funcs P renamed funcs_alike o
