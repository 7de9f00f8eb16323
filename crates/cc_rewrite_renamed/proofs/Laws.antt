-- What an expression by other numbers of static objects does, and what is known of it before.
use Rattle.std.proofs.Common.{◌≡◌, ◌∙◌, ℕ, List, Option, Some, None, slice_get, refl, sym}
use Rattle.cc_eval.proofs.Links.{type_linked, effects_linked, place_effects_linked}
use Rattle.cc_eval.specs.declared.mark.Mark.{Mark}
use Rattle.cc_eval.specs.Eval.{meaning}
use Rattle.cc_program.specs.declared.expr.Expr.{Expr}
use Rattle.cc_program.specs.declared.expr.Place.{Place}
use Rattle.cc_program.specs.declared.func.Func.{Func}
use Rattle.cc_program.specs.declared.object.Object.{Object}
use Rattle.cc_program.specs.declared.program.Program.{Program}
use Rattle.cc_eval.specs.CcSyntax.Effects.{Registers, effects_of, place_effects_of}
use Rattle.cc_eval.specs.CcSyntax.Programs.{type_of}
use Rattle.cc_rewrite_renamed.specs.Objects.{expr_renamed, place_renamed, func_renamed, with_objects}
use Rattle.cc_rewrite_renamed.specs.Renaming.{AreRenamed, AreAlike, in_program, marks_renamed, may_renamed, progress_renamed}
use Rattle.cc_rewrite_renamed.proofs.Meanings.{IsMeaningSame, meaning_same, designation_same}
use Rattle.cc_rewrite_renamed.proofs.Places.{funcs_alike}
use Rattle.cc_rewrite_renamed.proofs.Registers.{register_same}

module _ (r : ℕ → ℕ) (objects : List Object) (p : Program) (renamed : AreRenamed r objects p) where
  abbrev q : Program
  q = with_objects r objects p

  abbrev by_law : (number id : ℕ) (f : Func) (e : Expr) → Type 0
  by_law number id f e =
      IsMeaningSame r objects q.funcs p renamed (funcs_alike r objects p renamed) number id (func_renamed r f) f (record { sig = refl; entry = refl; locals = refl }) (λ i. register_same r i f)
      (meaning (in_program q number id (func_renamed r f)) (expr_renamed r e)) (meaning (in_program p number id f) e)

  by_numbers : (number id : ℕ) (f : Func) (e : Expr) → by_law number id f e
  by_numbers number id f e = meaning_same r objects q.funcs p renamed (funcs_alike r objects p renamed) number id (func_renamed r f) f (record { sig = refl; entry = refl; locals = refl }) (λ i. register_same r i f) e

  pub does_same : (number id : ℕ) (f : Func) (e : Expr) (later : Registers) (ms : List Mark) →
      (meaning (in_program q number id (func_renamed r f)) (expr_renamed r e)).next later (marks_renamed r ms) ≡ progress_renamed r (may_renamed r) ((meaning (in_program p number id f) e).next later ms)
  does_same number id f e later ms = (by_numbers number id f e).next later later refl ms

  pub types_same : (f : Func) (e : Expr) → type_of q f.locals (expr_renamed r e) ≡ type_of p f.locals e
  types_same f e = sym (type_linked (in_program q 0 0 (func_renamed r f)) (expr_renamed r e)) ∙ (by_numbers 0 0 f e).ctype ∙ type_linked (in_program p 0 0 f) e

  pub effects_same : (f : Func) (e : Expr) → effects_of (func_renamed r f) (expr_renamed r e) ≡ effects_of f e
  effects_same f e = sym (effects_linked (in_program q 0 0 (func_renamed r f)) (expr_renamed r e)) ∙ (by_numbers 0 0 f e).effects ∙ effects_linked (in_program p 0 0 f) e

  pub place_effects_same : (f : Func) (a : Place) → place_effects_of (func_renamed r f) (place_renamed r a) ≡ place_effects_of f a
  place_effects_same f a =
      sym (place_effects_linked (in_program q 0 0 (func_renamed r f)) (place_renamed r a))
      ∙ (designation_same r objects q.funcs p renamed (funcs_alike r objects p renamed) 0 0 (func_renamed r f) f (record { sig = refl; entry = refl; locals = refl }) (λ i. register_same r i f) a).effects
      ∙ place_effects_linked (in_program p 0 0 f) a

  -- ---- in the program with these objects and the old text

  itself : (f : Option Func) → AreAlike f f
  itself None = tt
  itself (Some f) = record { sig = refl; entry = refl; locals = refl }

  abbrev pub with_these : Program
  with_these = record { target = p.target; roles = p.roles; structures = p.structures; devices = p.devices; objects = objects; funcs = p.funcs; main = p.main }

  pub does_there : (number id : ℕ) (f : Func) (e : Expr) (later : Registers) (ms : List Mark) →
      (meaning (in_program with_these number id f) (expr_renamed r e)).next later (marks_renamed r ms) ≡ progress_renamed r (may_renamed r) ((meaning (in_program p number id f) e).next later ms)
  does_there number id f e later ms =
      (meaning_same r objects p.funcs p renamed (λ i. itself (slice_get p.funcs i)) number id f f (record { sig = refl; entry = refl; locals = refl }) (λ i. refl) e).next later later refl ms
