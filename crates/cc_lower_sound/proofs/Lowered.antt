-- All that lowering makes of an expression is as it should be, in three modes.
use Rattle.std.proofs.Common.{◌≡◌, Bool, true, false, Some, None, refl, ap, sym, ◌∙◌, subst}
use Rattle.cc_program.specs.declared.expr.Expr.{Expr, roll-Expr}
use Rattle.cc_program.specs.declared.expr.Expr.TheOpen as one
use Rattle.cc_program.specs.declared.expr.Place.{Place, roll-Place}
use Rattle.cc_program.specs.declared.func.Func.{Func}
use Rattle.cc_program.specs.declared.program.Program.{Program}
use Rattle.cc_program.proofs.ExprInduction.{Parts, PlaceParts, by_expr}
use Rattle.cc_eval.specs.CcSyntax.Effects.{no_one, Effects}
use Rattle.cc_eval.specs.CcSyntax.Values.{ValueType, PlaceType}
use Rattle.cc_lower_sound.proofs.Levels.{type_at, place_at, type-roll, place-roll}
use Rattle.cc_lower_sound.proofs.LoweringParts.{low, low-at, place-low-at}
use Rattle.cc_lower_sound.proofs.Readings.{Reading, Laws, view, typed, placed, IsLowered, IsLoweredPlace}
use Rattle.cc_lower_sound.proofs.LoweredOperands.{effects-roll, Claim, PlaceClaim, At, leaf, at-Null, at-Un, at-Bin, at-Conv, at-Qualify, at-Move, at-Gap, at-Compare, at-AddrOf}
use Rattle.cc_lower_sound.proofs.LoweredPlaces.{AtPlace, at-Local, at-Static, at-Device, at-Element, at-Member, at-Deref, at-Load}
use Rattle.cc_lower_sound.proofs.LoweredAssignments.{at-Assign, at-Change, at-After}
use Rattle.cc_lower_sound.proofs.LoweredBranches.{at-Both, at-Either, at-Choose, at-Seq}
use Rattle.cc_lower_sound.proofs.LoweredCalls.{at-Call, at-Intr, at-Restore}
use Rattle.cc_lower_sound.proofs.Scalars.{constant_scalar, null_scalar, function_scalar}

-- the types of nulls, and of what is theirs behind a comma, are not declared
abbrev pub is_declared : one.Expr-F Expr Place → Bool
is_declared (one.Const n t) = true
is_declared (one.Null t) = false
is_declared (one.FuncAddr f) = true
is_declared (one.Load a) = true
is_declared (one.AddrOf a) = true
is_declared (one.Un o t a) = true
is_declared (one.Bin o t a b) = true
is_declared (one.Conv t a) = true
is_declared (one.Qualify t a) = true
is_declared (one.Move a b back) = true
is_declared (one.Gap a b) = true
is_declared (one.Compare o a b) = true
is_declared (one.Both a b) = true
is_declared (one.Either a b) = true
is_declared (one.Choose c a b) = true
is_declared (one.Assign a e) = true
is_declared (one.Change a o t e) = true
is_declared (one.After a down) = true
is_declared (one.Call f args) = true
is_declared (one.Intr i a) = true
is_declared (one.Seq a b) = false

module _ (p : Program) (f : Func) (w : Reading) (laws : Laws p f w) (standing : (e : Expr) (t : ValueType) → typed p f e ≡ Some t → w.stands t ≡ true)
    (declared : (x : one.Expr-F Expr Place) (t : ValueType) → is_declared x ≡ true → typed p f (roll-Expr x) ≡ Some t → w.declares t ≡ true) where
  abbrev P : Expr → Type 0
  P e = Claim p f w laws e

  abbrev Q : Place → Type 0
  Q a = PlaceClaim p f w laws a

  at : (x : one.Expr-F Expr Place) (t : ValueType) → Parts P Q x → Parts w.Old w.OldPlace x → w.Old (roll-Expr x) → typed p f (roll-Expr x) ≡ Some t → type_at (view p f) f.locals x ≡ Some t → At p f w laws t (roll-Expr x) x
  at (one.Const n i) t c o e h k = leaf p f w laws t (roll-Expr (one.Const n i)) no_one (declared (one.Const n i) t refl h) h (constant_scalar p.target n i t k) e (ap (λ (z : Effects). z.pure no_one) (effects-roll p f (one.Const n i)))
  at (one.Null i) t c o e h k = at-Null p f w laws i t h (null_scalar (view p f) i t k) e
  at (one.FuncAddr g) t c o e h k = leaf p f w laws t (roll-Expr (one.FuncAddr g)) no_one (declared (one.FuncAddr g) t refl h) h (function_scalar p g t k) e (ap (λ (z : Effects). z.pure no_one) (effects-roll p f (one.FuncAddr g)))
  at (one.Load a) t c o e h k = at-Load p f w laws a t (roll-Expr (one.Load a)) c o (declared (one.Load a) t refl h) k
  at (one.AddrOf a) t c o e h k = at-AddrOf p f w laws a t (roll-Expr (one.AddrOf a)) c o h e (declared (one.AddrOf a) t refl h) k
  at (one.Un op i a) t c o e h k = at-Un p f w laws op i a t (roll-Expr (one.Un op i a)) c o (declared (one.Un op i a) t refl h) k
  at (one.Bin op i a b) t c o e h k = at-Bin p f w laws op i a b t (roll-Expr (one.Bin op i a b)) c.0 c.1 o.0 o.1 (declared (one.Bin op i a b) t refl h) k
  at (one.Conv i a) t c o e h k = at-Conv p f w laws i a t (roll-Expr (one.Conv i a)) c o (declared (one.Conv i a) t refl h) k
  at (one.Qualify i a) t c o e h k = at-Qualify p f w laws i a t (roll-Expr (one.Qualify i a)) c o (declared (one.Qualify i a) t refl h) k
  at (one.Move a b back) t c o e h k = at-Move p f w laws a b back t (roll-Expr (one.Move a b back)) c.0 c.1 o.0 o.1 (declared (one.Move a b back) t refl h) k
  at (one.Gap a b) t c o e h k = at-Gap p f w laws a b t (roll-Expr (one.Gap a b)) c.0 c.1 o.0 o.1 (declared (one.Gap a b) t refl h) k
  at (one.Compare op a b) t c o e h k = at-Compare p f w laws op a b t (roll-Expr (one.Compare op a b)) c.0 c.1 o.0 o.1 (declared (one.Compare op a b) t refl h) k
  at (one.Both a b) t c o e h k = at-Both p f w laws standing a b t (roll-Expr (one.Both a b)) c.0 c.1 o.0 o.1 e (declared (one.Both a b) t refl h) h k
  at (one.Either a b) t c o e h k = at-Either p f w laws standing a b t (roll-Expr (one.Either a b)) c.0 c.1 o.0 o.1 e (declared (one.Either a b) t refl h) h k
  at (one.Choose d a b) t c o e h k = at-Choose p f w laws standing d a b t (roll-Expr (one.Choose d a b)) c.0 c.1 c.2 o.0 o.1 o.2 e (declared (one.Choose d a b) t refl h) h k
  at (one.Assign a b) t c o e h k = at-Assign p f w laws a b t (roll-Expr (one.Assign a b)) c.0 c.1 o.0 o.1 (declared (one.Assign a b) t refl h) k
  at (one.Change a op i b) t c o e h k = at-Change p f w laws a op i b t (roll-Expr (one.Change a op i b)) c.0 c.1 o.0 o.1 (declared (one.Change a op i b) t refl h) k
  at (one.After a down) t c o e h k = at-After p f w laws a down t (roll-Expr (one.After a down)) c o (declared (one.After a down) t refl h) k
  at (one.Call g args) t c o e h k = at-Call p f w laws standing g args t (roll-Expr (one.Call g args)) c.0 c.1 o.0 o.1 (declared (one.Call g args) t refl h) k
  at (one.Intr i None) t c o e h k = at-Intr p f w laws standing i t (roll-Expr (one.Intr i None)) (declared (one.Intr i None) t refl h) k
  at (one.Intr i (Some a)) t c o e h k = at-Restore p f w laws standing i a t (roll-Expr (one.Intr i (Some a))) c o (declared (one.Intr i (Some a)) t refl h) k
  at (one.Seq a b) t c o e h k = at-Seq p f w laws standing a b t (roll-Expr (one.Seq a b)) c.0 c.1 o.0 o.1 k

  at_place : (x : one.Place-F Expr Place) (t : PlaceType) → PlaceParts P Q x → PlaceParts w.Old w.OldPlace x → w.OldPlace (roll-Place x) → placed p f (roll-Place x) ≡ Some t → place_at (view p f) f.locals x ≡ Some t → AtPlace p f w laws t x
  at_place (one.Local s) t c o e h k = at-Local p f w laws s t h e
  at_place (one.Static i) t c o e h k = at-Static p f w laws i t h e
  at_place (one.Device i) t c o e h k = at-Device p f w laws i t h e
  at_place (one.Element a i) t c o e h k = at-Element p f w laws a i t c.0 c.1 o.0 o.1 k
  at_place (one.Member a m) t c o e h k = at-Member p f w laws a m t c o k
  at_place (one.Deref a) t c o e h k = at-Deref p f w laws a t c o k

  level : (x : one.Expr-F Expr Place) → Parts P Q x → P (roll-Expr x)
  level x c t h o =
      subst (IsLowered p f w t) (sym (low-at p f x (Some t) h)) (at x t c (laws.parts x o) o h (sym (type-roll (view p f) f.locals x) ∙ h))

  place_level : (x : one.Place-F Expr Place) → PlaceParts P Q x → Q (roll-Place x)
  place_level x c t h o =
      subst (IsLoweredPlace p f w t) (sym (place-low-at p f x (Some t) h)) (at_place x t c (laws.place_parts x o) o h (sym (place-roll (view p f) f.locals x) ∙ h))

  pub lowered : (e : Expr) (t : ValueType) → typed p f e ≡ Some t → w.Old e → IsLowered p f w t (low p f e)
  lowered e = by_expr P Q level place_level e
