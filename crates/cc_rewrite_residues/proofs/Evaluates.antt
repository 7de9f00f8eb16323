-- What expressions do next that read and write registers and static objects which are not volatile.
use Rattle.std.proofs.Common.{◌≡◌, ℕ, zero, suc, ℤ, pos, Bool, false, List, [], ◌∷◌, Option, Some, None, slice_get, refl, ap, sym, ◌∙◌}
use Rattle.cc_program.specs.CcNum.declared.int_type.IntType.{IntType}
use Rattle.cc_program.specs.CcNum.declared.int_type.IntType.TheVariants as int
use Rattle.cc_program.specs.CcNum.declared.op.BinOp.{BinOp}
use Rattle.cc_program.specs.CcNum.declared.op.BinOp.TheVariants as op
use Rattle.cc_program.specs.declared.expr.Expr.{Expr, Const, Load, Bin, Conv, Assign, Intr}
use Rattle.cc_program.specs.declared.expr.Expr.TheVariants.{rolls-Const, rolls-Load, rolls-Bin, rolls-Conv, rolls-Assign, rolls-Intr}
use Rattle.cc_program.specs.declared.expr.Expr.TheOpen as one
use Rattle.cc_program.specs.declared.expr.Intr.TheVariants as intr
use Rattle.cc_program.specs.declared.expr.Place.{Place, Local, Static}
use Rattle.cc_program.specs.declared.expr.Place.TheVariants.{rolls-Local, rolls-Static}
use Rattle.cc_program.specs.declared.object.Object.{Object}
use Rattle.cc_program.specs.declared.value.Cell.{Cell}
use Rattle.cc_program.specs.declared.value.Cell.TheVariants as cell
use Rattle.cc_program.specs.declared.value.Root.TheVariants as root
use Rattle.cc_program.specs.declared.value.Value.{Value}
use Rattle.cc_program.specs.declared.value.Value.TheVariants.{Int}
use Rattle.cc_program.specs.Qualifiers.{is_volatile}
use Rattle.cc_steps.specs.CcSyntax.Effects.{Registers, no_one, also, is_soft}
use Rattle.cc_steps.specs.CcSyntax.Types.{Named}
use Rattle.cc_steps.specs.CcEval.declared.action.Action.{Action}
use Rattle.cc_steps.specs.CcEval.declared.action.Action.TheVariants.{Read, Write, Flag, Save}
use Rattle.cc_steps.specs.CcEval.declared.mark.Mark.{Mark}
use Rattle.cc_steps.specs.CcEval.declared.mark.Mark.TheVariants.{Did}
use Rattle.cc_steps.specs.CcEval.declared.spots.Spot.{Spot}
use Rattle.cc_steps.specs.CcEval.declared.spots.Spot.TheVariants as spot
use Rattle.cc_steps.specs.CcEval.Context.{Context}
use Rattle.cc_steps.specs.CcEval.Eval.{Meaning, Designation, expr_meaning, place_meaning, meaning, designation, next_of, stored, assigned}
use Rattle.cc_steps.specs.CcEval.Progress.{Progress, Known, Waits, Traps, Get, ask, needs, and_then, known, given}
use Rattle.cc_steps.proofs.CcEval.Links.{level, place_level}
use Rattle.cc_steps.specs.CcValues.Values.{binary, conversion, truth}
use Rattle.cc_rewrite_residues.proofs.DoSteps.{quiet}

-- a local, and a static object, that are not volatile
pub record IsPlain (c : Context) (r : ℕ) : Type 0 where
  pub named : Named
  pub there : slice_get c.func.locals r ≡ Some named
  pub plain : is_volatile named.1 ≡ false

pub record IsPlainStatic (c : Context) (i : ℕ) : Type 0 where
  pub object : Object
  pub there : slice_get c.program.objects i ≡ Some object
  pub plain : is_volatile object.ctype ≡ false

pub then_bind : {A B C : Type 0} (q : Progress A) (f : A → B) (g : B → Get C) → and_then (and_then q (λ a. known (f a))) g ≡ and_then q (λ a. g (f a))
then_bind (Known a ms) f g = refl
then_bind (Waits action) f g = refl
then_bind (Traps ms) f g = refl

module _ (c : Context) where
  -- ---- a level of each form

  pub at-Load : (a : Place) → meaning c (Load a) ≡ expr_meaning c (one.Load (designation c a))
  at-Load a = ap (meaning c) (sym (rolls-Load a)) ∙ level c (one.Load a)

  pub at-Const : (n : ℤ) (t : IntType) → meaning c (Const n t) ≡ expr_meaning c (one.Const n t)
  at-Const n t = ap (meaning c) (sym (rolls-Const n t)) ∙ level c (one.Const n t)

  pub at-Conv : (t : IntType) (e : Expr) → meaning c (Conv t e) ≡ expr_meaning c (one.Conv t (meaning c e))
  at-Conv t e = ap (meaning c) (sym (rolls-Conv t e)) ∙ level c (one.Conv t e)

  pub at-Bin : (o : BinOp) (t : IntType) (a b : Expr) → meaning c (Bin o t a b) ≡ expr_meaning c (one.Bin o t (meaning c a) (meaning c b))
  at-Bin o t a b = ap (meaning c) (sym (rolls-Bin o t a b)) ∙ level c (one.Bin o t a b)

  pub at-Assign : (a : Place) (e : Expr) → meaning c (Assign a e) ≡ expr_meaning c (one.Assign (designation c a) (meaning c e))
  at-Assign a e = ap (meaning c) (sym (rolls-Assign a e)) ∙ level c (one.Assign a e)

  pub at-Save : meaning c (Intr intr.Save None) ≡ expr_meaning c (one.Intr intr.Save None)
  at-Save = ap (meaning c) (sym (rolls-Intr intr.Save None)) ∙ level c (one.Intr intr.Save None)

  pub at-Restore : (e : Expr) → meaning c (Intr intr.Restore (Some e)) ≡ expr_meaning c (one.Intr intr.Restore (Some (meaning c e)))
  at-Restore e = ap (meaning c) (sym (rolls-Intr intr.Restore (Some e))) ∙ level c (one.Intr intr.Restore (Some e))

  pub at-Local : (r : ℕ) → designation c (Local r) ≡ place_meaning c (one.Local r)
  at-Local r = ap (designation c) (sym (rolls-Local r)) ∙ place_level c (one.Local r)

  pub at-Static : (i : ℕ) → designation c (Static i) ≡ place_meaning c (one.Static i)
  at-Static i = ap (designation c) (sym (rolls-Static i)) ∙ place_level c (one.Static i)

  -- ---- registers and static objects

  abbrev pub own : ℕ → Cell
  own r = cell.At (root.Auto c.number c.id r) []

  abbrev pub global : ℕ → Cell
  global i = cell.At (root.Static i) []

  -- whether a register may give a bad value
  abbrev pub soft : ℕ → Registers → Bool
  soft r later = is_soft (designation c (Local r)).effects.register later

  pub next-register : (r : ℕ) → IsPlain c r → (later : Registers) (ms : List Mark) → (meaning c (Load (Local r))).next later ms ≡ ask (Read (own r) (quiet (soft r later))) given ms
  next-register r h later ms = rw (at-Load (Local r), at-Local r, h.there, h.plain) refl

  pub next-global : (i : ℕ) → IsPlainStatic c i → (later : Registers) (ms : List Mark) → (meaning c (Load (Static i))).next later ms ≡ ask (Read (global i) (quiet false)) given ms
  next-global i h later ms = rw (at-Load (Static i), at-Static i, h.there, h.plain) refl

  -- the write of what a step gave
  abbrev pub writing : Cell → Option Value → Get (Option Value)
  writing to v = needs v (λ x. ask (Write to false x) (λ m. v))

  pub next-own : (r : ℕ) (e : Expr) → IsPlain c r → (later : Registers) (ms : List Mark) →
      (meaning c (Assign (Local r) e)).next later ms ≡ and_then ((meaning c e).next later ms) (writing (own r))
  next-own r e h later ms =
      let q = (meaning c e).next later ms in
      let there : Option Spot = Some (spot.Object (root.Auto c.number c.id r) []) in
      let a : (meaning c (Assign (Local r) e)).next later ms ≡ and_then (and_then q (λ v. known (there, v))) (λ p. stored c (place_meaning c (one.Local r)) p.0 p.1 p.1) =
      ap (λ (m : Meaning). m.next later ms) (at-Assign (Local r) e) ∙ ap (λ (d : Designation). assigned c d (meaning c e) later ms) (at-Local r) in
      let b : and_then q (λ v. stored c (place_meaning c (one.Local r)) there v v) ≡ and_then q (writing (own r)) = rw (h.there, h.plain) refl in
      a ∙ then_bind q (λ v. (there, v)) (λ p. stored c (place_meaning c (one.Local r)) p.0 p.1 p.1) ∙ b

  pub next-static : (i : ℕ) (e : Expr) → IsPlainStatic c i → (later : Registers) (ms : List Mark) →
      (meaning c (Assign (Static i) e)).next later ms ≡ and_then ((meaning c e).next later ms) (writing (global i))
  next-static i e h later ms =
      let q = (meaning c e).next later ms in
      let there : Option Spot = Some (spot.Object (root.Static i) []) in
      let a : (meaning c (Assign (Static i) e)).next later ms ≡ and_then (and_then q (λ v. known (there, v))) (λ p. stored c (place_meaning c (one.Static i)) p.0 p.1 p.1) =
      ap (λ (m : Meaning). m.next later ms) (at-Assign (Static i) e) ∙ ap (λ (d : Designation). assigned c d (meaning c e) later ms) (at-Static i) in
      let b : and_then q (λ v. stored c (place_meaning c (one.Static i)) there v v) ≡ and_then q (writing (global i)) = rw (h.there, h.plain) refl in
      a ∙ then_bind q (λ v. (there, v)) (λ p. stored c (place_meaning c (one.Static i)) p.0 p.1 p.1) ∙ b

  -- ---- guards, and words that are read

  pub next-saving : (g : ℕ) → IsPlain c g → (ms : List Mark) → next_of c (Assign (Local g) (Intr intr.Save None)) ms ≡ and_then (ask Save given ms) (writing (own g))
  next-saving g h ms = next-own g (Intr intr.Save None) h no_one ms ∙ rw at-Save refl

  abbrev pub flagging : Option Value → Get (Option Value)
  flagging v = needs (truth v) (λ b. ask (Flag b) given)

  pub next-restoring : (g : ℕ) → IsPlain c g → (ms : List Mark) →
      next_of c (Intr intr.Restore (Some (Load (Local g)))) ms ≡ and_then (ask (Read (own g) (quiet (soft g no_one))) given ms) flagging
  next-restoring g h ms = ap (λ (m : Meaning). m.next no_one ms) (at-Restore (Load (Local g))) ∙ ap (λ q. and_then q flagging) (next-register g h no_one ms)

  pub next-loading : (t w : ℕ) → IsPlain c t → IsPlainStatic c w → (ms : List Mark) →
      next_of c (Assign (Local t) (Load (Static w))) ms ≡ and_then (ask (Read (global w) (quiet false)) given ms) (writing (own t))
  next-loading t w h k ms = next-own t (Load (Static w)) h no_one ms ∙ ap (λ q. and_then q (writing (own t))) (next-global w k no_one ms)
