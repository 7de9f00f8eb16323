-- What expressions and places mean, opened at their tops: by one level, and by kinds.
use Rattle.std.proofs.Common.{◌≡◌, ℕ, ℤ, Bool, List, Option, Some, None, option_map, ap, sym, ◌∙◌}
use Rattle.cc_program.specs.CcNum.declared.int_type.IntType.{IntType}
use Rattle.cc_program.specs.CcNum.declared.op.BinOp.{BinOp}
use Rattle.cc_program.specs.CcNum.declared.op.UnOp.{UnOp}
use Rattle.cc_program.specs.declared.expr.Expr.{Expr, out-Expr, roll-Expr, roll-out-Expr, Const, Null, FuncAddr, Load, AddrOf, Un, Bin, Conv, Qualify, Move, Gap, Compare, Both, Either, Choose, Assign, Change, After, Call, Intr, Seq}
use Rattle.cc_program.specs.declared.expr.Expr.TheVariants.{rolls-Const, rolls-Null, rolls-FuncAddr, rolls-Load, rolls-AddrOf, rolls-Un, rolls-Bin, rolls-Conv, rolls-Qualify, rolls-Move, rolls-Gap, rolls-Compare, rolls-Both, rolls-Either, rolls-Choose, rolls-Assign, rolls-Change, rolls-After, rolls-Call, rolls-Intr, rolls-Seq}
use Rattle.cc_program.specs.declared.expr.Expr.TheOpen as one
use Rattle.cc_program.specs.declared.expr.Intr.{Intr as IntrKind}
use Rattle.cc_program.specs.declared.expr.Place.{Place, out-Place, roll-Place, roll-out-Place, Local, Static, Device, Element, Member, Deref}
use Rattle.cc_program.specs.declared.expr.Place.TheVariants.{rolls-Local, rolls-Static, rolls-Device, rolls-Element, rolls-Member, rolls-Deref}
use Rattle.cc_program.specs.declared.types.CType.{CType}
use Rattle.cc_syntax.specs.Effects.{Registers}
use Rattle.cc_eval.specs.Context.{Context}
use Rattle.cc_eval.specs.Eval.{Meaning, meaning, designation, opened, place_opened, both, either, chosen_arm, intrinsic}
use Rattle.cc_eval.proofs.Links.{level, place_level}

module _ (c : Context) where
  pub opened_as : (e : Expr) (x : one.Expr-F Expr Place) → e ≡ roll-Expr x → meaning c e ≡ opened c x
  opened_as e x h = ap (meaning c) h ∙ level c x

  pub place_opened_as : (a : Place) (x : one.Place-F Expr Place) → a ≡ roll-Place x → designation c a ≡ place_opened c x
  place_opened_as a x h = ap (designation c) h ∙ place_level c x

  pub meaning_at : (e : Expr) (x : one.Expr-F Expr Place) → out-Expr e ≡ x → meaning c e ≡ opened c x
  meaning_at e x h = opened_as e x (sym (roll-out-Expr e) ∙ ap roll-Expr h)

  pub designation_at : (a : Place) (x : one.Place-F Expr Place) → out-Place a ≡ x → designation c a ≡ place_opened c x
  designation_at a x h = place_opened_as a x (sym (roll-out-Place a) ∙ ap roll-Place h)

  -- ---- by kinds

  pub at-Const : (n : ℤ) (t : IntType) → meaning c (Const n t) ≡ opened c (one.Const n t)
  at-Const n t = opened_as (Const n t) (one.Const n t) (sym (rolls-Const n t))

  pub at-Null : (t : CType) → meaning c (Null t) ≡ opened c (one.Null t)
  at-Null t = opened_as (Null t) (one.Null t) (sym (rolls-Null t))

  pub at-FuncAddr : (f : ℕ) → meaning c (FuncAddr f) ≡ opened c (one.FuncAddr f)
  at-FuncAddr f = opened_as (FuncAddr f) (one.FuncAddr f) (sym (rolls-FuncAddr f))

  pub at-Load : (a : Place) → meaning c (Load a) ≡ opened c (one.Load a)
  at-Load a = opened_as (Load a) (one.Load a) (sym (rolls-Load a))

  pub at-AddrOf : (a : Place) → meaning c (AddrOf a) ≡ opened c (one.AddrOf a)
  at-AddrOf a = opened_as (AddrOf a) (one.AddrOf a) (sym (rolls-AddrOf a))

  pub at-Un : (o : UnOp) (t : IntType) (a : Expr) → meaning c (Un o t a) ≡ opened c (one.Un o t a)
  at-Un o t a = opened_as (Un o t a) (one.Un o t a) (sym (rolls-Un o t a))

  pub at-Bin : (o : BinOp) (t : IntType) (a b : Expr) → meaning c (Bin o t a b) ≡ opened c (one.Bin o t a b)
  at-Bin o t a b = opened_as (Bin o t a b) (one.Bin o t a b) (sym (rolls-Bin o t a b))

  pub at-Conv : (t : IntType) (a : Expr) → meaning c (Conv t a) ≡ opened c (one.Conv t a)
  at-Conv t a = opened_as (Conv t a) (one.Conv t a) (sym (rolls-Conv t a))

  pub at-Qualify : (t : CType) (a : Expr) → meaning c (Qualify t a) ≡ opened c (one.Qualify t a)
  at-Qualify t a = opened_as (Qualify t a) (one.Qualify t a) (sym (rolls-Qualify t a))

  pub at-Move : (a b : Expr) (back : Bool) → meaning c (Move a b back) ≡ opened c (one.Move a b back)
  at-Move a b back = opened_as (Move a b back) (one.Move a b back) (sym (rolls-Move a b back))

  pub at-Gap : (a b : Expr) → meaning c (Gap a b) ≡ opened c (one.Gap a b)
  at-Gap a b = opened_as (Gap a b) (one.Gap a b) (sym (rolls-Gap a b))

  pub at-Compare : (o : BinOp) (a b : Expr) → meaning c (Compare o a b) ≡ opened c (one.Compare o a b)
  at-Compare o a b = opened_as (Compare o a b) (one.Compare o a b) (sym (rolls-Compare o a b))

  pub at-Both : (a b : Expr) → meaning c (Both a b) ≡ opened c (one.Both a b)
  at-Both a b = opened_as (Both a b) (one.Both a b) (sym (rolls-Both a b))

  pub at-Either : (a b : Expr) → meaning c (Either a b) ≡ opened c (one.Either a b)
  at-Either a b = opened_as (Either a b) (one.Either a b) (sym (rolls-Either a b))

  pub at-Choose : (d a b : Expr) → meaning c (Choose d a b) ≡ opened c (one.Choose d a b)
  at-Choose d a b = opened_as (Choose d a b) (one.Choose d a b) (sym (rolls-Choose d a b))

  pub at-Assign : (a : Place) (e : Expr) → meaning c (Assign a e) ≡ opened c (one.Assign a e)
  at-Assign a e = opened_as (Assign a e) (one.Assign a e) (sym (rolls-Assign a e))

  pub at-Change : (a : Place) (o : BinOp) (t : IntType) (e : Expr) → meaning c (Change a o t e) ≡ opened c (one.Change a o t e)
  at-Change a o t e = opened_as (Change a o t e) (one.Change a o t e) (sym (rolls-Change a o t e))

  pub at-After : (a : Place) (down : Bool) → meaning c (After a down) ≡ opened c (one.After a down)
  at-After a down = opened_as (After a down) (one.After a down) (sym (rolls-After a down))

  pub at-Call : (f : Expr) (args : List Expr) → meaning c (Call f args) ≡ opened c (one.Call f args)
  at-Call f args = opened_as (Call f args) (one.Call f args) (sym (rolls-Call f args))

  pub at-Intr : (i : IntrKind) (a : Option Expr) → meaning c (Intr i a) ≡ opened c (one.Intr i a)
  at-Intr i a = opened_as (Intr i a) (one.Intr i a) (sym (rolls-Intr i a))

  pub at-Seq : (a b : Expr) → meaning c (Seq a b) ≡ opened c (one.Seq a b)
  at-Seq a b = opened_as (Seq a b) (one.Seq a b) (sym (rolls-Seq a b))

  pub at-Local : (r : ℕ) → designation c (Local r) ≡ place_opened c (one.Local r)
  at-Local r = place_opened_as (Local r) (one.Local r) (sym (rolls-Local r))

  pub at-Static : (i : ℕ) → designation c (Static i) ≡ place_opened c (one.Static i)
  at-Static i = place_opened_as (Static i) (one.Static i) (sym (rolls-Static i))

  pub at-Device : (d : ℕ) → designation c (Device d) ≡ place_opened c (one.Device d)
  at-Device d = place_opened_as (Device d) (one.Device d) (sym (rolls-Device d))

  pub at-Element : (a : Place) (i : Expr) → designation c (Element a i) ≡ place_opened c (one.Element a i)
  at-Element a i = place_opened_as (Element a i) (one.Element a i) (sym (rolls-Element a i))

  pub at-Member : (a : Place) (m : ℕ) → designation c (Member a m) ≡ place_opened c (one.Member a m)
  at-Member a m = place_opened_as (Member a m) (one.Member a m) (sym (rolls-Member a m))

  pub at-Deref : (e : Expr) → designation c (Deref e) ≡ place_opened c (one.Deref e)
  at-Deref e = place_opened_as (Deref e) (one.Deref e) (sym (rolls-Deref e))

  -- ---- by whether the whole is pure

  pub next-Both : (a b : Expr) (later : Registers) → (meaning c (Both a b)).next later ≡ both ((meaning c (Both a b)).effects.pure later) (meaning c a) (meaning c b) later
  next-Both a b later = ap (λ (m : Meaning). m.next later) (at-Both a b) ∙ ap (λ (m : Meaning). both (m.effects.pure later) (meaning c a) (meaning c b) later) (sym (at-Both a b))

  pub next-Either : (a b : Expr) (later : Registers) → (meaning c (Either a b)).next later ≡ either ((meaning c (Either a b)).effects.pure later) (meaning c a) (meaning c b) later
  next-Either a b later = ap (λ (m : Meaning). m.next later) (at-Either a b) ∙ ap (λ (m : Meaning). either (m.effects.pure later) (meaning c a) (meaning c b) later) (sym (at-Either a b))

  pub next-Choose : (d a b : Expr) (later : Registers) →
      (meaning c (Choose d a b)).next later ≡ chosen_arm ((meaning c (Choose d a b)).effects.pure later) (meaning c d) (meaning c a) (meaning c b) later
  next-Choose d a b later =
      ap (λ (m : Meaning). m.next later) (at-Choose d a b) ∙ ap (λ (m : Meaning). chosen_arm (m.effects.pure later) (meaning c d) (meaning c a) (meaning c b) later) (sym (at-Choose d a b))

  -- ---- by whether it has an operand

  pub next-Intr : (i : IntrKind) (a : Option Expr) (later : Registers) → (meaning c (Intr i a)).next later ≡ intrinsic i (option_map (meaning c) a) later
  next-Intr i None later = ap (λ (m : Meaning). m.next later) (at-Intr i None)
  next-Intr i (Some a) later = ap (λ (m : Meaning). m.next later) (at-Intr i (Some a))
