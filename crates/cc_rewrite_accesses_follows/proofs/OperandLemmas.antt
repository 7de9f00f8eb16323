-- Operands, form by form: what each asks for comes in turn, and behind all of it stands its value.
use Rattle.std.proofs.Common.{◌≡◌, ◌||◌, ℕ, ℤ, Bool, true, false, List, [], ◌∷◌, ◌++◌, Option, Some, None, append_assoc, append-nil, refl, ap, sym, ◌∙◌, subst}
use Rattle.cc_program.specs.CcNum.declared.int_type.IntType.{IntType}
use Rattle.cc_program.specs.CcNum.declared.op.BinOp.{BinOp}
use Rattle.cc_program.specs.declared.expr.Expr.{Expr, Const, Load, Bin, Conv, Compare, Assign}
use Rattle.cc_program.specs.declared.expr.Expr.TheOpen as one
use Rattle.cc_program.specs.declared.expr.Expr.TheVariants.{rolls-Compare}
use Rattle.cc_program.specs.declared.expr.Place.{Place, Local, Static}
use Rattle.cc_program.specs.declared.value.Cell.{Cell}
use Rattle.cc_program.specs.declared.value.Value.{Value}
use Rattle.cc_program.specs.declared.value.Value.TheVariants.{Int}
use Rattle.cc_rewrite_accesses_follows.specs.Asked.{Asked, Register, mark_of, unseen, register_cell, static_cell, Asks, IsWriting, IsTrapping, Writes, Fails, Copies, IsPlain, IsPlainStatic}
use Rattle.cc_rewrite_accesses_follows.specs.Evaluates.{HasValue, written_to, Evaluates, IsCell}
use Rattle.cc_rewrite_residues.proofs.Evaluates.{then_bind, at-Load, at-Const, at-Conv, at-Bin, at-Local, soft, next-register, next-global, next-own, next-static}
use Rattle.cc_rewrite_residues.proofs.Evaluates as evaluates
use Rattle.cc_steps.proofs.CcEval.Links.{level}
use Rattle.cc_steps.specs.CcEval.Context.{Context}
use Rattle.cc_steps.specs.CcEval.Eval.{Meaning, meaning, expr_meaning, from_two, next_of}
use Rattle.cc_steps.specs.CcEval.Progress.{Progress, Known, Waits, Traps, Get, ask, and_then, known, given}
use Rattle.cc_steps.specs.CcEval.declared.action.Action.TheVariants.{Read}
use Rattle.cc_steps.specs.CcEval.declared.mark.Mark.{Mark}
use Rattle.cc_steps.specs.CcEval.declared.mark.Mark.TheVariants.{Gave, Did}
use Rattle.cc_steps.specs.CcSyntax.Effects.{Registers, no_one, also}
use Rattle.cc_steps.specs.CcSyntax.Registers.{is_register}
use Rattle.cc_steps.specs.CcValues.Values.{binary, comparison, conversion}
use Rattle.cc_steps.specs.Step.{is_known}

-- ---- one behind another

then-then : {A B C : Type 0} (q : Progress A) (g : A → Get B) (h : B → Get C) → and_then (and_then q g) h ≡ and_then q (λ a ms. and_then (g a ms) h)
then-then (Known a ms) g h = refl
then-then (Waits action) g h = refl
then-then (Traps ms) g h = refl

module _ (c : Context) {A B : Type 0} (first : Get A) (next : Get B) (k : A → Get B) (v : A) (Then : List Mark → Type 0) where
  -- what the first asks for, and then what is known behind it
  pub asks-end : ((ms : List Mark) → next ms ≡ and_then (first ms) k) → ((all : List Mark) → HasValue first v all → Then all) → (asked : List Asked) (ms : List Mark) → Asks c first (HasValue first v) ms asked → Asks c next Then ms asked
  asks-end by end [] ms h = end ms h
  asks-end by end (a ∷ asked) ms h = (h.0, by ms ∙ ap (λ (q : Progress A). and_then q k) h.1, h.2, asks-end by end asked (ms ++ mark_of a ∷ []) h.3)

  -- and then more
  pub asks-then : (others : List Asked) → ((ms : List Mark) → next ms ≡ and_then (first ms) k) → ((all : List Mark) → HasValue first v all → Asks c next Then all others) → (asked : List Asked) (ms : List Mark) →
      Asks c first (HasValue first v) ms asked → Asks c next Then ms (asked ++ others)
  asks-then others by end [] ms h = end ms h
  asks-then others by end (a ∷ asked) ms h = (h.0, by ms ∙ ap (λ (q : Progress A). and_then q k) h.1, h.2, asks-then others by end asked (ms ++ mark_of a ∷ []) h.3)

  -- behind marks of another
  pub asks-behind : (front : List Mark) → ((more : List Mark) → next (front ++ more) ≡ and_then (first more) k) → ((ms : List Mark) → HasValue first v ms → Then (front ++ ms)) → (asked : List Asked) (ms : List Mark) →
      Asks c first (HasValue first v) ms asked → Asks c next Then (front ++ ms) asked
  asks-behind front by end [] ms h = end ms h
  asks-behind front by end (a ∷ asked) ms h = (
    h.0,
    by ms ∙ ap (λ (q : Progress A). and_then q k) h.1,
    h.2,
    subst (λ (x : List Mark). Asks c next Then x asked) (sym (append_assoc front ms (mark_of a ∷ []))) (asks-behind front by end asked (ms ++ mark_of a ∷ []) h.3),
  )

module _ (c : Context) where
  plain-of : (r : ℕ) → IsPlain c r → evaluates.IsPlain c r
  plain-of r h = record { named = h.named; there = h.there; plain = h.plain }

  plain-static-of : (i : ℕ) → IsPlainStatic c i → evaluates.IsPlainStatic c i
  plain-static-of i h = record { object = h.object; there = h.there; plain = h.plain }

  -- ---- registers and constants

  assigns-none : (r i : ℕ) → (meaning c (Load (Local r))).effects.assigned i ≡ false
  assigns-none r i = rw (at-Load c (Local r), at-Local c r) refl

  pub evaluates-register : (r : ℕ) (v : Value) → IsPlain c r → Evaluates c (Load (Local r)) (Register r (Some v) ∷ []) (Some v)
  evaluates-register r v h = record {
    assigns = assigns-none r;
    asks = λ later none. (
      Read (register_cell c r) (unseen (soft c r later)),
      next-register c r (plain-of r h) later [],
      (soft c r later, refl),
      λ more. next-register c r (plain-of r h) later (Gave (Some v) ∷ more),
    );
  }

  soft-true : (r : ℕ) (later : Registers) → is_register c.func r ≡ true → later r ≡ false → soft c r later ≡ true
  soft-true r later h none = rw (at-Local c r, h, none) refl

  pub evaluates-bad : (r : ℕ) → IsPlain c r → is_register c.func r ≡ true → Evaluates c (Load (Local r)) (Register r None ∷ []) None
  evaluates-bad r h register = record {
    assigns = assigns-none r;
    asks = λ later none. (
      Read (register_cell c r) (unseen (soft c r later)),
      next-register c r (plain-of r h) later [],
      ap (λ b. Read (register_cell c r) (unseen b)) (soft-true r later register (none r)),
      λ more. next-register c r (plain-of r h) later (Gave None ∷ more),
    );
  }

  pub evaluates-constant : (n : ℤ) (t : IntType) → Evaluates c (Const n t) [] (Some (Int n))
  evaluates-constant n t = record { assigns = λ r. ap (λ (m : Meaning). m.effects.assigned r) (at-Const c n t); asks = λ later none more. ap (λ (m : Meaning). m.next later more) (at-Const c n t) }

  -- ---- operators

  pub evaluates-conversion : (t : IntType) (e : Expr) (asked : List Asked) (v : Option Value) → Evaluates c e asked v → Evaluates c (Conv t e) asked (conversion t c.program.target v)
  evaluates-conversion t e asked v h = record {
    assigns = λ r. ap (λ (m : Meaning). m.effects.assigned r) (at-Conv c t e) ∙ h.assigns r;
    asks = λ later none.
        let k : Option Value → Get (Option Value) = λ w. known (conversion t c.program.target w) in
        let by : (ms : List Mark) → (meaning c (Conv t e)).next later ms ≡ and_then ((meaning c e).next later ms) k = λ ms. ap (λ (m : Meaning). m.next later ms) (at-Conv c t e) in
        asks-end c ((meaning c e).next later) ((meaning c (Conv t e)).next later) k v (HasValue ((meaning c (Conv t e)).next later) (conversion t c.program.target v)) by
        (λ all has more. by (all ++ more) ∙ ap (λ (q : Progress (Option Value)). and_then q k) (has more)) asked [] (h.asks later none);
  }

  -- two operands, whatever is made of their values
  module _ (f : Option Value → Option Value → Option Value) (a b : Expr) (asked others : List Asked) (v w : Option Value) (h : Evaluates c a asked v) (k : Evaluates c b others w) (later : Registers) (none : (r : ℕ) → later r ≡ false)
      (whole : Get (Option Value)) (by : (ms : List Mark) → whole ms ≡ from_two f (meaning c a) (meaning c b) later ms)
    where
      abbrev before : Registers
      before = also (meaning c b).effects.assigned later

      abbrev result : Option Value × Option Value → Get (Option Value)
      result p = known (f p.0 p.1)

      abbrev second : Option Value → Get (Option Value)
      second x ms = and_then (and_then ((meaning c b).next later ms) (λ y. known (x, y))) result

      by-first : (ms : List Mark) → whole ms ≡ and_then ((meaning c a).next before ms) second
      by-first ms = by ms ∙ then-then ((meaning c a).next before ms) (λ x more. and_then ((meaning c b).next later more) (λ y. known (x, y))) result

      by-second : (all more : List Mark) → HasValue ((meaning c a).next before) v all → whole (all ++ more) ≡ and_then ((meaning c b).next later more) (λ y. result (v, y))
      by-second all more has =
          by-first (all ++ more) ∙ ap (λ (q : Progress (Option Value)). and_then q second) (has more) ∙ then_bind ((meaning c b).next later more) (λ y. (v, y)) result

      behind-first : (all : List Mark) → HasValue ((meaning c a).next before) v all → Asks c whole (HasValue whole (f v w)) all others
      behind-first all has =
          subst (λ (x : List Mark). Asks c whole (HasValue whole (f v w)) x others) (append-nil all)
          (asks-behind c ((meaning c b).next later) whole (λ y. result (v, y)) w (HasValue whole (f v w)) all (λ more. by-second all more has)
          (λ ms got more. ap whole (append_assoc all ms more) ∙ by-second all (ms ++ more) has ∙ ap (λ (q : Progress (Option Value)). and_then q (λ y. result (v, y))) (got more)) others [] (k.asks later none))

      both-ask : Asks c whole (HasValue whole (f v w)) [] (asked ++ others)
      both-ask =
          asks-then c ((meaning c a).next before) whole second v (HasValue whole (f v w)) others by-first behind-first asked []
          (h.asks before (λ r. ap (λ (x : Bool). x || later r) (k.assigns r) ∙ none r))

  both-assign-none : (a b : Expr) (asked others : List Asked) (v w : Option Value) → Evaluates c a asked v → Evaluates c b others w → (r : ℕ) → also (meaning c a).effects.assigned (meaning c b).effects.assigned r ≡ false
  both-assign-none a b asked others v w h k r = ap (λ (x : Bool). x || (meaning c b).effects.assigned r) (h.assigns r) ∙ k.assigns r

  pub evaluates-binary : (o : BinOp) (t : IntType) (a b : Expr) (asked others : List Asked) (v w : Option Value) → Evaluates c a asked v → Evaluates c b others w → Evaluates c (Bin o t a b) (asked ++ others) (binary o t c.program.target v w)
  evaluates-binary o t a b asked others v w h k = record {
    assigns = λ r. ap (λ (m : Meaning). m.effects.assigned r) (at-Bin c o t a b) ∙ both-assign-none a b asked others v w h k r;
    asks = λ later none.
        both-ask (binary o t c.program.target) a b asked others v w h k later none ((meaning c (Bin o t a b)).next later) (λ ms. ap (λ (m : Meaning). m.next later ms) (at-Bin c o t a b));
  }

  at-Compare : (o : BinOp) (a b : Expr) → meaning c (Compare o a b) ≡ expr_meaning c (one.Compare o (meaning c a) (meaning c b))
  at-Compare o a b = ap (meaning c) (sym (rolls-Compare o a b)) ∙ level c (one.Compare o a b)

  pub evaluates-comparison : (o : BinOp) (a b : Expr) (asked others : List Asked) (v w : Option Value) → Evaluates c a asked v → Evaluates c b others w → Evaluates c (Compare o a b) (asked ++ others) (comparison o v w)
  evaluates-comparison o a b asked others v w h k = record {
    assigns = λ r. ap (λ (m : Meaning). m.effects.assigned r) (at-Compare o a b) ∙ both-assign-none a b asked others v w h k r;
    asks = λ later none. both-ask (comparison o) a b asked others v w h k later none ((meaning c (Compare o a b)).next later) (λ ms. ap (λ (m : Meaning). m.next later ms) (at-Compare o a b));
  }

  -- ---- assignments

  module _ (a : Place) (at : Cell) (e : Expr) (by : (ms : List Mark) → next_of c (Assign a e) ms ≡ and_then ((meaning c e).next no_one ms) (written_to at)) (asked : List Asked) where
    value-at : (v : Option Value) (all : List Mark) → HasValue ((meaning c e).next no_one) v all → next_of c (Assign a e) all ≡ written_to at v []
    value-at v all has = by all ∙ ap (λ (q : Progress (Option Value)). and_then q (written_to at)) (ap ((meaning c e).next no_one) (sym (append-nil all)) ∙ has [])

    assigns-value : (v : Value) → Evaluates c e asked (Some v) → Writes c (Assign a e) [] asked at v
    assigns-value v h =
        asks-end c ((meaning c e).next no_one) (next_of c (Assign a e)) (written_to at) (Some v) (IsWriting c (Assign a e) at v) by
        (λ all has. (value-at (Some v) all has, ap is_known (by (all ++ Did ∷ []) ∙ ap (λ (q : Progress (Option Value)). and_then q (written_to at)) (has (Did ∷ []))))) asked [] (h.asks no_one (λ r. refl))

    assigns-bad : Evaluates c e asked None → Fails c (Assign a e) [] asked
    assigns-bad h =
        asks-end c ((meaning c e).next no_one) (next_of c (Assign a e)) (written_to at) None (IsTrapping c (Assign a e)) by (λ all has. ([], value-at None all has)) asked [] (h.asks no_one (λ r. refl))

  pub sets-register : (r : ℕ) (e : Expr) (asked : List Asked) (v : Value) → IsPlain c r → Evaluates c e asked (Some v) → Writes c (Assign (Local r) e) [] asked (register_cell c r) v
  sets-register r e asked v h k = assigns-value (Local r) (register_cell c r) e (next-own c r e (plain-of r h) no_one) asked v k

  pub sets-bad : (r : ℕ) (e : Expr) (asked : List Asked) → IsPlain c r → Evaluates c e asked None → Fails c (Assign (Local r) e) [] asked
  sets-bad r e asked h k = assigns-bad (Local r) (register_cell c r) e (next-own c r e (plain-of r h) no_one) asked k

  pub writes-cell : (a : Place) (at : Cell) (e : Expr) (asked : List Asked) (v : Value) → IsCell c a at → Evaluates c e asked (Some v) → Writes c (Assign a e) [] asked at v
  writes-cell a at e asked v h k = assigns-value a at e (h.stores e no_one) asked v k

  pub writes-bad : (a : Place) (at : Cell) (e : Expr) (asked : List Asked) → IsCell c a at → Evaluates c e asked None → Fails c (Assign a e) [] asked
  writes-bad a at e asked h k = assigns-bad a at e (h.stores e no_one) asked k

  -- ---- copies

  pub static-cell : (i : ℕ) → IsPlainStatic c i → IsCell c (Static i) (static_cell i [])
  static-cell i h = record { loads = next-global c i (plain-static-of i h); stores = λ e. next-static c i e (plain-static-of i h) }

  pub copies : (r : ℕ) (a : Place) (at : Cell) → IsPlain c r → IsCell c a at → Copies c (Assign (Local r) (Load a)) [] at (register_cell c r)
  copies r a at h k =
      let step : (ms : List Mark) → next_of c (Assign (Local r) (Load a)) ms ≡ and_then ((meaning c (Load a)).next no_one ms) (written_to (register_cell c r)) = next-own c r (Load a) (plain-of r h) no_one in
      let at_marks : (ms : List Mark) → next_of c (Assign (Local r) (Load a)) ms ≡ and_then (ask (Read at (unseen false)) given ms) (written_to (register_cell c r)) =
      λ ms. step ms ∙ ap (λ (q : Progress (Option Value)). and_then q (written_to (register_cell c r))) (k.loads no_one ms) in
      record { reads = at_marks []; writes = λ v. (at_marks (Gave (Some v) ∷ []), ap is_known (at_marks (Gave (Some v) ∷ Did ∷ []))) }
