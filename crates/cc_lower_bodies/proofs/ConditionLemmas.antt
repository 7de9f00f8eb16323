-- The conditions of an `if` without `else`: what they are of expressions by their kind, and that their `if`s in one another are the
-- statements of the definition.
use Rattle.std.proofs.Common.{◌≡◌, ◌+◌, ℕ, Bool, true, false, List, [], ◌∷◌, ◌++◌, map, length, Some, None, refl, ap, sym, ◌∙◌, subst, append_assoc}
use Rattle.std.specs.Prelude.{if◌then◌else◌}
use Rattle.std.proofs.lemmas.List.{append-nil, map-append}
use Rattle.cc_program.specs.declared.expr.Expr.{Expr, Both, out-Expr, roll-Expr, out-roll-Expr, roll-out-Expr, map-Expr, fold-Expr, fold_out-Expr, fold-roll-Expr}
use Rattle.cc_program.specs.declared.expr.Expr.TheVariants.{outs-Both, rolls-Both}
use Rattle.cc_program.specs.declared.expr.Expr.TheOpen as one
use Rattle.cc_program.specs.declared.expr.Place.{Place, roll-Place, map-Place, fold-Place, fold-roll-Place}
use Rattle.cc_program.specs.declared.func.Func.{Func}
use Rattle.cc_program.specs.declared.program.Program.{Program}
use Rattle.cc_program.specs.declared.stmt.Stmt.{Stmt, If}
use Rattle.cc_program.proofs.Each.{Each}
use Rattle.cc_program.proofs.ExprInduction.{Parts, PlaceParts, by_expr}
use Rattle.cc_program.proofs.FoldFusion.{fused}
use Rattle.cc_eval.specs.CcSyntax.Effects.{Registers, Effects, also, effects_of}
use Rattle.cc_eval.specs.CcSyntax.Types.{Named}
use Rattle.cc_lower_expressions.specs.Expressions.{Temps, Piece, piece, Make, Lowers}
use Rattle.cc_lower_expressions.specs.Statements as whole
use Rattle.cc_lower_accesses.specs.Modes.{as_locals, operand_of}
use Rattle.cc_lower_accesses.proofs.AccessRules.{locals-length}
use Rattle.cc_lower_accesses.proofs.Opened.{low-effects}
use Rattle.cc_lower_bodies.specs.Conditions.{Guarding, nest, beside, two_conditions, Parted, alone_of, conditions_by, parted_step, place_parted, conditions_of}
use Rattle.cc_lower_bodies.proofs.ListLemmas.{number-behind}

-- ---- an expression is what its levels put together

abbrev again : Expr → Expr
again e = fold-Expr Expr Place roll-Expr roll-Place e

abbrev place_again : Place → Place
place_again a = fold-Place Expr Place roll-Expr roll-Place a

abbrev P : Expr → Type 0
P e = again e ≡ e

abbrev Q : Place → Type 0
Q a = place_again a ≡ a

each-again : (es : List Expr) → Each P es → map again es ≡ es
each-again [] h = refl
each-again (e ∷ es) h = rw (h.0, each-again es h.1) refl

level-again : (x : one.Expr-F Expr Place) → Parts P Q x → map-Expr Expr Place Expr Place again place_again x ≡ x
level-again (one.Const n t) h = refl
level-again (one.Null t) h = refl
level-again (one.FuncAddr g) h = refl
level-again (one.Load a) h = rw h refl
level-again (one.AddrOf a) h = rw h refl
level-again (one.Un o t a) h = rw h refl
level-again (one.Bin o t a b) h = rw (h.0, h.1) refl
level-again (one.Conv t a) h = rw h refl
level-again (one.Qualify t a) h = rw h refl
level-again (one.Move a b back) h = rw (h.0, h.1) refl
level-again (one.Gap a b) h = rw (h.0, h.1) refl
level-again (one.Compare o a b) h = rw (h.0, h.1) refl
level-again (one.Both a b) h = rw (h.0, h.1) refl
level-again (one.Either a b) h = rw (h.0, h.1) refl
level-again (one.Choose c a b) h = rw (h.0, h.1, h.2) refl
level-again (one.Assign a x) h = rw (h.0, h.1) refl
level-again (one.Change a o t x) h = rw (h.0, h.1) refl
level-again (one.After a down) h = rw h refl
level-again (one.Call g args) h = rw (h.0, each-again args h.1) refl
level-again (one.Intr i None) h = refl
level-again (one.Intr i (Some a)) h = rw h refl
level-again (one.Seq a b) h = rw (h.0, h.1) refl

place-level-again : (x : one.Place-F Expr Place) → PlaceParts P Q x → map-Place Expr Place Expr Place again place_again x ≡ x
place-level-again (one.Local r) h = refl
place-level-again (one.Static i) h = refl
place-level-again (one.Device d) h = refl
place-level-again (one.Element a i) h = rw (h.0, h.1) refl
place-level-again (one.Member a m) h = rw h refl
place-level-again (one.Deref e) h = rw h refl

made-again : (x : one.Expr-F Expr Place) → Parts P Q x → P (roll-Expr x)
made-again x h = fold-roll-Expr Expr Place roll-Expr roll-Place x ∙ ap roll-Expr (level-again x h)

place-made-again : (x : one.Place-F Expr Place) → PlaceParts P Q x → Q (roll-Place x)
place-made-again x h = fold-roll-Place Expr Place roll-Expr roll-Place x ∙ ap roll-Place (place-level-again x h)

again-is : (e : Expr) → again e ≡ e
again-is e = by_expr P Q made-again place-made-again e

-- ---- the conditions that an expression is

module _ (p : Program) (f : Func) where
  pub alone-is : (e : Expr) (L : Registers) (k : ℕ) → alone_of p f e L k ≡ (let x = operand_of p f e L k in piece x.temps [] ((x.stmts, x.value) ∷ []))
  unfolding alone_of
  alone-is e L k = refl

  abbrev parted : Expr → Parted
  parted e = fold-Expr Parted Place (parted_step p f) place_parted e

  abbrev parted_level : one.Expr-F Expr Place → one.Expr-F Parted Place
  parted_level x = map-Expr Expr Place Parted Place parted (λ a. fold-Place Parted Place (parted_step p f) place_parted a) x

  parted-itself : (e : Expr) → (parted e).itself ≡ e
  parted-itself e = fused (parted_step p f) place_parted roll-Expr roll-Place (λ s. s.itself) (λ a. a) (λ x. refl) (λ x. refl) e ∙ again-is e

  conditions-at : (e : Expr) (x : one.Expr-F Expr Place) → out-Expr e ≡ x → conditions_of p f e ≡ conditions_by p f e (parted_level x)
  unfolding conditions_of
  conditions-at e x h =
      let level : parted e ≡ parted_step p f (parted_level x) = fold_out-Expr Parted Place (parted_step p f) place_parted e ∙ ap (λ y. parted_step p f (parted_level y)) h in
      ap (λ (s : Parted). s.conditions) level ∙ ap (λ (i : Expr). conditions_by p f i (parted_level x)) (sym (ap (λ (s : Parted). s.itself) level) ∙ parted-itself e)

  conditions-Both : (a b : Expr) (L : Registers) (k : ℕ) →
      conditions_of p f (Both a b) L k ≡
      (if (effects_of f (Both a b)).pure L then alone_of p f (Both a b) L k else two_conditions (effects_of f b).assigned (conditions_of p f a) (conditions_of p f b) L k)
  unfolding conditions_of
  conditions-Both a b L k =
      ap (λ (m : Lowers (List Guarding)). m L k) (conditions-at (Both a b) (one.Both a b) (outs-Both a b)) ∙
      ap (λ (i : Expr). if (effects_of f (Both a b)).pure L then alone_of p f (Both a b) L k else two_conditions (effects_of f i).assigned (parted a).conditions (parted b).conditions L k) (parted-itself b)

  pub conditions-pure : (a b : Expr) (L : Registers) (k : ℕ) → (effects_of f (Both a b)).pure L ≡ true → conditions_of p f (Both a b) L k ≡ alone_of p f (Both a b) L k
  conditions-pure a b L k h =
      conditions-Both a b L k ∙
      ap (λ (c : Bool). if c then alone_of p f (Both a b) L k else two_conditions (effects_of f b).assigned (conditions_of p f a) (conditions_of p f b) L k) h

  pub conditions-two : (a b : Expr) (L : Registers) (k : ℕ) → (effects_of f (Both a b)).pure L ≡ false →
      conditions_of p f (Both a b) L k ≡
      (let x = conditions_of p f a (also (effects_of f b).assigned L) k in let y = conditions_of p f b L (k + length x.temps) in piece (x.temps ++ y.temps) [] (x.value ++ y.value))
  conditions-two a b L k h =
      conditions-Both a b L k ∙
      ap (λ (c : Bool). if c then alone_of p f (Both a b) L k else two_conditions (effects_of f b).assigned (conditions_of p f a) (conditions_of p f b) L k) h

  -- as the code makes them: those of the first one behind others, and those of the second one behind these
  pub both-values : (e a b a' b' d : Expr) (L B : Registers) (l m : List Named) (o n : List Guarding) →
      e ≡ Both a b → a' ≡ a → b' ≡ b → d ≡ b → (effects_of f e).pure L ≡ false → B ≡ also (effects_of f d).assigned L →
      m ≡ l ++ as_locals (conditions_of p f a' B (length l)).temps → n ≡ o ++ (conditions_of p f a' B (length l)).value →
      n ++ (conditions_of p f b' L (length m)).value ≡ o ++ (conditions_of p f e L (length l)).value
  both-values e a b a' b' d L B l m o n is is-a is-b is-d impure behind locals values =
      let k = length l in let x = conditions_of p f a (also (effects_of f b).assigned L) k in let y = conditions_of p f b L (k + length x.temps) in
      let first : conditions_of p f a' B k ≡ x =
      ap (λ (i : Expr). conditions_of p f i B k) is-a ∙ ap (λ (R : Registers). conditions_of p f a R k) (behind ∙ ap (λ (i : Expr). also (effects_of f i).assigned L) is-d) in
      let count : length m ≡ k + length x.temps =
      ap (λ (it : List Named). length it) locals ∙ locals-length l (conditions_of p f a' B k).temps ∙ ap (λ (z : Piece (List Guarding)). k + length z.temps) first in
      let second : conditions_of p f b' L (length m) ≡ y = ap (λ (i : Expr). conditions_of p f i L (length m)) is-b ∙ ap (λ (j : ℕ). conditions_of p f b L j) count in
      let both : conditions_of p f e L k ≡ beside x y =
      ap (λ (i : Expr). conditions_of p f i L k) is ∙ conditions-two a b L k (sym (ap (λ (i : Expr). (effects_of f i).pure L) is) ∙ impure) in
      ap (λ (q : List Guarding). q ++ (conditions_of p f b' L (length m)).value) values ∙
      ap (λ (z : Piece (List Guarding)). (o ++ z.value) ++ (conditions_of p f b' L (length m)).value) first ∙
      ap (λ (z : Piece (List Guarding)). (o ++ x.value) ++ z.value) second ∙
      append_assoc o x.value y.value ∙
      sym (ap (λ (z : Piece (List Guarding)). o ++ z.value) both)

  -- all kinds but `&&`
  is_both : (e a b : Expr) → out-Expr e ≡ one.Both a b → e ≡ Both a b
  is_both e a b h = sym (roll-out-Expr e) ∙ ap roll-Expr h ∙ rolls-Both a b

  other-at : (e : Expr) (x : one.Expr-F Expr Place) → out-Expr e ≡ x → ((a b : Expr) → e ≡ Both a b → ⊥) → (L : Registers) (k : ℕ) → conditions_of p f e L k ≡ alone_of p f e L k
  other-at e (one.Both a b) h n L k = absurd (n a b (is_both e a b h))
  other-at e x h n L k = ap (λ (m : Lowers (List Guarding)). m L k) (conditions-at e x h)

  pub conditions-other : (e : Expr) → ((a b : Expr) → e ≡ Both a b → ⊥) → (L : Registers) (k : ℕ) → conditions_of p f e L k ≡ alone_of p f e L k
  conditions-other e n L k = other-at e (out-Expr e) refl n L k

pub ruleset alone_rules = (alone-is, map-append)

pub ruleset condition_rules = (conditions-pure, conditions-two)

-- ---- `if`s in one another

pub nest-none : (these : List Stmt) → nest [] these ≡ these
unfolding nest
nest-none these = refl

pub nest-append : (xs ys : List Guarding) (these : List Stmt) → nest (xs ++ ys) these ≡ nest xs (nest ys these)
unfolding nest
nest-append [] ys these = refl
nest-append (x ∷ xs) ys these = ap (λ (ss : List Stmt). x.0 ++ If x.1 ss [] ∷ []) (nest-append xs ys these)

pub nest-one : (x : Guarding) (these : List Stmt) → nest (x ∷ []) these ≡ x.0 ++ If x.1 these [] ∷ []
unfolding nest
nest-one x these = refl

pub ruleset nest_rules = (nest-none, nest-append, nest-one, map-append)

-- ---- the guard of the definition

module _ (p : Program) (f : Func) where
  abbrev wrapped : Piece (List Guarding) → Make (Unit {0}) → Make (Unit {0})
  wrapped x these k = (let y = these (k + length x.temps) in piece (x.temps ++ y.temps) (nest x.value y.stmts) tt)

  abbrev G : Expr → Type 0
  G e = (L : Registers) (these : Make (Unit {0})) (k : ℕ) → (whole.condition p f e).guard L these k ≡ wrapped (conditions_of p f e L k) these k

  abbrev GP : Place → Type 0
  GP a = Unit {0}

  abbrev guard_level : one.Expr-F Expr Place → one.Expr-F whole.Condition Place
  guard_level x = map-Expr Expr Place whole.Condition Place (whole.condition p f) (λ a. fold-Place whole.Condition Place (whole.condition_step p f) (whole.place_itself p f) a) x

  condition-itself : (e : Expr) → (whole.condition p f e).itself ≡ e
  unfolding whole.condition
  condition-itself e = fused (whole.condition_step p f) (whole.place_itself p f) roll-Expr roll-Place (λ c. c.itself) (λ a. a) (λ x. refl) (λ x. refl) e ∙ again-is e

  guard-at : (e : Expr) (x : one.Expr-F Expr Place) → out-Expr e ≡ x → (whole.condition p f e).guard ≡ whole.guard_by p f (whole.lowered p f e) (guard_level x)
  unfolding whole.condition
  guard-at e x h =
      let level : whole.condition p f e ≡ whole.condition_step p f (guard_level x) =
      fold_out-Expr whole.Condition Place (whole.condition_step p f) (whole.place_itself p f) e ∙ ap (λ y. whole.condition_step p f (guard_level y)) h in
      ap (λ (c : whole.Condition). c.guard) level ∙
      ap (λ (i : Expr). whole.guard_by p f (whole.lowered p f i) (guard_level x)) (sym (ap (λ (c : whole.Condition). c.itself) level) ∙ condition-itself e)

  -- one condition
  alone-wrapped : (e : Expr) (L : Registers) (these : Make (Unit {0})) (k : ℕ) → whole.if_operand (whole.lowered p f e) L these k ≡ wrapped (alone_of p f e L k) these k
  unfolding alone_of operand_of nest
  alone-wrapped e L these k =
      let x = operand_of p f e L k in let y = these (k + length x.temps) in
      ap (λ (ts : Temps). piece (x.temps ++ ts) (x.stmts ++ If x.value y.stmts [] ∷ []) tt) (append-nil y.temps)

  -- the conditions of one in front of those of the other
  in_two : (xs : Piece (List Guarding)) (ys : Make (List Guarding)) (these : Make (Unit {0})) (k : ℕ) →
      wrapped xs (λ n. wrapped (ys n) these n) k ≡ wrapped (beside xs (ys (k + length xs.temps))) these k
  in_two x ys these k =
      let y = ys (k + length x.temps) in let z = these (k + length x.temps + length y.temps) in
      ap (λ (ts : Temps). piece ts (nest x.value (nest y.value z.stmts)) tt) (sym (append_assoc x.temps y.temps z.temps)) ∙
      ap (λ (ss : List Stmt). piece ((x.temps ++ y.temps) ++ z.temps) ss tt) (sym (nest-append x.value y.value z.stmts)) ∙
      ap (λ (n : ℕ). piece ((x.temps ++ y.temps) ++ (these n).temps) (nest (x.value ++ y.value) (these n).stmts) tt) (number-behind k x.temps y.temps)

  chosen : (is : Bool) (a b : Expr) (assigned : Registers) → G a → G b → (L : Registers) (these : Make (Unit {0})) (k : ℕ) →
      (if is then whole.if_operand (whole.lowered p f (Both a b)) L these else (whole.condition p f a).guard (also assigned L) ((whole.condition p f b).guard L these)) k ≡
      wrapped (if is then alone_of p f (Both a b) L k else two_conditions assigned (conditions_of p f a) (conditions_of p f b) L k) these k
  chosen true a b assigned ga gb L these k = alone-wrapped (Both a b) L these k
  chosen false a b assigned ga gb L these k =
      ga (also assigned L) ((whole.condition p f b).guard L these) k ∙
      (let x = conditions_of p f a (also assigned L) k in
      ap (λ (y : Piece (Unit {0})). piece (x.temps ++ y.temps) (nest x.value y.stmts) tt) (gb L these (k + length x.temps)) ∙
      in_two x (conditions_of p f b L) these k)

  both-guard : (a b : Expr) (L : Registers) (these : Make (Unit {0})) (k : ℕ) →
      (whole.condition p f (Both a b)).guard L these k ≡
      (if (effects_of f (Both a b)).pure L then whole.if_operand (whole.lowered p f (Both a b)) L these else (whole.condition p f a).guard (also (effects_of f b).assigned L) ((whole.condition p f b).guard L these)) k
  both-guard a b L these k =
      ap (λ (m : whole.Guard). m L these k) (guard-at (Both a b) (one.Both a b) (outs-Both a b)) ∙
      ap (λ (i : Expr). whole.if_both (whole.lowered p f (Both a b)) (whole.lowered p f i).effects.assigned (whole.condition p f a).guard (whole.condition p f b).guard L these k) (condition-itself b) ∙
      ap (λ (w : Effects). whole.if_both (whole.lowered p f (Both a b)) w.assigned (whole.condition p f a).guard (whole.condition p f b).guard L these k) (low-effects p f b) ∙
      ap (λ (w : Effects). (if w.pure L then whole.if_operand (whole.lowered p f (Both a b)) L these else (whole.condition p f a).guard (also (effects_of f b).assigned L) ((whole.condition p f b).guard L these)) k) (low-effects p f (Both a b))

  by_one : (e : Expr) → (whole.condition p f e).guard ≡ whole.if_operand (whole.lowered p f e) → conditions_of p f e ≡ alone_of p f e → G e
  by_one e g c L these k =
      ap (λ (m : whole.Guard). m L these k) g ∙ alone-wrapped e L these k ∙ sym (ap (λ (m : Lowers (List Guarding)). wrapped (m L k) these k) c)

  guard-made : (x : one.Expr-F Expr Place) → Parts G GP x → G (roll-Expr x)
  guard-made (one.Both a b) h L these k =
      subst (λ (e : Expr). (whole.condition p f e).guard L these k ≡ wrapped (conditions_of p f e L k) these k) (sym (rolls-Both a b))
      (both-guard a b L these k ∙
      chosen ((effects_of f (Both a b)).pure L) a b (effects_of f b).assigned h.0 h.1 L these k ∙
      sym (ap (λ (x : Piece (List Guarding)). wrapped x these k) (conditions-Both p f a b L k)))
  guard-made x h L these k = by_one (roll-Expr x) (guard-at (roll-Expr x) x (out-roll-Expr x)) (conditions-at p f (roll-Expr x) x (out-roll-Expr x)) L these k

  place-guard-made : (x : one.Place-F Expr Place) → PlaceParts G GP x → GP (roll-Place x)
  place-guard-made x h = tt

  pub guard-is : (e : Expr) (L : Registers) (these : Make (Unit {0})) (k : ℕ) →
      (whole.condition p f e).guard L these k ≡
      (let x = conditions_of p f e L k in let y = these (k + length x.temps) in piece (x.temps ++ y.temps) (nest x.value y.stmts) tt)
  guard-is e L these k = by_expr G GP guard-made place-guard-made e L these k
