-- What operands give one behind the other, and arms.
use Rattle.std.proofs.Common.{◌≡◌, ◌+◌, ◌<◌, ◌≤◌, ℕ, List, [], ◌∷◌, ◌++◌, map, drop, length, get_or, Option, Some, None, Result, Ok, Err, IfOk, refl, ap, sym, ◌∙◌, subst}
use Rattle.std.specs.Prelude.{OnOk}
use Rattle.cc_program.specs.declared.expr.Expr.{Expr, Assign, Call, Intr}
use Rattle.cc_program.specs.declared.expr.Intr.{Intr as Intrinsic}
use Rattle.cc_program.specs.declared.expr.Place.{Place}
use Rattle.cc_program.specs.declared.func.Func.{Func}
use Rattle.cc_program.specs.declared.program.Program.{Program}
use Rattle.cc_program.specs.declared.stmt.Stmt.{Stmt, Do, If}
use Rattle.cc_eval.specs.CcSyntax.Effects.{Registers, Effects, also, effects_of, all_assigned}
use Rattle.cc_eval.specs.CcSyntax.Programs.{type_of}
use Rattle.cc_eval.specs.CcSyntax.Types.{Named}
use Rattle.cc_eval.specs.CcSyntax.Values.{ValueType}
use Rattle.cc_lower_expressions.specs.Expressions.{Piece, piece, Make, done, ◌>>=◌, fresh, fork, emit, branch, set, temp, mapped, with_both, Lowers, int_value, truth_of, Lowering, lowering, place_lowering, condition_of, value_of}
use Rattle.cc_lower_expressions.specs.Temporaries.{declared_type, is_same_type}
use Rattle.cc_lower_accesses.specs.Assigned.{among}
use Rattle.cc_lower_accesses.specs.Modes.{as_locals, value_type, operand_of, whole_of, effect_of, place_of, pair_of, placed_of, arguments_of, callee_of, calling_of, intrinsic_of, arm_in, condition_in, chosen_of, chosen_void_of, assigned_of}
use Rattle.cc_lower_accesses.proofs.AccessRules.{calling-is}
use Rattle.cc_lower_accesses.proofs.Opened.{low-effects, value-is, pair-is, placed-is}
use Rattle.cc_lower_operands.specs.Branches.{apart, decided_of}
use Rattle.cc_lower_operands.specs.Made.{IsMade}
use Rattle.cc_lower_operands.proofs.Arguments.{arguments-more, arguments-ended}
use Rattle.cc_lower_operands.proofs.OperandRules.{condition-is, arm-is, intrinsic-None, intrinsic-Some}
use Rattle.cc_lower_operands.proofs.Steps.{Gives, made_as, made_kept, made_then, made_both, made_fresh, made_emit, made_apart, made_fork, gives_as, gives_then, gives_mapped, from_none}

-- of the registers that later operands assign, a slice of a list of them
pub registers-are : (slice list : List ℕ) (K : Registers) → slice ≡ list → among list ≡ K → among slice ≡ K
registers-are slice list K e h = ap among e ∙ h

pub before-arm : {A E : Type 0} (M : Lowers A) {x : A} {l l' : List Named} {o o' : List Stmt} (slice list : List ℕ) (K : Registers) (r : Result A E) → slice ≡ list → among list ≡ K →
    IsMade (M (among slice)) x l l' o o' → IfOk r (λ v. v ≡ x) → Gives r (M K) l l' o o'
before-arm {E = E} M {x} {l} {l'} {o} {o'} slice list K (Ok v) e h i j =
    let m : IsMade (M K) x l l' o o' = subst (λ (z : Registers). IsMade (M z) x l l' o o') (registers-are slice list K e h) i in
    record { value = j ∙ m.value; locals = m.locals; statements = m.statements }
before-arm {E = E} M {x} {l} {l'} {o} {o'} slice list K (Err e') e h i j = tt

pub ahead-arm : {A E : Type 0} (M : Lowers A) (l l' : List Named) (o o' : List Stmt) (slice list : List ℕ) (K : Registers) (r : Result A E) → slice ≡ list → among list ≡ K →
    Gives r (M (among slice)) l l' o o' → Gives r (M K) l l' o o'
ahead-arm M l l' o o' slice list K r e h i = subst (λ (z : Registers). Gives r (M z) l l' o o') (registers-are slice list K e h) i

module _ (p : Program) (f : Func) where
  abbrev low : Expr → Lowering
  low e = lowering p f declared_type is_same_type e

  pub condition-arm : {E : Type 0} {x : Expr} {l l' : List Named} {o o' : List Stmt} (L : Registers) (sa la sb lb : List ℕ) (r : Result Expr E) (c : Expr) (a : Expr) (b : Expr) →
      sb ≡ lb → among lb ≡ also (effects_of f b).assigned L → sa ≡ la → among la ≡ also (effects_of f a).assigned (among sb) →
      IsMade (operand_of p f c (among sa)) x l l' o o' → IfOk r (λ v. v ≡ x) → Gives r (condition_in p f c a b L) l l' o o'
  condition-arm {x = x} {l = l} {l' = l'} {o = o} {o' = o'} L sa la sb lb r c a b eb hb ea ha i j =
      let b_is : among sb ≡ also (effects_of f b).assigned L = registers-are sb lb (also (effects_of f b).assigned L) eb hb in
      let K : Registers = also (effects_of f a).assigned (also (effects_of f b).assigned L) in
      gives_as r (condition_in p f c a b L) (operand_of p f c K) l l' o o' (condition-is p f c a b L (length l))
      (before-arm (operand_of p f c) sa la K r ea (ha ∙ ap (also (effects_of f a).assigned) b_is) i j)

  pub pair-made : {x x' y : Expr} {l l' l'' : List Named} {o o' o'' : List Stmt} (a : Expr) (b : Expr) (L : Registers) →
      IsMade (operand_of p f a (also (effects_of f b).assigned L)) x l l' o o' → IsMade (operand_of p f b L) y l' l'' o' o'' → x' ≡ x → IsMade (pair_of p f a b L) (x', y) l l'' o o''
  pair-made {x} {x'} {y} {l} {l'} {l''} {o} {o'} {o''} a b L h i e =
      let K : Registers = also (effects_of f b).assigned L in
      subst (λ (z : Expr). IsMade (pair_of p f a b L) (z, y) l l'' o o'') (sym e)
      (made_as (with_both (λ v w. (v, w)) (operand_of p f a K) (operand_of p f b L)) (pair-is p f a b L (length l)) (made_both (λ v w. (v, w)) h i))

  pub placed-made : {c c' : Place} {y : Expr} {l l' l'' : List Named} {o o' o'' : List Stmt} (a : Place) (e : Expr) (L : Registers) →
      IsMade (place_of p f a (also (effects_of f e).assigned L)) c l l' o o' → IsMade (operand_of p f e L) y l' l'' o' o'' → c' ≡ c → IsMade (placed_of p f a e L) (c', y) l l'' o o''
  placed-made {c} {c'} {y} {l} {l'} {l''} {o} {o'} {o''} a e L h i j =
      let K : Registers = also (effects_of f e).assigned L in
      subst (λ (z : Place). IsMade (placed_of p f a e L) (z, y) l l'' o o'') (sym j)
      (made_as (with_both (λ v w. (v, w)) (place_of p f a K) (operand_of p f e L)) (placed-is p f a e L (length l)) (made_both (λ v w. (v, w)) h i))

  -- ---- calls

  abbrev arguments_go : List Expr → Registers → List Named → List Stmt → List Expr → List Named → List Stmt → Type 0
  arguments_go args L l o values l' o' =
      (rest : List Expr) (after : List Named) (behind : List Stmt) → IsMade (arguments_of p f values L) rest l' after o' behind → IsMade (arguments_of p f args L) rest l after o behind

  pub one-argument : (args : List Expr) (i : ℕ) (e x : Expr) (L : Registers) (slice list : List ℕ) (behind_it : List Expr) {l l' : List Named} {o o' : List Stmt}
      (rest : List Expr) (after : List Named) (behind : List Stmt) → i < length args → e ≡ get_or args i e → slice ≡ list →
      among list ≡ also (all_assigned (map (effects_of f) behind_it)) L → behind_it ≡ drop (i + 1) args →
      IsMade (operand_of p f e (among slice)) x l l' o o' → IsMade (arguments_of p f (drop (i + 1) args) L) rest l' after o' behind →
      IsMade (arguments_of p f (drop i args) L) (x ∷ rest) l after o behind
  one-argument args i e x L slice list behind_it {l} {l'} {o} {o'} rest after behind small is s h b made more =
      let K : Registers = also (all_assigned (map (effects_of f) (drop (i + 1) args))) L in
      let k : among slice ≡ K = registers-are slice list K s (h ∙ ap (λ (z : List Expr). also (all_assigned (map (effects_of f) z)) L) b) in
      made_as (with_both (λ v vs. v ∷ vs) (operand_of p f e K) (arguments_of p f (drop (i + 1) args) L)) (arguments-more p f args i e L (length l) small is)
      (made_both (λ v vs. v ∷ vs) (subst (λ (z : Registers). IsMade (operand_of p f e z) x l l' o o') k made) more)

  pub no-argument : (args : List Expr) (i : ℕ) (L : Registers) (l : List Named) (o : List Stmt) → length args ≤ i → IsMade (arguments_of p f (drop i args) L) [] l l o o
  no-argument args i L l o h = made_as (done []) (arguments-ended p f args i L (length l) h) (made_kept [] [] l o refl)

  -- a call, from what its parts gave
  called_as : {E : Type 0} (r : Result Expr E) (t : Option ValueType) (x x' : Expr) (vs : List Expr) (l l' : List Named) (o o' : List Stmt) → x' ≡ x →
      IfOk r (λ v. v ≡ Call (callee_of p f t x' (length l)).value vs) → OnOk r (l' ≡ l ++ as_locals (callee_of p f t x' (length l)).temps) →
      OnOk r (o' ≡ o ++ (callee_of p f t x' (length l)).stmts) → Gives r (λ k. mapped (λ c. Call c vs) (callee_of p f t x k)) l l' o o'
  called_as (Ok v) t x x' vs l l' o o' e h i j =
      record { value = h ∙ ap (λ (z : Expr). Call (callee_of p f t z (length l)).value vs) e; locals = i ∙ ap (λ (z : Expr). l ++ as_locals (callee_of p f t z (length l)).temps) e; statements = j ∙ ap (λ (z : Expr). o ++ (callee_of p f t z (length l)).stmts) e }
  called_as (Err e') t x x' vs l l' o o' e h i j = tt

  pub call-made : {E : Type 0} {x x' : Expr} {args ga ha vs : List Expr} {l l' l'' : List Named} {o o' o'' : List Stmt} (L : Registers) (slice list : List ℕ) (r : Result Expr E) (g : Expr) (l''' : List Named) (o''' : List Stmt) →
      slice ≡ list → among list ≡ also (all_assigned (map (effects_of f) ga)) L → ga ≡ args → ha ≡ args →
      IsMade (operand_of p f g (among slice)) x l l' o o' → x' ≡ x → IsMade (arguments_of p f ha L) vs l' l'' o' o'' →
      IfOk r (λ v. v ≡ Call (callee_of p f (type_of p f.locals g) x' (length l'')).value vs) →
      OnOk r (l''' ≡ l'' ++ as_locals (callee_of p f (type_of p f.locals g) x' (length l'')).temps) →
      OnOk r (o''' ≡ o'' ++ (callee_of p f (type_of p f.locals g) x' (length l'')).stmts) → Gives r (calling_of p f g args L) l l''' o o'''
  call-made {x = x} {x' = x'} {args = args} {ga = ga} {ha = ha} {vs = vs} {l = l} {l' = l'} {l'' = l''} {o = o} {o' = o'} {o'' = o''} L slice list r g l''' o''' s h at at' made box more i j k =
      let K : Registers = also (all_assigned (map (effects_of f) args)) L in
      let both : Make (Expr × List Expr) = with_both (λ v vs. (v, vs)) (operand_of p f g K) (arguments_of p f args L) in
      let K_is : among slice ≡ K = registers-are slice list K s (h ∙ ap (λ (z : List Expr). also (all_assigned (map (effects_of f) z)) L) at) in
      let parts : IsMade both (x, vs) l l'' o o'' =
      made_both (λ v vs. (v, vs)) (subst (λ (z : Registers). IsMade (operand_of p f g z) x l l' o o') K_is made) (subst (λ (z : List Expr). IsMade (arguments_of p f z L) vs l' l'' o' o'') at' more) in
      gives_as r (calling_of p f g args L) (both >>= (λ z k. mapped (λ c. Call c z.1) (callee_of p f (type_of p f.locals g) z.0 k))) l l''' o o''' (calling-is p f g args L (length l))
      (gives_then r l''' o''' (λ z k. mapped (λ c. Call c z.1) (callee_of p f (type_of p f.locals g) z.0 k)) parts (called_as r (type_of p f.locals g) x x' vs l'' l''' o'' o''' box i j k))

  pub no-operand : {n : Intrinsic} {a : Option Expr} {l : List Named} {o : List Stmt} (L : Registers) → a ≡ None → IsMade (intrinsic_of p f n a L) (Intr n None) l l o o
  no-operand {n = n} {a = a} {l = l} {o = o} L is = made_as (done (Intr n None)) (rw is (intrinsic-None p f n L (length l))) (made_kept (Intr n None) (Intr n None) l o refl)

  pub some-operand : {E : Type 0} {a : Option Expr} {e g x : Expr} {l l' : List Named} {o o' : List Stmt} (L : Registers) (r : Result Expr E) (n : Intrinsic) → a ≡ Some e → g ≡ e →
      IsMade (operand_of p f g L) x l l' o o' → IfOk r (λ v. v ≡ Intr n (Some x)) → Gives r (intrinsic_of p f n a L) l l' o o'
  some-operand {a = a} {e = e} {g = g} {l = l} {l' = l'} {o = o} {o' = o'} L r n is at h i =
      gives_as r (intrinsic_of p f n a L) (λ k. mapped (λ v. Intr n (Some v)) (operand_of p f g L k)) l l' o o' (rw (is, at) (intrinsic-Some p f n e L (length l))) (gives_mapped r (λ v. Intr n (Some v)) h i)

  -- ---- branches

  -- the arm that sets a register to the truth of an operand
  arm-made : {y : Expr} {l l' : List Named} {a0 s1 s : List Stmt} (b : Expr) (n : ℕ) (L : Registers) → IsMade (operand_of p f b L) y l l' a0 s1 → a0 ≡ [] →
      s ≡ s1 ++ set n (truth_of p f declared_type is_same_type (type_of p f.locals b) y) ∷ [] → IsMade (arm_in p f b L n) tt l l' [] s
  arm-made {y} {l} {l'} {a0} {s1} {s} b n L h e i =
      let x : Piece Expr = operand_of p f b L (length l) in
      let t : Expr → Expr = λ v. truth_of p f declared_type is_same_type (type_of p f.locals b) v in
      made_as (λ k. let z = operand_of p f b L k in piece z.temps (z.stmts ++ set n (t z.value) ∷ []) tt) (arm-is p f b L n (length l))
      (record {
        value = refl;
        locals = h.locals;
        statements = i ∙ ap (λ (z : List Stmt). z ++ set n (t y) ∷ []) (h.statements ∙ ap (λ (z : List Stmt). z ++ x.stmts) e) ∙ ap (λ (v : Expr). x.stmts ++ set n (t v) ∷ []) h.value;
      })

  pub decided-made : {x x' y : Expr} {n : ℕ} {l l1 l2 l3 : List Named} {o o1 a0 s1 s : List Stmt} (a : Expr) (b : Expr) (L : Registers) →
      IsMade (operand_of p f a (also (effects_of f b).assigned L)) x l l1 o o1 → n ≡ length l1 → l2 ≡ l1 ++ as_locals (int_value ∷ []) →
      a0 ≡ [] → IsMade (operand_of p f b L) y l2 l3 a0 s1 → s ≡ s1 ++ set n (truth_of p f declared_type is_same_type (type_of p f.locals b) y) ∷ [] → x' ≡ x →
      IsMade (decided_of p f a b L) (x', n, s) l l3 o o1
  unfolding decided_of
  decided-made {x} {x'} {y} {n} {l} {l1} {l2} {l3} {o} {o1} {a0} {s1} {s} a b L h e i none j k q =
      subst (λ (z : Expr). IsMade (decided_of p f a b L) (z, n, s) l l3 o o1) (sym q)
      (made_then (λ v. fresh int_value >>= (λ m. apart v m (arm_in p f b L m))) h
      (made_then (λ m. apart x m (arm_in p f b L m)) (made_fresh int_value n l1 l2 o1 e i) (made_apart x n o1 (arm-made b n L j none k))))

  chosen-branch : (t : Option ValueType) (c a b : Expr) (L : Registers) (k : ℕ) →
      chosen_of p f t c a b L k ≡ branch t (condition_in p f c a b L) (λ n. whole_of p f a t n (also (effects_of f b).assigned L)) (λ n. whole_of p f b t n L) k
  unfolding chosen_of condition_in whole_of
  chosen-branch t c a b L k = ap (λ (w : Effects). branch t (condition_of (low c) (low a) (low b) L) (λ n. (low a).whole t n (also w.assigned L)) (λ n. (low b).whole t n L) k) (low-effects p f b)

  pub choose-made : {E : Type 0} {x x' : Expr} {n : ℕ} {u v : Unit {0}} {l l1 l2 l3 l4 : List Named} {o o1 a0 b0 s1 s2 : List Stmt} (L : Registers) (slice list : List ℕ) (r : Result Expr E) (t : Option ValueType) (c : Expr) (a : Expr) (b : Expr) (o2 : List Stmt) →
      IsMade (condition_in p f c a b L) x l l1 o o1 → n ≡ length l1 → l2 ≡ l1 ++ as_locals (t ∷ []) →
      slice ≡ list → among list ≡ also (effects_of f b).assigned L → a0 ≡ [] → IsMade (whole_of p f a t n (among slice)) u l2 l3 a0 s1 →
      b0 ≡ [] → IsMade (whole_of p f b t n L) v l3 l4 b0 s2 →
      x' ≡ x → IfOk r (λ w. w ≡ temp n) → OnOk r (o2 ≡ o1 ++ If x' s1 s2 ∷ []) → Gives r (chosen_of p f t c a b L) l l4 o o2
  choose-made {x = x} {x' = x'} {n = n} {u = u} {v = v} {l = l} {l1 = l1} {l2 = l2} {l3 = l3} {l4 = l4} {o = o} {o1 = o1} {a0 = a0} {b0 = b0} {s1 = s1} {s2 = s2} L slice list (Ok w) t c a b o2 h e i s k none made none' made' q is put =
      let K : Registers = also (effects_of f b).assigned L in
      let these : ℕ → Make (Unit {0}) = λ m. whole_of p f a t m K in
      let those : ℕ → Make (Unit {0}) = λ m. whole_of p f b t m L in
      let one : IsMade (these n) u l2 l3 [] s1 = from_none a0 s1 none (subst (λ (z : Registers). IsMade (whole_of p f a t n z) u l2 l3 a0 s1) (registers-are slice list K s k) made) in
      let two : IsMade (those n) v l3 l4 [] s2 = from_none b0 s2 none' made' in
      made_as (branch t (condition_in p f c a b L) these those) (chosen-branch t c a b L (length l))
      (made_then (λ y. fresh t >>= (λ m. fork y (these m) (those m) >>= (λ z. done (temp m)))) h
      (made_then (λ m. fork x (these m) (those m) >>= (λ z. done (temp m))) (made_fresh t n l1 l2 o1 e i)
      (made_then (λ z. done (temp n)) (made_fork x o1 o2 one two (put ∙ ap (λ (z : Expr). o1 ++ If z s1 s2 ∷ []) q)) (made_kept (temp n) w l4 o2 is))))
  choose-made L slice list (Err w) t c a b o2 h e i s k none made none' made' q is put = tt

  chosen-void-opens : (c a b : Expr) (L : Registers) (k : ℕ) →
      chosen_void_of p f c a b L k ≡ (condition_in p f c a b L >>= (λ v. fork v (effect_of p f a (also (effects_of f b).assigned L)) (effect_of p f b L))) k
  unfolding chosen_void_of condition_in effect_of
  chosen-void-opens c a b L k = ap (λ (w : Effects). (condition_of (low c) (low a) (low b) L >>= (λ v. fork v ((low a).effect (also w.assigned L)) ((low b).effect L))) k) (low-effects p f b)

  pub choose-void-made : {E : Type 0} {x x' : Expr} {u v : Unit {0}} {l l1 l2 l3 : List Named} {o o1 a0 b0 s1 s2 t1 t2 : List Stmt} (L : Registers) (r : Result (Unit {0}) E) (c : Expr) (a : Expr) (b : Expr) (o2 : List Stmt) →
      IsMade (condition_in p f c a b L) x l l1 o o1 → a0 ≡ [] → IsMade (effect_of p f a (also (effects_of f b).assigned L)) u l1 l2 a0 s1 →
      b0 ≡ [] → IsMade (effect_of p f b L) v l2 l3 b0 s2 → x' ≡ x → t1 ≡ s1 → t2 ≡ s2 → OnOk r (o2 ≡ o1 ++ If x' t1 t2 ∷ []) → Gives r (chosen_void_of p f c a b L) l l3 o o2
  choose-void-made {x = x} {x' = x'} {u = u} {v = v} {l = l} {l1 = l1} {l2 = l2} {l3 = l3} {o = o} {o1 = o1} {a0 = a0} {b0 = b0} {s1 = s1} {s2 = s2} {t1 = t1} {t2 = t2} L (Ok w) c a b o2 h none made none' made' q i j put =
      let these : Make (Unit {0}) = effect_of p f a (also (effects_of f b).assigned L) in
      let those : Make (Unit {0}) = effect_of p f b L in
      let one : IsMade these u l1 l2 [] s1 = from_none a0 s1 none made in
      let two : IsMade those v l2 l3 [] s2 = from_none b0 s2 none' made' in
      let put' : o2 ≡ o1 ++ If x s1 s2 ∷ [] = put ∙ ap (λ (z : Expr). o1 ++ If z t1 t2 ∷ []) q ∙ ap (λ (z : List Stmt). o1 ++ If x z t2 ∷ []) i ∙ ap (λ (z : List Stmt). o1 ++ If x s1 z ∷ []) j in
      made_as (condition_in p f c a b L >>= (λ y. fork y these those)) (chosen-void-opens c a b L (length l))
      (made_then (λ y. fork y these those) h (made_fork x o1 o2 one two put'))
  choose-void-made L (Err w) c a b o2 h none made none' made' q i j put = tt

  -- ---- an assignment

  assigned_by : Option ValueType → Make Place → Expr → Registers → Make Expr
  assigned_by t ops e L = ops >>= (λ b. fresh t >>= (λ n. (low e).whole t n L >>= (λ u. emit (Do (Assign b (temp n))) >>= (λ u. done (temp n)))))

  assigned-opens : (a : Place) (e : Expr) (L : Registers) (k : ℕ) →
      assigned_of p f a e L k ≡
      (place_of p f a (also (effects_of f e).assigned L) >>=
      (λ b. fresh (value_type p f a) >>= (λ n. whole_of p f e (value_type p f a) n L >>= (λ u. emit (Do (Assign b (temp n))) >>= (λ u. done (temp n)))))) k
  unfolding assigned_of place_of whole_of assigned_by
  assigned-opens a e L k =
      let a_low = place_lowering p f declared_type is_same_type a in
      ap (λ (w : Effects). assigned_by (value_of a_low) (a_low.operands (also w.assigned L)) e L k) (low-effects p f e) ∙
      ap (λ (t : Option ValueType). assigned_by t (a_low.operands (also (effects_of f e).assigned L)) e L k) (value-is p f a)

  pub assigned-made : {E : Type 0} {t : Option ValueType} {c c' : Place} {n : ℕ} {u : Unit {0}} {l l1 l2 l3 : List Named} {o o1 o2 : List Stmt} (L : Registers) (r : Result Expr E) (a : Place) (e : Expr) (o3 : List Stmt) →
      IsMade (place_of p f a (also (effects_of f e).assigned L)) c l l1 o o1 → t ≡ value_type p f a → n ≡ length l1 → l2 ≡ l1 ++ as_locals (t ∷ []) →
      IsMade (whole_of p f e t n L) u l2 l3 o1 o2 → c' ≡ c → IfOk r (λ v. v ≡ temp n) → OnOk r (o3 ≡ o2 ++ Do (Assign c' (temp n)) ∷ []) → Gives r (assigned_of p f a e L) l l3 o o3
  assigned-made {t = t} {c = c} {c' = c'} {n = n} {u = u} {l = l} {l1 = l1} {l2 = l2} {l3 = l3} {o = o} {o1 = o1} {o2 = o2} L (Ok v) a e o3 h own i j made q is put =
      let whole_as : Option ValueType → Place → ℕ → Make Expr = λ s b m. whole_of p f e s m L >>= (λ w. emit (Do (Assign b (temp m))) >>= (λ w. done (temp m))) in
      let all : Option ValueType → Make Expr = λ s. place_of p f a (also (effects_of f e).assigned L) >>= (λ b. fresh s >>= whole_as s b) in
      made_as (all t) (assigned-opens a e L (length l) ∙ ap (λ (s : Option ValueType). all s (length l)) (sym own))
      (made_then (λ b. fresh t >>= whole_as t b) h
      (made_then (whole_as t c) (made_fresh t n l1 l2 o1 i j)
      (made_then (λ w. emit (Do (Assign c (temp n))) >>= (λ w. done (temp n))) made
      (made_then (λ w. done (temp n)) (made_emit (Do (Assign c (temp n))) l3 o2 o3 (put ∙ ap (λ (z : Place). o2 ++ Do (Assign z (temp n)) ∷ []) q)) (made_kept (temp n) v l3 o3 is)))))
  assigned-made L (Err v) a e o3 h own i j made q is put = tt
