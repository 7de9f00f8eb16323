-- Statements that lowering makes are sound.
use Rattle.std.proofs.Common.{◌≡◌, ℕ, ℤ, Bool, true, ◌&&◌, List, [], ◌∷◌, ◌++◌, map, Option, Some, None, slice_get, refl, ap, sym, ◌∙◌}
use Rattle.std.specs.List.{list_all, flat_map}
use Rattle.cc_program.specs.CcNum.declared.int_type.IntType.{IntType}
use Rattle.cc_operand_types.specs.Reduced.{Reduced, Unused, Integers, Pointers, Functions}
use Rattle.cc_operand_types.proofs.Changes.{GoodLevel}
use Rattle.cc_operand_types.proofs.Typed.{reduced_typed}
use Rattle.cc_operand_types.proofs.Values.{scalar_reduced}
use Rattle.cc_program.specs.declared.expr.Expr.{Expr}
use Rattle.cc_program.specs.declared.func.Func.{Func}
use Rattle.cc_program.specs.declared.program.Program.{Program}
use Rattle.cc_program.specs.declared.stmt.Case.{Case}
use Rattle.cc_program.specs.declared.stmt.Stmt.{Stmt, If, While, Switch, Break, Continue, Return, roll-Stmt}
use Rattle.cc_program.specs.declared.stmt.Stmt.TheVariants.{rolls-If, rolls-While, rolls-Switch, rolls-Break, rolls-Continue, rolls-Return}
use Rattle.cc_program.specs.declared.stmt.Stmt.TheOpen as is
use Rattle.cc_program.proofs.Each.{Each, Held}
use Rattle.cc_eval.specs.CcSyntax.Statements.{SoundWhere, Labelled, is_condition, labels_fit, are_apart, has_label}
use Rattle.cc_eval.specs.CcSyntax.Types.{Named}
use Rattle.cc_eval.specs.CcSyntax.Values.{ValueType, Integer, is_scalar, is_assignable_some, scalar_value}
use Rattle.cc_eval.specs.CcSyntax.Views.{of_program}
use Rattle.cc_lower_sound.proofs.Bools.{two}
use Rattle.cc_lower_sound.proofs.Levels.{sound, case_of, sound_at, sound-roll, case-roll}
use Rattle.cc_lower_sound.proofs.LoweredBodies.{BodyReading, BodyLaws, IsCase, AreCases, joined, result}
use Rattle.cc_lower_sound.proofs.Readings.{typed}
use Rattle.cc_lower_sound.proofs.TypedReading.{reading, new, Valued, some_fits, reduces}

pub any_each : {A : Type 0} (xs : List A) → Each (λ (x : A). Unit {0}) xs
any_each [] = tt
any_each (x ∷ xs) = (tt, any_each xs)

any_held : {A : Type 0} (x : Option A) → Held (λ (x : A). Unit {0}) x
any_held None = tt
any_held (Some x) = tt

pub anything : (x : is.Stmt-F Stmt Case) → GoodLevel (λ e. Unit {0}) (λ s. Unit {0}) (λ k. Unit {0}) x
anything (is.Do e) = tt
anything (is.If e a b) = (tt, any_each a, any_each b)
anything (is.While e a) = (tt, any_each a)
anything (is.DoWhile a e) = (tt, any_each a)
anything (is.For first test again a) = (any_held first, any_held test, any_held again, any_each a)
anything (is.Switch e cases) = (tt, any_each cases)
anything is.Break = tt
anything is.Continue = tt
anything (is.Return e) = any_held e
anything is.Empty = tt
anything (is.Block a) = any_each a

reduced_integer : (u t : ValueType) (i : IntType) → Reduced u t → t ≡ Integer i → u ≡ Integer i
reduced_integer _ _ i (Unused u) e = absurd (cc)
reduced_integer _ _ i (Integers j) e = e
reduced_integer _ _ i (Pointers c v t c' v' u a k l) e = absurd (cc)
reduced_integer _ _ i (Functions s) e = absurd (cc)

module _ (p : Program) (f : Func) (locals : List Named) where
  abbrev typing : Expr → Option ValueType
  typing e = new p f locals (result f) e

  abbrev is_sound : Stmt → SoundWhere
  is_sound s = sound p.target typing (result f) s

  abbrev pub body_reading : BodyReading
  body_reading = record { StmAt = λ b c s. is_sound s b c ≡ true; OldStmt = λ s. Unit {0}; OldCase = λ k. Unit {0} }

  pub all_sound : (xs : List Stmt) (b c : Bool) → Each (λ (s : Stmt). is_sound s b c ≡ true) xs → list_all (λ (s : SoundWhere). s b c) (map is_sound xs) ≡ true
  all_sound [] b c h = refl
  all_sound (s ∷ xs) b c h = two (is_sound s b c) (list_all (λ (s : SoundWhere). s b c) (map is_sound xs)) h.0 (all_sound xs b c h.1)

  opened : (s : Stmt) (x : is.Stmt-F Stmt Case) → roll-Stmt x ≡ s → (b c : Bool) → sound_at p.target typing (result f) x b c ≡ true → is_sound s b c ≡ true
  opened s x e b c h = ap (λ (s : Stmt). is_sound s b c) (sym e) ∙ ap (λ (g : SoundWhere). g b c) (sound-roll p.target typing (result f) x) ∙ h

  fork_sound : (b c : Bool) (t : ValueType) (e : Expr) (xs ys : List Stmt) → is_scalar t ≡ true → Valued p f locals (result f) t e → Each (λ (s : Stmt). is_sound s b c ≡ true) xs → Each (λ (s : Stmt). is_sound s b c ≡ true) ys → is_sound (If e xs ys) b c ≡ true
  fork_sound b c t e xs ys s x h k =
      opened (If e xs ys) (is.If e xs ys) (rolls-If e xs ys) b c
      (two (is_condition (typing e)) (list_all (λ (s : SoundWhere). s b c) (map is_sound xs) && list_all (λ (s : SoundWhere). s b c) (map is_sound ys)) (ap is_condition x.1 ∙ scalar_reduced x.0 t x.2 s)
      (two (list_all (λ (s : SoundWhere). s b c) (map is_sound xs)) (list_all (λ (s : SoundWhere). s b c) (map is_sound ys)) (all_sound xs b c h) (all_sound ys b c k)))

  -- ---- cases

  abbrev labelled : Case → Labelled
  labelled k = case_of p.target typing (result f) k

  case-is : (c : Bool) (l : List (Option ℤ)) (k : Case) (h : IsCase body_reading c l k) → labelled k ≡ record { labels = l; body = λ b c. list_all (λ (s : SoundWhere). s b c) (map is_sound h.body) }
  case-is c l k h = ap labelled h.is ∙ case-roll p.target typing (result f) (record { labels = l; body = h.body })

  cases-labels : (c : Bool) (ls : List (List (Option ℤ))) (ks : List Case) → AreCases body_reading c ls ks → flat_map (λ (x : Labelled). x.labels) (map labelled ks) ≡ joined ls
  cases-labels c [] [] h = refl
  cases-labels c [] (k ∷ ks) h = absurd h
  cases-labels c (l ∷ ls) [] h = absurd h
  cases-labels c (l ∷ ls) (k ∷ ks) h =
      ap (λ (x : List (Option ℤ)). x ++ flat_map (λ (x : Labelled). x.labels) (map labelled ks)) (ap (λ (x : Labelled). x.labels) (case-is c l k h.0)) ∙ ap (λ (x : List (Option ℤ)). l ++ x) (cases-labels c ls ks h.1)

  cases-have : (c : Bool) (ls : List (List (Option ℤ))) (ks : List Case) → AreCases body_reading c ls ks → list_all (λ (x : Labelled). has_label x.labels) (map labelled ks) ≡ list_all has_label ls
  cases-have c [] [] h = refl
  cases-have c [] (k ∷ ks) h = absurd h
  cases-have c (l ∷ ls) [] h = absurd h
  cases-have c (l ∷ ls) (k ∷ ks) h =
      ap (λ (x : Labelled). has_label x.labels && list_all (λ (x : Labelled). has_label x.labels) (map labelled ks)) (case-is c l k h.0) ∙ ap (λ (b : Bool). has_label l && b) (cases-have c ls ks h.1)

  cases_sound : (c : Bool) (ls : List (List (Option ℤ))) (ks : List Case) → AreCases body_reading c ls ks → list_all (λ (x : Labelled). x.body true c) (map labelled ks) ≡ true
  cases_sound c [] [] h = refl
  cases_sound c [] (k ∷ ks) h = absurd h
  cases_sound c (l ∷ ls) [] h = absurd h
  cases_sound c (l ∷ ls) (k ∷ ks) h =
      two ((labelled k).body true c) (list_all (λ (x : Labelled). x.body true c) (map labelled ks)) (ap (λ (x : Labelled). x.body true c) (case-is c l k h.0) ∙ all_sound h.0.body true c h.0.each) (cases_sound c ls ks h.1)

  switch_sound : (b c : Bool) (i : IntType) (e : Expr) (ls : List (List (Option ℤ))) (ks : List Case) → Valued p f locals (result f) (Integer i) e → labels_fit p.target (joined ls) (Some (Integer i)) ≡ true → are_apart (joined ls) ≡ true → list_all has_label ls ≡ true →
      AreCases body_reading c ls ks → is_sound (Switch e ks) b c ≡ true
  switch_sound b c i e ls ks x fit apart has cs =
      let all : List (Option ℤ) = flat_map (λ (x : Labelled). x.labels) (map labelled ks) in
      let g = cases-labels c ls ks cs in
      let t : typing e ≡ Some (Integer i) = x.1 ∙ ap Some (reduced_integer x.0 (Integer i) i x.2 refl) in
      opened (Switch e ks) (is.Switch e ks) (rolls-Switch e ks) b c
      (two (labels_fit p.target all (typing e)) (are_apart all && (list_all (λ (x : Labelled). has_label x.labels) (map labelled ks) && list_all (λ (x : Labelled). x.body true c) (map labelled ks)))
      (ap (λ (l : List (Option ℤ)). labels_fit p.target l (typing e)) g ∙ ap (labels_fit p.target (joined ls)) t ∙ fit)
      (two (are_apart all) (list_all (λ (x : Labelled). has_label x.labels) (map labelled ks) && list_all (λ (x : Labelled). x.body true c) (map labelled ks)) (ap are_apart g ∙ apart)
      (two (list_all (λ (x : Labelled). has_label x.labels) (map labelled ks)) (list_all (λ (x : Labelled). x.body true c) (map labelled ks)) (cases-have c ls ks cs ∙ has) (cases_sound c ls ks cs))))

  module _ (kept : (r : ℕ) (l : Named) → slice_get f.locals r ≡ Some l → slice_get locals r ≡ Some l) where
    condition_kept : (e : Expr) (o : Option ValueType) → typed p f e ≡ o → is_condition o ≡ true → is_condition (typing e) ≡ true
    condition_kept e None h k = absurd (cc)
    condition_kept e (Some t) h k = let g = reduced_typed (of_program p) locals f.locals (reduces p f locals (result f) kept) e t h in ap is_condition g.1 ∙ scalar_reduced g.0 t g.2 k

    pub body_laws : BodyLaws p f (reading p f locals (result f)) body_reading
    body_laws = record {
      old = λ x h. anything x;
      old_case = λ x h. any_each x.body;
      here = λ b c s h. h b c;
      fork = fork_sound;
      loop = λ b c e xs o h z k. opened (While e xs) (is.While e xs) (rolls-While e xs) b c
          (two (is_condition (typing e)) (list_all (λ (s : SoundWhere). s true true) (map is_sound xs)) (condition_kept e (typed p f e) refl h) (all_sound xs true true k));
      switch = switch_sound;
      break = λ b c h. opened Break is.Break rolls-Break b c h;
      continue = λ b c h. opened Continue is.Continue rolls-Continue b c h;
      leave = λ b c h. opened (Return None) (is.Return None) (rolls-Return None) b c h;
      give = λ b c t e h s x. opened (Return (Some e)) (is.Return (Some e)) (rolls-Return (Some e)) b c (ap (is_assignable_some (scalar_value (result f))) x.1 ∙ some_fits (scalar_value (result f)) t x.0 x.2 h);
    }
