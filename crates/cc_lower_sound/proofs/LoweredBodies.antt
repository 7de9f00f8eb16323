-- All that lowering makes of statements is as it should be, where the loops of their source are all `while (1)`.
use Rattle.std.proofs.Common.{◌≡◌, ℕ, ℤ, Bool, true, false, ◌&&◌, List, [], ◌∷◌, ◌++◌, map, Option, Some, None, is_some, refl, ap, sym, ◌∙◌, subst}
use Rattle.std.specs.List.{list_all, flat_map}
use Rattle.cc_program.specs.CcNum.declared.int_type.IntType.{IntType}
use Rattle.cc_program.specs.CcNum.declared.int_type.IntType.TheVariants as int
use Rattle.cc_lower_expressions.specs.Expressions.{Piece, Make, done, ◌>>=◌, emit, fork}
use Rattle.cc_lower_expressions.specs.Statements.{in_turn, all_made, if_operand, Condition, guard_by, condition_step, place_itself, condition, choice, returned, lower_in, lower_case_in, lower, lower_case, lower_list}
use Rattle.cc_operand_types.proofs.Changes.{GoodLevel}
use Rattle.cc_program.specs.declared.expr.Expr.{Expr, roll-Expr, map-Expr, fold-roll-Expr}
use Rattle.cc_program.specs.declared.expr.Expr.TheOpen as one
use Rattle.cc_program.specs.declared.expr.Place.{Place, roll-Place, fold-Place}
use Rattle.cc_program.specs.declared.func.Func.{Func}
use Rattle.cc_program.specs.declared.program.Program.{Program}
use Rattle.cc_program.specs.declared.stmt.Case.{Case, roll-Case, fold-roll-Case}
use Rattle.cc_program.specs.declared.stmt.Stmt.{Stmt, If, While, Switch, Break, Continue, Return, roll-Stmt, map-Stmt, fold-roll-Stmt}
use Rattle.cc_program.specs.declared.stmt.Stmt.TheOpen as is
use Rattle.cc_program.specs.declared.types.CType.{CType}
use Rattle.cc_program.specs.declared.types.Sig.{out-Sig}
use Rattle.cc_program.proofs.Each.{Each, Held}
use Rattle.cc_program.proofs.ExprInduction.{Parts, by_expr}
use Rattle.cc_program.proofs.FoldFusion.{fused}
use Rattle.cc_program.proofs.StmtInduction.{StmtParts, CaseParts, by_stmts}
use Rattle.cc_eval.specs.CcSyntax.Effects.{no_one, Registers, also}
use Rattle.cc_eval.specs.CcSyntax.Expressions.{of_two}
use Rattle.cc_eval.specs.CcSyntax.Forms.{form_of}
use Rattle.cc_eval.specs.CcSyntax.Normal.{is_one}
use Rattle.cc_eval.specs.CcSyntax.Operators.{when, logical_type}
use Rattle.cc_eval.specs.CcSyntax.Statements.{SoundWhere, Labelled, is_condition, labels_fit, are_apart, has_label, returns}
use Rattle.cc_eval.specs.CcSyntax.Values.{ValueType, NoValue, Integer, ToObject, ToFunction, is_scalar, is_void, is_assignable_some, scalar_value}
use Rattle.cc_lower_sound.specs.Statements.{is_plain, are_plain}
use Rattle.cc_lower_sound.proofs.Bools.{first_true, second_true}
use Rattle.cc_lower_sound.proofs.Levels.{type_at, type-roll, sound, case_of, sound_at, sound-roll, case-roll}
use Rattle.cc_lower_sound.proofs.LoweringParts.{low, rolled}
use Rattle.cc_lower_sound.proofs.LoweredCalls.{is_argument}
use Rattle.cc_lower_sound.proofs.Pieces.{Any, Gives, gives_done, gives_bind, gives_under, gives_emit, gives_if, gives_fork, gives_both, gives_where}
use Rattle.cc_lower_sound.proofs.PlainStatements.{case_plain, plain_at, plain-roll, case-plain-roll}
use Rattle.cc_lower_sound.proofs.Readings.{Reading, Laws, view, typed, IsLowered}
use Rattle.cc_lower_sound.proofs.Lowered.{lowered as all_lowered, is_declared}

-- a reading of statements: what they are by where they stand, and what their sources are
pub record BodyReading : Type 1 where
  pub StmAt : Bool → Bool → Stmt → Type 0
  pub OldStmt : Stmt → Type 0
  pub OldCase : Case → Type 0

-- a case with these labels
module _ (u : BodyReading) (continues : Bool) where
  pub record IsCase (labels : List (Option ℤ)) (k : Case) : Type 0 where
    pub body : List Stmt
    pub is : k ≡ roll-Case (record { labels = labels; body = body })
    pub each : Each (u.StmAt true continues) body

  abbrev pub AreCases : List (List (Option ℤ)) → List Case → Type 0
  AreCases [] [] = Unit {0}
  AreCases [] (k ∷ ks) = ⊥
  AreCases (l ∷ ls) [] = ⊥
  AreCases (l ∷ ls) (k ∷ ks) = IsCase l k × AreCases ls ks

abbrev pub joined : List (List (Option ℤ)) → List (Option ℤ)
joined ls = flat_map (λ l. l) ls

abbrev pub result : Func → CType
result f = (out-Sig f.sig).result

module _ (p : Program) (f : Func) (w : Reading) (u : BodyReading) where
  pub record BodyLaws : Type 0 where
    pub old : (x : is.Stmt-F Stmt Case) → u.OldStmt (roll-Stmt x) → GoodLevel w.Old u.OldStmt u.OldCase x
    pub old_case : (x : is.Case-F Stmt Case) → u.OldCase (roll-Case x) → Each u.OldStmt x.body
    pub here : (b c : Bool) (s : Stmt) → w.Stm s → u.StmAt b c s
    pub fork : (b c : Bool) (t : ValueType) (e : Expr) (xs ys : List Stmt) → is_scalar t ≡ true → w.Val t e → Each (u.StmAt b c) xs → Each (u.StmAt b c) ys → u.StmAt b c (If e xs ys)
    pub loop : (b c : Bool) (e : Expr) (xs : List Stmt) → is_one (form_of e) ≡ true → is_condition (typed p f e) ≡ true → w.Old e → Each (u.StmAt true true) xs → u.StmAt b c (While e xs)
    pub switch : (b c : Bool) (i : IntType) (e : Expr) (ls : List (List (Option ℤ))) (ks : List Case) → w.Val (Integer i) e → labels_fit p.target (joined ls) (Some (Integer i)) ≡ true → are_apart (joined ls) ≡ true → list_all has_label ls ≡ true →
        AreCases u c ls ks → u.StmAt b c (Switch e ks)
    pub break : (b c : Bool) → b ≡ true → u.StmAt b c Break
    pub continue : (b c : Bool) → c ≡ true → u.StmAt b c Continue
    pub leave : (b c : Bool) → is_void (result f) ≡ true → u.StmAt b c (Return None)
    pub give : (b c : Bool) (t : ValueType) (e : Expr) → is_assignable_some (scalar_value (result f)) (Some t) ≡ true → is_scalar t ≡ true → w.Val t e → u.StmAt b c (Return (Some e))

  module _ (laws : Laws p f w) (more : BodyLaws) (standing : (e : Expr) (t : ValueType) → typed p f e ≡ Some t → w.stands t ≡ true)
      (declared : (x : one.Expr-F Expr Place) (t : ValueType) → is_declared x ≡ true → typed p f (roll-Expr x) ≡ Some t → w.declares t ≡ true) where
    abbrev pub MakesAt : Bool → Bool → Type 0 → {A : Type 0} → (A → Type 0) → (ℕ → Piece A) → Type 0
    MakesAt b c P V m = Gives w.declares w.Temp (u.StmAt b c) P V m

    is_lowered : (e : Expr) (t : ValueType) → typed p f e ≡ Some t → w.Old e → IsLowered p f w t (low p f e)
    is_lowered e t h o = all_lowered p f w laws standing declared e t h o

    operand_at : (b c : Bool) (e : Expr) (t : ValueType) → typed p f e ≡ Some t → is_scalar t ≡ true → w.Old e → MakesAt b c (Unit {0}) (w.Val t) ((low p f e).operand no_one)
    operand_at b c e t h s o = gives_where (λ x y. more.here b c x y) ((is_lowered e t h o).operand s no_one)

    -- ---- conditions of an `if` without `else`

    condition_there : (o : Option ValueType) → is_condition o ≡ true → (t : ValueType) × (o ≡ Some t) × (is_scalar t ≡ true)
    condition_there None h = absurd (cc)
    condition_there (Some t) h = (t, refl, h)

    if_operand_made : (b c : Bool) (e : Expr) (t : ValueType) → typed p f e ≡ Some t → is_scalar t ≡ true → w.Old e → (later : Registers) (these : Make (Unit {0})) → MakesAt b c (Unit {0}) Any these →
        MakesAt b c (Unit {0}) Any (if_operand (low p f e) later these)
    if_operand_made b c e t h s o later these m =
        gives_bind ((low p f e).operand later) (λ v. fork v these (done tt)) (gives_where (λ x y. more.here b c x y) ((is_lowered e t h o).operand s later))
        (λ v. gives_fork v these (done tt) (gives_under (λ q. tt) m) (gives_done tt (λ q. tt)) (λ q xs ys hx hy. more.fork b c t v xs ys s q.1 hx hy))

    module _ (b c : Bool) where
      abbrev Guards : Expr → Type 0
      Guards e = is_condition (typed p f e) ≡ true → w.Old e → (later : Registers) (these : Make (Unit {0})) → MakesAt b c (Unit {0}) Any these → MakesAt b c (Unit {0}) Any ((condition p f e).guard later these)

      abbrev guarded : one.Expr-F Expr Place → one.Expr-F Condition Place
      guarded x = map-Expr Expr Place Condition Place (condition p f) (fold-Place Condition Place (condition_step p f) (place_itself p f)) x

      -- where it is an operand
      by_operand : (e : Expr) → is_condition (typed p f e) ≡ true → w.Old e → (later : Registers) (these : Make (Unit {0})) → MakesAt b c (Unit {0}) Any these → MakesAt b c (Unit {0}) Any (if_operand (low p f e) later these)
      by_operand e h o later these m = let t = condition_there (typed p f e) h in if_operand_made b c e t.0 t.1 t.2 o later these m

      abbrev GuardsAt : Expr → one.Expr-F Expr Place → Type 0
      GuardsAt e x = (later : Registers) (these : Make (Unit {0})) → MakesAt b c (Unit {0}) Any these → MakesAt b c (Unit {0}) Any (guard_by p f (low p f e) (guarded x) later these)

      -- the registers that the second operand of an `&&` assigns, as the definition finds them
      abbrev behind : Expr → Registers → Registers
      behind d later = also (low p f (condition p f d).itself).effects.assigned later

      both_parts : (o q : Option ValueType) → is_condition (of_two o q logical_type) ≡ true → (is_condition o ≡ true) × (is_condition q ≡ true)
      both_parts None q h = absurd (cc)
      both_parts (Some t) None h = absurd (cc)
      both_parts (Some t) (Some s) h = parts_by (is_scalar t) (is_scalar s) h
        where
          parts_by : (x y : Bool) → is_condition (when (x && y) (Integer int.Int)) ≡ true → (x ≡ true) × (y ≡ true)
          parts_by true true h = (refl, refl)
          parts_by true false h = absurd (cc)
          parts_by false y h = absurd (cc)

      guards_at : (e : Expr) (x : one.Expr-F Expr Place) → Parts Guards (λ a. Unit {0}) x → Parts w.Old w.OldPlace x → is_condition (typed p f e) ≡ true → is_condition (type_at (view p f) f.locals x) ≡ true → w.Old e → GuardsAt e x
      guards_at e (one.Both a d) q r h k o = λ later these m.
          let t = both_parts (typed p f a) (typed p f d) k in
          gives_if ((low p f e).effects.pure later) (if_operand (low p f e) later these) ((condition p f a).guard (behind d later) ((condition p f d).guard later these)) (λ z. by_operand e h o later these m)
          (λ z. q.0 t.0 r.0 (behind d later) ((condition p f d).guard later these) (q.1 t.1 r.1 later these m))
      guards_at e (one.Const n i) q r h k o = by_operand e h o
      guards_at e (one.Null i) q r h k o = by_operand e h o
      guards_at e (one.FuncAddr g) q r h k o = by_operand e h o
      guards_at e (one.Load a) q r h k o = by_operand e h o
      guards_at e (one.AddrOf a) q r h k o = by_operand e h o
      guards_at e (one.Un op i a) q r h k o = by_operand e h o
      guards_at e (one.Bin op i a d) q r h k o = by_operand e h o
      guards_at e (one.Conv i a) q r h k o = by_operand e h o
      guards_at e (one.Qualify i a) q r h k o = by_operand e h o
      guards_at e (one.Move a d back) q r h k o = by_operand e h o
      guards_at e (one.Gap a d) q r h k o = by_operand e h o
      guards_at e (one.Compare op a d) q r h k o = by_operand e h o
      guards_at e (one.Either a d) q r h k o = by_operand e h o
      guards_at e (one.Choose z a d) q r h k o = by_operand e h o
      guards_at e (one.Assign a d) q r h k o = by_operand e h o
      guards_at e (one.Change a op i d) q r h k o = by_operand e h o
      guards_at e (one.After a down) q r h k o = by_operand e h o
      guards_at e (one.Call g args) q r h k o = by_operand e h o
      guards_at e (one.Intr i a) q r h k o = by_operand e h o
      guards_at e (one.Seq a d) q r h k o = by_operand e h o

      condition-roll : (x : one.Expr-F Expr Place) → condition p f (roll-Expr x) ≡ condition_step p f (guarded x)
      unfolding condition
      condition-roll x = fold-roll-Expr Condition Place (condition_step p f) (place_itself p f) x

      condition-itself : (e : Expr) → (condition p f e).itself ≡ e
      unfolding condition
      condition-itself e = fused (condition_step p f) (place_itself p f) roll-Expr roll-Place (λ c. c.itself) (λ a. a) (λ x. refl) (λ x. refl) e ∙ rolled p f e

      guards_level : (x : one.Expr-F Expr Place) → Parts Guards (λ a. Unit {0}) x → Guards (roll-Expr x)
      guards_level x q h o =
          let is : (condition_step p f (guarded x)).itself ≡ roll-Expr x = ap (λ (z : Condition). z.itself) (sym (condition-roll x)) ∙ condition-itself (roll-Expr x) in
          let k : is_condition (type_at (view p f) f.locals x) ≡ true = ap is_condition (sym (type-roll (view p f) f.locals x)) ∙ h in
          subst (λ (z : Condition). (later : Registers) (these : Make (Unit {0})) → MakesAt b c (Unit {0}) Any these → MakesAt b c (Unit {0}) Any (z.guard later these)) (sym (condition-roll x))
          (subst (λ (e : Expr). (later : Registers) (these : Make (Unit {0})) → MakesAt b c (Unit {0}) Any these → MakesAt b c (Unit {0}) Any (guard_by p f (low p f e) (guarded x) later these)) (sym is) (guards_at (roll-Expr x) x q (laws.parts x o) h k o))

      guards : (e : Expr) → Guards e
      guards = by_expr Guards (λ a. Unit {0}) guards_level (λ x h. tt)

    -- ---- statements

    abbrev is_sound : Stmt → SoundWhere
    is_sound s = sound p.target (typed p f) (result f) s

    abbrev labelled : Case → Labelled
    labelled k = case_of p.target (typed p f) (result f) k

    abbrev all_sound : List Stmt → Bool → Bool → Bool
    all_sound list b c = list_all (λ (s : SoundWhere). s b c) (map is_sound list)

    abbrev Keeps : Stmt → Type 0
    Keeps s = (b c : Bool) → is_sound s b c ≡ true → is_plain s ≡ true → u.OldStmt s → MakesAt b c (Unit {0}) Any (lower p f s)

    abbrev CaseKeeps : Case → Type 0
    CaseKeeps k = (b c : Bool) → (labelled k).body true c ≡ true → case_plain k ≡ true → u.OldCase k → MakesAt b c (Unit {0}) (IsCase u c (labelled k).labels) (lower_case p f k)

    list_made : (list : List Stmt) → Each Keeps list → (b c : Bool) → all_sound list b c ≡ true → are_plain list ≡ true → Each u.OldStmt list → MakesAt b c (Unit {0}) Any (in_turn (map (lower p f) list))
    list_made [] q b c h k o = gives_done tt (λ z. tt)
    list_made (s ∷ list) q b c h k o =
        gives_bind (lower p f s) (λ z. in_turn (map (lower p f) list)) (q.0 b c (first_true (is_sound s b c) (all_sound list b c) h) (first_true (is_plain s) (are_plain list) k) o.0)
        (λ z. gives_under (λ z. tt) (list_made list q.1 b c (second_true (is_sound s b c) (all_sound list b c) h) (second_true (is_plain s) (are_plain list) k) o.1))

    cases_made : (list : List Case) → Each CaseKeeps list → (b c : Bool) → list_all (λ (x : Labelled). x.body true c) (map labelled list) ≡ true → list_all (λ b. b) (map case_plain list) ≡ true → Each u.OldCase list →
        MakesAt b c (Unit {0}) (AreCases u c (map (λ (k : Case). (labelled k).labels) list)) (all_made (map (lower_case p f) list))
    cases_made [] q b c h k o = gives_done [] (λ z. tt)
    cases_made (x ∷ list) q b c h k o =
        gives_both (λ y ys. y ∷ ys) (lower_case p f x) (all_made (map (lower_case p f) list)) (λ y ys z v vs. (v, vs))
        (q.0 b c (first_true ((labelled x).body true c) (list_all (λ (x : Labelled). x.body true c) (map labelled list)) h) (first_true (case_plain x) (list_all (λ b. b) (map case_plain list)) k) o.0)
        (cases_made list q.1 b c (second_true ((labelled x).body true c) (list_all (λ (x : Labelled). x.body true c) (map labelled list)) h) (second_true (case_plain x) (list_all (λ b. b) (map case_plain list)) k) o.1)

    labels-joined : (list : List Case) → flat_map (λ (x : Labelled). x.labels) (map labelled list) ≡ joined (map (λ (k : Case). (labelled k).labels) list)
    labels-joined [] = refl
    labels-joined (k ∷ list) = ap (λ (l : List (Option ℤ)). (labelled k).labels ++ l) (labels-joined list)

    has-joined : (list : List Case) → list_all (λ (x : Labelled). has_label x.labels) (map labelled list) ≡ list_all has_label (map (λ (k : Case). (labelled k).labels) list)
    has-joined [] = refl
    has-joined (k ∷ list) = ap (λ (z : Bool). has_label (labelled k).labels && z) (has-joined list)

    -- an `else` that is there, or not
    choice_made : (e : Expr) (these those : List Stmt) (b c : Bool) → is_condition (typed p f e) ≡ true → w.Old e → MakesAt b c (Unit {0}) Any (in_turn (map (lower p f) these)) → MakesAt b c (Unit {0}) Any (in_turn (map (lower p f) those)) →
        MakesAt b c (Unit {0}) Any (choice p f e (map (lower p f) these) (map (lower p f) those))
    choice_made e these [] b c h o m n = guards b c e h o no_one (in_turn (map (lower p f) these)) m
    choice_made e these (s ∷ those) b c h o m n =
        let t = condition_there (typed p f e) h in
        gives_bind ((low p f e).operand no_one) (λ v. fork v (in_turn (map (lower p f) these)) (in_turn (map (lower p f) (s ∷ those)))) (operand_at b c e t.0 t.1 t.2 o)
        (λ v. gives_fork v (in_turn (map (lower p f) these)) (in_turn (map (lower p f) (s ∷ those))) (gives_under (λ q. tt) m) (gives_under (λ q. tt) n) (λ q xs ys hx hy. more.fork b c t.0 v xs ys t.2 q.1 hx hy))

    -- what a `switch` chooses by is an integer
    integer_there : (ls : List (Option ℤ)) (o : Option ValueType) → labels_fit p.target ls o ≡ true → (i : IntType) × (o ≡ Some (Integer i))
    integer_there ls None h = absurd (cc)
    integer_there ls (Some NoValue) h = absurd (cc)
    integer_there ls (Some (Integer i)) h = (i, refl)
    integer_there ls (Some (ToObject c v t)) h = absurd (cc)
    integer_there ls (Some (ToFunction s)) h = absurd (cc)

    switch_made : (e : Expr) (cases : List Case) → Each CaseKeeps cases → (b c : Bool) → sound_at p.target (typed p f) (result f) (is.Switch e cases) b c ≡ true → list_all (λ b. b) (map case_plain cases) ≡ true → w.Old e → Each u.OldCase cases →
        MakesAt b c (Unit {0}) Any ((low p f e).operand no_one >>= (λ v. all_made (map (lower_case p f) cases) >>= (λ cs. emit (Switch v cs))))
    switch_made e cases q b c h k o d =
        let ls : List (Option ℤ) = flat_map (λ (x : Labelled). x.labels) (map labelled cases) in
        let fit = first_true (labels_fit p.target ls (typed p f e)) _ h in
        let r = second_true (labels_fit p.target ls (typed p f e)) _ h in
        let apart = first_true (are_apart ls) _ r in
        let s = second_true (are_apart ls) _ r in
        let has = first_true (list_all (λ (x : Labelled). has_label x.labels) (map labelled cases)) _ s in
        let bodies = second_true (list_all (λ (x : Labelled). has_label x.labels) (map labelled cases)) _ s in
        let t = integer_there ls (typed p f e) fit in
        let all : List (List (Option ℤ)) = map (λ (k : Case). (labelled k).labels) cases in
        gives_bind ((low p f e).operand no_one) (λ v. all_made (map (lower_case p f) cases) >>= (λ cs. emit (Switch v cs))) (operand_at b c e (Integer t.0) t.1 refl o)
        (λ v. gives_bind (all_made (map (lower_case p f) cases)) (λ cs. emit (Switch v cs)) (gives_under (λ z. tt) (cases_made cases q b c bodies k d))
        (λ cs. gives_emit (Switch v cs) (λ z. more.switch b c t.0 v all cs z.0.1
        (ap (λ (l : List (Option ℤ)). labels_fit p.target l (Some (Integer t.0))) (sym (labels-joined cases)) ∙ ap (labels_fit p.target ls) (sym t.1) ∙ fit)
        (ap are_apart (sym (labels-joined cases)) ∙ apart) (sym (has-joined cases) ∙ has) z.1)))

    returned_made : (e : Option Expr) (b c : Bool) → returns p.target (typed p f) (result f) e ≡ true → Held w.Old e → MakesAt b c (Unit {0}) Any (returned p f e)
    returned_made None b c h o = gives_emit (Return None) (λ z. more.leave b c h)
    returned_made (Some e) b c h o =
        let t = is_argument (scalar_value (result f)) (typed p f e) h in
        gives_bind ((low p f e).operand no_one) (λ v. emit (Return (Some v))) (operand_at b c e t.type t.is t.scalar o) (λ v. gives_emit (Return (Some v)) (λ z. more.give b c t.type v t.fits t.scalar z.1))

    some_there : (o : Option ValueType) → is_some o ≡ true → (t : ValueType) × (o ≡ Some t)
    some_there None h = absurd (cc)
    some_there (Some t) h = (t, refl)

    level_made : (x : is.Stmt-F Stmt Case) → StmtParts Keeps CaseKeeps x → (b c : Bool) → sound_at p.target (typed p f) (result f) x b c ≡ true → plain_at x ≡ true → GoodLevel w.Old u.OldStmt u.OldCase x →
        MakesAt b c (Unit {0}) Any (lower_in p f (map-Stmt Stmt Case (Make (Unit {0})) (Make Case) (lower p f) (lower_case p f) x))
    level_made (is.Do e) q b c h k o = let t = some_there (typed p f e) h in gives_where (λ x y. more.here b c x y) ((is_lowered e t.0 t.1 o).effect no_one)
    level_made (is.If e these those) q b c h k o =
        let r = second_true (is_condition (typed p f e)) (all_sound these b c && all_sound those b c) h in
        choice_made e these those b c (first_true (is_condition (typed p f e)) (all_sound these b c && all_sound those b c) h) o.0
        (list_made these q.0 b c (first_true (all_sound these b c) (all_sound those b c) r) (first_true (are_plain these) (are_plain those) k) o.1)
        (list_made those q.1 b c (second_true (all_sound these b c) (all_sound those b c) r) (second_true (are_plain these) (are_plain those) k) o.2)
    level_made (is.While e body) q b c h k o =
        let m = list_made body q true true (second_true (is_condition (typed p f e)) (all_sound body true true) h) (second_true (is_one (form_of e)) (are_plain body) k) o.1 in
        record {
          good = m.good;
          made = λ n z d. ((more.loop b c e (in_turn (map (lower p f) body) n).stmts (first_true (is_one (form_of e)) (are_plain body) k) (first_true (is_condition (typed p f e)) (all_sound body true true) h) o.0 (m.made n z d).0, tt), tt);
        }
    level_made (is.DoWhile body e) q b c h k o = absurd (cc)
    level_made (is.For first test again body) q b c h k o = absurd (cc)
    level_made (is.Switch e cases) q b c h k o = switch_made e cases q b c h k o.0 o.1
    level_made is.Break q b c h k o = gives_emit Break (λ z. more.break b c h)
    level_made is.Continue q b c h k o = gives_emit Continue (λ z. more.continue b c h)
    level_made (is.Return e) q b c h k o = returned_made e b c h o
    level_made is.Empty q b c h k o = absurd (cc)
    level_made (is.Block body) q b c h k o = absurd (cc)

    lower-rolls : (x : is.Stmt-F Stmt Case) → lower p f (roll-Stmt x) ≡ lower_in p f (map-Stmt Stmt Case (Make (Unit {0})) (Make Case) (lower p f) (lower_case p f) x)
    unfolding lower lower_case
    lower-rolls x = fold-roll-Stmt (Make (Unit {0})) (Make Case) (lower_in p f) (lower_case_in p f) x

    lower-case-rolls : (x : is.Case-F Stmt Case) → lower_case p f (roll-Case x) ≡ lower_case_in p f (record { labels = x.labels; body = map (lower p f) x.body })
    unfolding lower lower_case
    lower-case-rolls x = fold-roll-Case (Make (Unit {0})) (Make Case) (lower_in p f) (lower_case_in p f) x

    level : (x : is.Stmt-F Stmt Case) → StmtParts Keeps CaseKeeps x → Keeps (roll-Stmt x)
    level x q b c h k o =
        subst (λ (m : Make (Unit {0})). MakesAt b c (Unit {0}) Any m) (sym (lower-rolls x))
        (level_made x q b c (ap (λ (g : SoundWhere). g b c) (sym (sound-roll p.target (typed p f) (result f) x)) ∙ h) (sym (plain-roll x) ∙ k) (more.old x o))

    case_made : (x : is.Case-F Stmt Case) (b c : Bool) → MakesAt true c (Unit {0}) Any (in_turn (map (lower p f) x.body)) → MakesAt b c (Unit {0}) (IsCase u c x.labels) (lower_case_in p f (record { labels = x.labels; body = map (lower p f) x.body }))
    case_made x b c m = record {
      good = m.good;
      made = λ n z d. (tt, record { body = (in_turn (map (lower p f) x.body) n).stmts; is = refl; each = (m.made n z d).0 });
    }

    case_level : (x : is.Case-F Stmt Case) → CaseParts Keeps CaseKeeps x → CaseKeeps (roll-Case x)
    case_level x q b c h k o =
        let e = case-roll p.target (typed p f) (result f) x in
        subst (λ (m : Make Case). MakesAt b c (Unit {0}) (IsCase u c (labelled (roll-Case x)).labels) m) (sym (lower-case-rolls x))
        (subst (λ (ls : List (Option ℤ)). MakesAt b c (Unit {0}) (IsCase u c ls) (lower_case_in p f (record { labels = x.labels; body = map (lower p f) x.body }))) (sym (ap (λ (l : Labelled). l.labels) e))
        (case_made x b c (list_made x.body q true c (ap (λ (l : Labelled). l.body true c) (sym e) ∙ h) (sym (case-plain-roll x) ∙ k) (more.old_case x o))))

    pub body_made : (list : List Stmt) → all_sound list false false ≡ true → are_plain list ≡ true → Each u.OldStmt list → MakesAt false false (Unit {0}) Any (lower_list p f list)
    body_made list h k o = list_made list (by_stmts Keeps CaseKeeps level case_level list) false false h k o
