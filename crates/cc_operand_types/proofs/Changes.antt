-- Statements stay sound where their expressions are changed so that their types keep what statements ask of them.
use Rattle.std.proofs.Common.{◌≡◌, ℤ, Bool, true, false, ◌&&◌, List, [], ◌∷◌, map, Option, Some, None, option_map, refl, ap, sym, ◌∙◌}
use Rattle.std.specs.List.{list_all, flat_map}
use Rattle.cc_program.specs.CcNum.declared.target.Target.{Target}
use Rattle.cc_program.specs.declared.expr.Expr.{Expr}
use Rattle.cc_program.specs.declared.stmt.Case.{Case, roll-Case, fold-Case, fold-roll-Case}
use Rattle.cc_program.specs.declared.stmt.Stmt.{Stmt, roll-Stmt, map-Stmt, fold-roll-Stmt}
use Rattle.cc_program.specs.declared.stmt.Stmt.TheOpen as is
use Rattle.cc_program.specs.declared.types.CType.{CType}
use Rattle.cc_program.proofs.Each.{Each, Held}
use Rattle.cc_program.proofs.StmtInduction.{StmtParts, CaseParts, by_stmt}
use Rattle.cc_operands.specs.CcSyntax.Statements.{SoundWhere, Labelled, sound_case, labels_fit, are_apart, has_label, is_condition, is_sound_stmt, is_sound_body, sound_step, is_typed, is_optional_condition, returns}
use Rattle.cc_operands.specs.CcSyntax.Values.{ValueType, is_void}
use Rattle.cc_operands.proofs.CcSyntax.Prefixes.{both_true}
use Rattle.cc_operand_types.specs.Kept.{Keeps}
use Rattle.cc_operand_types.proofs.Rules.{both}

module _ (target : Target) (typed : Expr → Option ValueType) (result : CType) where
  abbrev pub case_of : Case → Labelled
  case_of c = fold-Case SoundWhere Labelled (sound_step target typed result) sound_case c

  abbrev pub level_of : is.Stmt-F Stmt Case → SoundWhere
  level_of x = sound_step target typed result (map-Stmt Stmt Case SoundWhere Labelled (is_sound_stmt target typed result) case_of x)

  pub stmt-roll : (x : is.Stmt-F Stmt Case) → is_sound_stmt target typed result (roll-Stmt x) ≡ level_of x
  stmt-roll x = fold-roll-Stmt SoundWhere Labelled (sound_step target typed result) sound_case x

  pub case-roll : (x : is.Case-F Stmt Case) → case_of (roll-Case x) ≡ record { labels = x.labels; body = λ breaks continues. list_all (λ (s : SoundWhere). s breaks continues) (map (is_sound_stmt target typed result) x.body) }
  case-roll x = fold-roll-Case SoundWhere Labelled (sound_step target typed result) sound_case x

-- a level with its expressions, statements and cases changed
module _ (change : Expr → Expr) (stmt : Stmt → Stmt) (case : Case → Case) where
  abbrev pub changed : is.Stmt-F Stmt Case → is.Stmt-F Stmt Case
  changed (is.Do e) = is.Do (change e)
  changed (is.If e a b) = is.If (change e) (map stmt a) (map stmt b)
  changed (is.While e a) = is.While (change e) (map stmt a)
  changed (is.DoWhile a e) = is.DoWhile (map stmt a) (change e)
  changed (is.For first test step a) = is.For (option_map change first) (option_map change test) (option_map change step) (map stmt a)
  changed (is.Switch e cases) = is.Switch (change e) (map case cases)
  changed is.Break = is.Break
  changed is.Continue = is.Continue
  changed (is.Return e) = is.Return (option_map change e)
  changed is.Empty = is.Empty
  changed (is.Block a) = is.Block (map stmt a)

-- the expressions of a level have such a property, and so have the parts
module _ (Good : Expr → Type 0) (GoodStmt : Stmt → Type 0) (GoodCase : Case → Type 0) where
  abbrev pub GoodLevel : is.Stmt-F Stmt Case → Type 0
  GoodLevel (is.Do e) = Good e
  GoodLevel (is.If e a b) = Good e × Each GoodStmt a × Each GoodStmt b
  GoodLevel (is.While e a) = Good e × Each GoodStmt a
  GoodLevel (is.DoWhile a e) = Good e × Each GoodStmt a
  GoodLevel (is.For first test step a) = Held Good first × Held Good test × Held Good step × Each GoodStmt a
  GoodLevel (is.Switch e cases) = Good e × Each GoodCase cases
  GoodLevel is.Break = Unit {0}
  GoodLevel is.Continue = Unit {0}
  GoodLevel (is.Return e) = Held Good e
  GoodLevel is.Empty = Unit {0}
  GoodLevel (is.Block a) = Each GoodStmt a

module _ (target : Target) (old new : Expr → Option ValueType) (before after : CType) (change : Expr → Expr) (stmt : Stmt → Stmt) (case : Case → Case)
    (Good : Expr → Type 0) (GoodStmt : Stmt → Type 0) (GoodCase : Case → Type 0) where
  pub record IsChange : Type 0 where
    pub keeps : (e : Expr) → Good e → Keeps target before after (old e) (new (change e))
    pub void : is_void before ≡ true → is_void after ≡ true
    pub level : (x : is.Stmt-F Stmt Case) → stmt (roll-Stmt x) ≡ roll-Stmt (changed change stmt case x)
    pub case_level : (x : is.Case-F Stmt Case) → case (roll-Case x) ≡ roll-Case (record { labels = x.labels; body = map stmt x.body })
    pub good : (x : is.Stmt-F Stmt Case) → GoodStmt (roll-Stmt x) → GoodLevel Good GoodStmt GoodCase x
    pub good_case : (x : is.Case-F Stmt Case) → GoodCase (roll-Case x) → Each GoodStmt x.body

  module _ (is_change : IsChange) where
    abbrev first : Stmt → SoundWhere
    first s = is_sound_stmt target old before s

    abbrev second : Stmt → SoundWhere
    second s = is_sound_stmt target new after s

    abbrev first_case : Case → Labelled
    first_case c = case_of target old before c

    abbrev second_case : Case → Labelled
    second_case c = case_of target new after c

    abbrev Stays : Stmt → Type 0
    Stays s = GoodStmt s → (b c : Bool) → first s b c ≡ true → second (stmt s) b c ≡ true

    record CaseKept (k l : Labelled) : Type 0 where
      labels : l.labels ≡ k.labels
      body : (b c : Bool) → k.body b c ≡ true → l.body b c ≡ true

    abbrev CaseStays : Case → Type 0
    CaseStays c = GoodCase c → CaseKept (first_case c) (second_case (case c))

    stmts_stay : (a : List Stmt) → Each Stays a → Each GoodStmt a → (b c : Bool) → list_all (λ (s : SoundWhere). s b c) (map first a) ≡ true → list_all (λ (s : SoundWhere). s b c) (map second (map stmt a)) ≡ true
    stmts_stay [] h g b c e = refl
    stmts_stay (s ∷ a) h g b c e =
        let p = both_true (first s b c) (list_all (λ (s : SoundWhere). s b c) (map first a)) e in
        both (second (stmt s) b c) (list_all (λ (s : SoundWhere). s b c) (map second (map stmt a))) (h.0 g.0 b c p.0) (stmts_stay a h.1 g.1 b c p.1)

    labels_same : (cases : List Case) → Each CaseStays cases → Each GoodCase cases → flat_map (λ (c : Labelled). c.labels) (map second_case (map case cases)) ≡ flat_map (λ (c : Labelled). c.labels) (map first_case cases)
    labels_same [] h g = refl
    labels_same (c ∷ cases) h g = rw ((h.0 g.0).labels, labels_same cases h.1 g.1) refl

    labelled : (cases : List Case) → Each CaseStays cases → Each GoodCase cases → list_all (λ (c : Labelled). has_label c.labels) (map first_case cases) ≡ true → list_all (λ (c : Labelled). has_label c.labels) (map second_case (map case cases)) ≡ true
    labelled [] h g e = refl
    labelled (c ∷ cases) h g e =
        let p = both_true (has_label (first_case c).labels) (list_all (λ (c : Labelled). has_label c.labels) (map first_case cases)) e in
        both (has_label (second_case (case c)).labels) (list_all (λ (c : Labelled). has_label c.labels) (map second_case (map case cases))) (ap has_label (h.0 g.0).labels ∙ p.0) (labelled cases h.1 g.1 p.1)

    cases_stay : (continues : Bool) (cases : List Case) → Each CaseStays cases → Each GoodCase cases → list_all (λ (c : Labelled). c.body true continues) (map first_case cases) ≡ true → list_all (λ (c : Labelled). c.body true continues) (map second_case (map case cases)) ≡ true
    cases_stay continues [] h g e = refl
    cases_stay continues (c ∷ cases) h g e =
        let p = both_true ((first_case c).body true continues) (list_all (λ (c : Labelled). c.body true continues) (map first_case cases)) e in
        both ((second_case (case c)).body true continues) (list_all (λ (c : Labelled). c.body true continues) (map second_case (map case cases))) ((h.0 g.0).body true continues p.0) (cases_stay continues cases h.1 g.1 p.1)

    typed_stays : (e : Option Expr) → Held Good e → is_typed target old before e ≡ true → is_typed target new after (option_map change e) ≡ true
    typed_stays None g h = refl
    typed_stays (Some e) g h = (is_change.keeps e g).there h

    condition_stays : (e : Option Expr) → Held Good e → is_optional_condition target old before e ≡ true → is_optional_condition target new after (option_map change e) ≡ true
    condition_stays None g h = refl
    condition_stays (Some e) g h = (is_change.keeps e g).condition h

    return_stays : (e : Option Expr) → Held Good e → returns target old before e ≡ true → returns target new after (option_map change e) ≡ true
    return_stays None g h = is_change.void h
    return_stays (Some e) g h = (is_change.keeps e g).returned h

    switch_stays : (e : Expr) (cases : List Case) → Good e → Each CaseStays cases → Each GoodCase cases → (c : Bool) →
        (labels_fit target (flat_map (λ (c : Labelled). c.labels) (map first_case cases)) (old e) && (are_apart (flat_map (λ (c : Labelled). c.labels) (map first_case cases))
        && (list_all (λ (c : Labelled). has_label c.labels) (map first_case cases) && list_all (λ (d : Labelled). d.body true c) (map first_case cases)))) ≡ true →
        (labels_fit target (flat_map (λ (c : Labelled). c.labels) (map second_case (map case cases))) (new (change e)) && (are_apart (flat_map (λ (c : Labelled). c.labels) (map second_case (map case cases)))
        && (list_all (λ (c : Labelled). has_label c.labels) (map second_case (map case cases)) && list_all (λ (d : Labelled). d.body true c) (map second_case (map case cases))))) ≡ true
    switch_stays e cases g h gs c f =
        let ls = flat_map (λ (c : Labelled). c.labels) (map first_case cases) in
        let p = both_true (labels_fit target ls (old e)) (are_apart ls && (list_all (λ (c : Labelled). has_label c.labels) (map first_case cases) && list_all (λ (d : Labelled). d.body true c) (map first_case cases))) f in
        let q = both_true (are_apart ls) (list_all (λ (c : Labelled). has_label c.labels) (map first_case cases) && list_all (λ (d : Labelled). d.body true c) (map first_case cases)) p.1 in
        let r = both_true (list_all (λ (c : Labelled). has_label c.labels) (map first_case cases)) (list_all (λ (d : Labelled). d.body true c) (map first_case cases)) q.1 in
        let same = labels_same cases h gs in
        let ms = flat_map (λ (c : Labelled). c.labels) (map second_case (map case cases)) in
        both (labels_fit target ms (new (change e))) (are_apart ms && (list_all (λ (c : Labelled). has_label c.labels) (map second_case (map case cases)) && list_all (λ (d : Labelled). d.body true c) (map second_case (map case cases))))
        (ap (λ (l : List (Option ℤ)). labels_fit target l (new (change e))) same ∙ (is_change.keeps e g).labels ls p.0)
        (both (are_apart ms) (list_all (λ (c : Labelled). has_label c.labels) (map second_case (map case cases)) && list_all (λ (d : Labelled). d.body true c) (map second_case (map case cases)))
        (ap are_apart same ∙ q.0)
        (both (list_all (λ (c : Labelled). has_label c.labels) (map second_case (map case cases))) (list_all (λ (d : Labelled). d.body true c) (map second_case (map case cases))) (labelled cases h gs r.0) (cases_stay c cases h gs r.1)))

    -- a condition, and then statements
    under : (e : Expr) → Good e → (x y : Bool) → (x ≡ true → y ≡ true) → is_condition (old e) && x ≡ true → is_condition (new (change e)) && y ≡ true
    under e g x y f h = let p = both_true (is_condition (old e)) x h in both (is_condition (new (change e))) y ((is_change.keeps e g).condition p.0) (f p.1)

    two_stay : (x y z w : Bool) → (x ≡ true → z ≡ true) → (y ≡ true → w ≡ true) → x && y ≡ true → z && w ≡ true
    two_stay x y z w f g h = let p = both_true x y h in both z w (f p.0) (g p.1)

    level_stays : (x : is.Stmt-F Stmt Case) → StmtParts Stays CaseStays x → GoodLevel Good GoodStmt GoodCase x → (b c : Bool) → level_of target old before x b c ≡ true → level_of target new after (changed change stmt case x) b c ≡ true
    level_stays (is.Do e) h g b c f = (is_change.keeps e g).there f
    level_stays (is.If e a d) h g b c f =
        under e g.0 (list_all (λ (s : SoundWhere). s b c) (map first a) && list_all (λ (s : SoundWhere). s b c) (map first d)) (list_all (λ (s : SoundWhere). s b c) (map second (map stmt a)) && list_all (λ (s : SoundWhere). s b c) (map second (map stmt d)))
        (two_stay (list_all (λ (s : SoundWhere). s b c) (map first a)) (list_all (λ (s : SoundWhere). s b c) (map first d)) (list_all (λ (s : SoundWhere). s b c) (map second (map stmt a))) (list_all (λ (s : SoundWhere). s b c) (map second (map stmt d)))
        (stmts_stay a h.0 g.1 b c) (stmts_stay d h.1 g.2 b c)) f
    level_stays (is.While e a) h g b c f = under e g.0 (list_all (λ (s : SoundWhere). s true true) (map first a)) (list_all (λ (s : SoundWhere). s true true) (map second (map stmt a))) (stmts_stay a h g.1 true true) f
    level_stays (is.DoWhile a e) h g b c f = under e g.0 (list_all (λ (s : SoundWhere). s true true) (map first a)) (list_all (λ (s : SoundWhere). s true true) (map second (map stmt a))) (stmts_stay a h g.1 true true) f
    level_stays (is.For i t n a) h g b c f =
        two_stay (is_typed target old before i) (is_optional_condition target old before t && (is_typed target old before n && list_all (λ (s : SoundWhere). s true true) (map first a)))
        (is_typed target new after (option_map change i)) (is_optional_condition target new after (option_map change t) && (is_typed target new after (option_map change n) && list_all (λ (s : SoundWhere). s true true) (map second (map stmt a))))
        (typed_stays i g.0)
        (two_stay (is_optional_condition target old before t) (is_typed target old before n && list_all (λ (s : SoundWhere). s true true) (map first a))
        (is_optional_condition target new after (option_map change t)) (is_typed target new after (option_map change n) && list_all (λ (s : SoundWhere). s true true) (map second (map stmt a)))
        (condition_stays t g.1)
        (two_stay (is_typed target old before n) (list_all (λ (s : SoundWhere). s true true) (map first a)) (is_typed target new after (option_map change n)) (list_all (λ (s : SoundWhere). s true true) (map second (map stmt a)))
        (typed_stays n g.2) (stmts_stay a h g.3 true true))) f
    level_stays (is.Switch e cases) h g b c f = switch_stays e cases g.0 h g.1 c f
    level_stays is.Break h g b c f = f
    level_stays is.Continue h g b c f = f
    level_stays (is.Return e) h g b c f = return_stays e g f
    level_stays is.Empty h g b c f = f
    level_stays (is.Block a) h g b c f = stmts_stay a h g b c f

    made : (x : is.Stmt-F Stmt Case) → StmtParts Stays CaseStays x → Stays (roll-Stmt x)
    made x h g b c e =
        ap (λ (s : Stmt). second s b c) (is_change.level x) ∙ (ap (λ (w : SoundWhere). w b c) (stmt-roll target new after (changed change stmt case x))
        ∙ level_stays x h (is_change.good x g) b c (sym (ap (λ (w : SoundWhere). w b c) (stmt-roll target old before x)) ∙ e))

    made_case : (x : is.Case-F Stmt Case) → CaseParts Stays CaseStays x → CaseStays (roll-Case x)
    made_case x h g =
        let new_level = ap second_case (is_change.case_level x) ∙ case-roll target new after (record { labels = x.labels; body = map stmt x.body }) in
        let old_level = case-roll target old before x in
        record {
          labels = ap (λ (l : Labelled). l.labels) new_level ∙ sym (ap (λ (l : Labelled). l.labels) old_level);
          body = λ b c e. ap (λ (l : Labelled). l.body b c) new_level ∙ stmts_stay x.body h (is_change.good_case x g) b c (sym (ap (λ (l : Labelled). l.body b c) old_level) ∙ e);
        }

    pub stmt_stays : (s : Stmt) → Stays s
    stmt_stays = by_stmt Stays CaseStays made made_case

    pub body_stays : (body : List Stmt) → Each GoodStmt body → is_sound_body target old before body ≡ true → is_sound_body target new after (map stmt body) ≡ true
    body_stays [] g e = refl
    body_stays (s ∷ body) g e =
        let p = both_true (first s false false) (is_sound_body target old before body) e in
        both (second (stmt s) false false) (is_sound_body target new after (map stmt body)) (stmt_stays s g.0 false false p.0) (body_stays body g.1 p.1)
