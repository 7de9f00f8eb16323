-- Each construct of a body is sound where its parts are.
use Rattle.std.proofs.Common.{◌≡◌, ℕ, ℤ, Bool, true, false, List, [], ◌∷◌, ◌++◌, map, Option, Some, None, Ok, Err, refl, sym, ◌∙◌, subst}
use Rattle.std.specs.Prelude.{is_some, if◌then◌else◌}
use Rattle.std.specs.List.{list_all}
use Rattle.cc_program.specs.CcNum.declared.int_type.IntType.{IntType}
use Rattle.cc_type.specs.CcOperands.Operands.{Operand}
use Rattle.cc_type.specs.CcOperands.Verdicts.{Judged}
use Rattle.cc_type.specs.CcOperands.declared.rule.Rule.{Rule}
use Rattle.cc_type.specs.CcOperands.declared.rule.Rule.TheVariants as rule
use Rattle.cc_operand_types.specs.Typed.{IsTypedOperand, stands}
use Rattle.cc_type.specs.CcSyntax.Views.{View}
use Rattle.cc_type.specs.CcSyntax.Expressions.{type_of}
use Rattle.cc_program.proofs.Each.{Each}
use Rattle.cc_program.specs.declared.expr.Expr.{Expr}
use Rattle.cc_program.specs.declared.program.Roles.{Roles}
use Rattle.cc_program.specs.declared.stmt.Stmt.{Stmt, Do, Empty, Block}
use Rattle.cc_program.specs.declared.types.CType.{CType}
use Rattle.cc_type.specs.CcScopes.State.{State, Name, empty, entered}
use Rattle.cc_type.specs.CcScopes.Verdicts.{Found, Meaning, whole, and_then, maybe_found}
use Rattle.cc_read_sound.specs.Sound.{Keeps, AreSound, AreCases}
use Rattle.cc_read_sound.proofs.Choices.{effect_sound, chosen_sound, repeated_sound, done_sound, counted_sound, broken_by, continued_by, returned_sound, joined_sound, sequences}
use Rattle.cc_read_sound.proofs.Cases.{none_sound, case_sound, default_sound, behind_sound, behind_empty_sound}
use Rattle.cc_read_sound.proofs.KeptStatements.{has_type}
use Rattle.cc_read_sound.proofs.Opened.{all_do_sound, append_sound, do_sound, empty_sound, block_sound, body_sound}
use Rattle.cc_read_sound.proofs.Switches.{switched_sound}
use Rattle.cc_type.specs.CcSyntax.Statements.{is_typed}
use Rattle.cc_type.specs.CcSpecifiers.declared.storage.Where.TheVariants as place
use Rattle.cc_type.specs.CcSyntax.Types.{Named}
use Rattle.cc_type.specs.CcSyntax.Values.{ValueType, scalar_value}
use Rattle.cc_tree.specs.declared.at.At.{At}
use Rattle.cc_tree.specs.declared.tree.Tree.{Tree}
use Rattle.cc_tree.specs.declared.unit.Decl.{Decl}
use Rattle.cc_tree.specs.declared.unit.First.{First}
use Rattle.cc_tree.specs.declared.unit.First.TheVariants as first
use Rattle.cc_type.specs.CcTypedBodies.Lines.{misplaced, label_found, misplaced_case, case_found, if_found, while_found, do_found, switch_found, for_found}
use Rattle.cc_type.specs.CcTypedBodies.Meanings.{LineMeaning, done, scoped, line_found, lines_found, block_found, body_inside, body_found, maybe_body, item_found, items_found, cases_inside, not_switched, switch_body, empty_item, unlabelled}
use Rattle.cc_type.specs.CcTypedBodies.Parts.{value_here, effect_found, expression_found, return_found, declared_found, first_found}
use Rattle.cc_type.specs.CcTypedBodies.Declarations.{declaration}
use Rattle.cc_type.specs.CcTypedStatements.Conditions.{body_of, effect, joined}
use Rattle.cc_type.specs.CcTypedStatements.Jumps.{in_loop, in_switch, break_of, continue_of, returned}
use Rattle.cc_type.specs.CcTypedStatements.Labels.{no_case, behind, behind_empty, labelled, case_label, default_label, label_done}
use Rattle.cc_type.specs.CcTypedStatements.Statements.{if_of, while_of, do_of, for_of}
use Rattle.cc_type.specs.CcTypedStatements.Switch.{switch_type, switch_of}
use Rattle.cc_type.specs.CcTypedStatements.declared.cases.Cases.{Cases}
use Rattle.cc_type.specs.CcTypedStatements.declared.jumps.Jumps.{Jumps}
use Rattle.cc_sound_declarations.specs.Reached.{GoesOn, Reached}
use Rattle.cc_read_sound.proofs.Scopes.{scoped_reached}
use Rattle.cc_sound_declarations.proofs.Reaching.{as_well, chained, answered, judged, in_turn_reached, maybe_reached}

module _ (Goes : State → List Named → State → List Named → Type 0) (Knows : List Named → State → State → Type 0) (Has : List Named → State → Type 0) (on : GoesOn Goes Knows Has) where
  abbrev pub To : (A : Type 0) → (List Named → A → Type 0) → List Named → State → A × State → Type 0
  To A T D s r = Reached Goes Knows Has A T D s r

  module _ (v : View) (Lowered : List Named → List Named → Type 0) where
    -- each expression has a type over the function's locals
    abbrev pub EachTyped : List Named → List Expr → Type 0
    EachTyped L es = (F : List Named) → Lowered L F → list_all (λ e. is_some (type_of v F e)) es ≡ true

    -- what a value is found to be, and what a declaration in a function leaves
    abbrev pub ValueHolds : Roles → At Tree → Type 0
    ValueHolds roles e = (D : List Named) (s : State) (r : Operand × State) → Has D s → value_here v.target roles e s ≡ Ok r → To Operand (λ L x. IsTypedOperand v L x) D s r

    abbrev pub DeclHolds : Roles → List Name → Decl → Type 0
    DeclHolds roles defined d =
        ((D : List Named) (s : State) (r : List Expr × State) → Has D s → declaration v.target roles defined place.InBlock d s ≡ Ok r → To (List Expr) EachTyped D s r)
        × ((D : List Named) (s : State) (r : List Expr × State) → Has D s → declaration v.target roles defined place.InFor d s ≡ Ok r → To (List Expr) EachTyped D s r)

    module _ (keeps : (L F : List Named) → Lowered L F → Keeps v L (type_of v F)) (result : CType) where
      abbrev pub SoundList : Jumps → List Named → List Stmt → Type 0
      SoundList j L ss = (F : List Named) → Lowered L F → AreSound v.target (type_of v F) result j ss

      abbrev pub SoundCases : IntType → Jumps → List Named → Cases → Type 0
      SoundCases t j L c = (F : List Named) → Lowered L F → AreCases v.target (type_of v F) result t j.continues c.cases

      -- what holds of a line, where it stands alone, as the body of a `switch`, and in one
      pub record LineHolds (m : LineMeaning) : Type 0 where
        pub line : (j : Jumps) (at : ℕ) (D : List Named) (s : State) (r : List Stmt × State) → Has D s → m.line j at s ≡ Ok r → To (List Stmt) (SoundList j) D s r
        pub switched : (j : Jumps) (t : IntType) (at : ℕ) (D : List Named) (s : State) (r : Option Cases × State) → Has D s → m.switched (in_switch j) t at s ≡ Ok r →
            To (Option Cases) (λ L o. (c : Cases) → o ≡ Some c → SoundCases t j L c) D s r
        pub item : (j : Jumps) (t : IntType) (cases : Cases) (at : ℕ) (D : List Named) (s : State) (r : Cases × State) → Has D s → m.item (in_switch j) t cases at s ≡ Ok r →
            To Cases (λ L c. SoundCases t j L cases → SoundCases t j L c) D s r

      -- ---- expressions

      abbrev TypedHere : List Named → Operand → Type 0
      TypedHere L x = IsTypedOperand v L x

      abbrev TypedExprs : List Named → Expr → Type 0
      TypedExprs L e = (F : List Named) → Lowered L F → is_some (type_of v F e) ≡ true

      effect_typed : (L : List Named) (x : Operand) (e : Expr) → TypedHere L x → effect x ≡ Ok e → TypedExprs L e
      effect_typed L x e hx h F low = let t = effect_sound v L x e hx h in has_type v L (type_of v F) (keeps L F low) e t.0 t.1

      effect_reached : (roles : Roles) (e : At Tree) → ValueHolds roles e → (D : List Named) (s : State) (r : Expr × State) → Has D s → effect_found v.target roles e s ≡ Ok r → To Expr TypedExprs D s r
      unfolding effect_found
      effect_reached roles e he D s r d h =
          chained Goes Knows Has on TypedHere TypedExprs (value_here v.target roles e s) (λ x s. whole e.at s (effect x)) D s r d (λ x i. he D s x d i)
          (λ x E i k l. judged Goes Knows Has on (λ L y. TypedHere L x.0 → TypedExprs L y) e.at (effect x.0) E x.1 r (λ y f L hx. effect_typed L x.0 y hx f) l) h

      one_done : (j : Jumps) (T : List Named → Type 0) (x : Stmt) (D : List Named) (s : State) (r : List Stmt × State) → ((L : List Named) → T L → SoundList j L (x ∷ [])) → done x s ≡ Ok r → To (List Stmt) (λ L ss. T L → SoundList j L ss) D s r
      one_done j T x D s r f h = answered Goes Knows Has on (λ L ss. T L → SoundList j L ss) (x ∷ []) D s r f h

      pub expression_reached : (roles : Roles) (e : Option (At Tree)) → ((x : At Tree) → e ≡ Some x → ValueHolds roles x) → (j : Jumps) (D : List Named) (s : State) (r : List Stmt × State) → Has D s →
          expression_found v.target roles e s ≡ Ok r → To (List Stmt) (SoundList j) D s r
      unfolding expression_found
      expression_reached roles None he j D s r d h =
          answered Goes Knows Has on (SoundList j) (Empty ∷ []) D s r (λ L F low. empty_sound v.target (type_of v F) result j.breaks j.continues) h
      expression_reached roles (Some e) he j D s r d h =
          chained Goes Knows Has on TypedExprs (SoundList j) (effect_found v.target roles e s) (λ e s. done (Do e) s) D s r d (λ x i. effect_reached roles e (he e refl) D s x d i)
          (λ x E i k l. one_done j (λ L. TypedExprs L x.0) (Do x.0) E x.1 r (λ L t F low. do_sound v.target (type_of v F) result x.0 j.breaks j.continues (t F low)) l) h

      -- what is returned has a type that may stand
      abbrev ResultStands : Type 0
      ResultStands = (to : ValueType) → scalar_value result ≡ Some to → stands v to ≡ true

      pub return_reached : (roles : Roles) (e : Option (At Tree)) → ((x : At Tree) → e ≡ Some x → ValueHolds roles x) → ((D : List Named) (s t : State) → Knows D s t → ResultStands) →
          (j : Jumps) (at : ℕ) (D : List Named) (s : State) (r : List Stmt × State) → Has D s → return_found v.target roles result e at s ≡ Ok r → To (List Stmt) (SoundList j) D s r
      unfolding return_found
      return_reached roles e he there j at D s r d h =
          let o = chained Goes Knows Has on (λ L o. (y : Operand) → o ≡ Some y → TypedHere L y) (λ L ss. ResultStands → SoundList j L ss) (maybe_found (value_here v.target roles) e s) (λ x s. whole at s (returned v.target result x)) D s r d
          (λ x i. maybe_reached Goes Knows Has on TypedHere (value_here v.target roles) (ValueHolds roles) (λ y hy. hy) e he D s x d i)
          (λ x E i k l. judged Goes Knows Has on (λ L ss. ((y : Operand) → x.0 ≡ Some y → TypedHere L y) → ResultStands → SoundList j L ss) at (returned v.target result x.0) E x.1 r
          (λ ss f L hx stands F low. returned_sound v L (type_of v F) (keeps L F low) result x.0 j ss hx stands f) l) h in
          record { objects = o.objects; goes = o.goes; holds = λ L more g w. o.holds L more g w (there D s r.1 w) }

      -- ---- declarations

      pub declared_reached : (roles : Roles) (defined : List Name) (decl : Decl) → DeclHolds roles defined decl → (j : Jumps) (D : List Named) (s : State) (r : List Stmt × State) → Has D s →
          declared_found v.target roles defined decl s ≡ Ok r → To (List Stmt) (SoundList j) D s r
      unfolding declared_found
      declared_reached roles defined decl hd j D s r d h =
          chained Goes Knows Has on EachTyped (SoundList j) (declaration v.target roles defined place.InBlock decl s) (λ es s. Ok (map Do es, s)) D s r d (λ x i. hd.0 D s x d i)
          (λ x E i k l. answered Goes Knows Has on (λ L ss. EachTyped L x.0 → SoundList j L ss) (map Do x.0) E x.1 r
          (λ L t F low. sym (all_do_sound v.target (type_of v F) result x.0 j.breaks j.continues) ∙ t F low) l) h

      abbrev FirstTyped : List Named → Option Expr → Type 0
      FirstTyped L e = (F : List Named) → Lowered L F → is_typed v.target (type_of v F) result e ≡ true

      option_typed : (L : List Named) (o : Option Expr) → ((y : Expr) → o ≡ Some y → TypedExprs L y) → FirstTyped L o
      option_typed L None h F low = refl
      option_typed L (Some e) h F low = h e refl F low

      joined_is : (F : List Named) (o : Option Expr) (b : Bool) → b ≡ true → is_typed v.target (type_of v F) result o ≡ b → is_typed v.target (type_of v F) result o ≡ true
      joined_is F o b h k = k ∙ h

      maybe_effect : (roles : Roles) (e : Option (At Tree)) → ((x : At Tree) → e ≡ Some x → ValueHolds roles x) → (D : List Named) (s : State) (r : Option Expr × State) → Has D s →
          maybe_found (effect_found v.target roles) e s ≡ Ok r → To (Option Expr) FirstTyped D s r
      maybe_effect roles e he D s r d h =
          as_well Goes Knows Has on (λ L o. (y : Expr) → o ≡ Some y → TypedExprs L y) FirstTyped D s r (λ L t. option_typed L r.0 t)
          (maybe_reached Goes Knows Has on TypedExprs (effect_found v.target roles) (ValueHolds roles) (λ x hx D s r d h. effect_reached roles x hx D s r d h) e he D s r d h)

      first_reached : (roles : Roles) (defined : List Name) (f : First) → ((x : Decl) → f ≡ first.Decl x → DeclHolds roles defined x) → ((e : Option (At Tree)) (x : At Tree) → f ≡ first.Expr e → e ≡ Some x → ValueHolds roles x) →
          (D : List Named) (s : State) (r : Option Expr × State) → Has D s → first_found v.target roles defined f s ≡ Ok r → To (Option Expr) FirstTyped D s r
      unfolding first_found
      first_reached roles defined (first.Decl x) hd he D s r d h =
          chained Goes Knows Has on EachTyped FirstTyped (declaration v.target roles defined place.InFor x s) (λ es s. Ok (joined es, s)) D s r d (λ y i. (hd x refl).1 D s y d i)
          (λ y E i k l. answered Goes Knows Has on (λ L o. EachTyped L y.0 → FirstTyped L o) (joined y.0) E y.1 r
          (λ L t F low. joined_sound v.target (type_of v F) result (sequences v F) y.0 (t F low)) l) h
      first_reached roles defined (first.Expr e) hd he D s r d h = maybe_effect roles e (λ x i. he e x refl i) D s r d h

      -- ---- lines one behind another

      line_next : (j : Jumps) (l : At LineMeaning) → LineHolds l.node → (before : List Stmt) (D : List Named) (s : State) (r : List Stmt × State) → Has D s → line_found j l before s ≡ Ok r →
          To (List Stmt) (λ L ss. SoundList j L before → SoundList j L ss) D s r
      line_next j l hl before D s r d h =
          chained Goes Knows Has on (SoundList j) (λ L ss. SoundList j L before → SoundList j L ss) (l.node.line j l.at s) (λ ss s. Ok (before ++ ss, s)) D s r d (λ x i. hl.line j l.at D s x d i)
          (λ x E i k m. answered Goes Knows Has on (λ L ss. SoundList j L x.0 → SoundList j L before → SoundList j L ss) (before ++ x.0) E x.1 r
          (λ L g b F low. append_sound v.target (type_of v F) result j.breaks j.continues before x.0 (b F low) (g F low)) m) h

      pub lines_reached : (j : Jumps) (ls : List (At LineMeaning)) → Each (λ l. LineHolds l.node) ls → (D : List Named) (s : State) (r : List Stmt × State) → Has D s → lines_found j ls s ≡ Ok r → To (List Stmt) (SoundList j) D s r
      unfolding lines_found
      lines_reached j ls hl D s r d h =
          as_well Goes Knows Has on (λ L ss. SoundList j L [] → SoundList j L ss) (SoundList j) D s r (λ L f. f (λ F low. refl))
          (in_turn_reached Goes Knows Has on (line_found j) (λ l. LineHolds l.node) (SoundList j) (λ l hl b D s r d h. line_next j l hl b D s r d h) ls hl [] D s r d h)

      pub block_reached : (j : Jumps) (ls : List (At LineMeaning)) → Each (λ l. LineHolds l.node) ls → (D : List Named) (s : State) (r : List Stmt × State) → Has D s → block_found j ls s ≡ Ok r → To (List Stmt) (SoundList j) D s r
      unfolding block_found
      block_reached j ls hl D s r d h =
          chained Goes Knows Has on (SoundList j) (SoundList j) (lines_found j ls s) (λ ss s. done (Block ss) s) D s r d (λ x i. lines_reached j ls hl D s x d i)
          (λ x E i k l. one_done j (λ L. SoundList j L x.0) (Block x.0) E x.1 r (λ L g F low. block_sound v.target (type_of v F) result x.0 j.breaks j.continues (g F low)) l) h

      -- ---- a statement in another

      inside_reached : (j : Jumps) (l : At LineMeaning) → LineHolds l.node → (D : List Named) (s : State) (r : List Stmt × State) → Has D s → body_inside j l s ≡ Ok r → To (List Stmt) (SoundList j) D s r
      unfolding body_inside
      inside_reached j l hl D s r d h =
          chained Goes Knows Has on (SoundList j) (SoundList j) (l.node.line j l.at s) (λ ss s. Ok (body_of ss, s)) D s r d (λ x i. hl.line j l.at D s x d i)
          (λ x E i k m. answered Goes Knows Has on (λ L ss. SoundList j L x.0 → SoundList j L ss) (body_of x.0) E x.1 r
          (λ L g F low. body_sound v.target (type_of v F) result x.0 j.breaks j.continues (g F low)) m) h

      body_reached : (j : Jumps) (l : At LineMeaning) → LineHolds l.node → (D : List Named) (s : State) (r : List Stmt × State) → Has D s → body_found j l s ≡ Ok r → To (List Stmt) (SoundList j) D s r
      body_reached j l hl D s r d h = scoped_reached Goes Knows Has on (SoundList j) (body_inside j l) D s r d (λ x e i. inside_reached j l hl D (entered empty s) x e i) h

      maybe_body_reached : (j : Jumps) (l : Option (At LineMeaning)) → ((x : At LineMeaning) → l ≡ Some x → LineHolds x.node) → (D : List Named) (s : State) (r : List Stmt × State) → Has D s → maybe_body j l s ≡ Ok r →
          To (List Stmt) (SoundList j) D s r
      unfolding maybe_body
      maybe_body_reached j None hl D s r d h = answered Goes Knows Has on (SoundList j) [] D s r (λ L F low. refl) h
      maybe_body_reached j (Some l) hl D s r d h = body_reached j l (hl l refl) D s r d h

      -- ---- choices and loops (6.8.4.1, 6.8.5)

      pub if_reached : (roles : Roles) (e : At Tree) → ValueHolds roles e → (a : At LineMeaning) → LineHolds a.node → (b : Option (At LineMeaning)) → ((x : At LineMeaning) → b ≡ Some x → LineHolds x.node) →
          (j : Jumps) (at : ℕ) (D : List Named) (s : State) (r : List Stmt × State) → Has D s → if_found v.target roles e a b j at s ≡ Ok r → To (List Stmt) (SoundList j) D s r
      unfolding if_found
      if_reached roles e he a ha b hb j at D s r d h =
          chained Goes Knows Has on TypedHere (SoundList j) (value_here v.target roles e s)
          (λ x s. and_then (body_found j a s) (λ these s. and_then (maybe_body j b s) (λ those s. whole at s (if_of x these those)))) D s r d (λ x i. he D s x d i)
          (λ x E i k l.
          chained Goes Knows Has on (SoundList j) (λ L ss. TypedHere L x.0 → SoundList j L ss) (body_found j a x.1) (λ these s. and_then (maybe_body j b s) (λ those s. whole at s (if_of x.0 these those))) E x.1 r k
          (λ y m. body_reached j a ha E x.1 y k m)
          (λ y G m n o.
          chained Goes Knows Has on (SoundList j) (λ L ss. SoundList j L y.0 → TypedHere L x.0 → SoundList j L ss) (maybe_body j b y.1) (λ those s. whole at s (if_of x.0 y.0 those)) G y.1 r n
          (λ z p. maybe_body_reached j b hb G y.1 z n p)
          (λ z H p q w.
          judged Goes Knows Has on (λ L ss. SoundList j L z.0 → SoundList j L y.0 → TypedHere L x.0 → SoundList j L ss) at (if_of x.0 y.0 z.0) H z.1 r
          (λ ss f L those these hx F low. chosen_sound v L (type_of v F) (keeps L F low) result x.0 y.0 z.0 j ss hx (these F low) (those F low) f) w) o) l) h

      pub while_reached : (roles : Roles) (e : At Tree) → ValueHolds roles e → (a : At LineMeaning) → LineHolds a.node → (j : Jumps) (at : ℕ) (D : List Named) (s : State) (r : List Stmt × State) → Has D s →
          while_found v.target roles e a j at s ≡ Ok r → To (List Stmt) (SoundList j) D s r
      unfolding while_found
      while_reached roles e he a ha j at D s r d h =
          chained Goes Knows Has on TypedHere (SoundList j) (value_here v.target roles e s) (λ x s. and_then (body_found (in_loop j) a s) (λ body s. whole at s (while_of x body))) D s r d (λ x i. he D s x d i)
          (λ x E i k l.
          chained Goes Knows Has on (SoundList (in_loop j)) (λ L ss. TypedHere L x.0 → SoundList j L ss) (body_found (in_loop j) a x.1) (λ body s. whole at s (while_of x.0 body)) E x.1 r k
          (λ y m. body_reached (in_loop j) a ha E x.1 y k m)
          (λ y G m n o.
          judged Goes Knows Has on (λ L ss. SoundList (in_loop j) L y.0 → TypedHere L x.0 → SoundList j L ss) at (while_of x.0 y.0) G y.1 r
          (λ ss f L body hx F low. repeated_sound v L (type_of v F) (keeps L F low) result x.0 y.0 j ss hx (body F low) f) o) l) h

      pub do_reached : (roles : Roles) (a : At LineMeaning) → LineHolds a.node → (e : At Tree) → ValueHolds roles e → (j : Jumps) (at : ℕ) (D : List Named) (s : State) (r : List Stmt × State) → Has D s →
          do_found v.target roles a e j at s ≡ Ok r → To (List Stmt) (SoundList j) D s r
      unfolding do_found
      do_reached roles a ha e he j at D s r d h =
          chained Goes Knows Has on (SoundList (in_loop j)) (SoundList j) (body_found (in_loop j) a s) (λ body s. and_then (value_here v.target roles e s) (λ x s. whole at s (do_of body x))) D s r d
          (λ y i. body_reached (in_loop j) a ha D s y d i)
          (λ y E i k l.
          chained Goes Knows Has on TypedHere (λ L ss. SoundList (in_loop j) L y.0 → SoundList j L ss) (value_here v.target roles e y.1) (λ x s. whole at s (do_of y.0 x)) E y.1 r k (λ x m. he E y.1 x k m)
          (λ x G m n o.
          judged Goes Knows Has on (λ L ss. TypedHere L x.0 → SoundList (in_loop j) L y.0 → SoundList j L ss) at (do_of y.0 x.0) G x.1 r
          (λ ss f L hx body F low. done_sound v L (type_of v F) (keeps L F low) result y.0 x.0 j ss hx (body F low) f) o) l) h

      pub for_reached : (roles : Roles) (defined : List Name) (f : First) → ((x : Decl) → f ≡ first.Decl x → DeclHolds roles defined x) → ((e : Option (At Tree)) (x : At Tree) → f ≡ first.Expr e → e ≡ Some x → ValueHolds roles x) →
          (test step : Option (At Tree)) → ((x : At Tree) → test ≡ Some x → ValueHolds roles x) → ((x : At Tree) → step ≡ Some x → ValueHolds roles x) → (a : At LineMeaning) → LineHolds a.node →
          (j : Jumps) (at : ℕ) (D : List Named) (s : State) (r : List Stmt × State) → Has D s → for_found v.target roles defined f test step a j at s ≡ Ok r → To (List Stmt) (SoundList j) D s r
      unfolding for_found
      for_reached roles defined f hd he test step ht hs a ha j at D s r d h =
          chained Goes Knows Has on FirstTyped (SoundList j) (first_found v.target roles defined f s)
          (λ f s. and_then (maybe_found (value_here v.target roles) test s) (λ test s. and_then (maybe_found (effect_found v.target roles) step s) (λ step s.
          and_then (body_found (in_loop j) a s) (λ body s. whole at s (for_of f test step body))))) D s r d
          (λ x i. first_reached roles defined f hd he D s x d i)
          (λ x E i k l.
          chained Goes Knows Has on (λ L o. (y : Operand) → o ≡ Some y → TypedHere L y) (λ L ss. FirstTyped L x.0 → SoundList j L ss) (maybe_found (value_here v.target roles) test x.1)
          (λ test s. and_then (maybe_found (effect_found v.target roles) step s) (λ step s. and_then (body_found (in_loop j) a s) (λ body s. whole at s (for_of x.0 test step body)))) E x.1 r k
          (λ y m. maybe_reached Goes Knows Has on TypedHere (value_here v.target roles) (ValueHolds roles) (λ y hy. hy) test ht E x.1 y k m)
          (λ y G m n o.
          chained Goes Knows Has on FirstTyped (λ L ss. ((z : Operand) → y.0 ≡ Some z → TypedHere L z) → FirstTyped L x.0 → SoundList j L ss) (maybe_found (effect_found v.target roles) step y.1)
          (λ step s. and_then (body_found (in_loop j) a s) (λ body s. whole at s (for_of x.0 y.0 step body))) G y.1 r n (λ z p. maybe_effect roles step hs G y.1 z n p)
          (λ z H p q w.
          chained Goes Knows Has on (SoundList (in_loop j)) (λ L ss. FirstTyped L z.0 → ((z : Operand) → y.0 ≡ Some z → TypedHere L z) → FirstTyped L x.0 → SoundList j L ss) (body_found (in_loop j) a z.1)
          (λ body s. whole at s (for_of x.0 y.0 z.0 body)) H z.1 r q (λ b u. body_reached (in_loop j) a ha H z.1 b q u)
          (λ b I u t c.
          judged Goes Knows Has on (λ L ss. SoundList (in_loop j) L b.0 → FirstTyped L z.0 → ((z : Operand) → y.0 ≡ Some z → TypedHere L z) → FirstTyped L x.0 → SoundList j L ss) at (for_of x.0 y.0 z.0 b.0) I b.1 r
          (λ ss g L body again tested begun F low. counted_sound v L (type_of v F) (keeps L F low) result x.0 y.0 z.0 b.0 j ss (begun F low) tested (again F low) (body F low) g) c) w) o) l) h

      -- ---- `break` and `continue` (6.8.6.2, 6.8.6.3)

      pub break_reached : (j : Jumps) (at : ℕ) (D : List Named) (s : State) (r : List Stmt × State) → whole at s (break_of j) ≡ Ok r → To (List Stmt) (SoundList j) D s r
      break_reached j at D s r h = judged Goes Knows Has on (SoundList j) at (break_of j) D s r (λ ss f L F low. broken_by v.target (type_of v F) result j ss f) h

      pub continue_reached : (j : Jumps) (at : ℕ) (D : List Named) (s : State) (r : List Stmt × State) → whole at s (continue_of j) ≡ Ok r → To (List Stmt) (SoundList j) D s r
      continue_reached j at D s r h = judged Goes Knows Has on (SoundList j) at (continue_of j) D s r (λ ss f L F low. continued_by v.target (type_of v F) result j ss f) h

      -- ---- labels elsewhere than in a `switch` are at fault

      never_found : {A B : Type 0} (found : Found A) (at : ℕ) (r : B × State) → and_then found (λ x s. whole at s (Err rule.CaseLabel)) ≡ Ok r → ⊥
      never_found (Ok x) at r h = absurd (cc)
      never_found (Err fault) at r h = absurd (cc)

      pub misplaced_never : (a : At LineMeaning) (j : Jumps) (at : ℕ) (s : State) (r : List Stmt × State) → misplaced a j at s ≡ Ok r → ⊥
      unfolding misplaced
      misplaced_never a j at s r h = never_found (a.node.line j a.at s) at r h

      never_behind : {A : Type 0} (found : Found A) (a : At LineMeaning) (j : Jumps) (at : ℕ) (r : List Stmt × State) → and_then found (λ x s. misplaced a j at s) ≡ Ok r → ⊥
      never_behind (Ok x) a j at r h = misplaced_never a j at x.1 r h
      never_behind (Err fault) a j at r h = absurd (cc)

      pub misplaced_case_never : (roles : Roles) (e : At Tree) (a : At LineMeaning) (j : Jumps) (at : ℕ) (s : State) (r : List Stmt × State) → misplaced_case v.target roles e a j at s ≡ Ok r → ⊥
      unfolding misplaced_case
      misplaced_case_never roles e a j at s r h = never_behind (value_here v.target roles e s) a j at r h

      -- ---- the cases of a `switch`

      never_labelled : (broken : Rule) (found : Found Cases) (at : ℕ) (r : Cases × State) → and_then found (λ cases s. whole at s (label_done (Err broken) cases)) ≡ Ok r → ⊥
      never_labelled broken (Ok x) at r h = absurd (cc)
      never_labelled broken (Err fault) at r h = absurd (cc)

      label_by : (T : List Named → Type 0) (l : Judged (Option ℤ)) (a : At LineMeaning) → LineHolds a.node → (j : Jumps) (t : IntType) (cases : Cases) (at : ℕ) (D : List Named) (s : State) (r : Cases × State) → Has D s →
          ((m : Option ℤ) → l ≡ Ok m → (L : List Named) → T L → SoundCases t j L cases → SoundCases t j L (labelled m cases)) → label_found l a (in_switch j) t cases at s ≡ Ok r →
          To Cases (λ L c. T L → SoundCases t j L cases → SoundCases t j L c) D s r
      unfolding label_found
      label_by T (Ok m) a ha j t cases at D s r d f h =
          chained Goes Knows Has on (λ L c. SoundCases t j L (labelled m cases) → SoundCases t j L c) (λ L c. T L → SoundCases t j L cases → SoundCases t j L c) (a.node.item (in_switch j) t (labelled m cases) a.at s)
          (λ cases s. whole at s (label_done (Ok m) cases)) D s r d (λ x i. ha.item j t (labelled m cases) a.at D s x d i)
          (λ x E i k l.
          answered Goes Knows Has on (λ L c. (SoundCases t j L (labelled m cases) → SoundCases t j L x.0) → T L → SoundCases t j L cases → SoundCases t j L c) x.0 E x.1 r (λ L g q b. g (f m refl L q b)) l) h
      label_by T (Err broken) a ha j t cases at D s r d f h = absurd (never_labelled broken (a.node.item (in_switch j) t cases a.at s) at r h)

      pub case_reached : (roles : Roles) (e : At Tree) → ValueHolds roles e → (a : At LineMeaning) → LineHolds a.node → (j : Jumps) (t : IntType) (cases : Cases) (at : ℕ) (D : List Named) (s : State) (r : Cases × State) → Has D s →
          case_found v.target roles e a (in_switch j) t cases at s ≡ Ok r → To Cases (λ L c. SoundCases t j L cases → SoundCases t j L c) D s r
      unfolding case_found
      case_reached roles e he a ha j t cases at D s r d h =
          chained Goes Knows Has on TypedHere (λ L c. SoundCases t j L cases → SoundCases t j L c) (value_here v.target roles e s) (λ x s. label_found (case_label v.target t x cases) a (in_switch j) t cases at s) D s r d
          (λ x i. he D s x d i)
          (λ x E i k l.
          label_by (λ L. TypedHere L x.0) (case_label v.target t x.0 cases) a ha j t cases at E x.1 r k (λ m g L hx b F low. case_sound v.target (type_of v F) result t j.continues x.0 cases m (b F low) g) l) h

      pub default_reached : (a : At LineMeaning) → LineHolds a.node → (j : Jumps) (t : IntType) (cases : Cases) (at : ℕ) (D : List Named) (s : State) (r : Cases × State) → Has D s →
          label_found (default_label cases) a (in_switch j) t cases at s ≡ Ok r → To Cases (λ L c. SoundCases t j L cases → SoundCases t j L c) D s r
      default_reached a ha j t cases at D s r d h =
          as_well Goes Knows Has on (λ L c. Unit {0} → SoundCases t j L cases → SoundCases t j L c) (λ L c. SoundCases t j L cases → SoundCases t j L c) D s r (λ L f. f tt)
          (label_by (λ L. Unit {0}) (default_label cases) a ha j t cases at D s r d (λ m g L q b F low. default_sound v.target (type_of v F) result t j.continues cases m (b F low) g) h)

      unlabelled_by : (empty counts : Bool) (line : Jumps → Meaning (List Stmt)) →
          ((j : Jumps) (at : ℕ) (D : List Named) (s : State) (r : List Stmt × State) → Has D s → line j at s ≡ Ok r → To (List Stmt) (SoundList j) D s r) →
          (j : Jumps) (t : IntType) (cases : Cases) (at : ℕ) (D : List Named) (s : State) (r : Cases × State) → Has D s →
          (if empty then empty_item cases s else and_then (line (in_switch j) at s) (λ ss s. Ok (behind counts ss cases, s))) ≡ Ok r → To Cases (λ L c. SoundCases t j L cases → SoundCases t j L c) D s r
      unlabelled_by true counts line hl j t cases at D s r d h =
          answered Goes Knows Has on (λ L c. SoundCases t j L cases → SoundCases t j L c) (behind_empty (Empty ∷ []) cases) D s r
          (λ L b F low. behind_empty_sound v.target (type_of v F) result t j.continues (Empty ∷ []) cases (empty_sound v.target (type_of v F) result true j.continues) (b F low)) h
      unlabelled_by false counts line hl j t cases at D s r d h =
          chained Goes Knows Has on (SoundList (in_switch j)) (λ L c. SoundCases t j L cases → SoundCases t j L c) (line (in_switch j) at s) (λ ss s. Ok (behind counts ss cases, s)) D s r d
          (λ x i. hl (in_switch j) at D s x d i)
          (λ x E i k l.
          answered Goes Knows Has on (λ L c. SoundList (in_switch j) L x.0 → SoundCases t j L cases → SoundCases t j L c) (behind counts x.0 cases) E x.1 r
          (λ L g b F low. behind_sound v.target (type_of v F) result t j.continues counts x.0 cases (g F low) (b F low)) l) h

      pub unlabelled_reached : (empty counts : Bool) (line : Jumps → Meaning (List Stmt)) →
          ((j : Jumps) (at : ℕ) (D : List Named) (s : State) (r : List Stmt × State) → Has D s → line j at s ≡ Ok r → To (List Stmt) (SoundList j) D s r) →
          (j : Jumps) (t : IntType) (cases : Cases) (at : ℕ) (D : List Named) (s : State) (r : Cases × State) → Has D s → unlabelled empty counts line (in_switch j) cases at s ≡ Ok r →
          To Cases (λ L c. SoundCases t j L cases → SoundCases t j L c) D s r
      unfolding unlabelled
      unlabelled_reached empty counts line hl j t cases at D s r d h = unlabelled_by empty counts line hl j t cases at D s r d h

      -- ---- the body of a `switch`

      items_reached : (j : Jumps) (t : IntType) (ls : List (At LineMeaning)) → Each (λ l. LineHolds l.node) ls → (D : List Named) (s : State) (r : Cases × State) → Has D s → items_found (in_switch j) t ls s ≡ Ok r →
          To Cases (SoundCases t j) D s r
      unfolding items_found
      items_reached j t ls hl D s r d h =
          as_well Goes Knows Has on (λ L c. SoundCases t j L no_case → SoundCases t j L c) (SoundCases t j) D s r (λ L f. f (λ F low. none_sound v.target (type_of v F) result t j.continues))
          (in_turn_reached Goes Knows Has on (item_found (in_switch j) t) (λ l. LineHolds l.node) (SoundCases t j) (λ l hl b D s r d h. hl.item j t b l.at D s r d h) ls hl no_case D s r d h)

      cases_reached : (j : Jumps) (t : IntType) (ls : List (At LineMeaning)) → Each (λ l. LineHolds l.node) ls → (D : List Named) (s : State) (r : Option Cases × State) → Has D s → cases_inside (in_switch j) t ls s ≡ Ok r →
          To (Option Cases) (λ L o. (c : Cases) → o ≡ Some c → SoundCases t j L c) D s r
      unfolding cases_inside
      cases_reached j t ls hl D s r d h =
          chained Goes Knows Has on (SoundCases t j) (λ L o. (c : Cases) → o ≡ Some c → SoundCases t j L c) (items_found (in_switch j) t ls s) (λ cases s. Ok (Some cases, s)) D s r d
          (λ x i. items_reached j t ls hl D s x d i)
          (λ x E i k l.
          answered Goes Knows Has on (λ L o. SoundCases t j L x.0 → (c : Cases) → o ≡ Some c → SoundCases t j L c) (Some x.0) E x.1 r (λ L g c e. subst (SoundCases t j L) (let w : x.0 ≡ c = cc in w) g) l) h

      pub switch_block : (j : Jumps) (t : IntType) (ls : List (At LineMeaning)) → Each (λ l. LineHolds l.node) ls → (D : List Named) (s : State) (r : Option Cases × State) → Has D s →
          scoped (cases_inside (in_switch j) t ls) s ≡ Ok r → To (Option Cases) (λ L o. (c : Cases) → o ≡ Some c → SoundCases t j L c) D s r
      switch_block j t ls hl D s r d h =
          scoped_reached Goes Knows Has on (λ L o. (c : Cases) → o ≡ Some c → SoundCases t j L c) (cases_inside (in_switch j) t ls) D s r d (λ x e i. cases_reached j t ls hl D (entered empty s) x e i) h

      no_cases : (L : List Named) (t : IntType) (j : Jumps) (c : Cases) → None ≡ Some c → SoundCases t j L c
      no_cases L t j c e = absurd (cc)

      pub no_block : (line : Jumps → Meaning (List Stmt)) → ((j : Jumps) (at : ℕ) (D : List Named) (s : State) (r : List Stmt × State) → Has D s → line j at s ≡ Ok r → To (List Stmt) (SoundList j) D s r) →
          (j : Jumps) (t : IntType) (at : ℕ) (D : List Named) (s : State) (r : Option Cases × State) → Has D s → not_switched line (in_switch j) at s ≡ Ok r →
          To (Option Cases) (λ L o. (c : Cases) → o ≡ Some c → SoundCases t j L c) D s r
      unfolding not_switched
      no_block line hl j t at D s r d h =
          chained Goes Knows Has on (SoundList (in_switch j)) (λ L o. (c : Cases) → o ≡ Some c → SoundCases t j L c) (line (in_switch j) at s) (λ ss s. Ok (None, s)) D s r d (λ x i. hl (in_switch j) at D s x d i)
          (λ x E i k l.
          answered Goes Knows Has on (λ L o. SoundList (in_switch j) L x.0 → (c : Cases) → o ≡ Some c → SoundCases t j L c) None E x.1 r (λ L g c e. no_cases L t j c e) l) h

      pub switch_reached : (roles : Roles) (e : At Tree) → ValueHolds roles e → (a : At LineMeaning) → LineHolds a.node → (j : Jumps) (at : ℕ) (D : List Named) (s : State) (r : List Stmt × State) → Has D s →
          switch_found v.target roles e a j at s ≡ Ok r → To (List Stmt) (SoundList j) D s r
      unfolding switch_found
      switch_reached roles e he a ha j at D s r d h =
          chained Goes Knows Has on TypedHere (SoundList j) (value_here v.target roles e s)
          (λ x s. and_then (switch_body (in_switch j) (switch_type v.target x.type) a s) (λ cases s. whole at s (switch_of v.target x cases))) D s r d (λ x i. he D s x d i)
          (λ x E i k l.
          chained Goes Knows Has on (λ L o. (c : Cases) → o ≡ Some c → SoundCases (switch_type v.target x.0.type) j L c) (λ L ss. TypedHere L x.0 → SoundList j L ss) (switch_body (in_switch j) (switch_type v.target x.0.type) a x.1)
          (λ cases s. whole at s (switch_of v.target x.0 cases)) E x.1 r k
          (λ y m.
          scoped_reached Goes Knows Has on (λ L o. (c : Cases) → o ≡ Some c → SoundCases (switch_type v.target x.0.type) j L c) (a.node.switched (in_switch j) (switch_type v.target x.0.type) a.at) E x.1 y k
          (λ z e i. ha.switched j (switch_type v.target x.0.type) a.at E (entered empty x.1) z e i) m)
          (λ y G m n o.
          judged Goes Knows Has on (λ L ss. ((c : Cases) → y.0 ≡ Some c → SoundCases (switch_type v.target x.0.type) j L c) → TypedHere L x.0 → SoundList j L ss) at (switch_of v.target x.0 y.0) G y.1 r
          (λ ss f L good hx F low. switched_sound v L (type_of v F) (keeps L F low) result x.0 y.0 j ss hx (λ c q. good c q F low) f) o) l) h
