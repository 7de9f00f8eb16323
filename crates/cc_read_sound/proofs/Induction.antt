-- Lines of a body are sound, by induction over them.
use Rattle.std.proofs.Common.{◌≡◌, ℕ, Bool, true, false, ◌&&◌, List, [], ◌∷◌, map, Option, Some, None, Ok, sym, ◌∙◌, subst}
use Rattle.std.specs.Prelude.{if◌then◌else◌}
use Rattle.std.specs.List.{list_all}
use Rattle.cc_program.specs.CcNum.declared.int_type.IntType.{IntType}
use Rattle.cc_operand_types.specs.Typed.{stands}
use Rattle.cc_type.specs.CcSyntax.Views.{View}
use Rattle.cc_type.specs.CcSyntax.Expressions.{type_of}
use Rattle.cc_program.proofs.Each.{Each}
use Rattle.cc_program.specs.declared.program.Roles.{Roles}
use Rattle.cc_program.specs.declared.stmt.Stmt.{Stmt}
use Rattle.cc_program.specs.declared.types.CType.{CType}
use Rattle.cc_type.specs.CcScopes.State.{State, Name, empty, entered}
use Rattle.cc_read_sound.specs.Sound.{Keeps}
use Rattle.cc_sound_terms.specs.Ranges.{all_fit, fits}
use Rattle.cc_type.proofs.CcSyntax.Prefixes.{both_true}
use Rattle.cc_type.specs.CcSyntax.Types.{Named}
use Rattle.cc_type.specs.CcSyntax.Values.{ValueType, scalar_value}
use Rattle.cc_tree.specs.declared.at.At.{At}
use Rattle.cc_tree.specs.declared.tree.Tree.{Tree}
use Rattle.cc_tree.specs.declared.unit.Decl.{Decl}
use Rattle.cc_tree.specs.declared.unit.First.{First}
use Rattle.cc_tree.specs.declared.unit.First.TheVariants as first
use Rattle.cc_tree.specs.declared.unit.Line.{Line, roll-Line, map-Line, ind-Line, fold-roll-Line}
use Rattle.cc_tree.specs.declared.unit.Line.TheOpen as one_line
use Rattle.cc_type.specs.CcTypedBodies.Lines.{inside, line_by, switched_by, item_by, line_step, line_of}
use Rattle.cc_type.specs.CcTypedBodies.Meanings.{LineMeaning, scoped, opens_scope, lines_found, not_switched, is_empty, counts, unlabelled}
use Rattle.cc_type.specs.CcTypedStatements.Jumps.{in_switch}
use Rattle.cc_type.specs.CcTypedStatements.declared.cases.Cases.{Cases}
use Rattle.cc_type.specs.CcTypedStatements.declared.jumps.Jumps.{Jumps}
use Rattle.cc_read_sound.specs.Ranges.{first_fits, line_fits, line_in_range, part_fits}
use Rattle.cc_sound_declarations.specs.Ranges.{decl_fits}
use Rattle.cc_sound_declarations.specs.Reached.{GoesOn, Reached}
use Rattle.cc_read_sound.proofs.Scopes.{scoped_reached}
use Rattle.cc_read_sound.proofs.Constructs.{ValueHolds, DeclHolds, SoundList, SoundCases, LineHolds, expression_reached, return_reached, declared_reached, lines_reached, block_reached, if_reached, while_reached, do_reached, for_reached, break_reached, continue_reached, misplaced_never, misplaced_case_never, case_reached, default_reached, unlabelled_reached, switch_block, no_block, switch_reached}

one_is : {A : Type 0} (a b : A) → Some a ≡ Some b → a ≡ b
one_is a b h = cc

decl_is : (a b : Decl) → first.Decl a ≡ first.Decl b → a ≡ b
decl_is a b h = cc

expr_is : (a b : Option (At Tree)) → first.Expr a ≡ first.Expr b → a ≡ b
expr_is a b h = cc

module _ (Goes : State → List Named → State → List Named → Type 0) (Knows : List Named → State → State → Type 0) (Has : List Named → State → Type 0) (on : GoesOn Goes Knows Has)
    (v : View) (Lowered : List Named → List Named → Type 0) (keeps : (L F : List Named) → Lowered L F → Keeps v L (type_of v F)) (roles : Roles) (defined : List Name) (result : CType)
    (there : (D : List Named) (s t : State) → Knows D s t → (to : ValueType) → scalar_value result ≡ Some to → stands v to ≡ true) (values : (e : At Tree) → fits e.node ≡ true → ValueHolds Goes Knows Has on v Lowered roles e)
    (declares : (d : Decl) → decl_fits d ≡ true → DeclHolds Goes Knows Has on v Lowered roles defined d) where
  abbrev Holds : LineMeaning → Type 0
  Holds m = LineHolds Goes Knows Has on v Lowered keeps result m

  abbrev Sound : Jumps → List Named → List Stmt → Type 0
  Sound j L ss = SoundList Goes Knows Has on v Lowered keeps result j L ss

  abbrev To : (A : Type 0) → (List Named → A → Type 0) → List Named → State → A × State → Type 0
  To A T D s r = Reached Goes Knows Has A T D s r

  abbrev of : Line → LineMeaning
  of l = line_of v.target roles defined result l

  abbrev P : Line → Type 0
  P l = line_in_range l ≡ true → Holds (of l)

  abbrev SomeLine : Type 0
  SomeLine = (l : Line) × P l

  abbrev bare : one_line.Line-F SomeLine → one_line.Line-F Line
  bare y = map-Line SomeLine Line (λ l. l.0) y

  abbrev ranged : one_line.Line-F SomeLine → Bool
  ranged y = line_fits (map-Line Line Bool line_in_range (bare y))

  abbrev meant : one_line.Line-F SomeLine → one_line.Line-F LineMeaning
  meant y = map-Line Line LineMeaning of (bare y)

  line-ranges : (x : one_line.Line-F Line) → line_in_range (roll-Line x) ≡ line_fits (map-Line Line Bool line_in_range x)
  unfolding line_in_range
  line-ranges x = fold-roll-Line Bool line_fits x

  line-means : (x : one_line.Line-F Line) → of (roll-Line x) ≡ line_step v.target roles defined result (map-Line Line LineMeaning of x)
  unfolding line_of
  line-means x = fold-roll-Line LineMeaning (line_step v.target roles defined result) x

  -- ---- the parts of a line

  abbrev here : At SomeLine → At LineMeaning
  here a = record { at = a.at; node = of a.node.0 }

  abbrev bare_at : At SomeLine → At Line
  bare_at a = record { at = a.at; node = a.node.0 }

  abbrev meant_at : At Line → At LineMeaning
  meant_at a = record { at = a.at; node = of a.node }

  abbrev ranged_at : At Line → At Bool
  ranged_at a = record { at = a.at; node = line_in_range a.node }

  each_line : (ls : List (At SomeLine)) → all_fit (map ranged_at (map bare_at ls)) ≡ true → Each (λ (a : At LineMeaning). Holds a.node) (map meant_at (map bare_at ls))
  each_line [] h = tt
  each_line (l ∷ ls) h = let c = both_true (line_in_range l.node.0) (all_fit (map ranged_at (map bare_at ls))) h in (l.node.1 c.0, each_line ls c.1)

  maybe_value : (o : Option (At Tree)) → part_fits fits o ≡ true → (x : At Tree) → o ≡ Some x → ValueHolds Goes Knows Has on v Lowered roles x
  maybe_value None h x e = absurd (cc)
  maybe_value (Some y) h x e = subst (λ (z : At Tree). ValueHolds Goes Knows Has on v Lowered roles z) (one_is y x e) (values y h)

  first_decl : (f : First) → first_fits f ≡ true → (x : Decl) → f ≡ first.Decl x → DeclHolds Goes Knows Has on v Lowered roles defined x
  first_decl (first.Decl y) h x e = subst (λ (z : Decl). DeclHolds Goes Knows Has on v Lowered roles defined z) (decl_is y x e) (declares y h)
  first_decl (first.Expr o) h x e = absurd (cc)

  first_value : (f : First) → first_fits f ≡ true → (o : Option (At Tree)) (x : At Tree) → f ≡ first.Expr o → o ≡ Some x → ValueHolds Goes Knows Has on v Lowered roles x
  first_value (first.Decl y) h o x e g = absurd (cc)
  first_value (first.Expr p) h o x e g = maybe_value p h x (expr_is p o e ∙ g)

  no_other : (x : At LineMeaning) → None ≡ Some x → Holds x.node
  no_other x e = absurd (cc)

  other_holds : (b : At SomeLine) → line_in_range b.node.0 ≡ true → (x : At LineMeaning) → Some (here b) ≡ Some x → Holds x.node
  other_holds b h x e = subst (λ (z : At LineMeaning). Holds z.node) (one_is (here b) x e) (b.node.1 h)

  -- ---- a line, inside its scope and in it

  abbrev InsideHolds : one_line.Line-F LineMeaning → Type 0
  InsideHolds x = (j : Jumps) (at : ℕ) (D : List Named) (s : State) (r : List Stmt × State) → Has D s → inside v.target roles defined result x j at s ≡ Ok r → To (List Stmt) (Sound j) D s r

  abbrev LineIs : one_line.Line-F LineMeaning → Type 0
  LineIs x = (j : Jumps) (at : ℕ) (D : List Named) (s : State) (r : List Stmt × State) → Has D s → line_by v.target roles defined result x j at s ≡ Ok r → To (List Stmt) (Sound j) D s r

  line_if : (x : one_line.Line-F LineMeaning) (b : Bool) → InsideHolds x → (j : Jumps) (at : ℕ) (D : List Named) (s : State) (r : List Stmt × State) → Has D s →
      (if b then scoped (inside v.target roles defined result x j at) s else inside v.target roles defined result x j at s) ≡ Ok r → To (List Stmt) (Sound j) D s r
  line_if x true f j at D s r d h =
      scoped_reached Goes Knows Has on (Sound j) (inside v.target roles defined result x j at) D s r d (λ y e i. f j at D (entered empty s) y e i) h
  line_if x false f j at D s r d h = f j at D s r d h

  line_is : (x : one_line.Line-F LineMeaning) → InsideHolds x → LineIs x
  line_is x f j at D s r d h = line_if x (opens_scope x) f j at D s r d h

  inside_holds : (y : one_line.Line-F SomeLine) → ranged y ≡ true → InsideHolds (meant y)
  inside_holds (one_line.Block ls) q j at D s r d h = block_reached Goes Knows Has on v Lowered keeps result j (map meant_at (map bare_at ls)) (each_line ls q) D s r d h
  inside_holds (one_line.Decl x) q j at D s r d h = declared_reached Goes Knows Has on v Lowered keeps result roles defined x (declares x q) j D s r d h
  inside_holds (one_line.Expr e) q j at D s r d h = expression_reached Goes Knows Has on v Lowered keeps result roles e (maybe_value e q) j D s r d h
  inside_holds (one_line.If e a None) q j at D s r d h =
      let c = both_true (fits e.node) (line_in_range a.node.0 && true) q in
      let k = both_true (line_in_range a.node.0) true c.1 in
      if_reached Goes Knows Has on v Lowered keeps result roles e (values e c.0) (here a) (a.node.1 k.0) None (λ x i. no_other x i) j at D s r d h
  inside_holds (one_line.If e a (Some b)) q j at D s r d h =
      let c = both_true (fits e.node) (line_in_range a.node.0 && line_in_range b.node.0) q in
      let k = both_true (line_in_range a.node.0) (line_in_range b.node.0) c.1 in
      if_reached Goes Knows Has on v Lowered keeps result roles e (values e c.0) (here a) (a.node.1 k.0) (Some (here b)) (λ x i. other_holds b k.1 x i) j at D s r d h
  inside_holds (one_line.While e a) q j at D s r d h =
      let c = both_true (fits e.node) (line_in_range a.node.0) q in while_reached Goes Knows Has on v Lowered keeps result roles e (values e c.0) (here a) (a.node.1 c.1) j at D s r d h
  inside_holds (one_line.DoWhile a e) q j at D s r d h =
      let c = both_true (fits e.node) (line_in_range a.node.0) q in do_reached Goes Knows Has on v Lowered keeps result roles (here a) (a.node.1 c.1) e (values e c.0) j at D s r d h
  inside_holds (one_line.For f test step a) q j at D s r d h =
      let c = both_true (first_fits f) (part_fits fits test && (part_fits fits step && line_in_range a.node.0)) q in
      let k = both_true (part_fits fits test) (part_fits fits step && line_in_range a.node.0) c.1 in
      let l = both_true (part_fits fits step) (line_in_range a.node.0) k.1 in
      for_reached Goes Knows Has on v Lowered keeps result roles defined f (first_decl f c.0) (first_value f c.0) test step (maybe_value test k.0) (maybe_value step l.0) (here a) (a.node.1 l.1) j at D s r d h
  inside_holds (one_line.Switch e a) q j at D s r d h =
      let c = both_true (fits e.node) (line_in_range a.node.0) q in switch_reached Goes Knows Has on v Lowered keeps result roles e (values e c.0) (here a) (a.node.1 c.1) j at D s r d h
  inside_holds (one_line.Case e a) q j at D s r d h = absurd (misplaced_case_never Goes Knows Has on v Lowered keeps result roles e (here a) j at s r h)
  inside_holds (one_line.Default a) q j at D s r d h = absurd (misplaced_never Goes Knows Has on v Lowered keeps result (here a) j at s r h)
  inside_holds one_line.Break q j at D s r d h = break_reached Goes Knows Has on v Lowered keeps result j at D s r h
  inside_holds one_line.Continue q j at D s r d h = continue_reached Goes Knows Has on v Lowered keeps result j at D s r h
  inside_holds (one_line.Return e) q j at D s r d h = return_reached Goes Knows Has on v Lowered keeps result roles e (maybe_value e q) there j at D s r d h

  line_holds : (y : one_line.Line-F SomeLine) → ranged y ≡ true → LineIs (meant y)
  line_holds y q = line_is (meant y) (inside_holds y q)

  -- ---- as the body of a `switch`, and in one

  abbrev SwitchedIs : one_line.Line-F LineMeaning → Type 0
  SwitchedIs x = (j : Jumps) (t : IntType) (at : ℕ) (D : List Named) (s : State) (r : Option Cases × State) → Has D s → switched_by v.target roles defined result x (in_switch j) t at s ≡ Ok r →
      To (Option Cases) (λ L o. (c : Cases) → o ≡ Some c → SoundCases Goes Knows Has on v Lowered keeps result t j L c) D s r

  other_switched : (x : one_line.Line-F LineMeaning) → LineIs x → (j : Jumps) (t : IntType) (at : ℕ) (D : List Named) (s : State) (r : Option Cases × State) → Has D s →
      not_switched (line_by v.target roles defined result x) (in_switch j) at s ≡ Ok r → To (Option Cases) (λ L o. (c : Cases) → o ≡ Some c → SoundCases Goes Knows Has on v Lowered keeps result t j L c) D s r
  other_switched x f j t at D s r d h = no_block Goes Knows Has on v Lowered keeps result (line_by v.target roles defined result x) f j t at D s r d h

  switched_holds : (y : one_line.Line-F SomeLine) → ranged y ≡ true → SwitchedIs (meant y)
  switched_holds (one_line.Block ls) q j t at D s r d h = switch_block Goes Knows Has on v Lowered keeps result j t (map meant_at (map bare_at ls)) (each_line ls q) D s r d h
  switched_holds (one_line.Decl x) q j t at D s r d h = other_switched (meant (one_line.Decl x)) (line_holds (one_line.Decl x) q) j t at D s r d h
  switched_holds (one_line.Expr e) q j t at D s r d h = other_switched (meant (one_line.Expr e)) (line_holds (one_line.Expr e) q) j t at D s r d h
  switched_holds (one_line.If e a b) q j t at D s r d h = other_switched (meant (one_line.If e a b)) (line_holds (one_line.If e a b) q) j t at D s r d h
  switched_holds (one_line.While e a) q j t at D s r d h = other_switched (meant (one_line.While e a)) (line_holds (one_line.While e a) q) j t at D s r d h
  switched_holds (one_line.DoWhile a e) q j t at D s r d h = other_switched (meant (one_line.DoWhile a e)) (line_holds (one_line.DoWhile a e) q) j t at D s r d h
  switched_holds (one_line.For f test step a) q j t at D s r d h = other_switched (meant (one_line.For f test step a)) (line_holds (one_line.For f test step a) q) j t at D s r d h
  switched_holds (one_line.Switch e a) q j t at D s r d h = other_switched (meant (one_line.Switch e a)) (line_holds (one_line.Switch e a) q) j t at D s r d h
  switched_holds (one_line.Case e a) q j t at D s r d h = other_switched (meant (one_line.Case e a)) (line_holds (one_line.Case e a) q) j t at D s r d h
  switched_holds (one_line.Default a) q j t at D s r d h = other_switched (meant (one_line.Default a)) (line_holds (one_line.Default a) q) j t at D s r d h
  switched_holds one_line.Break q j t at D s r d h = other_switched (meant one_line.Break) (line_holds one_line.Break q) j t at D s r d h
  switched_holds one_line.Continue q j t at D s r d h = other_switched (meant one_line.Continue) (line_holds one_line.Continue q) j t at D s r d h
  switched_holds (one_line.Return e) q j t at D s r d h = other_switched (meant (one_line.Return e)) (line_holds (one_line.Return e) q) j t at D s r d h

  abbrev ItemIs : one_line.Line-F LineMeaning → Type 0
  ItemIs x = (j : Jumps) (t : IntType) (cases : Cases) (at : ℕ) (D : List Named) (s : State) (r : Cases × State) → Has D s → item_by v.target roles defined result x (in_switch j) t cases at s ≡ Ok r →
      To Cases (λ L c. SoundCases Goes Knows Has on v Lowered keeps result t j L cases → SoundCases Goes Knows Has on v Lowered keeps result t j L c) D s r

  other_item : (x : one_line.Line-F LineMeaning) → LineIs x → (j : Jumps) (t : IntType) (cases : Cases) (at : ℕ) (D : List Named) (s : State) (r : Cases × State) → Has D s →
      unlabelled (is_empty x) (counts x) (line_by v.target roles defined result x) (in_switch j) cases at s ≡ Ok r →
      To Cases (λ L c. SoundCases Goes Knows Has on v Lowered keeps result t j L cases → SoundCases Goes Knows Has on v Lowered keeps result t j L c) D s r
  other_item x f j t cases at D s r d h = unlabelled_reached Goes Knows Has on v Lowered keeps result (is_empty x) (counts x) (line_by v.target roles defined result x) f j t cases at D s r d h

  item_holds : (y : one_line.Line-F SomeLine) → ranged y ≡ true → ItemIs (meant y)
  item_holds (one_line.Block ls) q j t cases at D s r d h = other_item (meant (one_line.Block ls)) (line_holds (one_line.Block ls) q) j t cases at D s r d h
  item_holds (one_line.Decl x) q j t cases at D s r d h = other_item (meant (one_line.Decl x)) (line_holds (one_line.Decl x) q) j t cases at D s r d h
  item_holds (one_line.Expr e) q j t cases at D s r d h = other_item (meant (one_line.Expr e)) (line_holds (one_line.Expr e) q) j t cases at D s r d h
  item_holds (one_line.If e a b) q j t cases at D s r d h = other_item (meant (one_line.If e a b)) (line_holds (one_line.If e a b) q) j t cases at D s r d h
  item_holds (one_line.While e a) q j t cases at D s r d h = other_item (meant (one_line.While e a)) (line_holds (one_line.While e a) q) j t cases at D s r d h
  item_holds (one_line.DoWhile a e) q j t cases at D s r d h = other_item (meant (one_line.DoWhile a e)) (line_holds (one_line.DoWhile a e) q) j t cases at D s r d h
  item_holds (one_line.For f test step a) q j t cases at D s r d h = other_item (meant (one_line.For f test step a)) (line_holds (one_line.For f test step a) q) j t cases at D s r d h
  item_holds (one_line.Switch e a) q j t cases at D s r d h = other_item (meant (one_line.Switch e a)) (line_holds (one_line.Switch e a) q) j t cases at D s r d h
  item_holds (one_line.Case e a) q j t cases at D s r d h =
      let c = both_true (fits e.node) (line_in_range a.node.0) q in case_reached Goes Knows Has on v Lowered keeps result roles e (values e c.0) (here a) (a.node.1 c.1) j t cases at D s r d h
  item_holds (one_line.Default a) q j t cases at D s r d h = default_reached Goes Knows Has on v Lowered keeps result (here a) (a.node.1 q) j t cases at D s r d h
  item_holds one_line.Break q j t cases at D s r d h = other_item (meant one_line.Break) (line_holds one_line.Break q) j t cases at D s r d h
  item_holds one_line.Continue q j t cases at D s r d h = other_item (meant one_line.Continue) (line_holds one_line.Continue q) j t cases at D s r d h
  item_holds (one_line.Return e) q j t cases at D s r d h = other_item (meant (one_line.Return e)) (line_holds (one_line.Return e) q) j t cases at D s r d h

  level : (y : one_line.Line-F SomeLine) → ranged y ≡ true → Holds (line_step v.target roles defined result (meant y))
  level y q = record { line = line_holds y q; switched = switched_holds y q; item = item_holds y q }

  made : (y : one_line.Line-F SomeLine) → P (roll-Line (bare y))
  made y h = subst Holds (sym (line-means (bare y))) (level y (sym (line-ranges (bare y)) ∙ h))

  pub line_sound : (l : Line) → line_in_range l ≡ true → LineHolds Goes Knows Has on v Lowered keeps result (line_of v.target roles defined result l)
  line_sound l h = ind-Line P (λ x y e. subst (λ (z : one_line.Line-F Line). P (roll-Line z)) e (made y)) l h

  all_sound : (ls : List (At Line)) → list_all (λ (l : At Line). line_in_range l.node) ls ≡ true → Each (λ (a : At LineMeaning). Holds a.node) (map meant_at ls)
  all_sound [] h = tt
  all_sound (l ∷ ls) h = let c = both_true (line_in_range l.node) (list_all (λ (l : At Line). line_in_range l.node) ls) h in (line_sound l.node c.0, all_sound ls c.1)

  pub body_sound : (ls : List (At Line)) → list_all (λ (l : At Line). line_in_range l.node) ls ≡ true → (j : Jumps) (D : List Named) (s : State) (r : List Stmt × State) → Has D s → lines_found j (map meant_at ls) s ≡ Ok r →
      Reached Goes Knows Has (List Stmt) (SoundList Goes Knows Has on v Lowered keeps result j) D s r
  body_sound ls q j D s r d h = lines_reached Goes Knows Has on v Lowered keeps result j (map meant_at ls) (all_sound ls q) D s r d h
