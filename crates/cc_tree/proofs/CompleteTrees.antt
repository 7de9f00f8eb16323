-- The machine reads what the productions of expressions spell: a lemma for each production, over what its parts lead to.
use Rattle.std.proofs.Common.{◌≡◌, ◌<◌, ◌≤◌, ℕ, zero, suc, Bool, true, false, ◌&&◌, List, [], ◌∷◌, ◌++◌, Option, Some, None, Ok, refl, ap, sym, ◌∙◌, arith, nat_le, max, is_some, true≢false}
use Rattle.std.proofs.lemmas.Bool.{le-leb, lt-leb}
use Rattle.cc_lex.specs.declared.token.Kind.{Kind}
use Rattle.cc_lex.specs.declared.token.Kind.TheVariants as kind
use Rattle.cc_lex.specs.declared.token.Mark.{Mark}
use Rattle.cc_lex.specs.declared.token.Mark.TheVariants as m
use Rattle.cc_lex.specs.declared.token.Suffix.{Suffix}
use Rattle.cc_words.specs.declared.word.Word.TheVariants as w
use Rattle.cc_tree.specs.declared.at.At.{At}
use Rattle.cc_tree.specs.declared.state.Control.{Control}
use Rattle.cc_tree.specs.declared.state.Control.TheVariants as control
use Rattle.cc_tree.specs.declared.state.Frame.{Frame}
use Rattle.cc_tree.specs.declared.state.Frame.TheVariants as frame
use Rattle.cc_tree.specs.declared.state.Scoping.TheVariants as scoping
use Rattle.cc_tree.specs.declared.state.SpecsFrame.TheVariants as for_specs
use Rattle.cc_tree.specs.declared.state.Tall.{Tall}
use Rattle.cc_tree.specs.declared.state.TreeFrame.{TreeFrame}
use Rattle.cc_tree.specs.declared.state.TreeFrame.TheVariants as for_tree
use Rattle.cc_tree.specs.declared.state.Use.{Use}
use Rattle.cc_tree.specs.declared.state.Use.TheVariants as used
use Rattle.cc_tree.specs.declared.tree.Tree as tree
use Rattle.cc_tree.specs.declared.tree.Tree.{Tree}
use Rattle.cc_tree.specs.declared.tree.TypeName.{TypeName}
use Rattle.cc_tree.specs.Height.{height, heights, height_of_type}
use Rattle.cc_tree.specs.Machine.{State, Leads, turned, stays, state_after, height_of}
use Rattle.cc_tree.specs.Operators.{binary_level, is_assignment, is_postfix, operand_level}
use Rattle.cc_tree.specs.Reading.{after, first_mark, mark_before, mark_of, name, same_mark}
use Rattle.cc_tree.specs.ReadTypes.{begins_specs, texts}
use Rattle.cc_tree.specs.Scopes.{Scope, is_typedef}
use Rattle.cc_tree.specs.Terms.{IsTexts, LastText, MoreText}
use Rattle.cc_tree.specs.Tokens.{Tokens, Name, Span, mark, word, ident, number, character, at, offset}
use Rattle.cc_tree.specs.Turns.{Went, on, opens, made, tall}
use Rattle.cc_tree.specs.TurnTrees as trees
use Rattle.cc_tree.specs.TurnTypes as types
use Rattle.cc_tree.proofs.GoesOn.{goes_on, kind_goes_on, mark_goes_on, within, next, next-more, next-suc, next-two, next-one, goes_on-more}
use Rattle.cc_tree.proofs.HeightSteps as high
use Rattle.cc_tree.proofs.Leading.{state, step, then, begins_text, is_text, texts-complete}

infixr 5 ◌▹◌
pub ◌▹◌ : {limit : ℕ} {s t u : State} → Leads limit s t → Leads limit t u → Leads limit s u
a ▹ b = then _ a b

-- one turn
pub turns : {limit : ℕ} {scope : Scope} {fs gs : List Frame} {c : Control} {ts : Tokens} {w : Went} → turned scope fs ts c ≡ Ok (gs, w) → height_of w.control ≤ limit →
    Leads limit (state scope fs c ts) (state_after scope (gs, w))
turns e h = step _ _ _ _ _ _ _ e h

-- what doesn't go on at a level is the end of an expression

ends_text : (k : Kind) (n : ℕ) → n ≤ 15 → within n (kind_goes_on k) ≡ false → is_text k ≡ false
ends_text (kind.Text b) n h e = absurd (true≢false (sym (le-leb n 15 h) ∙ e))
ends_text _ n h e = refl

pub no-text : (n : ℕ) (us : Tokens) → n ≤ 15 → goes_on n us ≡ false → begins_text us ≡ false
no-text n [] h e = refl
no-text n (t ∷ ts) h e = ends_text t.kind n h e

module _ (n level : ℕ) (e : Tall (At Tree)) (all ts : Tokens) where
  ends_operators_mark : (o : Mark) → within n (mark_goes_on o) ≡ false → trees.operators_by n level e all ts o (binary_level o) ≡ on (control.Tree level e) all
  ends_operators_mark m.OrOr h = rw h refl
  ends_operators_mark m.AndAnd h = rw h refl
  ends_operators_mark m.Bar h = rw h refl
  ends_operators_mark m.Caret h = rw h refl
  ends_operators_mark m.Amp h = rw h refl
  ends_operators_mark m.EqEq h = rw h refl
  ends_operators_mark m.NotEq h = rw h refl
  ends_operators_mark m.Lt h = rw h refl
  ends_operators_mark m.Gt h = rw h refl
  ends_operators_mark m.Le h = rw h refl
  ends_operators_mark m.Ge h = rw h refl
  ends_operators_mark m.Shl h = rw h refl
  ends_operators_mark m.Shr h = rw h refl
  ends_operators_mark m.Plus h = rw h refl
  ends_operators_mark m.Minus h = rw h refl
  ends_operators_mark m.Star h = rw h refl
  ends_operators_mark m.Slash h = rw h refl
  ends_operators_mark m.Percent h = rw h refl
  ends_operators_mark m.Question h = rw h refl
  ends_operators_mark m.Comma h = rw h refl
  ends_operators_mark m.Assign h = rw h refl
  ends_operators_mark m.StarAssign h = rw h refl
  ends_operators_mark m.SlashAssign h = rw h refl
  ends_operators_mark m.PercentAssign h = rw h refl
  ends_operators_mark m.PlusAssign h = rw h refl
  ends_operators_mark m.MinusAssign h = rw h refl
  ends_operators_mark m.ShlAssign h = rw h refl
  ends_operators_mark m.ShrAssign h = rw h refl
  ends_operators_mark m.AndAssign h = rw h refl
  ends_operators_mark m.XorAssign h = rw h refl
  ends_operators_mark m.OrAssign h = rw h refl
  ends_operators_mark _ h = refl

  ends_postfix_mark : (o : Mark) → n ≤ 15 → within n (mark_goes_on o) ≡ false → trees.postfix_by e all ts o ≡ on (control.Tree 15 e) all
  ends_postfix_mark m.LBracket h k = absurd (true≢false (sym (le-leb n 15 h) ∙ k))
  ends_postfix_mark m.LParen h k = absurd (true≢false (sym (le-leb n 15 h) ∙ k))
  ends_postfix_mark m.Dot h k = absurd (true≢false (sym (le-leb n 15 h) ∙ k))
  ends_postfix_mark m.Arrow h k = absurd (true≢false (sym (le-leb n 15 h) ∙ k))
  ends_postfix_mark m.PlusPlus h k = absurd (true≢false (sym (le-leb n 15 h) ∙ k))
  ends_postfix_mark m.MinusMinus h k = absurd (true≢false (sym (le-leb n 15 h) ∙ k))
  ends_postfix_mark _ h k = refl

  ends_operators_kind : (k : Kind) → within n (kind_goes_on k) ≡ false → trees.operators_at n level e all (mark_before ts (mark_of k)) ≡ on (control.Tree level e) all
  ends_operators_kind (kind.Punct o) h = ends_operators_mark o h
  ends_operators_kind _ h = refl

  ends_postfix_kind : (k : Kind) → n ≤ 15 → within n (kind_goes_on k) ≡ false → trees.postfix_at e all (mark_before ts (mark_of k)) ≡ on (control.Tree 15 e) all
  ends_postfix_kind (kind.Punct o) h e = ends_postfix_mark o h e
  ends_postfix_kind _ h e = refl

ends_operators : (n level : ℕ) (e : Tall (At Tree)) (us : Tokens) → goes_on n us ≡ false → trees.operators n level e us ≡ on (control.Tree level e) us
unfolding trees.operators first_mark
ends_operators n level e [] h = refl
ends_operators n level e (t ∷ ts) h = ends_operators_kind n level e (t ∷ ts) ts t.kind h

ends_postfix : (n : ℕ) (e : Tall (At Tree)) (us : Tokens) → n ≤ 15 → goes_on n us ≡ false → trees.postfix e us ≡ on (control.Tree 15 e) us
unfolding trees.postfix first_mark
ends_postfix n e [] k h = refl
ends_postfix n e (t ∷ ts) k h = ends_postfix_kind n 0 e (t ∷ ts) ts t.kind k h

-- from level 13 on only postfix operators go on
tight_mark : (o : Mark) → within 15 (mark_goes_on o) ≡ false → within 13 (mark_goes_on o) ≡ false
tight_mark m.LBracket h = h
tight_mark m.LParen h = h
tight_mark m.Dot h = h
tight_mark m.Arrow h = h
tight_mark m.PlusPlus h = h
tight_mark m.MinusMinus h = h
tight_mark _ h = refl

tight_kind : (k : Kind) → within 15 (kind_goes_on k) ≡ false → within 13 (kind_goes_on k) ≡ false
tight_kind (kind.Punct o) h = tight_mark o h
tight_kind (kind.Text b) h = h
tight_kind _ h = refl

tight-most : (us : Tokens) → goes_on 15 us ≡ false → goes_on 13 us ≡ false
tight-most [] h = refl
tight-most (t ∷ ts) h = tight_kind t.kind h

pub tight : (n l : ℕ) (us : Tokens) → n ≤ 15 → 13 ≤ l → goes_on n us ≡ false → goes_on l us ≡ false
tight n l us h k e = goes_on-more 13 l us (tight-most us (goes_on-more n 15 us e h)) k

-- An expression is read behind which operators of a level and tighter ones are looked for next. It is of some level.
pub record Operated (limit : ℕ) (scope : Scope) (k l : ℕ) (fs : List Frame) (e : At Tree) (ts us : Tokens) : Type 0 where
  pub level : ℕ
  pub least : k ≤ level
  pub leads : Leads limit (state scope (frame.Tree (for_tree.Operators l) ∷ fs) (control.Operand l) ts) (state scope fs (control.Operators l level (tall e (height e.node))) us)

-- An expression of a level is read: a primary or postfix one, or an operation.
pub data Reads (limit : ℕ) (scope : Scope) (k : ℕ) (e : At Tree) (ts us : Tokens) : Type 0 where
  Primary : ((l : ℕ) (fs : List Frame) → begins_text us ≡ false → Leads limit (state scope fs (control.Operand l) ts) (state scope fs (control.Postfix (tall e (height e.node))) us)) →
      Reads limit scope k e ts us
  Operation : k ≤ 14 → ((l : ℕ) (fs : List Frame) → l ≤ k → goes_on (next k) us ≡ false → Operated limit scope k l fs e ts us) → Reads limit scope k e ts us

-- an expression is read where one of this level is wanted, and handed over
abbrev pub Handed : ℕ → Scope → ℕ → List Frame → At Tree → Tokens → Tokens → Type 0
Handed limit scope l fs e ts us = (level : ℕ) × Leads limit (state scope fs (control.Expr l) ts) (state scope fs (control.Tree level (tall e (height e.node))) us)

-- arguments are read behind what is called, whatever stands behind them
abbrev pub ReadsArgs : ℕ → Scope → List (At Tree) → Tokens → Tokens → Type 0
ReadsArgs limit scope es ts us = (f : Tall (At Tree)) (fs : List Frame) (w : Went) → trees.argument_at (tall f.node (max f.height (heights height es))) es us (after m.Comma us) ≡ Ok w →
    height_of w.control ≤ limit → Leads limit (state scope (frame.Tree (for_tree.Call f []) ∷ fs) (control.Expr 1) ts) (state_after scope (fs, w))

-- a type name is read up to behind its `)`, whatever it is for
abbrev pub ReadsType : ℕ → Scope → TypeName → Tokens → Tokens → Type 0
ReadsType limit scope t ts us = (u : Use) (n : ℕ) (fs : List Frame) (w : Went) → types.use_type u n (tall t (height_of_type t)) us ≡ Ok w → height_of w.control ≤ limit →
    Leads limit (state scope (frame.Specs (for_specs.TypeName u n) ∷ fs) (control.Specs (tall [] 0)) ts) (state_after scope (fs, w))

abbrev pub type_in_parens : Scope → Option Tokens → Bool
type_in_parens scope None = false
type_in_parens scope (Some ts) = begins_specs scope ts

size_of-tree : (scope : Scope) (ts : Tokens) (n : ℕ) (r : Option Tokens) → type_in_parens scope r ≡ false → trees.size_of scope ts n r ≡ opens (frame.Tree (for_tree.SizeOf n)) (control.Expr 14) ts
size_of-tree scope ts n None h = refl
size_of-tree scope ts n (Some us) h = rw h refl

abbrev or_else : ℕ → Option ℕ → ℕ
or_else n None = n
or_else n (Some k) = k

some-most : (n k : ℕ) → Some n ≡ Some k → 13 ≤ n → n ≤ 14 → (13 ≤ k) × (k ≤ 14)
some-most n k e h i = let f : n ≡ k = ap (or_else 0) e in (rw (← f) h, rw (← f) i)

operand_most : (o : Mark) (k : ℕ) → operand_level o ≡ Some k → (13 ≤ k) × (k ≤ 14)
operand_most m.PlusPlus k e = some-most 14 k e (omega arith) (omega arith)
operand_most m.MinusMinus k e = some-most 14 k e (omega arith) (omega arith)
operand_most m.Amp k e = some-most 13 k e (omega arith) (omega arith)
operand_most m.Star k e = some-most 13 k e (omega arith) (omega arith)
operand_most m.Plus k e = some-most 13 k e (omega arith) (omega arith)
operand_most m.Minus k e = some-most 13 k e (omega arith) (omega arith)
operand_most m.Tilde k e = some-most 13 k e (omega arith) (omega arith)
operand_most m.Bang k e = some-most 13 k e (omega arith) (omega arith)
operand_most _ k e = absurd (true≢false (sym (ap is_some e)))

-- the operators that stand between operands

some-binary : (n k : ℕ) → Some n ≡ Some k → 3 ≤ n → n ≤ 12 → (Some n ≡ Some k) × (3 ≤ k) × (k ≤ 12)
some-binary n k e h i = let f : n ≡ k = ap (or_else 0) e in (e, rw (← f) h, rw (← f) i)

binary-mark : (o : Mark) (k : ℕ) → binary_level o ≡ Some k → (mark_goes_on o ≡ Some k) × (3 ≤ k) × (k ≤ 12)
binary-mark m.OrOr k e = some-binary 3 k e (omega arith) (omega arith)
binary-mark m.AndAnd k e = some-binary 4 k e (omega arith) (omega arith)
binary-mark m.Bar k e = some-binary 5 k e (omega arith) (omega arith)
binary-mark m.Caret k e = some-binary 6 k e (omega arith) (omega arith)
binary-mark m.Amp k e = some-binary 7 k e (omega arith) (omega arith)
binary-mark m.EqEq k e = some-binary 8 k e (omega arith) (omega arith)
binary-mark m.NotEq k e = some-binary 8 k e (omega arith) (omega arith)
binary-mark m.Lt k e = some-binary 9 k e (omega arith) (omega arith)
binary-mark m.Gt k e = some-binary 9 k e (omega arith) (omega arith)
binary-mark m.Le k e = some-binary 9 k e (omega arith) (omega arith)
binary-mark m.Ge k e = some-binary 9 k e (omega arith) (omega arith)
binary-mark m.Shl k e = some-binary 10 k e (omega arith) (omega arith)
binary-mark m.Shr k e = some-binary 10 k e (omega arith) (omega arith)
binary-mark m.Plus k e = some-binary 11 k e (omega arith) (omega arith)
binary-mark m.Minus k e = some-binary 11 k e (omega arith) (omega arith)
binary-mark m.Star k e = some-binary 12 k e (omega arith) (omega arith)
binary-mark m.Slash k e = some-binary 12 k e (omega arith) (omega arith)
binary-mark m.Percent k e = some-binary 12 k e (omega arith) (omega arith)
binary-mark _ k e = absurd (true≢false (sym (ap is_some e)))

next-three : (k : ℕ) → 3 ≤ k → k < next k
next-three zero h = absurd (omega (arith, h))
next-three (suc zero) h = absurd (omega (arith, h))
next-three (suc (suc zero)) h = absurd (omega (arith, h))
next-three (suc (suc (suc k))) h = omega arith

binary-ends : (o : Mark) (k : ℕ) (p : Span) (us : Tokens) → mark_goes_on o ≡ Some k → 3 ≤ k → goes_on (next k) (mark o p ∷ us) ≡ false
binary-ends o k p us e h = rw e (lt-leb (next k) k (next-three k h))

assignment-ends : (o : Mark) → is_assignment o ≡ true → within 15 (mark_goes_on o) ≡ false
assignment-ends m.Assign h = refl
assignment-ends m.StarAssign h = refl
assignment-ends m.SlashAssign h = refl
assignment-ends m.PercentAssign h = refl
assignment-ends m.PlusAssign h = refl
assignment-ends m.MinusAssign h = refl
assignment-ends m.ShlAssign h = refl
assignment-ends m.ShrAssign h = refl
assignment-ends m.AndAssign h = refl
assignment-ends m.XorAssign h = refl
assignment-ends m.OrAssign h = refl
assignment-ends _ h = absurd (true≢false (sym h))

module _ (l level : ℕ) (e : Tall (At Tree)) (all ts : Tokens) where
  assigns : (o : Mark) → is_assignment o ≡ true → l ≤ 1 → 14 ≤ level → trees.operators_by l level e all ts o (binary_level o) ≡ opens (frame.Tree (for_tree.Assign l o e)) (control.Expr 1) ts
  assigns m.Assign t i h = rw (le-leb l 1 i, le-leb 14 level h) refl
  assigns m.StarAssign t i h = rw (le-leb l 1 i, le-leb 14 level h) refl
  assigns m.SlashAssign t i h = rw (le-leb l 1 i, le-leb 14 level h) refl
  assigns m.PercentAssign t i h = rw (le-leb l 1 i, le-leb 14 level h) refl
  assigns m.PlusAssign t i h = rw (le-leb l 1 i, le-leb 14 level h) refl
  assigns m.MinusAssign t i h = rw (le-leb l 1 i, le-leb 14 level h) refl
  assigns m.ShlAssign t i h = rw (le-leb l 1 i, le-leb 14 level h) refl
  assigns m.ShrAssign t i h = rw (le-leb l 1 i, le-leb 14 level h) refl
  assigns m.AndAssign t i h = rw (le-leb l 1 i, le-leb 14 level h) refl
  assigns m.XorAssign t i h = rw (le-leb l 1 i, le-leb 14 level h) refl
  assigns m.OrAssign t i h = rw (le-leb l 1 i, le-leb 14 level h) refl
  assigns _ t i h = absurd (true≢false (sym t))

binary-turn : (l level k : ℕ) (e : Tall (At Tree)) (o : Mark) (p : Span) (us : Tokens) → binary_level o ≡ Some k → l ≤ k → k ≤ level →
    trees.operators l level e (mark o p ∷ us) ≡ opens (frame.Tree (for_tree.Binary l o k e)) (control.Expr (suc k)) us
unfolding trees.operators first_mark
binary-turn l level k e o p us i h n = rw (i, le-leb l k h, le-leb k level n) refl

choice-turn : (l level : ℕ) (e : Tall (At Tree)) (p : Span) (us : Tokens) → l ≤ 2 → 3 ≤ level →
    trees.operators l level e (mark m.Question p ∷ us) ≡ opens (frame.Tree (for_tree.Choice l e)) (control.Expr 0) us
unfolding trees.operators first_mark
choice-turn l level e p us h n = rw (le-leb l 2 h, le-leb 3 level n) refl

assignment-turn : (l level : ℕ) (e : Tall (At Tree)) (o : Mark) (p : Span) (us : Tokens) → is_assignment o ≡ true → l ≤ 1 → 14 ≤ level →
    trees.operators l level e (mark o p ∷ us) ≡ opens (frame.Tree (for_tree.Assign l o e)) (control.Expr 1) us
unfolding trees.operators first_mark
assignment-turn l level e o p us i h n = assigns l level e (mark o p ∷ us) us o i h n

comma-turn : (l level : ℕ) (e : Tall (At Tree)) (p : Span) (us : Tokens) → l ≤ 0 →
    trees.operators l level e (mark m.Comma p ∷ us) ≡ opens (frame.Tree (for_tree.Comma l e)) (control.Expr 1) us
unfolding trees.operators first_mark
comma-turn l level e p us h = rw (le-leb l 0 h) refl

next-most : (k : ℕ) → k ≤ 14 → next k ≤ 15
next-most k h = omega (arith, next-suc k)

text-turn : (scope : Scope) (l : ℕ) {b : List ℕ} {ts us : Tokens} → IsTexts b ts us → texts ts ≡ (b, us) → trees.operand scope l ts ≡ on (control.Postfix (made (offset ts) (tree.Text b) 0)) us
unfolding trees.operand
text-turn scope l (LastText b s us) e = ap (λ (r : List ℕ × Tokens). on (control.Postfix (made s.0 (tree.Text r.0) 0)) r.1) e
text-turn scope l (MoreText b c s ts us d) e = ap (λ (r : List ℕ × Tokens). on (control.Postfix (made s.0 (tree.Text r.0) 0)) r.1) e

and-false : (b : Bool) → (b && false) ≡ false
and-false true = refl
and-false false = refl

max_assoc : (a b c : ℕ) → max (max a b) c ≡ max a (max b c)
max_assoc a b c = omega arith

max_none : (a : ℕ) → max a 0 ≡ a
max_none a = omega arith

module _ {limit : ℕ} {scope : Scope} where
  pub operated : {k : ℕ} {e : At Tree} {ts us : Tokens} (l : ℕ) (fs : List Frame) → Reads limit scope k e ts us → height e.node ≤ limit → l ≤ k → k ≤ 14 → goes_on (next k) us ≡ false →
      Operated limit scope k l fs e ts us
  operated {k = k} {e = e} {us = us} l fs (Primary p) h i j g = record {
    level = 15;
    least = omega (arith, j);
    leads = p l (frame.Tree (for_tree.Operators l) ∷ fs) (no-text (next k) us (next-most k j) g)
        ▹ turns (ap (stays (frame.Tree (for_tree.Operators l) ∷ fs)) (ends_postfix (next k) (tall e (height e.node)) us (next-most k j) g)) h
        ▹ turns refl h;
  }
  operated l fs (Operation j p) h i k g = p l fs i g

  pub handed : {l : ℕ} {e : At Tree} {ts us : Tokens} (fs : List Frame) → Reads limit scope l e ts us → height e.node ≤ limit → l ≤ 14 → goes_on l us ≡ false → Handed limit scope l fs e ts us
  handed {l = l} {e = e} {ts = ts} {us = us} fs r h i g = ended (operated l fs r h (omega arith) i (goes_on-more l (next l) us g (next-more l)))
    where
      ended : Operated limit scope l l fs e ts us → Handed limit scope l fs e ts us
      ended o = (o.level, turns refl (omega arith) ▹ o.leads ▹ turns (ap (stays fs) (ends_operators l o.level (tall e (height e.node)) us g)) h)

  -- primary expressions, 6.5.1

  pub reads-Name : (k : ℕ) (x : Name) (s : Span) (us : Tokens) → is_typedef scope x ≡ false → Reads limit scope k (record { at = s.0; node = tree.Named x }) (ident x s ∷ us) us
  unfolding trees.operand
  reads-Name k x s us e = Primary (λ l fs n. rw (high.height-Named x) (turns (ap (λ b. stays fs (trees.operand_name (ident x s ∷ us) us s.0 x b)) e) (omega arith)))

  pub reads-Number : (k n : ℕ) (f : Suffix) (s : Span) (us : Tokens) → Reads limit scope k (record { at = s.0; node = tree.Number n f }) (number n f s ∷ us) us
  unfolding trees.operand
  reads-Number k n f s us = Primary (λ l fs t. rw (high.height-Number n f) (turns refl (omega arith)))

  pub reads-Character : (k c : ℕ) (s : Span) (us : Tokens) → Reads limit scope k (record { at = s.0; node = tree.Character c }) (character c s ∷ us) us
  unfolding trees.operand
  reads-Character k c s us = Primary (λ l fs n. rw (high.height-Character c) (turns refl (omega arith)))

  pub reads-Text : (k : ℕ) (b : List ℕ) (ts us : Tokens) → IsTexts b ts us → Reads limit scope k (at ts (tree.Text b)) ts us
  reads-Text k b ts us d = Primary (λ l fs n. rw (high.height-Text b) (turns (ap (stays fs) (text-turn scope l d (texts-complete d n))) (omega arith)))

  pub reads-Paren : (k : ℕ) (e : At Tree) (p q : Span) (ts us : Tokens) → Reads limit scope 0 e ts (mark m.RParen q ∷ us) → begins_specs scope ts ≡ false → suc (height e.node) ≤ limit →
      Reads limit scope k (record { at = p.0; node = tree.Paren e }) (mark m.LParen p ∷ ts) us
  unfolding trees.operand same_mark after
  reads-Paren k e p q ts us r b h = Primary (λ l fs n. rw (high.height-Paren e) (turns (opens_paren l fs) (omega arith) ▹ closed l fs (handed (frame.Tree (for_tree.Paren p.0) ∷ fs) r (omega (arith, h)) (omega arith) refl)))
    where
      opens_paren : (l : ℕ) (fs : List Frame) → turned scope fs (mark m.LParen p ∷ ts) (control.Operand l) ≡ Ok (fs, record { frame = Some (frame.Tree (for_tree.Paren p.0)); control = control.Expr 0; rest = ts; scoping = scoping.Same })
      opens_paren l fs = ap (λ x. stays fs (trees.in_parens ts p.0 (nat_le l 13 && x))) b ∙ ap (λ x. stays fs (trees.in_parens ts p.0 x)) (and-false (nat_le l 13))

      closed : (l : ℕ) (fs : List Frame) → Handed limit scope 0 (frame.Tree (for_tree.Paren p.0) ∷ fs) e ts (mark m.RParen q ∷ us) →
          Leads limit (state scope (frame.Tree (for_tree.Paren p.0) ∷ fs) (control.Expr 0) ts) (state scope fs (control.Postfix (tall (record { at = p.0; node = tree.Paren e }) (suc (height e.node)))) us)
      closed l fs d = d.1 ▹ turns refl h

  -- postfix expressions, 6.5.2

  primary : {e : At Tree} {ts us : Tokens} → Reads limit scope 15 e ts us → begins_text us ≡ false → (l : ℕ) (fs : List Frame) →
      Leads limit (state scope fs (control.Operand l) ts) (state scope fs (control.Postfix (tall e (height e.node))) us)
  primary (Primary p) n l fs = p l fs n
  primary (Operation h p) n l fs = absurd (omega (arith, h))

  pub reads-Subscript : (k : ℕ) (a i : At Tree) (p q : Span) (ts us vs : Tokens) → a.at ≡ offset ts → Reads limit scope 15 a ts (mark m.LBracket p ∷ us) →
      Reads limit scope 0 i us (mark m.RBracket q ∷ vs) → suc (max (height a.node) (height i.node)) ≤ limit → Reads limit scope k (at ts (tree.Subscript a i)) ts vs
  unfolding trees.postfix first_mark same_mark after
  reads-Subscript k a i p q ts us vs e r t h = Primary (λ l fs n. rw (high.height-Subscript a i, ← e) (primary r refl l fs ▹ turns refl (omega arith) ▹
      closed fs (handed (frame.Tree (for_tree.Subscript (tall a (height a.node))) ∷ fs) t (omega (arith, h)) (omega arith) refl)))
    where
      closed : (fs : List Frame) → Handed limit scope 0 (frame.Tree (for_tree.Subscript (tall a (height a.node))) ∷ fs) i us (mark m.RBracket q ∷ vs) →
          Leads limit (state scope (frame.Tree (for_tree.Subscript (tall a (height a.node))) ∷ fs) (control.Expr 0) us)
          (state scope fs (control.Postfix (tall (record { at = a.at; node = tree.Subscript a i }) (suc (max (height a.node) (height i.node))))) vs)
      closed fs d = d.1 ▹ turns refl h

  pub reads-CallOfNone : (k : ℕ) (f : At Tree) (p q : Span) (ts us : Tokens) → f.at ≡ offset ts → Reads limit scope 15 f ts (mark m.LParen p ∷ mark m.RParen q ∷ us) →
      suc (height f.node) ≤ limit → Reads limit scope k (at ts (tree.Call f [])) ts us
  unfolding trees.postfix first_mark same_mark after
  reads-CallOfNone k f p q ts us e r h = Primary (λ l fs n. rw (high.height-Call f [], max_none (height f.node), ← e) (primary r refl l fs ▹ turns refl h))

  pub reads-Member : (k : ℕ) (e : At Tree) (x : Name) (p s : Span) (ts us : Tokens) → e.at ≡ offset ts → Reads limit scope 15 e ts (mark m.Dot p ∷ ident x s ∷ us) →
      suc (height e.node) ≤ limit → Reads limit scope k (at ts (tree.Member e x)) ts us
  unfolding trees.postfix first_mark name
  reads-Member k e x p s ts us i r h = Primary (λ l fs n. rw (high.height-Member e x, ← i) (primary r refl l fs ▹ turns refl h))

  pub reads-Arrow : (k : ℕ) (e : At Tree) (x : Name) (p s : Span) (ts us : Tokens) → e.at ≡ offset ts → Reads limit scope 15 e ts (mark m.Arrow p ∷ ident x s ∷ us) →
      suc (height e.node) ≤ limit → Reads limit scope k (at ts (tree.Arrow e x)) ts us
  unfolding trees.postfix first_mark name
  reads-Arrow k e x p s ts us i r h = Primary (λ l fs n. rw (high.height-Arrow e x, ← i) (primary r refl l fs ▹ turns refl h))

  pub reads-Postfix : (k : ℕ) (e : At Tree) (o : Mark) (p : Span) (ts us : Tokens) → is_postfix o ≡ true → e.at ≡ offset ts → Reads limit scope 15 e ts (mark o p ∷ us) →
      suc (height e.node) ≤ limit → Reads limit scope k (at ts (tree.Postfix e o)) ts us
  unfolding trees.postfix first_mark
  reads-Postfix k e m.PlusPlus p ts us j i r h = Primary (λ l fs n. rw (high.height-Postfix e m.PlusPlus, ← i) (primary r refl l fs ▹ turns refl h))
  reads-Postfix k e m.MinusMinus p ts us j i r h = Primary (λ l fs n. rw (high.height-Postfix e m.MinusMinus, ← i) (primary r refl l fs ▹ turns refl h))
  reads-Postfix k e _ p ts us j i r h = absurd (true≢false (sym j))

  pub reads-FirstArg : (e : At Tree) (ts us : Tokens) → Reads limit scope 1 e ts us → goes_on 1 us ≡ false → height e.node ≤ limit → ReadsArgs limit scope (e ∷ []) ts us
  reads-FirstArg e ts us r g h f fs w i j = given (handed (frame.Tree (for_tree.Call f []) ∷ fs) r h (omega arith) g)
    where
      given : Handed limit scope 1 (frame.Tree (for_tree.Call f []) ∷ fs) e ts us → Leads limit (state scope (frame.Tree (for_tree.Call f []) ∷ fs) (control.Expr 1) ts) (state_after scope (fs, w))
      given d = let i1 : trees.argument_at (tall f.node (max f.height (height e.node))) (e ∷ []) us (after m.Comma us) ≡ Ok w = rw (← high.heights-first height e) i in d.1 ▹ turns (ap (stays fs) i1) j

  pub reads-MoreArgs : (es : List (At Tree)) (e : At Tree) (c : Span) (ts us vs : Tokens) → ReadsArgs limit scope es ts (mark m.Comma c ∷ us) → Reads limit scope 1 e us vs → goes_on 1 vs ≡ false →
      height e.node ≤ limit → ReadsArgs limit scope (es ++ e ∷ []) ts vs
  unfolding same_mark after
  reads-MoreArgs es e c ts us vs more r g h f fs w i j =
      more f fs (record { frame = Some (frame.Tree (for_tree.Call (tall f.node (max f.height (heights height es))) es)); control = control.Expr 1; rest = us; scoping = scoping.Same }) refl (omega arith)
      ▹ given (handed (frame.Tree (for_tree.Call (tall f.node (max f.height (heights height es))) es) ∷ fs) r h (omega arith) g)
    where
      given : Handed limit scope 1 (frame.Tree (for_tree.Call (tall f.node (max f.height (heights height es))) es) ∷ fs) e us vs →
          Leads limit (state scope (frame.Tree (for_tree.Call (tall f.node (max f.height (heights height es))) es) ∷ fs) (control.Expr 1) us) (state_after scope (fs, w))
      given d = let i1 : trees.argument_at (tall f.node (max (max f.height (heights height es)) (height e.node))) (es ++ e ∷ []) vs (after m.Comma vs) ≡ Ok w = rw (max_assoc f.height (heights height es) (height e.node), ← high.heights-behind height es e) i in
          d.1 ▹ turns (ap (stays fs) i1) j

  pub reads-Call : (k : ℕ) (f : At Tree) (es : List (At Tree)) (p q : Span) (ts us vs : Tokens) → f.at ≡ offset ts → after m.RParen us ≡ None → Reads limit scope 15 f ts (mark m.LParen p ∷ us) →
      ReadsArgs limit scope es us (mark m.RParen q ∷ vs) → suc (max (height f.node) (heights height es)) ≤ limit → Reads limit scope k (at ts (tree.Call f es)) ts vs
  unfolding trees.postfix first_mark same_mark after
  reads-Call k f es p q ts us vs e b r more h = Primary (λ l fs n. rw (high.height-Call f es, ← e) (primary r refl l fs
      ▹ turns (ap (λ x. stays fs (trees.call (tall f (height f.node)) us x)) b) (omega arith) ▹ more (tall f (height f.node)) fs
      (record { frame = None; control = control.Postfix (tall (record { at = f.at; node = tree.Call f es }) (suc (max (height f.node) (heights height es)))); rest = vs; scoping = scoping.Same }) refl h))

  -- unary expressions and casts, 6.5.3 and 6.5.4

  -- what takes an operand gets it
  prefixed : (f : TreeFrame) (j k l : ℕ) (fs : List Frame) (e : At Tree) (node : At Tree) (ts us vs : Tokens) → Reads limit scope j e us vs → j ≤ 14 → 13 ≤ j → k ≤ 14 → goes_on (next k) vs ≡ false →
      suc (height e.node) ≤ limit →
      ((level : ℕ) → trees.give_tree level (tall e (height e.node)) vs f ≡ on (control.Tree 14 (tall node (suc (height e.node)))) vs) →
      height node.node ≡ suc (height e.node) →
      Leads limit (state scope (frame.Tree (for_tree.Operators l) ∷ fs) (control.Operand l) ts) (state scope (frame.Tree f ∷ frame.Tree (for_tree.Operators l) ∷ fs) (control.Expr j) us) →
      Operated limit scope k l fs node ts vs
  prefixed f j k l fs e node ts us vs r h i n g t give q start = record {
    level = 14;
    least = n;
    leads = start ▹ rw q (closed (handed (frame.Tree f ∷ frame.Tree (for_tree.Operators l) ∷ fs) r (omega (arith, t)) h (tight (next k) j vs (next-most k n) i g)));
  }
    where
      closed : Handed limit scope j (frame.Tree f ∷ frame.Tree (for_tree.Operators l) ∷ fs) e us vs →
          Leads limit (state scope (frame.Tree f ∷ frame.Tree (for_tree.Operators l) ∷ fs) (control.Expr j) us) (state scope fs (control.Operators l 14 (tall node (suc (height e.node)))) vs)
      closed d = d.1 ▹ turns (ap (stays (frame.Tree (for_tree.Operators l) ∷ fs)) (give d.0)) t ▹ turns refl t

  pub reads-Prefix : (k j : ℕ) (o : Mark) (e : At Tree) (p : Span) (ts us : Tokens) → k ≤ 14 → operand_level o ≡ Some j → Reads limit scope j e ts us → suc (height e.node) ≤ limit →
      Reads limit scope k (record { at = p.0; node = tree.Prefix o e }) (mark o p ∷ ts) us
  unfolding trees.operand
  reads-Prefix k j o e p ts us h i r t = Operation h (λ l fs n g. prefixed (for_tree.Prefix p.0 o) j k l fs e (record { at = p.0; node = tree.Prefix o e }) (mark o p ∷ ts) ts us r
      (operand_most o j i).1 (operand_most o j i).0 h g t (λ level. refl) (high.height-Prefix o e)
      (turns (ap (λ x. stays (frame.Tree (for_tree.Operators l) ∷ fs) (trees.operand_mark scope l (mark o p ∷ ts) ts p.0 o x)) i) (omega arith)))

  pub reads-SizeOf : (k : ℕ) (e : At Tree) (p : Span) (ts us : Tokens) → k ≤ 14 → type_in_parens scope (after m.LParen ts) ≡ false → Reads limit scope 14 e ts us → suc (height e.node) ≤ limit →
      Reads limit scope k (record { at = p.0; node = tree.SizeOf e }) (word w.Sizeof p ∷ ts) us
  unfolding trees.operand
  reads-SizeOf k e p ts us h i r t = Operation h (λ l fs n g. prefixed (for_tree.SizeOf p.0) 14 k l fs e (record { at = p.0; node = tree.SizeOf e }) (word w.Sizeof p ∷ ts) ts us r
      (omega arith) (omega arith) h g t (λ level. refl) (high.height-SizeOf e)
      (turns (ap (stays (frame.Tree (for_tree.Operators l) ∷ fs)) (size_of-tree scope ts p.0 (after m.LParen ts) i)) (omega arith)))

  pub reads-Extension : (k : ℕ) (e : At Tree) (p : Span) (ts us : Tokens) → k ≤ 14 → Reads limit scope 13 e ts us → suc (height e.node) ≤ limit →
      Reads limit scope k (record { at = p.0; node = tree.Extension e }) (word w.Extension p ∷ ts) us
  unfolding trees.operand
  reads-Extension k e p ts us h r t = Operation h (λ l fs n g. prefixed (for_tree.Extension p.0) 13 k l fs e (record { at = p.0; node = tree.Extension e }) (word w.Extension p ∷ ts) ts us r
      (omega arith) (omega arith) h g t (λ level. refl) (high.height-Extension e) (turns refl (omega arith)))

  pub reads-SizeOfType : (k : ℕ) (t : TypeName) (s p : Span) (ts us : Tokens) → k ≤ 14 → begins_specs scope ts ≡ true → ReadsType limit scope t ts us → suc (height_of_type t) ≤ limit →
      Reads limit scope k (record { at = s.0; node = tree.SizeOfType t }) (word w.Sizeof s ∷ mark m.LParen p ∷ ts) us
  unfolding trees.operand same_mark after
  reads-SizeOfType k t s p ts us h b r i = Operation h (λ l fs n g. record {
    level = 14;
    least = h;
    leads = rw (high.height-SizeOfType t) (turns (ap (λ x. stays (frame.Tree (for_tree.Operators l) ∷ fs) (trees.size_of_type (mark m.LParen p ∷ ts) ts s.0 x)) b) (omega arith)
        ▹ r used.SizeOf s.0 (frame.Tree (for_tree.Operators l) ∷ fs)
        (record { frame = None; control = control.Tree 14 (tall (record { at = s.0; node = tree.SizeOfType t }) (suc (height_of_type t))); rest = us; scoping = scoping.Same }) refl i
        ▹ turns refl i);
  })

  pub reads-Cast : (k : ℕ) (t : TypeName) (e : At Tree) (p : Span) (ts us vs : Tokens) → k ≤ 13 → begins_specs scope ts ≡ true → ReadsType limit scope t ts us → Reads limit scope 13 e us vs →
      suc (max (height_of_type t) (height e.node)) ≤ limit → Reads limit scope k (record { at = p.0; node = tree.Cast t e }) (mark m.LParen p ∷ ts) vs
  unfolding trees.operand same_mark
  reads-Cast k t e p ts us vs h b r q i = Operation (omega (arith, h)) (λ l fs n g. record {
    level = 13;
    least = h;
    leads = rw (high.height-Cast t e) (turns (opened l fs (omega (arith, n, h))) (omega arith)
        ▹ r used.Cast p.0 (frame.Tree (for_tree.Operators l) ∷ fs)
        (record { frame = Some (frame.Tree (for_tree.Cast p.0 (tall t (height_of_type t)))); control = control.Expr 13; rest = us; scoping = scoping.Same }) refl (omega arith)
        ▹ closed l fs (handed (frame.Tree (for_tree.Cast p.0 (tall t (height_of_type t))) ∷ frame.Tree (for_tree.Operators l) ∷ fs) q (omega (arith, i)) (omega arith)
        (tight (next k) 13 vs (next-most k (omega (arith, h))) (omega arith) g)));
  })
    where
      opened : (l : ℕ) (fs : List Frame) → l ≤ 13 → turned scope (frame.Tree (for_tree.Operators l) ∷ fs) (mark m.LParen p ∷ ts) (control.Operand l) ≡
          Ok (frame.Tree (for_tree.Operators l) ∷ fs, record { frame = Some (frame.Specs (for_specs.TypeName used.Cast p.0)); control = control.Specs (tall [] 0); rest = ts; scoping = scoping.Same })
      opened l fs n = rw (le-leb l 13 n, b) refl

      closed : (l : ℕ) (fs : List Frame) → Handed limit scope 13 (frame.Tree (for_tree.Cast p.0 (tall t (height_of_type t))) ∷ frame.Tree (for_tree.Operators l) ∷ fs) e us vs →
          Leads limit (state scope (frame.Tree (for_tree.Cast p.0 (tall t (height_of_type t))) ∷ frame.Tree (for_tree.Operators l) ∷ fs) (control.Expr 13) us)
          (state scope fs (control.Operators l 13 (tall (record { at = p.0; node = tree.Cast t e }) (suc (max (height_of_type t) (height e.node))))) vs)
      closed l fs d = d.1 ▹ turns refl i ▹ turns refl i

  -- operations on two and three operands, 6.5.5 to 6.5.17

  -- what takes the last operand gets it
  joined : (f : TreeFrame) (j r k l h : ℕ) (fs : List Frame) (b node : At Tree) (ts us vs : Tokens) → Reads limit scope j b us vs → height b.node ≤ limit → j ≤ 14 → goes_on j vs ≡ false → k ≤ r →
      h ≤ limit → height node.node ≡ h → ((level : ℕ) → trees.give_tree level (tall b (height b.node)) vs f ≡ on (control.Operators l r (tall node h)) vs) →
      Leads limit (state scope (frame.Tree (for_tree.Operators l) ∷ fs) (control.Operand l) ts) (state scope (frame.Tree f ∷ fs) (control.Expr j) us) → Operated limit scope k l fs node ts vs
  joined f j r k l h fs b node ts us vs q hb i g n t e give start = record { level = r; least = n; leads = start ▹ rw e (closed (handed (frame.Tree f ∷ fs) q hb i g)) }
    where
      closed : Handed limit scope j (frame.Tree f ∷ fs) b us vs → Leads limit (state scope (frame.Tree f ∷ fs) (control.Expr j) us) (state scope fs (control.Operators l r (tall node h)) vs)
      closed d = d.1 ▹ turns (ap (stays fs) (give d.0)) t

  pub reads-Binary : (c k : ℕ) (o : Mark) (a b : At Tree) (p : Span) (ts us vs : Tokens) → c ≤ k → binary_level o ≡ Some k → a.at ≡ offset ts → Reads limit scope k a ts (mark o p ∷ us) →
      Reads limit scope (suc k) b us vs → suc (max (height a.node) (height b.node)) ≤ limit → Reads limit scope c (at ts (tree.Binary o a b)) ts vs
  reads-Binary c k o a b p ts us vs i e start q r h = of_level (binary-mark o k e)
    where
      left : (l : ℕ) (fs : List Frame) → l ≤ k → Operated limit scope k l fs a ts (mark o p ∷ us) →
          Leads limit (state scope (frame.Tree (for_tree.Operators l) ∷ fs) (control.Operand l) ts) (state scope (frame.Tree (for_tree.Binary l o k (tall a (height a.node))) ∷ fs) (control.Expr (suc k)) us)
      left l fs n d = d.leads ▹ turns (ap (stays fs) (binary-turn l d.level k (tall a (height a.node)) o p us e n d.least)) (omega arith)

      of_level : (mark_goes_on o ≡ Some k) × (3 ≤ k) × (k ≤ 12) → Reads limit scope c (at ts (tree.Binary o a b)) ts vs
      of_level t = Operation (omega (arith, i, t.2)) (λ l fs n g. joined (for_tree.Binary l o k (tall a (height a.node))) (suc k) k c l (suc (max (height a.node) (height b.node))) fs b
          (at ts (tree.Binary o a b)) ts us vs r (omega (arith, h)) (omega (arith, t.2)) (goes_on-more (next c) (suc k) vs g (omega (arith, i, next-suc c))) i h (high.height-Binary o a b)
          (λ level. rw (← start) refl)
          (left l fs (omega (arith, n, i)) (operated l fs q (omega (arith, h)) (omega (arith, n, i)) (omega (arith, t.2)) (binary-ends o k p us t.0 t.1))))

  pub reads-Choice : (k : ℕ) (c a b : At Tree) (p q : Span) (ts us vs ws : Tokens) → k ≤ 2 → c.at ≡ offset ts → Reads limit scope 3 c ts (mark m.Question p ∷ us) →
      Reads limit scope 0 a us (mark m.Colon q ∷ vs) → Reads limit scope 2 b vs ws → suc (max (height c.node) (max (height a.node) (height b.node))) ≤ limit →
      Reads limit scope k (at ts (tree.Choose c a b)) ts ws
  unfolding same_mark after
  reads-Choice k c a b p q ts us vs ws i start r s t h =
      Operation (omega (arith, i)) (λ l fs n g. joined (for_tree.Otherwise l (tall c (height c.node)) (tall a (height a.node))) 2 2 k l (suc (max (height c.node) (max (height a.node) (height b.node)))) fs b
      (at ts (tree.Choose c a b)) ts vs ws t (omega (arith, h)) (omega arith) (goes_on-more (next k) 2 ws g (next-two k i)) i h (high.height-Choose c a b) (λ level. rw (← start) refl)
      (left l fs (omega (arith, n, i)) (operated l fs r (omega (arith, h)) (omega (arith, n, i)) (omega arith) refl)
      ▹ middle l fs (handed (frame.Tree (for_tree.Choice l (tall c (height c.node))) ∷ fs) s (omega (arith, h)) (omega arith) refl)))
    where
      left : (l : ℕ) (fs : List Frame) → l ≤ 2 → Operated limit scope 3 l fs c ts (mark m.Question p ∷ us) →
          Leads limit (state scope (frame.Tree (for_tree.Operators l) ∷ fs) (control.Operand l) ts) (state scope (frame.Tree (for_tree.Choice l (tall c (height c.node))) ∷ fs) (control.Expr 0) us)
      left l fs n d = d.leads ▹ turns (ap (stays fs) (choice-turn l d.level (tall c (height c.node)) p us n d.least)) (omega arith)

      middle : (l : ℕ) (fs : List Frame) → Handed limit scope 0 (frame.Tree (for_tree.Choice l (tall c (height c.node))) ∷ fs) a us (mark m.Colon q ∷ vs) →
          Leads limit (state scope (frame.Tree (for_tree.Choice l (tall c (height c.node))) ∷ fs) (control.Expr 0) us)
          (state scope (frame.Tree (for_tree.Otherwise l (tall c (height c.node)) (tall a (height a.node))) ∷ fs) (control.Expr 2) vs)
      middle l fs d = d.1 ▹ turns refl (omega arith)

  pub reads-Assignment : (k : ℕ) (o : Mark) (a b : At Tree) (p : Span) (ts us vs : Tokens) → k ≤ 1 → is_assignment o ≡ true → a.at ≡ offset ts → Reads limit scope 14 a ts (mark o p ∷ us) →
      Reads limit scope 1 b us vs → suc (max (height a.node) (height b.node)) ≤ limit → Reads limit scope k (at ts (tree.Assign o a b)) ts vs
  reads-Assignment k o a b p ts us vs i e start q r h =
      Operation (omega (arith, i)) (λ l fs n g. joined (for_tree.Assign l o (tall a (height a.node))) 1 1 k l (suc (max (height a.node) (height b.node))) fs b
      (at ts (tree.Assign o a b)) ts us vs r (omega (arith, h)) (omega arith) (goes_on-more (next k) 1 vs g (next-one k i)) i h (high.height-Assign o a b) (λ level. rw (← start) refl)
      (left l fs (omega (arith, n, i)) (operated l fs q (omega (arith, h)) (omega (arith, n, i)) (omega arith) (assignment-ends o e))))
    where
      left : (l : ℕ) (fs : List Frame) → l ≤ 1 → Operated limit scope 14 l fs a ts (mark o p ∷ us) →
          Leads limit (state scope (frame.Tree (for_tree.Operators l) ∷ fs) (control.Operand l) ts) (state scope (frame.Tree (for_tree.Assign l o (tall a (height a.node))) ∷ fs) (control.Expr 1) us)
      left l fs n d = d.leads ▹ turns (ap (stays fs) (assignment-turn l d.level (tall a (height a.node)) o p us e n d.least)) (omega arith)

  pub reads-Comma : (a b : At Tree) (p : Span) (ts us vs : Tokens) → a.at ≡ offset ts → Reads limit scope 0 a ts (mark m.Comma p ∷ us) → Reads limit scope 1 b us vs →
      suc (max (height a.node) (height b.node)) ≤ limit → Reads limit scope 0 (at ts (tree.Comma a b)) ts vs
  reads-Comma a b p ts us vs start q r h =
      Operation (omega arith) (λ l fs n g. joined (for_tree.Comma l (tall a (height a.node))) 1 0 0 l (suc (max (height a.node) (height b.node))) fs b
      (at ts (tree.Comma a b)) ts us vs r (omega (arith, h)) (omega arith) g (omega arith) h (high.height-Comma a b) (λ level. rw (← start) refl)
      (left l fs n (operated l fs q (omega (arith, h)) n (omega arith) refl)))
    where
      left : (l : ℕ) (fs : List Frame) → l ≤ 0 → Operated limit scope 0 l fs a ts (mark m.Comma p ∷ us) →
          Leads limit (state scope (frame.Tree (for_tree.Operators l) ∷ fs) (control.Operand l) ts) (state scope (frame.Tree (for_tree.Comma l (tall a (height a.node))) ∷ fs) (control.Expr 1) us)
      left l fs n d = d.leads ▹ turns (ap (stays fs) (comma-turn l d.level (tall a (height a.node)) p us n)) (omega arith)
