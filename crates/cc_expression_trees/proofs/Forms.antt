-- The forms of expressions over what their parts are read as.
use Rattle.std.proofs.Common.{◌≡◌, ℕ, suc, ◌+◌, ◌≤◌, Bool, true, false, [], ◌∷◌, length, Some, refl, arith, true≢false}
use Rattle.cc_lex.specs.declared.token.Kind.TheVariants as kind
use Rattle.cc_lex.specs.declared.token.Mark.{Mark}
use Rattle.cc_lex.specs.declared.token.Mark.TheVariants as m
use Rattle.cc_tree.specs.declared.at.At.{At}
use Rattle.cc_tree.specs.declared.tree.Tree as tree
use Rattle.cc_tree.specs.declared.tree.Tree.{Tree}
use Rattle.cc_tree.specs.declared.tree.TypeName.{TypeName}
use Rattle.cc_tree.specs.Operators.{binary_level, operand_level, cast_level, comma_level}
use Rattle.cc_tree.specs.Terms.{IsTypeName, AName, InParens, ASubscript, AMember, APrefix, ACast, ABinary, AChoice}
use Rattle.cc_tree.specs.Tokens.{Name, at as at_of}
use Rattle.cc_bodies.specs.Exprs.{spaced}
use Rattle.cc_bodies.specs.Spots.{Spot, Whole, Operand, Converted, Pointed, wraps_operation, wraps_conversion}
use Rattle.cc_pieces.specs.Pieces.{Pieces, punct, ident, spelled, opening, closing}
use Rattle.cc_expression_trees.specs.Laid.{laid}
use Rattle.cc_expression_trees.specs.ReadExpressions.{ReadsTree, tightest, tightest_place}

pub record ReadsName (S : TypeName → Type 0) (at : ℕ) (qs ps : Pieces) : Type 0 where
  pub type : TypeName
  pub shows : S type
  pub next : ℕ
  pub is : IsTypeName [] type (laid at qs) (laid next ps)

pub showing : {S T : Tree → Type 0} {l at : ℕ} {qs ps : Pieces} → ((x : Tree) → S x → T x) → ReadsTree S l at qs ps → ReadsTree T l at qs ps
showing k r = record { tree = r.tree; shows = k r.tree.node r.shows; next = r.next; is = r.is }

-- ---- levels

pub operation-loose : (spot : Spot) (l : ℕ) → l ≤ tightest spot → wraps_operation spot ≡ false → l ≤ 2
operation-loose (Whole to) l h e = h
operation-loose Operand l h e = absurd (true≢false e)
operation-loose Converted l h e = absurd (true≢false e)
operation-loose Pointed l h e = absurd (true≢false e)

pub conversion-loose : (spot : Spot) (l : ℕ) → l ≤ tightest spot → wraps_conversion spot ≡ false → l ≤ 13
conversion-loose (Whole to) l h e = omega (arith, h)
conversion-loose Operand l h e = h
conversion-loose Converted l h e = absurd (true≢false e)
conversion-loose Pointed l h e = h

pub place-loose : (spot : Spot) (l : ℕ) → l ≤ tightest_place spot → wraps_operation spot ≡ false → l ≤ 14
place-loose (Whole to) l h e = h
place-loose Operand l h e = absurd (true≢false e)
place-loose Converted l h e = absurd (true≢false e)
place-loose Pointed l h e = absurd (true≢false e)

pub place-most : (spot : Spot) (l : ℕ) → l ≤ tightest_place spot → l ≤ 15
place-most (Whole to) l h = omega (arith, h)
place-most Operand l h = h
place-most Converted l h = h
place-most Pointed l h = h

pub within-place : (spot : Spot) (l : ℕ) → l ≤ tightest spot → l ≤ tightest_place spot
within-place (Whole to) l h = omega (arith, h)
within-place Operand l h = omega (arith, h)
within-place Converted l h = omega (arith, h)
within-place Pointed l h = omega (arith, h)

abbrev pub IsLevel : Mark → ℕ → Type 0
IsLevel o k = (binary_level o ≡ Some k) × ((3 ≤ k) × (k ≤ 12))

-- ---- parentheses

pub in-parens : (S : Tree → Type 0) → ((x : At Tree) → S x.node → S (tree.Paren x)) → (inner : Pieces → Pieces) → ((at : ℕ) (ps : Pieces) → ReadsTree S comma_level at (inner ps) ps) →
    (l at : ℕ) (ps : Pieces) → ReadsTree S l at (punct m.LParen ∷ inner (punct m.RParen ∷ ps)) ps
in-parens S paren inner h l at ps =
    let r = h (at + 1) (punct m.RParen ∷ ps) in
    record {
      tree = record { at = at; node = tree.Paren r.tree };
      shows = paren r.tree r.shows;
      next = r.next + 1;
      is = InParens [] l r.tree (at, 1) (r.next, 1) _ _ r.is;
    }

pub wrapped : (S : Tree → Type 0) → ((x : At Tree) → S x.node → S (tree.Paren x)) → (t : Bool) (inner : Pieces → Pieces) (k : ℕ) → ((l at : ℕ) (ps : Pieces) → l ≤ k → ReadsTree S l at (inner ps) ps) →
    (l at : ℕ) (ps : Pieces) → (t ≡ false → l ≤ k) → ReadsTree S l at (opening t (inner (closing t ps))) ps
wrapped S paren false inner k h l at ps e = h l at ps (e refl)
wrapped S paren true inner k h l at ps e = in-parens S paren inner (λ at ps. h 0 at ps (omega arith)) l at ps

-- ---- forms

pub name-read : (S : Tree → Type 0) (x : Name) → S (tree.Named x) → (l at : ℕ) (ps : Pieces) → ReadsTree S l at (ident x ∷ ps) ps
name-read S x h l at ps = record { tree = record { at = at; node = tree.Named x }; shows = h; next = at + length x; is = AName [] l x (at, length x) _ refl }

pub prefix-read : (S T : Tree → Type 0) (o : Mark) → operand_level o ≡ Some cast_level → ((x : At Tree) → T x.node → S (tree.Prefix o x)) → (qs ps : Pieces) (l at : ℕ) → l ≤ 14 →
    ReadsTree T cast_level (at + length (spelled (kind.Punct o))) qs ps → ReadsTree S l at (punct o ∷ qs) ps
prefix-read S T o e build qs ps l at h r = record {
  tree = record { at = at; node = tree.Prefix o r.tree };
  shows = build r.tree r.shows;
  next = r.next;
  is = APrefix [] l cast_level o r.tree (at, length (spelled (kind.Punct o))) _ _ h e r.is;
}

pub cast-read : (S T : Tree → Type 0) (N : TypeName → Type 0) → ((t : TypeName) (x : At Tree) → N t → T x.node → S (tree.Cast t x)) → (name : Pieces → Pieces) → ((at : ℕ) (ps : Pieces) → ReadsName N at (name ps) ps) →
    (qs ps : Pieces) (l at : ℕ) → l ≤ 13 → ((at : ℕ) → ReadsTree T cast_level at qs ps) → ReadsTree S l at (punct m.LParen ∷ name (punct m.RParen ∷ qs)) ps
cast-read S T N build name h qs ps l at e k =
    let n = h (at + 1) (punct m.RParen ∷ qs) in
    let x = k (n.next + 1) in
    record {
      tree = record { at = at; node = tree.Cast n.type x.tree };
      shows = build n.type x.tree n.shows x.shows;
      next = x.next;
      is = ACast [] l n.type x.tree (at, 1) (n.next, 1) _ _ _ e n.is x.is;
    }

pub binary-read : (S T U : Tree → Type 0) (o : Mark) (k : ℕ) → IsLevel o k → ((x y : At Tree) → T x.node → U y.node → S (tree.Binary o x y)) → (ps qs rs : Pieces) (l at : ℕ) → l ≤ 2 →
    ReadsTree T k at ps (spaced o qs) → ((at : ℕ) → ReadsTree U (suc k) at qs rs) → ReadsTree S l at ps rs
binary-read S T U o k i build ps qs rs l at h x z =
    let y = z (x.next + 1 + length (spelled (kind.Punct o)) + 1) in
    record {
      tree = at_of (laid at ps) (tree.Binary o x.tree y.tree);
      shows = build x.tree y.tree x.shows y.shows;
      next = y.next;
      is = ABinary [] l k o x.tree y.tree (x.next + 1, length (spelled (kind.Punct o))) _ _ _ (omega (arith, h, i.1.0)) i.0 x.is y.is;
    }

pub choice-read : (S T U V : Tree → Type 0) → ((x y z : At Tree) → T x.node → U y.node → V z.node → S (tree.Choose x y z)) → (ps qs rs ss : Pieces) (l at : ℕ) → l ≤ 2 →
    ReadsTree T 3 at ps (spaced m.Question qs) → ((at : ℕ) → ReadsTree U 0 at qs (spaced m.Colon rs)) → ((at : ℕ) → ReadsTree V 2 at rs ss) → ReadsTree S l at ps ss
choice-read S T U V build ps qs rs ss l at h x j k =
    let y = j (x.next + 1 + 1 + 1) in
    let z = k (y.next + 1 + 1 + 1) in
    record {
      tree = at_of (laid at ps) (tree.Choose x.tree y.tree z.tree);
      shows = build x.tree y.tree z.tree x.shows y.shows z.shows;
      next = z.next;
      is = AChoice [] l x.tree y.tree z.tree (x.next + 1, 1) (y.next + 1, 1) _ _ _ _ h x.is y.is z.is;
    }

pub subscript-read : (S T U : Tree → Type 0) → ((x y : At Tree) → T x.node → U y.node → S (tree.Subscript x y)) → (ps qs rs : Pieces) (l at : ℕ) → l ≤ 15 →
    ReadsTree T 15 at ps (punct m.LBracket ∷ qs) → ((at : ℕ) → ReadsTree U 0 at qs (punct m.RBracket ∷ rs)) → ReadsTree S l at ps rs
subscript-read S T U build ps qs rs l at h x z =
    let y = z (x.next + 1) in
    record {
      tree = at_of (laid at ps) (tree.Subscript x.tree y.tree);
      shows = build x.tree y.tree x.shows y.shows;
      next = y.next + 1;
      is = ASubscript [] l x.tree y.tree (x.next, 1) (y.next, 1) _ _ _ h x.is y.is;
    }

pub member-read : (S T : Tree → Type 0) (name : Name) → ((x : At Tree) → T x.node → S (tree.Member x name)) → (ps rs : Pieces) (l at : ℕ) → l ≤ 15 →
    ReadsTree T 15 at ps (punct m.Dot ∷ ident name ∷ rs) → ReadsTree S l at ps rs
member-read S T name build ps rs l at h x =
    record {
      tree = at_of (laid at ps) (tree.Member x.tree name);
      shows = build x.tree x.shows;
      next = x.next + 1 + length name;
      is = AMember [] l x.tree name (x.next, 1) (x.next + 1, length name) _ _ h x.is;
    }
