-- What is spelled by tokens begins where they begin, and may stand where less is wanted.
use Rattle.std.proofs.Common.{◌≡◌, ◌≤◌, ℕ, Bool, true, false, refl, sym, subst, arith}
use Rattle.cc_tree.specs.declared.at.At.{At}
use Rattle.cc_tree.specs.declared.state.Tall.{Tall}
use Rattle.cc_tree.specs.declared.tree.Declr.{Declr}
use Rattle.cc_tree.specs.declared.tree.Tree.{Tree}
use Rattle.cc_tree.specs.Operators.{comma_level}
use Rattle.cc_tree.specs.Scopes.{Scope}
use Rattle.cc_tree.specs.Terms.{IsTree, AName, ANumber, ACharacter, AText, InParens, ASubscript, ACall, ACallOfNone, AMember, AnArrow, APostfix, APrefix, ASizeOf, ASizeOfType, AnExtension, ACast, ABinary, AChoice, AnAssignment, AComma, IsDeclr, NoName, DeclaredName, DeclrInParens, APointer, AnArray, AnOpenArray, AFunction}
use Rattle.cc_tree.specs.Tokens.{Tokens, at, offset}
use Rattle.cc_tree.proofs.Inside.{ATree, ADeclr}

below : (l k n : ℕ) → l ≤ k → k ≤ n → l ≤ n
below l k n h g = omega arith

pub looser : {scope : Scope} {k : ℕ} {e : At Tree} {ts us : Tokens} (l : ℕ) → l ≤ k → IsTree scope k e ts us → IsTree scope l e ts us
looser l h (AName scope k x s us n) = AName scope l x s us n
looser l h (ANumber scope k n f s us) = ANumber scope l n f s us
looser l h (ACharacter scope k c s us) = ACharacter scope l c s us
looser l h (AText scope k b ts us t) = AText scope l b ts us t
looser l h (InParens scope k e p q ts us t) = InParens scope l e p q ts us t
looser l h (ASubscript scope k a i p q ts us vs g t u) = ASubscript scope l a i p q ts us vs (below l k _ h g) t u
looser l h (ACall scope k f es p q ts us vs g t u) = ACall scope l f es p q ts us vs (below l k _ h g) t u
looser l h (ACallOfNone scope k f p q ts us g t) = ACallOfNone scope l f p q ts us (below l k _ h g) t
looser l h (AMember scope k e x p s ts us g t) = AMember scope l e x p s ts us (below l k _ h g) t
looser l h (AnArrow scope k e x p s ts us g t) = AnArrow scope l e x p s ts us (below l k _ h g) t
looser l h (APostfix scope k e o p ts us g i t) = APostfix scope l e o p ts us (below l k _ h g) i t
looser l h (APrefix scope k n o e p ts us g i t) = APrefix scope l n o e p ts us (below l k _ h g) i t
looser l h (ASizeOf scope k e p ts us g t) = ASizeOf scope l e p ts us (below l k _ h g) t
looser l h (ASizeOfType scope k t s p q ts us g u) = ASizeOfType scope l t s p q ts us (below l k _ h g) u
looser l h (AnExtension scope k e p ts us g t) = AnExtension scope l e p ts us (below l k _ h g) t
looser l h (ACast scope k t e p q ts us vs g u v) = ACast scope l t e p q ts us vs (below l k _ h g) u v
looser l h (ABinary scope k n o a b p ts us vs g i t u) = ABinary scope l n o a b p ts us vs (below l k n h g) i t u
looser l h (AChoice scope k c a b p q ts us vs ws g t u v) = AChoice scope l c a b p q ts us vs ws (below l k _ h g) t u v
looser l h (AnAssignment scope k o a b p ts us vs g i t u) = AnAssignment scope l o a b p ts us vs (below l k _ h g) i t u
looser l h (AComma scope a b p ts us vs t u) = let e : l ≡ comma_level = omega arith in rw e (AComma scope a b p ts us vs t u)

pub tree_begins : {scope : Scope} {k : ℕ} {e : At Tree} {ts us : Tokens} → IsTree scope k e ts us → e.at ≡ offset ts
tree_begins (AName scope k x s us n) = refl
tree_begins (ANumber scope k n f s us) = refl
tree_begins (ACharacter scope k c s us) = refl
tree_begins (AText scope k b ts us t) = refl
tree_begins (InParens scope k e p q ts us t) = refl
tree_begins (ASubscript scope k a i p q ts us vs g t u) = refl
tree_begins (ACall scope k f es p q ts us vs g t u) = refl
tree_begins (ACallOfNone scope k f p q ts us g t) = refl
tree_begins (AMember scope k e x p s ts us g t) = refl
tree_begins (AnArrow scope k e x p s ts us g t) = refl
tree_begins (APostfix scope k e o p ts us g i t) = refl
tree_begins (APrefix scope k n o e p ts us g i t) = refl
tree_begins (ASizeOf scope k e p ts us g t) = refl
tree_begins (ASizeOfType scope k t s p q ts us g u) = refl
tree_begins (AnExtension scope k e p ts us g t) = refl
tree_begins (ACast scope k t e p q ts us vs g u v) = refl
tree_begins (ABinary scope k n o a b p ts us vs g i t u) = refl
tree_begins (AChoice scope k c a b p q ts us vs ws g t u v) = refl
tree_begins (AnAssignment scope k o a b p ts us vs g i t u) = refl
tree_begins (AComma scope a b p ts us vs t u) = refl

pub indirect : {scope : Scope} {d : At Declr} {ts us : Tokens} (direct : Bool) → IsDeclr scope direct d ts us → IsDeclr scope false d ts us
indirect direct (NoName scope b ts) = NoName scope false ts
indirect direct (DeclaredName scope b x s us n) = DeclaredName scope false x s us n
indirect direct (DeclrInParens scope b d p q ts us n t) = DeclrInParens scope false d p q ts us n t
indirect direct (APointer scope qs d p ts us vs q t) = APointer scope qs d p ts us vs q t
indirect direct (AnArray scope b d bound p q ts us vs t u) = AnArray scope false d bound p q ts us vs t u
indirect direct (AnOpenArray scope b d p q ts us t) = AnOpenArray scope false d p q ts us t
indirect direct (AFunction scope b d ps p q ts us vs t u) = AFunction scope false d ps p q ts us vs t u

pub declr_begins : {scope : Scope} {direct : Bool} {d : At Declr} {ts us : Tokens} → IsDeclr scope direct d ts us → d.at ≡ offset ts
declr_begins (NoName scope b ts) = refl
declr_begins (DeclaredName scope b x s us n) = refl
declr_begins (DeclrInParens scope b d p q ts us n t) = refl
declr_begins (APointer scope qs d p ts us vs q t) = refl
declr_begins (AnArray scope b d bound p q ts us vs t u) = refl
declr_begins (AnOpenArray scope b d p q ts us t) = refl
declr_begins (AFunction scope b d ps p q ts us vs t u) = refl

-- what begins where something else begins
pub tree_from : {scope : Scope} {k l : ℕ} {e : At Tree} {ts us vs : Tokens} (node : Tree) → IsTree scope k e ts us → IsTree scope l (at ts node) ts vs → IsTree scope l (record { at = e.at; node = node }) ts vs
tree_from {scope = scope} {l = l} {ts = ts} {vs = vs} node h t = subst (λ n. IsTree scope l (record { at = n; node = node }) ts vs) (sym (tree_begins h)) t

pub declr_from : {scope : Scope} {b c : Bool} {d : At Declr} {ts us vs : Tokens} (node : Declr) → IsDeclr scope b d ts us → IsDeclr scope c (at ts node) ts vs → IsDeclr scope c (record { at = d.at; node = node }) ts vs
declr_from {scope = scope} {c = c} {ts = ts} {vs = vs} node h t = subst (λ n. IsDeclr scope c (record { at = n; node = node }) ts vs) (sym (declr_begins h)) t

pub looser_tree : {scope : Scope} {k : ℕ} {e : Tall (At Tree)} {ts us : Tokens} (l : ℕ) → l ≤ k → ATree scope k e ts us → ATree scope l e ts us
looser_tree l h t = record { spelled = looser l h t.spelled; high = t.high }

pub indirect_declr : {scope : Scope} {d : Tall (At Declr)} {ts us : Tokens} → ADeclr scope true d ts us → ADeclr scope false d ts us
indirect_declr t = record { spelled = indirect true t.spelled; high = t.high }
