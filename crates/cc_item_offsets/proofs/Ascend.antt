-- The declarators of items begin in order: what stands behind a construct ascends from where it began.
use Rattle.std.proofs.Common.{◌≡◌, ◌≤◌, ◌+◌, ℕ, Bool, false, List, [], ◌∷◌, ◌++◌, map, length, refl, ap, sym, ◌∙◌, subst, arith, append_assoc, append-nil}
use Rattle.cc_lex.specs.declared.token.Token.{Token}
use Rattle.cc_lex.specs.declared.token.Mark.TheVariants as m
use Rattle.cc_lex.specs.Tokens.{TokensFrom, NoToken, Separated, Spelled}
use Rattle.cc_tree.specs.declared.at.At.{At}
use Rattle.cc_tree.specs.declared.tree.Declr.{Declr}
use Rattle.cc_tree.specs.declared.unit.Init.{Init}
use Rattle.cc_tree.specs.declared.unit.Item.{Item}
use Rattle.cc_tree.specs.Scopes.{Scope}
use Rattle.cc_tree.specs.Sentences.{IsItem, ADeclItem, AFunc, IsItems, NoItem, MoreItems}
use Rattle.cc_tree.specs.Statements.{IsInit, AnInit, IsInits, FirstInit, MoreInits, DeclaresNothing, Declares}
use Rattle.cc_tree.specs.Terms.{IsDeclr, NoName, DeclaredName, DeclrInParens, APointer, AnArray, AnOpenArray, AFunction}
use Rattle.cc_tree.specs.Tokens.{Tokens, offset, mark}
use Rattle.cc_item_offsets.specs.Offsets.{declared_at, all_declared_at, NeverFall}
use Rattle.cc_item_offsets.proofs.Ends.{Suffix, Whole, Further, join, past, attrs-ends, specs-ends, declr-ends, init-ends, lines-ends}

-- tokens of which none begins in front of n, or in front of the one before it
abbrev pub AscendFrom : ℕ → Tokens → Type 0
AscendFrom n [] = Unit {0}
AscendFrom n (t ∷ ts) = (n ≤ t.at) × AscendFrom t.at ts

weaker : (n m : ℕ) (ts : Tokens) → n ≤ m → AscendFrom m ts → AscendFrom n ts
weaker n m [] h a = tt
weaker n m (t ∷ ts) h a = (omega (arith, a.0), a.1)

pub tokens-ascend : (fresh : Bool) (at : ℕ) (text : List ℕ) (ts : Tokens) → TokensFrom fresh at text ts → AscendFrom at ts
tokens-ascend _ _ _ _ (NoToken fresh at) = tt
tokens-ascend _ _ _ _ (Separated fresh after at gap rest ts s h) = weaker at (at + length gap) ts (omega arith) (tokens-ascend after (at + length gap) rest ts h)
tokens-ascend _ _ _ _ (Spelled fresh at w rest k ts s h) = (omega arith, weaker at (at + length w) ts (omega arith) (tokens-ascend false (at + length w) rest ts h))

behind : {ts us : Tokens} → Suffix ts us → (n : ℕ) → AscendFrom n ts → AscendFrom n us
behind (Whole ts) n a = a
behind (Further t ts us h) n a = behind h n (weaker n t.at ts a.0 a.1)

-- where there are tokens, they ascend from the first
begins : (ts : Tokens) (t : Token) (us : Tokens) → Suffix ts (t ∷ us) → (n : ℕ) → AscendFrom n ts → (n ≤ offset ts) × AscendFrom (offset ts) ts
begins _ t us (Whole _) n a = (a.0, (omega arith, a.1))
begins _ t us (Further x xs _ h) n a = (a.0, (omega arith, a.1))

-- ---- offsets, up to one

abbrev Chain : ℕ → List ℕ → ℕ → Type 0
Chain n [] m = n ≤ m
Chain n (o ∷ os) m = (n ≤ o) × Chain o os m

lower : (k n : ℕ) (os : List ℕ) (m : ℕ) → k ≤ n → Chain n os m → Chain k os m
lower k n [] m h c = omega (arith, c)
lower k n (o ∷ os) m h c = (omega (arith, c.0), c.1)

joined : (n : ℕ) (os : List ℕ) (m : ℕ) (ps : List ℕ) (k : ℕ) → Chain n os m → Chain m ps k → Chain n (os ++ ps) k
joined n [] m ps k c d = lower n m ps k c d
joined n (o ∷ os) m ps k c d = (c.0, joined o os m ps k c.1 d)

never-falls : (n : ℕ) (os : List ℕ) (m : ℕ) → Chain n os m → NeverFall n os
never-falls n [] m c = tt
never-falls n (o ∷ os) m c = (c.0, never-falls o os m c.1)

-- offsets of what stands in front of these tokens, which ascend from the last of them
record Reached (n : ℕ) (os : List ℕ) (us : Tokens) : Type 0 where
  pub last : ℕ
  pub chain : Chain n os last
  pub rest : AscendFrom last us

-- ---- declarators

declr-begins : {scope : Scope} {direct : Bool} {d : At Declr} {ts us : Tokens} → IsDeclr scope direct d ts us → d.at ≡ offset ts
declr-begins (NoName scope direct ts) = refl
declr-begins (DeclaredName scope direct x s us e) = refl
declr-begins (DeclrInParens scope direct d p q ts us e h) = refl
declr-begins (APointer scope qs d p ts us vs h g) = refl
declr-begins (AnArray scope direct d bound p q ts us vs h g) = refl
declr-begins (AnOpenArray scope direct d p q ts us h) = refl
declr-begins (AFunction scope direct d ps p q ts us vs h g) = refl

reached : (d n : ℕ) (ts : Tokens) (t : Token) (us : Tokens) → d ≡ offset ts → Suffix ts (t ∷ us) → AscendFrom n ts → Reached n (d ∷ []) (t ∷ us)
reached d n ts t us e h a =
    let b = begins ts t us h n a in
    record { last = offset ts; chain = (subst (λ (k : ℕ). n ≤ k) (sym e) b.0, omega (arith, e)); rest = behind h (offset ts) b.1 }

init-reached : (types : Bool) (scope after : Scope) (i : At Init) (ts : Tokens) (t : Token) (us : Tokens) (n : ℕ) → IsInit types scope after i ts (t ∷ us) → AscendFrom n ts → Reached n (i.at ∷ []) (t ∷ us)
init-reached types scope after i ts t us n h a = reached i.at n ts t us (init-begins h) (init-ends h) a where
  init-begins : {types : Bool} {scope after : Scope} {i : At Init} {ts us : Tokens} → IsInit types scope after i ts us → i.at ≡ offset ts
  init-begins (AnInit types scope d x attrs v ts us vs ws h e g k) = refl

abbrev begin_at : At Init → ℕ
begin_at i = i.at

map-more : (is : List (At Init)) (i : At Init) → map begin_at (is ++ i ∷ []) ≡ map begin_at is ++ begin_at i ∷ []
map-more [] i = refl
map-more (x ∷ xs) i = ap (λ (os : List ℕ). begin_at x ∷ os) (map-more xs i)

inits-by : {types : Bool} {scope after : Scope} {is : List (At Init)} {ts us : Tokens} → IsInits types scope after is ts us → (t : Token) (rest : Tokens) → us ≡ t ∷ rest → (n : ℕ) → AscendFrom n ts → Reached n (map begin_at is) us
inits-by (FirstInit types scope after i ts us h) t rest e n a = subst (λ (ws : Tokens). Reached n (begin_at i ∷ []) ws) (sym e) (init-reached types scope after i ts t rest n (subst (λ (ws : Tokens). IsInit types scope after i ts ws) e h) a)
inits-by (MoreInits types scope between after is i c ts us vs h g) t rest e n a =
    let r = inits-by h (mark m.Comma c) us refl n a in
    let q = init-reached types between after i us t rest r.last (subst (λ (ws : Tokens). IsInit types between after i us ws) e g) (weaker r.last c.0 us r.rest.0 r.rest.1) in
    record {
      last = q.last;
      chain = subst (λ (os : List ℕ). Chain n os q.last) (sym (map-more is i)) (joined n (map begin_at is) r.last (begin_at i ∷ []) q.last r.chain q.chain);
      rest = subst (AscendFrom q.last) (sym e) q.rest;
    }

-- ---- items

same-place : (n : ℕ) (us : Tokens) → AscendFrom n us → Reached n [] us
same-place n us a = record { last = n; chain = omega arith; rest = a }

end-of : (n : ℕ) (os : List ℕ) (t : Token) (us : Tokens) → Reached n os (t ∷ us) → Reached n os us
end-of n os t us r = record { last = r.last; chain = r.chain; rest = behind (past (Whole (t ∷ us))) r.last r.rest }

item-reached : {scope after : Scope} {i : Item} {ts us : Tokens} → IsItem scope after i ts us → (n : ℕ) → AscendFrom n ts → Reached n (declared_at i) us
item-reached (ADeclItem scope after d ts us (DeclaresNothing _ specs q _ _ h)) n a = same-place n us (behind (past (specs-ends h)) n a)
item-reached (ADeclItem scope after d ts us (Declares _ _ specs is q _ vs _ h g)) n a = end-of n (map begin_at is) (mark m.Semi q) us (inits-by g (mark m.Semi q) us refl n (behind (specs-ends h) n a))
item-reached (AFunc scope inner specs d x attrs body p q t0 t1 t2 t3 t4 h g e i k) n a =
    let r = reached d.at n t1 (mark m.LBrace p) t3 (declr-begins g) (join (declr-ends g) (attrs-ends i)) (behind (specs-ends h) n a) in
    record { last = r.last; chain = r.chain; rest = behind (past (lines-ends k)) r.last (weaker r.last p.0 t3 r.rest.0 r.rest.1) }

all-more : (xs : List (At Item)) (x : At Item) → all_declared_at (xs ++ x ∷ []) ≡ all_declared_at xs ++ declared_at x.node
all-more [] x = append-nil (declared_at x.node)
all-more (y ∷ ys) x = ap (λ (os : List ℕ). declared_at y.node ++ os) (all-more ys x) ∙ sym (append_assoc (declared_at y.node) (all_declared_at ys) (declared_at x.node))

items-reached : {scope after : Scope} {xs : List (At Item)} {ts us : Tokens} → IsItems scope after xs ts us → (n : ℕ) → AscendFrom n ts → Reached n (all_declared_at xs) us
items-reached (NoItem scope ts) n a = same-place n ts a
items-reached (MoreItems scope between after items i ts us vs h g) n a =
    let r = items-reached h n a in
    let q = item-reached g r.last r.rest in
    record {
      last = q.last;
      chain = subst (λ (os : List ℕ). Chain n os q.last) (sym (all-more items (record { at = offset us; node = i }))) (joined n (all_declared_at items) r.last (declared_at i) q.last r.chain q.chain);
      rest = q.rest;
    }

pub items-ascend : (scope after : Scope) (xs : List (At Item)) (ts us : Tokens) → IsItems scope after xs ts us → (n : ℕ) → AscendFrom n ts → NeverFall n (all_declared_at xs)
items-ascend scope after xs ts us h n a = let r = items-reached h n a in never-falls n (all_declared_at xs) r.last r.chain
