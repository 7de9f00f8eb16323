-- Types with the same words and parts are the same: the words of a type end by themselves, and so do its parts.
use Rattle.std.proofs.Common.{rules, ◌≡◌, ◌∙◌, ℕ, Bool, false, true≢false, List, [], ◌∷◌, ◌++◌, length, map, flat_map, refl, ap, sym, append_assoc, arith}
use Rattle.std.proofs.lemmas.Bool.{eq-eqb}
use denote.Enum.Bare.{same_true}
use Rattle.cc_program.specs.CcNum.contracts.int_type.IntType as int_type
use Rattle.cc_program.specs.CcNum.declared.int_type.IntType.{IntType}
use Rattle.cc_program.specs.declared.types.CType.{CType}
use Rattle.cc_program.specs.declared.types.Shape.{Shape, out-Shape, roll-Shape, out-roll-Shape, roll-out-Shape}
use Rattle.cc_program.specs.declared.types.Shape.TheOpen as shape
use Rattle.cc_program.specs.declared.types.Sig.{Sig, out-Sig, roll-Sig, out-roll-Sig, roll-out-Sig}
use Rattle.cc_program.proofs.Each.{Each}
use Rattle.cc_program.proofs.TypeInduction.{with_shape, TypeParts, SigParts, by_type}
use denote.Enum.Declared.{tag_of}
use Rattle.cc_structures.specs.View.{same_kind}
use Rattle.cc_structures.specs.contracts.words.Kind as kind
use Rattle.cc_structures.specs.declared.words.Kind.{Kind}
use Rattle.cc_structures.specs.Words.{SigWords, words_step, parts_step, type_words, sig_words, type_parts, sig_parts}
use Rattle.cc_structures.specs.declared.words.Word.{Word}
use Rattle.cc_structures.proofs.Elements.{length-map_of}
use Rattle.cc_structures.proofs.WordLaws.{words_in, parts_in, words-at, parts-at, sig_words-opens, sig_parts-opens}
use Rattle.cc_things.specs.Things.{position_of_type}

first-same : {A : Type 0} {a b : A} {fs bs : List A} → a ∷ fs ≡ b ∷ bs → a ≡ b
first-same e = cc e

rest-same : {A : Type 0} {a b : A} {fs bs : List A} → a ∷ fs ≡ b ∷ bs → fs ≡ bs
rest-same e = cc e

constant-same : {a b : Word} {fs bs : List Word} → a ∷ fs ≡ b ∷ bs → a.constant ≡ b.constant
constant-same e = ap (λ (x : Word). x.constant) (first-same e)

volatile-same : {a b : Word} {fs bs : List Word} → a ∷ fs ≡ b ∷ bs → a.volatile ≡ b.volatile
volatile-same e = ap (λ (x : Word). x.volatile) (first-same e)

kind-same : {a b : Word} {fs bs : List Word} → a ∷ fs ≡ b ∷ bs → a.kind ≡ b.kind
kind-same e = ap (λ (x : Word). x.kind) (first-same e)

kinds-apart : {A : Type 0} {k l : Kind} → same_kind k l ≡ false → k ≡ l → A
kinds-apart apart e = absurd (true≢false (sym (eq-eqb _ _ (ap (tag_of kind.the_type) e)) ∙ apart))

number-same : {a b : Word} {fs bs : List Word} → a ∷ fs ≡ b ∷ bs → a.number ≡ b.number
number-same e = ap (λ (x : Word). x.number) (first-same e)

position-same : (s t : IntType) → position_of_type s ≡ position_of_type t → s ≡ t
position-same s t e = same_true int_type.the_type (search rules) s t (eq-eqb _ _ e)

-- what begins with a type's words and parts begins with that type
abbrev pub Reads : CType → Type 0
Reads t = (other : CType) (r u : List Word) (q k : List ℕ) → type_words t ++ r ≡ type_words other ++ u → type_parts t ++ q ≡ type_parts other ++ k → (t ≡ other) × ((r ≡ u) × (q ≡ k))

abbrev ReadsSig : Sig → Type 0
ReadsSig s = (other : Sig) (r u : List Word) (q k : List ℕ) → (sig_words s).count ≡ (sig_words other).count → (sig_words s).words ++ r ≡ (sig_words other).words ++ u → sig_parts s ++ q ≡ sig_parts other ++ k →
    (s ≡ other) × ((r ≡ u) × (q ≡ k))

level_same : (x y : shape.Shape-F Shape CType Sig) (c v d w : Bool) → TypeParts Reads ReadsSig x → (r u : List Word) (q k : List ℕ) →
    words_step (words_in x) c v ++ r ≡ words_step (words_in y) d w ++ u → parts_step (parts_in x) ++ q ≡ parts_step (parts_in y) ++ k →
    (c ≡ d) × ((v ≡ w) × ((x ≡ y) × ((r ≡ u) × (q ≡ k))))
level_same shape.Void shape.Void c v d w h r u q k e f = (constant-same e, (volatile-same e, (refl, (rest-same e, f))))
level_same shape.Void (shape.Int t) c v d w h r u q k e f = kinds-apart refl (kind-same e)
level_same shape.Void (shape.Pointer of) c v d w h r u q k e f = kinds-apart refl (kind-same e)
level_same shape.Void (shape.Array of m) c v d w h r u q k e f = kinds-apart refl (kind-same e)
level_same shape.Void (shape.Struct j) c v d w h r u q k e f = kinds-apart refl (kind-same e)
level_same shape.Void (shape.Func t) c v d w h r u q k e f = kinds-apart refl (kind-same e)
level_same (shape.Int s) shape.Void c v d w h r u q k e f = kinds-apart refl (kind-same e)
level_same (shape.Int s) (shape.Int t) c v d w h r u q k e f = (constant-same e, (volatile-same e, (ap (λ (x : IntType). shape.Int x) (position-same s t (number-same e)), (rest-same e, f))))
level_same (shape.Int s) (shape.Pointer of) c v d w h r u q k e f = kinds-apart refl (kind-same e)
level_same (shape.Int s) (shape.Array of m) c v d w h r u q k e f = kinds-apart refl (kind-same e)
level_same (shape.Int s) (shape.Struct j) c v d w h r u q k e f = kinds-apart refl (kind-same e)
level_same (shape.Int s) (shape.Func t) c v d w h r u q k e f = kinds-apart refl (kind-same e)
level_same (shape.Pointer to) shape.Void c v d w h r u q k e f = kinds-apart refl (kind-same e)
level_same (shape.Pointer to) (shape.Int t) c v d w h r u q k e f = kinds-apart refl (kind-same e)
level_same (shape.Pointer to) (shape.Pointer of) c v d w h r u q k e f =
    let g = h of r u q k (rest-same e) f in
    (constant-same e, (volatile-same e, (ap (λ (x : CType). shape.Pointer x) g.0, g.1)))
level_same (shape.Pointer to) (shape.Array of m) c v d w h r u q k e f = kinds-apart refl (kind-same e)
level_same (shape.Pointer to) (shape.Struct j) c v d w h r u q k e f = kinds-apart refl (kind-same e)
level_same (shape.Pointer to) (shape.Func t) c v d w h r u q k e f = kinds-apart refl (kind-same e)
level_same (shape.Array to n) shape.Void c v d w h r u q k e f = kinds-apart refl (kind-same e)
level_same (shape.Array to n) (shape.Int t) c v d w h r u q k e f = kinds-apart refl (kind-same e)
level_same (shape.Array to n) (shape.Pointer of) c v d w h r u q k e f = kinds-apart refl (kind-same e)
level_same (shape.Array to n) (shape.Array of m) c v d w h r u q k e f =
    let g = h of r u q k (rest-same e) f in
    (constant-same e, (volatile-same e, (ap (λ (x : CType). shape.Array x n) g.0 ∙ ap (λ (x : ℕ). shape.Array of x) (number-same e), g.1)))
level_same (shape.Array to n) (shape.Struct j) c v d w h r u q k e f = kinds-apart refl (kind-same e)
level_same (shape.Array to n) (shape.Func t) c v d w h r u q k e f = kinds-apart refl (kind-same e)
level_same (shape.Struct i) shape.Void c v d w h r u q k e f = kinds-apart refl (kind-same e)
level_same (shape.Struct i) (shape.Int t) c v d w h r u q k e f = kinds-apart refl (kind-same e)
level_same (shape.Struct i) (shape.Pointer of) c v d w h r u q k e f = kinds-apart refl (kind-same e)
level_same (shape.Struct i) (shape.Array of m) c v d w h r u q k e f = kinds-apart refl (kind-same e)
level_same (shape.Struct i) (shape.Struct j) c v d w h r u q k e f = (constant-same e, (volatile-same e, (ap (λ (x : ℕ). shape.Struct x) (first-same f), (rest-same e, rest-same f))))
level_same (shape.Struct i) (shape.Func t) c v d w h r u q k e f = kinds-apart refl (kind-same e)
level_same (shape.Func s) shape.Void c v d w h r u q k e f = kinds-apart refl (kind-same e)
level_same (shape.Func s) (shape.Int t) c v d w h r u q k e f = kinds-apart refl (kind-same e)
level_same (shape.Func s) (shape.Pointer of) c v d w h r u q k e f = kinds-apart refl (kind-same e)
level_same (shape.Func s) (shape.Array of m) c v d w h r u q k e f = kinds-apart refl (kind-same e)
level_same (shape.Func s) (shape.Struct j) c v d w h r u q k e f = kinds-apart refl (kind-same e)
level_same (shape.Func s) (shape.Func t) c v d w h r u q k e f =
    let g = h t r u q k (number-same e) (rest-same e) f in
    (constant-same e, (volatile-same e, (ap (λ (x : Sig). shape.Func x) g.0, g.1)))

type_of_fields : (t u : CType) → t.constant ≡ u.constant → t.volatile ≡ u.volatile → t.shape ≡ u.shape → t ≡ u
type_of_fields t u h k l = ap (λ (b : Bool). record { constant = b; volatile = t.volatile; shape = t.shape }) h
    ∙ ap (λ (b : Bool). record { constant = u.constant; volatile = b; shape = t.shape }) k
    ∙ ap (λ (s : Shape). record { constant = u.constant; volatile = u.volatile; shape = s }) l

made : (t : CType) (x : shape.Shape-F Shape CType Sig) → out-Shape t.shape ≡ x → TypeParts Reads ReadsSig x → Reads t
made t x e h other r u q k ws ps =
    let g = level_same x (out-Shape other.shape) t.constant t.volatile other.constant other.volatile h r u q k
    (ap (λ l. l ++ r) (sym (words-at t x e)) ∙ (ws ∙ ap (λ l. l ++ u) (words-at other (out-Shape other.shape) refl)))
    (ap (λ l. l ++ q) (sym (parts-at t x e)) ∙ (ps ∙ ap (λ l. l ++ k) (parts-at other (out-Shape other.shape) refl))) in
    (type_of_fields t other g.0 g.1.0 (sym (roll-out-Shape t.shape) ∙ (ap roll-Shape (e ∙ g.1.1.0) ∙ roll-out-Shape other.shape)), g.1.1.1)

types_same : (ts us : List CType) → Each Reads ts → (r u : List Word) (q k : List ℕ) → length ts ≡ length us →
    flat_map (λ ws. ws) (map type_words ts) ++ r ≡ flat_map (λ ws. ws) (map type_words us) ++ u →
    flat_map (λ ps. ps) (map type_parts ts) ++ q ≡ flat_map (λ ps. ps) (map type_parts us) ++ k → (ts ≡ us) × ((r ≡ u) × (q ≡ k))
types_same [] [] h r u q k n ws ps = (refl, (ws, ps))
types_same [] (y ∷ us) h r u q k n ws ps = absurd (omega (arith, n))
types_same (t ∷ ts) [] h r u q k n ws ps = absurd (omega (arith, n))
types_same (t ∷ ts) (y ∷ us) h r u q k n ws ps =
    let wt = flat_map (λ ws. ws) (map type_words ts) in
    let wu = flat_map (λ ws. ws) (map type_words us) in
    let pt = flat_map (λ ps. ps) (map type_parts ts) in
    let pu = flat_map (λ ps. ps) (map type_parts us) in
    let one = h.0 y (wt ++ r) (wu ++ u) (pt ++ q) (pu ++ k)
    (sym (append_assoc (type_words t) wt r) ∙ (ws ∙ append_assoc (type_words y) wu u))
    (sym (append_assoc (type_parts t) pt q) ∙ (ps ∙ append_assoc (type_parts y) pu k)) in
    let more = types_same ts us h.1 r u q k (omega (arith, n)) one.1.0 one.1.1 in
    (ap (λ (x : CType). x ∷ ts) one.0 ∙ ap (λ (xs : List CType). y ∷ xs) more.0, more.1)

abbrev sig_of : CType → List CType → Sig
sig_of result params = roll-Sig (record { result = result; params = params })

made_sig : (s : Sig) (x : shape.Sig-F Shape CType Sig) → out-Sig s ≡ x → SigParts Reads ReadsSig x → ReadsSig s
made_sig s x e h other r u q k n ws ps =
    let y = out-Sig other in
    let wx = flat_map (λ ws. ws) (map type_words x.params) in
    let wy = flat_map (λ ws. ws) (map type_words y.params) in
    let px = flat_map (λ ps. ps) (map type_parts x.params) in
    let py = flat_map (λ ps. ps) (map type_parts y.params) in
    let words_s : (sig_words s).words ≡ type_words x.result ++ wx = ap (λ (z : SigWords). z.words) (sig_words-opens s) ∙ ap (λ (z : shape.Sig-F Shape CType Sig). type_words z.result ++ flat_map (λ ws. ws) (map type_words z.params)) e in
    let words_o : (sig_words other).words ≡ type_words y.result ++ wy = ap (λ (z : SigWords). z.words) (sig_words-opens other) in
    let parts_s : sig_parts s ≡ type_parts x.result ++ px = sig_parts-opens s ∙ ap (λ (z : shape.Sig-F Shape CType Sig). type_parts z.result ++ flat_map (λ ps. ps) (map type_parts z.params)) e in
    let parts_o : sig_parts other ≡ type_parts y.result ++ py = sig_parts-opens other in
    let count_s : (sig_words s).count ≡ length x.params = ap (λ (z : SigWords). z.count) (sig_words-opens s) ∙ (length-map_of type_words (out-Sig s).params ∙ ap (λ (z : shape.Sig-F Shape CType Sig). length z.params) e) in
    let count_o : (sig_words other).count ≡ length y.params = ap (λ (z : SigWords). z.count) (sig_words-opens other) ∙ length-map_of type_words y.params in
    let one = h.0 y.result (wx ++ r) (wy ++ u) (px ++ q) (py ++ k)
    (sym (append_assoc (type_words x.result) wx r) ∙ (ap (λ l. l ++ r) (sym words_s) ∙ (ws ∙ (ap (λ l. l ++ u) words_o ∙ append_assoc (type_words y.result) wy u))))
    (sym (append_assoc (type_parts x.result) px q) ∙ (ap (λ l. l ++ q) (sym parts_s) ∙ (ps ∙ (ap (λ l. l ++ k) parts_o ∙ append_assoc (type_parts y.result) py k)))) in
    let more = types_same x.params y.params h.1 r u q k (sym count_s ∙ (n ∙ count_o)) one.1.0 one.1.1 in
    (sym (roll-out-Sig s) ∙ (ap roll-Sig e ∙ (ap (λ (z : CType). sig_of z x.params) one.0 ∙ (ap (λ (z : List CType). sig_of y.result z) more.0 ∙ roll-out-Sig other))), more.1)

pub reads : (t : CType) → Reads t
reads = by_type Reads ReadsSig (λ constant volatile x h. made (with_shape constant volatile (roll-Shape x)) x (out-roll-Shape x) h) (λ x h. made_sig (roll-Sig x) x (out-roll-Sig x) h)
