-- Words and parts of types, opened at a level; and types with other numbers of structures have the same words, and parts of those numbers.
use Rattle.std.proofs.Common.{◌≡◌, ◌∙◌, ℕ, Bool, List, [], ◌∷◌, ◌++◌, length, map, flat_map, slice_get, refl, ap, sym, take, ◌≤◌, append_assoc}
use Rattle.std.proofs.lemmas.List.{length-map, map-append, take_all}
use Rattle.cc_program.specs.declared.types.CType.{CType, fold_out-CType}
use Rattle.cc_program.specs.declared.types.Shape.{Shape, map-Shape, fold_out-Shape, out-Shape, roll-Shape, out-roll-Shape}
use Rattle.cc_program.specs.declared.types.Shape.TheOpen as shape
use Rattle.cc_program.specs.declared.types.Shape.TheVariants.{outs-Void, outs-Int, outs-Pointer, outs-Array, outs-Struct, outs-Func}
use Rattle.cc_program.specs.declared.types.Sig.{Sig, fold_out-Sig, out-Sig, roll-Sig, out-roll-Sig}
use Rattle.cc_program.proofs.Each.{Each}
use Rattle.cc_program.proofs.TypeInduction.{with_shape, TypeParts, SigParts, by_type}
use Rattle.cc_structures.specs.Words.{ShapeWords, SigWords, words_step, words_type, words_sig, type_words, shape_words, sig_words, parts_step, parts_type, parts_sig, type_parts, shape_parts, sig_parts}
use Rattle.cc_structures.specs.declared.words.Word.{Word}
use Rattle.cc_unit.specs.Renumbered.{structure_by, shape_step, type_step, sig_step, type_renumbered, shape_renumbered, sig_renumbered}

-- ---- one level

abbrev pub words_in : shape.Shape-F Shape CType Sig → shape.Shape-F ShapeWords (List Word) SigWords
words_in x = map-Shape Shape CType Sig ShapeWords (List Word) SigWords shape_words type_words sig_words x

abbrev pub parts_in : shape.Shape-F Shape CType Sig → shape.Shape-F (List ℕ) (List ℕ) (List ℕ)
parts_in x = map-Shape Shape CType Sig (List ℕ) (List ℕ) (List ℕ) shape_parts type_parts sig_parts x

type_words-opens : (t : CType) → type_words t ≡ shape_words t.shape t.constant t.volatile
unfolding type_words shape_words sig_words
type_words-opens t = fold_out-CType ShapeWords (List Word) SigWords words_step words_type words_sig t

shape_words-opens : (s : Shape) → shape_words s ≡ words_step (words_in (out-Shape s))
unfolding type_words shape_words sig_words
shape_words-opens s = fold_out-Shape ShapeWords (List Word) SigWords words_step words_type words_sig s

pub sig_words-opens : (s : Sig) → sig_words s ≡ words_sig (record { result = type_words (out-Sig s).result; params = map type_words (out-Sig s).params })
unfolding type_words shape_words sig_words
sig_words-opens s = fold_out-Sig ShapeWords (List Word) SigWords words_step words_type words_sig s

type_parts-opens : (t : CType) → type_parts t ≡ shape_parts t.shape
unfolding type_parts shape_parts sig_parts
type_parts-opens t = fold_out-CType (List ℕ) (List ℕ) (List ℕ) parts_step parts_type parts_sig t

shape_parts-opens : (s : Shape) → shape_parts s ≡ parts_step (parts_in (out-Shape s))
unfolding type_parts shape_parts sig_parts
shape_parts-opens s = fold_out-Shape (List ℕ) (List ℕ) (List ℕ) parts_step parts_type parts_sig s

pub sig_parts-opens : (s : Sig) → sig_parts s ≡ parts_sig (record { result = type_parts (out-Sig s).result; params = map type_parts (out-Sig s).params })
unfolding type_parts shape_parts sig_parts
sig_parts-opens s = fold_out-Sig (List ℕ) (List ℕ) (List ℕ) parts_step parts_type parts_sig s

-- as the code puts them behind others
module _ (s : Shape) (x : shape.Shape-F Shape CType Sig) (e : out-Shape s ≡ x) where
  pub shape_words-put : (c v : Bool) (old new : List Word) → new ≡ old ++ words_step (words_in x) c v → new ≡ old ++ shape_words s c v
  shape_words-put c v old new h = h ∙ ap (λ (f : ShapeWords). old ++ f c v) (sym (shape_words-opens s ∙ ap (λ y. words_step (words_in y)) e))

  pub shape_parts-put : (old new : List ℕ) → new ≡ old ++ parts_step (parts_in x) → new ≡ old ++ shape_parts s
  shape_parts-put old new h = h ∙ ap (λ l. old ++ l) (sym (shape_parts-opens s ∙ ap (λ y. parts_step (parts_in y)) e))

pub type_words-put : (t : CType) (old new : List Word) → new ≡ old ++ shape_words t.shape t.constant t.volatile → new ≡ old ++ type_words t
type_words-put t old new h = h ∙ ap (λ l. old ++ l) (sym (type_words-opens t))

pub type_parts-put : (t : CType) (old new : List ℕ) → new ≡ old ++ shape_parts t.shape → new ≡ old ++ type_parts t
type_parts-put t old new h = h ∙ ap (λ l. old ++ l) (sym (type_parts-opens t))

pub first-put : {A : Type 0} (a : A) (old mid new rest other : List A) → mid ≡ old ++ a ∷ [] → rest ≡ other → new ≡ mid ++ rest → new ≡ old ++ a ∷ other
first-put a old mid new rest other front same h = h ∙ (ap (λ l. l ++ rest) front ∙ (append_assoc old (a ∷ []) rest ∙ ap (λ l. old ++ a ∷ l) same))

-- of a type whose shape is known
pub words-at : (t : CType) (x : shape.Shape-F Shape CType Sig) → out-Shape t.shape ≡ x → type_words t ≡ words_step (words_in x) t.constant t.volatile
words-at t x e =
    type_words-opens t ∙ ap (λ (f : ShapeWords). f t.constant t.volatile) (shape_words-opens t.shape ∙ ap (λ y. words_step (words_in y)) e)

pub parts-at : (t : CType) (x : shape.Shape-F Shape CType Sig) → out-Shape t.shape ≡ x → type_parts t ≡ parts_step (parts_in x)
parts-at t x e = type_parts-opens t ∙ (shape_parts-opens t.shape ∙ ap (λ y. parts_step (parts_in y)) e)

-- ---- with other numbers

module _ (numbers : List ℕ) where
  abbrev pub number_by : ℕ → ℕ
  number_by i = structure_by (slice_get numbers i)

  abbrev renumbered_in : shape.Shape-F Shape CType Sig → shape.Shape-F Shape CType Sig
  renumbered_in x = map-Shape Shape CType Sig Shape CType Sig (shape_renumbered numbers) (type_renumbered numbers) (sig_renumbered numbers) x

  type_renumbered-opens : (t : CType) → type_renumbered numbers t ≡ record { constant = t.constant; volatile = t.volatile; shape = shape_renumbered numbers t.shape }
  unfolding type_renumbered shape_renumbered sig_renumbered
  type_renumbered-opens t = fold_out-CType Shape CType Sig (shape_step numbers) (type_step numbers) (sig_step numbers) t

  shape_renumbered-opens : (s : Shape) → shape_renumbered numbers s ≡ shape_step numbers (renumbered_in (out-Shape s))
  unfolding type_renumbered shape_renumbered sig_renumbered
  shape_renumbered-opens s = fold_out-Shape Shape CType Sig (shape_step numbers) (type_step numbers) (sig_step numbers) s

  sig_renumbered-opens : (s : Sig) → sig_renumbered numbers s ≡ roll-Sig (record { result = type_renumbered numbers (out-Sig s).result; params = map (type_renumbered numbers) (out-Sig s).params })
  unfolding type_renumbered shape_renumbered sig_renumbered
  sig_renumbered-opens s = fold_out-Sig Shape CType Sig (shape_step numbers) (type_step numbers) (sig_step numbers) s

  -- its level
  abbrev pub renumbered_level : shape.Shape-F Shape CType Sig → shape.Shape-F Shape CType Sig
  renumbered_level shape.Void = shape.Void
  renumbered_level (shape.Int t) = shape.Int t
  renumbered_level (shape.Pointer to) = shape.Pointer (type_renumbered numbers to)
  renumbered_level (shape.Array of n) = shape.Array (type_renumbered numbers of) n
  renumbered_level (shape.Struct i) = shape.Struct (number_by i)
  renumbered_level (shape.Func s) = shape.Func (sig_renumbered numbers s)

  level-of : (x : shape.Shape-F Shape CType Sig) → out-Shape (shape_step numbers (renumbered_in x)) ≡ renumbered_level x
  level-of shape.Void = outs-Void
  level-of (shape.Int t) = outs-Int t
  level-of (shape.Pointer to) = outs-Pointer (type_renumbered numbers to)
  level-of (shape.Array of n) = outs-Array (type_renumbered numbers of) n
  level-of (shape.Struct i) = outs-Struct (number_by i)
  level-of (shape.Func s) = outs-Func (sig_renumbered numbers s)

  pub level-renumbered : (t : CType) (x : shape.Shape-F Shape CType Sig) → out-Shape t.shape ≡ x → out-Shape (type_renumbered numbers t).shape ≡ renumbered_level x
  level-renumbered t x e =
      ap (λ (u : CType). out-Shape u.shape) (type_renumbered-opens t)
      ∙ (ap out-Shape (shape_renumbered-opens t.shape ∙ ap (λ y. shape_step numbers (renumbered_in y)) e) ∙ level-of x)

  pub record HasWords (t : CType) : Type 0 where
    pub words : type_words (type_renumbered numbers t) ≡ type_words t
    pub parts : type_parts (type_renumbered numbers t) ≡ map number_by (type_parts t)

  pub record HasSigWords (s : Sig) : Type 0 where
    pub words : sig_words (sig_renumbered numbers s) ≡ sig_words s
    pub parts : sig_parts (sig_renumbered numbers s) ≡ map number_by (sig_parts s)

  level-words : (x : shape.Shape-F Shape CType Sig) (c v : Bool) → TypeParts HasWords HasSigWords x → words_step (words_in (renumbered_level x)) c v ≡ words_step (words_in x) c v
  level-words shape.Void c v h = refl
  level-words (shape.Int t) c v h = refl
  level-words (shape.Pointer to) c v h = rw h.words refl
  level-words (shape.Array of n) c v h = rw h.words refl
  level-words (shape.Struct i) c v h = refl
  level-words (shape.Func s) c v h = rw h.words refl

  level-parts : (x : shape.Shape-F Shape CType Sig) → TypeParts HasWords HasSigWords x → parts_step (parts_in (renumbered_level x)) ≡ map number_by (parts_step (parts_in x))
  level-parts shape.Void h = refl
  level-parts (shape.Int t) h = refl
  level-parts (shape.Pointer to) h = h.parts
  level-parts (shape.Array of n) h = h.parts
  level-parts (shape.Struct i) h = refl
  level-parts (shape.Func s) h = h.parts

  pub constant-kept : (t : CType) → (type_renumbered numbers t).constant ≡ t.constant
  constant-kept t = ap (λ (u : CType). u.constant) (type_renumbered-opens t)

  pub volatile-kept : (t : CType) → (type_renumbered numbers t).volatile ≡ t.volatile
  volatile-kept t = ap (λ (u : CType). u.volatile) (type_renumbered-opens t)

  made : (t : CType) (x : shape.Shape-F Shape CType Sig) → out-Shape t.shape ≡ x → TypeParts HasWords HasSigWords x → HasWords t
  made t x e h = record {
    words =
        words-at (type_renumbered numbers t) (renumbered_level x) (level-renumbered t x e)
        ∙ (ap (λ (b : Bool). words_step (words_in (renumbered_level x)) b (type_renumbered numbers t).volatile) (constant-kept t)
        ∙ (ap (λ (b : Bool). words_step (words_in (renumbered_level x)) t.constant b) (volatile-kept t)
        ∙ (level-words x t.constant t.volatile h ∙ sym (words-at t x e))));
    parts =
        parts-at (type_renumbered numbers t) (renumbered_level x) (level-renumbered t x e)
        ∙ (level-parts x h ∙ ap (map number_by) (sym (parts-at t x e)));
  }

  params-words : (ts : List CType) → Each HasWords ts → map type_words (map (type_renumbered numbers) ts) ≡ map type_words ts
  params-words [] h = refl
  params-words (t ∷ ts) h = rw (h.0.words, params-words ts h.1) refl

  params-parts : (ts : List CType) → Each HasWords ts → flat_map (λ ps. ps) (map type_parts (map (type_renumbered numbers) ts)) ≡ map number_by (flat_map (λ ps. ps) (map type_parts ts))
  params-parts [] h = refl
  params-parts (t ∷ ts) h = rw (h.0.parts, params-parts ts h.1) (sym (map-append number_by (type_parts t) (flat_map (λ ps. ps) (map type_parts ts))))

  abbrev pub renumbered_sig_level : shape.Sig-F Shape CType Sig → shape.Sig-F Shape CType Sig
  renumbered_sig_level x = record { result = type_renumbered numbers x.result; params = map (type_renumbered numbers) x.params }

  pub sig_level : (s : Sig) (x : shape.Sig-F Shape CType Sig) → out-Sig s ≡ x → out-Sig (sig_renumbered numbers s) ≡ renumbered_sig_level x
  sig_level s x e = ap out-Sig (sig_renumbered-opens s) ∙ (out-roll-Sig (renumbered_sig_level (out-Sig s)) ∙ ap renumbered_sig_level e)

  abbrev words_of_sig : shape.Sig-F Shape CType Sig → SigWords
  words_of_sig x = words_sig (record { result = type_words x.result; params = map type_words x.params })

  abbrev parts_of_sig : shape.Sig-F Shape CType Sig → List ℕ
  parts_of_sig x = parts_sig (record { result = type_parts x.result; params = map type_parts x.params })

  sig_level-words : (x : shape.Sig-F Shape CType Sig) → SigParts HasWords HasSigWords x → words_of_sig (renumbered_sig_level x) ≡ words_of_sig x
  sig_level-words x h = rw (h.0.words, params-words x.params h.1) refl

  sig_level-parts : (x : shape.Sig-F Shape CType Sig) → SigParts HasWords HasSigWords x → parts_of_sig (renumbered_sig_level x) ≡ map number_by (parts_of_sig x)
  sig_level-parts x h = rw (h.0.parts, params-parts x.params h.1) (sym (map-append number_by (type_parts x.result) (flat_map (λ ps. ps) (map type_parts x.params))))

  made_sig : (s : Sig) (x : shape.Sig-F Shape CType Sig) → out-Sig s ≡ x → SigParts HasWords HasSigWords x → HasSigWords s
  made_sig s x e h = record {
    words = sig_words-opens (sig_renumbered numbers s) ∙ (ap words_of_sig (sig_level s x e) ∙ (sig_level-words x h ∙ sym (sig_words-opens s ∙ ap words_of_sig e)));
    parts = sig_parts-opens (sig_renumbered numbers s) ∙ (ap parts_of_sig (sig_level s x e) ∙ (sig_level-parts x h ∙ ap (map number_by) (sym (sig_parts-opens s ∙ ap parts_of_sig e))));
  }

  pub has_words : (t : CType) → HasWords t
  has_words = by_type HasWords HasSigWords (λ constant volatile x h. made (with_shape constant volatile (roll-Shape x)) x (out-roll-Shape x) h) (λ x h. made_sig (roll-Sig x) x (out-roll-Sig x) h)

-- ---- the parts of a result and of all parameters, one behind the other

pub sig_parts-joined : (s : Sig) (params : List CType) (i : ℕ) (old first last : List ℕ) → first ≡ old ++ type_parts (out-Sig s).result → params ≡ (out-Sig s).params → length params ≤ i →
    last ≡ first ++ flat_map (λ ps. ps) (map type_parts (take i params)) → last ≡ old ++ sig_parts s
sig_parts-joined s params i old first last front are past put =
    put
    ∙ (ap (λ ps. first ++ flat_map (λ qs. qs) (map type_parts ps)) (take_all i params past ∙ are)
    ∙ (ap (λ (l : List ℕ). l ++ flat_map (λ qs. qs) (map type_parts (out-Sig s).params)) front
    ∙ (append_assoc old (type_parts (out-Sig s).result) (flat_map (λ qs. qs) (map type_parts (out-Sig s).params)) ∙ ap (λ l. old ++ l) (sym (sig_parts-opens s)))))

pub sig_words-joined : (s : Sig) (params : List CType) (i : ℕ) (old first last : List Word) → first ≡ old ++ type_words (out-Sig s).result → params ≡ (out-Sig s).params → length params ≤ i →
    last ≡ first ++ flat_map (λ ws. ws) (map type_words (take i params)) → last ≡ old ++ (sig_words s).words
sig_words-joined s params i old first last front are past put =
    put
    ∙ (ap (λ ps. first ++ flat_map (λ qs. qs) (map type_words ps)) (take_all i params past ∙ are)
    ∙ (ap (λ (l : List Word). l ++ flat_map (λ qs. qs) (map type_words (out-Sig s).params)) front
    ∙ (append_assoc old (type_words (out-Sig s).result) (flat_map (λ qs. qs) (map type_words (out-Sig s).params)) ∙ ap (λ (z : SigWords). old ++ z.words) (sym (sig_words-opens s)))))

pub sig_words-count : (s : Sig) → length (out-Sig s).params ≡ (sig_words s).count
sig_words-count s = sym (ap (λ (z : SigWords). z.count) (sig_words-opens s) ∙ length-map (out-Sig s).params type_words)
