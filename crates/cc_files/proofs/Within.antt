-- Files that are read one after the other, within limits.
use Rattle.std.proofs.Common.{◌≡◌, ◌∙◌, ◌≤◌, ◌<◌, ◌+◌, ◌-◌, ◌⊎◌, inl, inr, ℕ, zero, suc, List, [], ◌∷◌, ◌++◌, length, get_or, take, drop, map, sum, min, Option, Some, None, IsSomeAnd, ap, sym, subst, arith}
use Rattle.std.proofs.lemmas.List.{map-append, take_more, drop_more, take-append-drop}
use Rattle.std.proofs.lemmas.List.Sums.{sum_by_push}
use Rattle.std.specs.Prelude.{String, Vec, string_bytes, slice_index_or}
use Rattle.std.specs.List.{All, AllZip, Contains}
use Rattle.std.specs.declared.alloc.Global.{Global}
use Rattle.std.proofs.lemmas.List.Elements.{All-nil, All-push, AllZip-push}
use Rattle.cc_edge.proofs.Prefixes.{raised-more, raised-least}
use Rattle.cc_edge.specs.Files.{Files, KeepsFiles}
use Rattle.cc_edge.specs.Faults.{Rose, raised}
use Rattle.cc_files.specs.Unread.{names_of, texts_of, IsUnread, AFault, NotThere, Long, AreWithin, IsFirstUnread, IsOneOf}
use Rattle.cc_files.specs.declared.unread.Unread.{Unread}
use Rattle.cc_files.specs.declared.unread.Unread.TheVariants as unread

texts-behind : (ts : List (Vec ℕ Global)) (t : Vec ℕ Global) → texts_of (ts ++ t ∷ []) ≡ texts_of ts ++ t.items ∷ []
texts-behind ts t = map-append (λ (v : Vec ℕ Global). v.items) ts (t ∷ [])

pub sum-behind : (ts : List (Vec ℕ Global)) (t : Vec ℕ Global) → sum (map length (texts_of (ts ++ t ∷ []))) ≡ sum (map length (texts_of ts)) + length t.items
sum-behind ts t =
    ap (λ (xs : List (List ℕ)). sum (map length xs)) (texts-behind ts t)
    ∙ (ap sum (map-append (length {A = ℕ}) (texts_of ts) (t.items ∷ []))
    ∙ sum_by_push (λ (n : ℕ). n) (map (length {A = ℕ}) (texts_of ts)) (length t.items))

names-behind : (names : List (String Global)) (i : ℕ) (name : String Global) → i < length names → name ≡ get_or names i name → names_of (take (i + 1) names) ≡ names_of (take i names) ++ string_bytes name ∷ []
names-behind names i name h e =
    ap names_of (take_more names i name h)
    ∙ (map-append (λ (s : String Global). string_bytes s) (take i names) (get_or names i name ∷ [])
    ∙ ap (λ (s : String Global). names_of (take i names) ++ string_bytes s ∷ []) (sym e))

names-split : (names : List (String Global)) (i : ℕ) (name : String Global) → i < length names → name ≡ get_or names i name →
    names_of names ≡ names_of (take i names) ++ string_bytes name ∷ names_of (drop (i + 1) names)
names-split names i name h e =
    ap names_of (sym (take-append-drop i names))
    ∙ (map-append (λ (s : String Global). string_bytes s) (take i names) (drop i names)
    ∙ ap (λ (xs : List (String Global)). names_of (take i names) ++ names_of xs) (drop_more names i name h ∙ ap (λ (s : String Global). s ∷ drop (i + 1) names) (sym e)))

names-contain : (names : List (String Global)) (i : ℕ) (name : String Global) → i < length names → name ≡ get_or names i name → Contains (names_of names) (string_bytes name)
names-contain [] i name h e = absurd (omega arith)
names-contain (n ∷ names) zero name h e = (0, omega arith, ap string_bytes (sym e))
names-contain (n ∷ names) (suc i) name h e = let r = names-contain names i name (omega arith) e in (suc r.0, omega (arith, r.1), r.2)

module _ (files : Files) (most total : ℕ) where
  pub within-none : AreWithin files most total [] []
  within-none = record { there = tt; short = All-nil (λ text. length text ≤ most); few = omega arith }

  pub within-next : (names : List (String Global)) (i : ℕ) (name : String Global) (ts : List (Vec ℕ Global)) (t : Vec ℕ Global) → i < length names → name ≡ get_or names i name →
      AreWithin files most total (names_of (take i names)) (texts_of ts) → files (string_bytes name) ≡ Some t.items → length t.items ≤ most → sum (map length (texts_of ts)) + length t.items ≤ total →
      AreWithin files most total (names_of (take (i + 1) names)) (texts_of (ts ++ t ∷ []))
  within-next names i name ts t h e w there short few = record {
    there = subst (λ xs. AllZip (λ n x. files n ≡ Some x) xs (texts_of (ts ++ t ∷ []))) (sym (names-behind names i name h e))
        (subst (λ xs. AllZip (λ n x. files n ≡ Some x) (names_of (take i names) ++ string_bytes name ∷ []) xs) (sym (texts-behind ts t))
        (AllZip-push (λ n x. files n ≡ Some x) (names_of (take i names)) (texts_of ts) (string_bytes name) t.items w.there there));
    short = subst (λ xs. All (λ text. length text ≤ most) xs) (sym (texts-behind ts t)) (All-push (λ text. length text ≤ most) (texts_of ts) t.items w.short short);
    few = omega (arith, sum-behind ts t);
  }

  -- why one is not read, where those before it are
  pub unread-at : (rose : Type 0) (names : List (String Global)) (i : ℕ) (name : String Global) (ts : List (Vec ℕ Global)) (left : ℕ) (u : Unread) → i < length names → name ≡ get_or names i name →
      AreWithin files most total (names_of (take i names)) (texts_of ts) → left + sum (map length (texts_of ts)) ≡ total → IsUnread files rose (min most left) (string_bytes name) u →
      IsFirstUnread files rose most total (names_of names) u
  unread-at rose names i name ts left u h e w l k =
      let rest : left ≡ total - sum (map length (texts_of ts)) = omega arith in
      record {
        before = names_of (take i names);
        name = string_bytes name;
        behind = names_of (drop (i + 1) names);
        all = names-split names i name h e;
        texts = texts_of ts;
        read = w;
        unread = subst (λ n. IsUnread files rose (min most n) (string_bytes name) u) rest k;
      }

-- ---- one file

pub by-fault : (files : Files) (rose told : Type 0) (limit : ℕ) (name copy : List ℕ) → copy ≡ name → rose ⊎ (told × (files name ≡ None)) → IsUnread files rose limit name (unread.ReadFault copy)
by-fault files rose told limit name copy e (inl h) = subst (λ n. IsUnread files rose limit name (unread.ReadFault n)) (sym e) (AFault h)
by-fault files rose told limit name copy e (inr h) = subst (λ n. IsUnread files rose limit name (unread.ReadFault n)) (sym e) (NotThere h.1)

pub by-length : (files : Files) (rose : Type 0) (limit : ℕ) (name copy : List ℕ) (o : Option (List ℕ)) → files name ≡ o → copy ≡ name → IsSomeAnd o (λ text. limit < length text) → IsUnread files rose limit name (unread.TooLong copy)
by-length files rose limit name copy None e k h = absurd h
by-length files rose limit name copy (Some text) e k h = subst (λ n. IsUnread files rose limit name (unread.TooLong n)) (sym k) (Long text e h)

-- ---- of files in order

pub rose-earlier : (a b d : ℕ) → a ≤ b → Rose b d → Rose a d
rose-earlier a b d h r = omega arith

-- more bytes were taken than one file may have
pub grown-by : (most total left before limit taken mid new : ℕ) → most ≤ total → left + before ≡ total → limit ≡ min most left → mid ≡ raised before taken → new ≡ raised (limit + 1) mid → raised (most + 1) taken ≤ new
grown-by most total left before limit taken mid new h l e m k =
    let same = k ∙ (ap (raised (limit + 1)) m ∙ raised-more (limit + 1) before taken) in
    let least = raised-least (most + 1) (before + (limit + 1)) taken (omega arith) in
    omega (arith, same, least)

-- what a file is not read for, in terms of the files and the faults of the beginning
pub unread-since : (old mid : Files) (rose since : Type 0) (limit : ℕ) (name : List ℕ) (u : Unread) → KeepsFiles old mid → (rose → since) → IsUnread mid rose limit name u → IsUnread old since limit name u
unread-since old mid rose since limit name _ keeps risen (AFault h) = AFault (risen h)
unread-since old mid rose since limit name _ keeps risen (NotThere h) = NotThere (sym (keeps name) ∙ h)
unread-since old mid rose since limit name _ keeps risen (Long text h k) = Long text (sym (keeps name) ∙ h) k

sole-at : (name file : List ℕ) (k : ℕ) → k < 1 → slice_index_or (name ∷ []) k file ≡ file → name ≡ file
sole-at name file zero h e = e
sole-at name file (suc k) h e = absurd (omega arith)

-- a fault of one file that is read, in terms of all
pub one-of : (names : List (String Global)) (i : ℕ) (name : String Global) (rose since long longer : Type 0) (u : Unread) → i < length names → name ≡ get_or names i name → (rose → since) → (long → longer) →
    IsOneOf (string_bytes name ∷ []) rose long u → IsOneOf (names_of names) since longer u
one-of names i name rose since long longer (unread.ReadFault file) h e risen grown k =
    (subst (λ n. Contains (names_of names) n) (sole-at (string_bytes name) file k.0.0 k.0.1 k.0.2) (names-contain names i name h e), risen k.1)
one-of names i name rose since long longer (unread.TooLong file) h e risen grown k =
    (subst (λ n. Contains (names_of names) n) (sole-at (string_bytes name) file k.0.0 k.0.1 k.0.2) (names-contain names i name h e), grown k.1)
one-of names i name rose since long longer unread.NoMemory h e risen grown k = tt
