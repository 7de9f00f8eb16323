-- Why a file of a command is not read: a fault, or it is not there, or it has more bytes than its limit. A source has at
-- most 1,048,576 bytes, and all sources together have at most 4,194,304.
use Rattle.std.specs.Prelude.{◌≡◌, ◌≤◌, ◌<◌, ◌-◌, ⊤, ℕ, min, sum, List, ◌∷◌, ◌++◌, length, map, Some, None, String, Vec, string_bytes}
use Rattle.std.specs.List.{All, AllZip, Contains}
use Rattle.std.specs.declared.alloc.Global.{Global}
use Rattle.cc_edge.specs.Files.{Files}
use Rattle.cc_files.specs.declared.unread.Unread.{Unread}
use Rattle.cc_files.specs.declared.unread.Unread.TheVariants as unread

abbrev pub names_of : List (String Global) → List (List ℕ)
names_of words = map string_bytes words

-- why a file is not read; where the store's faults have risen, it may be told that it was not
pub data IsUnread (files : Files) (rose : Type 0) (limit : ℕ) (name : List ℕ) : Unread → Type 0 where
  AFault : rose → IsUnread files rose limit name (unread.ReadFault name)
  NotThere : files name ≡ None → IsUnread files rose limit name (unread.ReadFault name)
  Long : (text : List ℕ) → files name ≡ Some text → limit < length text → IsUnread files rose limit name (unread.TooLong name)

abbrev pub texts_of : List (Vec ℕ Global) → List (List ℕ)
texts_of texts = map (λ t. t.items) texts

-- files that are there, each of at most so many bytes, and all together of at most so many
pub record AreWithin (files : Files) (most total : ℕ) (names : List (List ℕ)) (texts : List (List ℕ)) : Type 0 where
  pub there : AllZip (λ name text. files name ≡ Some text) names texts
  pub short : All (λ text. length text ≤ most) texts
  pub few : sum (map length texts) ≤ total

-- the first file that is not read, and why: its limit is also what the files before it leave of that of all
pub record IsFirstUnread (files : Files) (rose : Type 0) (most total : ℕ) (names : List (List ℕ)) (u : Unread) : Type 0 where
  pub before : List (List ℕ)
  pub name : List ℕ
  pub behind : List (List ℕ)
  pub all : names ≡ before ++ name ∷ behind
  pub texts : List (List ℕ)
  pub read : AreWithin files most total before texts
  pub unread : IsUnread files rose (min most (total - sum (map length texts))) name u

-- the limits of sources: of one, and of all together
abbrev pub AreSources : Files → List (List ℕ) → List (List ℕ) → Type 0
AreSources files names texts = AreWithin files 1048576 4194304 names texts

abbrev pub IsFirstSourceUnread : Files → Type 0 → List (List ℕ) → Unread → Type 0
IsFirstSourceUnread files rose names u = IsFirstUnread files rose 1048576 4194304 names u

-- what a fault tells where the files are not told: the file is one of these, and this holds
abbrev pub IsOneOf : List (List ℕ) → Type 0 → Type 0 → Unread → Type 0
IsOneOf names rose long (unread.ReadFault name) = Contains names name × rose
IsOneOf names rose long (unread.TooLong name) = Contains names name × long
IsOneOf names rose long unread.NoMemory = ⊤
