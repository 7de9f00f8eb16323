-- What was told of files that were as in the beginning holds from the beginning; so do the counts of faults and of bytes.
use Rattle.std.proofs.Common.{◌≡◌, ◌∙◌, ◌≤◌, ℕ, List, [], ◌∷◌, length, Some, sym, arith}
use Rattle.std.specs.List.{AllZip}
use Rattle.cc_edge.specs.Faults.{Rose, raised}
use Rattle.cc_edge.specs.Files.{Files, KeepsFiles}
use Rattle.cc_files.proofs.Within.{unread-since}
use Rattle.cc_files.specs.Unread.{AreWithin, IsFirstSourceUnread}
use Rattle.cc_files.specs.declared.unread.Unread.{Unread}
use Rattle.cc_material.specs.Material.{IsThere}

-- ---- files

pub keeps-since : (old mid new : Files) → KeepsFiles old mid → KeepsFiles mid new → KeepsFiles old new
keeps-since old mid new h k = λ name. k name ∙ h name

pub is-there-since : (old mid : Files) (limit : ℕ) (name text : List ℕ) → KeepsFiles old mid → mid name ≡ Some text → length text ≤ limit → IsThere old limit name text
is-there-since old mid limit name text keeps h k = record { there = sym (keeps name) ∙ h; short = k }

there-since : (old mid : Files) (names texts : List (List ℕ)) → KeepsFiles old mid → AllZip (λ name text. mid name ≡ Some text) names texts → AllZip (λ name text. old name ≡ Some text) names texts
there-since old mid [] [] keeps h = tt
there-since old mid [] (y ∷ ys) keeps h = absurd h
there-since old mid (x ∷ xs) [] keeps h = absurd h
there-since old mid (x ∷ xs) (y ∷ ys) keeps h = (sym (keeps x) ∙ h.0, there-since old mid xs ys keeps h.1)

pub within-since : (old mid : Files) (most total : ℕ) (names texts : List (List ℕ)) → KeepsFiles old mid → AreWithin mid most total names texts → AreWithin old most total names texts
within-since old mid most total names texts keeps h = record { there = there-since old mid names texts keeps h.there; short = h.short; few = h.few }

pub first-since : (old mid : Files) (rose since : Type 0) (names : List (List ℕ)) (u : Unread) → KeepsFiles old mid → (rose → since) → IsFirstSourceUnread mid rose names u → IsFirstSourceUnread old since names u
first-since old mid rose since names u keeps risen h = record {
  before = h.before;
  name = h.name;
  behind = h.behind;
  all = h.all;
  texts = h.texts;
  read = within-since old mid 1048576 4194304 h.before h.texts keeps h.read;
  unread = unread-since old mid rose since _ h.name u keeps risen h.unread;
}

-- ---- counts

-- what has risen since later has risen since earlier
pub Rose-earlier : (a b c : ℕ) → a ≤ b → Rose b c → Rose a c
Rose-earlier a b c h k = omega arith

pub raised-since : (n a b c : ℕ) → a ≤ b → raised n b ≤ c → raised n a ≤ c
unfolding raised
raised-since n a b c h k = omega arith

pub before-since : (a b c : ℕ) → a ≤ b → b ≤ c → a ≤ c
before-since a b c h k = omega (arith, h, k)

pub taken-up : (n a b : ℕ) → b ≡ raised n a → a ≤ b
unfolding raised
taken-up n a b e = omega arith
