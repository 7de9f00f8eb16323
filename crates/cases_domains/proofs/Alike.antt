-- Two tables of two sets of addresses are of one kind.
use Rattle.std.proofs.Common.{◌≡◌, ℕ, zero, suc, List, [], ◌∷◌, length, sym, ap, ◌∙◌, arith}
use Rattle.std.specs.List.{AllZip}
use Rattle.cc_lattice.specs.declared.table.Table.{Table}
use Rattle.cc_lattice.specs.Tables.{HaveOneShape}
use Rattle.cc_places.specs.declared.addrs.Addrs.{Addrs}

all_alike : {A : Type 0} (xs ys : List A) → length xs ≡ length ys → AllZip (λ (_ : A) (_ : A). Unit {0}) xs ys
all_alike [] [] h = tt
all_alike [] (y ∷ ys) h = absurd (omega arith)
all_alike (x ∷ xs) [] h = absurd (omega arith)
all_alike (x ∷ xs) (y ∷ ys) h = (tt, all_alike xs ys (omega arith))

pub tables_alike : (s t : Table ℕ Addrs) → s.keys ≡ 0 ∷ 1 ∷ [] → t.keys ≡ 0 ∷ 1 ∷ [] → length s.parts ≡ 2 → length t.parts ≡ 2
    → HaveOneShape (λ (_ : Addrs) (_ : Addrs). Unit {0}) s t
tables_alike s t h k m n = record {
  keys = h ∙ sym k;
  one_each = ap length h ∙ sym m;
  parts = all_alike s.parts t.parts (m ∙ sym n);
}

pub ruleset of_two = (tables_alike)
