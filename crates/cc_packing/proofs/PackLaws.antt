-- What a run of packing leaves, from what its parts say: all was read, and then the outputs were written.
use Rattle.std.proofs.Common.{◌≡◌, ℕ, Bool, IsTrue, List, [], Option, Some, None, unwrap_or, refl, sym, ap, ◌∙◌, subst, ◌⊎◌, inl, inr, IsSomeAnd}
use Rattle.cc_edge.specs.Files.{Files, KeepsFiles, KeepsOthers, HoldsPrefix}
use Rattle.cc_packing.specs.Asked.{Asked}
use Rattle.cc_packing.specs.Headline.{AreAsked, Packs, Leaves, LeavesTable, IsAtFault}
use Rattle.cc_packing.specs.Outputs.{KeepsRest, AreWritten, IsOutLeft, IsTableLeft}

-- files that were written, where those before them were as in the beginning
others_over : (out : List ℕ) (old mid new : Files) → KeepsFiles old mid → KeepsOthers out mid new → KeepsOthers out old new
others_over out old mid new h k other n = k other n ∙ h other

rest_over : (out : List ℕ) (table : Option (List ℕ)) (old mid new : Files) → KeepsFiles old mid → KeepsRest out table mid new → KeepsRest out table old new
rest_over out None old mid new h k = others_over out old mid new h k
rest_over out (Some table) old mid new h k = λ other n m. k other n m ∙ h other

left_over : (name bytes : List ℕ) (old mid new : Files) → KeepsFiles old mid → (new name ≡ mid name) ⊎ HoldsPrefix bytes (new name) → (new name ≡ old name) ⊎ HoldsPrefix bytes (new name)
left_over name bytes old mid new keeps (inl h) = inl (h ∙ keeps name)
left_over name bytes old mid new keeps (inr h) = inr h

module _ (a : Asked) (old mid new : Files) (bytes rows : List ℕ) (asked : AreAsked old a bytes rows) (keeps : KeepsFiles old mid) where
  pub packs : AreWritten a.out a.table bytes rows mid new → Packs a old new
  packs w = record {
    bytes = bytes;
    rows = rows;
    asked = asked;
    written = record { output = w.output; tabled = w.tabled; others = rest_over a.out a.table old mid new keeps w.others };
  }

  pub leaves : IsOutLeft a.out bytes mid new → Leaves a old new
  leaves w = record {
    bytes = bytes;
    rows = rows;
    asked = asked;
    left = record { left = left_over a.out bytes old mid new keeps w.left; others = others_over a.out old mid new keeps w.others };
  }

  pub leaves_table : (table : List ℕ) → IsTableLeft a.out table bytes rows mid new → LeavesTable a table old new
  leaves_table table w = record {
    bytes = bytes;
    rows = rows;
    asked = asked;
    left = record { output = w.output; left = left_over table rows old mid new keeps w.left; others = rest_over a.out (Some table) old mid new keeps w.others };
  }

-- the table is at fault, where what is left of it is told in terms of the files before it was written
module _ (name : List ℕ) (a : Asked) (bytes rows : List ℕ) (told told_then : Bool) (old mid new : Files) where
  at_fault : (table : Option (List ℕ)) → a.table ≡ table → name ≡ unwrap_or table [] → IsSomeAnd table (λ t. IsTrue told_then → IsTableLeft a.out t bytes rows mid new) →
      ((t : List ℕ) → (IsTrue told_then → IsTableLeft a.out t bytes rows mid new) → IsTrue told → LeavesTable a t old new) → IsAtFault name a told old new
  at_fault None i e w leaves = absurd w
  at_fault (Some t) i e w leaves = inr (i ∙ ap Some (sym e), λ h. subst (λ n. LeavesTable a n old new) (sym e) (leaves t w h))

  pub table_at_fault : name ≡ unwrap_or a.table [] → IsSomeAnd a.table (λ t. IsTrue told_then → IsTableLeft a.out t bytes rows mid new) →
      ((t : List ℕ) → (IsTrue told_then → IsTableLeft a.out t bytes rows mid new) → IsTrue told → LeavesTable a t old new) → IsAtFault name a told old new
  unfolding at_fault
  table_at_fault e w leaves = at_fault a.table refl e w leaves
