-- Numbers, rows and faults, for example: by evaluation.
use Rattle.std.proofs.Common.{◌≡◌, [], ◌∷◌, map, Some, None, refl}
use Rattle.std.specs.Prelude.{codes}
use Rattle.csv.proofs.OnLiterals.{csv_on_literals}
use Rattle.cc_program.specs.CcWords.Names.{is_name}
use Rattle.cc_program.specs.CcWords.Words.{word_of}
use Rattle.cc_cost.specs.Keys.{key_of}
use Rattle.cc_rows.specs.Numbers.{number_in}
use Rattle.cc_rows.specs.Rows.{rows_of}
use Rattle.cc_cost.specs.Rules.{first_from, first_fault}

pub numbers : map (number_in 0 1000) (codes "0" ∷ codes "1000" ∷ codes "1001" ∷ codes "01" ∷ codes "+1" ∷ [] ∷ []) ≡ Some 0 ∷ Some 1000 ∷ None ∷ None ∷ None ∷ None ∷ []
unfolding number_in
numbers = refl

pub rows : rows_of (codes "\nint,2,\n\"char\",signed") ≡ (codes "int" ∷ codes "2" ∷ [] ∷ []) ∷ (codes "char" ∷ codes "signed" ∷ []) ∷ []
unfolding rows_of csv_on_literals
rows = refl

pub refused : first_fault ((codes "int" ∷ codes "2" ∷ [] ∷ []) ∷ (codes "int" ∷ codes "3" ∷ [] ∷ []) ∷ []) ≡ Some (2, 3)
unfolding first_from key_of
refused = refl

pub twice : first_fault ((codes "int" ∷ codes "2" ∷ [] ∷ []) ∷ (codes "int" ∷ codes "4" ∷ [] ∷ []) ∷ []) ≡ Some (2, 4)
unfolding first_from key_of
twice = refl

pub by_default : first_fault ((codes "handler" ∷ codes "irq_on" ∷ [] ∷ []) ∷ []) ≡ Some (1, 6)
unfolding first_from key_of is_name word_of
by_default = refl

pub renamed : first_fault ((codes "handler" ∷ codes "irq_on" ∷ [] ∷ []) ∷ (codes "intrinsic" ∷ codes "on" ∷ codes "sei" ∷ []) ∷ []) ≡ None
unfolding first_from key_of is_name word_of
renamed = refl

pub by_rows : first_fault ((codes "handler" ∷ codes "sei" ∷ [] ∷ []) ∷ (codes "intrinsic" ∷ codes "on" ∷ codes "sei" ∷ []) ∷ []) ≡ Some (2, 6)
unfolding first_from key_of is_name word_of
by_rows = refl
