-- The tables of some plans, by evaluation.
use Rattle.std.proofs.Common.{◌≡◌, ◌∙◌, ◌+◌, ℕ, false, true, pos, negsuc, List, [], ◌∷◌, length, Option, Some, None, codes, length-append, refl, ap, slice_get, arith}
use Rattle.std.specs.Fmt.{digits}
use Rattle.std.specs.Option.{option_map_or}
use Rattle.csv.specs.Writing.{fields_text, is_blank}
use Rattle.cc_code.specs.declared.kinds.Coding.TheVariants as coding
use Rattle.cc_cost_ranking.specs.declared.costs.Cost.{Cost}
use Rattle.cc_places.specs.declared.abs.Abs.TheVariants.{Ints}
use Rattle.cc_places.specs.declared.addrs.Addrs.{Addrs as Set}
use Rattle.cc_plan_legal.specs.declared.kinds.Plan.{Plan}
use Rattle.cc_program.specs.declared.func.Func.{Func}
use Rattle.cc_program.specs.declared.program.Program.{Program}
use Rattle.cc_program.specs.declared.value.Address.{Address}
use Rattle.cc_program.specs.declared.value.Address.TheVariants as address
use Rattle.cc_sets.specs.declared.range.Range.{Range}
use Rattle.cc_sets.specs.declared.vals.Vals.{Vals}
use Rattle.cc_sets.specs.declared.vals.Vals.TheVariants.{Many}
use Rattle.cc_slots_types.specs.declared.class.Class.TheVariants.{Lone, Written}
use Rattle.cc_slots_types.specs.declared.reason.Reason.TheVariants as reason
use Rattle.cc_slots_types.specs.declared.slot.Slot.{Slot}
use Rattle.cc_plan_table.specs.declared.row.Ram.{Ram}
use Rattle.cc_plan_table.specs.Examples.{array_and_const, in_one_word, one_cost, one_pointer, pointer_in_word, ram, six_costs, six_slots, slot, three_costs, three_scalars, zero_to_nine, AreInts}
use Rattle.cc_state_texts.specs.Texts.{address_text, func_name, spaced}
use Rattle.cc_plan_table.specs.Standings.{standing_of}
use Rattle.cc_plan_table.specs.Table.{header, line_of, slot_rows, table_rows, table_text, total_row}
use Rattle.cc_plan_table.specs.Totals.{totals_of}
use Rattle.cc_plan_table.proofs.Told.{addresses, are_addresses, are_few, as_it_is, few, is_as_it_is, is_range, range, table_by, table_is, told}

rows_count : (p : Program) (words : List (List ℕ)) (plan : Plan) (number : ℕ) (slots : List Slot) → length (slot_rows p words plan number slots) ≡ length slots
rows_count p words plan number [] = refl
rows_count p words plan number (slot ∷ more) = let h = rows_count p words plan (number + 1) more in omega (arith, h)

pub all_rows : (p : Program) (words : List (List ℕ)) (slots : List Slot) (plan : Plan) (costs : List Cost) (ram : Ram) → length (table_rows p words slots plan costs ram) ≡ length slots + 2
all_rows p words slots plan costs ram =
    omega (arith, rows_count p words plan 0 slots, length-append (slot_rows p words plan 0 slots) (total_row ram (totals_of plan costs slots) ∷ []))

pub shared_word : (p : Program) (a b c : Vals) → AreInts a (pos 0 ∷ pos 1 ∷ []) → AreInts b (pos 0 ∷ pos 1 ∷ pos 2 ∷ []) → AreInts c zero_to_nine →
    table_text p (codes "w__1" ∷ []) (three_scalars a b c) in_one_word three_costs (ram 3 1)
    ≡ codes "slot,class,values,bits,coding,word,reason\na,lone,0 1,1,direct,w__1:6,\nb,lone,0 1 2,2,direct,w__1:4,\nc,lone,0 1 2 3 4 5 6 7 8 9,4,direct,w__1:0,\ntotal,3,1,0,64,48,3\n"
unfolding digits header total_row line_of standing_of fields_text is_blank
shared_word p a b c e f g =
    table_is p (codes "w__1" ∷ []) (three_scalars a b c) (few (pos 0 ∷ pos 1 ∷ []) 1 1 ∷ few (pos 0 ∷ pos 1 ∷ pos 2 ∷ []) 2 1 ∷ few zero_to_nine 4 1 ∷ []) in_one_word three_costs (ram 3 1) (
      are_few p (codes "a") Lone a (pos 0 ∷ pos 1 ∷ []) 1 1 1 None e,
      (are_few p (codes "b") Lone b (pos 0 ∷ pos 1 ∷ pos 2 ∷ []) 2 1 1 None f, (are_few p (codes "c") Lone c zero_to_nine 4 1 1 None g, tt)),
    )

pub of_all_sorts : (p : Program) (a k b d v : Vals) (r : Range) → AreInts a (pos 0 ∷ pos 1 ∷ pos 2 ∷ []) → AreInts k (negsuc 6 ∷ []) → AreInts b zero_to_nine → AreInts d (pos 0 ∷ pos 1 ∷ []) → r.signed ≡ false → r.bits ≡ 8 →
    table_text p [] (six_slots a k b d v r) array_and_const six_costs (ram 17 8)
    ≡ codes "slot,class,values,bits,coding,word,reason\na,lone,0 1 2,2,direct,a/2,\nk,lone,-7,0,const,,\nb,lone,0 1 2 3 4 5 6 7 8 9,4,,,budget\nd,written,0 1,1,,,dissolved\nv,written,,,,,volatile\ns.m,lone,0..255,8,,,wide\ntotal,17,8,0,14,10,2\n"
unfolding digits header total_row line_of standing_of fields_text is_blank
of_all_sorts p a k b d v r e f g h i j =
    let volatile : Slot = slot (codes "v") Written (Ints v) 8 1 1 (Some reason.Volatile) in
    let wide : Slot = slot (codes "s.m") Lone (Ints (Many r)) 8 2 1 (Some reason.Wide) in
    table_is p [] (six_slots a k b d v r)
    (few (pos 0 ∷ pos 1 ∷ pos 2 ∷ []) 2 1 ∷ few (negsuc 6 ∷ []) 0 2 ∷ few zero_to_nine 4 1 ∷ few (pos 0 ∷ pos 1 ∷ []) 1 1
    ∷ as_it_is p volatile ∷ range false 8 wide ∷ [])
    array_and_const six_costs (ram 17 8) (
      are_few p (codes "a") Lone a (pos 0 ∷ pos 1 ∷ pos 2 ∷ []) 2 10 1 None e,
      (
        are_few p (codes "k") Lone k (negsuc 6 ∷ []) 0 1 2 None f,
        (
          are_few p (codes "b") Lone b zero_to_nine 4 1 1 None g,
          (
            are_few p (codes "d") Written d (pos 0 ∷ pos 1 ∷ []) 1 1 1 None h,
            (
              is_as_it_is p volatile,
              (is_range p (codes "s.m") Lone r false 8 8 2 1 (Some reason.Wide) i j, tt),
            ),
          ),
        ),
      ),
    )

name_is : (p : Program) (n : ℕ) (f : Func) (name : List ℕ) → slice_get p.funcs n ≡ Some f → f.name ≡ name → func_name p n ≡ name
name_is p n f name e h = ap (λ (o : Option Func). option_map_or (λ (f : Func). f.name) o []) e ∙ h

-- the table of one pointer, with the names of the second and the first function
abbrev pointer_text : Set → List ℕ → List ℕ → List ℕ
pointer_text s g f =
    table_by (codes "w__1" ∷ []) (one_pointer s) (told (spaced (codes "0" ∷ f ∷ g ∷ [])) coding.Table 6 ∷ []) pointer_in_word one_cost (ram 2 1)

pub by_table : (p : Program) (s : Set) (f g : Func) → s.is_exact ≡ true → s.members ≡ address.Null ∷ address.Func 0 ∷ address.Func 1 ∷ [] →
    slice_get p.funcs 0 ≡ Some f → slice_get p.funcs 1 ≡ Some g → f.name ≡ codes "f" → g.name ≡ codes "g" →
    table_text p (codes "w__1" ∷ []) (one_pointer s) pointer_in_word one_cost (ram 2 1)
    ≡ codes "slot,class,values,bits,coding,word,reason\ntask,lone,0 f g,2,table,w__1:0,\ntotal,2,1,6,58,37,1\n"
unfolding digits header total_row line_of standing_of address_text fields_text is_blank
by_table p s f g x m e h i j =
    let members : List Address = address.Null ∷ address.Func 0 ∷ address.Func 1 ∷ [] in
    table_is p (codes "w__1" ∷ []) (one_pointer s) (addresses p members 2 2 ∷ []) pointer_in_word one_cost (ram 2 1) (are_addresses p (codes "task") Lone s members 2 1 2 None x m, tt)
    ∙ ap (pointer_text s (func_name p 1)) (name_is p 0 f (codes "f") e i)
    ∙ ap (λ (t : List ℕ). pointer_text s t (codes "f")) (name_is p 1 g (codes "g") h j)
