-- A member that comes before the next one leaves the rest to be looked at.
use Rattle.std.proofs.Common.{◌≡◌, ◌∙◌, ◌≤◌, ◌-◌, List, [], ◌∷◌, length, get_or, take, drop, take_all, sym, ap, true, arith}
use Rattle.cc_program.specs.declared.value.Address.{Address}
use Rattle.cc_places.specs.Order.{is_before_first, ascends}
use Rattle.cc_places.specs.laws.ListLaws.{ascends_goes_on}
use Rattle.cc_places.proofs.listed.ascend.Goals as goal

heads : (left : List Address) (m : Address) → 1 ≤ length left → m ≡ get_or left 0 m → left ≡ m ∷ take (length left - 1) (drop 1 left)
heads [] m h e = absurd (omega (arith, h))
heads (a ∷ rest) m h e = ap (λ b. b ∷ rest) (sym e) ∙ ap (λ bs. m ∷ bs) (sym (take_all (length (a ∷ rest) - 1) rest (omega arith)))

goes_on : (all left behind : List Address) (m : Address) → left ≡ m ∷ behind → is_before_first m behind ≡ true → ascends all ≡ ascends left → ascends all ≡ ascends behind
goes_on all left behind m e h k = k ∙ ap ascends e ∙ ascends_goes_on m behind h

pub loop-left-preserved : goal.loop-left-preserved
loop-left-preserved c =
    goes_on c.args.members.now c.loop-left.left.now _ c.member-item.result
    (heads c.loop-left.left.now c.member-item.result c.in-len1-up.len_at_least c.member-item.is)
    (sym c.is_before_first.ensures ∙ c.if-not-is_before_first.false)
    c.loop-left.invariant
