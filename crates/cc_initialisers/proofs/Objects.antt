-- What a structure consists of, where structures may nest so deep in it.
use Rattle.std.proofs.Common.{arith, ◌≡◌, ◌<◌, ◌≤◌, ◌-◌, ℕ, zero, suc, Bool, List, refl, map, slice_get}
use Rattle.cc_initialisers.specs.Contents.{NoMember, contents_over, structure_inside, of_members, members_at}
use Rattle.cc_program.specs.declared.types.Structure.{Structure}

pub structure-opens : (structures : List Structure) (depth i : ℕ) (constant : Bool) → 0 < depth →
    structure_inside structures depth i constant ≡ of_members (map (λ m. contents_over (structure_inside structures (depth - 1)) m.1) (members_at (slice_get structures i))) constant
structure-opens structures zero i constant h = absurd (omega arith)
structure-opens structures (suc depth) i constant h = let e : suc depth - 1 ≡ depth = omega arith in rw e refl

pub structure-ends : (structures : List Structure) (depth i : ℕ) (constant : Bool) → depth ≤ 0 → structure_inside structures depth i constant ≡ NoMember
structure-ends structures zero i constant h = refl
structure-ends structures (suc depth) i constant h = absurd (omega arith)

pub ruleset of_objects = (structure-opens, structure-ends)
