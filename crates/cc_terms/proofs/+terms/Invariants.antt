use Rattle.std.proofs.Common.{◌≡◌, ◌+◌, ◌*◌, map, max}
use Rattle.cc_typed_terms.specs.CcOperands.View.{operand_view}
use Rattle.cc_scopes.specs.View.{state_of}
use Rattle.cc_tree.specs.declared.tree.Tree.{size-Tree}
use Rattle.cc_tree.specs.declared.tree.TypeName.{size-TypeName}
use Rattle.cc_terms.specs.Constants.{constants_found}
use Rattle.cc_terms.specs.Declarators.{parameters_found}
use Rattle.cc_terms.specs.Expressions.{argument_found, arguments_found}
use Rattle.cc_terms.specs.Members.{member_found, declared_members}
use Rattle.cc_terms.specs.Specifiers.{specifier_found, specifiers_found}
use Rattle.cc_terms.specs.Structures.{members_found}
use Rattle.cc_terms.specs.Terms.{here, declr_here, spec_here, param_here, members_here, enumr_here}
use Rattle.cc_terms.proofs.InTurn.{left}
use Rattle.cc_terms.proofs.+terms.Given as goal

-- ---- what each goes over is smaller, or as large and the function stands behind in the order of the calls

abbrev pub decreases-trees::tree : goal.decreases-trees::tree
decreases-trees::tree l = 7 * goal.size-trees::tree l

abbrev pub decreases-trees::operand : goal.decreases-trees::operand
decreases-trees::operand l = 7 * goal.size-trees::operand l + 1

abbrev pub decreases-trees::boxed_operand : goal.decreases-trees::boxed_operand
decreases-trees::boxed_operand l = 7 * goal.size-trees::boxed_operand l + 1

abbrev pub decreases-trees::designator : goal.decreases-trees::designator
decreases-trees::designator l = 7 * goal.size-trees::designator l + 1

abbrev pub decreases-operators::comma : goal.decreases-operators::comma
decreases-operators::comma l = 7 * max (size-Tree l.a.now.node) (size-Tree l.b.now.node) + 2

abbrev pub decreases-operators::assignment : goal.decreases-operators::assignment
decreases-operators::assignment l = 7 * max (size-Tree l.a.now.node) (size-Tree l.b.now.node) + 2

abbrev pub decreases-operators::choice : goal.decreases-operators::choice
decreases-operators::choice l = 7 * max (size-Tree l.c.now.node) (max (size-Tree l.a.now.node) (size-Tree l.b.now.node)) + 2

abbrev pub decreases-operators::binary : goal.decreases-operators::binary
decreases-operators::binary l = 7 * max (size-Tree l.a.now.node) (size-Tree l.b.now.node) + 2

abbrev pub decreases-operators::prefix : goal.decreases-operators::prefix
decreases-operators::prefix l = 7 * goal.size-operators::prefix l + 1

abbrev pub decreases-operators::step_behind : goal.decreases-operators::step_behind
decreases-operators::step_behind l = 7 * goal.size-operators::step_behind l + 2

abbrev pub decreases-operators::size_of : goal.decreases-operators::size_of
decreases-operators::size_of l = 7 * goal.size-operators::size_of l + 2

abbrev pub decreases-operators::size_of_type : goal.decreases-operators::size_of_type
decreases-operators::size_of_type l = 7 * goal.size-operators::size_of_type l + 5

abbrev pub decreases-operators::cast_to_named : goal.decreases-operators::cast_to_named
decreases-operators::cast_to_named l = 7 * max (size-TypeName l.t.now) (size-Tree l.e.now.node) + 5

abbrev pub decreases-postfix::subscript : goal.decreases-postfix::subscript
decreases-postfix::subscript l = 7 * max (size-Tree l.a.now.node) (size-Tree l.i.now.node) + 2

abbrev pub decreases-postfix::call : goal.decreases-postfix::call
decreases-postfix::call l = 7 * max (goal.size-postfix::call l) (size-Tree l.f.now.node) + 3

abbrev pub decreases-postfix::values : goal.decreases-postfix::values
decreases-postfix::values l = 7 * goal.size-postfix::values l + 2

abbrev pub decreases-postfix::member_of : goal.decreases-postfix::member_of
decreases-postfix::member_of l = 7 * goal.size-postfix::member_of l + 2

abbrev pub decreases-postfix::member_pointed_to : goal.decreases-postfix::member_pointed_to
decreases-postfix::member_pointed_to l = 7 * goal.size-postfix::member_pointed_to l + 2

abbrev pub decreases-declarators::declr : goal.decreases-declarators::declr
decreases-declarators::declr l = 7 * goal.size-declarators::declr l

abbrev pub decreases-declarators::bounded_array : goal.decreases-declarators::bounded_array
decreases-declarators::bounded_array l = 7 * goal.size-declarators::bounded_array l + 2

abbrev pub decreases-parameters::params : goal.decreases-parameters::params
decreases-parameters::params l = 7 * goal.size-parameters::params l

abbrev pub decreases-parameters::parameter_list : goal.decreases-parameters::parameter_list
decreases-parameters::parameter_list l = 7 * goal.size-parameters::parameter_list l + 5

abbrev pub decreases-parameters::param : goal.decreases-parameters::param
decreases-parameters::param l = 7 * goal.size-parameters::param l + 4

abbrev pub decreases-specifiers::specified : goal.decreases-specifiers::specified
decreases-specifiers::specified l = 7 * goal.size-specifiers::specified l + 3

abbrev pub decreases-specifiers::specifiers : goal.decreases-specifiers::specifiers
decreases-specifiers::specifiers l = 7 * goal.size-specifiers::specifiers l + 2

abbrev pub decreases-specifiers::specifier : goal.decreases-specifiers::specifier
decreases-specifiers::specifier l = 7 * goal.size-specifiers::specifier l + 1

abbrev pub decreases-specifiers::spec : goal.decreases-specifiers::spec
decreases-specifiers::spec l = 7 * goal.size-specifiers::spec l

abbrev pub decreases-structures::structure : goal.decreases-structures::structure
decreases-structures::structure l = 7 * goal.size-structures::structure l + 6

abbrev pub decreases-structures::member_list : goal.decreases-structures::member_list
decreases-structures::member_list l = 7 * goal.size-structures::member_list l + 5

abbrev pub decreases-members::member_decl : goal.decreases-members::member_decl
decreases-members::member_decl l = 7 * goal.size-members::member_decl l + 4

abbrev pub decreases-members::declared_members : goal.decreases-members::declared_members
decreases-members::declared_members l = 7 * goal.size-members::declared_members l + 2

abbrev pub decreases-members::member : goal.decreases-members::member
decreases-members::member l = 7 * goal.size-members::member l + 1

abbrev pub decreases-constants::enumeration : goal.decreases-constants::enumeration
decreases-constants::enumeration l = 7 * goal.size-constants::enumeration l + 4

abbrev pub decreases-constants::constant_list : goal.decreases-constants::constant_list
decreases-constants::constant_list l = 7 * goal.size-constants::constant_list l + 3

abbrev pub decreases-constants::enumerator : goal.decreases-constants::enumerator
decreases-constants::enumerator l = 7 * goal.size-constants::enumerator l + 2

abbrev pub decreases-type_names::type_name : goal.decreases-type_names::type_name
decreases-type_names::type_name l = 7 * goal.size-type_names::type_name l + 4

-- ---- loops over lists

abbrev pub invariant-postfix::values-loop-e : goal.invariant-postfix::values-loop-e
invariant-postfix::values-loop-e l = left argument_found (here l.target l.roles) l.e-items l.e-index (map operand_view l.values.items) (state_of l.state) ≡ arguments_found (map (here l.fn.target l.fn.roles) l.fn.es) (state_of l.fn.state)

abbrev pub invariant-parameters::parameter_list-loop-p : goal.invariant-parameters::parameter_list-loop-p
invariant-parameters::parameter_list-loop-p l = left (λ p before s. p.node l.unnamed before s) (param_here l.target l.roles) l.p-items l.p-index l.params (state_of l.state) ≡ parameters_found l.fn.unnamed (map (param_here l.fn.target l.fn.roles) l.fn.ps) (state_of l.fn.state)

abbrev pub invariant-specifiers::specifiers-loop-x : goal.invariant-specifiers::specifiers-loop-x
invariant-specifiers::specifiers-loop-x l = left (specifier_found l.setting) (spec_here l.target l.roles) l.x-items l.x-index l.specs (state_of l.state) ≡ specifiers_found l.fn.setting (map (spec_here l.fn.target l.fn.roles) l.fn.xs) (state_of l.fn.state)

abbrev pub invariant-structures::member_list-loop-d : goal.invariant-structures::member_list-loop-d
invariant-structures::member_list-loop-d l = left (λ d ms s. d.node ms s) (members_here l.target l.roles) l.d-items l.d-index l.members (state_of l.state) ≡ members_found (map (members_here l.fn.target l.fn.roles) l.fn.ds) (state_of l.fn.state)

abbrev pub invariant-members::declared_members-loop-d : goal.invariant-members::declared_members-loop-d
invariant-members::declared_members-loop-d l = left (member_found l.target l.base) (declr_here l.target l.roles) l.d-items l.d-index l.members (state_of l.state) ≡ declared_members l.fn.target l.fn.base (map (declr_here l.fn.target l.fn.roles) l.fn.ds) l.fn.members (state_of l.fn.state)

abbrev pub invariant-constants::constant_list-loop-c : goal.invariant-constants::constant_list-loop-c
invariant-constants::constant_list-loop-c l = left (λ c next s. c.node next c.at s) (enumr_here l.target l.roles) l.c-items l.c-index l.next (state_of l.state) ≡ constants_found (map (enumr_here l.fn.target l.fn.roles) l.fn.cs) (state_of l.fn.state)
