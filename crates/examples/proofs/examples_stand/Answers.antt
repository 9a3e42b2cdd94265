use Rattle.std.proofs.Common.{refl}
use Rattle.groups.specs.Groups.{every, subset, disjoint}
use Rattle.examples.proofs.examples_stand.Goals as goal

pub returns : goal.returns
unfolding every subset disjoint
returns c = record {
  refused = c.may_search.ensures;
  worked = record {
    two_owners_clauses = refl;
    two_owners_lines = refl;
    two_owners_others = refl;
    two_groups_clauses = refl;
    two_groups_lines = refl;
    two_groups_others = refl;
    one_user_clauses = refl;
    one_user_lines = refl;
    one_user_others = refl;
    nobody_clauses = refl;
    nobody_lines = refl;
    nobody_others = refl;
    shut_out_clauses = refl;
    shut_out_lines = refl;
    shut_out_others = refl;
    owner_refused = refl;
  };
}
