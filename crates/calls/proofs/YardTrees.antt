-- The worked yards as trees: each text is read as a term, and the term's family worked out; then what verdicts rest on.
use Rattle.std.proofs.Common.{◌≡◌, ℕ, codes, refl, ◌∙◌}
use Rattle.interning.specs.Distinct.{among, distinct}
use Rattle.rules.specs.Terms.{Term, member, both, either}
use Rattle.families.specs.Trees.{Tree, none, always, node, alone}
use Rattle.families.specs.Questions.{sight}
use Rattle.families.specs.Scripts.{script}
use Rattle.families.specs.Outcomes.{after, run, opened, solve, outcome}
use Rattle.families.specs.Replacing.{replaced}
use Rattle.calls.specs.Works.{family, turned, witnesses}
use Rattle.calls.specs.Sheets.{verdict_number}
use Rattle.calls.specs.Yards.{yard}

-- 1-2; 1 and 2; any two of 1 to 3; two of 1 to 4; three of 1 to 4; 1-2, 1-4-5 and 2-4-5
abbrev pub pair : ℕ → ℕ → Tree
pair v w = node v none (alone w)

abbrev pub one_or_two : Tree
one_or_two = node 1 (alone 2) always

abbrev pub two_of_three : Tree
two_of_three = node 1 (pair 2 3) (node 2 (alone 3) always)

abbrev pub two_of_four : Tree
two_of_four = node 1 (node 2 (pair 3 4) (node 3 (alone 4) always)) (node 2 (node 3 (alone 4) always) always)

abbrev pub three_of_four : Tree
three_of_four = node 1 (node 2 none (pair 3 4)) (node 2 (pair 3 4) (node 3 (alone 4) always))

abbrev pub replaced_by_pair : Tree
replaced_by_pair = node 1 (node 2 none (pair 4 5)) (node 2 (pair 4 5) always)

abbrev majority_term : Term
majority_term = either (both (member 1) (either (member 2) (member 3))) (both (member 2) (member 3))

abbrev twice_one_term : Term
twice_one_term = either (both (member 1) (either (member 1) (member 2))) (both (member 1) (member 2))

abbrev absorbed_term : Term
absorbed_term = either (member 1) (both (member 1) (member 2))

abbrev grid_term : Term
grid_term = both (either (both (member 1) (member 2)) (both (member 3) (member 4))) (both (either (member 1) (member 2)) (either (member 3) (member 4)))

-- the texts as terms
majority_read : yard (codes "least 2 (1 2 3)") ≡ family majority_term
unfolding among distinct
majority_read = refl

twice_one_read : yard (codes "least 2 (1 1 2)") ≡ family twice_one_term
unfolding among distinct
twice_one_read = refl

absorbed_read : yard (codes "any(1 all(1 2))") ≡ family absorbed_term
unfolding among distinct
absorbed_read = refl

clash_read : yard (codes "any(1 2)") ≡ family (either (member 1) (member 2))
unfolding among distinct
clash_read = refl

dominated_read : yard (codes "all(1 2)") ≡ family (both (member 1) (member 2))
unfolding among distinct
dominated_read = refl

grid_read : yard (codes "grid 2 (1 2 3 4)") ≡ family grid_term
unfolding among distinct
grid_read = refl

pair_read : yard (codes "all(4 5)") ≡ family (both (member 4) (member 5))
unfolding among distinct
pair_read = refl

-- their families
majority_made : family majority_term ≡ two_of_three
unfolding sight script after run opened solve outcome
majority_made = refl

twice_one_made : family twice_one_term ≡ alone 1
unfolding sight script after run opened solve outcome
twice_one_made = refl

absorbed_made : family absorbed_term ≡ alone 1
unfolding sight script after run opened solve outcome
absorbed_made = refl

clash_made : family (either (member 1) (member 2)) ≡ one_or_two
unfolding sight script after run opened solve outcome
clash_made = refl

dominated_made : family (both (member 1) (member 2)) ≡ pair 1 2
unfolding sight script after run opened solve outcome
dominated_made = refl

grid_made : family grid_term ≡ three_of_four
unfolding sight script after run opened solve outcome
grid_made = refl

pair_made : family (both (member 4) (member 5)) ≡ pair 4 5
unfolding sight script after run opened solve outcome
pair_made = refl

-- so the texts as trees
pub one_tree : yard (codes "1") ≡ alone 1
unfolding among distinct
one_tree = refl

pub majority_tree : yard (codes "least 2 (1 2 3)") ≡ two_of_three
majority_tree = majority_read ∙ majority_made

pub twice_one_tree : yard (codes "least 2 (1 1 2)") ≡ alone 1
twice_one_tree = twice_one_read ∙ twice_one_made

pub absorbed_tree : yard (codes "any(1 all(1 2))") ≡ alone 1
absorbed_tree = absorbed_read ∙ absorbed_made

pub clash_tree : yard (codes "any(1 2)") ≡ one_or_two
clash_tree = clash_read ∙ clash_made

pub dominated_tree : yard (codes "all(1 2)") ≡ pair 1 2
dominated_tree = dominated_read ∙ dominated_made

pub grid_tree : yard (codes "grid 2 (1 2 3 4)") ≡ three_of_four
grid_tree = grid_read ∙ grid_made

pub pair_tree : yard (codes "all(4 5)") ≡ pair 4 5
pair_tree = pair_read ∙ pair_made

-- stopping groups
pub one_turned : turned (alone 1) ≡ alone 1
unfolding sight script after run opened solve outcome
one_turned = refl

pub majority_turned : turned two_of_three ≡ two_of_three
unfolding sight script after run opened solve outcome
majority_turned = refl

pub clash_turned : turned one_or_two ≡ pair 1 2
unfolding sight script after run opened solve outcome
clash_turned = refl

pub dominated_turned : turned (pair 1 2) ≡ one_or_two
unfolding sight script after run opened solve outcome
dominated_turned = refl

pub grid_turned : turned three_of_four ≡ two_of_four
unfolding sight script after run opened solve outcome
grid_turned = refl

-- verdicts
pub one_judged : verdict_number (alone 1) ≡ 1
unfolding sight script after run opened solve outcome
one_judged = refl

pub majority_judged : verdict_number two_of_three ≡ 1
unfolding sight script after run opened solve outcome
majority_judged = refl

pub clash_judged : verdict_number one_or_two ≡ 3
unfolding sight script after run opened solve outcome
clash_judged = refl

pub dominated_judged : verdict_number (pair 1 2) ≡ 2
unfolding sight script after run opened solve outcome
dominated_judged = refl

pub grid_judged : verdict_number three_of_four ≡ 2
unfolding sight script after run opened solve outcome
grid_judged = refl

pub dominated_witnesses : witnesses (pair 1 2) ≡ one_or_two
unfolding sight script after run opened solve outcome
dominated_witnesses = refl

pub grid_witnesses : witnesses three_of_four ≡ two_of_four
unfolding sight script after run opened solve outcome
grid_witnesses = refl

pub majority_replaced : replaced two_of_three 3 (pair 4 5) ≡ replaced_by_pair
unfolding sight script after run opened solve outcome
majority_replaced = refl
