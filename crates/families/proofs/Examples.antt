-- The small families, computed: first the trees, then their groups.
use Rattle.std.proofs.Common.{◌≡◌, [], ◌∷◌, sym, refl, ap, ◌∙◌}
use Rattle.families.specs.Groups.{weight, total}
use Rattle.families.specs.Trees.{alone, Tree, none, always, node, groups}
use Rattle.families.specs.Questions.{either, sight, turn}
use Rattle.families.specs.Scripts.{script}
use Rattle.families.specs.Outcomes.{after, run, opened, solve, outcome, answer}
use Rattle.families.specs.Replacing.{replaced}
use Rattle.families.specs.Worked.{all, majority, grid, Worked}

-- any two of 1, 2 and 3; two of 1 to 4; three of 1 to 4; 1-2, 1-4-5 and 2-4-5
abbrev two_of_three : Tree
two_of_three = node 1 (node 2 none (alone 3)) (node 2 (alone 3) always)

abbrev two_of_four : Tree
two_of_four = node 1 (node 2 (node 3 none (alone 4)) (node 3 (alone 4) always)) (node 2 (node 3 (alone 4) always) always)

abbrev three_of_four : Tree
three_of_four = node 1 (node 2 none (node 3 none (alone 4))) (node 2 (node 3 none (alone 4)) (node 3 (alone 4) always))

abbrev joined : Tree
joined = node 1 (node 2 none (node 4 none (alone 5))) (node 2 (node 4 none (alone 5)) always)

majority_is : majority ≡ two_of_three
unfolding sight script after run opened solve outcome
majority_is = refl

majority_turn : answer (turn two_of_three) ≡ two_of_three
unfolding sight script after run opened solve outcome
majority_turn = refl

pair_turn : answer (turn (all (alone 1) (alone 2))) ≡ node 1 (alone 2) always
unfolding sight script after run opened solve outcome
pair_turn = refl

grid_is : grid ≡ three_of_four
unfolding sight script after run opened solve outcome
grid_is = refl

grid_turn : answer (turn three_of_four) ≡ two_of_four
unfolding sight script after run opened solve outcome
grid_turn = refl

majority_replaced : replaced two_of_three 3 (all (alone 4) (alone 5)) ≡ joined
unfolding sight script after run opened solve outcome
majority_replaced = refl

either_workings : outcome (either (alone 1) (alone 2)) ≡ record { answer = node 1 (alone 2) always; built = node 1 (alone 2) always ∷ []; asked = either (alone 1) (alone 2) ∷ []; steps = 4 }
unfolding sight script after run opened solve outcome
either_workings = refl

pub worked_out : Worked
unfolding weight total
worked_out = record {
  majority_groups = ap groups majority_is;
  majority_turn = ap (λ t. answer (turn t)) majority_is ∙ majority_turn ∙ sym majority_is;
  pair_turn = ap groups pair_turn;
  grid_groups = ap groups grid_is;
  grid_turn = ap groups (ap (λ t. answer (turn t)) grid_is ∙ grid_turn);
  majority_replaced = ap groups (ap (λ t. replaced t 3 (all (alone 4) (alone 5))) majority_is ∙ majority_replaced);
  either_workings = either_workings;
}
