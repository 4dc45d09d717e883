-- In one memory, one question on diagrams asks each question of trees.
use Rattle.std.proofs.Common.{◌≡◌, ℕ, ◌+◌, List, length, sym, refl, ap, ◌∙◌, arith}
use Rattle.std.proofs.lemmas.Bool.{and_from, eq-eqb}
use Rattle.memos.specs.declared.diagram.Diagram.{Diagram}
use Rattle.memos.specs.declared.question.Question.{Question}
use Rattle.memos.specs.declared.question.Question.TheVariants.{Either, Both, Less, Turn, Off, On}
use Rattle.memos.specs.Diagrams.{seen}
use Rattle.memos.specs.Questions.{words}
use Rattle.memos.proofs.Questions.{same_exact}
use Rattle.families.specs.Trees.{Tree, none}
use Rattle.families.specs.Questions.{Ask, either, both, less, turn, off, on}
use Rattle.diagrams.specs.declared.nodes.NodeMemory.{NodeMemory}
use Rattle.diagrams.specs.NodeKeys.{Below, tree_at}
use Rattle.diagrams.specs.Asking.{Asks, OperandsHeld, ask_at}
use Rattle.diagrams.specs.Memory.{trees}
use Rattle.diagrams.proofs.Memories.{denotes_once}

-- a question of trees by its kind, its operands and its member
abbrev pub kind : Ask → ℕ
kind (either f g) = 0
kind (both f g) = 1
kind (less f g) = 2
kind (turn f) = 3
kind (off f u) = 4
kind (on f u) = 5

abbrev pub left : Ask → Tree
left (either f g) = f
left (both f g) = f
left (less f g) = f
left (turn f) = f
left (off f u) = f
left (on f u) = f

abbrev pub right : Ask → Tree
right (either f g) = g
right (both f g) = g
right (less f g) = g
right (turn f) = none
right (off f u) = none
right (on f u) = none

abbrev pub member : Ask → ℕ
member (either f g) = 0
member (both f g) = 0
member (less f g) = 0
member (turn f) = 0
member (off f u) = u
member (on f u) = u

abbrev empty : Diagram
empty = record { code = 0 }

-- the same of a question on diagrams
record Spelt (ts : List Tree) (question : Question) : Type 0 where
  first : Diagram
  second : Diagram
  number : ℕ
  first_held : Below (length ts) (seen first)
  second_held : Below (length ts) (seen second)
  kind_is : kind (ask_at ts question) ≡ (words question).kind
  left_is : tree_at ts first ≡ left (ask_at ts question)
  right_is : tree_at ts second ≡ right (ask_at ts question)
  member_is : member (ask_at ts question) ≡ number
  left_word : (words question).left ≡ first.code
  right_word : (words question).right ≡ second.code + number

spelt : (ts : List Tree) (question : Question) → OperandsHeld ts question → Spelt ts question
spelt ts (Either f g) h = record { first = f; second = g; number = 0; first_held = h.0; second_held = h.1; kind_is = refl; left_is = refl; right_is = refl; member_is = refl; left_word = refl; right_word = omega arith }
spelt ts (Both f g) h = record { first = f; second = g; number = 0; first_held = h.0; second_held = h.1; kind_is = refl; left_is = refl; right_is = refl; member_is = refl; left_word = refl; right_word = omega arith }
spelt ts (Less f g) h = record { first = f; second = g; number = 0; first_held = h.0; second_held = h.1; kind_is = refl; left_is = refl; right_is = refl; member_is = refl; left_word = refl; right_word = omega arith }
spelt ts (Turn f) h = record { first = f; second = empty; number = 0; first_held = h; second_held = tt; kind_is = refl; left_is = refl; right_is = refl; member_is = refl; left_word = refl; right_word = omega arith }
spelt ts (Off f u) h = record { first = f; second = empty; number = u; first_held = h; second_held = tt; kind_is = refl; left_is = refl; right_is = refl; member_is = refl; left_word = refl; right_word = omega arith }
spelt ts (On f u) h = record { first = f; second = empty; number = u; first_held = h; second_held = tt; kind_is = refl; left_is = refl; right_is = refl; member_is = refl; left_word = refl; right_word = omega arith }

pub asks_same : (m : NodeMemory) (p q : Question) (a : Ask) → Asks (trees m) p a → Asks (trees m) q a → p ≡ q
asks_same m p q a x y =
    let ts = trees m in
    let s = spelt ts p x.held in
    let t = spelt ts q y.held in
    let e : ask_at ts p ≡ ask_at ts q = x.is ∙ sym y.is in
    let f : s.first ≡ t.first = denotes_once m s.first t.first (left (ask_at ts q)) (record { within = s.first_held; is = s.left_is ∙ ap left e }) (record { within = t.first_held; is = t.left_is }) in
    let g : s.second ≡ t.second = denotes_once m s.second t.second (right (ask_at ts q)) (record { within = s.second_held; is = s.right_is ∙ ap right e }) (record { within = t.second_held; is = t.right_is }) in
    let k : (words p).kind ≡ (words q).kind = sym s.kind_is ∙ ap kind e ∙ t.kind_is in
    let l : (words p).left ≡ (words q).left = s.left_word ∙ ap (λ (d : Diagram). d.code) f ∙ sym t.left_word in
    let n : s.number ≡ t.number = sym s.member_is ∙ ap member e ∙ t.member_is in
    let c : s.second.code ≡ t.second.code = ap (λ (d : Diagram). d.code) g in
    let r : (words p).right ≡ (words q).right = s.right_word ∙ ap (λ z. z + s.number) c ∙ ap (λ z. t.second.code + z) n ∙ sym t.right_word in
    (same_exact p q).0 (and_from _ _ (eq-eqb _ _ k) (and_from _ _ (eq-eqb _ _ l) (eq-eqb _ _ r)))
