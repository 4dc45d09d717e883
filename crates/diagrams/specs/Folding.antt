-- Values of trees that a node has from those of its two parts, told of the places of a node memory.
use Rattle.std.specs.Prelude.{◌≡◌, ℕ, ◌<◌, ◌≤◌, List, length, Ok, Err, Result, slice_index_or}
use Rattle.memos.specs.declared.diagram.View.{View}
use Rattle.memos.specs.declared.diagram.View.TheVariants.{None as Never, Always, Node as Place}
use Rattle.families.specs.Good.{Good}
use Rattle.families.specs.Trees.{Tree, none, always, node}
use Rattle.diagrams.specs.declared.nodes.TooFewCells.{TooFewCells}

-- low and high are the values of the two parts of a family's tree at the member v
abbrev pub HasParts : {A : Type 0} → (Tree → A) → ℕ → A → A → Type 0
HasParts f v low high = (l : Tree) × (h : Tree) × Good 1 (node v l h) × (low ≡ f l) × (high ≡ f h)

-- the value of a name, where the places have the values xs
abbrev pub value_at : {A : Type 0} → (Tree → A) → List A → View → A
value_at f xs Never = f none
value_at f xs Always = f always
value_at f xs (Place p) = slice_index_or xs p (f none)

-- each of the first n places has the value of its tree
abbrev pub Folded : {A : Type 0} → (Tree → A) → List Tree → ℕ → List A → Type 0
Folded f ts n xs = (p : ℕ) → p < n → slice_index_or xs p (f none) ≡ f (slice_index_or ts p none)

-- all places have, refused where there are fewer cells than places
abbrev pub FoldedOut : {A : Type 0} → (Tree → A) → ℕ → List Tree → List A → Result (Unit {0}) TooFewCells → Type 0
FoldedOut f cells ts xs (Ok u) = (length ts ≤ cells) × Folded f ts (length ts) xs
FoldedOut f cells ts xs (Err e) = cells < length ts
