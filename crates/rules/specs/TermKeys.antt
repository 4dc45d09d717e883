-- Terms over the places of other terms: the hash of such keys, and what they stand for.
use Rattle.std.specs.Prelude.{ℕ, ◌<◌, List, slice_index_or}
use Rattle.rules.specs.Terms.{Term, member, both, either, blank}
use Rattle.interning.specs.Hash.{mixed, finished}
use Rattle.rules.specs.declared.terms.TermKey.{TermKey}
use Rattle.rules.specs.declared.terms.TermKey.TheVariants.{Member, Both, Either}

-- the hash of a key
abbrev pub term_mark : TermKey → ℕ
term_mark (Member v) = finished (mixed 0 v)
term_mark (Both a b) = finished (mixed (mixed 1 a) b)
term_mark (Either a b) = finished (mixed (mixed 2 a) b)

-- the places that a key names are below a bound
abbrev pub NamesBelow : ℕ → TermKey → Type 0
NamesBelow n (Member v) = Unit {0}
NamesBelow n (Both a b) = (a < n) × (b < n)
NamesBelow n (Either a b) = (a < n) × (b < n)

-- the term that a key stands for, over the terms of the places before it
abbrev pub tree : List Term → TermKey → Term
tree ts (Member v) = member v
tree ts (Both a b) = both (slice_index_or ts a blank) (slice_index_or ts b blank)
tree ts (Either a b) = either (slice_index_or ts a blank) (slice_index_or ts b blank)
