-- The tokens of a rule as a function: each rule has one spelling.
use Rattle.std.proofs.Common.{◌≡◌, List, [], ◌∷◌, ◌++◌, sym, refl, ap, ◌∙◌, ap₂, append_assoc, append-nil}
use Rattle.rules.specs.declared.tokens.Kind.{Kind}
use Rattle.rules.specs.declared.tokens.Kind.TheVariants.{Number, Open, Close}
use Rattle.rules.specs.Rules.{Rule, Items, none, item, member, list}
use Rattle.rules.specs.Reading.{items_of}
use Rattle.rules.specs.Spelling.{heading, Spells, spells_member, spells_list, SpellsItems, spells_none, spells_item}

abbrev mutual
  pub spelling : Rule → List Kind
  spelling (member v) = Number v ∷ []
  spelling (list h is) = heading h ++ (Open ∷ (spelling_items is ++ (Close ∷ [])))

  pub spelling_items : Items → List Kind
  spelling_items none = []
  spelling_items (item r is) = spelling r ++ spelling_items is

mutual
  pub spells_spelling : (r : Rule) → Spells r (spelling r)
  spells_spelling (member v) = spells_member
  spells_spelling (list h is) = spells_list (spells_spelling_items is)

  pub spells_spelling_items : (is : Items) → SpellsItems is (spelling_items is)
  spells_spelling_items none = spells_none
  spells_spelling_items (item r is) = spells_item (spells_spelling r) (spells_spelling_items is)

mutual
  pub spelling_unique : {r : Rule} {ks : List Kind} → Spells r ks → ks ≡ spelling r
  spelling_unique spells_member = refl
  spelling_unique (spells_list {h = h} s) = ap (λ ks. heading h ++ (Open ∷ (ks ++ (Close ∷ [])))) (spelling_items_unique s)

  pub spelling_items_unique : {is : Items} {ks : List Kind} → SpellsItems is ks → ks ≡ spelling_items is
  spelling_items_unique spells_none = refl
  spelling_items_unique (spells_item s t) = ap₂ (λ js ks. js ++ ks) (spelling_unique s) (spelling_items_unique t)

-- one item more at the end
pub spelling_push : (rs : List Rule) (r : Rule) → spelling_items (items_of (rs ++ (r ∷ []))) ≡ spelling_items (items_of rs) ++ spelling r
spelling_push [] r = append-nil (spelling r)
spelling_push (q ∷ rs) r = ap (λ ks. spelling q ++ ks) (spelling_push rs r) ∙ sym (append_assoc (spelling q) (spelling_items (items_of rs)) (spelling r))
