-- A text that is let in as a rule is read as that rule: from a list with room the tokens of a rule lead to the state that the rule has joined.
use Rattle.std.proofs.Common.{◌≡◌, ℕ, suc, ◌+◌, ◌<◌, ◌≤◌, true, false, cond, eqb, leb, List, [], ◌∷◌, ◌++◌, length, Ok, Err, sym, refl, ap, ◌∙◌, subst, append_assoc, append-nil, arith}
use Rattle.std.proofs.lemmas.List.{length_push}
use Rattle.std.proofs.lemmas.Bool.{cond-true, cond-false, ne_eqb, le-leb, lt-leb}
use Rattle.rules.specs.declared.faults.RuleFault.TheVariants.{Length, Token as Unfit, Depth, Range, Shape}
use Rattle.rules.specs.declared.tokens.Kind.{Kind}
use Rattle.rules.specs.declared.tokens.Kind.TheVariants.{Number, Word, Open, Close}
use Rattle.rules.specs.declared.words.Head.{Head}
use Rattle.rules.specs.declared.words.Word as words
use Rattle.rules.specs.Rules.{Rule, Items, none, item, member, list}
use Rattle.rules.specs.Tokens.{Lexeme, lexemes}
use Rattle.rules.specs.Reading.{Frame, Stage, State, wants_item, wants_figure, wants_bracket, finished, start, items_of, in_range, crowded, fits, joined, close, at_item, step, run, reading}
use Rattle.rules.specs.Spelling.{heading, Kinds, size, Figure, InOrder, AllInOrder}
use Rattle.rules.specs.Laws.{LetIn, ReadingSpells}
use Rattle.rules.proofs.Spelled.{spelling, spelling_items, spelling_unique}
use Rattle.rules.proofs.ReadingSpells.{let_in_from_reading}

abbrev at_stage : Stage → List Frame → State
at_stage st fs = record { stage = st; frames = fs }

-- from one state the first of the lexemes lead to another, and these kinds are left
abbrev Leads : ℕ → ℕ → State → List Lexeme → List Kind → State → Type 0
Leads n len s ls ks s' = (rest : List Lexeme) × Kinds rest ks × (run n len (Ok s) ls ≡ run n len (Ok s') rest)

leads_on : (n len : ℕ) (s s' s'' : State) (ls : List Lexeme) (js ks : List Kind) → Leads n len s ls js s' → ((rest : List Lexeme) → Kinds rest js → Leads n len s' rest ks s'') → Leads n len s ls ks s''
leads_on n len s s' s'' ls js ks a b = let c = b a.0 a.1 in (c.0, c.1, a.2 ∙ c.2)

-- one token
leads_one : (n len : ℕ) (st : Stage) (fs : List Frame) (s' : State) (ls : List Lexeme) (k : Kind) (ks : List Kind) → ((at : ℕ) → step n st fs at k ≡ Ok s') → Kinds ls (k ∷ ks) → Leads n len (at_stage st fs) ls ks s'
leads_one n len st fs s' [] k ks h t = absurd t
leads_one n len st fs s' (Err fault ∷ ls) k ks h t = absurd t
leads_one n len st fs s' (Ok l ∷ ls) k ks h t = (ls, t.1, ap (λ x. run n len x ls) (ap (step n st fs l.place) t.0 ∙ h l.place))

word_step : (fs : List Frame) (s : State) (at : ℕ) → crowded fs ≡ false → cond (crowded fs) (Err (Shape at)) (Ok s) ≡ Ok s
word_step fs s at c = cond-false (crowded fs) (Err (Shape at)) (Ok s) c

figure_step : (v : ℕ) (s : State) (at : ℕ) → in_range 64 v ≡ true → cond (in_range 64 v) (Ok s) (Err (Range at)) ≡ Ok s
figure_step v s at p = cond-true (in_range 64 v) (Ok s) (Err (Range at)) p

heading_reads : (n len : ℕ) (h : Head) (fs : List Frame) (ls : List Lexeme) (ks : List Kind) → Figure h → crowded fs ≡ false → Kinds ls (heading h ++ ks) → Leads n len (at_stage wants_item fs) ls ks (at_stage (wants_bracket h) fs)
heading_reads n len Head.All fs ls ks f c t = leads_one n len wants_item fs (at_stage (wants_bracket Head.All) fs) ls (Word words.Word.All) ks (λ at. word_step fs (at_stage (wants_bracket Head.All) fs) at c) t
heading_reads n len Head.Any fs ls ks f c t = leads_one n len wants_item fs (at_stage (wants_bracket Head.Any) fs) ls (Word words.Word.Any) ks (λ at. word_step fs (at_stage (wants_bracket Head.Any) fs) at c) t
heading_reads n len (Head.Least v) fs ls ks f c t =
    leads_on n len (at_stage wants_item fs) (at_stage (wants_figure words.Word.Least) fs) (at_stage (wants_bracket (Head.Least v)) fs) ls (Number v ∷ ks) ks
    (leads_one n len wants_item fs (at_stage (wants_figure words.Word.Least) fs) ls (Word words.Word.Least) (Number v ∷ ks) (λ at. word_step fs (at_stage (wants_figure words.Word.Least) fs) at c) t)
    (λ rest u. leads_one n len (wants_figure words.Word.Least) fs (at_stage (wants_bracket (Head.Least v)) fs) rest (Number v) ks (λ at. figure_step v (at_stage (wants_bracket (Head.Least v)) fs) at f) u)
heading_reads n len (Head.Grid v) fs ls ks f c t =
    leads_on n len (at_stage wants_item fs) (at_stage (wants_figure words.Word.Grid) fs) (at_stage (wants_bracket (Head.Grid v)) fs) ls (Number v ∷ ks) ks
    (leads_one n len wants_item fs (at_stage (wants_figure words.Word.Grid) fs) ls (Word words.Word.Grid) (Number v ∷ ks) (λ at. word_step fs (at_stage (wants_figure words.Word.Grid) fs) at c) t)
    (λ rest u. leads_one n len (wants_figure words.Word.Grid) fs (at_stage (wants_bracket (Head.Grid v)) fs) rest (Number v) ks (λ at. figure_step v (at_stage (wants_bracket (Head.Grid v)) fs) at f) u)

abbrev framed : Head → List Rule → List Frame → List Frame
framed h rs fs = record { head = h; items = rs } ∷ fs

abbrev rules_of : Items → List Rule
rules_of none = []
rules_of (item r is) = r ∷ rules_of is

items_of_rules_of : (is : Items) → items_of (rules_of is) ≡ is
items_of_rules_of none = refl
items_of_rules_of (item r is) = ap (item r) (items_of_rules_of is)

length_rules_of : (is : Items) → length (rules_of is) ≡ size is
length_rules_of none = refl
length_rules_of (item r is) = ap suc (length_rules_of is)

open_reads : (n len : ℕ) (h : Head) (fs : List Frame) (ls : List Lexeme) (ks : List Kind) → length fs < 16 → Kinds ls (Open ∷ ks) → Leads n len (at_stage (wants_bracket h) fs) ls ks (at_stage wants_item (framed h [] fs))
open_reads n len h fs ls ks l t = leads_one n len (wants_bracket h) fs (at_stage wants_item (framed h [] fs)) ls Open ks (λ at. cond-false (leb 16 (length fs)) (Err (Depth at)) (Ok (at_stage wants_item (framed h [] fs))) (lt-leb 16 (length fs) l)) t

close_step : (h : Head) (is : Items) (fs : List Frame) (at : ℕ) → 1 ≤ size is → fits h (size is) ≡ true → close at (framed h (rules_of is) fs) ≡ Ok (joined (list h is) fs)
close_step h is fs at l f =
    let m = length_rules_of is in
    cond-false (eqb (length (rules_of is)) 0) (Err (Unfit at)) (cond (fits h (length (rules_of is))) (Ok (joined (list h (items_of (rules_of is))) fs)) (Err (Shape at))) (ne_eqb (length (rules_of is)) 0 (omega arith))
    ∙ cond-true (fits h (length (rules_of is))) (Ok (joined (list h (items_of (rules_of is))) fs)) (Err (Shape at)) (ap (fits h) m ∙ f)
    ∙ ap (λ js. Ok (joined (list h js) fs)) (items_of_rules_of is)

close_reads : (n len : ℕ) (h : Head) (is : Items) (fs : List Frame) (ls : List Lexeme) (ks : List Kind) → 1 ≤ size is → fits h (size is) ≡ true → Kinds ls (Close ∷ ks) → Leads n len (at_stage wants_item (framed h (rules_of is) fs)) ls ks (joined (list h is) fs)
close_reads n len h is fs ls ks l f t = leads_one n len wants_item (framed h (rules_of is) fs) (joined (list h is) fs) ls Close ks (λ at. close_step h is fs at l f) t

member_step : (n v : ℕ) (fs : List Frame) (at : ℕ) → in_range n v ≡ true → crowded fs ≡ false → at_item n at (Number v) fs ≡ Ok (joined (member v) fs)
member_step n v fs at p c = cond-true (in_range n v) (cond (crowded fs) (Err (Shape at)) (Ok (joined (member v) fs))) (Err (Range at)) p ∙ cond-false (crowded fs) (Err (Shape at)) (Ok (joined (member v) fs)) c

-- the tokens of a list, followed by others
list_then : (heads inner more : List Kind) → (heads ++ (Open ∷ (inner ++ (Close ∷ [])))) ++ more ≡ heads ++ (Open ∷ (inner ++ (Close ∷ more)))
list_then heads inner more = simp append_assoc

-- one rule more in an open list, and then the others
items_on : (n len : ℕ) (is : Items) (h : Head) (rs : List Rule) (r : Rule) (fs : List Frame) (ls : List Lexeme) (ks : List Kind)
    → Leads n len (at_stage wants_item (framed h (rs ++ (r ∷ [])) fs)) ls ks (at_stage wants_item (framed h ((rs ++ (r ∷ [])) ++ rules_of is) fs))
    → Leads n len (at_stage wants_item (framed h (rs ++ (r ∷ [])) fs)) ls ks (at_stage wants_item (framed h (rs ++ (r ∷ rules_of is)) fs))
items_on n len is h rs r fs ls ks a = subst (λ qs. Leads n len (at_stage wants_item (framed h (rs ++ (r ∷ [])) fs)) ls ks (at_stage wants_item (framed h qs fs))) (append_assoc rs (r ∷ []) (rules_of is)) a

mutual
  rule_reads : (n len : ℕ) (r : Rule) (fs : List Frame) (ls : List Lexeme) (ks : List Kind) → InOrder n (length fs) r → crowded fs ≡ false → Kinds ls (spelling r ++ ks) → Leads n len (at_stage wants_item fs) ls ks (joined r fs)
  rule_reads n len (member v) fs ls ks o c t = leads_one n len wants_item fs (joined (member v) fs) ls (Number v) ks (λ at. member_step n v fs at o c) t
  rule_reads n len (list h is) fs ls ks o c t =
      leads_on n len (at_stage wants_item fs) (at_stage (wants_bracket h) fs) (joined (list h is) fs) ls (Open ∷ (spelling_items is ++ (Close ∷ ks))) ks
      (heading_reads n len h fs ls (Open ∷ (spelling_items is ++ (Close ∷ ks))) o.1 c (subst (Kinds ls) (list_then (heading h) (spelling_items is) ks) t))
      (λ ls₁ t₁. leads_on n len (at_stage (wants_bracket h) fs) (at_stage wants_item (framed h [] fs)) (joined (list h is) fs) ls₁ (spelling_items is ++ (Close ∷ ks)) ks
      (open_reads n len h fs ls₁ (spelling_items is ++ (Close ∷ ks)) o.0 t₁)
      (λ ls₂ t₂. leads_on n len (at_stage wants_item (framed h [] fs)) (at_stage wants_item (framed h (rules_of is) fs)) (joined (list h is) fs) ls₂ (Close ∷ ks) ks
      (items_read n len is h [] fs ls₂ (Close ∷ ks) o.5 (let s = o.3 in omega arith) t₂)
      (λ ls₃ t₃. close_reads n len h is fs ls₃ ks o.2 o.4 t₃)))

  items_read : (n len : ℕ) (is : Items) (h : Head) (rs : List Rule) (fs : List Frame) (ls : List Lexeme) (ks : List Kind) → AllInOrder n (suc (length fs)) is → length rs + size is ≤ 64 → Kinds ls (spelling_items is ++ ks) → Leads n len (at_stage wants_item (framed h rs fs)) ls ks (at_stage wants_item (framed h (rs ++ rules_of is) fs))
  items_read n len none h rs fs ls ks o l t = (ls, t, ap (λ qs. run n len (Ok (at_stage wants_item (framed h qs fs))) ls) (sym (append-nil rs)))
  items_read n len (item r is) h rs fs ls ks o l t =
      leads_on n len (at_stage wants_item (framed h rs fs)) (at_stage wants_item (framed h (rs ++ (r ∷ [])) fs)) (at_stage wants_item (framed h (rs ++ (r ∷ rules_of is)) fs)) ls (spelling_items is ++ ks) ks
      (rule_reads n len r (framed h rs fs) ls (spelling_items is ++ ks) o.0 (lt-leb 64 (length rs) (omega arith)) (subst (Kinds ls) (append_assoc (spelling r) (spelling_items is) ks) t))
      (λ rest u. items_on n len is h rs r fs rest ks (items_read n len is h (rs ++ (r ∷ [])) fs rest ks o.1 (let p = length_push rs r in omega arith) u))

run_none : (n len : ℕ) (r : Rule) (ls : List Lexeme) → Kinds ls [] → run n len (Ok (at_stage (finished r) [])) ls ≡ Ok r
run_none n len r [] t = refl
run_none n len r (Err fault ∷ ls) t = absurd t
run_none n len r (Ok k ∷ ls) t = absurd t

run_reads : (n len : ℕ) (r : Rule) (ls : List Lexeme) → InOrder n 0 r → Kinds ls (spelling r) → run n len (Ok start) ls ≡ Ok r
run_reads n len r ls o t = let a = rule_reads n len r [] ls [] o refl (subst (Kinds ls) (sym (append-nil (spelling r))) t) in a.2 ∙ run_none n len r a.0 a.1

pub reading_from_let_in : (n : ℕ) (text : List ℕ) (r : Rule) → LetIn n text r → reading n text ≡ Ok r
reading_from_let_in n text r l =
    cond-true (leb (length text) 4096) (run n (length text) (Ok start) (lexemes 0 text)) (Err Length) (le-leb (length text) 4096 l.short)
    ∙ run_reads n (length text) r (lexemes 0 text) l.in_order (subst (Kinds (lexemes 0 text)) (spelling_unique l.spelt) l.tokens)

pub reading_spells : ReadingSpells
reading_spells n text r = (let_in_from_reading n text r, reading_from_let_in n text r)
