-- A text that the reading answers a rule for is let in as that rule: each token that is read is one of the rule's spelling, and every frame stays in order.
use Rattle.std.proofs.Common.{◌≡◌, ℕ, suc, ◌<◌, ◌≤◌, true, false, cond, eqb, leb, List, [], ◌∷◌, ◌++◌, length, Ok, Err, Result, sym, refl, ap, ◌∙◌, subst, append_assoc, append-nil, arith}
use Rattle.std.proofs.lemmas.List.{length_push}
use Rattle.std.proofs.lemmas.Bool.{cond_both, eqb-false, leb-true, leb-false}
use Rattle.rules.specs.declared.faults.RuleFault.{RuleFault}
use Rattle.rules.specs.declared.faults.RuleFault.TheVariants.{Length, Token as Unfit, Depth, Range, Shape}
use Rattle.rules.specs.declared.tokens.Kind.{Kind}
use Rattle.rules.specs.declared.tokens.Kind.TheVariants.{Number, Word, Open, Close}
use Rattle.rules.specs.declared.tokens.Token.{Token}
use Rattle.rules.specs.declared.words.Head.{Head}
use Rattle.rules.specs.declared.words.Word as words
use Rattle.rules.specs.Rules.{Rule, member, list}
use Rattle.rules.specs.Tokens.{Lexeme, lexemes}
use Rattle.rules.specs.Reading.{Frame, Stage, State, wants_item, wants_figure, wants_bracket, finished, start, items_of, in_range, figured, after_word, crowded, fits, joined, close, at_item, at_figure, at_bracket, step, finish, run, reading}
use Rattle.rules.specs.Spelling.{heading, Spells, Kinds, size, Figure, InOrder, AllInOrder}
use Rattle.rules.specs.Laws.{LetIn}
use Rattle.rules.specs.Progress.{TakesFigure, NoneOpen, FramesGood, StageGood}
use Rattle.rules.proofs.Spelled.{spelling, spelling_items, spells_spelling, spelling_push}

-- the tokens that the open lists have taken, from the outermost on
abbrev pub frames_so_far : List Frame → List Kind
frames_so_far [] = []
frames_so_far (f ∷ fs) = frames_so_far fs ++ (heading f.head ++ (Open ∷ spelling_items (items_of f.items)))

-- the tokens that have been taken since
abbrev pub stage_so_far : Stage → List Kind
stage_so_far wants_item = []
stage_so_far (wants_figure w) = Word w ∷ []
stage_so_far (wants_bracket h) = heading h
stage_so_far (finished r) = spelling r

abbrev pub so_far : Stage → List Frame → List Kind
so_far st fs = frames_so_far fs ++ stage_so_far st

-- a state that is in order, after these tokens
abbrev pub Reached : ℕ → List Kind → Result State RuleFault → Type 0
Reached n before (Err fault) = Unit {0}
Reached n before (Ok s) = StageGood n s.stage s.frames × FramesGood n s.frames × (so_far s.stage s.frames ≡ before)

-- a rule that is in order, spelt by the tokens before and those to come
abbrev Ended : ℕ → List Kind → List Lexeme → Result Rule RuleFault → Type 0
Ended n before ls (Err fault) = Unit {0}
Ended n before ls (Ok r) = (ks : List Kind) × Kinds ls ks × (before ++ ks ≡ spelling r) × InOrder n 0 r

all_push : (n d : ℕ) (rs : List Rule) (r : Rule) → AllInOrder n d (items_of rs) → InOrder n d r → AllInOrder n d (items_of (rs ++ (r ∷ [])))
all_push n d [] r a o = (o, tt)
all_push n d (q ∷ rs) r a o = (a.0, all_push n d rs r a.1 o)

pub size_items_of : (rs : List Rule) → size (items_of rs) ≡ length rs
size_items_of [] = refl
size_items_of (r ∷ rs) = ap suc (size_items_of rs)

-- tokens after those of an open list
regroup : (outer heads inner more : List Kind) (k : Kind) → outer ++ (heads ++ (k ∷ (inner ++ more))) ≡ (outer ++ (heads ++ (k ∷ inner))) ++ more
regroup outer heads inner more k = simp append_assoc

joined_spells : (r : Rule) (f : Frame) (fs : List Frame) → so_far wants_item (record { head = f.head; items = f.items ++ (r ∷ []) } ∷ fs) ≡ frames_so_far (f ∷ fs) ++ spelling r
joined_spells r f fs =
    append-nil (frames_so_far (record { head = f.head; items = f.items ++ (r ∷ []) } ∷ fs))
    ∙ ap (λ ks. frames_so_far fs ++ (heading f.head ++ (Open ∷ ks))) (spelling_push f.items r)
    ∙ regroup (frames_so_far fs) (heading f.head) (spelling_items (items_of f.items)) (spelling r) Open

pub joined_reached : (n : ℕ) (r : Rule) (fs : List Frame) → InOrder n (length fs) r → crowded fs ≡ false → FramesGood n fs → Reached n (frames_so_far fs ++ spelling r) (Ok (joined r fs))
joined_reached n r [] o c g = ((tt, o), tt, refl)
joined_reached n r (f ∷ fs) o c g =
    let p = leb-false 64 (length f.items) c in
    let q = length_push f.items r in
    (tt, (g.0, g.1, omega arith, all_push n (suc (length fs)) f.items r g.3 o, g.4, g.5), joined_spells r f fs)

pub list_in_order : (n : ℕ) (f : Frame) (fs : List Frame) → FramesGood n (f ∷ fs) → eqb (length f.items) 0 ≡ false → fits f.head (length f.items) ≡ true → InOrder n (length fs) (list f.head (items_of f.items))
list_in_order n f fs g p q =
    let s = size_items_of f.items in
    let z = eqb-false (length f.items) 0 p in
    (g.0, g.1, omega arith, omega arith, ap (fits f.head) s ∙ q, g.3)

list_reached : (n : ℕ) (f : Frame) (fs : List Frame) → FramesGood n (f ∷ fs) → InOrder n (length fs) (list f.head (items_of f.items)) → Reached n (frames_so_far (f ∷ fs) ++ (Close ∷ [])) (Ok (joined (list f.head (items_of f.items)) fs))
list_reached n f fs g o =
    subst (λ ks. Reached n ks (Ok (joined (list f.head (items_of f.items)) fs)))
    (regroup (frames_so_far fs) (heading f.head) (spelling_items (items_of f.items)) (Close ∷ []) Open)
    (joined_reached n (list f.head (items_of f.items)) fs o g.4 g.5)

closed_reached : (n at : ℕ) (fs : List Frame) → FramesGood n fs → Reached n (frames_so_far fs ++ (Close ∷ [])) (close at fs)
closed_reached n at [] g = tt
closed_reached n at (f ∷ fs) g =
    cond_both (eqb (length f.items) 0) (Err (Unfit at)) (cond (fits f.head (length f.items)) (Ok (joined (list f.head (items_of f.items)) fs)) (Err (Shape at))) (Reached n (frames_so_far (f ∷ fs) ++ (Close ∷ [])))
    (λ p. tt)
    (λ p. cond_both (fits f.head (length f.items)) (Ok (joined (list f.head (items_of f.items)) fs)) (Err (Shape at)) (Reached n (frames_so_far (f ∷ fs) ++ (Close ∷ []))) (λ q. list_reached n f fs g (list_in_order n f fs g p q)) (λ q. tt))

word_reached : (n : ℕ) (w : words.Word) (fs : List Frame) → crowded fs ≡ false → FramesGood n fs → Reached n (frames_so_far fs ++ (Word w ∷ [])) (Ok (record { stage = after_word w; frames = fs }))
word_reached n words.Word.All fs c g = ((tt, c), g, refl)
word_reached n words.Word.Any fs c g = ((tt, c), g, refl)
word_reached n words.Word.Least fs c g = ((tt, c), g, refl)
word_reached n words.Word.Grid fs c g = ((tt, c), g, refl)

item_reached : (n at : ℕ) (k : Kind) (fs : List Frame) → FramesGood n fs → Reached n (frames_so_far fs ++ (k ∷ [])) (at_item n at k fs)
item_reached n at (Number v) fs g =
    cond_both (in_range n v) (cond (crowded fs) (Err (Shape at)) (Ok (joined (member v) fs))) (Err (Range at)) (Reached n (frames_so_far fs ++ (Number v ∷ [])))
    (λ p. cond_both (crowded fs) (Err (Shape at)) (Ok (joined (member v) fs)) (Reached n (frames_so_far fs ++ (Number v ∷ []))) (λ q. tt) (λ q. joined_reached n (member v) fs p q g))
    (λ p. tt)
item_reached n at (Word w) fs g = cond_both (crowded fs) (Err (Shape at)) (Ok (record { stage = after_word w; frames = fs })) (Reached n (frames_so_far fs ++ (Word w ∷ []))) (λ p. tt) (λ p. word_reached n w fs p g)
item_reached n at Open fs g = tt
item_reached n at Close fs g = closed_reached n at fs g

figured_reached : (n v : ℕ) (w : words.Word) (fs : List Frame) → in_range 64 v ≡ true → TakesFigure w → crowded fs ≡ false → FramesGood n fs → Reached n ((frames_so_far fs ++ (Word w ∷ [])) ++ (Number v ∷ [])) (Ok (record { stage = wants_bracket (figured w v); frames = fs }))
figured_reached n v words.Word.All fs p t c g = absurd t
figured_reached n v words.Word.Any fs p t c g = absurd t
figured_reached n v words.Word.Least fs p t c g = ((p, c), g, sym (append_assoc (frames_so_far fs) (Word words.Word.Least ∷ []) (Number v ∷ [])))
figured_reached n v words.Word.Grid fs p t c g = ((p, c), g, sym (append_assoc (frames_so_far fs) (Word words.Word.Grid ∷ []) (Number v ∷ [])))

figure_reached : (n at : ℕ) (k : Kind) (w : words.Word) (fs : List Frame) → TakesFigure w → crowded fs ≡ false → FramesGood n fs → Reached n ((frames_so_far fs ++ (Word w ∷ [])) ++ (k ∷ [])) (at_figure at k w fs)
figure_reached n at (Number v) w fs t c g = cond_both (in_range 64 v) (Ok (record { stage = wants_bracket (figured w v); frames = fs })) (Err (Range at)) (Reached n ((frames_so_far fs ++ (Word w ∷ [])) ++ (Number v ∷ []))) (λ p. figured_reached n v w fs p t c g) (λ p. tt)
figure_reached n at (Word x) w fs t c g = tt
figure_reached n at Open w fs t c g = tt
figure_reached n at Close w fs t c g = tt

opened_reached : (n : ℕ) (h : Head) (fs : List Frame) → length fs < 16 → Figure h → crowded fs ≡ false → FramesGood n fs → Reached n ((frames_so_far fs ++ heading h) ++ (Open ∷ [])) (Ok (record { stage = wants_item; frames = record { head = h; items = [] } ∷ fs }))
opened_reached n h fs l f c g = (tt, (l, f, omega arith, tt, c, g), append-nil (frames_so_far fs ++ (heading h ++ (Open ∷ []))) ∙ sym (append_assoc (frames_so_far fs) (heading h) (Open ∷ [])))

bracket_reached : (n at : ℕ) (k : Kind) (h : Head) (fs : List Frame) → Figure h → crowded fs ≡ false → FramesGood n fs → Reached n ((frames_so_far fs ++ heading h) ++ (k ∷ [])) (at_bracket at k h fs)
bracket_reached n at (Number v) h fs f c g = tt
bracket_reached n at (Word w) h fs f c g = tt
bracket_reached n at Open h fs f c g =
    cond_both (leb 16 (length fs)) (Err (Depth at)) (Ok (record { stage = wants_item; frames = record { head = h; items = [] } ∷ fs })) (Reached n ((frames_so_far fs ++ heading h) ++ (Open ∷ [])))
    (λ p. tt)
    (λ p. opened_reached n h fs (leb-false 16 (length fs) p) f c g)
bracket_reached n at Close h fs f c g = tt

step_reached : (n : ℕ) (st : Stage) (fs : List Frame) (at : ℕ) (k : Kind) → StageGood n st fs → FramesGood n fs → Reached n (so_far st fs ++ (k ∷ [])) (step n st fs at k)
step_reached n wants_item fs at k s g = subst (λ ks. Reached n (ks ++ (k ∷ [])) (at_item n at k fs)) (sym (append-nil (frames_so_far fs))) (item_reached n at k fs g)
step_reached n (wants_figure w) fs at k s g = figure_reached n at k w fs s.0 s.1 g
step_reached n (wants_bracket h) fs at k s g = bracket_reached n at k h fs s.0 s.1 g
step_reached n (finished r) fs at k s g = tt

finished_spells : (r : Rule) (fs : List Frame) → NoneOpen fs → so_far (finished r) fs ≡ spelling r
finished_spells r [] z = refl
finished_spells r (f ∷ fs) z = absurd z

finish_ended : (n len : ℕ) (st : Stage) (fs : List Frame) (before : List Kind) → StageGood n st fs → so_far st fs ≡ before → Ended n before [] (finish len st)
finish_ended n len wants_item fs before s e = tt
finish_ended n len (wants_figure w) fs before s e = tt
finish_ended n len (wants_bracket h) fs before s e = tt
finish_ended n len (finished r) fs before s e = ([], tt, append-nil before ∙ sym e ∙ finished_spells r fs s.0, s.1)

ended_more : (n : ℕ) (before : List Kind) (t : Token) (ls : List Lexeme) (y : Result Rule RuleFault) → Ended n (before ++ (t.kind ∷ [])) ls y → Ended n before (Ok t ∷ ls) y
ended_more n before t ls (Err fault) h = tt
ended_more n before t ls (Ok r) h = (t.kind ∷ h.0, (refl, h.1), sym (append_assoc before (t.kind ∷ []) h.0) ∙ h.2, h.3)

run_ended : (n len : ℕ) (ls : List Lexeme) (before : List Kind) (x : Result State RuleFault) → Reached n before x → Ended n before ls (run n len x ls)
run_ended n len [] before (Err fault) h = tt
run_ended n len (l ∷ ls) before (Err fault) h = tt
run_ended n len [] before (Ok s) h = finish_ended n len s.stage s.frames before h.0 h.2
run_ended n len (Err fault ∷ ls) before (Ok s) h = tt
run_ended n len (Ok t ∷ ls) before (Ok s) h =
    ended_more n before t ls (run n len (step n s.stage s.frames t.place t.kind) ls)
    (run_ended n len ls (before ++ (t.kind ∷ [])) (step n s.stage s.frames t.place t.kind)
    (subst (λ ks. Reached n (ks ++ (t.kind ∷ [])) (step n s.stage s.frames t.place t.kind)) h.2 (step_reached n s.stage s.frames t.place t.kind h.0 h.1)))

-- what a reading tells of its text
abbrev Told : ℕ → List ℕ → Result Rule RuleFault → Type 0
Told n text (Err fault) = Unit {0}
Told n text (Ok r) = LetIn n text r

told_from_ended : (n : ℕ) (text : List ℕ) (y : Result Rule RuleFault) → length text ≤ 4096 → Ended n [] (lexemes 0 text) y → Told n text y
told_from_ended n text (Err fault) l h = tt
told_from_ended n text (Ok r) l h = record { short = l; kinds = h.0; tokens = h.1; spelt = subst (Spells r) (sym h.2) (spells_spelling r); in_order = h.3 }

reading_told : (n : ℕ) (text : List ℕ) → Told n text (reading n text)
reading_told n text =
    cond_both (leb (length text) 4096) (run n (length text) (Ok start) (lexemes 0 text)) (Err Length) (Told n text)
    (λ p. told_from_ended n text (run n (length text) (Ok start) (lexemes 0 text)) (leb-true (length text) 4096 p) (run_ended n (length text) (lexemes 0 text) [] (Ok start) (tt, tt, refl)))
    (λ p. tt)

pub let_in_from_reading : (n : ℕ) (text : List ℕ) (r : Rule) → reading n text ≡ Ok r → LetIn n text r
let_in_from_reading n text r e = subst (Told n text) e (reading_told n text)
