-- What a call works out: its family, and its workings, the nodes built and the questions opened on the way.
use Rattle.std.specs.Prelude.{ℕ, cond, [], ◌∷◌, Some, None, Ok, Err, Option, Result}
use Rattle.rules.specs.declared.faults.RuleFault.{RuleFault}
use Rattle.rules.specs.Terms as term
use Rattle.rules.specs.Outcome as rule
use Rattle.families.specs.Trees.{Tree, alone, is_none}
use Rattle.families.specs.Questions as ask
use Rattle.families.specs.Outcomes.{Outcome, outcome, after, answer}
use Rattle.calls.specs.Shelves.{Sizes, Shelves, tree_on}
use Rattle.calls.specs.Acts.{Act, set, copy, clear, either, both, turn, replace, same, count, verdict, groups, tally, sheet}

-- a member's node is built, and the question of each both and either is asked, operands as written
abbrev pub term_work : term.Term → Outcome
term_work (term.member v) = record { answer = alone v; built = alone v ∷ []; asked = []; steps = 0 }
term_work (term.both s t) = after (after (term_work s) (term_work t)) (outcome (ask.both (term_work s).answer (term_work t).answer))
term_work (term.either s t) = after (after (term_work s) (term_work t)) (outcome (ask.either (term_work s).answer (term_work t).answer))

-- the smallest groups that pass a term
abbrev pub family : term.Term → Tree
family t = (term_work t).answer

-- a rule that is let in is worked out
abbrev pub rule_work : Result term.Term RuleFault → Option Outcome
rule_work (Ok t) = Some (term_work t)
rule_work (Err f) = None

-- either(off(F,u), both(on(F,u), G))
abbrev pub replace_work : Tree → ℕ → Tree → Outcome
replace_work f u g =
    let off = outcome (ask.off f u) in
    let on = outcome (ask.on f u) in
    let joined = outcome (ask.both on.answer g) in
    after off (after on (after joined (outcome (ask.either off.answer joined.answer))))

-- the smallest stopping groups of a family
abbrev pub turned : Tree → Tree
turned f = answer (ask.turn f)

-- its groups that share no member with some group
abbrev pub unmet : Tree → Tree
unmet f = answer (ask.less f (turned f))

-- its smallest stopping groups that contain no passing group
abbrev pub witnesses : Tree → Tree
witnesses f = answer (ask.less (turned f) f)

-- D = turn(F) and M = less(F,D), and where M is none W = less(D,F)
abbrev pub judge_work : Tree → Outcome
judge_work f =
    let first = after (outcome (ask.turn f)) (outcome (ask.less f (turned f))) in
    cond (is_none (unmet f)) (after first (outcome (ask.less (turned f) f))) first

-- what a call works out, where it works anything out
abbrev pub work : Sizes → Shelves → Act → Option Outcome
work z ss (set c text) = rule_work (rule.outcome z.members z.terms text)
work z ss (copy a c) = None
work z ss (clear c) = None
work z ss (either a b c) = Some (outcome (ask.either (tree_on ss a) (tree_on ss b)))
work z ss (both a b c) = Some (outcome (ask.both (tree_on ss a) (tree_on ss b)))
work z ss (turn a c) = Some (outcome (ask.turn (tree_on ss a)))
work z ss (replace a u b c) = Some (replace_work (tree_on ss a) u (tree_on ss b))
work z ss (same a b) = None
work z ss (count a) = None
work z ss (verdict a) = Some (judge_work (tree_on ss a))
work z ss (groups a n) = None
work z ss tally = None
work z ss (sheet a) = Some (judge_work (tree_on ss a))
