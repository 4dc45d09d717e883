-- What a text comes to, from what its tokens come to.
use Rattle.std.proofs.Common.{◌≡◌, ℕ, ◌≤◌, false, leb, List, length, Ok, Err, Result, sym, subst, arith}
use Rattle.std.proofs.lemmas.Bool.{cond-true, le-leb}
use Rattle.interning.proofs.Distinct.{counted}
use Rattle.rules.specs.declared.faults.RuleFault.{RuleFault}
use Rattle.rules.specs.declared.terms.TermMemory.{TermMemory}
use Rattle.rules.specs.Building.{different}
use Rattle.rules.specs.Memory.{view}
use Rattle.rules.specs.Outcome.{placed, outcome, Comes, Off, ReadOff}
use Rattle.rules.specs.Reading.{reading, run, start}
use Rattle.rules.specs.Rules.{Rule}
use Rattle.rules.specs.Terms.{expand, subterms}
use Rattle.rules.specs.Tokens.{lexemes}
use Rattle.interning.proofs.Members.{apart_once, stands_in}
use Rattle.rules.proofs.Memories.{memory_apart, memory_fits, memory_closed}
use Rattle.rules.proofs.Subterms.{same_decides}

-- a text that is short enough is read by its tokens
pub short_reading : (n : ℕ) (text : List ℕ) → length text ≤ 4096 → reading n text ≡ run n (length text) (Ok start) (lexemes 0 text)
short_reading n text l = cond-true (leb (length text) 4096) _ _ (le-leb (length text) 4096 l)

module _ (m : TermMemory) (n : ℕ) (text : List ℕ) (p : ℕ) (l : length text ≤ 4096) (off : ReadOff n text (view m) (Ok p)) where
  held_from : (x : Result Rule RuleFault) → Off (view m) (Ok p) x → (view m).over ≡ false → Comes (view m) (Ok p) (placed (view m).room x)
  held_from (Err g) e off' = absurd e
  held_from (Ok r) e off' =
      let t = expand r in
      let stands = e.0 off' in
      let all = memory_closed m t (stands_in _ _ _ stands) in
      let size = (counted same_decides (view m).terms (subterms t) (apart_once _ (memory_apart m)) e.1.inside).all all in
      subst (Comes (view m) (Ok p)) (sym (cond-true (leb (different (subterms t)) (view m).room) _ _ (le-leb (different (subterms t)) (view m).room (omega (arith, size, memory_fits m)))))
      (record { stands = stands; none_else = e.1.inside; all = all; once = memory_apart m; fits = off' })

  -- every term found a place
  pub comes_held : (view m).over ≡ false → Comes (view m) (Ok p) (outcome n (view m).room text)
  comes_held off' = subst (λ x. Comes (view m) (Ok p) (placed (view m).room x)) (sym (short_reading n text l)) (held_from _ off off')
