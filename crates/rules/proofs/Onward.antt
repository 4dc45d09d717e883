-- The reading goes on: token by token, what is still to be read gives what the whole text gives.
use Rattle.std.proofs.Common.{◌≡◌, ℕ, false, List, [], ◌∷◌, length, Ok, Err, Result, sym, ap, ◌∙◌, subst, arith}
use Rattle.rules.specs.declared.faults.RuleFault.{RuleFault}
use Rattle.rules.specs.declared.reader.Wants.{Wants}
use Rattle.rules.specs.declared.tokens.Token.{Token}
use Rattle.rules.specs.Building.{Held}
use Rattle.rules.specs.Following.{Follows, Steps, AtItem}
use Rattle.rules.specs.declared.nest.OpenList.{OpenList}
use Rattle.rules.specs.Members.{◌∈◌}
use Rattle.rules.specs.Outcome.{Off, ReadOff}
use Rattle.rules.specs.Reading.{State, start, step, run}
use Rattle.rules.specs.Tokens.{Lexeme, lexemes}

-- the tokens and faults that are left give what the whole text gives
pub record Onward (n : ℕ) (text : List ℕ) (h : Held) (w : Wants) (ls : List OpenList) (left : List Lexeme) : Type 0 where
  pub state : State
  pub follows : Follows n h w ls state
  pub gives : run n (length text) (Ok state) left ≡ run n (length text) (Ok start) (lexemes 0 text)

-- an empty memory, with no list open, follows the start
pub start_follows : (n : ℕ) (h : Held) → h.terms ≡ [] → h.over ≡ false → AtItem n h [] []
start_follows n h none off = record {
  stage_good = tt;
  frames_good = tt;
  waits = tt;
  stand = tt;
  within = record { inside = λ t m. subst (λ ts. t ∈ ts) none m; over = λ o. let wrong : ◌≡◌ {A = ℕ} 0 1 = cc in absurd (omega arith) };
}

module _ {n : ℕ} {text : List ℕ} {h : Held} {w : Wants} {ls : List OpenList} {left : List Lexeme} (o : Onward n text h w ls left) where
  -- a token or fault comes
  come : (l : Lexeme) (later : List Lexeme) → left ≡ l ∷ later → run n (length text) (Ok o.state) (l ∷ later) ≡ run n (length text) (Ok start) (lexemes 0 text)
  come l later e = ap (run n (length text) (Ok o.state)) (sym e) ∙ o.gives

  fault_ends : (m : ℕ) (h' h'' : Held) (ms : List OpenList) (fault : RuleFault) (out : Result State RuleFault) (later : List Lexeme) → Steps m h' (Err fault) ms out → Off h'' (Err fault) (run n (length text) out later)
  fault_ends m h' h'' ms fault (Err g) later s = s
  fault_ends m h' h'' ms fault (Ok st) later s = absurd s

  -- a token is refused
  pub token_refused : (m : ℕ) (h' h'' : Held) (t : Token) (ms : List OpenList) (fault : RuleFault) (later : List Lexeme) → left ≡ Ok t ∷ later → ((s : State) → Follows n h w ls s → Steps m h' (Err fault) ms (step n s.stage s.frames t.place t.kind)) → ReadOff n text h'' (Err fault)
  token_refused m h' h'' t ms fault later e steps =
      subst (Off h'' (Err fault)) (come (Ok t) later e) (fault_ends m h' h'' ms fault _ later (steps o.state o.follows))

  go_on : (h' : Held) (w' : Wants) (ms : List OpenList) (out : Result State RuleFault) (later : List Lexeme) → run n (length text) out later ≡ run n (length text) (Ok start) (lexemes 0 text) → Steps n h' (Ok w') ms out → Onward n text h' w' ms later
  go_on h' w' ms (Err g) later gives s = absurd s
  go_on h' w' ms (Ok st) later gives s = record { state = st; follows = s; gives = gives }

  -- a token is taken
  pub token_taken : (m : ℕ) (h' : Held) (t : Token) (w' : Wants) (ms : List OpenList) (later : List Lexeme) → m ≡ n → left ≡ Ok t ∷ later → ((s : State) → Follows n h w ls s → Steps m h' (Ok w') ms (step n s.stage s.frames t.place t.kind)) → Onward m text h' w' ms later
  token_taken m h' t w' ms later same e steps =
      subst (λ k. Steps k h' (Ok w') ms (step n o.state.stage o.state.frames t.place t.kind) → Onward k text h' w' ms later) (sym same) (go_on h' w' ms _ later (come (Ok t) later e)) (steps o.state o.follows)
