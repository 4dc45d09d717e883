-- How the questions that are opened are counted.
use Rattle.std.proofs.Common.{◌≡◌, ℕ, suc, ◌+◌, ◌-◌, ◌^◌, ◌<◌, min, Bool, true, false, ◌⊎◌, List, [], ◌∷◌, length, sym, refl, ap, ◌∙◌, subst, inl, inr, ⊎_elim, arith}
use Rattle.std.proofs.lemmas.Bool.{cases_Bool}
use Rattle.interning.specs.Distinct.{◌∈◌, Exact, distinct}
use Rattle.interning.proofs.Distinct.{counts}
use Rattle.interning.specs.Places.{Kept}
use Rattle.memos.specs.declared.diagram.Diagram.{Diagram}
use Rattle.memos.specs.declared.question.Question.{Question}
use Rattle.memos.specs.Notes.{Note, Noted, Unasked}
use Rattle.memos.specs.Questions.{same_question}
use Rattle.memos.proofs.Questions.{same_exact}
use Rattle.families.specs.Trees.{Tree}
use Rattle.families.specs.Questions.{Ask, sight, opens, split_at}
use Rattle.families.specs.Outcomes.{outcome}
use Rattle.families.specs.Meanings.{GoodAsk}
use Rattle.diagrams.specs.declared.nodes.NodeMemory.{NodeMemory}
use Rattle.diagrams.specs.declared.solve.Pending.{Pending}
use Rattle.diagrams.specs.Asking.{Asks}
use Rattle.diagrams.specs.Memory.{trees}
use Rattle.diagrams.specs.Solving.{AllRight, HasNote, Closed, Chain, IsOpen, Tally, Tallied}
use Rattle.diagrams.proofs.FramesKept.{asks_kept}
use Rattle.diagrams.proofs.Scripted.{split_below, opened_itself}
use Rattle.diagrams.proofs.Stepping.{asks_once, chain_inside}
use Rattle.diagrams.proofs.Uniquely.{asks_same}

-- the work begins
pub tally_start : (ts : List Tree) (ns : List Note) (final : Ask) (xs : List Pending) → xs ≡ [] → Closed ts ns → Tally ts ns ts ns final xs 0
tally_start ts ns final xs e closed = subst (λ ys. Tally ts ns ts ns final ys 0) (sym e) (record {
  list = [];
  count = refl;
  once = tt;
  only = λ q m. absurd m;
  state = λ q m. absurd m;
  waiting = λ q o. absurd o.1;
  back = λ q h. inl h;
  still = λ q h. h;
  closed = closed;
})

-- every open question is known, and is split at a smaller member than the one that is asked above it
module _ (ts : List Tree) (T : Ask → Type 0) (final : Ask) where
  pub chain_asks : (xs : List Pending) (p : Ask) → Chain ts T final xs p → (x : Pending) → x ∈ xs → (q : Ask) × Asks ts x.question q
  chain_asks [] p c x m = absurd m
  chain_asks (y ∷ xs) p c x m =
      ⊎_elim (λ (e : x ≡ y). (c.0, subst (λ (z : Pending). Asks ts z.question c.0) (sym e) c.1.asks)) (λ (n : x ∈ xs). chain_asks xs c.0 c.2 x n) m

  chain_rises : (xs : List Pending) (p : Ask) → Chain ts T final xs p → sight p ≡ opens → (x : Pending) (q : Ask) → x ∈ xs → Asks ts x.question q → split_at q < split_at p
  chain_rises [] p c unseen x q m a = absurd m
  chain_rises (y ∷ xs) p c unseen x q m a =
      let s = split_below (suc (split_at c.0)) p c.1.left.leads.0 unseen in
      ⊎_elim
      (λ (e : x ≡ y).
      let same : q ≡ c.0 = asks_once ts y.question q c.0 (subst (λ (z : Pending). Asks ts z.question q) e a) c.1.asks in
      let equal : split_at q ≡ split_at c.0 = ap split_at same in omega arith)
      (λ (n : x ∈ xs). let r = chain_rises xs c.0 c.2 c.1.unseen x q n a in omega arith) m

  pub chain_fresh : (xs : List Pending) (p : Ask) → Chain ts T final xs p → sight p ≡ opens → IsOpen ts xs p → ⊥
  chain_fresh xs p c unseen o = let r = chain_rises xs p c unseen o.0 p o.1 o.2 in omega arith

-- a question that has no note is opened
module _ (m : NodeMemory) (us : List Tree) (ms ns : List Note) (T : Ask → Type 0) (final : Ask) (x : Pending) (xs : List Pending) (p : Ask)
    (a : Asks (trees m) x.question p) (good : GoodAsk 1 p) (unseen : sight p ≡ opens) (unasked : Unasked ns x.question)
    (c : Chain (trees m) T final xs p) (n n' : ℕ) (t : Tally us ms (trees m) ns final xs n) (e : n' ≡ min (n + 1) (2 ^ 64 - 1)) where
  not_noted : HasNote (trees m) ns p → ⊥
  not_noted h = unasked h.0.1 (subst (λ z. (z, h.0.1) ∈ ns) (asks_same m h.0.0 x.question p h.2 a) h.1)

  pub tally_opens : Tally us ms (trees m) ns final (x ∷ xs) n'
  tally_opens = record {
    list = p ∷ t.list;
    count = let k = t.count in omega arith;
    once = ((λ h. ⊎_elim not_noted (chain_fresh (trees m) T final xs p c unseen) (t.state p h)), t.once);
    only = λ q k. ⊎_elim
        (λ (d : q ≡ p). subst (λ (z : Ask). (z ∈ (outcome final).asked) × (HasNote us ms z → ⊥)) (sym d)
        (chain_inside (trees m) T final xs p c p (opened_itself (trees m) T p good unseen), λ h. not_noted (t.still p h)))
        (λ (k : q ∈ t.list). t.only q k) k;
    state = λ q k. ⊎_elim
        (λ (d : q ≡ p). inr (x, inl refl, subst (Asks (trees m) x.question) (sym d) a))
        (λ (k : q ∈ t.list). ⊎_elim (λ (h : HasNote (trees m) ns q). inl h) (λ (o : IsOpen (trees m) xs q). inr (o.0, inr o.1, o.2)) (t.state q k)) k;
    waiting = λ q o. ⊎_elim
        (λ (d : o.0 ≡ x). inl (asks_once (trees m) x.question q p (subst (λ (z : Pending). Asks (trees m) z.question q) d o.2) a))
        (λ (k : o.0 ∈ xs). inr (t.waiting q (o.0, k, o.2))) o.1;
    back = λ q h. ⊎_elim (λ (k : HasNote us ms q). inl k) (λ (k : q ∈ t.list). inr (inr k)) (t.back q h);
    still = t.still;
    closed = t.closed;
  }

-- an open question asks on
module _ (ts : List Tree) (x y : Pending) (xs : List Pending) (e : x.question ≡ y.question) where
  open_swaps : (q : Ask) → IsOpen ts (x ∷ xs) q → IsOpen ts (y ∷ xs) q
  open_swaps q o = ⊎_elim
      (λ (d : o.0 ≡ x). (y, inl refl, subst (λ z. Asks ts z q) e (subst (λ (z : Pending). Asks ts z.question q) d o.2)))
      (λ (k : o.0 ∈ xs). (o.0, inr k, o.2)) o.1

pub tally_waits : (us : List Tree) (ms : List Note) (ts : List Tree) (ns : List Note) (final : Ask) (x y : Pending) (xs : List Pending) (n : ℕ) → x.question ≡ y.question
    → Tally us ms ts ns final (x ∷ xs) n → Tally us ms ts ns final (y ∷ xs) n
tally_waits us ms ts ns final x y xs n e t = record {
  list = t.list;
  count = t.count;
  once = t.once;
  only = t.only;
  state = λ q k. ⊎_elim (λ (h : HasNote ts ns q). inl h) (λ (o : IsOpen ts (x ∷ xs) q). inr (open_swaps ts x y xs e q o)) (t.state q k);
  waiting = λ q o. t.waiting q (open_swaps ts y x xs (sym e) q o);
  back = t.back;
  still = t.still;
  closed = t.closed;
}

-- the answer d to q is noted, by a memo that has kept every note
module _ (keeps keeps' : Type 0) (ts ts' : List Tree) (kept : Kept ts ts') (ns ns' : List Note) (all : AllRight ts ns) (question : Question) (q : Ask) (d : Diagram)
    (a : Asks ts question q) (noted : Noted keeps keeps' ns ns' question d) (k : keeps') where
  pub noted_here : HasNote ts' ns' q
  noted_here = ((question, d), noted.new k, asks_kept ts ts' kept question q a)

  pub noted_still : (r : Ask) → HasNote ts ns r → HasNote ts' ns' r
  noted_still r h = ⊎_elim
      (λ (e : same_question h.0.0 question ≡ true).
      let same : q ≡ r = asks_once ts question q r a (subst (λ z. Asks ts z r) ((same_exact h.0.0 question).0 e) h.2) in
      subst (HasNote ts' ns') same noted_here)
      (λ (e : same_question h.0.0 question ≡ false).
      (h.0, noted.others k h.0.0 h.0.1 (λ s. let z : ◌≡◌ {A = ℕ} 0 1 = cc ((same_exact h.0.0 question).1 s) in omega arith) h.1, asks_kept ts ts' kept h.0.0 r h.2))
      (cases_Bool (same_question h.0.0 question))

  pub noted_back : (r : Ask) → HasNote ts' ns' r → (r ≡ q) ⊎ HasNote ts ns r
  noted_back r h = ⊎_elim
      (λ (e : h.0 ≡ (question, d)). inl (asks_once ts' question r q (subst (λ (n : Note). Asks ts' n.0 r) e h.2) (asks_kept ts ts' kept question q a)))
      (λ (m : h.0 ∈ ns).
      let w = all h.0 m in
      let same : w.this ≡ r = asks_once ts' h.0.0 w.this r (asks_kept ts ts' kept h.0.0 w.this w.asks) h.2 in
      inr (h.0, m, subst (Asks ts h.0.0) same w.asks))
      (noted.only h.0 h_in)
    where
      h_in : h.0 ∈ ns'
      h_in = h.1

  pub noted_closed : ((r : Ask) → r ∈ (outcome q).asked → HasNote ts' ns' r) → Closed ts ns → Closed ts' ns'
  noted_closed tells closed p r h m = ⊎_elim
      (λ (e : p ≡ q). tells r (subst (λ (z : Ask). r ∈ (outcome z).asked) e m))
      (λ (o : HasNote ts ns p). noted_still r (closed p r o m)) (noted_back p h)

  pub tally_ends : (us : List Tree) (ms : List Note) (T : Ask → Type 0) (final : Ask) (x : Pending) (xs : List Pending) (n : ℕ) → x.question ≡ question
      → ((r : Ask) → r ∈ (outcome q).asked → HasNote ts' ns' r) → Chain ts T final xs q → Tally us ms ts ns final (x ∷ xs) n → Tally us ms ts' ns' final xs n
  tally_ends us ms T final x xs n e tells c t = record {
    list = t.list;
    count = t.count;
    once = t.once;
    only = t.only;
    state = λ r m. ⊎_elim
        (λ (h : HasNote ts ns r). inl (noted_still r h))
        (λ (o : IsOpen ts (x ∷ xs) r). ⊎_elim
        (λ (i : o.0 ≡ x).
        let same : q ≡ r = asks_once ts question q r a (subst (λ z. Asks ts z r) e (subst (λ (z : Pending). Asks ts z.question r) i o.2)) in
        inl (subst (HasNote ts' ns') same noted_here))
        (λ (i : o.0 ∈ xs). inr (o.0, i, asks_kept ts ts' kept o.0.question r o.2)) o.1)
        (t.state r m);
    waiting = λ r o.
        let w = chain_asks ts T final xs q c o.0 o.1 in
        let same : w.0 ≡ r = asks_once ts' o.0.question w.0 r (asks_kept ts ts' kept o.0.question w.0 w.1) o.2 in
        t.waiting r (o.0, inr o.1, subst (Asks ts o.0.question) same w.1);
    back = λ r h. ⊎_elim
        (λ (i : r ≡ q). inr (t.waiting r (x, inl refl, subst (λ z. Asks ts z r) (sym e) (subst (Asks ts question) (sym i) a))))
        (λ (o : HasNote ts ns r). t.back r o) (noted_back r h);
    still = λ r h. noted_still r (t.still r h);
    closed = noted_closed tells t.closed;
  }

-- the work is done
pub tally_done : (ts : List Tree) (ns : List Note) (ts' : List Tree) (ns' : List Note) (q : Ask) (n : ℕ)
    → ((r : Ask) → r ∈ (outcome q).asked → HasNote ts' ns' r) → Tally ts ns ts' ns' q [] n → Tallied ts ns ts' ns' (outcome q).asked n
tally_done ts ns ts' ns' q n tells t = record {
  list = t.list;
  count = t.count;
  once = t.once;
  only = t.only;
  all = λ p m. t.back p (tells p m);
  still = t.still;
  new = λ p m. ⊎_elim (λ (h : HasNote ts' ns' p). h) (λ (o : IsOpen ts' [] p). absurd o.1) (t.state p m);
  back = t.back;
}

-- where nothing was noted before, all different questions were opened
pub tallied_fresh : (same : Ask → Ask → Bool) → Exact same → (ts ts' : List Tree) (ns' : List Note) (asked : List Ask) (n : ℕ) → Tallied ts [] ts' ns' asked n
    → n ≡ min (length (distinct same asked)) (2 ^ 64 - 1)
tallied_fresh same exact ts ts' ns' asked n t =
    let counted = counts Ask same exact t.list asked t.once (λ p m. (t.only p m).0) in
    let long : length t.list ≡ length (distinct same asked) = counted.all (λ p m. ⊎_elim (λ (h : HasNote ts [] p). absurd h.1) (λ (k : p ∈ t.list). k) (t.all p m)) in
    t.count ∙ ap (λ k. min k (2 ^ 64 - 1)) long

-- no note is closed, and notes stay so where trees keep their places
pub closed_none : (ts : List Tree) → Closed ts []
closed_none ts q p h m = absurd h.1

pub closed_kept : (ts ts' : List Tree) → Kept ts ts' → (ns : List Note) → AllRight ts ns → Closed ts ns → Closed ts' ns
closed_kept ts ts' kept ns all closed q p h m =
    let w = all h.0 h.1 in
    let same : w.this ≡ q = asks_once ts' h.0.0 w.this q (asks_kept ts ts' kept h.0.0 w.this w.asks) h.2 in
    let o = closed q p (h.0, h.1, subst (Asks ts h.0.0) same w.asks) m in
    (o.0, o.1, asks_kept ts ts' kept o.0.0 p o.2)
