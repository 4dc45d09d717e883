-- What is held stays held where trees keep their places: answers, notes, and what open questions have done.
use Rattle.std.proofs.Common.{◌≡◌, ℕ, List, [], ◌∷◌, ◌++◌, length, ◌∙◌, inl, inr, ⊎_elim, arith}
use Rattle.interning.specs.Distinct.{◌∈◌, Within}
use Rattle.interning.specs.Places.{Kept}
use Rattle.interning.proofs.Members.{in_stands, stands_in, in_left, in_right, in_either}
use Rattle.memos.specs.declared.diagram.Diagram.{Diagram}
use Rattle.memos.specs.Notes.{Note}
use Rattle.families.specs.Trees.{Tree}
use Rattle.families.specs.Questions.{Ask}
use Rattle.families.specs.Scripts.{Script}
use Rattle.families.specs.Outcomes.{run, outcome, answer}
use Rattle.diagrams.specs.declared.solve.Pending.{Pending}
use Rattle.diagrams.specs.Solving.{Settled, Right, AllRight, Left, Pends, Chain}
use Rattle.diagrams.proofs.FramesKept.{awaits_kept, asks_kept, denotes_kept}

-- entries of lists that are joined
pub within_joined : (xs ys zs : List Tree) → Within xs zs → Within ys zs → Within (xs ++ ys) zs
within_joined xs ys zs f g t m = ⊎_elim (λ (l : t ∈ xs). f t l) (λ (r : t ∈ ys). g t r) (in_either xs ys t m)

pub within_left : (xs ys zs : List Tree) → Within xs ys → Within (xs ++ zs) (ys ++ zs)
within_left xs ys zs f = within_joined xs zs (ys ++ zs) (λ t m. in_left ys zs t (f t m)) (in_right ys zs)

pub within_right : (xs ys zs : List Tree) → Within ys zs → Within (xs ++ ys) (xs ++ zs)
within_right xs ys zs f = within_joined xs ys (xs ++ zs) (in_left xs zs) (λ t m. in_right xs zs t (f t m))

pub kept_trans : (ts us vs : List Tree) → Kept ts us → Kept us vs → Kept ts vs
kept_trans ts us vs k j = record {
  longer = omega (arith, k.longer, j.longer);
  same = λ p d l. j.same p d (omega (arith, k.longer)) ∙ k.same p d l;
}

module _ (ts ts' : List Tree) (kept : Kept ts ts') where
  pub kept_within : Within ts ts'
  kept_within t m =
      let s = in_stands ts t m in
      stands_in ts' t s.0 (record { within = omega (arith, kept.longer, s.1.within); here = λ d. kept.same s.0 d s.1.within ∙ s.1.here d })

  pub settled_kept : (d : Diagram) (q : Ask) → Settled ts d q → Settled ts' d q
  settled_kept d q s = record { denotes = denotes_kept ts ts' kept d (answer q) s.denotes; held = λ t m. kept_within t (s.held t m) }

  pub right_kept : (n : Note) → Right ts n → Right ts' n
  right_kept n r = record { this = r.this; asks = asks_kept ts ts' kept n.0 r.this r.asks; good = r.good; settled = settled_kept n.1 r.this r.settled }

  pub all_kept : (ns : List Note) → AllRight ts ns → AllRight ts' ns
  all_kept ns all n m = right_kept n (all n m)

  module _ (T T' : Ask → Type 0) (more : (q : Ask) → T q → T' q) where
    pub left_kept : (q : Ask) (s : Script) → Left ts T q s → Left ts' T' q s
    left_kept q s l = record {
      leads = l.leads;
      comes = l.comes;
      cover = λ t m. within_left ts ts' (run outcome s).built kept_within t (l.cover t m);
      part = l.part;
      others = λ r m. ⊎_elim (λ (e : r ≡ q). inl e) (⊎_elim (λ (h : T r). inr (inl (more r h))) (λ (n : r ∈ (run outcome s).asked). inr (inr n))) (l.others r m);
      inside = l.inside;
    }

    pub pends_kept : (n : ℕ) (x : Pending) (q p : Ask) → Pends ts T n x q p → Pends ts' T' n x q p
    pends_kept n x q p w = record {
      asks = asks_kept ts ts' kept x.question q w.asks;
      good = w.good;
      unseen = w.unseen;
      deep = w.deep;
      then = w.then;
      awaits = awaits_kept ts ts' kept x.frame w.then w.awaits;
      left = left_kept q _ w.left;
    }

    pub chain_kept : (final : Ask) (xs : List Pending) (p : Ask) → Chain ts T final xs p → Chain ts' T' final xs p
    chain_kept final [] p c = c
    chain_kept final (x ∷ xs) p c = (c.0, pends_kept (length xs) x c.0 p c.1, chain_kept final xs c.0 c.2)
